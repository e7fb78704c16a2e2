use Rattle.np_model_wire_laws.proofs.CallBytes.{page-few-bytes}
use Rattle.np_model_wire_laws.proofs.plugin_laws.page_few_bytes_law.Goals as goal

pub returns : goal.returns
returns c = record { law = page-few-bytes c.calls_law.ensures.law c.no_attributes_law.ensures.law c.rounds_law.ensures.law c.endpoint_law.ensures.law c.few_calls_law.ensures.law }
