use Rattle.np_model_wire_laws.proofs.FewBytes.{few-bytes}
use Rattle.np_model_wire_laws.proofs.laws.few_bytes_law.Goals as goal

pub returns : goal.returns
returns c = record { law = few-bytes c.replies_law.ensures.law c.rounds_law.ensures.law c.endpoint_law.ensures.law c.few_calls_law.ensures.law }
