use Rattle.np_model_wire_laws.proofs.PluginTexts.{plugin-waits}
use Rattle.np_model_wire_laws.proofs.plugin_laws.plugin_waits_law.Goals as goal

pub returns : goal.returns
returns c = record { law = plugin-waits (record { again = c.encoded_is_read_again.ensures.law; apart = c.no_encoding_begins_another.ensures.law }) c.partial_is_cut_short.ensures.exact c.calls_law.ensures.law c.plugin_cut_law.ensures.law }
