use Rattle.np_model_wire_laws.proofs.PluginTexts.{plugin-never-refuses}
use Rattle.np_model_wire_laws.proofs.plugin_laws.plugin_never_refuses_law.Goals as goal

pub returns : goal.returns
returns c = record { law = plugin-never-refuses (record { again = c.encoded_is_read_again.ensures.law; apart = c.no_encoding_begins_another.ensures.law }) (record { exact = c.partial_is_cut_short.ensures.exact; beginning = c.partial_is_cut_short.ensures.beginning }) c.calls_law.ensures.law c.plugin_more_messages_law.ensures.law c.honest_law.ensures.law }
