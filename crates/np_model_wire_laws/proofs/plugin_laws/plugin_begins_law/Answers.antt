use Rattle.np_model_wire_laws.proofs.PluginTexts.{plugin-begins}
use Rattle.np_model_wire_laws.proofs.plugin_laws.plugin_begins_law.Goals as goal

pub returns : goal.returns
returns c = record { law = plugin-begins (record { again = c.encoded_is_read_again.ensures.law; apart = c.no_encoding_begins_another.ensures.law }) c.partial_is_cut_short.ensures.exact c.calls_law.ensures.law c.plugin_alone_law.ensures.law c.plugin_journal_law.ensures.law }
