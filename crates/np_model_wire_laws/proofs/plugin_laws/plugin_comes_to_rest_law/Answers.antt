use Rattle.np_model_wire_laws.proofs.PluginRests.{plugin-comes-to}
use Rattle.np_model_wire_laws.proofs.plugin_laws.plugin_comes_to_rest_law.Goals as goal

pub returns : goal.returns
returns c = record { law = plugin-comes-to (record { again = c.encoded_is_read_again.ensures.law; apart = c.no_encoding_begins_another.ensures.law }) (record { exact = c.partial_is_cut_short.ensures.exact; beginning = c.partial_is_cut_short.ensures.beginning }) c.calls_law.ensures.law c.plugin_more_messages_law.ensures.law c.honest_law.ensures.law c.plugin_cut_law.ensures.law }
