use Rattle.np_model_wire_laws.proofs.Rests.{comes-to}
use Rattle.np_model_wire_laws.proofs.laws.comes_to_rest_law.Goals as goal

pub returns : goal.returns
returns c = record { law = comes-to (record { again = c.encoded_is_read_again.ensures.law; apart = c.no_encoding_begins_another.ensures.law }) (record { exact = c.partial_is_cut_short.ensures.exact; beginning = c.partial_is_cut_short.ensures.beginning }) c.replies_law.ensures.law c.more_messages_law.ensures.law c.honest_law.ensures.law c.cut_law.ensures.law }
