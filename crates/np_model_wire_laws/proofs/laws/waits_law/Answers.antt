use Rattle.np_model_wire_laws.proofs.Texts.{waits}
use Rattle.np_model_wire_laws.proofs.laws.waits_law.Goals as goal

pub returns : goal.returns
returns c = record { law = waits (record { again = c.encoded_is_read_again.ensures.law; apart = c.no_encoding_begins_another.ensures.law }) c.partial_is_cut_short.ensures.exact c.replies_law.ensures.law c.cut_law.ensures.law }
