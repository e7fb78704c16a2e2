use Rattle.np_model_wire_laws.proofs.Texts.{begins}
use Rattle.np_model_wire_laws.proofs.laws.begins_law.Goals as goal

pub returns : goal.returns
returns c = record { law = begins (record { again = c.encoded_is_read_again.ensures.law; apart = c.no_encoding_begins_another.ensures.law }) c.partial_is_cut_short.ensures.exact c.replies_law.ensures.law c.alone_law.ensures.law c.journal_law.ensures.law }
