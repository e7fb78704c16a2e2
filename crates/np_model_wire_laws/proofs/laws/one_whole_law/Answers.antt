use Rattle.np_model_wire_laws.proofs.Texts.{one-whole}
use Rattle.np_model_wire_laws.proofs.laws.one_whole_law.Goals as goal

pub returns : goal.returns
returns c = record { law = one-whole (record { again = c.encoded_is_read_again.ensures.law; apart = c.no_encoding_begins_another.ensures.law }) }
