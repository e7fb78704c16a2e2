use Rattle.np_model_wire_laws.proofs.Streams.{Wire, Waiting}
use Rattle.np_model_wire_laws.proofs.Unrefused.{unrefused}
use Rattle.np_model_wire_laws.proofs.laws.rests_unrefused_law.Goals as goal

pub returns : goal.returns
returns c =
    let w : Wire = record { again = c.encoded_is_read_again.ensures.law; apart = c.no_encoding_begins_another.ensures.law } in
    let v : Waiting = record { exact = c.partial_is_cut_short.ensures.exact; beginning = c.partial_is_cut_short.ensures.beginning } in
    record { page = unrefused w v c.more_messages_law.ensures.law; plugin = unrefused w v c.plugin_more_messages_law.ensures.law }
