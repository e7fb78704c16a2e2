use Rattle.np_show.proofs.Shown.{shows-messages}
use Rattle.np_show.proofs.laws.messages_are_shown.Goals as goal

pub returns : goal.returns
returns c = record { law = shows-messages c.encoded_is_read_again.ensures.law c.partial_is_cut_short.ensures.exact }
