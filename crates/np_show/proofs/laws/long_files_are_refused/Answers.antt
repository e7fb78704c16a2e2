use Rattle.np_show.proofs.Shown.{shows-too-long}
use Rattle.np_show.proofs.laws.long_files_are_refused.Goals as goal

pub returns : goal.returns
returns c = record { law = shows-too-long c.encoded_is_read_again.ensures.law c.partial_is_cut_short.ensures.exact }
