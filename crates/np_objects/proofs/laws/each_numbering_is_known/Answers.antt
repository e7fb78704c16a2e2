use Rattle.np_objects.proofs.Changes.{numbering-known}
use Rattle.np_objects.proofs.laws.each_numbering_is_known.Goals as goal

pub returns : goal.returns
returns c = record { law = numbering-known }
