use Rattle.np_objects.proofs.Changes.{object-known}
use Rattle.np_objects.proofs.laws.each_object_is_known.Goals as goal

pub returns : goal.returns
returns c = record { law = object-known }
