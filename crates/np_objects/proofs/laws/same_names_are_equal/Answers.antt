use Rattle.np_objects.proofs.Names.{same-is, same}
use Rattle.np_objects.proofs.laws.same_names_are_equal.Goals as goal

pub returns : goal.returns
returns c = record { law = λ a b. (same-is a b, same a b) }
