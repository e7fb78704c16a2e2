use Rattle.np_side_planner.proofs.StoredObjectLemmas.{class-is}
use Rattle.np_side_planner.proofs.objects.class_of.Goals as goal

pub returns : goal.returns
returns c = record { value = class-is c.same_names_are_equal.ensures.law c.args.name c.args.store.now c.class_of.result c.class_of.ensures.value }
