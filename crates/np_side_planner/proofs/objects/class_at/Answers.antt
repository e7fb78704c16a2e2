use Rattle.std.proofs.Common.{◌∙◌, sym, ap, Some}
use Rattle.np_side_planner.proofs.StoredObjectLemmas.{class-past, class-get}
use Rattle.np_side_planner.proofs.objects.class_at.Goals as goal

pub returns-then-classes-place : goal.returns-then-classes-place
returns-then-classes-place c = record { value = class-past c.args.place c.args.classes.now c.if-classes-place.true }

pub returns : goal.returns
returns c = record { value = class-get c.args.place c.index-classes-place.result c.args.classes.now c.if-classes-place.false ∙ ap Some (sym c.index-classes-place.is) }
