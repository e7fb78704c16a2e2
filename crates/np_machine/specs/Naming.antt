-- The names of a side's objects: they rise, and none is used again. (This project's own.)
use Rattle.std.specs.Prelude.{◌≡◌, ◌≤◌, List, [], ◌∷◌, Bool, true, Option, Some, None}
use Rattle.np_values.specs.declared.name.Side.{Side}
use Rattle.np_values.specs.declared.name.Name.{Name}
use Rattle.np_values.specs.Name.{is_same_side, is_before}
use Rattle.np_message.specs.Rules.{Each}
use Rattle.np_machine.specs.declared.instance.Instance.{Instance}
use Rattle.np_machine.specs.declared.object.Object.{Object}
use Rattle.np_machine.specs.Instances.{serial_in}
use Rattle.np_machine.specs.Side.{SideState}

-- the names of these objects
abbrev pub object_names : List Object → List Name
object_names [] = []
object_names (o ∷ os) = o.name ∷ object_names os

-- the name comes after the one before it, where there is one
abbrev pub is_after : Option Name → Name → Bool
is_after None y = true
is_after (Some x) y = is_before x y

-- each name comes after the one before it
abbrev pub AreOrderedFrom : Option Name → List Name → Type 0
AreOrderedFrom before [] = Unit {0}
AreOrderedFrom before (y ∷ ys) = (is_after before y ≡ true) × AreOrderedFrom (Some y) ys

-- the names rise, so that each is there once
abbrev pub AreOrdered : List Name → Type 0
AreOrdered names = AreOrderedFrom None names

-- the name is of this side, and its serial is no more than the last one of its instance
pub record IsGiven (side : Side) (instances : List Instance) (y : Name) : Type 0 where
  pub own : is_same_side y.side side ≡ true
  pub serial : y.serial ≤ serial_in y.instance instances

-- The objects of a side are its own, in rising order. A new object's serial is one more than the last of its instance, so no name comes twice.
pub record KeepsNames {C : Type 0} (p : SideState C) : Type 0 where
  pub ordered : AreOrdered (object_names p.objects)
  pub given : Each (λ y. IsGiven p.side p.instances y) (object_names p.objects)
