use Rattle.std.proofs.Common.{◌≡◌, take}
use Rattle.np_machine_plans.specs.Classes.{keys_of}
use Rattle.np_side_places.specs.StoredObjects.{properties_of_fields}
use Rattle.np_side_planner.proofs.objects.property_keys.Given as goal

abbrev pub invariant-loop-place : goal.invariant-loop-place
invariant-loop-place l = l.keys ≡ keys_of (properties_of_fields (take l.place l.fields))
