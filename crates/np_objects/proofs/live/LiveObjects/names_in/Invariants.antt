use Rattle.std.proofs.Common.{◌≡◌, ◌++◌, drop}
use Rattle.np_objects.specs.LiveObjects.{names_in}
use Rattle.np_objects.proofs.live.LiveObjects.names_in.Given as goal

abbrev pub invariant-loop-object : goal.invariant-loop-object
invariant-loop-object l = l.names ++ names_in l.fn.instance (drop l.object-index l.objects) ≡ names_in l.fn.instance l.objects
