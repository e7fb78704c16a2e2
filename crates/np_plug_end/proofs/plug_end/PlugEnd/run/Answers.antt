use Rattle.np_plug_end.proofs.CoreRuns.{finished-ended}
use Rattle.np_plug_end.proofs.plug_end.PlugEnd.run.Goals as goal

pub invariant_of-self : goal.invariant_of-self
invariant_of-self c = finished-ended c.run.new.self c.in-Ok.state c.in-Ok.ensures.rests
