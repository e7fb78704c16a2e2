use Rattle.std.proofs.Common.{arith}
use Rattle.np_calls.proofs.Depths.{outstanding-less}
use Rattle.np_calls.proofs.calls.Calls.answered.Goals as goal

pub invariant_of-self : goal.invariant_of-self
invariant_of-self c = (omega arith, outstanding-less c.self.inside.count c.self.inside.depths c.self.invariant.1)
