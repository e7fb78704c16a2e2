use Rattle.std.proofs.Common.{arith, ap, ◌-◌}
use Rattle.np_side_places.specs.Placed.{Placed}
use Rattle.np_side_places.proofs.Steps.{register-put, register-old}
use Rattle.np_side_places.proofs.places.Places.put_register.Goals as goal

pub returns-clause-state : goal.returns-clause-state
returns-clause-state c =
    register-put c.args.self.now c.self.inside.registers c.self.inside.instances.items c.self.inside.frames.items _ (c.len-count.result - 1) c.len-count.result c.args.register c.args.value c.index_mut-frame.result.now _ c.self.view_is (omega arith) (omega arith) c.index_mut-frame.ensures.value c.put_at.ensures.list

pub returns-clause-value : goal.returns-clause-value
returns-clause-value c =
    register-old c.args.self.now c.self.inside.frames.items (c.len-count.result - 1) c.len-count.result c.args.register c.args.value _ c.index_mut-frame.result.now (ap (λ (p : Placed). p.frames) c.self.view_is) (omega arith) (omega arith) c.index_mut-frame.ensures.value c.put_at.ensures.value
