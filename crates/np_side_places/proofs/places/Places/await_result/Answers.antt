use Rattle.std.proofs.Common.{arith, ◌-◌, Some}
use Rattle.np_machine.specs.declared.frame.Progress.{Progress}
use Rattle.np_side_places.proofs.Steps.{progress-put}
use Rattle.np_side_places.proofs.places.Places.await_result.Goals as goal

pub returns-then-frames-gt0 : goal.returns-then-frames-gt0
returns-then-frames-gt0 c =
    record { state = progress-put c.args.self.now c.self.inside.registers c.self.inside.instances.items c.self.inside.frames.items _ (c.len-frames.result - 1) c.len-frames.result (λ (s : Progress). record s { awaits = Some c.args.continuation }) c.index_mut-frame.result.now c.self.view_is (omega arith) (omega arith) c.index_mut-frame.ensures.value }
