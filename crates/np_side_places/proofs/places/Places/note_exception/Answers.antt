use Rattle.std.proofs.Common.{arith, ◌-◌, Some, Option, List, ℕ, ap, ◌∙◌, reverse}
use Rattle.std.proofs.Math.ListN.{set}
use Rattle.np_machine.specs.declared.frame.Frame.{Frame}
use Rattle.np_machine.specs.declared.frame.Progress.{Progress}
use Rattle.np_side_places.proofs.Steps.{made, progress-put}
use Rattle.np_side_places.proofs.places.Places.note_exception.Goals as goal

pub returns-then-frames-gt0 : goal.returns-then-frames-gt0
returns-then-frames-gt0 c =
    let e : Frame = c.index_mut-frame.result.now in
    let i = c.len-frames.result - 1 in
    let xs = c.self.inside.frames.items in
    record { state = ap (λ (o : Option (List ℕ)). made c.self.inside.registers c.self.inside.instances.items (reverse (set xs i (record e { progress = record e.progress { exception = o } }))) (reverse c.self.inside.in_flight.items)) c.note.ensures ∙ progress-put c.args.self.now c.self.inside.registers c.self.inside.instances.items xs _ i c.len-frames.result (λ (s : Progress). record s { exception = Some c.args.text }) e c.self.view_is (omega arith) (omega arith) c.index_mut-frame.ensures.value }
