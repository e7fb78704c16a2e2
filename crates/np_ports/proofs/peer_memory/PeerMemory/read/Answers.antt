use Rattle.std.proofs.Common.{◌≡◌, ◌∙◌, ap, ℕ, List, take, drop, length, arith, length-drop, length-take}
use Rattle.std.proofs.lemmas.Grind.{common_steps}
use Rattle.std.proofs.lemmas.List.{nil_from_length}
use Rattle.np_ports.specs.Peer.{Known}
use Rattle.np_ports.proofs.Pieces.{read_is}
use Rattle.np_ports.proofs.peer_memory.PeerMemory.read.Goals as goal

pub returns-clause-known : goal.returns-clause-known
returns-clause-known c =
    let n = c.copy_front-n.result in
    let memory = c.note_read.new.self in
    let rest = drop memory.given memory.all.items in
    let listed = c.in_ok-note_read.ensures.ok in
    let left_is = ap (λ (k : Known). k.left) listed in
    let same : take n c.copy_front-n.new.buf ≡ take n rest = grind (arith, common_steps, c.copy_front-n.ensures.bytes) in (
      read_is _ _ _ _ _ _ _ _ listed same,
      same ∙ ap (λ (l : List ℕ). take n l) left_is,
      λ zero. let none : length rest ≡ 0 = omega (arith, zero, c.copy_front-n.ensures.count, length-drop {A = ℕ}, length-take {A = ℕ}) in rw (← left_is) (nil_from_length rest none),
    )
