use Rattle.std.proofs.Common.{◌≡◌, ◌<◌, ◌+◌, ◌*◌, ◌≤◌, [], length}
use Rattle.np_wire_speed.specs.Work.{BeginsWithMessage, IsOneMessage}
use Rattle.np_wire_speed.proofs.work.decode.Given as goal

abbrev pub invariant-loop : goal.invariant-loop
invariant-loop l =
    (l.feed.consumed + length l.feed.left ≤ 65536 * l.counter)
    × (l.counter ≡ 0 → l.feed.left ≡ [])
    × (0 < l.counter → BeginsWithMessage l.fn.bytes)
    × (IsOneMessage l.fn.bytes → l.feed.left ≡ [])
