use Rattle.std.proofs.Common.{◌≡◌, ◌+◌, length}
use Rattle.np_show.specs.Taking.{TakesLines}
use Rattle.np_show.proofs.lines.take_lines.Given as goal

abbrev pub invariant-loop-message : goal.invariant-loop-message
invariant-loop-message l = record {
  takes : TakesLines l.initial.feed l.feed l.initial.lines.items l.lines.items;
  total : l.feed.consumed + length l.feed.left ≡ l.initial.feed.consumed + length l.initial.feed.left;
}

abbrev pub decreases-loop-message : goal.decreases-loop-message
decreases-loop-message l = length l.feed.left
