use Rattle.std.proofs.Common.{◌≡◌, ◌++◌, codes, take}
use Rattle.std.specs.List.{flat_map}
use Rattle.np_journal.specs.Line.{spaced_key}
use Rattle.np_journal.proofs.printing.push_keys.Given as goal

abbrev pub invariant-loop-key : goal.invariant-loop-key
invariant-loop-key l = l.out.items ≡ l.fn.out.items ++ (codes "ids" ++ flat_map spaced_key (take l.key-index l.keys))
