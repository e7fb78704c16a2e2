use Rattle.std.proofs.Common.{◌≡◌}
use Rattle.np_script_grammar.specs.Scripts.{copies}
use Rattle.np_script_builder.proofs.tops.content.Given as goal

abbrev pub invariant-loop-time : goal.invariant-loop-time
invariant-loop-time l = l.bytes ≡ copies l._time l.piece
