use Rattle.std.proofs.Common.{◌≡◌, length}
use Rattle.np_script_grammar.specs.Takes.{all_ranges}
use Rattle.np_script_grammar.proofs.AllFields.{with_front}
use Rattle.np_script_grammar.proofs.fields.Fields.ranges.Given as goal

abbrev pub invariant-loop-self : goal.invariant-loop-self
invariant-loop-self l = with_front l.ranges (all_ranges l.self) ≡ all_ranges l.fn.self

abbrev pub decreases-loop-self : goal.decreases-loop-self
decreases-loop-self l = length l.self
