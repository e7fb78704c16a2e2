use Rattle.std.proofs.Common.{◌≡◌, ◌≤◌, length}
use Rattle.np_script_grammar.specs.Words.{words_of}
use Rattle.np_script_words.proofs.line.skip_spaces.Given as goal

abbrev pub invariant-loop-left : goal.invariant-loop-left
invariant-loop-left l = record {
  words : words_of l.left ≡ words_of l.line;
  within : length l.left ≤ length l.line;
}

abbrev pub decreases-loop-left : goal.decreases-loop-left
decreases-loop-left l = length l.left
