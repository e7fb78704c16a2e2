use Rattle.std.proofs.Common.{◌≡◌, ◌++◌, drop}
use Rattle.np_host.specs.Words.{texts}
use Rattle.np_host.proofs.words.copy_words.Given as goal

abbrev pub invariant-loop-word : goal.invariant-loop-word
invariant-loop-word l = texts l.copies.items ++ texts (drop l.word-index l.words) ≡ texts l.initial.copies.items ++ texts l.words
