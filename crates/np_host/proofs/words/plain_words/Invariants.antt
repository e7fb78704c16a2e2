use Rattle.std.proofs.Common.{◌≡◌, drop}
use Rattle.np_host.specs.Words.{texts, plain_words}
use Rattle.np_host.proofs.PlainWords.{with_front}
use Rattle.np_host.proofs.words.plain_words.Given as goal

abbrev pub invariant-loop-place : goal.invariant-loop-place
invariant-loop-place l = with_front (texts l.plain.items) (plain_words (texts (drop l.place l.words))) ≡ plain_words (texts l.words)
