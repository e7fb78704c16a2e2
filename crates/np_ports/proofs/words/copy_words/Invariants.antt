use Rattle.std.proofs.Common.{◌≡◌, ◌++◌, map, drop}
use Rattle.std.specs.String.{string_bytes}
use Rattle.np_ports.proofs.words.copy_words.Given as goal

abbrev pub invariant-loop-word : goal.invariant-loop-word
invariant-loop-word l = map (λ w. string_bytes w) l.copy.items ++ map (λ w. string_bytes w) (drop l.word-index l.words) ≡ map (λ w. string_bytes w) l.words
