use Rattle.std.proofs.Common.{◌≡◌, ◌++◌, ◌∷◌, map, drop}
use Rattle.std.specs.String.{string_bytes}
use Rattle.std.specs.Process.{command_program, command_args}
use Rattle.np_ports.proofs.child_peer.command_of.Given as goal

abbrev pub invariant-loop-word : goal.invariant-loop-word
invariant-loop-word l = command_program l.command ∷ command_args l.command ++ map (λ w. string_bytes w) (drop l.word-index l.arguments) ≡ map (λ w. string_bytes w) l.words
