use Rattle.std.proofs.Common.{◌≡◌, length}
use Rattle.np_script_grammar.specs.Takes.{all_of, text_in}
use Rattle.np_script_grammar.proofs.AllFields.{with_front}
use Rattle.np_script_grammar.proofs.fields.Fields.texts.Given as goal

abbrev pub invariant-loop-self : goal.invariant-loop-self
invariant-loop-self l = with_front l.texts (all_of text_in l.self) ≡ all_of text_in l.fn.self

abbrev pub decreases-loop-self : goal.decreases-loop-self
decreases-loop-self l = length l.self
