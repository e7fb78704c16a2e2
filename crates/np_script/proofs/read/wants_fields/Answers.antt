use Rattle.std.proofs.Common.{arith}
use Rattle.std.proofs.lemmas.Bool.Decides.{nat_tests}
use Rattle.np_script_words.specs.Forms.{form_value}
use Rattle.np_script.proofs.NoFields.{of_one}
use Rattle.np_script.proofs.read.wants_fields.Goals as goal

pub returns-then-not-is_empty-clause-yes : goal.returns-then-not-is_empty-clause-yes
returns-then-not-is_empty-clause-yes c = λ e. of_one (form_value c.args.form) (λ none. absurd (grind (arith, nat_tests, none, e)))

pub returns-then-form-gt0-clause-yes : goal.returns-then-form-gt0-clause-yes
returns-then-form-gt0-clause-yes c = λ e. of_one (form_value c.args.form) (λ none. (grind (arith, nat_tests), grind (arith, nat_tests, e)))
