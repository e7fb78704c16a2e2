-- Fields of the form of a row say its command.
use Rattle.std.proofs.Common.{◌≡◌, ℕ, List, [], ◌∷◌, true, ◌&&◌, refl, arith}
use Rattle.std.specs.Prelude.{nat_lt}
use Rattle.std.proofs.lemmas.Bool.Decides.{nat_tests}
use Rattle.std.proofs.lemmas.Bool.{and_parts}
use Rattle.np_script_grammar.specs.declared.command.Command.TheVariants as commands
use Rattle.np_script_grammar.specs.declared.line.Item.TheVariants as items
use Rattle.np_script_grammar.specs.declared.line.Field.{Field}
use Rattle.np_script_grammar.specs.declared.line.Field.TheVariants.{Register, Operand as OfOperand, Number, Text, Identifier, Mode}
use Rattle.np_script_grammar.specs.Fields.{is_of}
use Rattle.np_script_grammar.specs.Forms.{are_of, repeated}
use Rattle.np_script_actions.proofs.Taken.{IsSaid, operands_say, texts_say}
use Rattle.np_script_actions.specs.Commands.{set_of, drop_of, invoke_of, call_default_of, construct_of, get_of, put_of, remove_of, has_method_of, has_property_of, enumerate_of, note_of, create_of, destroy_of, scriptable_of, new_of, turn_of, open_stream_of, pump_of}

pub set_says : (fields : List Field) → are_of (items.Register ∷ items.Operand ∷ []) fields ≡ true → IsSaid set_of fields
set_says (Register r ∷ OfOperand v ∷ []) e = (commands.Set r v, refl)
set_says fields e = absurd (grind (arith, nat_tests, and_parts))

pub drop_says : (fields : List Field) → are_of (items.Register ∷ []) fields ≡ true → IsSaid drop_of fields
drop_says (Register r ∷ []) e = (commands.Drop r, refl)
drop_says fields e = absurd (grind (arith, nat_tests, and_parts))

pub invoke_says : (n : ℕ) (fields : List Field) → are_of (items.Register ∷ items.Operand ∷ items.Identifier ∷ repeated n (items.Operand ∷ [])) fields ≡ true → IsSaid invoke_of fields
invoke_says n (Register r ∷ OfOperand v ∷ Identifier k ∷ rest) e =
    let tail1 : (is_of (items.Operand) (OfOperand v) && (is_of (items.Identifier) (Identifier k) && (are_of (repeated n (items.Operand ∷ [])) rest))) ≡ true = (and_parts (is_of (items.Register) (Register r)) (is_of (items.Operand) (OfOperand v) && (is_of (items.Identifier) (Identifier k) && (are_of (repeated n (items.Operand ∷ [])) rest))) e).1 in
    let tail2 : (is_of (items.Identifier) (Identifier k) && (are_of (repeated n (items.Operand ∷ [])) rest)) ≡ true = (and_parts (is_of (items.Operand) (OfOperand v)) (is_of (items.Identifier) (Identifier k) && (are_of (repeated n (items.Operand ∷ [])) rest)) tail1).1 in
    let tail3 : (are_of (repeated n (items.Operand ∷ [])) rest) ≡ true = (and_parts (is_of (items.Identifier) (Identifier k)) (are_of (repeated n (items.Operand ∷ [])) rest) tail2).1 in
    let all = operands_say n rest tail3 in
    (commands.Invoke r v k all.0, rw all.1 refl)
invoke_says n fields e = absurd (grind (arith, nat_tests, and_parts))

pub call_default_says : (n : ℕ) (fields : List Field) → are_of (items.Register ∷ items.Operand ∷ repeated n (items.Operand ∷ [])) fields ≡ true → IsSaid call_default_of fields
call_default_says n (Register r ∷ OfOperand v ∷ rest) e =
    let tail1 : (is_of (items.Operand) (OfOperand v) && (are_of (repeated n (items.Operand ∷ [])) rest)) ≡ true = (and_parts (is_of (items.Register) (Register r)) (is_of (items.Operand) (OfOperand v) && (are_of (repeated n (items.Operand ∷ [])) rest)) e).1 in
    let tail2 : (are_of (repeated n (items.Operand ∷ [])) rest) ≡ true = (and_parts (is_of (items.Operand) (OfOperand v)) (are_of (repeated n (items.Operand ∷ [])) rest) tail1).1 in
    let all = operands_say n rest tail2 in
    (commands.CallDefault r v all.0, rw all.1 refl)
call_default_says n fields e = absurd (grind (arith, nat_tests, and_parts))

pub construct_says : (n : ℕ) (fields : List Field) → are_of (items.Register ∷ items.Operand ∷ repeated n (items.Operand ∷ [])) fields ≡ true → IsSaid construct_of fields
construct_says n (Register r ∷ OfOperand v ∷ rest) e =
    let tail1 : (is_of (items.Operand) (OfOperand v) && (are_of (repeated n (items.Operand ∷ [])) rest)) ≡ true = (and_parts (is_of (items.Register) (Register r)) (is_of (items.Operand) (OfOperand v) && (are_of (repeated n (items.Operand ∷ [])) rest)) e).1 in
    let tail2 : (are_of (repeated n (items.Operand ∷ [])) rest) ≡ true = (and_parts (is_of (items.Operand) (OfOperand v)) (are_of (repeated n (items.Operand ∷ [])) rest) tail1).1 in
    let all = operands_say n rest tail2 in
    (commands.Construct r v all.0, rw all.1 refl)
construct_says n fields e = absurd (grind (arith, nat_tests, and_parts))

pub get_says : (fields : List Field) → are_of (items.Register ∷ items.Operand ∷ items.Identifier ∷ []) fields ≡ true → IsSaid get_of fields
get_says (Register r ∷ OfOperand v ∷ Identifier k ∷ []) e = (commands.Get r v k, refl)
get_says fields e = absurd (grind (arith, nat_tests, and_parts))

pub put_says : (fields : List Field) → are_of (items.Operand ∷ items.Identifier ∷ items.Operand ∷ []) fields ≡ true → IsSaid put_of fields
put_says (OfOperand v ∷ Identifier k ∷ OfOperand w ∷ []) e = (commands.Put v k w, refl)
put_says fields e = absurd (grind (arith, nat_tests, and_parts))

pub remove_says : (fields : List Field) → are_of (items.Operand ∷ items.Identifier ∷ []) fields ≡ true → IsSaid remove_of fields
remove_says (OfOperand v ∷ Identifier k ∷ []) e = (commands.Remove v k, refl)
remove_says fields e = absurd (grind (arith, nat_tests, and_parts))

pub has_method_says : (fields : List Field) → are_of (items.Operand ∷ items.Identifier ∷ []) fields ≡ true → IsSaid has_method_of fields
has_method_says (OfOperand v ∷ Identifier k ∷ []) e = (commands.HasMethod v k, refl)
has_method_says fields e = absurd (grind (arith, nat_tests, and_parts))

pub has_property_says : (fields : List Field) → are_of (items.Operand ∷ items.Identifier ∷ []) fields ≡ true → IsSaid has_property_of fields
has_property_says (OfOperand v ∷ Identifier k ∷ []) e = (commands.HasProperty v k, refl)
has_property_says fields e = absurd (grind (arith, nat_tests, and_parts))

pub enumerate_says : (fields : List Field) → are_of (items.Register ∷ items.Operand ∷ []) fields ≡ true → IsSaid enumerate_of fields
enumerate_says (Register r ∷ OfOperand v ∷ []) e = (commands.Enumerate r v, refl)
enumerate_says fields e = absurd (grind (arith, nat_tests, and_parts))

pub note_says : (fields : List Field) → are_of (items.Operand ∷ []) fields ≡ true → IsSaid note_of fields
note_says (OfOperand v ∷ []) e = (commands.Note v, refl)
note_says fields e = absurd (grind (arith, nat_tests, and_parts))

pub create_says : (n : ℕ) (fields : List Field) → are_of (items.Text ∷ items.Mode ∷ repeated n (items.Text ∷ items.Text ∷ [])) fields ≡ true → IsSaid create_of fields
create_says n (Text t ∷ Mode m ∷ rest) e =
    let tail1 : (is_of (items.Mode) (Mode m) && (are_of (repeated n (items.Text ∷ items.Text ∷ [])) rest)) ≡ true = (and_parts (is_of (items.Text) (Text t)) (is_of (items.Mode) (Mode m) && (are_of (repeated n (items.Text ∷ items.Text ∷ [])) rest)) e).1 in
    let tail2 : (are_of (repeated n (items.Text ∷ items.Text ∷ [])) rest) ≡ true = (and_parts (is_of (items.Mode) (Mode m)) (are_of (repeated n (items.Text ∷ items.Text ∷ [])) rest) tail1).1 in
    let all = texts_say n rest tail2 in
    (commands.Create t m all.0, rw all.1 refl)
create_says n fields e = absurd (grind (arith, nat_tests, and_parts))

pub destroy_says : (fields : List Field) → are_of (items.Number 1 255 ∷ []) fields ≡ true → IsSaid destroy_of fields
destroy_says (Number n ∷ []) e =
    let small : nat_lt n 256 ≡ true = grind (arith, nat_tests) in
    (commands.Destroy n, rw small refl)
destroy_says fields e = absurd (grind (arith, nat_tests, and_parts))

pub scriptable_says : (fields : List Field) → are_of (items.Register ∷ items.Number 1 255 ∷ []) fields ≡ true → IsSaid scriptable_of fields
scriptable_says (Register r ∷ Number n ∷ []) e =
    let small : nat_lt n 256 ≡ true = grind (arith, nat_tests) in
    (commands.Scriptable r n, rw small refl)
scriptable_says fields e = absurd (grind (arith, nat_tests, and_parts))

pub new_says : (fields : List Field) → are_of (items.Register ∷ items.Number 1 255 ∷ items.Text ∷ []) fields ≡ true → IsSaid new_of fields
new_says (Register r ∷ Number n ∷ Text t ∷ []) e =
    let small : nat_lt n 256 ≡ true = grind (arith, nat_tests) in
    (commands.New r n t, rw small refl)
new_says fields e = absurd (grind (arith, nat_tests, and_parts))

pub turn_says : (fields : List Field) → are_of ([]) fields ≡ true → IsSaid turn_of fields
turn_says ([]) e = (commands.Turn, refl)
turn_says fields e = absurd (grind (arith, nat_tests, and_parts))

pub open_stream_says : (fields : List Field) → are_of (items.Number 1 255 ∷ items.Text ∷ []) fields ≡ true → IsSaid open_stream_of fields
open_stream_says (Number n ∷ Text t ∷ []) e =
    let small : nat_lt n 256 ≡ true = grind (arith, nat_tests) in
    (commands.OpenStream n t, rw small refl)
open_stream_says fields e = absurd (grind (arith, nat_tests, and_parts))

pub pump_says : (fields : List Field) → are_of (items.Number 1 100000 ∷ []) fields ≡ true → IsSaid pump_of fields
pump_says (Number n ∷ []) e = (commands.Pump n, refl)
pump_says fields e = absurd (grind (arith, nat_tests, and_parts))
