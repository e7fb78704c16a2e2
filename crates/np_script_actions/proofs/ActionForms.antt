-- Fields of the form of a row say its action.
use Rattle.std.proofs.Common.{◌≡◌, ℕ, List, [], ◌∷◌, true, ◌&&◌, refl, arith}
use Rattle.std.specs.Prelude.{nat_lt}
use Rattle.std.proofs.lemmas.Bool.Decides.{nat_tests}
use Rattle.std.proofs.lemmas.Bool.{and_parts}
use Rattle.np_script_grammar.specs.declared.action.Action.TheVariants as actions
use Rattle.np_script_grammar.specs.declared.line.Item.TheVariants as items
use Rattle.np_script_grammar.specs.declared.line.Field.{Field}
use Rattle.np_script_grammar.specs.declared.line.Field.TheVariants.{Register, Operand as OfOperand, Integer, Number, Text, Identifier}
use Rattle.np_script_grammar.specs.Fields.{is_of}
use Rattle.np_script_grammar.specs.Forms.{are_of, repeated}
use Rattle.np_script_actions.proofs.Taken.{IsSaid, operands_say, ranges_say, reason_says}
use Rattle.np_script_actions.specs.Actions.{set_of, drop_of, invoke_of, call_default_of, construct_of, get_of, put_of, remove_of, has_method_of, has_property_of, enumerate_of, note_of, add_of, fail_of, return_of, throw_of, new_of, slot_of, load_of, self_of, on_true_of, on_false_of, on_equal_of, window_of, get_url_of, request_read_of, end_stream_of, later_of, destroy_of, exit_of}

pub set_says : (fields : List Field) → are_of (items.Register ∷ items.Operand ∷ []) fields ≡ true → IsSaid set_of fields
set_says (Register r ∷ OfOperand v ∷ []) e = (actions.Set r v, refl)
set_says fields e = absurd (grind (arith, nat_tests, and_parts))

pub drop_says : (fields : List Field) → are_of (items.Register ∷ []) fields ≡ true → IsSaid drop_of fields
drop_says (Register r ∷ []) e = (actions.Drop r, refl)
drop_says fields e = absurd (grind (arith, nat_tests, and_parts))

pub invoke_says : (n : ℕ) (fields : List Field) → are_of (items.Register ∷ items.Operand ∷ items.Identifier ∷ repeated n (items.Operand ∷ [])) fields ≡ true → IsSaid invoke_of fields
invoke_says n (Register r ∷ OfOperand v ∷ Identifier k ∷ rest) e =
    let tail1 : (is_of (items.Operand) (OfOperand v) && (is_of (items.Identifier) (Identifier k) && (are_of (repeated n (items.Operand ∷ [])) rest))) ≡ true = (and_parts (is_of (items.Register) (Register r)) (is_of (items.Operand) (OfOperand v) && (is_of (items.Identifier) (Identifier k) && (are_of (repeated n (items.Operand ∷ [])) rest))) e).1 in
    let tail2 : (is_of (items.Identifier) (Identifier k) && (are_of (repeated n (items.Operand ∷ [])) rest)) ≡ true = (and_parts (is_of (items.Operand) (OfOperand v)) (is_of (items.Identifier) (Identifier k) && (are_of (repeated n (items.Operand ∷ [])) rest)) tail1).1 in
    let tail3 : (are_of (repeated n (items.Operand ∷ [])) rest) ≡ true = (and_parts (is_of (items.Identifier) (Identifier k)) (are_of (repeated n (items.Operand ∷ [])) rest) tail2).1 in
    let all = operands_say n rest tail3 in
    (actions.Invoke r v k all.0, rw all.1 refl)
invoke_says n fields e = absurd (grind (arith, nat_tests, and_parts))

pub call_default_says : (n : ℕ) (fields : List Field) → are_of (items.Register ∷ items.Operand ∷ repeated n (items.Operand ∷ [])) fields ≡ true → IsSaid call_default_of fields
call_default_says n (Register r ∷ OfOperand v ∷ rest) e =
    let tail1 : (is_of (items.Operand) (OfOperand v) && (are_of (repeated n (items.Operand ∷ [])) rest)) ≡ true = (and_parts (is_of (items.Register) (Register r)) (is_of (items.Operand) (OfOperand v) && (are_of (repeated n (items.Operand ∷ [])) rest)) e).1 in
    let tail2 : (are_of (repeated n (items.Operand ∷ [])) rest) ≡ true = (and_parts (is_of (items.Operand) (OfOperand v)) (are_of (repeated n (items.Operand ∷ [])) rest) tail1).1 in
    let all = operands_say n rest tail2 in
    (actions.CallDefault r v all.0, rw all.1 refl)
call_default_says n fields e = absurd (grind (arith, nat_tests, and_parts))

pub construct_says : (n : ℕ) (fields : List Field) → are_of (items.Register ∷ items.Operand ∷ repeated n (items.Operand ∷ [])) fields ≡ true → IsSaid construct_of fields
construct_says n (Register r ∷ OfOperand v ∷ rest) e =
    let tail1 : (is_of (items.Operand) (OfOperand v) && (are_of (repeated n (items.Operand ∷ [])) rest)) ≡ true = (and_parts (is_of (items.Register) (Register r)) (is_of (items.Operand) (OfOperand v) && (are_of (repeated n (items.Operand ∷ [])) rest)) e).1 in
    let tail2 : (are_of (repeated n (items.Operand ∷ [])) rest) ≡ true = (and_parts (is_of (items.Operand) (OfOperand v)) (are_of (repeated n (items.Operand ∷ [])) rest) tail1).1 in
    let all = operands_say n rest tail2 in
    (actions.Construct r v all.0, rw all.1 refl)
construct_says n fields e = absurd (grind (arith, nat_tests, and_parts))

pub get_says : (fields : List Field) → are_of (items.Register ∷ items.Operand ∷ items.Identifier ∷ []) fields ≡ true → IsSaid get_of fields
get_says (Register r ∷ OfOperand v ∷ Identifier k ∷ []) e = (actions.Get r v k, refl)
get_says fields e = absurd (grind (arith, nat_tests, and_parts))

pub put_says : (fields : List Field) → are_of (items.Operand ∷ items.Identifier ∷ items.Operand ∷ []) fields ≡ true → IsSaid put_of fields
put_says (OfOperand v ∷ Identifier k ∷ OfOperand w ∷ []) e = (actions.Put v k w, refl)
put_says fields e = absurd (grind (arith, nat_tests, and_parts))

pub remove_says : (fields : List Field) → are_of (items.Operand ∷ items.Identifier ∷ []) fields ≡ true → IsSaid remove_of fields
remove_says (OfOperand v ∷ Identifier k ∷ []) e = (actions.Remove v k, refl)
remove_says fields e = absurd (grind (arith, nat_tests, and_parts))

pub has_method_says : (fields : List Field) → are_of (items.Operand ∷ items.Identifier ∷ []) fields ≡ true → IsSaid has_method_of fields
has_method_says (OfOperand v ∷ Identifier k ∷ []) e = (actions.HasMethod v k, refl)
has_method_says fields e = absurd (grind (arith, nat_tests, and_parts))

pub has_property_says : (fields : List Field) → are_of (items.Operand ∷ items.Identifier ∷ []) fields ≡ true → IsSaid has_property_of fields
has_property_says (OfOperand v ∷ Identifier k ∷ []) e = (actions.HasProperty v k, refl)
has_property_says fields e = absurd (grind (arith, nat_tests, and_parts))

pub enumerate_says : (fields : List Field) → are_of (items.Register ∷ items.Operand ∷ []) fields ≡ true → IsSaid enumerate_of fields
enumerate_says (Register r ∷ OfOperand v ∷ []) e = (actions.Enumerate r v, refl)
enumerate_says fields e = absurd (grind (arith, nat_tests, and_parts))

pub note_says : (fields : List Field) → are_of (items.Operand ∷ []) fields ≡ true → IsSaid note_of fields
note_says (OfOperand v ∷ []) e = (actions.Note v, refl)
note_says fields e = absurd (grind (arith, nat_tests, and_parts))

pub add_says : (fields : List Field) → are_of (items.Register ∷ items.Operand ∷ items.Operand ∷ []) fields ≡ true → IsSaid add_of fields
add_says (Register r ∷ OfOperand v ∷ OfOperand w ∷ []) e = (actions.Add r v w, refl)
add_says fields e = absurd (grind (arith, nat_tests, and_parts))

pub fail_says : (fields : List Field) → are_of ([]) fields ≡ true → IsSaid fail_of fields
fail_says ([]) e = (actions.Fail, refl)
fail_says fields e = absurd (grind (arith, nat_tests, and_parts))

pub return_says : (fields : List Field) → are_of (items.Operand ∷ []) fields ≡ true → IsSaid return_of fields
return_says (OfOperand v ∷ []) e = (actions.Return v, refl)
return_says fields e = absurd (grind (arith, nat_tests, and_parts))

pub throw_says : (fields : List Field) → are_of (items.Text ∷ []) fields ≡ true → IsSaid throw_of fields
throw_says (Text t ∷ []) e = (actions.Throw t, refl)
throw_says fields e = absurd (grind (arith, nat_tests, and_parts))

pub new_says : (fields : List Field) → are_of (items.Register ∷ items.Text ∷ []) fields ≡ true → IsSaid new_of fields
new_says (Register r ∷ Text t ∷ []) e = (actions.New r t, refl)
new_says fields e = absurd (grind (arith, nat_tests, and_parts))

pub slot_says : (fields : List Field) → are_of (items.Number 0 7 ∷ items.Operand ∷ []) fields ≡ true → IsSaid slot_of fields
slot_says (Number n ∷ OfOperand v ∷ []) e =
    let small : nat_lt n 256 ≡ true = grind (arith, nat_tests) in
    (actions.Slot n v, rw small refl)
slot_says fields e = absurd (grind (arith, nat_tests, and_parts))

pub load_says : (fields : List Field) → are_of (items.Register ∷ items.Number 0 7 ∷ []) fields ≡ true → IsSaid load_of fields
load_says (Register r ∷ Number n ∷ []) e =
    let small : nat_lt n 256 ≡ true = grind (arith, nat_tests) in
    (actions.Load r n, rw small refl)
load_says fields e = absurd (grind (arith, nat_tests, and_parts))

pub self_says : (fields : List Field) → are_of (items.Register ∷ []) fields ≡ true → IsSaid self_of fields
self_says (Register r ∷ []) e = (actions.SelfTo r, refl)
self_says fields e = absurd (grind (arith, nat_tests, and_parts))

pub on_true_says : (fields : List Field) → are_of (items.Number 1 255 ∷ []) fields ≡ true → IsSaid on_true_of fields
on_true_says (Number n ∷ []) e =
    let small : nat_lt n 256 ≡ true = grind (arith, nat_tests) in
    (actions.OnTrue n, rw small refl)
on_true_says fields e = absurd (grind (arith, nat_tests, and_parts))

pub on_false_says : (fields : List Field) → are_of (items.Number 1 255 ∷ []) fields ≡ true → IsSaid on_false_of fields
on_false_says (Number n ∷ []) e =
    let small : nat_lt n 256 ≡ true = grind (arith, nat_tests) in
    (actions.OnFalse n, rw small refl)
on_false_says fields e = absurd (grind (arith, nat_tests, and_parts))

pub on_equal_says : (fields : List Field) → are_of (items.Operand ∷ items.Operand ∷ items.Number 1 255 ∷ []) fields ≡ true → IsSaid on_equal_of fields
on_equal_says (OfOperand v ∷ OfOperand w ∷ Number n ∷ []) e =
    let small : nat_lt n 256 ≡ true = grind (arith, nat_tests) in
    (actions.OnEq v w n, rw small refl)
on_equal_says fields e = absurd (grind (arith, nat_tests, and_parts))

pub window_says : (fields : List Field) → are_of (items.Register ∷ []) fields ≡ true → IsSaid window_of fields
window_says (Register r ∷ []) e = (actions.Window r, refl)
window_says fields e = absurd (grind (arith, nat_tests, and_parts))

pub get_url_says : (fields : List Field) → are_of (items.Register ∷ items.Operand ∷ items.Integer ∷ []) fields ≡ true → IsSaid get_url_of fields
get_url_says (Register r ∷ OfOperand v ∷ Integer z ∷ []) e = (actions.GetUrl r v z, refl)
get_url_says fields e = absurd (grind (arith, nat_tests, and_parts))

pub request_read_says : (n : ℕ) (fields : List Field) → are_of (items.Register ∷ items.Operand ∷ repeated n (items.Integer ∷ items.Number 0 4294967295 ∷ [])) fields ≡ true → IsSaid request_read_of fields
request_read_says n (Register r ∷ OfOperand v ∷ rest) e =
    let tail1 : (is_of (items.Operand) (OfOperand v) && (are_of (repeated n (items.Integer ∷ items.Number 0 4294967295 ∷ [])) rest)) ≡ true = (and_parts (is_of (items.Register) (Register r)) (is_of (items.Operand) (OfOperand v) && (are_of (repeated n (items.Integer ∷ items.Number 0 4294967295 ∷ [])) rest)) e).1 in
    let tail2 : (are_of (repeated n (items.Integer ∷ items.Number 0 4294967295 ∷ [])) rest) ≡ true = (and_parts (is_of (items.Operand) (OfOperand v)) (are_of (repeated n (items.Integer ∷ items.Number 0 4294967295 ∷ [])) rest) tail1).1 in
    let all = ranges_say n rest tail2 in
    (actions.RequestRead r v all.0, rw all.1 refl)
request_read_says n fields e = absurd (grind (arith, nat_tests, and_parts))

pub end_stream_says : (fields : List Field) → are_of (items.Register ∷ items.Operand ∷ items.Number 0 2 ∷ []) fields ≡ true → IsSaid end_stream_of fields
end_stream_says (Register r ∷ OfOperand v ∷ Number n ∷ []) e =
    let reason = reason_says n (grind (arith, nat_tests)) in
    (actions.EndStream r v reason.0, rw reason.1 refl)
end_stream_says fields e = absurd (grind (arith, nat_tests, and_parts))

pub later_says : (fields : List Field) → are_of (items.Text ∷ []) fields ≡ true → IsSaid later_of fields
later_says (Text t ∷ []) e = (actions.Later t, refl)
later_says fields e = absurd (grind (arith, nat_tests, and_parts))

pub destroy_says : (fields : List Field) → are_of (items.Register ∷ items.Number 1 255 ∷ []) fields ≡ true → IsSaid destroy_of fields
destroy_says (Register r ∷ Number n ∷ []) e =
    let small : nat_lt n 256 ≡ true = grind (arith, nat_tests) in
    (actions.Destroy r n, rw small refl)
destroy_says fields e = absurd (grind (arith, nat_tests, and_parts))

pub exit_says : (fields : List Field) → are_of (items.Number 0 63 ∷ []) fields ≡ true → IsSaid exit_of fields
exit_says (Number n ∷ []) e =
    let small : nat_lt n 256 ≡ true = grind (arith, nat_tests) in
    (actions.Exit n, rw small refl)
exit_says fields e = absurd (grind (arith, nat_tests, and_parts))
