-- The row of the call of an object, by its operations.
use Rattle.std.proofs.Common.{◌≡◌, ℕ, ◌≤◌, Bool, true, false, cond, eqb, List, [], ◌∷◌, length, refl, sym, ap, subst, ◌∙◌, arith}
use Rattle.std.specs.List.{flat_map}
use Rattle.std.proofs.lemmas.Bool.{eqb-true}
use Rattle.std.proofs.lemmas.Bool.Decides.{nat_tests}
use Rattle.np_values.specs.declared.value.Value.{Value}
use Rattle.np_idents.specs.declared.op.Op.{Op}
use Rattle.np_idents.specs.declared.op.Op.TheVariants as ops
use Rattle.np_message.specs.declared.payload.Payload.{Payload}
use Rattle.np_message.specs.declared.payload.Payload.TheVariants.{Call}
use Rattle.np_message.specs.Encoding.{items_of, ident_item, value_item, op_code, op_items, arguments_items}
use Rattle.np_message.specs.Rules.{Each, KeepsValue, HasArguments, KeepsKind, IsTypedValue, IsTypedOp, IsTypedBody}
use Rattle.np_message.specs.Items.{ValueItem}
use Rattle.np_message.specs.Formats.{Format, Says, Then, arguments_format, key_then, op_format, call_format}
use Rattle.np_message.specs.Faults.{Encodes}
use Rattle.np_wire_laws.proofs.Lists.{first, last, on, ended, many_of, many_last}
use Rattle.np_wire_laws.proofs.Rows.{Row, row_of, bounds, within, counted_is, counted_within, number_within, each_firsts, each_seconds, each_both}

-- ---- what is encoded

-- the bytes are those of counted arguments
record HasCounted (call : List Value → Payload) (p : Payload) (bytes : List ℕ) : Type 0 where
  pub arguments : List Value
  pub payload : call arguments ≡ p
  pub parts : bytes ≡ arguments_items arguments
  pub few : length arguments ≤ 8
  pub keeps : Each KeepsValue arguments
  pub typed : Each IsTypedValue arguments

counted_of : (call : List Value → Payload) (p : Payload) (bytes : List ℕ) → Encodes (arguments_format call) p bytes → HasCounted call p bytes
counted_of call p bytes (count, r, b, h) =
    let few = (bounds 0 8 count b.is_of).1 in
    let some = many_of ValueItem count (λ arguments. let f : Format Payload = Says (call arguments) in f) p r h in
    let items = flat_map value_item some.xs in
    let behind : r ≡ items = ended items some.rest r some.parts some.encodes.1 in
    record {
      arguments = some.xs;
      payload = some.encodes.0;
      parts = on b behind ∙ ap (λ (k : ℕ). k ∷ items) (sym some.counted);
      few = omega (arith, few, some.counted);
      keeps = each_firsts KeepsValue IsTypedValue some.xs some.each;
      typed = each_seconds KeepsValue IsTypedValue some.xs some.each;
    }

-- the bytes are those of an operation with this number
record OpRow (instance serial code : ℕ) (p : Payload) (bytes : List ℕ) : Type 0 where
  pub op : Op
  pub arguments : List Value
  pub payload : Call instance serial op arguments ≡ p
  pub code_is : op_code op ≡ code
  pub parts : bytes ≡ op_items op arguments
  pub counted : HasArguments op (length arguments)
  pub keeps : Each KeepsValue arguments
  pub typed_op : IsTypedOp op
  pub typed : Each IsTypedValue arguments

invoke_row : (instance serial : ℕ) (p : Payload) (bytes : List ℕ) → Encodes (key_then (λ key. arguments_format (Call instance serial (ops.Invoke key)))) p bytes → OpRow instance serial 1 p bytes
invoke_row instance serial p bytes (key, r, b, h) =
    let some = counted_of (Call instance serial (ops.Invoke key)) p r h in
    record { op = ops.Invoke key; arguments = some.arguments; payload = some.payload; code_is = refl; parts = on b some.parts; counted = some.few; keeps = some.keeps; typed_op = b.is_of; typed = some.typed }

default_row : (instance serial : ℕ) (p : Payload) (bytes : List ℕ) → Encodes (arguments_format (Call instance serial ops.Default)) p bytes → OpRow instance serial 2 p bytes
default_row instance serial p bytes h =
    let some = counted_of (Call instance serial ops.Default) p bytes h in
    record { op = ops.Default; arguments = some.arguments; payload = some.payload; code_is = refl; parts = some.parts; counted = some.few; keeps = some.keeps; typed_op = tt; typed = some.typed }

construct_row : (instance serial : ℕ) (p : Payload) (bytes : List ℕ) → Encodes (arguments_format (Call instance serial ops.Construct)) p bytes → OpRow instance serial 3 p bytes
construct_row instance serial p bytes h =
    let some = counted_of (Call instance serial ops.Construct) p bytes h in
    record { op = ops.Construct; arguments = some.arguments; payload = some.payload; code_is = refl; parts = some.parts; counted = some.few; keeps = some.keeps; typed_op = tt; typed = some.typed }

get_row : (instance serial : ℕ) (p : Payload) (bytes : List ℕ) → Encodes (key_then (λ key. let f : Format Payload = Says (Call instance serial (ops.Get key) []) in f)) p bytes → OpRow instance serial 4 p bytes
get_row instance serial p bytes (key, r, b, (same, none)) =
    record { op = ops.Get key; arguments = []; payload = same; code_is = refl; parts = ended (ident_item key) r bytes b.parts none; counted = refl; keeps = tt; typed_op = b.is_of; typed = tt }

put_row : (instance serial : ℕ) (p : Payload) (bytes : List ℕ) → Encodes (key_then (λ key. Then ValueItem (λ value. let f : Format Payload = Says (Call instance serial (ops.Put key) (value ∷ [])) in f))) p bytes → OpRow instance serial 5 p bytes
put_row instance serial p bytes (key, r, b, (value, s, c, (same, none))) =
    record { op = ops.Put key; arguments = value ∷ []; payload = same; code_is = refl; parts = on b (on c none); counted = refl; keeps = (c.is_of.0, tt); typed_op = b.is_of; typed = (c.is_of.1, tt) }

remove_row : (instance serial : ℕ) (p : Payload) (bytes : List ℕ) → Encodes (key_then (λ key. let f : Format Payload = Says (Call instance serial (ops.Remove key) []) in f)) p bytes → OpRow instance serial 6 p bytes
remove_row instance serial p bytes (key, r, b, (same, none)) =
    record { op = ops.Remove key; arguments = []; payload = same; code_is = refl; parts = ended (ident_item key) r bytes b.parts none; counted = refl; keeps = tt; typed_op = b.is_of; typed = tt }

has_method_row : (instance serial : ℕ) (p : Payload) (bytes : List ℕ) → Encodes (key_then (λ key. let f : Format Payload = Says (Call instance serial (ops.HasMethod key) []) in f)) p bytes → OpRow instance serial 7 p bytes
has_method_row instance serial p bytes (key, r, b, (same, none)) =
    record { op = ops.HasMethod key; arguments = []; payload = same; code_is = refl; parts = ended (ident_item key) r bytes b.parts none; counted = refl; keeps = tt; typed_op = b.is_of; typed = tt }

has_property_row : (instance serial : ℕ) (p : Payload) (bytes : List ℕ) → Encodes (key_then (λ key. let f : Format Payload = Says (Call instance serial (ops.HasProperty key) []) in f)) p bytes → OpRow instance serial 8 p bytes
has_property_row instance serial p bytes (key, r, b, (same, none)) =
    record { op = ops.HasProperty key; arguments = []; payload = same; code_is = refl; parts = ended (ident_item key) r bytes b.parts none; counted = refl; keeps = tt; typed_op = b.is_of; typed = tt }

enumerate_row : (instance serial : ℕ) (p : Payload) (bytes : List ℕ) → Encodes (let f : Format Payload = Says (Call instance serial ops.Enumerate []) in f) p bytes → OpRow instance serial 9 p bytes
enumerate_row instance serial p bytes (same, none) =
    record { op = ops.Enumerate; arguments = []; payload = same; code_is = refl; parts = none; counted = refl; keeps = tt; typed_op = tt; typed = tt }

-- what is encoded by a choice, by cases on the test
by_test : (b : Bool) (f g : Format Payload) (p : Payload) (bytes : List ℕ) (goal : Type 0) → (b ≡ true → Encodes f p bytes → goal) → (b ≡ false → Encodes g p bytes → goal) → Encodes (cond b f g) p bytes → goal
by_test true f g p bytes goal taken passed h = taken refl h
by_test false f g p bytes goal taken passed h = passed refl h

-- the number that is left
is_nine : (code : ℕ) → 1 ≤ code → code ≤ 9 → eqb code 1 ≡ false → eqb code 2 ≡ false → eqb code 3 ≡ false → eqb code 4 ≡ false → eqb code 5 ≡ false → eqb code 6 ≡ false → eqb code 7 ≡ false → eqb code 8 ≡ false → code ≡ 9
is_nine code low high n1 n2 n3 n4 n5 n6 n7 n8 = grind (arith, nat_tests)

op_row : (instance serial code : ℕ) (p : Payload) (bytes : List ℕ) → 1 ≤ code → code ≤ 9 → Encodes (op_format (Call instance serial) code) p bytes → OpRow instance serial code p bytes
unfolding op_format
op_row instance serial code p bytes low high =
    let goal = OpRow instance serial code p bytes in
    let at : (n : ℕ) → code ≡ n → OpRow instance serial n p bytes → goal = λ n is h. subst (λ (k : ℕ). OpRow instance serial k p bytes) (sym is) h in
    by_test (eqb code 1) _ _ p bytes goal (λ is h. at 1 (eqb-true code 1 is) (invoke_row instance serial p bytes h))
    (λ n1. by_test (eqb code 2) _ _ p bytes goal (λ is h. at 2 (eqb-true code 2 is) (default_row instance serial p bytes h))
    (λ n2. by_test (eqb code 3) _ _ p bytes goal (λ is h. at 3 (eqb-true code 3 is) (construct_row instance serial p bytes h))
    (λ n3. by_test (eqb code 4) _ _ p bytes goal (λ is h. at 4 (eqb-true code 4 is) (get_row instance serial p bytes h))
    (λ n4. by_test (eqb code 5) _ _ p bytes goal (λ is h. at 5 (eqb-true code 5 is) (put_row instance serial p bytes h))
    (λ n5. by_test (eqb code 6) _ _ p bytes goal (λ is h. at 6 (eqb-true code 6 is) (remove_row instance serial p bytes h))
    (λ n6. by_test (eqb code 7) _ _ p bytes goal (λ is h. at 7 (eqb-true code 7 is) (has_method_row instance serial p bytes h))
    (λ n7. by_test (eqb code 8) _ _ p bytes goal (λ is h. at 8 (eqb-true code 8 is) (has_property_row instance serial p bytes h))
    (λ n8 h. at 9 (is_nine code low high n1 n2 n3 n4 n5 n6 n7 n8) (enumerate_row instance serial p bytes h)))))))))

pub call_row : (p : Payload) (bytes : List ℕ) → Encodes call_format p bytes → Row 64 bytes p
call_row p bytes (instance, r, b, (serial, s, c, (code, t, d, h))) =
    let i = counted_is instance b.is_of in
    let n = bounds 1 9 code d.is_of in
    let o = op_row instance serial code p t n.0 n.1 h in
    let items = op_items o.op o.arguments in
    row_of 64 bytes (Call instance serial o.op o.arguments) p o.payload (record {
      kind_is = refl;
      parts = on b (on c (on d o.parts ∙ ap (λ (k : ℕ). k ∷ items) (sym o.code_is)));
      keeps = (i.0, omega (arith, c.is_of.0), o.counted, o.keeps);
      typed = (i.1, c.is_of.1, o.typed_op, o.typed);
    })

-- ---- and back

counted_encodes : (call : List Value → Payload) (arguments : List Value) → length arguments ≤ 8 → Each KeepsValue arguments → Each IsTypedValue arguments → Encodes (arguments_format call) (call arguments) (arguments_items arguments)
counted_encodes call arguments few keeps typed =
    let count = within 0 8 (length arguments) (omega arith) few in
    let each = each_both KeepsValue IsTypedValue arguments keeps typed in
    (length arguments, _, first count, many_last ValueItem arguments (λ some. Says (call some)) (call arguments) each (refl, refl))

op_encodes : (instance serial : ℕ) (op : Op) (arguments : List Value) → HasArguments op (length arguments) → Each KeepsValue arguments → IsTypedOp op → Each IsTypedValue arguments → Encodes (op_format (Call instance serial) (op_code op)) (Call instance serial op arguments) (op_items op arguments)
unfolding op_format
op_encodes instance serial (ops.Invoke key) arguments few keeps typed_op typed = (key, _, first typed_op, counted_encodes (Call instance serial (ops.Invoke key)) arguments few keeps typed)
op_encodes instance serial ops.Default arguments few keeps typed_op typed = counted_encodes (Call instance serial ops.Default) arguments few keeps typed
op_encodes instance serial ops.Construct arguments few keeps typed_op typed = counted_encodes (Call instance serial ops.Construct) arguments few keeps typed
op_encodes instance serial (ops.Get key) [] few keeps typed_op typed = (key, [], last typed_op, (refl, refl))
op_encodes instance serial (ops.Get key) (x ∷ xs) few keeps typed_op typed = absurd cc
op_encodes instance serial (ops.Put key) [] few keeps typed_op typed = absurd cc
op_encodes instance serial (ops.Put key) (value ∷ []) few keeps typed_op typed = (key, _, first typed_op, (value, [], first (keeps.0, typed.0), (refl, refl)))
op_encodes instance serial (ops.Put key) (x ∷ y ∷ xs) few keeps typed_op typed = absurd cc
op_encodes instance serial (ops.Remove key) [] few keeps typed_op typed = (key, [], last typed_op, (refl, refl))
op_encodes instance serial (ops.Remove key) (x ∷ xs) few keeps typed_op typed = absurd cc
op_encodes instance serial (ops.HasMethod key) [] few keeps typed_op typed = (key, [], last typed_op, (refl, refl))
op_encodes instance serial (ops.HasMethod key) (x ∷ xs) few keeps typed_op typed = absurd cc
op_encodes instance serial (ops.HasProperty key) [] few keeps typed_op typed = (key, [], last typed_op, (refl, refl))
op_encodes instance serial (ops.HasProperty key) (x ∷ xs) few keeps typed_op typed = absurd cc
op_encodes instance serial ops.Enumerate [] few keeps typed_op typed = (refl, refl)
op_encodes instance serial ops.Enumerate (x ∷ xs) few keeps typed_op typed = absurd cc

op_within : (op : Op) → (1 ≤ op_code op) × (op_code op ≤ 9)
op_within (ops.Invoke key) = (omega arith, omega arith)
op_within ops.Default = (omega arith, omega arith)
op_within ops.Construct = (omega arith, omega arith)
op_within (ops.Get key) = (omega arith, omega arith)
op_within (ops.Put key) = (omega arith, omega arith)
op_within (ops.Remove key) = (omega arith, omega arith)
op_within (ops.HasMethod key) = (omega arith, omega arith)
op_within (ops.HasProperty key) = (omega arith, omega arith)
op_within ops.Enumerate = (omega arith, omega arith)

pub call_encodes : (instance serial : ℕ) (op : Op) (arguments : List Value) → KeepsKind (Call instance serial op arguments) → IsTypedBody (Call instance serial op arguments) → Encodes call_format (Call instance serial op arguments) (items_of (Call instance serial op arguments))
call_encodes instance serial op arguments keeps typed =
    let i = counted_within instance keeps.0 typed.0 in
    let s = number_within serial keeps.1 typed.1 in
    let c = within 1 9 (op_code op) (op_within op).0 (op_within op).1 in
    (instance, _, first i, (serial, _, first s, (op_code op, _, first c, op_encodes instance serial op arguments keeps.2 keeps.3 typed.2 typed.3)))
