-- What was taken off fields, and which fields give what is taken.
use Rattle.std.proofs.Common.{◌≡◌, ℕ, zero, suc, ◌<◌, List, [], ◌∷◌, true, ◌&&◌, Option, Some, None, refl, ap, sym, ◌∙◌, arith}
use Rattle.std.specs.List.{flat_map}
use Rattle.std.proofs.lemmas.Bool.Decides.{nat_tests}
use Rattle.std.proofs.lemmas.Bool.{and_parts}
use Rattle.np_values.specs.declared.range.Range.{Range}
use Rattle.np_values.specs.declared.reason.NpReason.{NpReason}
use Rattle.np_values.specs.declared.reason.NpReason.TheVariants.{Done, NetworkErr, UserBreak}
use Rattle.np_values.specs.NpReason.{reason_code, reason_of}
use Rattle.np_script_grammar.specs.declared.action.Operand.{Operand}
use Rattle.np_script_grammar.specs.declared.line.Item.TheVariants as items
use Rattle.np_script_grammar.specs.declared.line.Field.{Field}
use Rattle.np_script_grammar.specs.declared.line.Field.TheVariants.{Operand as OfOperand, Integer, Number, Text}
use Rattle.np_script_grammar.specs.Fields.{is_of}
use Rattle.np_script_grammar.specs.Forms.{Line, are_of, repeated}
use Rattle.np_script_grammar.specs.Rows.{values, texts, range_fields}
use Rattle.np_script_grammar.specs.Takes.{◌>>=◌, operand_in, text_in, all_of, all_ranges}

-- a row made nothing of other fields than those of its lines
abbrev pub RowWas : {A : Type 0} → (A → Line) → List ℕ × (List Field → Option A) → Type 0
RowWas {A} line row = (fields : List Field) (said : A) → row.1 fields ≡ Some said → line said ≡ (row.0, fields)

-- a row makes something of the fields
abbrev pub IsSaid : {A : Type 0} → (List Field → Option A) → List Field → Type 0
IsSaid {A} row fields = (said : A) × (row fields ≡ Some said)

pub bound : {A B : Type 0} (o : Option A) (k : A → Option B) (b : B) → (o >>= k) ≡ Some b → (a : A) × (o ≡ Some a) × (k a ≡ Some b)
bound None k b e = absurd cc
bound (Some a) k b e = (a, refl, e)

listed : {A : Type 0} (a b : List A) → Some a ≡ Some b → a ≡ b
listed a b e = cc

-- ---- all fields

pub operands_were : (fields : List Field) (all : List Operand) → all_of operand_in fields ≡ Some all → values all ≡ fields
operands_were [] all e = ap values (sym (listed [] all e))
operands_were (OfOperand v ∷ fields) all e =
    let found = bound (all_of operand_in fields) (λ others. Some (v ∷ others)) all e in
    ap values (sym (listed (v ∷ found.0) all found.2)) ∙ ap (λ (l : List Field). OfOperand v ∷ l) (operands_were fields found.0 found.1)
operands_were (field ∷ fields) all e = absurd cc

pub texts_were : (fields : List Field) (all : List (List ℕ)) → all_of text_in fields ≡ Some all → texts all ≡ fields
texts_were [] all e = ap texts (sym (listed [] all e))
texts_were (Text t ∷ fields) all e =
    let found = bound (all_of text_in fields) (λ others. Some (t ∷ others)) all e in
    ap texts (sym (listed (t ∷ found.0) all found.2)) ∙ ap (λ (l : List Field). Text t ∷ l) (texts_were fields found.0 found.1)
texts_were (field ∷ fields) all e = absurd cc

pub ranges_were : (fields : List Field) (all : List Range) → all_ranges fields ≡ Some all → flat_map range_fields all ≡ fields
ranges_were [] all e = ap (flat_map range_fields) (sym (listed [] all e))
ranges_were (field ∷ []) all e = absurd cc
ranges_were (Integer z ∷ Number n ∷ fields) all e =
    let found = bound (all_ranges fields) (λ others. Some (record { offset = z; length = n } ∷ others)) all e in
    ap (flat_map range_fields) (sym (listed (record { offset = z; length = n } ∷ found.0) all found.2)) ∙ ap (λ (l : List Field). Integer z ∷ Number n ∷ l) (ranges_were fields found.0 found.1)
ranges_were (first ∷ second ∷ fields) all e = absurd cc

pub reason_was : (n : ℕ) (reason : NpReason) → reason_of n ≡ Some reason → reason_code reason ≡ n
reason_was n Done e = grind (arith, nat_tests)
reason_was n NetworkErr e = grind (arith, nat_tests)
reason_was n UserBreak e = grind (arith, nat_tests)

pub reason_says : (n : ℕ) → n < 3 → (reason : NpReason) × (reason_of n ≡ Some reason)
reason_says zero e = (Done, refl)
reason_says (suc zero) e = (NetworkErr, refl)
reason_says (suc (suc zero)) e = (UserBreak, refl)
reason_says (suc (suc (suc n))) e = absurd (omega arith)

-- ---- groups

pub operands_say : (n : ℕ) (fields : List Field) → are_of (repeated n (items.Operand ∷ [])) fields ≡ true → (all : List Operand) × (all_of operand_in fields ≡ Some all)
operands_say zero [] e = ([], refl)
operands_say zero (field ∷ fields) e = absurd cc
operands_say (suc n) [] e = absurd cc
operands_say (suc n) (OfOperand v ∷ fields) e =
    let tail : are_of (repeated n (items.Operand ∷ [])) fields ≡ true = (and_parts (is_of items.Operand (OfOperand v)) (are_of (repeated n (items.Operand ∷ [])) fields) e).1 in
    let others = operands_say n fields tail in
    (v ∷ others.0, rw others.1 refl)
operands_say (suc n) (field ∷ fields) e = absurd cc

pub texts_say : (n : ℕ) (fields : List Field) → are_of (repeated n (items.Text ∷ items.Text ∷ [])) fields ≡ true → (all : List (List ℕ)) × (all_of text_in fields ≡ Some all)
texts_say zero [] e = ([], refl)
texts_say zero (field ∷ fields) e = absurd cc
texts_say (suc n) [] e = absurd cc
texts_say (suc n) (Text t ∷ []) e = absurd (grind (arith, and_parts))
texts_say (suc n) (Text t ∷ Text u ∷ fields) e =
    let behind : (is_of items.Text (Text u) && are_of (repeated n (items.Text ∷ items.Text ∷ [])) fields) ≡ true = (and_parts (is_of items.Text (Text t)) (is_of items.Text (Text u) && are_of (repeated n (items.Text ∷ items.Text ∷ [])) fields) e).1 in
    let tail : are_of (repeated n (items.Text ∷ items.Text ∷ [])) fields ≡ true = (and_parts (is_of items.Text (Text u)) (are_of (repeated n (items.Text ∷ items.Text ∷ [])) fields) behind).1 in
    let others = texts_say n fields tail in
    (t ∷ u ∷ others.0, rw others.1 refl)
texts_say (suc n) (Text t ∷ field ∷ fields) e = absurd (grind (arith, and_parts))
texts_say (suc n) (field ∷ fields) e = absurd cc

pub ranges_say : (n : ℕ) (fields : List Field) → are_of (repeated n (items.Integer ∷ items.Number 0 4294967295 ∷ [])) fields ≡ true → (all : List Range) × (all_ranges fields ≡ Some all)
ranges_say zero [] e = ([], refl)
ranges_say zero (field ∷ fields) e = absurd cc
ranges_say (suc n) [] e = absurd cc
ranges_say (suc n) (Integer z ∷ []) e = absurd (grind (arith, and_parts))
ranges_say (suc n) (Integer z ∷ Number m ∷ fields) e =
    let behind : (is_of (items.Number 0 4294967295) (Number m) && are_of (repeated n (items.Integer ∷ items.Number 0 4294967295 ∷ [])) fields) ≡ true = (and_parts (is_of items.Integer (Integer z)) (is_of (items.Number 0 4294967295) (Number m) && are_of (repeated n (items.Integer ∷ items.Number 0 4294967295 ∷ [])) fields) e).1 in
    let tail : are_of (repeated n (items.Integer ∷ items.Number 0 4294967295 ∷ [])) fields ≡ true = (and_parts (is_of (items.Number 0 4294967295) (Number m)) (are_of (repeated n (items.Integer ∷ items.Number 0 4294967295 ∷ [])) fields) behind).1 in
    let others = ranges_say n fields tail in
    (record { offset = z; length = m } ∷ others.0, rw others.1 refl)
ranges_say (suc n) (Integer z ∷ field ∷ fields) e = absurd (grind (arith, and_parts))
ranges_say (suc n) (field ∷ fields) e = absurd cc

-- ---- the fields of values are read as these

pub operands_are_read : (all : List Operand) → all_of operand_in (values all) ≡ Some all
operands_are_read [] = refl
operands_are_read (v ∷ all) = rw (operands_are_read all) refl

pub texts_are_read : (all : List (List ℕ)) → all_of text_in (texts all) ≡ Some all
texts_are_read [] = refl
texts_are_read (t ∷ all) = rw (texts_are_read all) refl

pub ranges_are_read : (all : List Range) → all_ranges (flat_map range_fields all) ≡ Some all
ranges_are_read [] = refl
ranges_are_read (range ∷ all) = rw (ranges_are_read all) refl

pub reason_is_read : (reason : NpReason) → reason_of (reason_code reason) ≡ Some reason
reason_is_read Done = refl
reason_is_read NetworkErr = refl
reason_is_read UserBreak = refl
