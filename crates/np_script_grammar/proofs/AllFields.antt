-- All fields of a line are taken, one after another.
use Rattle.std.proofs.Common.{◌≡◌, ℕ, ℤ, ◌<◌, List, [], ◌∷◌, ◌++◌, length, Option, Some, None, refl, ap, sym, subst, arith, append_assoc}
use Rattle.np_values.specs.declared.range.Range.{Range}
use Rattle.np_script_grammar.specs.declared.line.Field.{Field}
use Rattle.np_script_grammar.specs.Takes.{◌>>=◌, with_rest, take, all_of, all_ranges, integer_in, number_in}

-- what was taken before, and what is taken of the rest
abbrev pub with_front : {A : Type 0} → List A → Option (List A) → Option (List A)
with_front front None = None
with_front front (Some rest) = Some (front ++ rest)

pub front_moves : {A : Type 0} (front : List A) (x : A) (rest : Option (List A)) → with_front (front ++ x ∷ []) rest ≡ with_front front (rest >>= (λ others. Some (x ∷ others)))
front_moves front x None = refl
front_moves front x (Some rest) = ap Some (append_assoc front (x ∷ []) rest)

pub none_in_front : {A : Type 0} (front : List A) (rest : Option (List A)) → rest ≡ None → with_front front rest ≡ None
none_in_front front None e = refl
none_in_front front (Some rest) e = absurd cc

-- ---- one of the fields at a time

same : {A : Type 0} (r t : A × List Field) → Some r ≡ Some t → r ≡ t
same r t e = cc

held : {A : Type 0} (h : Option A) (fields : List Field) (x : A) (new : List Field) → with_rest h fields ≡ Some (x, new) → (h ≡ Some x) × (fields ≡ new)
held None fields x new e = absurd cc
held {A} (Some y) fields x new e =
    let pairs : (y, fields) ≡ (x, new) = same (y, fields) (x, new) e in
    (ap (λ (t : A × List Field). Some t.0) pairs, ap (λ (t : A × List Field). t.1) pairs)

not_held : {A : Type 0} (h : Option A) (fields : List Field) → with_rest h fields ≡ None → h ≡ None
not_held None fields e = refl
not_held (Some y) fields e = absurd cc

pub one_taken : {A : Type 0} (holds : Field → Option A) (front : List A) (x : A) (old new : List Field) → take holds old ≡ Some (x, new)
    → with_front front (all_of holds old) ≡ with_front (front ++ x ∷ []) (all_of holds new)
one_taken holds front x [] new e = absurd cc
one_taken holds front x (field ∷ fields) new e =
    let parts = held (holds field) fields x new e in
    rw (parts.0, parts.1) (sym (front_moves front x (all_of holds new)))

pub one_missing : {A : Type 0} (holds : Field → Option A) (front : List A) (old : List Field) → 0 < length old → take holds old ≡ None → with_front front (all_of holds old) ≡ None
one_missing holds front [] some e = absurd (omega arith)
one_missing holds front (field ∷ fields) some e = rw (not_held (holds field) fields e) refl

-- ---- two of the fields at a time

pub range_taken : (front : List Range) (offset : ℤ) (count : ℕ) (old between new : List Field) → take integer_in old ≡ Some (offset, between) → take number_in between ≡ Some (count, new)
    → with_front front (all_ranges old) ≡ with_front (front ++ record { offset = offset; length = count } ∷ []) (all_ranges new)
range_taken front offset count [] between new e f = absurd cc
range_taken front offset count (first ∷ []) between new e f =
    let parts = held (integer_in first) [] offset between e in
    let none : take number_in [] ≡ Some (count, new) = subst (λ (l : List Field). take number_in l ≡ Some (count, new)) (sym parts.1) f in
    absurd cc
range_taken front offset count (first ∷ second ∷ fields) between new e f =
    let parts = held (integer_in first) (second ∷ fields) offset between e in
    let behind : take number_in (second ∷ fields) ≡ Some (count, new) = subst (λ (l : List Field). take number_in l ≡ Some (count, new)) (sym parts.1) f in
    let more = held (number_in second) fields count new behind in
    rw (parts.0, more.0, more.1) (sym (front_moves front (record { offset = offset; length = count }) (all_ranges new)))

pub offset_missing : (front : List Range) (old : List Field) → 0 < length old → take integer_in old ≡ None → with_front front (all_ranges old) ≡ None
offset_missing front [] some e = absurd (omega arith)
offset_missing front (first ∷ []) some e = refl
offset_missing front (first ∷ second ∷ fields) some e = rw (not_held (integer_in first) (second ∷ fields) e) refl

pub length_missing : (front : List Range) (offset : ℤ) (old between : List Field) → take integer_in old ≡ Some (offset, between) → take number_in between ≡ None → with_front front (all_ranges old) ≡ None
length_missing front offset [] between e f = absurd cc
length_missing front offset (first ∷ []) between e f = refl
length_missing front offset (first ∷ second ∷ fields) between e f =
    let parts = held (integer_in first) (second ∷ fields) offset between e in
    let behind : take number_in (second ∷ fields) ≡ None = subst (λ (l : List Field). take number_in l ≡ None) (sym parts.1) f in
    rw (parts.0, not_held (number_in second) fields behind) refl
