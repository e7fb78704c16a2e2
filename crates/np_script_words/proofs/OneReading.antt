-- Words spell one list of fields of a form.
use Rattle.std.proofs.Common.{◌≡◌, ℕ, zero, suc, ◌+◌, ◌*◌, ◌<◌, List, [], ◌∷◌, ◌++◌, length, map, true, refl, ap, sym, ◌∙◌, arith, inl, inr}
use Rattle.std.specs.List.{list_all}
use Rattle.std.proofs.Math.Nat.{mul-lt-mul_of_pos_right}
use Rattle.std.proofs.lemmas.Bool.{and_parts, and_from, false≢true, cases_lt}
use Rattle.std.proofs.lemmas.List.{length-map}
use Rattle.std.proofs.lemmas.List.Folds.{list_all-append}
use Rattle.np_script_grammar.specs.declared.line.Item.{Item}
use Rattle.np_script_grammar.specs.declared.line.Field.{Field}
use Rattle.np_script_grammar.specs.Fields.{field_word, is_of}
use Rattle.np_script_grammar.specs.Forms.{Form, are_of, repeated}
use Rattle.np_script_words.specs.Laws.{is_typed, OneReading}
use Rattle.np_script_words.proofs.FieldLists.{length-are_of}
use Rattle.np_script_words.proofs.FormReading.{items_of, length_items}
use Rattle.np_script_words.proofs.FormEnds.{repeated_nothing}
use Rattle.np_script_words.proofs.OneField.{one_field_lem}

same_fields : (items : List Item) (fields others : List Field) → list_all is_typed items ≡ true → are_of items fields ≡ true → are_of items others ≡ true → map field_word fields ≡ map field_word others → fields ≡ others
same_fields [] [] [] t e f same = refl
same_fields [] (f ∷ fields) others t e h same = absurd (false≢true e)
same_fields [] [] (g ∷ others) t e h same = absurd (false≢true h)
same_fields (item ∷ items) [] others t e h same = absurd (false≢true e)
same_fields (item ∷ items) (f ∷ fields) [] t e h same = absurd (false≢true h)
same_fields (item ∷ items) (f ∷ fields) (g ∷ others) t e h same =
    let typed = and_parts (is_typed item) (list_all is_typed items) t in
    let a = and_parts (is_of item f) (are_of items fields) e in
    let b = and_parts (is_of item g) (are_of items others) h in
    let word : field_word f ≡ field_word g = cc in
    let words : map field_word fields ≡ map field_word others = cc in
    let first : f ≡ g = one_field_lem item f g typed.0 a.0 b.0 word in
    let rest : fields ≡ others = same_fields items fields others typed.1 a.1 b.1 words in
    cc (first, rest)

typed-append : (xs ys : List Item) → list_all is_typed xs ≡ true → list_all is_typed ys ≡ true → list_all is_typed (xs ++ ys) ≡ true
typed-append xs ys e f = list_all-append is_typed xs ys ∙ and_from (list_all is_typed xs) (list_all is_typed ys) e f

typed_repeated : (n : ℕ) (group : List Item) → list_all is_typed group ≡ true → list_all is_typed (repeated n group) ≡ true
typed_repeated zero group e = refl
typed_repeated (suc n) group e = typed-append group (repeated n group) e (typed_repeated n group e)

pub typed_items : (form : Form) (n : ℕ) → list_all is_typed form.items ≡ true → list_all is_typed form.group ≡ true → list_all is_typed (items_of form n) ≡ true
typed_items form n t g = typed-append form.items (repeated n form.group) t (typed_repeated n form.group g)

same_count : (m n k c : ℕ) → c + m * k ≡ c + n * k → 0 < k → m ≡ n
same_count m n k c e some = elim (cases_lt m n) [
  | inl less ↦ absurd (omega (arith, mul-lt-mul_of_pos_right less some))
  | inr le ↦ elim (cases_lt n m) [
    | inl more ↦ absurd (omega (arith, mul-lt-mul_of_pos_right more some))
    | inr ge ↦ omega arith
  ]
]

same_items : (form : Form) (m n : ℕ) → length (items_of form m) ≡ length (items_of form n) → items_of form m ≡ items_of form n
same_items form m n e = elim (cases_lt 0 (length form.group)) [
  | inl some ↦ ap (items_of form) (same_count m n (length form.group) (length form.items) (sym (length_items form m) ∙ e ∙ length_items form n) some)
  | inr none ↦ ap (λ (rest : List Item). form.items ++ rest) (repeated_nothing m n form.group (omega arith))
]

pub one_reading_lem : OneReading
one_reading_lem form fields others t g h k same =
    let lengths : length fields ≡ length others = sym (length-map fields field_word) ∙ ap length same ∙ length-map others field_word in
    let counts : length (items_of form h.groups) ≡ length (items_of form k.groups) =
    sym (length-are_of (items_of form h.groups) fields h.each) ∙ lengths ∙ length-are_of (items_of form k.groups) others k.each in
    let items : items_of form h.groups ≡ items_of form k.groups = same_items form h.groups k.groups counts in
    same_fields (items_of form h.groups) fields others (typed_items form h.groups t g) h.each
    (ap (λ (its : List Item). are_of its others) items ∙ k.each) same
