-- From a line of a table to the row of its word.
use Rattle.std.proofs.Common.{◌≡◌, ℕ, List, [], ◌∷◌, Bool, true, false, cond, Some, refl, sym, subst}
use Rattle.std.specs.Prelude.{bytes_eq}
use Rattle.std.specs.List.{AllByRecursion}
use Rattle.std.proofs.lemmas.Slice.Eq.{bytes_eq-Decides}
use Rattle.np_script_grammar.specs.declared.line.Field.{Field}
use Rattle.np_script_grammar.specs.Forms.{Form, Table, form_of, HasForm, IsOf}

-- what holds of all fields of a row
abbrev pub RowHas : (List ℕ → List Field → Type 0) → List ℕ × Form → Type 0
RowHas P row = (fields : List Field) → HasForm row.1 fields → P row.0 fields

same_form : (a b : Form) → Some a ≡ Some b → b ≡ a
same_form a b e = cc

in_row : (P : List ℕ → List Field → Type 0) (t : Bool) (row : List ℕ × Form) (table : Table) (word : List ℕ) (form : Form) (fields : List Field) → bytes_eq word row.0 ≡ t → RowHas P row
    → (form_of table word ≡ Some form → P word fields) → form_of (row ∷ table) word ≡ Some form → HasForm form fields → P word fields
in_row P true row table word form fields test has others e h =
    let here : Some row.1 ≡ Some form = subst (λ (t : Bool). cond t (Some row.1) (form_of table word) ≡ Some form) test e in
    subst (λ (w : List ℕ). P w fields) (sym ((bytes_eq-Decides word row.0).0 test)) (has fields (subst (λ (f : Form). HasForm f fields) (same_form row.1 form here) h))
in_row P false row table word form fields test has others e h =
    others (subst (λ (t : Bool). cond t (Some row.1) (form_of table word) ≡ Some form) test e)

by_form : (P : List ℕ → List Field → Type 0) (table : Table) → AllByRecursion (RowHas P) table → (word : List ℕ) (form : Form) (fields : List Field) → form_of table word ≡ Some form → HasForm form fields → P word fields
by_form P [] all word form fields e h = absurd cc
by_form P (row ∷ table) all word form fields e h =
    in_row P (bytes_eq word row.0) row table word form fields refl all.0 (λ f. by_form P table all.1 word form fields f h) e h

-- what holds of all rows holds of each line of the table
pub by_rows : (P : List ℕ → List Field → Type 0) (table : Table) → AllByRecursion (RowHas P) table → (word : List ℕ) (fields : List Field) → IsOf table (word, fields) → P word fields
by_rows P table all word fields is = by_form P table all word is.form fields is.listed is.of_form

-- a line of another word than the first row's is of the other rows
pub of_others : (row : List ℕ × Form) (table : Table) (word : List ℕ) (fields : List Field) → bytes_eq word row.0 ≡ false → IsOf (row ∷ table) (word, fields) → IsOf table (word, fields)
of_others row table word fields test is = record {
  form = is.form;
  listed = subst (λ (t : Bool). cond t (Some row.1) (form_of table word) ≡ Some is.form) test is.listed;
  of_form = is.of_form;
  within = is.within;
}

split : (P : List ℕ → List Field → Type 0) (t : Bool) (row : List ℕ × Form) (table : Table) (word : List ℕ) (fields : List Field) → bytes_eq word row.0 ≡ t → RowHas P row
    → (bytes_eq word row.0 ≡ false → IsOf table (word, fields) → P word fields) → IsOf (row ∷ table) (word, fields) → P word fields
split P true row table word fields test has others is =
    let here : Some row.1 ≡ Some is.form = subst (λ (t : Bool). cond t (Some row.1) (form_of table word) ≡ Some is.form) test is.listed in
    subst (λ (w : List ℕ). P w fields) (sym ((bytes_eq-Decides word row.0).0 test)) (has fields (subst (λ (f : Form). HasForm f fields) (same_form row.1 is.form here) is.of_form))
split P false row table word fields test has others is = others test (of_others row table word fields test is)

-- by the first row, or by the others
pub by_first : (P : List ℕ → List Field → Type 0) (row : List ℕ × Form) (table : Table) (word : List ℕ) (fields : List Field) → RowHas P row
    → (bytes_eq word row.0 ≡ false → IsOf table (word, fields) → P word fields) → IsOf (row ∷ table) (word, fields) → P word fields
by_first P row table word fields has others is = split P (bytes_eq word row.0) row table word fields refl has others is
