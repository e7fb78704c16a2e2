-- From the table of a place to the rows, whatever the word.
use Rattle.std.proofs.Common.{◌≡◌, ℕ, zero, suc, List, [], ◌∷◌, ◌++◌, Bool, true, false, cond, Option, Some, refl, ap, sym, subst, ◌∙◌, append-nil}
use Rattle.std.specs.Prelude.{bytes_eq}
use Rattle.std.specs.List.{AllByRecursion}
use Rattle.std.proofs.lemmas.Slice.Eq.{bytes_eq-Decides}
use Rattle.np_script_grammar.specs.declared.line.Item.{Item}
use Rattle.np_script_grammar.specs.declared.line.Field.{Field}
use Rattle.np_script_grammar.specs.Forms.{Form, Table, Line, only, form_of, repeated, are_of, HasForm, IsOf}
use Rattle.np_script_actions.specs.SaidBy.{Rows, said_by}
use Rattle.np_script_actions.proofs.Taken.{RowWas, IsSaid}

pub bytes_same : (a b : List ℕ) → bytes_eq a b ≡ true → a ≡ b
bytes_same a b e = (bytes_eq-Decides a b).0 e

-- ---- what was said by some row

by_row : {A : Type 0} (line : A → Line) (t : Bool) (row : List ℕ × (List Field → Option A)) (rows : Rows A) (word : List ℕ) (fields : List Field) (said : A) → bytes_eq word row.0 ≡ t
    → RowWas line row → ((said_by rows word fields ≡ Some said) → line said ≡ (word, fields)) → said_by (row ∷ rows) word fields ≡ Some said → line said ≡ (word, fields)
by_row line true row rows word fields said test was others e =
    let here : row.1 fields ≡ Some said = subst (λ (t : Bool). cond t (row.1 fields) (said_by rows word fields) ≡ Some said) test e in
    was fields said here ∙ ap (λ (w : List ℕ). (w, fields)) (sym (bytes_same word row.0 test))
by_row line false row rows word fields said test was others e =
    others (subst (λ (t : Bool). cond t (row.1 fields) (said_by rows word fields) ≡ Some said) test e)

pub said_was : {A : Type 0} (line : A → Line) (rows : Rows A) → AllByRecursion (RowWas line) rows → (word : List ℕ) (fields : List Field) (said : A) → said_by rows word fields ≡ Some said → line said ≡ (word, fields)
said_was line [] all word fields said e = absurd cc
said_was line (row ∷ rows) all word fields said e = by_row line (bytes_eq word row.0) row rows word fields said refl all.0 (said_was line rows all.1 word fields said) e

-- ---- what fields of a form say

no_groups : (n : ℕ) → repeated n [] ≡ []
no_groups zero = refl
no_groups (suc n) = no_groups n

pub without_groups : (items : List Item) (fields : List Field) → HasForm (only items) fields → are_of items fields ≡ true
without_groups items fields h =
    ap (λ (l : List Item). are_of l fields) (sym (ap (λ (l : List Item). items ++ l) (no_groups h.groups) ∙ append-nil items)) ∙ h.each

-- the row of a table makes something of fields of its form
abbrev pub FormSays : {A : Type 0} → Rows A → List ℕ × Form → Type 0
FormSays rows row = (fields : List Field) → HasForm row.1 fields → IsSaid (said_by rows row.0) fields

same_form : (a b : Form) → Some a ≡ Some b → a ≡ b
same_form a b e = cc

in_row : {A : Type 0} (rows : Rows A) (t : Bool) (row : List ℕ × Form) (table : Table) (word : List ℕ) (form : Form) → bytes_eq word row.0 ≡ t → FormSays rows row
    → (form_of table word ≡ Some form → FormSays rows (word, form)) → form_of (row ∷ table) word ≡ Some form → FormSays rows (word, form)
in_row {A = A} rows true row table word form test says others e =
    let here : Some row.1 ≡ Some form = subst (λ (t : Bool). cond t (Some row.1) (form_of table word) ≡ Some form) test e in
    subst (λ (w : List ℕ). FormSays {A = A} rows (w, form)) (sym (bytes_same word row.0 test)) (subst (λ (f : Form). FormSays {A = A} rows (row.0, f)) (same_form row.1 form here) says)
in_row rows false row table word form test says others e =
    others (subst (λ (t : Bool). cond t (Some row.1) (form_of table word) ≡ Some form) test e)

pub form_says : {A : Type 0} (rows : Rows A) (table : Table) → AllByRecursion (FormSays rows) table → (word : List ℕ) (form : Form) → form_of table word ≡ Some form → FormSays rows (word, form)
form_says rows [] all word form e = absurd cc
form_says rows (row ∷ table) all word form e = in_row rows (bytes_eq word row.0) row table word form refl all.0 (form_says rows table all.1 word form) e

-- the fields of a line of a table, where its form is known
pub of_only : (table : Table) (word : List ℕ) (items : List Item) (fields : List Field) → IsOf table (word, fields) → form_of table word ≡ Some (only items) → are_of items fields ≡ true
of_only table word items fields is e =
    without_groups items fields (subst (λ (f : Form). HasForm f fields) (same_form is.form (only items) (sym is.listed ∙ e)) is.of_form)
