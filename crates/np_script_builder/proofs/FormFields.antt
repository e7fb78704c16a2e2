-- The fields of a form without groups.
use Rattle.std.proofs.Common.{◌≡◌, ℕ, zero, suc, List, [], ◌++◌, true, Some, ap, sym, subst, ◌∙◌, append-nil, refl}
use Rattle.np_script_grammar.specs.declared.line.Item.{Item}
use Rattle.np_script_grammar.specs.declared.line.Field.{Field}
use Rattle.np_script_grammar.specs.Forms.{Form, Table, only, form_of, repeated, are_of, HasForm, IsOf}

no_groups : (n : ℕ) → repeated n [] ≡ []
no_groups zero = refl
no_groups (suc n) = no_groups n

pub without_groups : (items : List Item) (fields : List Field) → HasForm (only items) fields → are_of items fields ≡ true
without_groups items fields h =
    ap (λ (l : List Item). are_of l fields) (sym (ap (λ (l : List Item). items ++ l) (no_groups h.groups) ∙ append-nil items)) ∙ h.each

same_form : (a b : Form) → Some a ≡ Some b → a ≡ b
same_form a b e = cc

-- the fields of a line of a table, where its form is known
pub of_only : (table : Table) (word : List ℕ) (items : List Item) (fields : List Field) → IsOf table (word, fields) → form_of table word ≡ Some (only items) → are_of items fields ≡ true
of_only table word items fields is e =
    without_groups items fields (subst (λ (f : Form). HasForm f fields) (same_form is.form (only items) (sym is.listed ∙ e)) is.of_form)
