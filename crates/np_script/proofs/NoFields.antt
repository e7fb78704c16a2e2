-- Lines without fields.
use Rattle.std.proofs.Common.{◌≡◌, ◌≢◌, ℕ, zero, suc, ◌<◌, ◌≤◌, List, [], ◌∷◌, ◌++◌, map, length, Bool, true, false, Some, Result, Err, refl, sym, ap, subst, ◌∙◌, arith}
use Rattle.std.specs.Prelude.{IsErrOf}
use Rattle.np_values.specs.declared.name.Side.{Side}
use Rattle.np_script_grammar.specs.declared.line.Item.{Item}
use Rattle.np_script_grammar.specs.declared.line.Field.{Field}
use Rattle.np_script_grammar.specs.Fields.{field_word}
use Rattle.np_script_grammar.specs.Forms.{Form, form_of, repeated, are_of, HasForm, KeepsLimits}
use Rattle.np_script_grammar.specs.Tables.{table_at}
use Rattle.np_script_grammar.specs.Order.{Standing, counts_after, are_few, declares_twice, MayFollow}
use Rattle.np_script_order.specs.declared.error.OrderError.{OrderError}
use Rattle.np_script_order.specs.declared.error.OrderError.TheVariants as orders
use Rattle.np_script.specs.Reading.{WordsTakeMemory}

no-groups : (n : ℕ) → repeated n [] ≡ []
no-groups zero = refl
no-groups (suc n) = no-groups n

-- no items, and no group or none that must stand
pub of_none : (form : Form) → length form.items ≡ 0 → (0 < form.least → length form.group ≡ 0) → HasForm form []
of_none form none few = go form.items form.least form.group refl refl refl none few
  where
    go : (items : List Item) (least : ℕ) (group : List Item) → form.items ≡ items → form.least ≡ least → form.group ≡ group → length items ≡ 0 → (0 < least → length group ≡ 0) → HasForm form []
    go [] zero group is least_is group_is none few = record { groups = 0; enough = omega (arith, least_is); each = rw is refl }
    go [] (suc n) [] is least_is group_is none few = record { groups = suc n; enough = omega (arith, least_is); each = rw (is, group_is, no-groups (suc n)) refl }
    go [] (suc n) (item ∷ group) is least_is group_is none few = absurd (omega (arith, few (omega arith)))
    go (item ∷ items) least group is least_is group_is none few = absurd (omega arith)

-- an item, or a group that must stand
pub of_one : (form : Form) → (length form.items ≡ 0 → (0 < form.least) × (0 < length form.group)) → ¬ HasForm form []
of_one form some has = go form.items form.group has.groups refl refl has.each has.enough some
  where
    go : (items group : List Item) (groups : ℕ) → form.items ≡ items → form.group ≡ group → are_of (form.items ++ repeated groups form.group) [] ≡ true → form.least ≤ groups
        → (length form.items ≡ 0 → (0 < form.least) × (0 < length form.group)) → ⊥
    go (item ∷ items) group groups is group_is each enough some =
        let other : are_of ((item ∷ items) ++ repeated groups form.group) [] ≡ true = subst (λ l. are_of (l ++ repeated groups form.group) [] ≡ true) is each in
        absurd cc
    go [] group zero is group_is each enough some = let both = some (ap length is) in absurd (omega (arith, both.0))
    go [] [] (suc n) is group_is each enough some = let both = some (ap length is) in absurd (omega (arith, both.1, ap length group_is))
    go [] (item ∷ group) (suc n) is group_is each enough some =
        let first : are_of (repeated (suc n) form.group) [] ≡ true = subst (λ l. are_of (l ++ repeated (suc n) form.group) [] ≡ true) is each in
        let other : are_of (repeated (suc n) (item ∷ group)) [] ≡ true = subst (λ l. are_of (repeated (suc n) l) [] ≡ true) group_is first in
        absurd cc

none-of : (fields : List Field) → map field_word fields ≡ [] → fields ≡ []
none-of [] e = refl
none-of (field ∷ fields) e = absurd cc

-- a line that may come next takes memory
pub takes-accepted : (side : Side) (s : Standing) (word : List ℕ) (words : List (List ℕ)) (form : Form) (fields : List Field) → form_of (table_at side s.place) word ≡ Some form → words ≡ map field_word fields → HasForm form fields
    → KeepsLimits form fields → are_few (counts_after s.place s.counts (word, fields)) ≡ true → declares_twice s (word, fields) ≡ false → WordsTakeMemory side s (word ∷ words)
takes-accepted side s word words form fields listed spelled has keeps few new = record {
  word = word;
  others = words;
  words_are = refl;
  form = form;
  listed = listed;
  accepted = λ e. subst (λ (f : List Field). MayFollow side s (word, f)) (none-of fields (sym spelled ∙ e))
      (record { listed = record { form = form; listed = listed; of_form = has; within = keeps }; few = few; new = new });
}

-- a line with fields takes memory
pub takes-fields : (side : Side) (s : Standing) (word : List ℕ) (words : List (List ℕ)) (form : Form) → form_of (table_at side s.place) word ≡ Some form → words ≢ [] → WordsTakeMemory side s (word ∷ words)
takes-fields side s word words form listed some = record { word = word; others = words; words_are = refl; form = form; listed = listed; accepted = λ e. absurd (some e) }

-- ---- what ran out of memory wasn't refused

pub not-false : (b : Bool) → (b ≡ false → ⊥) → b ≡ true
not-false true off = refl
not-false false off = absurd (off refl)

pub not-true : (b : Bool) → (b ≡ true → ⊥) → b ≡ false
not-true true on = absurd (on refl)
not-true false on = refl

abbrev order-failed : OrderError → Result (Unit {0}) OrderError
order-failed e = Err e

pub no-limit : (e : OrderError) → e ≡ orders.NoMemory → IsErrOf (order-failed e) orders.Limit → ⊥
no-limit orders.NoMemory is limit = absurd cc
no-limit orders.Limit is limit = absurd cc
no-limit orders.Twice is limit = absurd cc

pub no-second : (e : OrderError) → e ≡ orders.NoMemory → IsErrOf (order-failed e) orders.Twice → ⊥
no-second orders.NoMemory is twice = absurd cc
no-second orders.Limit is twice = absurd cc
no-second orders.Twice is twice = absurd cc
