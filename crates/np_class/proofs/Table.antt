-- The rows of the class table say what the table without a search says.
use Rattle.std.proofs.Common.{◌≡◌, ℕ, ◌<◌, ◌≤◌, ◌⊎◌, inl, inr, Bool, true, false, List, [], ◌∷◌, length, Option, Some, None, is_some, get_or, slice_get, position, refl, sym, ap, ◌∙◌, subst, true≢false, arith}
use Rattle.std.specs.Prelude.{IsTrue, ◌==◌, ◌||◌, if◌then◌else◌}
use Rattle.std.proofs.lemmas.List.Quantifiers.{position-Some}
use Rattle.std.proofs.lemmas.List.Sums.{fails_before_first}
use Rattle.std.proofs.lemmas.Bool.{cases_lt, eq-eqb}
use Rattle.std.proofs.lemmas.Bool.Decides.{nat_tests}
use Rattle.std.proofs.lemmas.Grind.{common_steps}
use Rattle.std.specs.List.{position_or_len}
use Rattle.std.proofs.lemmas.Option.{slice_get-get_or, get_or_from_slice_get, slice_get_within}
use Rattle.np_idents.specs.declared.key.IdKey.{IdKey}
use Rattle.np_idents.specs.IdKey.{is_same_key, same_key_decides}
use Rattle.np_idents.specs.declared.op.Op.{Op}
use Rattle.np_idents.specs.declared.op.Op.TheVariants.{Invoke, Default, Construct, Get, Put, Remove, HasMethod, HasProperty, Enumerate}
use Rattle.np_script_grammar.specs.declared.class.Member.{Member}
use Rattle.np_script_grammar.specs.declared.class.Member.TheVariants as member
use Rattle.np_script_grammar.specs.declared.class.ClassDef.{ClassDef}
use Rattle.np_class.specs.declared.found.Found.{Found}
use Rattle.np_class.specs.declared.found.Found.TheVariants.{Absent}
use Rattle.np_class.specs.Classes.{asks_for, place_of, body_or, kept, entry, HasAt, MayRun, RunsNone, AnswersItself, IsEntry}

-- what a search finds

found : (test : Member → Bool) (ms : List Member) (i : ℕ) → position test ms ≡ Some i → (m : Member) × (slice_get ms i ≡ Some m) × (test m ≡ true)
found test [] i e = cc
found test (x ∷ xs) i e =
    let p = position-Some test (x ∷ xs) i x e in
    (get_or (x ∷ xs) i x, slice_get-get_or (x ∷ xs) i x p.0, p.1)

first : (test : Member → Bool) (ms : List Member) (i k : ℕ) (m : Member) → position test ms ≡ Some i → slice_get ms k ≡ Some m → test m ≡ true → i ≤ k
first test ms i k m e s t = go (cases_lt k i)
  where
    go : (k < i) ⊎ (i ≤ k) → i ≤ k
    go (inl before) =
        let fails = subst (λ x. test x ≡ false) (get_or_from_slice_get ms k m m s) ((position-Some test ms i m e).2 k before) in
        absurd (true≢false (sym t ∙ fails))
    go (inr after) = after

absent : (test : Member → Bool) (ms : List Member) (k : ℕ) (m : Member) → position test ms ≡ None → slice_get ms k ≡ Some m → test m ≡ false
absent test ms k m e s =
    let past : length ms ≤ position_or_len test ms = grind (arith, common_steps) in
    let within = slice_get_within ms k m s in
    subst (λ x. test x ≡ false) (get_or_from_slice_get ms k m m s) (fails_before_first test ms k m (omega arith))

-- what the tests say of a member

same : (x y : IdKey) → is_same_key x y ≡ true → y ≡ x
same x y e = sym ((same_key_decides x y).0 e)

own : (x : IdKey) → is_same_key x x ≡ true
own x = (same_key_decides x x).1 refl

is_method : (key : IdKey) (m : Member) → asks_for (Invoke key) m ≡ true → (body : _) × (m ≡ member.Method key body)
is_method key (member.Method k body) e = (body, ap (λ x. member.Method x body) (same key k e))
is_method key (member.Default body) e = cc
is_method key (member.Construct body) e = cc
is_method key (member.Getter k body) e = cc
is_method key (member.Setter k body) e = cc

is_default : (m : Member) → asks_for Default m ≡ true → (body : _) × (m ≡ member.Default body)
is_default (member.Method k body) e = cc
is_default (member.Default body) e = (body, refl)
is_default (member.Construct body) e = cc
is_default (member.Getter k body) e = cc
is_default (member.Setter k body) e = cc

is_construct : (m : Member) → asks_for Construct m ≡ true → (body : _) × (m ≡ member.Construct body)
is_construct (member.Method k body) e = cc
is_construct (member.Default body) e = cc
is_construct (member.Construct body) e = (body, refl)
is_construct (member.Getter k body) e = cc
is_construct (member.Setter k body) e = cc

is_getter : (key : IdKey) (m : Member) → asks_for (Get key) m ≡ true → (body : _) × (m ≡ member.Getter key body)
is_getter key (member.Method k body) e = cc
is_getter key (member.Default body) e = cc
is_getter key (member.Construct body) e = cc
is_getter key (member.Getter k body) e = (body, ap (λ x. member.Getter x body) (same key k e))
is_getter key (member.Setter k body) e = cc

is_setter : (key : IdKey) (m : Member) → asks_for (Put key) m ≡ true → (body : _) × (m ≡ member.Setter key body)
is_setter key (member.Method k body) e = cc
is_setter key (member.Default body) e = cc
is_setter key (member.Construct body) e = cc
is_setter key (member.Getter k body) e = cc
is_setter key (member.Setter k body) e = (body, ap (λ x. member.Setter x body) (same key k e))

-- a member's place, in the words of the search and of the table

-- what has a body for an operation is what the operation asks for, and it has members of this shape alone
record Asks (op : Op) (class : ClassDef) (Runs : ℕ → Type 0) : Type 0 where
  to : (place : ℕ) (m : Member) → HasAt class place m → asks_for op m ≡ true → Runs place
  from : (place : ℕ) → Runs place → (m : Member) × (HasAt class place m) × (asks_for op m ≡ true)

body_found : (op : Op) (class : ClassDef) (Runs : ℕ → Type 0) → Asks op class Runs → (i : ℕ) → place_of op class ≡ Some i
    → Runs i × ((k : ℕ) → Runs k → i ≤ k)
body_found op class Runs asks i e =
    let f = found (asks_for op) class.members i e in
    (asks.to i f.0 f.1 f.2, λ k r. let p = asks.from k r in first (asks_for op) class.members i k p.0 e p.1 p.2)

none_found : (op : Op) (class : ClassDef) (Runs : ℕ → Type 0) → Asks op class Runs → place_of op class ≡ None → (k : ℕ) → ¬ (Runs k)
none_found op class Runs asks e k r =
    let p = asks.from k r in
    true≢false (sym p.2 ∙ absent (asks_for op) class.members k p.0 e p.1)

moved : (class : ClassDef) (place : ℕ) (m n : Member) → HasAt class place m → m ≡ n → HasAt class place n
moved class place m n h e = h ∙ ap Some e

asks_method : (class : ClassDef) (key : IdKey) → Asks (Invoke key) class (MayRun class (Invoke key))
asks_method class key = record {
  to = λ place m h e. let b = is_method key m e in (b.0, moved class place m _ h b.1);
  from = λ place r. (_, r.1, own key);
}

asks_default : (class : ClassDef) → Asks Default class (MayRun class Default)
asks_default class = record {
  to = λ place m h e. let b = is_default m e in (b.0, moved class place m _ h b.1);
  from = λ place r. (_, r.1, refl);
}

asks_construct : (class : ClassDef) → class.version ≡ 3 → Asks Construct class (MayRun class Construct)
asks_construct class three = record {
  to = λ place m h e. let b = is_construct m e in (three, (b.0, moved class place m _ h b.1));
  from = λ place r. (_, r.1.1, refl);
}

asks_getter : (class : ClassDef) (key : IdKey) → Asks (Get key) class (MayRun class (Get key))
asks_getter class key = record {
  to = λ place m h e. let b = is_getter key m e in (b.0, moved class place m _ h b.1);
  from = λ place r. (_, r.1, own key);
}

asks_setter : (class : ClassDef) (key : IdKey) → Asks (Put key) class (MayRun class (Put key))
asks_setter class key = record {
  to = λ place m h e. let b = is_setter key m e in (b.0, moved class place m _ h b.1);
  from = λ place r. (_, r.1, own key);
}

-- whether there is a method or a getter asks for the same members as calling or reading it
same_methods : (key : IdKey) (m : Member) → asks_for (HasMethod key) m ≡ asks_for (Invoke key) m
same_methods key (member.Method k body) = refl
same_methods key (member.Default body) = refl
same_methods key (member.Construct body) = refl
same_methods key (member.Getter k body) = refl
same_methods key (member.Setter k body) = refl

same_getters : (key : IdKey) (m : Member) → asks_for (HasProperty key) m ≡ asks_for (Get key) m
same_getters key (member.Method k body) = refl
same_getters key (member.Default body) = refl
same_getters key (member.Construct body) = refl
same_getters key (member.Getter k body) = refl
same_getters key (member.Setter k body) = refl

asks_also : (op other : Op) (class : ClassDef) (Runs : ℕ → Type 0) → ((m : Member) → asks_for other m ≡ asks_for op m) → Asks op class Runs → Asks other class Runs
asks_also op other class Runs same asks = record {
  to = λ place m h e. asks.to place m h (sym (same m) ∙ e);
  from = λ place r. let p = asks.from place r in (p.0, p.1, same p.0 ∙ p.2);
}

has_method : (class : ClassDef) (key : IdKey) → Asks (HasMethod key) class (MayRun class (Invoke key))
has_method class key = asks_also (Invoke key) (HasMethod key) class (MayRun class (Invoke key)) (same_methods key) (asks_method class key)

has_getter : (class : ClassDef) (key : IdKey) → Asks (HasProperty key) class (MayRun class (Get key))
has_getter class key = asks_also (Get key) (HasProperty key) class (MayRun class (Get key)) (same_getters key) (asks_getter class key)

-- the rows

plain_row : (op : Op) (class : ClassDef) → Asks op class (MayRun class op) → ¬ (AnswersItself class op)
    → (o : Option ℕ) → place_of op class ≡ o → IsEntry class op (body_or o Absent)
plain_row op class asks not_itself (Some i) e = body_found op class (MayRun class op) asks i e
plain_row op class asks not_itself None e = (none_found op class (MayRun class op) asks e, not_itself)

construct_row : (class : ClassDef) (b : Bool) → (class.version == 3) ≡ b → IsEntry class Construct (if b then body_or (place_of Construct class) Absent else Absent)
construct_row class true e = plain_row Construct class (asks_construct class (let three : class.version ≡ 3 = grind (arith, nat_tests) in three)) (λ x. x) (place_of Construct class) refl
construct_row class false e = (λ place r. true≢false (sym (eq-eqb class.version 3 r.0) ∙ e), λ x. x)

stored_row : (op : Op) (class : ClassDef) → Asks op class (MayRun class op)
    → (IsTrue class.stored → RunsNone class op → AnswersItself class op) → (AnswersItself class op → IsTrue class.stored)
    → (s : Bool) → class.stored ≡ s → (o : Option ℕ) → place_of op class ≡ o → IsEntry class op (body_or o (kept s))
stored_row op class asks gives needs s at (Some i) e = body_found op class (MayRun class op) asks i e
stored_row op class asks gives needs true at None e = gives at (none_found op class (MayRun class op) asks e)
stored_row op class asks gives needs false at None e = (none_found op class (MayRun class op) asks e, λ a. true≢false (sym (needs a) ∙ at))

kept_row : (op : Op) (class : ClassDef) → RunsNone class op → (s : Bool) → (IsTrue s → AnswersItself class op) → (s ≡ false → ¬ (AnswersItself class op))
    → IsEntry class op (kept s)
kept_row op class none true gives fails = gives refl
kept_row op class none false gives fails = (none, fails refl)

method_row : (class : ClassDef) (key : IdKey) (o : Option ℕ) → place_of (HasMethod key) class ≡ o → IsEntry class (HasMethod key) (kept (is_some o))
method_row class key (Some i) e = (i, (body_found (HasMethod key) class (MayRun class (Invoke key)) (has_method class key) i e).0)
method_row class key None e = (λ place r. r, λ a. none_found (HasMethod key) class (MayRun class (Invoke key)) (has_method class key) e a.0 a.1)

property_row : (class : ClassDef) (key : IdKey) (o : Option ℕ) → place_of (HasProperty key) class ≡ o → (s : Bool) → class.stored ≡ s → IsEntry class (HasProperty key) (kept (is_some o || s))
property_row class key (Some i) e s at = inl (i, (body_found (HasProperty key) class (MayRun class (Get key)) (has_getter class key) i e).0)
property_row class key None e true at = inr at
property_row class key None e false at = (λ place r. r, neither)
  where
    neither : ¬ (AnswersItself class (HasProperty key))
    neither (inl a) = none_found (HasProperty key) class (MayRun class (Get key)) (has_getter class key) e a.0 a.1
    neither (inr stored) = true≢false (sym stored ∙ at)

pub is_entry : (class : ClassDef) (op : Op) → IsEntry class op (entry class op)
is_entry class (Invoke key) = plain_row (Invoke key) class (asks_method class key) (λ x. x) (place_of (Invoke key) class) refl
is_entry class Default = plain_row Default class (asks_default class) (λ x. x) (place_of Default class) refl
is_entry class Construct = construct_row class (class.version == 3) refl
is_entry class (Get key) = stored_row (Get key) class (asks_getter class key) (λ s none. (s, none)) (λ a. a.0) class.stored refl (place_of (Get key) class) refl
is_entry class (Put key) = stored_row (Put key) class (asks_setter class key) (λ s none. (s, none)) (λ a. a.0) class.stored refl (place_of (Put key) class) refl
is_entry class (Remove key) = kept_row (Remove key) class (λ place r. r) class.stored (λ s. s) (λ e a. true≢false (sym a ∙ e))
is_entry class (HasMethod key) = method_row class key (place_of (HasMethod key) class) refl
is_entry class (HasProperty key) = property_row class key (place_of (HasProperty key) class) refl class.stored refl
is_entry class Enumerate = tt

-- what a call gives by its rows
pub row_of : (class : ClassDef) (op : Op) (found : Found) → found ≡ entry class op → IsEntry class op found
row_of class op found e = subst (IsEntry class op) (sym e) (is_entry class op)
