-- What an honest side sends isn't refused for the receiver's own names.
use Rattle.std.proofs.Common.{◌≡◌, ℕ, ◌+◌, ◌<◌, ◌≤◌, List, [], ◌∷◌, ◌++◌, Bool, true, false, ◌&&◌, refl, ap, ◌∙◌, arith, Option, Some, None}
use Rattle.std.specs.Prelude.{◌==◌, if◌then◌else◌, not, nat_lt}
use Rattle.std.proofs.lemmas.Bool.Decides.{nat_tests}
use Rattle.np_values.specs.declared.name.Side.{Side}
use Rattle.np_values.specs.declared.name.Side.TheVariants.{Page, Plug}
use Rattle.np_values.specs.declared.name.Name.{Name}
use Rattle.np_values.specs.declared.value.Value.{Value}
use Rattle.np_values.specs.declared.value.Value.TheVariants as values
use Rattle.np_values.specs.Name.{is_same_side}
use Rattle.np_proxy_release.specs.declared.release.Release.{Release}
use Rattle.np_message.specs.declared.payload.Payload.{Payload}
use Rattle.np_message.specs.declared.payload.Payload.TheVariants as payloads
use Rattle.np_message.specs.Message.{Message}
use Rattle.np_machine.specs.References.{is_same_name, name_of, count_in_name, references_to, released_count, references_in, released_name}
use Rattle.np_machine.specs.Side.{SideState, is_dead}
use Rattle.np_machine.specs.Turn.{out_count}
use Rattle.np_machine.specs.Honest.{IsHonest}
use Rattle.np_machine_plans.specs.RefusedNames.{is_not_out, first_name, message_names, names_of, with_name_of, is_too_many, first_release}
use Rattle.np_machine_plans.specs.Laws.{KnowsNames}

side-refl : (s : Side) → is_same_side s s ≡ true
side-refl Page = refl
side-refl Plug = refl

number-refl : (n : ℕ) → (n == n) ≡ true
number-refl n = grind (arith, nat_tests)

name-refl : (x : Name) → is_same_name x x ≡ true
name-refl x = simp (side-refl x.side, number-refl x.instance, number-refl x.serial) refl

-- ---- names

-- each of this side's names here is out
abbrev AllOut : {C : Type 0} → SideState C → List Name → Type 0
AllOut p [] = Unit {0}
AllOut p (y ∷ ys) = (is_same_side y.side p.side ≡ true → 0 < out_count p y) × AllOut p ys

not-zero : (n : ℕ) → 0 < n → (n == 0) ≡ false
not-zero n l = grind (arith, nat_tests)

not-out : {C : Type 0} (p : SideState C) (y : Name) → (is_same_side y.side p.side ≡ true → 0 < out_count p y) → is_not_out p y ≡ false
not-out p y f = go (is_same_side y.side p.side) refl
  where
    both : (a : Bool) → (a && false) ≡ false
    both true = refl
    both false = refl

    go : (b : Bool) → is_same_side y.side p.side ≡ b → is_not_out p y ≡ false
    go true e = simp (e, not-zero (out_count p y) (f e)) (both (not (is_dead p y.instance)))
    go false e = simp e refl

none-out : {C : Type 0} (p : SideState C) (ys : List Name) → AllOut p ys → first_name (is_not_out p) ys ≡ None
none-out p [] h = refl
none-out p (y ∷ ys) h = simp (not-out p y h.0) (none-out p ys h.1)

-- a name that the values name counts among them
names-out : {C : Type 0} (p : SideState C) (vs : List Value) → ((x : Name) → is_same_side x.side p.side ≡ true → 0 < references_to x vs → 0 < out_count p x) → AllOut p (names_of vs)
names-out p [] h = tt
names-out p (v ∷ vs) h = go (names-out p vs (λ x o z. h x o (omega (arith, z)))) (name_of v) refl
  where
    go : AllOut p (names_of vs) → (n : Option Name) → name_of v ≡ n → AllOut p (with_name_of n (names_of vs))
    go rest None e = rest
    go rest (Some y) e = (λ o. let i : count_in_name y (name_of v) ≡ 1 = ap (λ n. count_in_name y n) e ∙ simp (name-refl y) refl in h y o (omega (arith, i)), rest)

references-call : (x : Name) (side : Side) (i s : ℕ) (vs : List Value) → references_to x (vs ++ values.Object (record { side = side; instance = i; serial = s }) ∷ []) ≡ references_to x vs + (count_in_name x (Some (record { side = side; instance = i; serial = s })) + 0)
references-call x side i s [] = omega arith
references-call x side i s (v ∷ vs) = omega (arith, references-call x side i s vs)

all-out : {C : Type 0} (p : SideState C) (body : Payload) → ((x : Name) → is_same_side x.side p.side ≡ true → 0 < references_to x (references_in p.side body) → 0 < out_count p x) → AllOut p (message_names p.side body)
all-out p (payloads.Call i s op vs) h =
    let y : Name = record { side = p.side; instance = i; serial = s } in
    (λ o. let e : count_in_name y (Some y) ≡ 1 = simp (name-refl y) refl in h y o (omega (arith, references-call y p.side i s vs, e)), names-out p vs (λ x o z. h x o (omega (arith, references-call x p.side i s vs, z))))
all-out p (payloads.True v) h = names-out p (v ∷ []) h
all-out p (payloads.Hello version major minor) h = tt
all-out p (payloads.New i mode mime attributes) h = tt
all-out p (payloads.Destroy i) h = tt
all-out p (payloads.Scriptable i) h = tt
all-out p payloads.Turn h = tt
all-out p (payloads.NewStream i stream url mime size) h = tt
all-out p (payloads.WriteReady i stream) h = tt
all-out p (payloads.Write i stream offset bytes) h = tt
all-out p (payloads.AsFile i stream path) h = tt
all-out p (payloads.DestroyStream i stream reason) h = tt
all-out p (payloads.Notify i url reason word) h = tt
all-out p payloads.Shutdown h = tt
all-out p (payloads.Window i) h = tt
all-out p (payloads.GetUrl i url word) h = tt
all-out p (payloads.RequestRead i stream ranges) h = tt
all-out p (payloads.EndStream i stream reason) h = tt
all-out p payloads.False h = tt
all-out p (payloads.Threw text) h = tt
all-out p (payloads.Idents keys) h = tt
all-out p (payloads.Code error) h = tt
all-out p (payloads.Number n) h = tt
all-out p payloads.Done h = tt

-- ---- releases

not-below : (a b : ℕ) → b ≤ a → nat_lt a b ≡ false
not-below a b l = grind (arith, nat_tests)

none-few : {C : Type 0} (p : SideState C) (rs : List Release) → ((x : Name) → is_same_side x.side p.side ≡ true → released_count x rs ≤ out_count p x) → first_release (is_too_many p) rs ≡ None
none-few p [] h = refl
none-few p (r ∷ rs) h = simp few (none-few p rs (λ x o. let l = h x o in omega (arith, l)))
  where
    both : (a : Bool) → (a && false) ≡ false
    both true = refl
    both false = refl

    few : is_too_many p r ≡ false
    few =
        let y = released_name p.side r in
        let l = h y (side-refl p.side) in
        let e : (if y.instance == r.instance && y.serial == r.serial then r.times else 0) ≡ r.times = simp (number-refl r.instance, number-refl r.serial) refl in
        simp (not-below (out_count p y) r.times (omega (arith, l, e))) (both (not (is_dead p r.instance)))

pub known-names : {C : Type 0} (p : SideState C) (m : Message) → IsHonest p m → KnowsNames p m
known-names p m h = record { out = none-out p (message_names p.side m.body) (all-out p m.body h.out); few = none-few p m.releases h.few }
