-- Names that are compared, counted, released, and found by a test.
use Rattle.std.proofs.Common.{◌≡◌, ℕ, ◌+◌, List, [], ◌∷◌, ◌++◌, Bool, true, false, ◌&&◌, refl, subst, arith, Option, Some, None}
use Rattle.std.specs.Prelude.{◌==◌, if◌then◌else◌, not}
use Rattle.std.proofs.lemmas.Bool.Decides.{nat_tests}
use Rattle.np_values.specs.declared.name.Side.{Side}
use Rattle.np_values.specs.declared.name.Side.TheVariants.{Page, Plug}
use Rattle.np_values.specs.declared.name.Name.{Name}
use Rattle.np_values.specs.declared.value.Value.{Value}
use Rattle.np_values.specs.Name.{is_same_side}
use Rattle.np_proxy_release.specs.declared.release.Release.{Release}
use Rattle.np_proxy_release.specs.Release.{is_released_before}
use Rattle.np_machine.specs.References.{is_same_name, name_of, count_in_name, references_to, count_in_names, released_count}
use Rattle.np_machine.specs.Dropping.{add_release}
use Rattle.np_machine.specs.Messages.{with_found, remote_names_in}

pub count_in_names-append : (x : Name) (xs ys : List Name) → count_in_names x (xs ++ ys) ≡ count_in_names x xs + count_in_names x ys
count_in_names-append x [] ys = omega arith
count_in_names-append x (y ∷ xs) ys = omega (arith, count_in_names-append x xs ys)

pub same_side-is : (a b : Side) → is_same_side a b ≡ true → a ≡ b
same_side-is Page Page e = refl
same_side-is Page Plug e = cc
same_side-is Plug Page e = cc
same_side-is Plug Plug e = refl

pub same_side-refl : (a : Side) → is_same_side a a ≡ true
same_side-refl Page = refl
same_side-refl Plug = refl

and_parts : (a b : Bool) → (a && b) ≡ true → (a ≡ true) × (b ≡ true)
and_parts true b e = (refl, e)
and_parts false b e = cc

pub number-is : (a b : ℕ) → (a == b) ≡ true → a ≡ b
number-is a b e = grind (arith, nat_tests)

pub name : Side → ℕ → ℕ → Name
name s i n = record { side = s; instance = i; serial = n }

three : (a b : Name) → a.side ≡ b.side → a.instance ≡ b.instance → a.serial ≡ b.serial → a ≡ b
unfolding name
three a b e f g =
    let h : name a.side a.instance a.serial ≡ name b.side b.instance b.serial = rw (e, f, g) in h

pub same-is : (a b : Name) → is_same_name a b ≡ true → a ≡ b
same-is a b e =
    let h = and_parts (is_same_side a.side b.side) (a.instance == b.instance && a.serial == b.serial) e in
    let k = and_parts (a.instance == b.instance) (a.serial == b.serial) h.1 in
    three a b (same_side-is a.side b.side h.0) (number-is a.instance b.instance k.0) (number-is a.serial b.serial k.1)

pub same-refl : (a : Name) → is_same_name a a ≡ true
same-refl a = simp (same_side-refl a.side) (grind (arith, nat_tests))

-- a further release adds its count
pub released_count-add : (x : Name) (r : Release) (rs : List Release) → released_count x (add_release r rs) ≡ released_count x rs + (if x.instance == r.instance && x.serial == r.serial then r.times else 0)
released_count-add x r [] = omega arith
released_count-add x r (s ∷ rs) = go (r.instance == s.instance && r.serial == s.serial) refl (released_count-add x r rs)
  where
    bit : (b c : Bool) → b ≡ c → (if b then s.times + r.times else 0) + released_count x rs ≡ (if b then s.times else 0) + released_count x rs + (if c then r.times else 0)
    bit true true q = omega arith
    bit false false q = omega arith
    bit true false q = cc
    bit false true q = cc

    go : (b : Bool) → (r.instance == s.instance && r.serial == s.serial) ≡ b → released_count x (add_release r rs) ≡ released_count x rs + (if x.instance == r.instance && x.serial == r.serial then r.times else 0) → released_count x (add_release r (s ∷ rs)) ≡ released_count x (s ∷ rs) + (if x.instance == r.instance && x.serial == r.serial then r.times else 0)
    go true e ih =
        let h = and_parts (r.instance == s.instance) (r.serial == s.serial) e in
        let i = number-is r.instance s.instance h.0 in
        let n = number-is r.serial s.serial h.1 in
        simp e (bit (x.instance == s.instance && x.serial == s.serial) (x.instance == r.instance && x.serial == r.serial) (rw (i, n) refl))
    go false e ih = front (is_released_before r s) refl
      where
        front : (c : Bool) → is_released_before r s ≡ c → released_count x (add_release r (s ∷ rs)) ≡ released_count x (s ∷ rs) + (if x.instance == r.instance && x.serial == r.serial then r.times else 0)
        front true f = simp (e, f) (omega arith)
        front false f = simp (e, f) (omega (arith, ih))

-- a name that passes the test is found as often as there is a reference to it
pub count_in_names-in : (x : Name) (s : Side) (t : ℕ → Bool) (vs : List Value) → is_same_side x.side s ≡ false → t x.instance ≡ true → count_in_names x (remote_names_in s t vs) ≡ references_to x vs
count_in_names-in x s t [] o e = refl
count_in_names-in x s t (v ∷ vs) o e = found (name_of v) (count_in_names-in x s t vs o e)
  where
    found : (n : Option Name) → count_in_names x (remote_names_in s t vs) ≡ references_to x vs → count_in_names x (with_found s t n (remote_names_in s t vs)) ≡ count_in_name x n + references_to x vs
    found None ih = omega (arith, ih)
    found (Some y) ih = go (is_same_name x y) refl
      where
        go : (b : Bool) → is_same_name x y ≡ b → count_in_names x (with_found s t (Some y) (remote_names_in s t vs)) ≡ count_in_name x (Some y) + references_to x vs
        go true q =
            let k = same-is x y q in
            let o' : is_same_side y.side s ≡ false = subst (λ n. is_same_side n.side s ≡ false) k o in
            let e' : t y.instance ≡ true = subst (λ n. t n.instance ≡ true) k e in
            simp (o', e', q) (omega (arith, ih))
        go false q = pass (not (is_same_side y.side s) && t y.instance) refl
          where
            pass : (c : Bool) → (not (is_same_side y.side s) && t y.instance) ≡ c → count_in_names x (with_found s t (Some y) (remote_names_in s t vs)) ≡ count_in_name x (Some y) + references_to x vs
            pass true c = simp (c, q) (omega (arith, ih))
            pass false c = simp (c, q) (omega (arith, ih))

-- a name that fails it isn't found
pub count_in_names-out : (x : Name) (s : Side) (t : ℕ → Bool) (vs : List Value) → t x.instance ≡ false → count_in_names x (remote_names_in s t vs) ≡ 0
count_in_names-out x s t [] e = refl
count_in_names-out x s t (v ∷ vs) e = found (name_of v) (count_in_names-out x s t vs e)
  where
    found : (n : Option Name) → count_in_names x (remote_names_in s t vs) ≡ 0 → count_in_names x (with_found s t n (remote_names_in s t vs)) ≡ 0
    found None ih = ih
    found (Some y) ih = go (is_same_name x y) refl
      where
        off : (a c : Bool) → c ≡ false → count_in_names x (if not a && c then (y ∷ remote_names_in s t vs) else remote_names_in s t vs) ≡ 0
        off true c f = ih
        off false c f = simp f ih

        go : (b : Bool) → is_same_name x y ≡ b → count_in_names x (with_found s t (Some y) (remote_names_in s t vs)) ≡ 0
        go true q =
            let e' : t y.instance ≡ false = subst (λ n. t n.instance ≡ false) (same-is x y q) e in
            off (is_same_side y.side s) (t y.instance) e'
        go false q = pass (not (is_same_side y.side s) && t y.instance) refl
          where
            pass : (c : Bool) → (not (is_same_side y.side s) && t y.instance) ≡ c → count_in_names x (with_found s t (Some y) (remote_names_in s t vs)) ≡ 0
            pass true c = simp (c, q) (omega (arith, ih))
            pass false c = simp c ih
