-- Names: when two are the same, and their order.
use Rattle.std.proofs.Common.{◌≡◌, ℕ, Bool, true, false, refl, sym, subst, arith}
use Rattle.std.specs.Prelude.{◌==◌, ◌&&◌, ◌||◌, nat_lt}
use Rattle.std.proofs.lemmas.Bool.Decides.{nat_tests}
use Rattle.np_values.specs.declared.name.Side.{Side}
use Rattle.np_values.specs.declared.name.Side.TheVariants.{Page, Plug}
use Rattle.np_values.specs.declared.name.Name.{Name}
use Rattle.np_values.specs.Name.{is_before, is_same_side, is_side_before}
use Rattle.np_proxy.specs.Named.{is_same}

-- ---- when two names are the same

same_side-is : (a b : Side) → is_same_side a b ≡ true → a ≡ b
same_side-is Page Page e = refl
same_side-is Page Plug e = cc
same_side-is Plug Page e = cc
same_side-is Plug Plug e = refl

same_side-refl : (a : Side) → is_same_side a a ≡ true
same_side-refl Page = refl
same_side-refl Plug = refl

pub and_parts : (a b : Bool) → (a && b) ≡ true → (a ≡ true) × (b ≡ true)
and_parts true b e = (refl, e)
and_parts false b e = cc

pub and_both : (a b : Bool) → a ≡ true → b ≡ true → (a && b) ≡ true
and_both a b e f = simp (e, f) refl

pub number-is : (a b : ℕ) → (a == b) ≡ true → a ≡ b
number-is a b e = grind (arith, nat_tests)

name : Side → ℕ → ℕ → Name
name s i n = record { side = s; instance = i; serial = n }

three : (a b : Name) → a.side ≡ b.side → a.instance ≡ b.instance → a.serial ≡ b.serial → a ≡ b
unfolding name
three a b e f g =
    let h : name a.side a.instance a.serial ≡ name b.side b.instance b.serial = rw (e, f, g) in h

pub same-is : (a b : Name) → is_same a b ≡ true → a ≡ b
same-is a b e =
    let h = and_parts (is_same_side a.side b.side) (a.instance == b.instance && a.serial == b.serial) e in
    let k = and_parts (a.instance == b.instance) (a.serial == b.serial) h.1 in
    three a b (same_side-is a.side b.side h.0) (number-is a.instance b.instance k.0) (number-is a.serial b.serial k.1)

pub same-refl : (a : Name) → is_same a a ≡ true
same-refl a = simp (same_side-refl a.side) (grind (arith, nat_tests))

-- ---- their order

-- the order by numbers, at the three sides that can stand before one another
numbers-trans : (a b c d e f : ℕ) → (nat_lt a c || (a == c && nat_lt b d)) ≡ true → (nat_lt c e || (c == e && nat_lt d f)) ≡ true → (nat_lt a e || (a == e && nat_lt b f)) ≡ true
numbers-trans a b c d e f p q = grind (arith, nat_tests)

numbers-total : (a b c d : ℕ) → (nat_lt a c || (a == c && nat_lt b d)) ≡ false → (a == c && b == d) ≡ false → (nat_lt c a || (c == a && nat_lt d b)) ≡ true
numbers-total a b c d p q = grind (arith, nat_tests)

numbers-apart : (a b c d : ℕ) → (nat_lt a c || (a == c && nat_lt b d)) ≡ true → (a == c && b == d) ≡ false
numbers-apart a b c d p = grind (arith, nat_tests)

trans_at : (s t u : Side) (a b c d e f : ℕ) → (is_side_before s t || (is_same_side s t && (nat_lt a c || (a == c && nat_lt b d)))) ≡ true → (is_side_before t u || (is_same_side t u && (nat_lt c e || (c == e && nat_lt d f)))) ≡ true → (is_side_before s u || (is_same_side s u && (nat_lt a e || (a == e && nat_lt b f)))) ≡ true
trans_at Page Page Page a b c d e f p q = numbers-trans a b c d e f p q
trans_at Page Page Plug a b c d e f p q = refl
trans_at Page Plug Page a b c d e f p q = cc
trans_at Page Plug Plug a b c d e f p q = refl
trans_at Plug Page u a b c d e f p q = cc
trans_at Plug Plug Page a b c d e f p q = cc
trans_at Plug Plug Plug a b c d e f p q = numbers-trans a b c d e f p q

total_at : (s t : Side) (a b c d : ℕ) → (is_side_before s t || (is_same_side s t && (nat_lt a c || (a == c && nat_lt b d)))) ≡ false → (is_same_side s t && (a == c && b == d)) ≡ false → (is_side_before t s || (is_same_side t s && (nat_lt c a || (c == a && nat_lt d b)))) ≡ true
total_at Page Page a b c d p q = numbers-total a b c d p q
total_at Page Plug a b c d p q = cc
total_at Plug Page a b c d p q = refl
total_at Plug Plug a b c d p q = numbers-total a b c d p q

apart_at : (s t : Side) (a b c d : ℕ) → (is_side_before s t || (is_same_side s t && (nat_lt a c || (a == c && nat_lt b d)))) ≡ true → (is_same_side s t && (a == c && b == d)) ≡ false
apart_at Page Page a b c d p = numbers-apart a b c d p
apart_at Page Plug a b c d p = refl
apart_at Plug Page a b c d p = cc
apart_at Plug Plug a b c d p = numbers-apart a b c d p

pub before-trans : (x y z : Name) → is_before x y ≡ true → is_before y z ≡ true → is_before x z ≡ true
before-trans x y z p q = trans_at x.side y.side z.side x.instance x.serial y.instance y.serial z.instance z.serial p q

pub before-total : (x y : Name) → is_before x y ≡ false → is_same x y ≡ false → is_before y x ≡ true
before-total x y p q = total_at x.side y.side x.instance x.serial y.instance y.serial p q

pub before-apart : (x y : Name) → is_before x y ≡ true → is_same x y ≡ false
before-apart x y p = apart_at x.side y.side x.instance x.serial y.instance y.serial p

pub same-flip : (x y : Name) → is_same x y ≡ false → is_same y x ≡ false
same-flip x y e = go (is_same y x) refl
  where
    go : (b : Bool) → is_same y x ≡ b → is_same y x ≡ false
    go true f = let g = same-is y x f in absurd (let h = same-refl x in let k : is_same x y ≡ true = subst (λ n. is_same x n ≡ true) (sym g) h in cc)
    go false f = f

pub before-not : (x y : Name) → is_before x y ≡ true → is_before y x ≡ false
before-not x y p = go (is_before y x) refl
  where
    go : (b : Bool) → is_before y x ≡ b → is_before y x ≡ false
    go true f = absurd (let h = before-apart x x (before-trans x y x p f) in let k = same-refl x in cc)
    go false f = f

-- a name that a test tells from another one
pub differ : (x y : Name) → (x ≡ y → ⊥) → is_same x y ≡ false
differ x y n = go (is_same x y) refl
  where
    go : (b : Bool) → is_same x y ≡ b → is_same x y ≡ false
    go true f = absurd (n (same-is x y f))
    go false f = f

pub same : (x y : Name) → x ≡ y → is_same x y ≡ true
same x y e = subst (λ n. is_same x n ≡ true) e (same-refl x)
