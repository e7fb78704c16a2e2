-- Numbers of names rise as names do.
use Rattle.std.proofs.Common.{◌≡◌, ℕ, ◌+◌, ◌<◌, sym, ap, ◌∙◌, arith}
use Rattle.std.specs.Prelude.{◌*◌, ◌==◌, ◌&&◌, ◌||◌, nat_lt}
use Rattle.std.proofs.lemmas.Bool.Decides.{nat_tests}
use Rattle.np_values.specs.declared.name.Side.{Side}
use Rattle.np_values.specs.declared.name.Side.TheVariants.{Page, Plug}
use Rattle.np_values.specs.declared.name.Name.{Name}
use Rattle.np_values.specs.Name.{is_before, is_same_side, is_side_before}
use Rattle.np_name_search.specs.Numbers.{side_number, as_number, IsTypedName}

order-at : (s t : Side) (a b c d : ℕ) → a < 256 → c < 256 → b < 4294967296 → d < 4294967296
    → (is_side_before s t || (is_same_side s t && (nat_lt a c || (a == c && nat_lt b d)))) ≡ nat_lt (side_number s * 1099511627776 + a * 4294967296 + b) (side_number t * 1099511627776 + c * 4294967296 + d)
order-at Page Page a b c d i j p q = grind (arith, nat_tests)
order-at Page Plug a b c d i j p q = grind (arith, nat_tests)
order-at Plug Page a b c d i j p q = grind (arith, nat_tests)
order-at Plug Plug a b c d i j p q = grind (arith, nat_tests)

pub number-order : (x y : Name) → x.instance < 256 → y.instance < 256 → x.serial < 4294967296 → y.serial < 4294967296 → is_before x y ≡ nat_lt (as_number x) (as_number y)
number-order x y i j p q = order-at x.side y.side x.instance x.serial y.instance y.serial i j p q

-- the test of two numbers is that of their names
pub less-is-before : (x y : Name) (a b : ℕ) → IsTypedName x → IsTypedName y → a ≡ as_number x → b ≡ as_number y → nat_lt a b ≡ is_before x y
less-is-before x y a b t u e f =
    ap (λ n. nat_lt n b) e ∙ ap (λ n. nat_lt (as_number x) n) f ∙ sym (number-order x y t.instance u.instance t.serial u.serial)
