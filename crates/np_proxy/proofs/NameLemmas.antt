-- Names of the other side.
use Rattle.std.proofs.Common.{◌≡◌, List, [], ◌∷◌, ◌++◌, Bool, true, false, not, refl}
use Rattle.np_values.specs.declared.name.Side.{Side}
use Rattle.np_values.specs.declared.name.Side.TheVariants.{Page, Plug}
use Rattle.np_values.specs.declared.name.Name.{Name}
use Rattle.np_values.specs.declared.value.Value.{Value}
use Rattle.np_values.specs.declared.value.Value.TheVariants.{Void, Null, Bool as TruthValue, Int, Double, Text, Object}
use Rattle.np_values.specs.Name.{is_same_side}
use Rattle.np_proxy.specs.Named.{is_same}
use Rattle.np_proxy.specs.Imports.{are_others, other_name, name_of_value, names_of, release_key}
use Rattle.np_proxy.proofs.Names.{and_parts, and_both}

others-append : (side : Side) (xs ys : List Name) → are_others side xs ≡ true → are_others side ys ≡ true → are_others side (xs ++ ys) ≡ true
others-append side [] ys a b = b
others-append side (x ∷ xs) ys a b =
    let h = and_parts (not (is_same_side x.side side)) (are_others side xs) a in
    and_both (not (is_same_side x.side side)) (are_others side (xs ++ ys)) h.0 (others-append side xs ys h.1 b)

other-name : (side : Side) (x : Name) → are_others side (other_name side x) ≡ true
other-name side x = go (is_same_side x.side side) refl
  where
    go : (b : Bool) → is_same_side x.side side ≡ b → are_others side (other_name side x) ≡ true
    go true s = simp s refl
    go false s = simp (s, s) refl

of-value : (side : Side) (value : Value) → are_others side (name_of_value side value) ≡ true
of-value side Void = refl
of-value side Null = refl
of-value side (TruthValue b) = refl
of-value side (Int n) = refl
of-value side (Double bytes) = refl
of-value side (Text text) = refl
of-value side (Object x) = other-name side x

pub names-are-others : (side : Side) (values : List Value) → are_others side (names_of side values) ≡ true
names-are-others side [] = refl
names-are-others side (value ∷ values) = others-append side (name_of_value side value) (names_of side values) (of-value side value) (names-are-others side values)

-- two names of the other side are told apart by their instances and serials
one-other : (side a b : Side) → is_same_side a side ≡ false → is_same_side b side ≡ false → is_same_side a b ≡ true
one-other Page Page b d e = cc
one-other Page Plug Page d e = cc
one-other Page Plug Plug d e = refl
one-other Plug Plug b d e = cc
one-other Plug Page Plug d e = cc
one-other Plug Page Page d e = refl

pub keys-same : (side : Side) (x y : Name) → is_same_side x.side side ≡ false → is_same_side y.side side ≡ false → is_same (release_key x) (release_key y) ≡ is_same x y
keys-same side x y d e = let o = one-other side x.side y.side d e in simp o refl
