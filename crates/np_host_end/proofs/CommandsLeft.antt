-- What holds of the commands that are left.
use Rattle.std.proofs.Common.{◌≡◌, ℕ, ◌+◌, ◌<◌, ◌≤◌, List, [], ◌∷◌, ◌++◌, length, drop, get_or, leb, Bool, true, false, ◌&&◌, refl, ap, sym, ◌∙◌, arith}
use Rattle.std.proofs.lemmas.Bool.{leb-true}
use Rattle.std.proofs.lemmas.List.{drop_more}
use Rattle.np_model.specs.declared.script.Command.{Command}
use Rattle.np_model.specs.declared.script.Command.TheVariants.{Create, Turn}
use Rattle.np_model.specs.Script.{commands_fit}

both : (a b : Bool) → (a && b) ≡ true → (a ≡ true) × (b ≡ true)
both true b h = (refl, h)
both false b h = absurd cc

and-true : (a b : Bool) → a ≡ true → b ≡ true → (a && b) ≡ true
and-true true b e h = h
and-true false b e h = absurd cc

few : (begun : ℕ) (commands : List Command) → commands_fit begun commands ≡ true → begun ≤ 255
few begun [] h = leb-true _ _ h
few begun (Create mime mode ∷ commands) h =
    let fits : commands_fit (begun + 1) commands ≡ true = (both (leb mode 2) _ (both (leb 1 mode) _ h).1).1 in
    let r : begun + 1 ≤ 255 = few (begun + 1) commands fits in
    omega arith
few begun (Turn ∷ commands) h = few begun commands h

-- what a create that is next says of itself and of those behind it
pub record NextCreate (begun mode : ℕ) (rest : List Command) : Type 0 where
  pub low : 1 ≤ mode
  pub high : mode ≤ 2
  pub below : begun < 255
  pub rest_fits : commands_fit (begun + 1) rest ≡ true

pub next_create : (begun n : ℕ) (shown all : List Command) (x : Command) (mime : List ℕ) (mode : ℕ) → shown ≡ all → n < length all → x ≡ get_or shown n x → x ≡ Create mime mode → commands_fit begun (drop n all) ≡ true → NextCreate begun mode (drop (n + 1) all)
next_create begun n shown all x mime mode same lt is e h =
    let front : drop n all ≡ Create mime mode ∷ drop (n + 1) all = drop_more all n x lt ∙ ap (λ (y : Command). y ∷ drop (n + 1) all) (ap (λ (l : List Command). get_or l n x) (sym same) ∙ sym is ∙ e) in
    let there : commands_fit begun (Create mime mode ∷ drop (n + 1) all) ≡ true = ap (commands_fit begun) (sym front) ∙ h in
    let p = both _ _ there in
    let q = both _ _ p.1 in
    record { low = leb-true _ _ p.0; high = leb-true _ _ q.0; below = (let r : begun + 1 ≤ 255 = few (begun + 1) (drop (n + 1) all) q.1 in omega arith); rest_fits = q.1 }

-- a further turn line fits
pub fits_turn : (begun : ℕ) (commands : List Command) → commands_fit begun commands ≡ true → commands_fit begun (commands ++ Turn ∷ []) ≡ true
fits_turn begun [] h = h
fits_turn begun (Create mime mode ∷ commands) h =
    let p = both (leb 1 mode) _ h in
    let q = both (leb mode 2) _ p.1 in
    let r = fits_turn (begun + 1) commands q.1 in
    and-true (leb 1 mode) _ p.0 (and-true (leb mode 2) _ q.0 r)
fits_turn begun (Turn ∷ commands) h = fits_turn begun commands h
