-- The counts still balance after an instance is torn down.
use Rattle.std.proofs.Common.{◌≡◌, ℕ, ◌+◌, ◌<◌, List, [], ◌∷◌, ◌++◌, Bool, true, false, ◌&&◌, refl, sym, ap, ◌∙◌, subst, arith}
use Rattle.std.specs.Prelude.{◌==◌, if◌then◌else◌}
use Rattle.std.proofs.lemmas.Bool.Decides.{nat_tests}
use Rattle.np_values.specs.declared.name.Side.{Side}
use Rattle.np_values.specs.declared.name.Side.TheVariants.{Page, Plug}
use Rattle.np_values.specs.declared.name.Name.{Name}
use Rattle.np_values.specs.Name.{is_same_side}
use Rattle.np_proxy_release.specs.declared.release.Release.{Release}
use Rattle.np_machine.specs.References.{other_side, count_in_names, released_count, carried_in, released_in}
use Rattle.np_life.specs.declared.phase.Phase.TheVariants.{Dead}
use Rattle.np_machine.specs.Side.{SideState, place_values, local_count, is_dead}
use Rattle.np_machine.specs.Instances.{is_dead_phase, is_begun}
use Rattle.np_machine.specs.Messages.{remote_names_in}
use Rattle.np_machine.specs.Teardown.{pending_names, pending_without, tear_down}
use Rattle.np_machine.specs.Sound.{Balances, BalancesDead, BalancesAt, ArePositive, IsSound}
use Rattle.np_machine.proofs.Counting.{local_count-is}
use Rattle.np_machine.proofs.NameLemmas.{count_in_names-append, count_in_names-in, count_in_names-out, number-is}
use Rattle.np_machine.proofs.BalanceLemmas.{by_if, same_balances}
use Rattle.np_machine.proofs.PhaseLemmas.{dead-phase, other_side-phase, phase-slots}

positive-without : (n : ℕ) (rs : List Release) → ArePositive rs → ArePositive (pending_without n rs)
positive-without n [] h = tt
positive-without n (r ∷ rs) h = by_if ArePositive (n == r.instance) _ _ (λ e. positive-without n rs h.1) (λ e. (h.0, positive-without n rs h.1))

pending_releases-none : (x : Name) (o : Side) (n : ℕ) (rs : List Release) → (n == x.instance) ≡ false → (count_in_names x (pending_names o n rs) ≡ 0) × (released_count x (pending_without n rs) ≡ released_count x rs)
pending_releases-none x o n [] e = (refl, refl)
pending_releases-none x o n (r ∷ rs) e = go (n == r.instance) refl (pending_releases-none x o n rs e)
  where
    go : (b : Bool) → (n == r.instance) ≡ b → (count_in_names x (pending_names o n rs) ≡ 0) × (released_count x (pending_without n rs) ≡ released_count x rs) → (count_in_names x (pending_names o n (r ∷ rs)) ≡ 0) × (released_count x (pending_without n (r ∷ rs)) ≡ released_count x (r ∷ rs))
    go true q ih =
        let k = number-is n r.instance q in
        let d : (x.instance == r.instance) ≡ false = grind (arith, nat_tests, e, k) in
        simp (q, d) (omega (arith, ih.0, off (is_same_side x.side o)), omega (arith, ih.1))
      where
        bit : Bool → ℕ
        bit a = if a then 1 else 0

        off : (a : Bool) → bit (a && false) ≡ 0
        off true = refl
        off false = refl
    go false q ih = simp q (ih.0, omega (arith, ih.1))

record PendingAll (x : Name) (o : Side) (n : ℕ) (rs : List Release) : Type 0 where
  quiet : released_count x (pending_without n rs) ≡ 0
  there : 0 < released_count x rs → 0 < count_in_names x (pending_names o n rs)
  back : 0 < count_in_names x (pending_names o n rs) → 0 < released_count x rs

pending_releases-all : (x : Name) (o : Side) (n : ℕ) (rs : List Release) → is_same_side x.side o ≡ true → (n == x.instance) ≡ true → ArePositive rs → PendingAll x o n rs
pending_releases-all x o n [] s e h = record { quiet = refl; there = λ z. absurd (omega arith); back = λ z. absurd (omega arith) }
pending_releases-all x o n (r ∷ rs) s e h = go (x.instance == r.instance && x.serial == r.serial) refl (pending_releases-all x o n rs s e h.1) h.0
  where
    go : (b : Bool) → (x.instance == r.instance && x.serial == r.serial) ≡ b → PendingAll x o n rs → 0 < r.times → PendingAll x o n (r ∷ rs)
    go true q ih t =
        let f : (n == r.instance) ≡ true = grind (arith, nat_tests, e, q) in
        record { quiet = simp f ih.quiet; there = λ z. simp (f, s, q) (omega arith); back = λ z. simp q (omega (arith, t)) }
    go false q ih t = pass (n == r.instance) refl
      where
        pass : (c : Bool) → (n == r.instance) ≡ c → PendingAll x o n (r ∷ rs)
        pass true c = record { quiet = simp c ih.quiet; there = λ z. simp (c, s, q) (let z' = simp q at z in omega (arith, ih.there (omega arith))); back = λ z. simp q (let z' = simp (c, s, q) at z in omega (arith, ih.back (omega arith))) }
        pass false c = record { quiet = simp (c, q) (omega (arith, ih.quiet)); there = λ z. simp c (let z' = simp q at z in ih.there (omega arith)); back = λ z. simp q (let z' = simp c at z in omega (arith, ih.back z')) }

-- the counts after the teardown of the instance
dies : (d : Bool) (h w k r f k1 k2 : ℕ) → Balances d h w k r f → k1 ≡ h → (0 < w → 0 < k2) → (0 < k2 → 0 < w) → BalancesDead h 0 (k1 + (k2 + k)) r f
dies false h w k r f k1 k2 t a b c = record { within = omega (arith, t.within); quiet = refl; stays = λ z. omega arith; out = λ z. grind (arith, t.some, t.within, c, a, t.unkept); all = λ z. grind (arith, t.none, b, a) }
dies true h w k r f k1 k2 t a b c = record { within = t.within; quiet = refl; stays = λ z. omega arith; out = λ z. grind (arith, t.stays, t.out, t.quiet, c, a); all = λ z. grind (arith, t.all) }

other_is : (a b : Side) → is_same_side a b ≡ false → is_same_side a (other_side b) ≡ true
other_is Page Page e = cc
other_is Page Plug e = refl
other_is Plug Page e = refl
other_is Plug Plug e = cc

pub tear_down-sound : {C : Type 0} (n : ℕ) (p : SideState C) → is_begun n p.instances ≡ true → IsSound p → IsSound (tear_down n p)
tear_down-sound n p begun s = record { balances = λ x o. each x o; positive = positive-without n p.pending_releases s.positive }
  where
    each : (x : Name) → is_same_side x.side p.side ≡ false → BalancesAt x (tear_down n p)
    each x o = go (n == x.instance) refl
      where
        unreleased : count_in_names x (tear_down n p).unreleased ≡ count_in_names x (remote_names_in p.side (λ i. n == i) (place_values p)) + (count_in_names x (pending_names (other_side p.side) n p.pending_releases) + count_in_names x p.unreleased)
        unreleased = omega (arith, count_in_names-append x (remote_names_in p.side (λ i. n == i) (place_values p)) (pending_names (other_side p.side) n p.pending_releases ++ p.unreleased), count_in_names-append x (pending_names (other_side p.side) n p.pending_releases) p.unreleased)

        at : local_count x (tear_down n p) ≡ local_count x p
        at = omega (arith, local_count-is x (tear_down n p), local_count-is x p, phase-slots x n Dead p.instances)

        go : (b : Bool) → (n == x.instance) ≡ b → BalancesAt x (tear_down n p)
        go true e =
            let w = pending_releases-all x (other_side p.side) n p.pending_releases (other_is x.side p.side o) e s.positive in
            let k : n ≡ x.instance = number-is n x.instance e in
            let d : is_dead (tear_down n p) x.instance ≡ true = ap (λ m. is_dead (tear_down n p) m) (sym k) ∙ ap is_dead_phase (dead-phase n p.instances begun) in
            subst (λ t. Balances t (local_count x (tear_down n p)) (released_count x (tear_down n p).pending_releases) (count_in_names x (tear_down n p).unreleased) (carried_in p.side x p.delivered) (released_in x p.sent)) (sym d) (same_balances true _ _ _ _ _ _ _ _ _ _ (dies (is_dead p x.instance) (local_count x p) (released_count x p.pending_releases) (count_in_names x p.unreleased) _ _ _ (count_in_names x (pending_names (other_side p.side) n p.pending_releases)) (s.balances x o) (count_in_names-in x p.side (λ i. n == i) (place_values p) o e) w.there w.back) at w.quiet unreleased refl refl)
        go false e =
            let w = pending_releases-none x (other_side p.side) n p.pending_releases e in
            let m = count_in_names-out x p.side (λ i. n == i) (place_values p) e in
            let d : is_dead (tear_down n p) x.instance ≡ is_dead p x.instance = ap is_dead_phase (other_side-phase x.instance n p.instances e) in
            subst (λ t. Balances t (local_count x (tear_down n p)) (released_count x (tear_down n p).pending_releases) (count_in_names x (tear_down n p).unreleased) (carried_in p.side x p.delivered) (released_in x p.sent)) (sym d) (same_balances (is_dead p x.instance) _ _ _ _ _ _ _ _ _ _ (s.balances x o) at w.1 (omega (arith, unreleased, m, w.0)) refl refl)
