-- How the counts of one object balance when they change.
use Rattle.std.proofs.Common.{◌≡◌, ℕ, ◌+◌, ◌<◌, ◌≤◌, Bool, true, false, refl, sym, ◌∙◌, subst, arith, inl, inr, ◌⊎◌}
use Rattle.std.specs.Prelude.{◌==◌, if◌then◌else◌}
use Rattle.std.proofs.lemmas.Bool.Decides.{nat_tests}
use Rattle.np_values.specs.declared.name.Name.{Name}
use Rattle.np_machine.specs.References.{count_in_names, released_count, carried_in, released_in}
use Rattle.np_machine.specs.Side.{SideState, local_count, is_dead}
use Rattle.np_machine.specs.Sound.{Balances, BalancesDead, BalancesAt}
use Rattle.np_machine.proofs.Counting.{local_count-is, total}

-- equal counts
pub same_balances : (d : Bool) (h w k r f h' w' k' r' f' : ℕ) → Balances d h w k r f → h' ≡ h → w' ≡ w → k' ≡ k → r' ≡ r → f' ≡ f → Balances d h' w' k' r' f'
same_balances false h w k r f h' w' k' r' f' t a b c e g = record { within = omega (arith, t.within); none = λ z. omega (arith, t.none (sym a ∙ z)); some = λ z. omega (arith, t.some (subst (λ n. 0 < n) a z)); unkept = c ∙ t.unkept }
same_balances true h w k r f h' w' k' r' f' t a b c e g = record { within = omega (arith, t.within); quiet = b ∙ t.quiet; stays = λ z. omega (arith, t.stays (omega arith)); out = λ z. omega (arith, t.out (omega arith)); all = λ z. omega (arith, t.all (omega arith)) }

-- further references to an object that is referred to
pub more_balances : (d : Bool) (h w k r f n : ℕ) → Balances d h w k r f → n ≤ h → Balances d (n + h) w k r f
more_balances false h w k r f n t l = record { within = t.within; none = λ z. t.none (omega arith); some = λ z. t.some (omega arith); unkept = t.unkept }
more_balances true h w k r f n t l = record { within = t.within; quiet = t.quiet; stays = λ z. t.stays (omega arith); out = t.out; all = t.all }

-- fewer references, in a dead instance
less_dead : (h w k r f n : ℕ) → BalancesDead (n + h) w k r f → BalancesDead h w k r f
less_dead h w k r f n t = record { within = t.within; quiet = t.quiet; stays = λ z. t.stays (omega arith); out = t.out; all = t.all }

pub less_balances : (d : Bool) (h w k r f n : ℕ) → Balances d (n + h) w k r f → n ≡ 0 ⊎ 0 < h ⊎ d ≡ true → Balances d h w k r f
less_balances false h w k r f n t (inl z) = same_balances false (n + h) w k r f h w k r f t (omega arith) refl refl refl refl
less_balances false h w k r f n t (inr (inl z)) = record { within = t.within; none = λ e. absurd (omega arith); some = λ e. t.some (omega arith); unkept = t.unkept }
less_balances false h w k r f n t (inr (inr z)) = cc
less_balances true h w k r f n t z = less_dead h w k r f n t

pub is_zero : (n : ℕ) → (n == 0) ≡ true → n ≡ 0
is_zero n e = grind (arith, nat_tests)

pub nonzero : (n : ℕ) → (n == 0) ≡ false → 0 < n
nonzero n e = grind (arith, nat_tests)

-- a property of an `if`, by its two cases
pub by_if : {A : Type 0} (P : A → Type 0) (b : Bool) (s t : A) → (b ≡ true → P s) → (b ≡ false → P t) → P (if b then s else t)
by_if P true s t f g = f refl
by_if P false s t f g = g refl

pub moved : {C : Type 0} (x : Name) (p q : SideState C) → BalancesAt x p → is_dead q x.instance ≡ is_dead p x.instance → total x q ≡ total x p → released_count x q.pending_releases ≡ released_count x p.pending_releases → count_in_names x q.unreleased ≡ count_in_names x p.unreleased → carried_in q.side x q.delivered ≡ carried_in p.side x p.delivered → released_in x q.sent ≡ released_in x p.sent → BalancesAt x q
moved x p q t d a b c e g =
    subst (λ l. Balances l (local_count x q) (released_count x q.pending_releases) (count_in_names x q.unreleased) (carried_in q.side x q.delivered) (released_in x q.sent)) (sym d) (same_balances (is_dead p x.instance) _ _ _ _ _ _ _ _ _ _ t (local_count-is x q ∙ a ∙ sym (local_count-is x p)) b c e g)
