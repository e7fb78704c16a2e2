-- What one side keeps of the other side's objects, whatever the other side sends. (This project's own.)
use Rattle.std.specs.Prelude.{◌≡◌, ℕ, ◌+◌, ◌<◌, ◌≤◌, Bool, true, false, List, [], ◌∷◌}
use Rattle.np_values.specs.declared.name.Name.{Name}
use Rattle.np_values.specs.Name.{is_same_side}
use Rattle.np_proxy_release.specs.declared.release.Release.{Release}
use Rattle.np_machine.specs.References.{released_count, count_in_names, carried_in, released_in}
use Rattle.np_machine.specs.Side.{SideState, local_count, is_dead}

-- An object of an instance that isn't dead here: h places refer to it, r references came, f of them were given back, w are to be, and k are never given back.
pub record BalancesLive (h w k r f : ℕ) : Type 0 where
  pub within : f + w ≤ r
  pub none : h ≡ 0 → r ≤ f + w
  pub some : 0 < h → f + w < r
  pub unkept : k ≡ 0

-- Its instance is dead here: nothing more is given back of it, and what wasn't never is.
pub record BalancesDead (h w k r f : ℕ) : Type 0 where
  pub within : f ≤ r
  pub quiet : w ≡ 0
  pub stays : 0 < h → 0 < k
  pub out : 0 < k → f < r
  pub all : f < r → 0 < k

-- the two cases, by whether the instance is dead here
abbrev pub Balances : Bool → ℕ → ℕ → ℕ → ℕ → ℕ → Type 0
Balances false h w k r f = BalancesLive h w k r f
Balances true h w k r f = BalancesDead h w k r f

-- the counts of an object of the other side balance
abbrev pub BalancesAt : {C : Type 0} → Name → SideState C → Type 0
BalancesAt x p = Balances (is_dead p x.instance) (local_count x p) (released_count x p.pending_releases) (count_in_names x p.unreleased) (carried_in p.side x p.delivered) (released_in x p.sent)

-- each release gives back a reference at least
abbrev pub ArePositive : List Release → Type 0
ArePositive [] = Unit {0}
ArePositive (r ∷ rs) = (0 < r.times) × ArePositive rs

-- the counts of all objects of the other side balance
pub record IsSound {C : Type 0} (p : SideState C) : Type 0 where
  pub balances : (x : Name) → is_same_side x.side p.side ≡ false → BalancesAt x p
  pub positive : ArePositive p.pending_releases
