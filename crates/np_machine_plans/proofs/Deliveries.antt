-- What is left of a list of undelivered messages, after some of its front were delivered.
use Rattle.std.proofs.Common.{◌≡◌, ℕ, zero, suc, List, [], ◌∷◌, refl, ap, true, drop}
use Rattle.np_message.specs.Message.{Message}
use Rattle.np_machine_plans.specs.Laws.{is_deferred_call}

pub drop-none : (k : ℕ) (l : List Message) → l ≡ [] → drop k l ≡ []
drop-none zero l e = e
drop-none (suc k) [] e = refl
drop-none (suc k) (x ∷ l) e = cc

pub drop-deferred : (k : ℕ) (l : List Message) → is_deferred_call l ≡ true → is_deferred_call (drop k l) ≡ true
drop-deferred zero l e = e
drop-deferred (suc k) [] e = refl
drop-deferred (suc k) (m ∷ []) e = ap is_deferred_call (drop-none k [] refl)
drop-deferred (suc k) (m ∷ (n ∷ l)) e = cc
