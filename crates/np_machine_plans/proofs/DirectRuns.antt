-- The direct run is a run.
use Rattle.std.proofs.Common.{◌≡◌, ℕ, zero, suc, List, [], ◌∷◌, Bool, true, false, refl, None}
use Rattle.np_machine.specs.Plan.{Plans}
use Rattle.np_machine.specs.Machine.{Machine, page_turn, plugin_turn, run}
use Rattle.np_values.specs.declared.name.Side.{Side}
use Rattle.np_values.specs.declared.name.Side.TheVariants as sides
use Rattle.np_machine_plans.specs.Laws.{is_idle, direct_turn_if, direct_run}

pub direct-is-a-run : {C D : Type 0} (P : Plans C) (Q : Plans D) (n : ℕ) (w : Machine C D) → (order : List Side) × (run P Q order w ≡ direct_run P Q n w)
direct-is-a-run P Q zero w = ([], refl)
direct-is-a-run P Q (suc n) w = by (is_idle Q w.page.sent w.plugin) (direct-is-a-run P Q n (page_turn P None w)) (direct-is-a-run P Q n (plugin_turn Q None w))
  where
    by : (b : Bool) → ((order : List Side) × (run P Q order (page_turn P None w) ≡ direct_run P Q n (page_turn P None w))) → ((order : List Side) × (run P Q order (plugin_turn Q None w) ≡ direct_run P Q n (plugin_turn Q None w))) → (order : List Side) × (run P Q order w ≡ direct_run P Q n (direct_turn_if P Q w b))
    by true r t = (sides.Page ∷ r.0, r.1)
    by false r t = (sides.Plug ∷ t.0, t.1)
