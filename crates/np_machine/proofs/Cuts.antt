-- The machine in which only the first messages reach a side.
use Rattle.std.proofs.Common.{◌≡◌, ℕ, zero, suc, ◌+◌, ◌-◌, ◌≤◌, List, length, refl, sym, ap, ◌∙◌, subst, arith, take, Option, Some, None, inl, inr, ◌⊎◌, ⊎_elim}
use Rattle.std.proofs.lemmas.List.{take_all}
use Rattle.std.proofs.lemmas.Bool.{cases_lt}
use Rattle.np_message.specs.Message.{Message}
use Rattle.np_machine.specs.Side.{SideState}
use Rattle.np_machine.specs.Plan.{Plans}
use Rattle.np_machine.specs.Turn.{is_remote_by_places, turn, endpoint_run}
use Rattle.np_machine.specs.Machine.{Machine, through, page_turn, plugin_turn, machine_run}
use Rattle.np_machine.specs.Rest.{Rests, RestsAt, PageRests, PluginRests}
use Rattle.np_machine.proofs.Growing.{Extends, extends-length, extends-take, turn-grows}
use Rattle.np_machine.proofs.RemoteTests.{BothSound}
use Rattle.np_machine.proofs.Turns.{page-both, plugin-both, run-both}
use Rattle.np_machine.proofs.Orders.{Rounds, lists-grow, rounds-follow, rounds-one_rest, rounds-rest}

-- ---- each side of the machine in rounds

page-rounds : {C D : Type 0} (P : Plans C) (Q : Plans D) (k j : Option ℕ) (w : Machine C D) → BothSound w.page w.plugin → Rounds P k (λ n. (machine_run P Q k j n w).plugin.sent) (λ n. (machine_run P Q k j n w).page)
page-rounds P Q k j w b = record {
  steps = λ n. (page-both P k (machine_run P Q k j n w) (run-both P Q k j n w b)).0;
  grows = λ n. (turn-grows (is_remote_by_places (page_turn P k (machine_run P Q k j n w)).page) Q (through j (machine_run P Q k j (suc n) w).page.sent) (machine_run P Q k j n w).plugin).sent;
}

-- the page has its turn before the plug-in, so the plug-in meets the list of the round's end
plugin-rounds : {C D : Type 0} (P : Plans C) (Q : Plans D) (k j : Option ℕ) (w : Machine C D) → BothSound w.page w.plugin → Rounds Q j (λ n. (machine_run P Q k j (suc n) w).page.sent) (λ n. (machine_run P Q k j n w).plugin)
plugin-rounds P Q k j w b = record {
  steps = λ n. let u = machine_run P Q k j n w in (plugin-both Q j (page_turn P k u) (page-both P k u (run-both P Q k j n w b)).1).0;
  grows = λ n. let u = machine_run P Q k j (suc n) w in (turn-grows (is_remote_by_places u.plugin) P (through k u.plugin.sent) u.page).sent;
}

-- In some round both runs have the same messages, and at least as many as the gate lets through.
record Reached (k n : ℕ) (gated open_lists : ℕ → List Message) : Type 0 where
  at_round : ℕ
  before : at_round ≤ n
  same : gated at_round ≡ open_lists at_round
  enough : k ≤ length (open_lists at_round)

later-reached : (k n : ℕ) (gated open_lists : ℕ → List Message) → Reached k n gated open_lists → Reached k (suc n) gated open_lists
later-reached k n gated open_lists r = record { at_round = r.at_round; before = omega (arith, r.before); same = r.same; enough = r.enough }

-- a gate that all messages pass changes nothing
page-open : {C D : Type 0} (P : Plans C) (k : ℕ) (u : Machine C D) → length u.plugin.sent ≤ k → page_turn P (Some k) u ≡ page_turn P None u
page-open {C} {D} P k u h = ap (λ (l : List Message). (shut u l)) (take_all k u.plugin.sent h)
  where
    shut : Machine C D → List Message → Machine C D
    shut u l = record { page = turn (is_remote_by_places u.plugin) P l u.page; plugin = u.plugin }

plugin-open : {C D : Type 0} (Q : Plans D) (j : ℕ) (u : Machine C D) → length u.page.sent ≤ j → plugin_turn Q (Some j) u ≡ plugin_turn Q None u
plugin-open {C} {D} Q j u h = ap (λ (l : List Message). (shut u l)) (take_all j u.page.sent h)
  where
    shut : Machine C D → List Message → Machine C D
    shut u l = record { page = u.page; plugin = turn (is_remote_by_places u.page) Q l u.plugin }

page-round : {C D : Type 0} (P : Plans C) (Q : Plans D) (k : ℕ) (a b : Machine C D) → a ≡ b → length b.plugin.sent ≤ k → plugin_turn Q None (page_turn P (Some k) a) ≡ plugin_turn Q None (page_turn P None b)
page-round {C} {D} P Q k a b e h = ap (λ (v : Machine C D). plugin_turn Q None (page_turn P (Some k) v)) e ∙ ap (λ (v : Machine C D). plugin_turn Q None v) (page-open P k b h)

plugin-round : {C D : Type 0} (P : Plans C) (Q : Plans D) (j : ℕ) (a b : Machine C D) → a ≡ b → length (page_turn P None b).page.sent ≤ j → plugin_turn Q (Some j) (page_turn P None a) ≡ plugin_turn Q None (page_turn P None b)
plugin-round {C} {D} P Q j a b e h = ap (λ (v : Machine C D). plugin_turn Q (Some j) (page_turn P None v)) e ∙ plugin-open Q j (page_turn P None b) h

page-sent : {C D : Type 0} (P : Plans C) (a b : Machine C D) → a ≡ b → (page_turn P None a).page.sent ≡ (page_turn P None b).page.sent
page-sent {C} {D} P a b e = ap (λ (v : Machine C D). (page_turn P None v).page.sent) e

plugin-sent : {C D : Type 0} (a b : Machine C D) → a ≡ b → a.plugin.sent ≡ b.plugin.sent
plugin-sent {C} {D} a b e = ap (λ (v : Machine C D). v.plugin.sent) e

-- before so many messages are there, the gate changes nothing
page-reached : {C D : Type 0} (P : Plans C) (Q : Plans D) (w : Machine C D) (k n : ℕ) → (machine_run P Q (Some k) None n w ≡ machine_run P Q None None n w) ⊎ Reached k n (λ m. (machine_run P Q (Some k) None m w).plugin.sent) (λ m. (machine_run P Q None None m w).plugin.sent)
page-reached P Q w k zero = inl refl
page-reached P Q w k (suc n) =
    ⊎_elim
    (λ e. ⊎_elim
    (λ few. inl (page-round P Q k (machine_run P Q (Some k) None n w) (machine_run P Q None None n w) e (omega arith)))
    (λ enough. inr (record { at_round = n; before = omega arith; same = plugin-sent (machine_run P Q (Some k) None n w) (machine_run P Q None None n w) e; enough = enough }))
    (cases_lt (length (machine_run P Q None None n w).plugin.sent) k))
    (λ r. inr (later-reached k n (λ m. (machine_run P Q (Some k) None m w).plugin.sent) (λ m. (machine_run P Q None None m w).plugin.sent) r))
    (page-reached P Q w k n)

plugin-reached : {C D : Type 0} (P : Plans C) (Q : Plans D) (w : Machine C D) (j n : ℕ) → (machine_run P Q None (Some j) n w ≡ machine_run P Q None None n w) ⊎ Reached j n (λ m. (machine_run P Q None (Some j) (suc m) w).page.sent) (λ m. (machine_run P Q None None (suc m) w).page.sent)
plugin-reached P Q w j zero = inl refl
plugin-reached P Q w j (suc n) =
    ⊎_elim
    (λ e. ⊎_elim
    (λ few. inl (plugin-round P Q j (machine_run P Q None (Some j) n w) (machine_run P Q None None n w) e (omega arith)))
    (λ enough. inr (record { at_round = n; before = omega arith; same = page-sent P (machine_run P Q None (Some j) n w) (machine_run P Q None None n w) e; enough = enough }))
    (cases_lt (length (page_turn P None (machine_run P Q None None n w)).page.sent) j))
    (λ r. inr (later-reached j n (λ m. (machine_run P Q None (Some j) (suc m) w).page.sent) (λ m. (machine_run P Q None None (suc m) w).page.sent) r))
    (plugin-reached P Q w j n)

-- where a side rests in the run with a gate
record CutRests {C : Type 0} (S : Plans C) (k : ℕ) (lists : ℕ → List Message) (states : ℕ → SideState C) (p : SideState C) : Type 0 where
  round : ℕ
  comes : states round ≡ p
  stays : states (suc round) ≡ p
  rests : Rests S (take k (lists round)) p
  enough : k ≤ length (lists round)

cut-rests : {C : Type 0} (S : Plans C) (k n : ℕ) (lists open_lists : ℕ → List Message) (states : ℕ → SideState C) (p : SideState C) → Rounds S (Some k) lists states → ((m : ℕ) → Extends (open_lists m) (open_lists (suc m))) → Reached k n lists open_lists → RestsAt S (take k (open_lists n)) (states 0) p → CutRests S k lists states p
cut-rests S k n lists open_lists states p rounds grow reached rest =
    let m = reached.at_round in
    let e : n - m + m ≡ n = omega (arith, reached.before) in
    let h : k ≤ length (lists m) = subst (λ l. k ≤ length l) (sym reached.same) reached.enough in
    let open_same : take k (open_lists n) ≡ take k (lists m) = ap (λ i. take k (open_lists i)) (sym e) ∙ extends-take k (open_lists m) (open_lists (n - m + m)) (lists-grow open_lists grow m (n - m)) reached.enough ∙ ap (λ l. take k l) (sym reached.same) in
    let r = rounds-rest S k lists states m p rounds h (subst (λ l. RestsAt S l (states 0) p) open_same rest) in
    let g = lists-grow lists rounds.grows m r.0 in
    let same : take k (open_lists n) ≡ take k (lists (r.0 + m)) = open_same ∙ sym (extends-take k (lists m) (lists (r.0 + m)) g h) in
    let longer = extends-length (lists m) (lists (r.0 + m)) g in
    record {
      round = r.0 + m;
      comes = r.1;
      stays = r.2;
      rests = subst (λ l. Rests S l p) same rest.rests;
      enough = omega (arith, h, longer);
    }

-- where a side rests in the run with a gate it rests alone with the messages that come through
cut-alone : {C : Type 0} (S : Plans C) (k n m : ℕ) (lists open_lists : ℕ → List Message) (states : ℕ → SideState C) (p : SideState C) → Rounds S (Some k) lists states → ((i : ℕ) → Extends (open_lists i) (open_lists (suc i))) → Reached k n lists open_lists → states m ≡ p → Rests S (take k (lists m)) p → k ≤ length (lists m) → RestsAt S (take k (open_lists n)) (states 0) p
cut-alone S k n m lists open_lists states p rounds grow reached comes rests enough =
    let r = reached.at_round in
    let e : n - r + r ≡ n = omega (arith, reached.before) in
    let f : r + m ≡ m + r = omega arith in
    let h : k ≤ length (lists r) = subst (λ l. k ≤ length l) (sym reached.same) reached.enough in
    let opened = extends-take k (open_lists r) (open_lists (n - r + r)) (lists-grow open_lists grow r (n - r)) reached.enough in
    let to_r = extends-take k (lists r) (lists (m + r)) (lists-grow lists rounds.grows r m) h in
    let to_m = extends-take k (lists m) (lists (r + m)) (lists-grow lists rounds.grows m r) enough in
    let same : take k (open_lists n) ≡ take k (lists m) = ap (λ i. take k (open_lists i)) (sym e) ∙ opened ∙ ap (λ l. take k l) (sym reached.same) ∙ sym to_r ∙ ap (λ i. take k (lists i)) (sym f) ∙ to_m in
    let a = rounds-follow S (Some k) lists states rounds m in
    record {
      turns = a.0;
      comes = ap (λ l. endpoint_run S l a.0 (states 0)) same ∙ a.1 ∙ comes;
      rests = subst (λ l. Rests S l p) (sym same) rests;
    }

pub page-cut : {C D : Type 0} (P : Plans C) (Q : Plans D) (w : Machine C D) (b : BothSound w.page w.plugin) (rounds k : ℕ) (p : SideState C) → k ≤ length (machine_run P Q None None rounds w).plugin.sent → RestsAt P (take k (machine_run P Q None None rounds w).plugin.sent) w.page p → PageRests P Q w k p
page-cut P Q w both rounds k p enough rest =
    let gated = λ (m : ℕ). (machine_run P Q (Some k) None m w).plugin.sent in
    let open_lists = λ (m : ℕ). (machine_run P Q None None m w).plugin.sent in
    let reached : Reached k rounds gated open_lists =
    ⊎_elim (λ e. record { at_round = rounds; before = omega arith; same = plugin-sent (machine_run P Q (Some k) None rounds w) (machine_run P Q None None rounds w) e; enough = enough }) (λ r. r) (page-reached P Q w k rounds) in
    let c = cut-rests P k rounds gated open_lists (λ m. (machine_run P Q (Some k) None m w).page) p (page-rounds P Q (Some k) None w both) (page-rounds P Q None None w both).grows reached rest in
    record { rounds = c.round; comes = c.comes; rests = c.rests; enough = c.enough }

pub page-alone : {C D : Type 0} (P : Plans C) (Q : Plans D) (w : Machine C D) (b : BothSound w.page w.plugin) (rounds k : ℕ) (p : SideState C) → k ≤ length (machine_run P Q None None rounds w).plugin.sent → PageRests P Q w k p → RestsAt P (take k (machine_run P Q None None rounds w).plugin.sent) w.page p
page-alone P Q w both rounds k p enough r =
    let gated = λ (m : ℕ). (machine_run P Q (Some k) None m w).plugin.sent in
    let open_lists = λ (m : ℕ). (machine_run P Q None None m w).plugin.sent in
    let reached : Reached k rounds gated open_lists =
    ⊎_elim (λ e. record { at_round = rounds; before = omega arith; same = plugin-sent (machine_run P Q (Some k) None rounds w) (machine_run P Q None None rounds w) e; enough = enough }) (λ x. x) (page-reached P Q w k rounds) in
    cut-alone P k rounds r.rounds gated open_lists (λ m. (machine_run P Q (Some k) None m w).page) p (page-rounds P Q (Some k) None w both) (page-rounds P Q None None w both).grows reached r.comes r.rests r.enough

pub plugin-cut : {C D : Type 0} (P : Plans C) (Q : Plans D) (w : Machine C D) (b : BothSound w.page w.plugin) (rounds j : ℕ) (q : SideState D) → j ≤ length (machine_run P Q None None rounds w).page.sent → RestsAt Q (take j (machine_run P Q None None rounds w).page.sent) w.plugin q → PluginRests P Q w j q
plugin-cut P Q w both rounds j q enough rest =
    let gated = λ (m : ℕ). (machine_run P Q None (Some j) (suc m) w).page.sent in
    let open_lists = λ (m : ℕ). (machine_run P Q None None (suc m) w).page.sent in
    let u = machine_run P Q None None rounds w in
    let grown = (turn-grows (is_remote_by_places u.plugin) P u.plugin.sent u.page).sent in
    let longer = extends-length u.page.sent (open_lists rounds) grown in
    let reached : Reached j rounds gated open_lists =
    ⊎_elim (λ e. record { at_round = rounds; before = omega arith; same = page-sent P (machine_run P Q None (Some j) rounds w) (machine_run P Q None None rounds w) e; enough = omega (arith, enough, longer) }) (λ r. r) (plugin-reached P Q w j rounds) in
    let same = extends-take j u.page.sent (open_lists rounds) grown enough in
    let c = cut-rests Q j rounds gated open_lists (λ m. (machine_run P Q None (Some j) m w).plugin) q (plugin-rounds P Q None (Some j) w both) (plugin-rounds P Q None None w both).grows reached (subst (λ l. RestsAt Q l w.plugin q) (sym same) rest) in
    record { rounds = suc c.round; comes = c.stays; rests = c.rests; enough = c.enough }

-- the messages that reach it by the next turn are the same, since so many are there
plugin-next : {C D : Type 0} (P : Plans C) (Q : Plans D) (w : Machine C D) (j n : ℕ) → j ≤ length (machine_run P Q None (Some j) n w).page.sent → (j ≤ length (machine_run P Q None (Some j) (suc n) w).page.sent) × (take j (machine_run P Q None (Some j) (suc n) w).page.sent ≡ take j (machine_run P Q None (Some j) n w).page.sent)
plugin-next P Q w j n h =
    let u = machine_run P Q None (Some j) n w in
    let grown = (turn-grows (is_remote_by_places u.plugin) P u.plugin.sent u.page).sent in
    let longer = extends-length u.page.sent (machine_run P Q None (Some j) (suc n) w).page.sent grown in
    (omega (arith, h, longer), extends-take j u.page.sent (machine_run P Q None (Some j) (suc n) w).page.sent grown h)

pub plugin-alone : {C D : Type 0} (P : Plans C) (Q : Plans D) (w : Machine C D) (b : BothSound w.page w.plugin) (rounds j : ℕ) (q : SideState D) → j ≤ length (machine_run P Q None None rounds w).page.sent → PluginRests P Q w j q → RestsAt Q (take j (machine_run P Q None None rounds w).page.sent) w.plugin q
plugin-alone P Q w both rounds j q enough r =
    let gated = λ (m : ℕ). (machine_run P Q None (Some j) (suc m) w).page.sent in
    let open_lists = λ (m : ℕ). (machine_run P Q None None (suc m) w).page.sent in
    let u = machine_run P Q None None rounds w in
    let grown = (turn-grows (is_remote_by_places u.plugin) P u.plugin.sent u.page).sent in
    let longer = extends-length u.page.sent (open_lists rounds) grown in
    let reached : Reached j rounds gated open_lists =
    ⊎_elim (λ e. record { at_round = rounds; before = omega arith; same = page-sent P (machine_run P Q None (Some j) rounds w) (machine_run P Q None None rounds w) e; enough = omega (arith, enough, longer) }) (λ x. x) (plugin-reached P Q w j rounds) in
    let next = plugin-next P Q w j r.rounds r.enough in
    let alone = cut-alone Q j rounds r.rounds gated open_lists (λ m. (machine_run P Q None (Some j) m w).plugin) q (plugin-rounds P Q None (Some j) w both) (plugin-rounds P Q None None w both).grows reached r.comes (subst (λ l. Rests Q l q) (sym next.1) r.rests) next.0 in
    subst (λ l. RestsAt Q l w.plugin q) (extends-take j u.page.sent (open_lists rounds) grown enough) alone

-- ---- one rest

pub page-one_rest : {C D : Type 0} (P : Plans C) (Q : Plans D) (w : Machine C D) (b : BothSound w.page w.plugin) (k : ℕ) (p q : SideState C) → PageRests P Q w k p → PageRests P Q w k q → p ≡ q
page-one_rest P Q w both k p q a b = rounds-one_rest P k (λ m. (machine_run P Q (Some k) None m w).plugin.sent) (λ m. (machine_run P Q (Some k) None m w).page) a.rounds b.rounds p q (page-rounds P Q (Some k) None w both) a.enough b.enough a.comes b.comes a.rests b.rests

pub plugin-one_rest : {C D : Type 0} (P : Plans C) (Q : Plans D) (w : Machine C D) (b : BothSound w.page w.plugin) (j : ℕ) (p q : SideState D) → PluginRests P Q w j p → PluginRests P Q w j q → p ≡ q
plugin-one_rest P Q w both j p q a b =
    let na = plugin-next P Q w j a.rounds a.enough in
    let nb = plugin-next P Q w j b.rounds b.enough in
    rounds-one_rest Q j (λ m. (machine_run P Q None (Some j) (suc m) w).page.sent) (λ m. (machine_run P Q None (Some j) m w).plugin) a.rounds b.rounds p q (plugin-rounds P Q None (Some j) w both) na.0 nb.0 a.comes b.comes (subst (λ l. Rests Q l p) (sym na.1) a.rests) (subst (λ l. Rests Q l q) (sym nb.1) b.rests)
