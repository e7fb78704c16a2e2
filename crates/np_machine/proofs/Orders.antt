-- Both sides in any order of turns, and in rounds: each is its endpoint run on the messages that reach it.
use Rattle.std.proofs.Common.{◌≡◌, ℕ, zero, suc, ◌+◌, ◌≤◌, List, [], ◌∷◌, length, refl, sym, ap, ◌∙◌, subst, arith, take, Option, Some, None}
use Rattle.np_message.specs.Message.{Message}
use Rattle.np_machine.specs.Side.{SideState}
use Rattle.np_machine.specs.Plan.{Plans}
use Rattle.np_machine.specs.Turn.{is_remote_by_messages, turn, endpoint_run}
use Rattle.np_machine.specs.Machine.{Machine, through, page_turn, plugin_turn, run, machine_run}
use Rattle.np_values.specs.declared.name.Side.{Side}
use Rattle.np_values.specs.declared.name.Side.TheVariants as sides
use Rattle.np_machine.specs.Rest.{Rests, RestsAt}
use Rattle.np_machine.proofs.Growing.{Extends, extends-same, extends-take, extends-trans, take-extends, turn-grows}
use Rattle.np_machine.proofs.EndpointRuns.{endpoint-more, one_rest, rests-stay}
use Rattle.np_machine.proofs.RemoteTests.{BothSound}
use Rattle.np_machine.proofs.Turns.{page-both, plugin-both}

through-extends : (k : Option ℕ) (a b : List Message) → Extends a b → Extends (through k a) (through k b)
through-extends None a b f = f
through-extends (Some k) a b f = take-extends k a b f

-- what holds of both sides along every run
record Follows {C D : Type 0} (P : Plans C) (Q : Plans D) (c : SideState C) (d : SideState D) (w : Machine C D) : Type 0 where
  both : BothSound w.page w.plugin
  page : (turns : ℕ) × (endpoint_run P w.plugin.sent turns c ≡ w.page)
  plugin : (turns : ℕ) × (endpoint_run Q w.page.sent turns d ≡ w.plugin)

-- a side has a turn
goes-on : {C : Type 0} (S : Plans C) (got : List Message) (from p : SideState C) → ((turns : ℕ) × (endpoint_run S got turns from ≡ p)) → (turns : ℕ) × (endpoint_run S got turns from ≡ turn is_remote_by_messages S got p)
goes-on S got from p a = (suc a.0, ap (λ q. turn is_remote_by_messages S got q) a.1)

hears-more : {C : Type 0} (S : Plans C) (got all : List Message) (from p : SideState C) → Extends got all → ((turns : ℕ) × (endpoint_run S got turns from ≡ p)) → (turns : ℕ) × (endpoint_run S all turns from ≡ p)
hears-more S got all from p f a = let k = endpoint-more S got all a.0 from f in (k.0, k.1 ∙ a.1)

run-follows : {C D : Type 0} (P : Plans C) (Q : Plans D) (c : SideState C) (d : SideState D) (order : List Side) (w : Machine C D) → Follows P Q c d w → Follows P Q c d (run P Q order w)
run-follows P Q c d [] w f = f
run-follows P Q c d (sides.Page ∷ order) w f =
    let t = page-both P None w f.both in
    let g = turn-grows is_remote_by_messages P w.plugin.sent w.page in
    let o = goes-on P w.plugin.sent c w.page f.page in
    run-follows P Q c d order (page_turn P None w) (record {
      both = t.1;
      page = (o.0, o.1 ∙ sym t.0);
      plugin = hears-more Q w.page.sent (page_turn P None w).page.sent d w.plugin (subst (λ (p : SideState _). Extends w.page.sent p.sent) (sym t.0) g.sent) f.plugin;
    })
run-follows P Q c d (sides.Plug ∷ order) w f =
    let t = plugin-both Q None w f.both in
    let g = turn-grows is_remote_by_messages Q w.page.sent w.plugin in
    let o = goes-on Q w.page.sent d w.plugin f.plugin in
    run-follows P Q c d order (plugin_turn Q None w) (record {
      both = t.1;
      page = hears-more P w.plugin.sent (plugin_turn Q None w).plugin.sent c w.page (subst (λ (p : SideState _). Extends w.plugin.sent p.sent) (sym t.0) g.sent) f.page;
      plugin = (o.0, o.1 ∙ sym t.0);
    })

pub endpoint-follows : {C D : Type 0} (P : Plans C) (Q : Plans D) (c : SideState C) (d : SideState D) (order : List Side) → BothSound c d → let w = run P Q order (record { page = c; plugin = d }) in ((turns : ℕ) × (endpoint_run P w.plugin.sent turns c ≡ w.page)) × ((turns : ℕ) × (endpoint_run Q w.page.sent turns d ≡ w.plugin))
endpoint-follows P Q c d order b =
    let f = run-follows P Q c d order (record { page = c; plugin = d }) (record { both = b; page = (0, refl); plugin = (0, refl) }) in
    (f.page, f.plugin)

pub order-both : {C D : Type 0} (P : Plans C) (Q : Plans D) (c : SideState C) (d : SideState D) (order : List Side) → BothSound c d → let w = run P Q order (record { page = c; plugin = d }) in BothSound w.page w.plugin
order-both P Q c d order b =
    let f = run-follows P Q c d order (record { page = c; plugin = d }) (record { both = b; page = (0, refl); plugin = (0, refl) }) in f.both

-- In each round a side has a turn. A gate lets through the first messages of a list that grows from round to round.
pub record Rounds {C : Type 0} (S : Plans C) (k : Option ℕ) (lists : ℕ → List Message) (states : ℕ → SideState C) : Type 0 where
  pub steps : (n : ℕ) → states (suc n) ≡ turn is_remote_by_messages S (through k (lists n)) (states n)
  pub grows : (n : ℕ) → Extends (lists n) (lists (suc n))

pub lists-grow : (lists : ℕ → List Message) → ((n : ℕ) → Extends (lists n) (lists (suc n))) → (n i : ℕ) → Extends (lists n) (lists (i + n))
lists-grow lists grows n zero =
    let e : n ≡ 0 + n = omega arith in subst (λ m. Extends (lists n) (lists m)) e (extends-same (lists n))
lists-grow lists grows n (suc i) =
    let e : suc (i + n) ≡ suc i + n = omega arith in
    subst (λ m. Extends (lists n) (lists m)) e (extends-trans (lists n) (lists (i + n)) (lists (suc (i + n))) (lists-grow lists grows n i) (grows (i + n)))

-- in every round it is its endpoint run
pub rounds-follow : {C : Type 0} (S : Plans C) (k : Option ℕ) (lists : ℕ → List Message) (states : ℕ → SideState C) → Rounds S k lists states → (n : ℕ) → (turns : ℕ) × (endpoint_run S (through k (lists n)) turns (states 0) ≡ states n)
rounds-follow S k lists states r zero = (0, refl)
rounds-follow S k lists states r (suc n) =
    let a = goes-on S (through k (lists n)) (states 0) (states n) (rounds-follow S k lists states r n) in
    hears-more S (through k (lists n)) (through k (lists (suc n))) (states 0) (states (suc n)) (through-extends k (lists n) (lists (suc n)) (r.grows n)) (a.0, a.1 ∙ sym (r.steps n))

-- once all messages that the gate lets through are there, each round is one more turn
rounds-go : {C : Type 0} (S : Plans C) (k : ℕ) (lists : ℕ → List Message) (states : ℕ → SideState C) → Rounds S (Some k) lists states → (n m : ℕ) → k ≤ length (lists n) → endpoint_run S (take k (lists n)) m (states 0) ≡ states n → (i : ℕ) → endpoint_run S (take k (lists n)) (i + m) (states 0) ≡ states (i + n)
rounds-go S k lists states r n m h e zero =
    let a : 0 + m ≡ m = omega arith in
    let b : n ≡ 0 + n = omega arith in
    ap (λ j. endpoint_run S (take k (lists n)) j (states 0)) a ∙ e ∙ ap (λ j. states j) b
rounds-go S k lists states r n m h e (suc i) =
    let a : suc i + m ≡ suc (i + m) = omega arith in
    let b : suc (i + n) ≡ suc i + n = omega arith in
    let same = extends-take k (lists n) (lists (i + n)) (lists-grow lists r.grows n i) h in
    ap (λ j. endpoint_run S (take k (lists n)) j (states 0)) a ∙ ap (λ q. turn is_remote_by_messages S (take k (lists n)) q) (rounds-go S k lists states r n m h e i) ∙ ap (λ l. turn is_remote_by_messages S l (states (i + n))) (sym same) ∙ sym (r.steps (i + n)) ∙ ap (λ j. states j) b

-- so it reaches the state at which it rests alone, and stays there
pub rounds-rest : {C : Type 0} (S : Plans C) (k : ℕ) (lists : ℕ → List Message) (states : ℕ → SideState C) (n : ℕ) (p : SideState C) → Rounds S (Some k) lists states → k ≤ length (lists n) → RestsAt S (take k (lists n)) (states 0) p → (i : ℕ) × (states (i + n) ≡ p) × (states (suc (i + n)) ≡ p)
rounds-rest S k lists states n p r h rest =
    let f = rounds-follow S (Some k) lists states r n in
    let stay : (m : ℕ) → endpoint_run S (take k (lists n)) (m + rest.turns) (states 0) ≡ p = λ m. rests-stay S (take k (lists n)) (states 0) p rest.turns m rest.comes rest.rests in
    let a : f.0 + rest.turns ≡ rest.turns + f.0 = omega arith in
    let b : suc f.0 + rest.turns ≡ suc rest.turns + f.0 = omega arith in
    let c : suc (rest.turns + n) ≡ suc rest.turns + n = omega arith in
    (rest.turns, sym (rounds-go S k lists states r n f.0 h f.1 rest.turns) ∙ ap (λ m. endpoint_run S (take k (lists n)) m (states 0)) (sym a) ∙ stay f.0, ap (λ m. states m) c ∙ sym (rounds-go S k lists states r n f.0 h f.1 (suc rest.turns)) ∙ ap (λ m. endpoint_run S (take k (lists n)) m (states 0)) (sym b) ∙ stay (suc f.0))

-- two rests of one side in rounds are equal
pub rounds-one_rest : {C : Type 0} (S : Plans C) (k : ℕ) (lists : ℕ → List Message) (states : ℕ → SideState C) (n m : ℕ) (p q : SideState C) → Rounds S (Some k) lists states → k ≤ length (lists n) → k ≤ length (lists m) → states n ≡ p → states m ≡ q → Rests S (take k (lists n)) p → Rests S (take k (lists m)) q → p ≡ q
rounds-one_rest S k lists states n m p q r hn hm en em rn rm =
    let fn = rounds-follow S (Some k) lists states r n in
    let fm = rounds-follow S (Some k) lists states r m in
    let e : m + n ≡ n + m = omega arith in
    let to_n = extends-take k (lists n) (lists (m + n)) (lists-grow lists r.grows n m) hn in
    let to_m = extends-take k (lists m) (lists (n + m)) (lists-grow lists r.grows m n) hm in
    let same : take k (lists m) ≡ take k (lists n) = sym to_m ∙ ap (λ j. take k (lists j)) (sym e) ∙ to_n in
    let a : RestsAt S (take k (lists n)) (states 0) p = record { turns = fn.0; comes = fn.1 ∙ en; rests = rn } in
    let b : RestsAt S (take k (lists m)) (states 0) q = record { turns = fm.0; comes = fm.1 ∙ em; rests = rm } in
    one_rest S (take k (lists n)) (states 0) p q a (subst (λ l. RestsAt S l (states 0) q) same b)

-- the order of so many rounds
abbrev order_of : ℕ → List Side
order_of zero = []
order_of (suc n) = sides.Page ∷ sides.Plug ∷ order_of n

abbrev pub round : {C D : Type 0} → Plans C → Plans D → Machine C D → Machine C D
round P Q w = plugin_turn Q None (page_turn P None w)

-- the first round of several
first-round : {C D : Type 0} (P : Plans C) (Q : Plans D) (n : ℕ) (w : Machine C D) → machine_run P Q None None n (round P Q w) ≡ round P Q (machine_run P Q None None n w)
first-round P Q zero w = refl
first-round P Q (suc n) w = ap (λ (u : Machine _ _). round P Q u) (first-round P Q n w)

in-order : {C D : Type 0} (P : Plans C) (Q : Plans D) (n : ℕ) (w : Machine C D) → machine_run P Q None None n w ≡ run P Q (order_of n) w
in-order P Q zero w = refl
in-order P Q (suc n) w = sym (first-round P Q n w) ∙ in-order P Q n (round P Q w)

pub rounds-are_turns : {C D : Type 0} (P : Plans C) (Q : Plans D) (rounds : ℕ) (w : Machine C D) → (order : List Side) × (machine_run P Q None None rounds w ≡ run P Q order w)
rounds-are_turns P Q rounds w = (order_of rounds, in-order P Q rounds w)
