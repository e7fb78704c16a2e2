-- Both sides: each is its endpoint run on the messages of the other that reach it, and a gate changes nothing before it is reached.
use Rattle.std.proofs.Common.{◌≡◌, ℕ, zero, suc, ◌+◌, ◌≤◌, List, [], ◌∷◌, length, refl, sym, ap, ◌∙◌, subst, arith, take, Option, Some, None}
use Rattle.np_message.specs.Message.{Message}
use Rattle.np_model.specs.Side.{SideState}
use Rattle.np_model.specs.Run.{Plans, turn, endpoint_run, Machine, Side, OfPage, OfPlugin, through, page_turn, plugin_turn, run, Rests, RestsAt}
use Rattle.np_model_laws.proofs.Alone.{Extends, extends-same, extends-trans, extends-take, take-extends, turn-grows, endpoint-more, rests-stay, one_rest}

pub through-extends : (k : Option ℕ) (a b : List Message) → Extends a b → Extends (through k a) (through k b)
through-extends None a b f = f
through-extends (Some k) a b f = take-extends k a b f

-- ---- the sides take turns in some order

-- what holds of both sides along every run
record Follows {C D : Type 0} (P : Plans C) (Q : Plans D) (c : SideState C) (d : SideState D) (w : Machine C D) : Type 0 where
  page : (turns : ℕ) × (endpoint_run P w.plugin.sent turns c ≡ w.page)
  plugin : (turns : ℕ) × (endpoint_run Q w.page.sent turns d ≡ w.plugin)

-- a side goes on, and the other is still its own endpoint run
goes-on : {C : Type 0} (S : Plans C) (got : List Message) (from p : SideState C) → ((turns : ℕ) × (endpoint_run S got turns from ≡ p)) → (turns : ℕ) × (endpoint_run S got turns from ≡ turn S got p)
goes-on S got from p a = (suc a.0, ap (λ q. turn S got q) a.1)

hears-more : {C : Type 0} (S : Plans C) (got all : List Message) (from p : SideState C) → Extends got all → ((turns : ℕ) × (endpoint_run S got turns from ≡ p)) → (turns : ℕ) × (endpoint_run S all turns from ≡ p)
hears-more S got all from p f a = let k = endpoint-more S got all a.0 from f in (k.0, k.1 ∙ a.1)

run-follows : {C D : Type 0} (P : Plans C) (Q : Plans D) (c : SideState C) (d : SideState D) (order : List Side) (w : Machine C D) → Follows P Q c d w → Follows P Q c d (run P Q order w)
run-follows P Q c d [] w f = f
run-follows P Q c d (OfPage ∷ order) w f =
    let g = turn-grows P w.plugin.sent w.page in
    run-follows P Q c d order (page_turn P None w) (record {
      page = goes-on P w.plugin.sent c w.page f.page;
      plugin = hears-more Q w.page.sent (turn P w.plugin.sent w.page).sent d w.plugin g.sent f.plugin;
    })
run-follows P Q c d (OfPlugin ∷ order) w f =
    let g = turn-grows Q w.page.sent w.plugin in
    run-follows P Q c d order (plugin_turn Q None w) (record {
      page = hears-more P w.plugin.sent (turn Q w.page.sent w.plugin).sent c w.page g.sent f.page;
      plugin = goes-on Q w.page.sent d w.plugin f.plugin;
    })

pub endpoint-follows : {C D : Type 0} (P : Plans C) (Q : Plans D) (c : SideState C) (d : SideState D) (order : List Side) → let w = run P Q order (record { page = c; plugin = d }) in ((turns : ℕ) × (endpoint_run P w.plugin.sent turns c ≡ w.page)) × ((turns : ℕ) × (endpoint_run Q w.page.sent turns d ≡ w.plugin))
endpoint-follows P Q c d order =
    let f = run-follows P Q c d order (record { page = c; plugin = d }) (record { page = (0, refl); plugin = (0, refl) }) in
    (f.page, f.plugin)

-- ---- one side in rounds

-- in each round a side has a turn, and a gate lets messages of a list through that grows from round to round
pub record Rounds {C : Type 0} (S : Plans C) (k : Option ℕ) (lists : ℕ → List Message) (states : ℕ → SideState C) : Type 0 where
  pub steps : (n : ℕ) → states (suc n) ≡ turn S (through k (lists n)) (states n)
  pub grows : (n : ℕ) → Extends (lists n) (lists (suc n))

pub lists-grow : (lists : ℕ → List Message) → ((n : ℕ) → Extends (lists n) (lists (suc n))) → (n i : ℕ) → Extends (lists n) (lists (i + n))
lists-grow lists grows n zero =
    let e : n ≡ 0 + n = omega arith in subst (λ m. Extends (lists n) (lists m)) e (extends-same (lists n))
lists-grow lists grows n (suc i) =
    let e : suc (i + n) ≡ suc i + n = omega arith in
    subst (λ m. Extends (lists n) (lists m)) e (extends-trans (lists n) (lists (i + n)) (lists (suc (i + n))) (lists-grow lists grows n i) (grows (i + n)))

-- in every round it is its endpoint run
pub rounds-follow : {C : Type 0} (S : Plans C) (k : Option ℕ) (lists : ℕ → List Message) (states : ℕ → SideState C) → Rounds S k lists states → (n : ℕ) → (turns : ℕ) × (endpoint_run S (through k (lists n)) turns (states 0) ≡ states n)
rounds-follow S k lists states r zero = (0, refl)
rounds-follow S k lists states r (suc n) =
    let a = goes-on S (through k (lists n)) (states 0) (states n) (rounds-follow S k lists states r n) in
    hears-more S (through k (lists n)) (through k (lists (suc n))) (states 0) (states (suc n)) (through-extends k (lists n) (lists (suc n)) (r.grows n)) (a.0, a.1 ∙ sym (r.steps n))

-- once so many messages are there, each round takes it one turn on
rounds-go : {C : Type 0} (S : Plans C) (k : ℕ) (lists : ℕ → List Message) (states : ℕ → SideState C) → Rounds S (Some k) lists states → (n m : ℕ) → k ≤ length (lists n) → endpoint_run S (take k (lists n)) m (states 0) ≡ states n → (i : ℕ) → endpoint_run S (take k (lists n)) (i + m) (states 0) ≡ states (i + n)
rounds-go S k lists states r n m h e zero =
    let a : 0 + m ≡ m = omega arith in
    let b : n ≡ 0 + n = omega arith in
    ap (λ j. endpoint_run S (take k (lists n)) j (states 0)) a ∙ e ∙ ap (λ j. states j) b
rounds-go S k lists states r n m h e (suc i) =
    let a : suc i + m ≡ suc (i + m) = omega arith in
    let b : suc (i + n) ≡ suc i + n = omega arith in
    let same = extends-take k (lists n) (lists (i + n)) (lists-grow lists r.grows n i) h in
    ap (λ j. endpoint_run S (take k (lists n)) j (states 0)) a ∙ ap (λ q. turn S (take k (lists n)) q) (rounds-go S k lists states r n m h e i) ∙ ap (λ l. turn S l (states (i + n))) (sym same) ∙ sym (r.steps (i + n)) ∙ ap (λ j. states j) b

-- so it comes to where it rests alone, and stays there
pub rounds-rest : {C : Type 0} (S : Plans C) (k : ℕ) (lists : ℕ → List Message) (states : ℕ → SideState C) (n : ℕ) (p : SideState C) → Rounds S (Some k) lists states → k ≤ length (lists n) → RestsAt S (take k (lists n)) (states 0) p → (i : ℕ) × (states (i + n) ≡ p) × (states (suc (i + n)) ≡ p)
rounds-rest S k lists states n p r h rest =
    let f = rounds-follow S (Some k) lists states r n in
    let stay : (m : ℕ) → endpoint_run S (take k (lists n)) (m + rest.turns) (states 0) ≡ p = λ m. rests-stay S (take k (lists n)) (states 0) p rest.turns m rest.comes rest.rests in
    let a : f.0 + rest.turns ≡ rest.turns + f.0 = omega arith in
    let b : suc f.0 + rest.turns ≡ suc rest.turns + f.0 = omega arith in
    let c : suc (rest.turns + n) ≡ suc rest.turns + n = omega arith in
    (rest.turns, sym (rounds-go S k lists states r n f.0 h f.1 rest.turns) ∙ ap (λ m. endpoint_run S (take k (lists n)) m (states 0)) (sym a) ∙ stay f.0, ap (λ m. states m) c ∙ sym (rounds-go S k lists states r n f.0 h f.1 (suc rest.turns)) ∙ ap (λ m. endpoint_run S (take k (lists n)) m (states 0)) (sym b) ∙ stay (suc f.0))

-- two rests of one side in rounds are equal
pub rounds-one_rest : {C : Type 0} (S : Plans C) (k : ℕ) (lists : ℕ → List Message) (states : ℕ → SideState C) (n m : ℕ) (p q : SideState C) → Rounds S (Some k) lists states → k ≤ length (lists n) → k ≤ length (lists m) → states n ≡ p → states m ≡ q → Rests S (take k (lists n)) p → Rests S (take k (lists m)) q → p ≡ q
rounds-one_rest S k lists states n m p q r hn hm en em rn rm =
    let fn = rounds-follow S (Some k) lists states r n in
    let fm = rounds-follow S (Some k) lists states r m in
    let e : m + n ≡ n + m = omega arith in
    let to_n = extends-take k (lists n) (lists (m + n)) (lists-grow lists r.grows n m) hn in
    let to_m = extends-take k (lists m) (lists (n + m)) (lists-grow lists r.grows m n) hm in
    let same : take k (lists m) ≡ take k (lists n) = sym to_m ∙ ap (λ j. take k (lists j)) (sym e) ∙ to_n in
    let a : RestsAt S (take k (lists n)) (states 0) p = record { turns = fn.0; comes = fn.1 ∙ en; rests = rn } in
    let b : RestsAt S (take k (lists m)) (states 0) q = record { turns = fm.0; comes = fm.1 ∙ em; rests = rm } in
    one_rest S (take k (lists n)) (states 0) p q a (subst (λ l. RestsAt S l (states 0) q) same b)
