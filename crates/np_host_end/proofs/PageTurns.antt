-- What a turn of the page does, and that a page whose plug-in is lost makes no call.
use Rattle.std.proofs.Common.{◌≡◌, ℕ, zero, suc, List, [], ◌∷◌, ◌++◌, map, refl, ap, sym, ◌∙◌, subst}
use Rattle.std.proofs.lemmas.List.{map-append}
use Rattle.np_model.specs.declared.script.Page.{Page}
use Rattle.np_model.specs.declared.script.Command.{Command}
use Rattle.np_model.specs.declared.script.Command.TheVariants as commands
use Rattle.np_message.specs.Message.{Message}
use Rattle.np_model.specs.declared.page.Stage.{Stage}
use Rattle.np_model.specs.declared.page.Stage.TheVariants.{Begin, Ready, Awaiting, Unanswered, Ended}
use Rattle.np_model.specs.declared.page.Outstanding.{Outstanding}
use Rattle.np_model.specs.declared.page.Outstanding.TheVariants as calls
use Rattle.np_model.specs.declared.page.PeerState.{PeerState}
use Rattle.np_model.specs.declared.page.PeerState.TheVariants.{Lost}
use Rattle.np_model.specs.declared.page.Phase.{Phase}
use Rattle.np_model.specs.declared.page.Phase.TheVariants.{Dead}
use Rattle.np_model.specs.Side.{SideState, Micro, run_steps}
use Rattle.np_model.specs.Run.{Pace, Acts, turn_at, turn, endpoint_run}
use Rattle.np_model.specs.PagePlan.{PageControl, page_plans, go_plan, next_plan, end_plan, create_plan, turn_plan, lost_plan, begun, pace_at, lose, peer_lost, unanswered}
use Rattle.np_model.specs.HostRun.{IsAwaiting}
use Rattle.np_model.specs.Steps.{control_after}
use Rattle.np_model.specs.Alone.{page_role}
use Rattle.np_endpoint.proofs.Stands.{ActsBy}
use Rattle.np_host_end.specs.Core.{IsActing}
use Rattle.np_model.proofs.StepLemmas.{run-control}

pub acts-at : (s : Stage) → IsActing s → pace_at s ≡ Acts
acts-at Begin a = refl
acts-at Ready a = refl
acts-at (Awaiting call) a = absurd a
acts-at (Unanswered call) a = refl
acts-at Ended a = absurd a

-- a turn of a page that acts
pub act-turn : (page : Page) (got : List Message) (p : SideState PageControl) → IsActing p.control.stage → turn (page_plans page) got p ≡ run_steps (go_plan page p.control p.control.stage) p
act-turn page got p a = ap (λ (pace : Pace). turn_at (page_plans page) got p pace) (acts-at p.control.stage a)

-- a page of this control acts by its plan
pub acts-by : (page : Page) (c : PageControl) → IsActing c.stage → ActsBy (page_role page) c (go_plan page c c.stage)
acts-by page c a p got same =
    act-turn page got p (subst (λ (d : PageControl). IsActing d.stage) (sym same) a) ∙ ap (λ (l : List (Micro PageControl)). run_steps l p) (ap (λ (d : PageControl). go_plan page d d.stage) same)

-- ---- the plug-in is lost

abbrev IsQuietStage : Stage → Type 0
IsQuietStage Begin = ⊥
IsQuietStage Ready = Unit {0}
IsQuietStage (Awaiting call) = ⊥
IsQuietStage (Unanswered call) = Unit {0}
IsQuietStage Ended = Unit {0}

abbrev buried : List Phase → List Phase
buried phases = map (λ phase. Dead) phases

buried-twice : (phases : List Phase) → buried (buried phases) ≡ buried phases
buried-twice [] = refl
buried-twice (phase ∷ phases) = ap (λ (l : List Phase). Dead ∷ l) (buried-twice phases)

-- a page whose plug-in is lost makes no call, and each of its instances is dead
pub record IsQuiet (c : PageControl) : Type 0 where
  pub peer : c.peer ≡ Lost
  pub stage : IsQuietStage c.stage
  pub dead : buried c.phases ≡ c.phases

quiet-lost : (c : PageControl) → IsQuiet (peer_lost c)
quiet-lost c = record { peer = refl; stage = at c.stage; dead = buried-twice c.phases }
  where
    at : (s : Stage) → IsQuietStage (unanswered s)
    at Begin = tt
    at Ready = tt
    at (Awaiting call) = tt
    at (Unanswered call) = tt
    at Ended = tt

quiet-left : (c : PageControl) (call : Outstanding) → IsQuiet c → IsQuiet (control_after (lost_plan (record c { stage = Ready }) call) c)
quiet-left c calls.Hello q = record { peer = q.peer; stage = tt; dead = q.dead }
quiet-left c calls.New q = record { peer = q.peer; stage = tt; dead = q.dead }
quiet-left c (calls.Destroy instance) q = record { peer = q.peer; stage = tt; dead = q.dead }
quiet-left c calls.Turn q = record { peer = q.peer; stage = tt; dead = q.dead }
quiet-left c calls.Shutdown q = record { peer = q.peer; stage = tt; dead = q.dead }

quiet-next : (c : PageControl) (list : List Command) → IsQuiet c → IsQuiet (control_after (next_plan c list) c)
quiet-next c [] q = subst (λ (peer : PeerState). IsQuiet (control_after (end_plan c peer) c)) (sym q.peer) (record { peer = q.peer; stage = tt; dead = q.dead })
quiet-next c (commands.Create mime mode ∷ rest) q =
    subst (λ (peer : PeerState). IsQuiet (control_after (create_plan (begun c rest) mime mode peer) c)) (sym q.peer)
    (record { peer = q.peer; stage = q.stage; dead = map-append (λ phase. Dead) c.phases (Dead ∷ []) ∙ ap (λ (l : List Phase). l ++ Dead ∷ []) q.dead })
quiet-next c (commands.Turn ∷ rest) q = subst (λ (peer : PeerState). IsQuiet (control_after (turn_plan (begun c rest) peer) c)) (sym q.peer) (record { peer = q.peer; stage = q.stage; dead = q.dead })

-- a page that acts is quiet after its turn where the steps of its plan leave it so
quiet-act : (page : Page) (p : SideState PageControl) (s : Stage) → p.control.stage ≡ s → IsActing s → IsQuiet (control_after (go_plan page p.control s) p.control) → IsQuiet (turn (page_plans page) [] p).control
quiet-act page p s e a q =
    let t = act-turn page [] p (subst IsActing (sym e) a) in
    let after : (turn (page_plans page) [] p).control ≡ control_after (go_plan page p.control s) p.control = ap (λ (r : SideState PageControl). r.control) t ∙ run-control (go_plan page p.control p.control.stage) p ∙ ap (λ (t : Stage). control_after (go_plan page p.control t) p.control) e in
    subst IsQuiet (sym after) q

quiet-turn : (page : Page) (p : SideState PageControl) (s : Stage) → p.control.stage ≡ s → IsQuiet p.control → IsQuietStage s → IsQuiet (turn (page_plans page) [] p).control
quiet-turn page p Begin e q h = absurd h
quiet-turn page p Ready e q h = quiet-act page p Ready e tt (quiet-next p.control p.control.commands q)
quiet-turn page p (Awaiting call) e q h = absurd h
quiet-turn page p (Unanswered call) e q h = quiet-act page p (Unanswered call) e tt (quiet-left p.control call q)
quiet-turn page p Ended e q h =
    let t : turn (page_plans page) [] p ≡ p = ap (λ (t : Stage). turn_at (page_plans page) [] p (pace_at t)) e in
    subst (λ (r : SideState PageControl). IsQuiet r.control) (sym t) q

pub quiet-run : (page : Page) (turns : ℕ) (p : SideState PageControl) → IsQuiet (endpoint_run (page_plans page) [] turns (lose p)).control
quiet-run page zero p = quiet-lost p.control
quiet-run page (suc turns) p =
    let q = endpoint_run (page_plans page) [] turns (lose p) in
    let h = quiet-run page turns p in
    quiet-turn page q q.control.stage refl h h.stage

pub unawaited : (s : Stage) → IsQuietStage s → IsAwaiting s → ⊥
unawaited Begin q a = q
unawaited Ready q a = a
unawaited (Awaiting call) q a = q
unawaited (Unanswered call) q a = a
unawaited Ended q a = a

-- such a page is lost already
pub lost-again : (c : PageControl) → IsQuiet c → peer_lost c ≡ c
lost-again c q =
    ap (λ (phases : List Phase). let d : PageControl = record c { phases = phases; peer = Lost; stage = unanswered c.stage } in d) q.dead
    ∙ ap (λ (peer : PeerState). let d : PageControl = record c { peer = peer; stage = unanswered c.stage } in d) (sym q.peer)
    ∙ ap (λ (stage : Stage). let d : PageControl = record c { stage = stage } in d) (same c.stage q.stage)
  where
    same : (s : Stage) → IsQuietStage s → unanswered s ≡ s
    same Begin h = absurd h
    same Ready h = refl
    same (Awaiting call) h = absurd h
    same (Unanswered call) h = refl
    same Ended h = refl
