-- The laws of runs. Each is the contract of a function of src/laws.rt. (This project's own.)
use Rattle.std.specs.Prelude.{◌≡◌, ℕ, ◌+◌, ◌*◌, ◌≤◌, List, [], ◌∷◌, ◌++◌, length, take, map, Bool, true, false, Some, None}
use Rattle.std.specs.List.{flat_map, list_all}
use Rattle.np_message.specs.Message.{Message}
use Rattle.np_message.specs.declared.payload.Payload.{Payload}
use Rattle.np_message.specs.declared.payload.Payload.TheVariants.{New}
use Rattle.np_model.specs.declared.refusal.Rule.{Rule}
use Rattle.np_model.specs.declared.script.Page.{Page}
use Rattle.np_model.specs.declared.page.Outstanding.{Outstanding}
use Rattle.np_model.specs.declared.page.Stage.{Stage}
use Rattle.np_model.specs.declared.page.Stage.TheVariants.{Begin, Ready, Awaiting, Unanswered, Ended}
use Rattle.np_model.specs.Script.{IsWellFormed}
use Rattle.np_message.specs.Rules.{KeepsFormat, IsTyped, AreMessages}
use Rattle.np_model.specs.Side.{SideState, at_start}
use Rattle.np_model.specs.Run.{Plans, Awaits, Refuses, Side, Machine, next_message, endpoint_run, run, machine_run, RestsAt, PageRests, PluginRests}
use Rattle.np_model.specs.PagePlan.{PageControl, page_plans, page_start, may_answer, lose}
use Rattle.np_message.specs.Kinds.{is_reply}
use Rattle.np_model.specs.declared.script.Plugin.{Plugin}
use Rattle.np_model.specs.PluginPlan.{PluginControl, plugin_plans, plugin_start, may_come, control_after_call, lines_of_call, reply_message}

-- both sides before anything was done
abbrev pub both_start : PageControl → PluginControl → Machine PageControl PluginControl
both_start c d = record { page = at_start c; plugin = at_start d }

-- For all plans of the two sides, and whatever order they take turns in: each side alone, given the messages that the other side sent, comes to what it is in the machine.
abbrev pub EndpointLaw : Type 0
EndpointLaw = (P : Plans PageControl) (Q : Plans PluginControl) (c : PageControl) (d : PluginControl) (order : List Side) →
    let w = run P Q order (both_start c d) in
    ((turns : ℕ) × (endpoint_run P w.plugin.sent turns (at_start c) ≡ w.page)) × ((turns : ℕ) × (endpoint_run Q w.page.sent turns (at_start d) ≡ w.plugin))

-- What the page alone rests at with the first k messages that the plug-in sends in a run is the page of the run that only these reach.
abbrev pub CutLaw : Type 0
CutLaw = (P : Plans PageControl) (Q : Plans PluginControl) (c : PageControl) (d : PluginControl) (rounds k : ℕ) (p : SideState PageControl) →
    let w = machine_run P Q None None rounds (both_start c d) in
    k ≤ length w.plugin.sent → RestsAt P (take k w.plugin.sent) (at_start c) p → PageRests P Q (both_start c d) k p

-- The same of the plug-in alone, with the first j messages that the page sends in a run.
abbrev pub PluginCutLaw : Type 0
PluginCutLaw = (P : Plans PageControl) (Q : Plans PluginControl) (c : PageControl) (d : PluginControl) (rounds j : ℕ) (q : SideState PluginControl) →
    let w = machine_run P Q None None rounds (both_start c d) in
    j ≤ length w.page.sent → RestsAt Q (take j w.page.sent) (at_start d) q → PluginRests P Q (both_start c d) j q

-- With more messages the page alone comes to all that it came to, perhaps in another number of turns.
abbrev pub MoreMessagesLaw : Type 0
MoreMessagesLaw = (P : Plans PageControl) (got more : List Message) (turns : ℕ) (from : SideState PageControl) →
    (k : ℕ) × (endpoint_run P (got ++ more) k from ≡ endpoint_run P got turns from)

-- What the page rests at in the run that only the first k messages of the plug-in reach is what it rests at alone with these.
abbrev pub AloneLaw : Type 0
AloneLaw = (P : Plans PageControl) (Q : Plans PluginControl) (c : PageControl) (d : PluginControl) (rounds k : ℕ) (p : SideState PageControl) →
    let w = machine_run P Q None None rounds (both_start c d) in
    k ≤ length w.plugin.sent → PageRests P Q (both_start c d) k p → RestsAt P (take k w.plugin.sent) (at_start c) p

-- The rounds of a machine are turns in one order.
abbrev pub RoundsLaw : Type 0
RoundsLaw = (P : Plans PageControl) (Q : Plans PluginControl) (rounds : ℕ) (w : Machine PageControl PluginControl) →
    (order : List Side) × (machine_run P Q None None rounds w ≡ run P Q order w)

-- There is one rest: of a side alone, and of each side in a cut run.
abbrev pub OneRestLaw : Type 0
OneRestLaw = (P : Plans PageControl) (Q : Plans PluginControl) (c : PageControl) (d : PluginControl) →
    ((got : List Message) (p q : SideState PageControl) → RestsAt P got (at_start c) p → RestsAt P got (at_start c) q → p ≡ q)
    × ((k : ℕ) (p q : SideState PageControl) → PageRests P Q (both_start c d) k p → PageRests P Q (both_start c d) k q → p ≡ q)
    × ((j : ℕ) (p q : SideState PluginControl) → PluginRests P Q (both_start c d) j p → PluginRests P Q (both_start c d) j q → p ≡ q)

-- a side that these messages reach refuses none of them
abbrev pub RefusesNone : {C : Type 0} → Plans C → List Message → SideState C → Type 0
RefusesNone S got from =
    (turns : ℕ) (m : Message) (rule : Rule) (first second : ℕ) →
    let p = endpoint_run S got turns from in
    S.pace p ≡ Awaits → next_message got p ≡ Some m → S.meet p m ≡ Refuses rule first second → ⊥

-- In the run of a page and a plug-in neither refuses what the other sent.
abbrev pub HonestLaw : Type 0
HonestLaw = (page : Page) (plugin : Plugin) (rounds : ℕ) →
    let w = machine_run (page_plans page) (plugin_plans plugin) None None rounds (both_start (page_start page) plugin_start) in
    RefusesNone (page_plans page) w.plugin.sent (at_start (page_start page)) × RefusesNone (plugin_plans plugin) w.page.sent (at_start plugin_start)

-- What a side alone has printed and sent by some turn, when only the first messages have come, is a prefix of what it printed and sent where it rests with all of them.
abbrev pub JournalLaw : Type 0
JournalLaw = (P : Plans PageControl) (got more : List Message) (turns : ℕ) (from p : SideState PageControl) →
    RestsAt P (got ++ more) from p →
    ((line : List ℕ) × (p.journal ≡ (endpoint_run P got turns from).journal ++ line))
    × ((messages : List Message) × (p.sent ≡ (endpoint_run P got turns from).sent ++ messages))

-- A page that continues alone after the plug-in is lost sends nothing more and rests at its end, and where a reply was awaited it comes there.
abbrev pub LostLaw : Type 0
LostLaw =
    ((page : Page) (p q : SideState PageControl) → RestsAt (page_plans page) [] (lose p) q → (q.sent ≡ p.sent) × (q.control.stage ≡ Ended))
    × ((page : Page) (p : SideState PageControl) (call : Outstanding) → p.control.stage ≡ Awaiting call → (q : SideState PageControl) × RestsAt (page_plans page) [] (lose p) q)

-- a message of the format that answers a call of the page, at level 1, and gives nothing back
pub record IsReply (m : Message) : Type 0 where
  pub level : m.depth.level ≡ 1
  pub task : m.depth.task ≡ false
  pub kind : may_answer m.body ≡ true
  pub bare : m.releases ≡ []
  pub format : KeepsFormat m
  pub typed : IsTyped m

-- each is such a reply
abbrev pub AreReplies : List Message → Type 0
AreReplies [] = Unit {0}
AreReplies (m ∷ messages) = IsReply m × AreReplies messages

-- In the run of a page and a plug-in the plug-in sends replies alone, and no more of them than the page made calls.
abbrev pub RepliesLaw : Type 0
RepliesLaw = (page : Page) (plugin : Plugin) (rounds : ℕ) →
    let w = machine_run (page_plans page) (plugin_plans plugin) None None rounds (both_start (page_start page) plugin_start) in
    AreReplies w.plugin.sent × (length w.plugin.sent ≤ length w.page.sent)

-- how many calls await their replies
abbrev pub open_calls : Stage → ℕ
open_calls Begin = 0
open_calls Ready = 0
open_calls (Awaiting call) = 1
open_calls (Unanswered call) = 0
open_calls Ended = 0

-- The page alone examined one message for each call that it made before the open one.
abbrev pub PacedLaw : Type 0
PacedLaw = (page : Page) (got : List Message) (turns : ℕ) →
    let p = endpoint_run (page_plans page) got turns (at_start (page_start page)) in
    length p.sent ≡ length p.examined + open_calls p.control.stage

-- The page alone makes at most two calls for each command, the second of which destroys an instance, and Hello and Shutdown.
abbrev pub FewCallsLaw : Type 0
FewCallsLaw = (page : Page) (got : List Message) (turns : ℕ) →
    length (endpoint_run (page_plans page) got turns (at_start (page_start page))).sent ≤ 2 * length page.commands + 2

-- ---- the plug-in's side

-- With more messages the plug-in alone comes to all that it came to, perhaps in another number of turns.
abbrev pub PluginMoreMessagesLaw : Type 0
PluginMoreMessagesLaw = (Q : Plans PluginControl) (got more : List Message) (turns : ℕ) (from : SideState PluginControl) →
    (k : ℕ) × (endpoint_run Q (got ++ more) k from ≡ endpoint_run Q got turns from)

-- What the plug-in rests at in the run that only the first j messages of the page reach is what it rests at alone with these.
abbrev pub PluginAloneLaw : Type 0
PluginAloneLaw = (P : Plans PageControl) (Q : Plans PluginControl) (c : PageControl) (d : PluginControl) (rounds j : ℕ) (q : SideState PluginControl) →
    let w = machine_run P Q None None rounds (both_start c d) in
    j ≤ length w.page.sent → PluginRests P Q (both_start c d) j q → RestsAt Q (take j w.page.sent) (at_start d) q

-- What the plug-in alone has printed and sent by some turn, when only the first messages have come, is a prefix of what it printed and sent where it rests with all of them.
abbrev pub PluginJournalLaw : Type 0
PluginJournalLaw = (Q : Plans PluginControl) (got more : List Message) (turns : ℕ) (from q : SideState PluginControl) →
    RestsAt Q (got ++ more) from q →
    ((line : List ℕ) × (q.journal ≡ (endpoint_run Q got turns from).journal ++ line))
    × ((messages : List Message) × (q.sent ≡ (endpoint_run Q got turns from).sent ++ messages))

-- The plug-in alone rests at one place.
abbrev pub PluginOneRestLaw : Type 0
PluginOneRestLaw = (Q : Plans PluginControl) (got : List Message) (d : PluginControl) (p q : SideState PluginControl) →
    RestsAt Q got (at_start d) p → RestsAt Q got (at_start d) q → p ≡ q

-- each is a call of level 1, without a task's mark, that gives nothing back and may come after those before it
abbrev pub AreCallsInTurn : Plugin → PluginControl → List Message → Type 0
AreCallsInTurn plugin c [] = Unit {0}
AreCallsInTurn plugin c (m ∷ messages) =
    ((may_come c c.stage m.body ≡ true) × (is_reply m.body ≡ false) × (m.depth.level ≡ 1) × (m.depth.task ≡ false) × (m.releases ≡ []))
    × AreCallsInTurn plugin (control_after_call plugin c m.body) messages

-- In the run of a page and a plug-in the page makes calls alone, each of which may come after those before it; those of a well-formed page are messages of the format.
abbrev pub CallsLaw : Type 0
CallsLaw = (page : Page) (plugin : Plugin) (rounds : ℕ) →
    let w = machine_run (page_plans page) (plugin_plans plugin) None None rounds (both_start (page_start page) plugin_start) in
    AreCallsInTurn plugin plugin_start w.page.sent × (IsWellFormed page → AreMessages w.page.sent)

-- where these calls lead the plug-in
abbrev pub control_after_calls : Plugin → PluginControl → List Message → PluginControl
control_after_calls plugin c [] = c
control_after_calls plugin c (m ∷ messages) = control_after_calls plugin (control_after_call plugin c m.body) messages

-- The plug-in alone stands where the calls that it examined lead; it sent the reply to each and printed the lines of each.
abbrev pub ServesLaw : Type 0
ServesLaw = (plugin : Plugin) (got : List Message) (turns : ℕ) →
    let q = endpoint_run (plugin_plans plugin) got turns (at_start plugin_start) in
    (q.control ≡ control_after_calls plugin plugin_start q.examined)
    × (q.sent ≡ map (reply_message plugin) q.examined)
    × (q.journal ≡ flat_map (λ m. lines_of_call plugin m.body) q.examined)

-- not NPP_New with attributes
abbrev pub has_no_attributes : Payload → Bool
has_no_attributes (New instance mode mime []) = true
has_no_attributes (New instance mode mime (name ∷ rest)) = false
has_no_attributes body = true

-- The page alone makes NPP_New without attributes.
abbrev pub NoAttributesLaw : Type 0
NoAttributesLaw = (page : Page) (got : List Message) (turns : ℕ) →
    list_all (λ m. has_no_attributes m.body) (endpoint_run (page_plans page) got turns (at_start (page_start page))).sent ≡ true
