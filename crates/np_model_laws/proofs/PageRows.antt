-- Worked examples of the page's plans, by computing: what it does where it doesn't wait, and with each reply.
use Rattle.std.proofs.Common.{◌≡◌, ℕ, pos, List, [], ◌∷◌, refl, true, false}
use Rattle.std.specs.Prelude.{codes}
use Rattle.np_values.specs.declared.error.NpError.TheVariants.{NoError, Generic, InvalidFunctable, ModuleLoadFailed, IncompatibleVersion}
use Rattle.np_values.specs.declared.reason.NpReason.TheVariants.{UserBreak}
use Rattle.np_values.specs.declared.value.Value.TheVariants as values
use Rattle.np_idents.specs.declared.op.Op.TheVariants as ops
use Rattle.np_proxy_release.specs.declared.release.Release.{Release}
use Rattle.np_model.specs.declared.script.Command.{Command}
use Rattle.np_model.specs.declared.script.Command.TheVariants.{Create, Turn}
use Rattle.np_model.specs.declared.script.Page.{Page}
use Rattle.np_message.specs.declared.payload.Payload.{Payload}
use Rattle.np_message.specs.declared.payload.Payload.TheVariants as payloads
use Rattle.np_model.specs.declared.page.Stage.{Stage}
use Rattle.np_model.specs.declared.page.Stage.TheVariants.{Begin, Ready, Awaiting, Unanswered, Ended}
use Rattle.np_model.specs.declared.page.Outstanding.{Outstanding}
use Rattle.np_model.specs.declared.page.Outstanding.TheVariants as calls
use Rattle.np_model.specs.declared.page.PeerState.{PeerState}
use Rattle.np_model.specs.declared.page.PeerState.TheVariants.{Compatible, Incompatible, Lost}
use Rattle.np_model.specs.declared.page.Phase.{Phase}
use Rattle.np_model.specs.declared.page.Phase.TheVariants.{Live, Destroying, Dead}
use Rattle.np_model.specs.declared.refusal.Rule.TheVariants.{WrongKind, Unmatched, Unknown}
use Rattle.np_model.specs.Side.{Micro, Control, Send, Deliver, Print}
use Rattle.np_model.specs.Run.{Accepts, Refuses, Meeting}
use Rattle.np_model.specs.Journal.{code_line, void_line, false_line}
use Rattle.np_model.specs.PagePlan.{PageControl, go_plan, meet_plan, peer_lost, at_level_1}

page : Page
page = record { major = 0; minor = 27; commands = [] }

-- after three commands, with these left
abbrev control : List Command → List Phase → PeerState → Stage → PageControl
control commands phases peer stage = record { commands = commands; number = 3; phases = phases; peer = peer; stage = stage }

-- the same after one command more
abbrev further : List Command → List Phase → PeerState → Stage → PageControl
further commands phases peer stage = record { commands = commands; number = 4; phases = phases; peer = peer; stage = stage }

abbrev goes : PageControl → List (Micro PageControl)
goes c = go_plan page c c.stage

-- ---- what it does by itself

goes-begin : goes (control [] [] Compatible Begin) ≡ Control (control [] [] Compatible (Awaiting calls.Hello)) ∷ Send (at_level_1 (payloads.Hello 1 0 27)) ∷ []
unfolding page
goes-begin = refl

goes-create : goes (control (Create (codes "t/x") 2 ∷ []) (Dead ∷ []) Compatible Ready) ≡ Control (further [] (Dead ∷ Live ∷ []) Compatible (Awaiting calls.New)) ∷ Send (at_level_1 (payloads.New 2 2 (codes "t/x") [])) ∷ []
goes-create = refl

goes-create_incompatible : goes (control (Create (codes "t/x") 2 ∷ []) [] Incompatible Ready) ≡ Control (further [] (Dead ∷ []) Incompatible Ready) ∷ Print (code_line 4 IncompatibleVersion) ∷ []
goes-create_incompatible = refl

goes-create_lost : goes (control (Create (codes "t/x") 2 ∷ []) [] Lost Ready) ≡ Control (further [] (Dead ∷ []) Lost Ready) ∷ Print (code_line 4 ModuleLoadFailed) ∷ []
goes-create_lost = refl

goes-turn : goes (control (Turn ∷ []) [] Incompatible Ready) ≡ Control (further [] [] Incompatible (Awaiting calls.Turn)) ∷ Send (at_level_1 payloads.Turn) ∷ []
goes-turn = refl

goes-turn_lost : goes (control (Turn ∷ []) [] Lost Ready) ≡ Control (further [] [] Lost Ready) ∷ Print (false_line 4) ∷ []
goes-turn_lost = refl

-- the lowest live instance is destroyed first
goes-destroy : goes (control [] (Dead ∷ Live ∷ Live ∷ []) Compatible Ready) ≡ Control (control [] (Dead ∷ Destroying ∷ Live ∷ []) Compatible (Awaiting (calls.Destroy 2))) ∷ Send (at_level_1 (payloads.Destroy 2)) ∷ []
goes-destroy = refl

goes-shutdown : goes (control [] (Dead ∷ Dead ∷ []) Incompatible Ready) ≡ Control (control [] (Dead ∷ Dead ∷ []) Incompatible (Awaiting calls.Shutdown)) ∷ Send (at_level_1 payloads.Shutdown) ∷ []
goes-shutdown = refl

goes-end_lost : goes (control [] (Dead ∷ []) Lost Ready) ≡ Control (control [] (Dead ∷ []) Lost Ended) ∷ []
goes-end_lost = refl

-- ---- what it does once the plug-in is lost

lost-awaiting : peer_lost (control [] (Live ∷ Destroying ∷ []) Compatible (Awaiting calls.Turn)) ≡ control [] (Dead ∷ Dead ∷ []) Lost (Unanswered calls.Turn)
lost-awaiting = refl

lost-begin : peer_lost (control [] [] Compatible Begin) ≡ control [] [] Lost Ready
lost-begin = refl

lost-ended : peer_lost (control [] (Dead ∷ []) Compatible Ended) ≡ control [] (Dead ∷ []) Lost Ended
lost-ended = refl

abbrev ready : PageControl
ready = control [] [] Lost Ready

goes-lost : (call : Outstanding) → List (Micro PageControl)
goes-lost call = goes (control [] [] Lost (Unanswered call))

lost-hello : goes-lost calls.Hello ≡ Control ready ∷ []
unfolding goes-lost
lost-hello = refl

lost-new : goes-lost calls.New ≡ Control ready ∷ Print (code_line 3 ModuleLoadFailed) ∷ []
unfolding goes-lost
lost-new = refl

lost-destroy : goes-lost (calls.Destroy 1) ≡ Control ready ∷ []
unfolding goes-lost
lost-destroy = refl

lost-turn : goes-lost calls.Turn ≡ Control ready ∷ Print (false_line 3) ∷ []
unfolding goes-lost
lost-turn = refl

lost-shutdown : goes-lost calls.Shutdown ≡ Control ready ∷ []
unfolding goes-lost
lost-shutdown = refl

-- ---- each reply to each call

-- what becomes of this message where this call is open, of the second of two instances
abbrev meets : Outstanding → Payload → Meeting PageControl
meets call body = meet_plan (control [] (Live ∷ Live ∷ []) Compatible (Awaiting call)) (at_level_1 body)

abbrev after : List Phase → PeerState → Stage → List (Micro PageControl) → Meeting PageControl
after phases peer stage lines = Accepts (Deliver ∷ Control (control [] phases peer stage) ∷ lines)

abbrev refused : Meeting PageControl
refused = Refuses Unmatched 1 1

meets-hello_0 : meets calls.Hello (payloads.Code NoError) ≡ after (Live ∷ Live ∷ []) Compatible Ready (Print [] ∷ [])
meets-hello_0 = refl

meets-hello_8 : meets calls.Hello (payloads.Code IncompatibleVersion) ≡ after (Live ∷ Live ∷ []) Incompatible Ready (Print [] ∷ [])
meets-hello_8 = refl

meets-hello_1 : meets calls.Hello (payloads.Code Generic) ≡ refused
meets-hello_1 = refl

meets-hello_done : meets calls.Hello payloads.Done ≡ refused
meets-hello_done = refl

meets-new_0 : meets calls.New (payloads.Code NoError) ≡ after (Live ∷ Live ∷ []) Compatible Ready (Print (code_line 3 NoError) ∷ [])
meets-new_0 = refl

meets-new_3 : meets calls.New (payloads.Code InvalidFunctable) ≡ after (Live ∷ Dead ∷ []) Compatible Ready (Print (code_line 3 InvalidFunctable) ∷ [])
meets-new_3 = refl

meets-new_8 : meets calls.New (payloads.Code IncompatibleVersion) ≡ after (Live ∷ Dead ∷ []) Compatible Ready (Print (code_line 3 IncompatibleVersion) ∷ [])
meets-new_8 = refl

meets-new_done : meets calls.New payloads.Done ≡ refused
meets-new_done = refl

meets-destroy_0 : meets (calls.Destroy 1) (payloads.Code NoError) ≡ after (Dead ∷ Live ∷ []) Compatible Ready (Print [] ∷ [])
meets-destroy_0 = refl

meets-destroy_1 : meets (calls.Destroy 1) (payloads.Code Generic) ≡ refused
meets-destroy_1 = refl

meets-destroy_done : meets (calls.Destroy 1) payloads.Done ≡ refused
meets-destroy_done = refl

meets-turn_done : meets calls.Turn payloads.Done ≡ after (Live ∷ Live ∷ []) Compatible Ready (Print (void_line 3) ∷ [])
meets-turn_done = refl

meets-turn_0 : meets calls.Turn (payloads.Code NoError) ≡ refused
meets-turn_0 = refl

meets-shutdown_done : meets calls.Shutdown payloads.Done ≡ after (Live ∷ Live ∷ []) Compatible Ended []
meets-shutdown_done = refl

meets-shutdown_0 : meets calls.Shutdown (payloads.Code NoError) ≡ refused
meets-shutdown_0 = refl

-- ---- another kind, another depth, and no call that is open

meets-hello : meets calls.Hello (payloads.Hello 1 0 27) ≡ Refuses WrongKind 1 0
meets-hello = refl

meets-new : meets calls.New (payloads.New 2 1 (codes "t/x") []) ≡ Refuses WrongKind 2 2
meets-new = refl

meets-shutdown : meets calls.Shutdown payloads.Shutdown ≡ Refuses WrongKind 12 0
meets-shutdown = refl

meets-task : meet_plan (control [] [] Compatible (Awaiting calls.Turn)) (record { depth = record { level = 1; task = true }; releases = []; body = payloads.Done }) ≡ Refuses Unmatched 129 1
meets-task = refl

-- the kind comes before the depth
meets-call_of_task : meet_plan (control [] [] Compatible (Awaiting calls.Turn)) (record { depth = record { level = 2; task = true }; releases = []; body = payloads.Destroy 9 }) ≡ Refuses WrongKind 3 9
meets-call_of_task = refl

meets-ended : meet_plan (control [] [] Compatible Ended) (at_level_1 payloads.Done) ≡ refused
meets-ended = refl

-- ---- kinds that answer no call of a page

-- what becomes of this message while the second of two instances is being made
abbrev meets_new : Payload → Meeting PageControl
meets_new body = meet_plan (control [] (Live ∷ Live ∷ []) Compatible (Awaiting calls.New)) (at_level_1 body)

meets-true : meets_new (payloads.True values.Void) ≡ Refuses WrongKind 65 0
meets-true = refl

meets-false : meets_new payloads.False ≡ Refuses WrongKind 66 0
meets-false = refl

meets-threw : meets_new (payloads.Threw (codes "no")) ≡ Refuses WrongKind 67 0
meets-threw = refl

meets-idents : meets_new (payloads.Idents []) ≡ Refuses WrongKind 68 0
meets-idents = refl

meets-number : meets_new (payloads.Number (pos 0)) ≡ Refuses WrongKind 70 0
meets-number = refl

meets-scriptable : meets_new (payloads.Scriptable 2) ≡ Refuses WrongKind 4 2
meets-scriptable = refl

meets-window : meets_new (payloads.Window 1) ≡ Refuses WrongKind 32 1
meets-window = refl

meets-get_url : meets_new (payloads.GetUrl 2 (codes "u") (pos 0)) ≡ Refuses WrongKind 33 2
meets-get_url = refl

meets-request_read : meets_new (payloads.RequestRead 1 1 (record { offset = pos 0; length = 1 } ∷ [])) ≡ Refuses WrongKind 34 1
meets-request_read = refl

meets-end_stream : meets_new (payloads.EndStream 2 1 UserBreak) ≡ Refuses WrongKind 35 2
meets-end_stream = refl

meets-call : meets_new (payloads.Call 1 1 ops.Enumerate []) ≡ Refuses WrongKind 64 1
meets-call = refl

-- ---- releases

-- what becomes of Done with these releases while a turn is open; the first instance is live, the second is being destroyed and the third is dead
abbrev meets_releases : List Release → Meeting PageControl
meets_releases releases = meet_plan (control [] (Live ∷ Destroying ∷ Dead ∷ []) Compatible (Awaiting calls.Turn)) (record { depth = record { level = 1; task = false }; releases = releases; body = payloads.Done })

abbrev release : ℕ → ℕ → Release
release instance serial = record { instance = instance; serial = serial; times = 1 }

releases-live : meets_releases (release 1 7 ∷ []) ≡ Refuses Unknown 1 7
releases-live = refl

releases-destroying : meets_releases (release 2 1 ∷ []) ≡ Refuses Unknown 2 1
releases-destroying = refl

releases-absent : meets_releases (release 4 2 ∷ []) ≡ Refuses Unknown 4 2
releases-absent = refl

-- they come late, and change nothing
releases-dead : meets_releases (release 3 1 ∷ release 3 2 ∷ []) ≡ after (Live ∷ Destroying ∷ Dead ∷ []) Compatible Ready (Print (void_line 3) ∷ [])
releases-dead = refl

-- the first that isn't late counts
releases-behind_dead : meets_releases (release 3 9 ∷ release 4 1 ∷ release 5 1 ∷ []) ≡ Refuses Unknown 4 1
releases-behind_dead = refl

-- the kind and the call come before the releases
releases-wrong_kind : meet_plan (control [] (Live ∷ []) Compatible (Awaiting calls.Turn)) (record { depth = record { level = 1; task = false }; releases = release 1 7 ∷ []; body = payloads.False }) ≡ Refuses WrongKind 66 0
releases-wrong_kind = refl

releases-unmatched : meet_plan (control [] (Live ∷ []) Compatible (Awaiting calls.Turn)) (record { depth = record { level = 1; task = false }; releases = release 1 7 ∷ []; body = payloads.Code NoError }) ≡ Refuses Unmatched 1 1
releases-unmatched = refl

-- an instance is dead only behind the reply that ends it
releases-ending : meet_plan (control [] (Destroying ∷ []) Compatible (Awaiting (calls.Destroy 1))) (record { depth = record { level = 1; task = false }; releases = release 1 7 ∷ []; body = payloads.Code NoError }) ≡ Refuses Unknown 1 7
releases-ending = refl
