-- Worked examples of the plug-in's plans, by computing: the answer to each call, and where the plug-in stands after it.
use Rattle.std.proofs.Common.{◌≡◌, ℕ, ℤ, List, pos, negsuc, [], ◌∷◌, refl, true, false, Option, Some, None}
use Rattle.np_values.specs.declared.error.NpError.TheVariants.{NoError, Generic, IncompatibleVersion, StreamNotSeekable}
use Rattle.np_values.specs.declared.reason.NpReason.TheVariants.{UserBreak}
use Rattle.np_values.specs.declared.value.Value.TheVariants as values
use Rattle.np_idents.specs.declared.op.Op.TheVariants as ops
use Rattle.np_proxy_release.specs.declared.release.Release.{Release}
use Rattle.np_model.specs.declared.script.Plugin.{Plugin}
use Rattle.np_message.specs.declared.payload.Payload.{Payload}
use Rattle.np_message.specs.declared.payload.Payload.TheVariants.{Hello, New, Destroy, Turn, Shutdown, Code, Done}
use Rattle.np_message.specs.declared.payload.Payload.TheVariants as payloads
use Rattle.np_message.specs.Message.{Message}
use Rattle.np_model.specs.declared.page.Phase.TheVariants.{Live, Dead}
use Rattle.np_model.specs.declared.plugin.PluginStage.TheVariants.{Serving, Ended}
use Rattle.np_model.specs.declared.refusal.Rule.TheVariants.{WrongKind, Place, Unmatched, Unknown}
use Rattle.np_model.specs.Side.{Control, Send, Deliver, Print}
use Rattle.np_model.specs.Run.{Meeting, Accepts, Refuses}
use Rattle.np_model.specs.Journal.{new_line}
use Rattle.np_model.specs.PluginPlan.{PluginControl, reply_to, code_of_int, plugin_start, plugin_meet}

-- the plug-in of version 1.3 whose handler `new` returns this, or that has no handler
abbrev plugin : Option ℤ → Plugin
plugin handler = record { major = 1; minor = 3; new_handler = handler }

-- ---- the reply to each call

replies-hello_below : reply_to (plugin None) (Hello 1 0 255) ≡ Code NoError
replies-hello_below = refl

replies-hello_same : reply_to (plugin None) (Hello 1 1 255) ≡ Code NoError
replies-hello_same = refl

replies-hello_above : reply_to (plugin None) (Hello 1 2 0) ≡ Code IncompatibleVersion
replies-hello_above = refl

replies-new : reply_to (plugin None) (New 1 1 [] []) ≡ Code NoError
replies-new = refl

replies-new_handled : reply_to (plugin (Some (pos 13))) (New 1 1 [] []) ≡ Code StreamNotSeekable
replies-new_handled = refl

replies-destroy : reply_to (plugin (Some (pos 13))) (Destroy 1) ≡ Code NoError
replies-destroy = refl

replies-turn : reply_to (plugin None) Turn ≡ Done
replies-turn = refl

replies-shutdown : reply_to (plugin None) Shutdown ≡ Done
replies-shutdown = refl

-- ---- the numbers of a handler

number-0 : code_of_int (pos 0) ≡ NoError
number-0 = refl

number-13 : code_of_int (pos 13) ≡ StreamNotSeekable
number-13 = refl

number-14 : code_of_int (pos 14) ≡ Generic
number-14 = refl

-- 2 ^ 16 is no 0
number-65536 : code_of_int (pos 65536) ≡ Generic
number-65536 = refl

number-below_0 : code_of_int (negsuc 255) ≡ Generic
number-below_0 = refl

-- ---- each call that is served: it is delivered, the plug-in goes on, prints and replies at the call's depth

abbrev at_3 : Payload → Message
at_3 body = record { depth = record { level = 3; task = false }; releases = []; body = body }

abbrev serving : PluginControl
serving = record { stage = Serving; phases = Live ∷ Dead ∷ [] }

serves-hello : plugin_meet (plugin None) plugin_start (at_3 (Hello 1 0 27)) ≡ Accepts (Deliver ∷ Control (record { stage = Serving; phases = [] }) ∷ Print [] ∷ Send (at_3 (Code NoError)) ∷ [])
serves-hello = refl

serves-new : plugin_meet (plugin (Some (pos 0))) serving (at_3 (New 3 1 [] [])) ≡ Accepts (Deliver ∷ Control (record { stage = Serving; phases = Live ∷ Dead ∷ Live ∷ [] }) ∷ Print (new_line 3) ∷ Send (at_3 (Code NoError)) ∷ [])
serves-new = refl

serves-new_failed : plugin_meet (plugin (Some (pos 1))) serving (at_3 (New 3 1 [] [])) ≡ Accepts (Deliver ∷ Control (record { stage = Serving; phases = Live ∷ Dead ∷ Dead ∷ [] }) ∷ Print (new_line 3) ∷ Send (at_3 (Code Generic)) ∷ [])
serves-new_failed = refl

serves-new_unhandled : plugin_meet (plugin None) serving (at_3 (New 3 1 [] [])) ≡ Accepts (Deliver ∷ Control (record { stage = Serving; phases = Live ∷ Dead ∷ Live ∷ [] }) ∷ Print [] ∷ Send (at_3 (Code NoError)) ∷ [])
serves-new_unhandled = refl

serves-destroy : plugin_meet (plugin None) serving (at_3 (Destroy 1)) ≡ Accepts (Deliver ∷ Control (record { stage = Serving; phases = Dead ∷ Dead ∷ [] }) ∷ Print [] ∷ Send (at_3 (Code NoError)) ∷ [])
serves-destroy = refl

serves-turn : plugin_meet (plugin None) serving (at_3 Turn) ≡ Accepts (Deliver ∷ Control serving ∷ Print [] ∷ Send (at_3 Done) ∷ [])
serves-turn = refl

serves-shutdown : plugin_meet (plugin None) serving (at_3 Shutdown) ≡ Accepts (Deliver ∷ Control (record { stage = Ended; phases = Live ∷ Dead ∷ [] }) ∷ Print [] ∷ Send (at_3 Done) ∷ [])
serves-shutdown = refl

-- ---- refusals whose rules both hold: what may not come is refused first

refuses-done_first : plugin_meet (plugin None) plugin_start (at_3 Done) ≡ Refuses WrongKind 71 0
refuses-done_first = refl

refuses-code_of_task : plugin_meet (plugin None) serving (record { depth = record { level = 3; task = true }; releases = []; body = Code NoError }) ≡ Refuses Unmatched 131 0
refuses-code_of_task = refl

refuses-new_ahead : plugin_meet (plugin None) serving (record { depth = record { level = 3; task = true }; releases = []; body = New 4 1 [] [] }) ≡ Refuses WrongKind 2 4
refuses-new_ahead = refl

-- ---- kinds that no plug-in of this level serves

abbrev serves : Payload → Meeting PluginControl
serves body = plugin_meet (plugin None) serving (at_3 body)

refuses-scriptable : serves (payloads.Scriptable 1) ≡ Refuses WrongKind 4 1
refuses-scriptable = refl

refuses-new_stream : serves (payloads.NewStream 1 1 [] [] 0) ≡ Refuses WrongKind 6 1
refuses-new_stream = refl

refuses-write_ready : serves (payloads.WriteReady 1 1) ≡ Refuses WrongKind 7 1
refuses-write_ready = refl

refuses-write : serves (payloads.Write 1 1 0 (0 ∷ [])) ≡ Refuses WrongKind 8 1
refuses-write = refl

refuses-as_file : serves (payloads.AsFile 1 1 []) ≡ Refuses WrongKind 9 1
refuses-as_file = refl

refuses-destroy_stream : serves (payloads.DestroyStream 1 1 UserBreak) ≡ Refuses WrongKind 10 1
refuses-destroy_stream = refl

refuses-notify : serves (payloads.Notify 1 [] UserBreak (pos 0)) ≡ Refuses WrongKind 11 1
refuses-notify = refl

-- calls that a plug-in makes
refuses-window : serves (payloads.Window 1) ≡ Refuses WrongKind 32 1
refuses-window = refl

refuses-get_url : serves (payloads.GetUrl 1 [] (pos 0)) ≡ Refuses WrongKind 33 1
refuses-get_url = refl

refuses-request_read : serves (payloads.RequestRead 1 1 []) ≡ Refuses WrongKind 34 1
refuses-request_read = refl

refuses-end_stream : serves (payloads.EndStream 1 1 UserBreak) ≡ Refuses WrongKind 35 1
refuses-end_stream = refl

refuses-call : serves (payloads.Call 1 1 ops.Enumerate []) ≡ Refuses WrongKind 64 1
refuses-call = refl

refuses-true : serves (payloads.True values.Void) ≡ Refuses WrongKind 65 0
refuses-true = refl

refuses-false : serves payloads.False ≡ Refuses WrongKind 66 0
refuses-false = refl

refuses-threw : serves (payloads.Threw []) ≡ Refuses WrongKind 67 0
refuses-threw = refl

refuses-idents : serves (payloads.Idents []) ≡ Refuses WrongKind 68 0
refuses-idents = refl

refuses-number : serves (payloads.Number (pos 0)) ≡ Refuses WrongKind 70 0
refuses-number = refl

-- ---- releases; the first instance is live, and the second dead

abbrev serves_releases : List Release → Payload → Meeting PluginControl
serves_releases releases body = plugin_meet (plugin None) serving (record { depth = record { level = 3; task = false }; releases = releases; body = body })

abbrev release : ℕ → ℕ → Release
release instance serial = record { instance = instance; serial = serial; times = 1 }

releases-live : serves_releases (release 1 7 ∷ []) Turn ≡ Refuses Unknown 1 7
releases-live = refl

releases-absent : serves_releases (release 3 2 ∷ []) Turn ≡ Refuses Unknown 3 2
releases-absent = refl

-- it comes late, and changes nothing; the reply gives nothing back
releases-dead : serves_releases (release 2 1 ∷ []) Turn ≡ Accepts (Deliver ∷ Control serving ∷ Print [] ∷ Send (at_3 Done) ∷ [])
releases-dead = refl

-- the first that isn't late counts
releases-behind_dead : serves_releases (release 2 9 ∷ release 3 1 ∷ release 4 1 ∷ []) Turn ≡ Refuses Unknown 3 1
releases-behind_dead = refl

-- the instance of a Destroy is live until it is served, and that of a New absent
releases-destroy : serves_releases (release 1 7 ∷ []) (Destroy 1) ≡ Refuses Unknown 1 7
releases-destroy = refl

releases-new : serves_releases (release 3 7 ∷ []) (New 3 1 [] []) ≡ Refuses Unknown 3 7
releases-new = refl

-- kind, reply and mark come before the releases
releases-wrong_kind : serves_releases (release 1 7 ∷ []) Done ≡ Refuses WrongKind 71 0
releases-wrong_kind = refl

releases-unmatched : serves_releases (release 1 7 ∷ []) (Code NoError) ≡ Refuses Unmatched 3 0
releases-unmatched = refl

releases-of_task : plugin_meet (plugin None) serving (record { depth = record { level = 3; task = true }; releases = release 1 7 ∷ []; body = Turn }) ≡ Refuses Place 131 0
releases-of_task = refl
