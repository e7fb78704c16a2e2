-- Worked examples of runs, by computing: the page's side.
use Rattle.std.proofs.Common.{◌≡◌, ℕ, ℤ, pos, negsuc, List, [], ◌∷◌, ◌++◌, refl, ◌∙◌, map, false, Option, Some, None, lit<}
use Rattle.std.proofs.lemmas.List.{append-nil}
use Rattle.std.proofs.lemmas.Fmt.{decimal_digit}
use Rattle.std.specs.Prelude.{codes, decimal}
use Rattle.np_values.specs.NpError.{code_of}
use Rattle.np_values.specs.declared.error.NpError.{NpError}
use Rattle.np_values.specs.declared.error.NpError.TheVariants.{NoError, Generic, InvalidFunctable, ModuleLoadFailed, IncompatibleVersion}
use Rattle.np_model.specs.declared.script.Command.{Command}
use Rattle.np_model.specs.declared.script.Command.TheVariants.{Create, Turn}
use Rattle.np_model.specs.declared.script.Page.{Page}
use Rattle.np_message.specs.declared.payload.Payload.TheVariants as payloads
use Rattle.np_model.specs.declared.page.Stage.TheVariants.{Awaiting, Ended}
use Rattle.np_model.specs.declared.page.Outstanding.TheVariants as calls
use Rattle.np_model.specs.declared.refusal.Rule.TheVariants.{WrongKind, Unmatched}
use Rattle.np_message.specs.Encoding.{encoding}
use Rattle.np_model.specs.Side.{SideState, at_start}
use Rattle.np_model.specs.Journal.{code_line, void_line, false_line}
use Rattle.np_model.specs.Run.{Machine, Refuses, machine_run, endpoint_run}
use Rattle.np_model.specs.PagePlan.{PageControl, page_plans, page_start, meet_plan, at_level_1, lose}
use Rattle.np_model.specs.declared.script.Plugin.{Plugin}
use Rattle.np_model.specs.PluginPlan.{PluginControl, plugin_plans, plugin_start}
use Rattle.np_model_laws.specs.Laws.{both_start}

unfoldable pub commands : List Command
commands = Create (codes "t/x") 1 ∷ (Turn ∷ [])

unfoldable pub page_of_version : ℕ → ℕ → List Command → Page
page_of_version major minor commands = record { major = major; minor = minor; commands = commands }

-- the plug-in whose handler `new` returns this, or that has no handler
unfoldable pub plugin_with : Option ℤ → Plugin
plugin_with handler = record { major = 0; minor = 27; new_handler = handler }

-- the run after twenty rounds, in which this gate lets the plug-in's messages through
unfoldable pub after_rounds : Option ℕ → Page → Option ℤ → Machine PageControl PluginControl
after_rounds gate page handler = machine_run (page_plans page) (plugin_plans (plugin_with handler)) gate None 20 (both_start (page_start page) plugin_start)

-- and the page, gone on alone after the plug-in is lost
after_loss : ℕ → SideState PageControl
after_loss k = endpoint_run (page_plans (page_of_version 0 27 commands)) [] 20 (lose (after_rounds (Some k) (page_of_version 0 27 commands) None).page)

-- ---- the lines that are printed

line-code : (number : ℕ) (error : NpError) (n d : ℕ) → decimal number ≡ n ∷ [] → decimal (code_of error) ≡ d ∷ [] → code_line number error ≡ n ∷ codes ": error " ++ d ∷ 10 ∷ []
line-code number error n d a b = simp (a, b)

line-void : (number n : ℕ) → decimal number ≡ n ∷ [] → void_line number ≡ n ∷ codes ": true void" ++ 10 ∷ []
line-void number n a = simp a

line-false : (number n : ℕ) → decimal number ≡ n ∷ [] → false_line number ≡ n ∷ codes ": false" ++ 10 ∷ []
line-false number n a = simp a

append-same : (a b c d : List ℕ) → a ≡ c → b ≡ d → a ++ b ≡ c ++ d
append-same a b c d e f = cc

-- ---- without a handler New is answered 0

journal-created-lines : (after_rounds None (page_of_version 0 27 commands) None).page.journal ≡ code_line 1 NoError ++ void_line 2 ++ []
unfolding after_rounds page_of_version plugin_with commands
journal-created-lines = refl

journal-created : (after_rounds None (page_of_version 0 27 commands) None).page.journal ≡ codes "1: error 0" ++ 10 ∷ [] ++ codes "2: true void" ++ 10 ∷ []
journal-created = journal-created-lines ∙ append-nil (code_line 1 NoError ++ void_line 2) ∙ append-same _ _ _ _ (line-code 1 NoError 49 48 (decimal_digit 1 (lit< tt)) (decimal_digit 0 (lit< tt))) (line-void 2 50 (decimal_digit 2 (lit< tt)))

calls-created : map encoding (after_rounds None (page_of_version 0 27 commands) None).page.sent ≡ (0 ∷ 0 ∷ 0 ∷ 7 ∷ 1 ∷ 1 ∷ 0 ∷ 0 ∷ 1 ∷ 0 ∷ 0x1b ∷ []) ∷ (0 ∷ 0 ∷ 0 ∷ 12 ∷ 2 ∷ 1 ∷ 0 ∷ 0 ∷ 1 ∷ 1 ∷ 0 ∷ 3 ∷ 0x74 ∷ 0x2f ∷ 0x78 ∷ 0 ∷ []) ∷ (0 ∷ 0 ∷ 0 ∷ 4 ∷ 5 ∷ 1 ∷ 0 ∷ 0 ∷ []) ∷ (0 ∷ 0 ∷ 0 ∷ 5 ∷ 3 ∷ 1 ∷ 0 ∷ 0 ∷ 1 ∷ []) ∷ (0 ∷ 0 ∷ 0 ∷ 4 ∷ 12 ∷ 1 ∷ 0 ∷ 0 ∷ []) ∷ []
unfolding after_rounds page_of_version plugin_with commands encoding
calls-created = refl

replies-created : map encoding (after_rounds None (page_of_version 0 27 commands) None).plugin.sent ≡ (0 ∷ 0 ∷ 0 ∷ 5 ∷ 0x45 ∷ 1 ∷ 0 ∷ 0 ∷ 0 ∷ []) ∷ (0 ∷ 0 ∷ 0 ∷ 5 ∷ 0x45 ∷ 1 ∷ 0 ∷ 0 ∷ 0 ∷ []) ∷ (0 ∷ 0 ∷ 0 ∷ 4 ∷ 0x47 ∷ 1 ∷ 0 ∷ 0 ∷ []) ∷ (0 ∷ 0 ∷ 0 ∷ 5 ∷ 0x45 ∷ 1 ∷ 0 ∷ 0 ∷ 0 ∷ []) ∷ (0 ∷ 0 ∷ 0 ∷ 4 ∷ 0x47 ∷ 1 ∷ 0 ∷ 0 ∷ []) ∷ []
unfolding after_rounds page_of_version plugin_with commands encoding
replies-created = refl

stage-created : (after_rounds None (page_of_version 0 27 commands) None).page.control.stage ≡ Ended
unfolding after_rounds page_of_version plugin_with commands
stage-created = refl

-- ---- the handler returns 3

journal-refused-lines : (after_rounds None (page_of_version 0 27 commands) (Some (pos 3))).page.journal ≡ code_line 1 InvalidFunctable ++ void_line 2
unfolding after_rounds page_of_version plugin_with commands
journal-refused-lines = refl

journal-refused : (after_rounds None (page_of_version 0 27 commands) (Some (pos 3))).page.journal ≡ codes "1: error 3" ++ 10 ∷ [] ++ codes "2: true void" ++ 10 ∷ []
journal-refused = journal-refused-lines ∙ append-same _ _ _ _ (line-code 1 InvalidFunctable 49 51 (decimal_digit 1 (lit< tt)) (decimal_digit 3 (lit< tt))) (line-void 2 50 (decimal_digit 2 (lit< tt)))

calls-refused : (after_rounds None (page_of_version 0 27 commands) (Some (pos 3))).page.sent ≡ at_level_1 (payloads.Hello 1 0 27) ∷ at_level_1 (payloads.New 1 1 (codes "t/x") []) ∷ at_level_1 payloads.Turn ∷ at_level_1 payloads.Shutdown ∷ []
unfolding after_rounds page_of_version plugin_with commands
calls-refused = refl

-- ---- a handler that returns 0 creates the instance, and one that returns no error's number gives code 1

journal-returned_0 : (after_rounds None (page_of_version 0 27 commands) (Some (pos 0))).page.journal ≡ code_line 1 NoError ++ void_line 2 ++ []
unfolding after_rounds page_of_version plugin_with commands
journal-returned_0 = refl

journal-returned_99 : (after_rounds None (page_of_version 0 27 commands) (Some (pos 99))).page.journal ≡ code_line 1 Generic ++ void_line 2
unfolding after_rounds page_of_version plugin_with commands
journal-returned_99 = refl

journal-returned_below_0 : (after_rounds None (page_of_version 0 27 commands) (Some (negsuc 0))).page.journal ≡ code_line 1 Generic ++ void_line 2
unfolding after_rounds page_of_version plugin_with commands
journal-returned_below_0 = refl

calls-returned_99 : (after_rounds None (page_of_version 0 27 commands) (Some (pos 99))).page.sent ≡ at_level_1 (payloads.Hello 1 0 27) ∷ at_level_1 (payloads.New 1 1 (codes "t/x") []) ∷ at_level_1 payloads.Turn ∷ at_level_1 payloads.Shutdown ∷ []
unfolding after_rounds page_of_version plugin_with commands
calls-returned_99 = refl

-- ---- the page's version is above the plug-in's

journal-incompatible-lines : (after_rounds None (page_of_version 1 0 commands) None).page.journal ≡ code_line 1 IncompatibleVersion ++ void_line 2
unfolding after_rounds page_of_version plugin_with commands
journal-incompatible-lines = refl

journal-incompatible : (after_rounds None (page_of_version 1 0 commands) None).page.journal ≡ codes "1: error 8" ++ 10 ∷ [] ++ codes "2: true void" ++ 10 ∷ []
journal-incompatible = journal-incompatible-lines ∙ append-same _ _ _ _ (line-code 1 IncompatibleVersion 49 56 (decimal_digit 1 (lit< tt)) (decimal_digit 8 (lit< tt))) (line-void 2 50 (decimal_digit 2 (lit< tt)))

calls-incompatible : (after_rounds None (page_of_version 1 0 commands) None).page.sent ≡ at_level_1 (payloads.Hello 1 1 0) ∷ at_level_1 payloads.Turn ∷ at_level_1 payloads.Shutdown ∷ []
unfolding after_rounds page_of_version plugin_with commands
calls-incompatible = refl

-- ---- the plug-in is lost

journal-lost_1-lines : (after_loss 1).journal ≡ code_line 1 ModuleLoadFailed ++ false_line 2
unfolding after_loss after_rounds page_of_version plugin_with commands
journal-lost_1-lines = refl

journal-lost_1 : (after_loss 1).journal ≡ codes "1: error 4" ++ 10 ∷ [] ++ codes "2: false" ++ 10 ∷ []
journal-lost_1 = journal-lost_1-lines ∙ append-same _ _ _ _ (line-code 1 ModuleLoadFailed 49 52 (decimal_digit 1 (lit< tt)) (decimal_digit 4 (lit< tt))) (line-false 2 50 (decimal_digit 2 (lit< tt)))

journal-lost_2-lines : (after_loss 2).journal ≡ code_line 1 NoError ++ false_line 2
unfolding after_loss after_rounds page_of_version plugin_with commands
journal-lost_2-lines = refl

journal-lost_2 : (after_loss 2).journal ≡ codes "1: error 0" ++ 10 ∷ [] ++ codes "2: false" ++ 10 ∷ []
journal-lost_2 = journal-lost_2-lines ∙ append-same _ _ _ _ (line-code 1 NoError 49 48 (decimal_digit 1 (lit< tt)) (decimal_digit 0 (lit< tt))) (line-false 2 50 (decimal_digit 2 (lit< tt)))

journal-lost_3-lines : (after_loss 3).journal ≡ code_line 1 NoError ++ void_line 2
unfolding after_loss after_rounds page_of_version plugin_with commands
journal-lost_3-lines = refl

journal-lost_3 : (after_loss 3).journal ≡ codes "1: error 0" ++ 10 ∷ [] ++ codes "2: true void" ++ 10 ∷ []
journal-lost_3 = journal-lost_3-lines ∙ append-same _ _ _ _ (line-code 1 NoError 49 48 (decimal_digit 1 (lit< tt)) (decimal_digit 0 (lit< tt))) (line-void 2 50 (decimal_digit 2 (lit< tt)))

stage-lost : (after_loss 1).control.stage ∷ (after_loss 2).control.stage ∷ (after_loss 3).control.stage ∷ [] ≡ Ended ∷ Ended ∷ Ended ∷ []
unfolding after_loss after_rounds page_of_version plugin_with commands
stage-lost = refl

-- the plug-in is lost before Hello
lost_first : SideState PageControl
lost_first = endpoint_run (page_plans (page_of_version 0 27 commands)) [] 4 (lose (at_start (page_start (page_of_version 0 27 commands))))

journal-lost_first-lines : lost_first.journal ≡ code_line 1 ModuleLoadFailed ++ false_line 2
unfolding lost_first page_of_version commands
journal-lost_first-lines = refl

sent-lost_first : lost_first.sent ≡ []
unfolding lost_first page_of_version commands
sent-lost_first = refl

-- ---- a page without commands

calls-empty : (after_rounds None (page_of_version 0 27 []) None).page.sent ≡ at_level_1 (payloads.Hello 1 0 27) ∷ at_level_1 payloads.Shutdown ∷ []
unfolding after_rounds page_of_version plugin_with
calls-empty = refl

journal-empty : (after_rounds None (page_of_version 0 27 []) None).page.journal ≡ []
unfolding after_rounds page_of_version plugin_with
journal-empty = refl

-- ---- what the page refuses while Turn awaits its reply

awaiting : PageControl
awaiting = (after_rounds (Some 2) (page_of_version 0 27 commands) None).page.control

awaits-turn : awaiting.stage ≡ Awaiting calls.Turn
unfolding awaiting after_rounds page_of_version plugin_with commands
awaits-turn = refl

refuses-call : meet_plan awaiting (at_level_1 payloads.Turn) ≡ Refuses WrongKind 5 0
unfolding awaiting after_rounds page_of_version plugin_with commands
refuses-call = refl

refuses-level : meet_plan awaiting (record { depth = record { level = 2; task = false }; releases = []; body = payloads.Done }) ≡ Refuses Unmatched 2 1
unfolding awaiting after_rounds page_of_version plugin_with commands
refuses-level = refl

refuses-code : meet_plan awaiting (at_level_1 (payloads.Code NoError)) ≡ Refuses Unmatched 1 1
unfolding awaiting after_rounds page_of_version plugin_with commands
refuses-code = refl

refuses-destroy : meet_plan awaiting (at_level_1 (payloads.Destroy 1)) ≡ Refuses WrongKind 3 1
unfolding awaiting after_rounds page_of_version plugin_with commands
refuses-destroy = refl
