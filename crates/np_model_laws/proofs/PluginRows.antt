-- Worked examples of runs, by computing: the plug-in's side.
use Rattle.std.proofs.Common.{◌≡◌, ℕ, ℤ, pos, List, [], ◌∷◌, ◌++◌, refl, ◌∙◌, map, true, Option, Some, None, lit<}
use Rattle.std.proofs.lemmas.List.{append-nil}
use Rattle.std.proofs.lemmas.Fmt.{decimal_digit}
use Rattle.std.specs.Prelude.{codes, decimal}
use Rattle.np_values.specs.declared.error.NpError.TheVariants.{NoError}
use Rattle.np_model.specs.declared.script.Command.{Command}
use Rattle.np_model.specs.declared.script.Command.TheVariants.{Create}
use Rattle.np_message.specs.declared.payload.Payload.TheVariants as payloads
use Rattle.np_model.specs.declared.page.Phase.TheVariants.{Live, Dead}
use Rattle.np_model.specs.declared.plugin.PluginStage.TheVariants.{Serving, Ended}
use Rattle.np_model.specs.declared.refusal.Rule.TheVariants.{WrongKind, Place, Unmatched}
use Rattle.np_message.specs.Encoding.{encoding}
use Rattle.np_model.specs.Side.{SideState}
use Rattle.np_model.specs.Journal.{new_line}
use Rattle.np_model.specs.Run.{Refuses}
use Rattle.np_model.specs.PagePlan.{at_level_1}
use Rattle.np_model.specs.PluginPlan.{PluginControl, plugin_start, plugin_meet}
use Rattle.np_model_laws.proofs.WorkedRows.{commands, page_of_version, plugin_with, after_rounds}

-- the plug-in of the run of a page with these commands
after_commands : List Command → Option ℤ → SideState PluginControl
after_commands commands handler = (after_rounds None (page_of_version 0 27 commands) handler).plugin

line-new : (instance n : ℕ) → decimal instance ≡ n ∷ [] → new_line instance ≡ codes "> inst:" ++ n ∷ codes " new" ++ 10 ∷ []
line-new instance n a = simp a

-- Turn, Destroy and Shutdown print nothing
unprinted : (lines : List ℕ) → lines ++ [] ++ [] ++ [] ≡ lines
unprinted lines = simp append-nil

-- ---- one instance

journal-handled-line : (after_commands commands (Some (pos 0))).journal ≡ new_line 1 ++ [] ++ [] ++ []
unfolding after_commands after_rounds page_of_version plugin_with commands
journal-handled-line = refl

journal-handled : (after_commands commands (Some (pos 0))).journal ≡ codes "> inst:1 new" ++ 10 ∷ []
journal-handled = journal-handled-line ∙ unprinted (new_line 1) ∙ line-new 1 49 (decimal_digit 1 (lit< tt))

journal-unhandled : (after_commands commands None).journal ≡ []
unfolding after_commands after_rounds page_of_version plugin_with commands
journal-unhandled = refl

stage-handled : (after_commands commands (Some (pos 0))).control ≡ record { stage = Ended; phases = Dead ∷ [] }
unfolding after_commands after_rounds page_of_version plugin_with commands
stage-handled = refl

-- the handler returns 3, so there is no Destroy
replies-refused : map encoding (after_commands commands (Some (pos 3))).sent ≡ (0 ∷ 0 ∷ 0 ∷ 5 ∷ 0x45 ∷ 1 ∷ 0 ∷ 0 ∷ 0 ∷ []) ∷ (0 ∷ 0 ∷ 0 ∷ 5 ∷ 0x45 ∷ 1 ∷ 0 ∷ 0 ∷ 3 ∷ []) ∷ (0 ∷ 0 ∷ 0 ∷ 4 ∷ 0x47 ∷ 1 ∷ 0 ∷ 0 ∷ []) ∷ (0 ∷ 0 ∷ 0 ∷ 4 ∷ 0x47 ∷ 1 ∷ 0 ∷ 0 ∷ []) ∷ []
unfolding after_commands after_rounds page_of_version plugin_with commands encoding
replies-refused = refl

journal-refused : (after_commands commands (Some (pos 3))).journal ≡ new_line 1 ++ [] ++ []
unfolding after_commands after_rounds page_of_version plugin_with commands
journal-refused = refl

-- it returns 99, which is no error's number
replies-generic : map encoding (after_commands commands (Some (pos 99))).sent ≡ (0 ∷ 0 ∷ 0 ∷ 5 ∷ 0x45 ∷ 1 ∷ 0 ∷ 0 ∷ 0 ∷ []) ∷ (0 ∷ 0 ∷ 0 ∷ 5 ∷ 0x45 ∷ 1 ∷ 0 ∷ 0 ∷ 1 ∷ []) ∷ (0 ∷ 0 ∷ 0 ∷ 4 ∷ 0x47 ∷ 1 ∷ 0 ∷ 0 ∷ []) ∷ (0 ∷ 0 ∷ 0 ∷ 4 ∷ 0x47 ∷ 1 ∷ 0 ∷ 0 ∷ []) ∷ []
unfolding after_commands after_rounds page_of_version plugin_with commands encoding
replies-generic = refl

-- the page's version is above the plug-in's, so there is no New
incompatible : SideState PluginControl
incompatible = (after_rounds None (page_of_version 1 0 commands) (Some (pos 0))).plugin

replies-incompatible : map encoding incompatible.sent ≡ (0 ∷ 0 ∷ 0 ∷ 5 ∷ 0x45 ∷ 1 ∷ 0 ∷ 0 ∷ 8 ∷ []) ∷ (0 ∷ 0 ∷ 0 ∷ 4 ∷ 0x47 ∷ 1 ∷ 0 ∷ 0 ∷ []) ∷ (0 ∷ 0 ∷ 0 ∷ 4 ∷ 0x47 ∷ 1 ∷ 0 ∷ 0 ∷ []) ∷ []
unfolding incompatible after_rounds page_of_version plugin_with commands encoding
replies-incompatible = refl

journal-incompatible : incompatible.journal ≡ []
unfolding incompatible after_rounds page_of_version plugin_with commands
journal-incompatible = refl

-- ---- two instances

two : List Command
two = Create (codes "t/x") 1 ∷ (Create (codes "t/y") 2 ∷ [])

calls-two : (after_commands two (Some (pos 0))).examined ≡ at_level_1 (payloads.Hello 1 0 27) ∷ at_level_1 (payloads.New 1 1 (codes "t/x") []) ∷ at_level_1 (payloads.New 2 2 (codes "t/y") []) ∷ at_level_1 (payloads.Destroy 1) ∷ at_level_1 (payloads.Destroy 2) ∷ at_level_1 payloads.Shutdown ∷ []
unfolding after_commands after_rounds page_of_version plugin_with two
calls-two = refl

journal-two-lines : (after_commands two (Some (pos 0))).journal ≡ new_line 1 ++ new_line 2 ++ [] ++ [] ++ []
unfolding after_commands after_rounds page_of_version plugin_with two
journal-two-lines = refl

append-same : (a b c d : List ℕ) → a ≡ c → b ≡ d → a ++ b ≡ c ++ d
append-same a b c d e f = cc

journal-two : (after_commands two (Some (pos 0))).journal ≡ codes "> inst:1 new" ++ 10 ∷ [] ++ codes "> inst:2 new" ++ 10 ∷ []
journal-two = journal-two-lines ∙ unprinted (new_line 1 ++ new_line 2) ∙ append-same _ _ _ _ (line-new 1 49 (decimal_digit 1 (lit< tt))) (line-new 2 50 (decimal_digit 2 (lit< tt)))

-- ---- what the plug-in refuses

-- after Hello, with the first instance live and the second dead
serving : PluginControl
serving = record { stage = Serving; phases = Live ∷ Dead ∷ [] }

refuses-turn_first : plugin_meet (plugin_with None) plugin_start (at_level_1 payloads.Turn) ≡ Refuses WrongKind 5 0
unfolding plugin_with
refuses-turn_first = refl

refuses-second_hello : plugin_meet (plugin_with None) serving (at_level_1 (payloads.Hello 1 0 27)) ≡ Refuses WrongKind 1 0
unfolding plugin_with serving
refuses-second_hello = refl

refuses-new_twice : plugin_meet (plugin_with None) (record { stage = Serving; phases = Live ∷ [] }) (at_level_1 (payloads.New 1 1 (codes "t/x") [])) ≡ Refuses WrongKind 2 1
unfolding plugin_with
refuses-new_twice = refl

refuses-destroy_dead : plugin_meet (plugin_with None) serving (at_level_1 (payloads.Destroy 2)) ≡ Refuses WrongKind 3 2
unfolding plugin_with serving
refuses-destroy_dead = refl

refuses-destroy_absent : plugin_meet (plugin_with None) serving (at_level_1 (payloads.Destroy 3)) ≡ Refuses WrongKind 3 3
unfolding plugin_with serving
refuses-destroy_absent = refl

refuses-done : plugin_meet (plugin_with None) serving (at_level_1 payloads.Done) ≡ Refuses WrongKind 71 0
unfolding plugin_with serving
refuses-done = refl

refuses-code : plugin_meet (plugin_with None) serving (at_level_1 (payloads.Code NoError)) ≡ Refuses Unmatched 1 0
unfolding plugin_with serving
refuses-code = refl

refuses-task : plugin_meet (plugin_with None) serving (record { depth = record { level = 1; task = true }; releases = []; body = payloads.Turn }) ≡ Refuses Place 129 0
unfolding plugin_with serving
refuses-task = refl

refuses-after_shutdown : plugin_meet (plugin_with None) (record { stage = Ended; phases = [] }) (at_level_1 payloads.Turn) ≡ Refuses WrongKind 5 0
unfolding plugin_with
refuses-after_shutdown = refl
