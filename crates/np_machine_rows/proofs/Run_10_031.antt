-- Made by tools/vector-theorems of tests/vectors/10-031.
use Rattle.std.proofs.Common.{◌≡◌, pos, negsuc, [], ◌∷◌, refl, true, false, Some}
use Rattle.std.specs.Prelude.{codes}
use Rattle.std.specs.Char.{encode_utf8}
use Rattle.std.specs.Fmt.{digits}
use Rattle.std.specs.Str.{is_utf8, chars}
use Rattle.np_values.specs.declared.error.NpError.TheVariants.{InvalidFunctable, ModuleLoadFailed}
use Rattle.np_values.specs.declared.handler.Handler.TheVariants as handlers
use Rattle.np_values.specs.declared.name.Side.TheVariants as sides
use Rattle.np_values.specs.declared.value.Value.TheVariants as values
use Rattle.np_values.specs.Text.{is_text}
use Rattle.np_idents.specs.declared.key.IdKey.TheVariants.{Str, Int as IntKey}
use Rattle.np_idents.specs.declared.op.Op.TheVariants as ops
use Rattle.np_script_grammar.specs.declared.action.Action.TheVariants as actions
use Rattle.np_script_grammar.specs.declared.action.Operand.TheVariants.{Reg, Const}
use Rattle.np_script_grammar.specs.declared.class.Member.TheVariants as members
use Rattle.np_script_grammar.specs.declared.command.Command.TheVariants as commands
use Rattle.np_script_grammar.specs.declared.page.Page.{Page}
use Rattle.np_script_grammar.specs.declared.plugin.Plugin.{Plugin}
use Rattle.np_message.specs.Encoding.{encoding}
use Rattle.np_journal.specs.declared.line.Line.TheVariants.{Created, Entered, HandlerRun, ProxyGone, Invalidated, Deallocated, Noted, CommandResult}
use Rattle.np_journal.specs.declared.printed.Printed.TheVariants as results
use Rattle.np_machine_plans.specs.AtOnce.{orderly_along}
use Rattle.np_machine_plans.specs.Outcomes.{resource, outcome, direct_outcome, page_bytes, plugin_bytes, lost_outcome}

abbrev page : Page
page = record {
  major = 0;
  minor = 27;
  classes = (
      (record {
        name = codes "Window";
        version = 1;
        stored = true;
        members = (
            members.Method (Str (codes "m2")) (actions.Slot 2 (Reg 0) ∷ actions.Slot 3 (Reg 0) ∷ []) ∷
            members.Method (IntKey (pos 4)) (actions.Load 3 1 ∷ actions.Get 2 (Reg 2) (Str (codes "7")) ∷ actions.Load 1 1 ∷ []) ∷
            members.Construct (actions.Load 0 2 ∷ actions.Slot 1 (Reg 2) ∷ actions.New 4 (codes "A") ∷ actions.New 5 (codes "A") ∷ actions.Put (Reg 4) (Str (codes "f1")) (Reg 5) ∷ actions.New 5 (codes "Window") ∷ actions.New 5 (codes "A") ∷ actions.Put (Reg 4) (Str (codes "f0")) (Reg 5) ∷ actions.New 5 (codes "Window") ∷ actions.Put (Reg 4) (IntKey (pos 7)) (Reg 5) ∷ actions.Drop 5 ∷ actions.Return (Reg 5) ∷ []) ∷
            members.Method (Str (codes "m0")) (actions.SelfTo 2 ∷ actions.Load 0 2 ∷ actions.Add 2 (Const (values.Int (pos 2147483647))) (Reg 2) ∷ actions.Load 0 3 ∷ actions.Load 2 0 ∷ actions.CallDefault 3 (Reg 0) (Reg 0 ∷ Const values.Void ∷ []) ∷ []) ∷
            members.Setter (Str (codes "f0")) [] ∷
            members.Method (Str (codes "take")) (actions.SelfTo 2 ∷ actions.Load 3 1 ∷ actions.New 5 (codes "A") ∷ actions.New 2 (codes "B") ∷ actions.Put (Reg 2) (Str (codes "f0")) (Reg 0) ∷ actions.Load 3 1 ∷ actions.Note (Reg 0) ∷ []) ∷
            members.Method (Str (codes "m3")) (actions.Load 3 1 ∷ actions.Add 1 (Const (values.Text (codes "r"))) (Reg 3) ∷ actions.New 2 (codes "B") ∷ actions.New 1 (codes "A") ∷ actions.Put (Reg 0) (Str (codes "f1")) (Reg 0) ∷ actions.Slot 3 (Reg 3) ∷ []) ∷
            members.Method (Str (codes "m1")) (actions.Load 0 3 ∷ actions.Slot 3 (Const values.Void) ∷ actions.Return (Reg 0) ∷ []) ∷ []);
      }) ∷
      (record {
        name = codes "A";
        version = 3;
        stored = true;
        members = (
            members.Method (Str (codes "m1")) (actions.SelfTo 2 ∷ actions.Load 2 0 ∷ actions.Slot 3 (Const (values.Double (0 ∷ 1 ∷ 2 ∷ 3 ∷ 4 ∷ 5 ∷ 6 ∷ 7 ∷ []))) ∷ actions.New 1 (codes "Window") ∷ actions.New 2 (codes "B") ∷ actions.Load 0 3 ∷ actions.Load 3 3 ∷ []) ∷
            members.Method (Str (codes "m2")) (actions.Slot 2 (Reg 0) ∷ []) ∷
            members.Method (Str (codes "m3")) (actions.Load 3 1 ∷ actions.Note (Reg 0) ∷ actions.Invoke 2 (Reg 2) (IntKey (pos 4)) (Reg 1 ∷ Reg 1 ∷ Reg 3 ∷ []) ∷ []) ∷
            members.Method (Str (codes "take")) (actions.Load 2 0 ∷ actions.SelfTo 2 ∷ actions.Load 2 0 ∷ actions.Get 0 (Reg 2) (Str (codes "f0")) ∷ actions.Invoke 1 (Reg 13) (Str (codes "take")) (Reg 2 ∷ Reg 0 ∷ Reg 0 ∷ []) ∷ []) ∷
            members.Method (IntKey (pos 4)) (actions.SelfTo 2 ∷ actions.Slot 3 (Reg 3) ∷ actions.New 1 (codes "A") ∷ actions.Enumerate 1 (Reg 3) ∷ []) ∷
            members.Method (Str (codes "m0")) (actions.Load 2 0 ∷ actions.Load 3 2 ∷ actions.Drop 0 ∷ actions.Load 1 1 ∷ []) ∷ []);
      }) ∷
      (record {
        name = codes "B";
        version = 1;
        stored = true;
        members = (
            members.Method (Str (codes "m3")) [] ∷
            members.Method (Str (codes "take")) (actions.Drop 1 ∷ []) ∷
            members.Default (actions.Load 3 2 ∷ actions.Load 2 0 ∷ actions.New 5 (codes "B") ∷ actions.New 2 (codes "Window") ∷ actions.New 2 (codes "Window") ∷ actions.New 3 (codes "Window") ∷ actions.Drop 1 ∷ actions.Invoke 0 (Reg 2) (IntKey (pos 4)) (Reg 0 ∷ Const (values.Int (pos 13)) ∷ Reg 0 ∷ []) ∷ []) ∷
            members.Method (Str (codes "m2")) (actions.Slot 2 (Reg 0) ∷ []) ∷
            members.Method (Str (codes "m1")) (actions.Load 0 3 ∷ actions.Slot 3 (Const values.Void) ∷ actions.Return (Reg 0) ∷ []) ∷
            members.Method (Str (codes "m0")) (actions.Load 3 2 ∷ actions.Load 2 0 ∷ actions.Note (Reg 1) ∷ actions.Put (Reg 2) (Str (codes "f0")) (Reg 3) ∷ actions.Invoke 3 (Reg 3) (Str (codes "take")) (Reg 1 ∷ Reg 4 ∷ []) ∷ []) ∷ []);
      }) ∷ []);
  resources = (
      resource (codes "r") (codes "t/p") 1 (120 ∷ 1 ∷ 34 ∷ []) ∷
      resource (codes "s") (codes "t/p") 2000 (codes "abc") ∷
      resource (codes "e") (codes "t/p") 0 (120 ∷ 1 ∷ 34 ∷ []) ∷ []);
  commands = (
      commands.Create (codes "t/x") 2 [] ∷
      commands.Scriptable 0 1 ∷
      commands.Create (codes "t/x") 1 [] ∷
      commands.Scriptable 1 2 ∷
      commands.New 2 1 (codes "B") ∷
      commands.New 3 2 (codes "B") ∷
      commands.Invoke 5 (Reg 1) (Str (codes "m2")) (Reg 3 ∷ []) ∷
      commands.Drop 3 ∷
      commands.Invoke 3 (Reg 1) (Str (codes "m1")) [] ∷
      commands.Invoke 5 (Reg 0) (Str (codes "m2")) (Reg 5 ∷ Reg 4 ∷ Reg 1 ∷ []) ∷
      commands.New 5 1 (codes "B") ∷
      commands.Invoke 5 (Reg 3) (Str (codes "m2")) (Reg 4 ∷ []) ∷
      commands.Drop 4 ∷
      commands.Invoke 4 (Reg 3) (Str (codes "m1")) [] ∷
      commands.Turn ∷ []);
}

abbrev plugin : Plugin
plugin = record {
  major = 0;
  minor = 27;
  classes = (
      (record {
        name = codes "Main";
        version = 3;
        stored = false;
        members = (
            members.Method (Str (codes "take")) (actions.New 1 (codes "T") ∷ []) ∷
            members.Method (IntKey (pos 4)) (actions.Load 3 2 ∷ actions.SelfTo 2 ∷ actions.Put (Reg 1) (Str (codes "f0")) (Reg 2) ∷ actions.Slot 2 (Const (values.Text (codes "e"))) ∷ actions.Get 0 (Reg 1) (Str (codes "7")) ∷ actions.Slot 1 (Reg 2) ∷ []) ∷
            members.Method (Str (codes "m3")) (actions.Load 2 0 ∷ actions.Later (codes "u") ∷ actions.Set 3 (Reg 1) ∷ actions.Invoke 2 (Reg 0) (IntKey (pos 4)) (Reg 2 ∷ Reg 0 ∷ Reg 1 ∷ []) ∷ actions.GetUrl 0 (Const (values.Text (codes "s"))) (pos 8) ∷ []) ∷
            members.Method (Str (codes "m1")) (actions.New 5 (codes "Main") ∷ actions.Add 2 (Reg 3) (Reg 0) ∷ actions.Return (Reg 3) ∷ []) ∷
            members.Method (Str (codes "m0")) (actions.Load 3 1 ∷ actions.GetUrl 1 (Const (values.Text (codes "s"))) (pos 7) ∷ []) ∷
            members.Method (Str (codes "m2")) (actions.Slot 2 (Reg 0) ∷ actions.Slot 3 (Reg 0) ∷ []) ∷ []);
      }) ∷
      (record {
        name = codes "T";
        version = 3;
        stored = false;
        members = (
            members.Default (actions.SelfTo 2 ∷ actions.Window 5 ∷ actions.New 1 (codes "U") ∷ []) ∷
            members.Setter (Str (codes "f0")) (actions.Load 3 1 ∷ actions.Load 3 2 ∷ actions.New 1 (codes "U") ∷ actions.Later (codes "u") ∷ actions.New 4 (codes "Main") ∷ actions.Later (codes "u") ∷ actions.Load 3 3 ∷ actions.Get 0 (Reg 3) (Str (codes "7")) ∷ actions.Put (Reg 3) (Str (codes "7")) (Reg 1) ∷ []) ∷
            members.Method (Str (codes "m2")) (actions.Slot 2 (Reg 0) ∷ []) ∷
            members.Method (Str (codes "take")) (actions.SelfTo 2 ∷ actions.Load 3 1 ∷ actions.Get 3 (Reg 0) (Str (codes "f0")) ∷ actions.New 4 (codes "T") ∷ actions.Invoke 1 (Reg 1) (Str (codes "none")) (Reg 3 ∷ Reg 8 ∷ Reg 1 ∷ []) ∷ actions.New 2 (codes "U") ∷ actions.Put (Const (values.Text (codes "e"))) (Str (codes "7")) (Reg 2) ∷ actions.Remove (Reg 3) (IntKey (pos 7)) ∷ []) ∷
            members.Method (Str (codes "m0")) (actions.Remove (Reg 1) (IntKey (pos 7)) ∷ actions.Load 3 2 ∷ actions.New 4 (codes "T") ∷ actions.Put (Reg 4) (Str (codes "f0")) (Reg 3) ∷ actions.Slot 0 (Reg 4) ∷ actions.Drop 4 ∷ []) ∷
            members.Method (Str (codes "m1")) (actions.Load 0 2 ∷ actions.Slot 2 (Const values.Void) ∷ actions.Return (Reg 0) ∷ []) ∷
            members.Method (IntKey (pos 4)) (actions.Note (Reg 4) ∷ actions.Later (codes "v") ∷ actions.New 1 (codes "Main") ∷ actions.New 2 (codes "U") ∷ actions.Invoke 11 (Reg 2) (Str (codes "take")) (Reg 0 ∷ []) ∷ actions.Load 0 1 ∷ actions.Window 2 ∷ []) ∷ []);
      }) ∷
      (record {
        name = codes "U";
        version = 3;
        stored = false;
        members = (
            members.Construct [] ∷
            members.Method (Str (codes "m0")) (actions.Load 1 2 ∷ actions.Load 3 1 ∷ actions.New 3 (codes "Main") ∷ actions.New 1 (codes "Main") ∷ actions.New 4 (codes "T") ∷ actions.Later (codes "v") ∷ []) ∷
            members.Method (Str (codes "m2")) (actions.Slot 2 (Reg 0) ∷ []) ∷
            members.Method (Str (codes "m1")) (actions.Load 0 2 ∷ actions.Slot 2 (Const values.Void) ∷ actions.Return (Reg 0) ∷ []) ∷
            members.Method (Str (codes "m3")) (actions.Load 3 1 ∷ actions.Load 1 2 ∷ actions.Invoke 2 (Reg 2) (IntKey (pos 4)) (Reg 1 ∷ Const (values.Int (pos 100)) ∷ Reg 1 ∷ []) ∷ actions.Load 12 2 ∷ actions.New 1 (codes "U") ∷ actions.Put (Reg 1) (Str (codes "f1")) (Reg 4) ∷ actions.Put (Reg 1) (Str (codes "f1")) (Reg 1) ∷ actions.Slot 2 (Reg 1) ∷ actions.Enumerate 4 (Reg 1) ∷ []) ∷
            members.Getter (Str (codes "f1")) (actions.Load 2 0 ∷ actions.Return (Reg 0) ∷ actions.Note (Const (values.Int (pos 14))) ∷ actions.Set 0 (Reg 3) ∷ []) ∷
            members.Method (IntKey (pos 4)) (actions.Load 3 1 ∷ actions.Load 2 2 ∷ actions.OnEq (Reg 1) (Reg 0) 2 ∷ []) ∷ []);
      }) ∷ []);
  handlers = (
      (record { which = handlers.New; body = (actions.New 0 (codes "Main") ∷ actions.Slot 0 (Reg 0) ∷ actions.Window 1 ∷ actions.Slot 1 (Reg 1) ∷ actions.Load 1 2 ∷ actions.RequestRead 1 (Const (values.Int (pos 4))) ((record { offset = pos 1; length = 9000 }) ∷ (record { offset = pos 1; length = 1 }) ∷ []) ∷ actions.RequestRead 2 (Const (values.Int (pos 4))) ((record { offset = negsuc 2; length = 3 }) ∷ (record { offset = negsuc 1; length = 1 }) ∷ []) ∷ actions.Note (Reg 0) ∷ actions.Slot 3 (Const (values.Double (0 ∷ 1 ∷ 2 ∷ 3 ∷ 4 ∷ 5 ∷ 6 ∷ 7 ∷ []))) ∷ actions.Invoke 5 (Reg 0) (Str (codes "m2")) (Reg 4 ∷ []) ∷ actions.Drop 4 ∷ actions.Invoke 4 (Reg 0) (Str (codes "m0")) (Reg 3 ∷ []) ∷ actions.Return (Const (values.Int (pos 3))) ∷ []) }) ∷
      (record { which = handlers.Scriptable; body = (actions.Load 0 0 ∷ actions.Return (Reg 0) ∷ []) }) ∷
      (record { which = handlers.Write; body = [] }) ∷
      (record { which = handlers.AsFile; body = (actions.New 2 (codes "T") ∷ actions.Slot 3 (Reg 2) ∷ []) }) ∷
      (record { which = handlers.DestroyStream; body = [] }) ∷ []);
  tasks = (
      (record { name = codes "t"; body = (actions.Load 1 1 ∷ actions.Load 0 0 ∷ actions.HasProperty (Reg 2) (Str (codes "f1")) ∷ actions.New 3 (codes "Main") ∷ actions.New 1 (codes "U") ∷ actions.Load 0 2 ∷ actions.GetUrl 1 (Const (values.Text (codes "r"))) (pos 1) ∷ actions.Later (codes "u") ∷ []) }) ∷
      (record { name = codes "u"; body = (actions.Load 1 2 ∷ actions.Invoke 5 (Reg 0) (Str (codes "m2")) (Reg 0 ∷ []) ∷ actions.Drop 0 ∷ []) }) ∷
      (record { name = codes "v"; body = (actions.Load 1 1 ∷ actions.Load 0 3 ∷ actions.Load 3 2 ∷ actions.SelfTo 2 ∷ actions.New 5 (codes "Main") ∷ actions.Load 2 0 ∷ actions.New 4 (codes "Main") ∷ actions.New 1 (codes "T") ∷ actions.Invoke 5 (Reg 0) (Str (codes "m2")) (Reg 4 ∷ []) ∷ actions.Drop 4 ∷ actions.Invoke 4 (Reg 0) (Str (codes "m1")) [] ∷ actions.Later (codes "u") ∷ actions.Load 3 2 ∷ actions.Load 3 1 ∷ actions.SelfTo 3 ∷ actions.RequestRead 0 (Const (values.Int (pos 4))) ((record { offset = negsuc 1; length = 3 }) ∷ []) ∷ []) }) ∷ []);
}

-- the run of both
both-end : outcome 1500 page plugin ≡ record {
  page = (
      Created (record { side = sides.Page; instance = 1; serial = 1 }) ∷
      Invalidated (record { side = sides.Page; instance = 1; serial = 1 }) ∷
      Deallocated (record { side = sides.Page; instance = 1; serial = 1 }) ∷
      CommandResult 1 (results.Code InvalidFunctable) ∷
      CommandResult 2 results.No ∷
      Created (record { side = sides.Page; instance = 2; serial = 1 }) ∷
      Invalidated (record { side = sides.Page; instance = 2; serial = 1 }) ∷
      Deallocated (record { side = sides.Page; instance = 2; serial = 1 }) ∷
      CommandResult 3 (results.Code InvalidFunctable) ∷
      CommandResult 4 results.No ∷
      CommandResult 5 results.No ∷
      CommandResult 6 results.No ∷
      CommandResult 7 results.No ∷
      CommandResult 8 (results.Yes values.Void false) ∷
      CommandResult 9 results.No ∷
      CommandResult 10 results.No ∷
      CommandResult 11 results.No ∷
      CommandResult 12 results.No ∷
      CommandResult 13 (results.Yes values.Void false) ∷
      CommandResult 14 results.No ∷
      CommandResult 15 (results.Yes values.Void false) ∷ []);
  plugin = (
      HandlerRun 1 handlers.New ∷
      Created (record { side = sides.Plug; instance = 1; serial = 1 }) ∷
      Noted (values.Object (record { side = sides.Plug; instance = 1; serial = 1 })) false ∷
      Entered (record { side = sides.Plug; instance = 1; serial = 1 }) (ops.Invoke (Str (codes "m2"))) ∷
      Entered (record { side = sides.Plug; instance = 1; serial = 1 }) (ops.Invoke (Str (codes "m0"))) ∷
      ProxyGone (record { side = sides.Page; instance = 1; serial = 1 }) ∷
      Invalidated (record { side = sides.Plug; instance = 1; serial = 1 }) ∷
      Deallocated (record { side = sides.Plug; instance = 1; serial = 1 }) ∷
      HandlerRun 2 handlers.New ∷
      Created (record { side = sides.Plug; instance = 2; serial = 1 }) ∷
      Noted (values.Object (record { side = sides.Plug; instance = 2; serial = 1 })) false ∷
      Entered (record { side = sides.Plug; instance = 2; serial = 1 }) (ops.Invoke (Str (codes "m2"))) ∷
      Entered (record { side = sides.Plug; instance = 2; serial = 1 }) (ops.Invoke (Str (codes "m0"))) ∷
      ProxyGone (record { side = sides.Page; instance = 2; serial = 1 }) ∷
      Invalidated (record { side = sides.Plug; instance = 2; serial = 1 }) ∷
      Deallocated (record { side = sides.Plug; instance = 2; serial = 1 }) ∷ []);
  files = [];
  rests = true;
}
unfolding encoding digits is_text is_utf8 chars encode_utf8
both-end = refl

-- the direct run
direct-run : direct_outcome 3000 page plugin ≡ record {
  page = (
      Created (record { side = sides.Page; instance = 1; serial = 1 }) ∷
      Invalidated (record { side = sides.Page; instance = 1; serial = 1 }) ∷
      Deallocated (record { side = sides.Page; instance = 1; serial = 1 }) ∷
      CommandResult 1 (results.Code InvalidFunctable) ∷
      CommandResult 2 results.No ∷
      Created (record { side = sides.Page; instance = 2; serial = 1 }) ∷
      Invalidated (record { side = sides.Page; instance = 2; serial = 1 }) ∷
      Deallocated (record { side = sides.Page; instance = 2; serial = 1 }) ∷
      CommandResult 3 (results.Code InvalidFunctable) ∷
      CommandResult 4 results.No ∷
      CommandResult 5 results.No ∷
      CommandResult 6 results.No ∷
      CommandResult 7 results.No ∷
      CommandResult 8 (results.Yes values.Void false) ∷
      CommandResult 9 results.No ∷
      CommandResult 10 results.No ∷
      CommandResult 11 results.No ∷
      CommandResult 12 results.No ∷
      CommandResult 13 (results.Yes values.Void false) ∷
      CommandResult 14 results.No ∷
      CommandResult 15 (results.Yes values.Void false) ∷ []);
  plugin = (
      HandlerRun 1 handlers.New ∷
      Created (record { side = sides.Plug; instance = 1; serial = 1 }) ∷
      Noted (values.Object (record { side = sides.Plug; instance = 1; serial = 1 })) false ∷
      Entered (record { side = sides.Plug; instance = 1; serial = 1 }) (ops.Invoke (Str (codes "m2"))) ∷
      Entered (record { side = sides.Plug; instance = 1; serial = 1 }) (ops.Invoke (Str (codes "m0"))) ∷
      ProxyGone (record { side = sides.Page; instance = 1; serial = 1 }) ∷
      Invalidated (record { side = sides.Plug; instance = 1; serial = 1 }) ∷
      Deallocated (record { side = sides.Plug; instance = 1; serial = 1 }) ∷
      HandlerRun 2 handlers.New ∷
      Created (record { side = sides.Plug; instance = 2; serial = 1 }) ∷
      Noted (values.Object (record { side = sides.Plug; instance = 2; serial = 1 })) false ∷
      Entered (record { side = sides.Plug; instance = 2; serial = 1 }) (ops.Invoke (Str (codes "m2"))) ∷
      Entered (record { side = sides.Plug; instance = 2; serial = 1 }) (ops.Invoke (Str (codes "m0"))) ∷
      ProxyGone (record { side = sides.Page; instance = 2; serial = 1 }) ∷
      Invalidated (record { side = sides.Plug; instance = 2; serial = 1 }) ∷
      Deallocated (record { side = sides.Plug; instance = 2; serial = 1 }) ∷ []);
  files = [];
  rests = true;
}
unfolding encoding digits is_text is_utf8 chars encode_utf8
direct-run = refl

-- each message is delivered at once, and none is refused
orderly-in-rounds : orderly_along (sides.Page ∷ sides.Plug ∷ []) 700 page plugin ≡ true
unfolding encoding digits is_text is_utf8 chars encode_utf8
orderly-in-rounds = refl

-- each message is delivered at once, and none is refused
orderly-page-ahead : orderly_along (sides.Page ∷ sides.Page ∷ sides.Page ∷ sides.Page ∷ sides.Page ∷ sides.Page ∷ sides.Plug ∷ []) 200 page plugin ≡ true
unfolding encoding digits is_text is_utf8 chars encode_utf8
orderly-page-ahead = refl

-- each message is delivered at once, and none is refused
orderly-plugin-ahead : orderly_along (sides.Page ∷ sides.Plug ∷ sides.Plug ∷ sides.Plug ∷ sides.Plug ∷ sides.Plug ∷ sides.Plug ∷ []) 200 page plugin ≡ true
unfolding encoding digits is_text is_utf8 chars encode_utf8
orderly-plugin-ahead = refl

-- all bytes that the page sends
page-sends : page_bytes 1500 page plugin ≡ (0 ∷ 0 ∷ 0 ∷ 7 ∷ 1 ∷ 1 ∷ 0 ∷ 0 ∷ 1 ∷ 0 ∷ 27 ∷ 0 ∷ 0 ∷ 0 ∷ 12 ∷ 2 ∷ 1 ∷ 0 ∷ 0 ∷ 1 ∷ 2 ∷ 0 ∷ 3 ∷ 116 ∷ 47 ∷ 120 ∷ 0 ∷ 0 ∷ 0 ∷ 0 ∷ 11 ∷ 65 ∷ 2 ∷ 0 ∷ 0 ∷ 6 ∷ 0 ∷ 1 ∷ 0 ∷ 0 ∷ 0 ∷ 1 ∷ 0 ∷ 0 ∷ 0 ∷ 5 ∷ 69 ∷ 2 ∷ 0 ∷ 0 ∷ 9 ∷ 0 ∷ 0 ∷ 0 ∷ 5 ∷ 69 ∷ 2 ∷ 0 ∷ 0 ∷ 9 ∷ 0 ∷ 0 ∷ 0 ∷ 5 ∷ 69 ∷ 3 ∷ 0 ∷ 0 ∷ 0 ∷ 0 ∷ 0 ∷ 0 ∷ 12 ∷ 2 ∷ 1 ∷ 0 ∷ 0 ∷ 2 ∷ 1 ∷ 0 ∷ 3 ∷ 116 ∷ 47 ∷ 120 ∷ 0 ∷ 0 ∷ 0 ∷ 0 ∷ 11 ∷ 65 ∷ 2 ∷ 0 ∷ 0 ∷ 6 ∷ 0 ∷ 2 ∷ 0 ∷ 0 ∷ 0 ∷ 1 ∷ 0 ∷ 0 ∷ 0 ∷ 5 ∷ 69 ∷ 2 ∷ 0 ∷ 0 ∷ 9 ∷ 0 ∷ 0 ∷ 0 ∷ 5 ∷ 69 ∷ 2 ∷ 0 ∷ 0 ∷ 9 ∷ 0 ∷ 0 ∷ 0 ∷ 5 ∷ 69 ∷ 3 ∷ 0 ∷ 0 ∷ 0 ∷ 0 ∷ 0 ∷ 0 ∷ 4 ∷ 5 ∷ 1 ∷ 0 ∷ 0 ∷ 0 ∷ 0 ∷ 0 ∷ 4 ∷ 12 ∷ 1 ∷ 0 ∷ 0 ∷ [])
unfolding encoding digits is_text is_utf8 chars encode_utf8
page-sends = refl

-- all bytes that the plugin sends
plugin-sends : plugin_bytes 1500 page plugin ≡ (0 ∷ 0 ∷ 0 ∷ 5 ∷ 69 ∷ 1 ∷ 0 ∷ 0 ∷ 0 ∷ 0 ∷ 0 ∷ 0 ∷ 5 ∷ 32 ∷ 2 ∷ 0 ∷ 0 ∷ 1 ∷ 0 ∷ 0 ∷ 0 ∷ 26 ∷ 34 ∷ 2 ∷ 0 ∷ 0 ∷ 1 ∷ 0 ∷ 0 ∷ 0 ∷ 4 ∷ 2 ∷ 0 ∷ 0 ∷ 0 ∷ 1 ∷ 0 ∷ 0 ∷ 35 ∷ 40 ∷ 0 ∷ 0 ∷ 0 ∷ 1 ∷ 0 ∷ 0 ∷ 0 ∷ 1 ∷ 0 ∷ 0 ∷ 0 ∷ 26 ∷ 34 ∷ 2 ∷ 0 ∷ 0 ∷ 1 ∷ 0 ∷ 0 ∷ 0 ∷ 4 ∷ 2 ∷ 255 ∷ 255 ∷ 255 ∷ 253 ∷ 0 ∷ 0 ∷ 0 ∷ 3 ∷ 255 ∷ 255 ∷ 255 ∷ 254 ∷ 0 ∷ 0 ∷ 0 ∷ 1 ∷ 0 ∷ 0 ∷ 0 ∷ 12 ∷ 33 ∷ 3 ∷ 0 ∷ 0 ∷ 1 ∷ 0 ∷ 1 ∷ 115 ∷ 0 ∷ 0 ∷ 0 ∷ 7 ∷ 0 ∷ 0 ∷ 0 ∷ 5 ∷ 69 ∷ 1 ∷ 0 ∷ 0 ∷ 3 ∷ 0 ∷ 0 ∷ 0 ∷ 5 ∷ 32 ∷ 2 ∷ 0 ∷ 0 ∷ 2 ∷ 0 ∷ 0 ∷ 0 ∷ 26 ∷ 34 ∷ 2 ∷ 0 ∷ 0 ∷ 2 ∷ 0 ∷ 0 ∷ 0 ∷ 4 ∷ 2 ∷ 0 ∷ 0 ∷ 0 ∷ 1 ∷ 0 ∷ 0 ∷ 35 ∷ 40 ∷ 0 ∷ 0 ∷ 0 ∷ 1 ∷ 0 ∷ 0 ∷ 0 ∷ 1 ∷ 0 ∷ 0 ∷ 0 ∷ 26 ∷ 34 ∷ 2 ∷ 0 ∷ 0 ∷ 2 ∷ 0 ∷ 0 ∷ 0 ∷ 4 ∷ 2 ∷ 255 ∷ 255 ∷ 255 ∷ 253 ∷ 0 ∷ 0 ∷ 0 ∷ 3 ∷ 255 ∷ 255 ∷ 255 ∷ 254 ∷ 0 ∷ 0 ∷ 0 ∷ 1 ∷ 0 ∷ 0 ∷ 0 ∷ 12 ∷ 33 ∷ 3 ∷ 0 ∷ 0 ∷ 2 ∷ 0 ∷ 1 ∷ 115 ∷ 0 ∷ 0 ∷ 0 ∷ 7 ∷ 0 ∷ 0 ∷ 0 ∷ 5 ∷ 69 ∷ 1 ∷ 0 ∷ 0 ∷ 3 ∷ 0 ∷ 0 ∷ 0 ∷ 4 ∷ 71 ∷ 1 ∷ 0 ∷ 0 ∷ 0 ∷ 0 ∷ 0 ∷ 4 ∷ 71 ∷ 1 ∷ 0 ∷ 0 ∷ [])
unfolding encoding digits is_text is_utf8 chars encode_utf8
plugin-sends = refl

-- the plug-in's first 90 bytes hold 4 whole messages
cut-90 : lost_outcome 1500 (Some 4) page plugin ≡ record {
  page = (
      Created (record { side = sides.Page; instance = 1; serial = 1 }) ∷
      Invalidated (record { side = sides.Page; instance = 1; serial = 1 }) ∷
      Deallocated (record { side = sides.Page; instance = 1; serial = 1 }) ∷
      CommandResult 1 (results.Code ModuleLoadFailed) ∷
      CommandResult 2 results.No ∷
      CommandResult 3 (results.Code ModuleLoadFailed) ∷
      CommandResult 4 results.No ∷
      CommandResult 5 results.No ∷
      CommandResult 6 results.No ∷
      CommandResult 7 results.No ∷
      CommandResult 8 (results.Yes values.Void false) ∷
      CommandResult 9 results.No ∷
      CommandResult 10 results.No ∷
      CommandResult 11 results.No ∷
      CommandResult 12 results.No ∷
      CommandResult 13 (results.Yes values.Void false) ∷
      CommandResult 14 results.No ∷
      CommandResult 15 results.No ∷ []);
  rests = true;
}
unfolding encoding digits is_text is_utf8 chars encode_utf8
cut-90 = refl

-- the plug-in's first 170 bytes hold 8 whole messages
cut-170 : lost_outcome 1500 (Some 8) page plugin ≡ record {
  page = (
      Created (record { side = sides.Page; instance = 1; serial = 1 }) ∷
      Invalidated (record { side = sides.Page; instance = 1; serial = 1 }) ∷
      Deallocated (record { side = sides.Page; instance = 1; serial = 1 }) ∷
      CommandResult 1 (results.Code InvalidFunctable) ∷
      CommandResult 2 results.No ∷
      Created (record { side = sides.Page; instance = 2; serial = 1 }) ∷
      Invalidated (record { side = sides.Page; instance = 2; serial = 1 }) ∷
      Deallocated (record { side = sides.Page; instance = 2; serial = 1 }) ∷
      CommandResult 3 (results.Code ModuleLoadFailed) ∷
      CommandResult 4 results.No ∷
      CommandResult 5 results.No ∷
      CommandResult 6 results.No ∷
      CommandResult 7 results.No ∷
      CommandResult 8 (results.Yes values.Void false) ∷
      CommandResult 9 results.No ∷
      CommandResult 10 results.No ∷
      CommandResult 11 results.No ∷
      CommandResult 12 results.No ∷
      CommandResult 13 (results.Yes values.Void false) ∷
      CommandResult 14 results.No ∷
      CommandResult 15 results.No ∷ []);
  rests = true;
}
unfolding encoding digits is_text is_utf8 chars encode_utf8
cut-170 = refl
