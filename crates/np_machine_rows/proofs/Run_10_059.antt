-- Made by tools/vector-theorems of tests/vectors/10-059.
use Rattle.std.proofs.Common.{◌≡◌, pos, negsuc, [], ◌∷◌, refl, true, false}
use Rattle.std.specs.Prelude.{codes}
use Rattle.std.specs.Char.{encode_utf8}
use Rattle.std.specs.Fmt.{digits}
use Rattle.std.specs.Str.{is_utf8, chars}
use Rattle.np_values.specs.declared.error.NpError.TheVariants.{NoError}
use Rattle.np_values.specs.declared.handler.Handler.TheVariants as handlers
use Rattle.np_values.specs.declared.name.Side.TheVariants as sides
use Rattle.np_values.specs.declared.value.Value.TheVariants as values
use Rattle.np_values.specs.Text.{is_text}
use Rattle.np_idents.specs.declared.key.IdKey.TheVariants.{Str, Int as IntKey}
use Rattle.np_idents.specs.declared.op.Op.TheVariants as ops
use Rattle.np_script_grammar.specs.declared.action.Action.TheVariants as actions
use Rattle.np_script_grammar.specs.declared.action.Operand.TheVariants.{Reg, Const}
use Rattle.np_script_grammar.specs.declared.class.Member.TheVariants as members
use Rattle.np_script_grammar.specs.declared.command.Command.TheVariants as commands
use Rattle.np_script_grammar.specs.declared.page.Page.{Page}
use Rattle.np_script_grammar.specs.declared.plugin.Plugin.{Plugin}
use Rattle.np_message.specs.Encoding.{encoding}
use Rattle.np_journal.specs.declared.line.Line.TheVariants.{Created, Entered, HandlerRun, ProxyGone, Invalidated, Deallocated, StreamAnswered, CommandResult}
use Rattle.np_journal.specs.declared.printed.Printed.TheVariants as results
use Rattle.np_journal.specs.declared.streamed.Streamed.TheVariants as streams
use Rattle.np_machine_plans.specs.AtOnce.{orderly_along}
use Rattle.np_machine_plans.specs.Outcomes.{resource, outcome, direct_outcome, page_bytes, plugin_bytes}

abbrev page : Page
page = record {
  major = 0;
  minor = 27;
  classes = (
      (record {
        name = codes "Window";
        version = 1;
        stored = false;
        members = (
            members.Method (Str (codes "take")) (actions.Load 0 2 ∷ actions.Load 3 1 ∷ actions.Invoke 2 (Reg 3) (IntKey (pos 4)) (Reg 3 ∷ Reg 0 ∷ []) ∷ actions.Put (Reg 0) (Str (codes "f0")) (Reg 0) ∷ actions.Destroy 1 1 ∷ actions.Load 2 2 ∷ actions.SelfTo 2 ∷ actions.Invoke 3 (Reg 14) (Str (codes "take")) (Reg 3 ∷ Reg 3 ∷ []) ∷ actions.Add 2 (Const (values.Int (negsuc 2147483647))) (Reg 0) ∷ []) ∷
            members.Method (Str (codes "m2")) (actions.SelfTo 2 ∷ actions.New 0 (codes "B") ∷ []) ∷
            members.Method (Str (codes "m0")) (actions.New 1 (codes "Window") ∷ actions.New 2 (codes "B") ∷ []) ∷
            members.Method (Str (codes "m1")) (actions.Construct 0 (Reg 2) (Const (values.Text (codes "e")) ∷ Reg 3 ∷ Reg 1 ∷ []) ∷ actions.Invoke 5 (Reg 3) (Str (codes "take")) (Reg 3 ∷ Reg 1 ∷ Const (values.Int (pos 1)) ∷ []) ∷ actions.Invoke 1 (Reg 3) (Str (codes "take")) (Const (values.Int (pos 1)) ∷ Reg 3 ∷ Const (values.Text (codes "e")) ∷ []) ∷ []) ∷
            members.Default [] ∷
            members.Method (Str (codes "m3")) (actions.Load 0 2 ∷ actions.Note (Reg 1) ∷ actions.Load 3 1 ∷ []) ∷
            members.Method (IntKey (pos 4)) (actions.SelfTo 2 ∷ actions.New 4 (codes "Window") ∷ actions.New 3 (codes "B") ∷ actions.New 5 (codes "Window") ∷ []) ∷
            members.Getter (Str (codes "7")) (actions.Load 2 0 ∷ actions.Load 2 3 ∷ actions.Return (Reg 1) ∷ actions.Slot 3 (Reg 3) ∷ []) ∷
            members.Construct [] ∷ []);
      }) ∷
      (record {
        name = codes "A";
        version = 2;
        stored = true;
        members = (
            members.Method (IntKey (pos 4)) (actions.Load 4 2 ∷ actions.Load 3 1 ∷ actions.SelfTo 1 ∷ []) ∷
            members.Method (Str (codes "m1")) (actions.Get 2 (Reg 2) (Str (codes "f0")) ∷ []) ∷
            members.Method (Str (codes "m0")) (actions.Load 3 3 ∷ actions.Get 1 (Reg 3) (Str (codes "f0")) ∷ actions.Put (Reg 3) (Str (codes "f0")) (Reg 0) ∷ []) ∷
            members.Method (Str (codes "m2")) (actions.New 2 (codes "B") ∷ actions.New 1 (codes "A") ∷ []) ∷
            members.Setter (Str (codes "f1")) (actions.Load 2 0 ∷ actions.SelfTo 2 ∷ actions.Throw [] ∷ []) ∷
            members.Method (Str (codes "m3")) (actions.SelfTo 2 ∷ actions.Load 3 1 ∷ actions.Get 2 (Reg 1) (Str (codes "f0")) ∷ actions.New 4 (codes "B") ∷ actions.New 5 (codes "B") ∷ actions.Put (Reg 4) (Str (codes "f1")) (Reg 5) ∷ actions.New 5 (codes "A") ∷ actions.Put (Reg 4) (IntKey (pos 7)) (Reg 5) ∷ actions.New 5 (codes "Window") ∷ actions.Put (Reg 4) (Str (codes "f0")) (Reg 2) ∷ []) ∷
            members.Method (Str (codes "take")) (actions.Load 3 1 ∷ actions.HasProperty (Reg 0) (Str (codes "f1")) ∷ []) ∷ []);
      }) ∷
      (record {
        name = codes "B";
        version = 1;
        stored = true;
        members = (
            members.Method (Str (codes "m0")) (actions.HasMethod (Reg 1) (Str (codes "m1")) ∷ actions.Invoke 0 (Reg 3) (Str (codes "m0")) (Reg 1 ∷ Reg 3 ∷ Reg 2 ∷ []) ∷ []) ∷
            members.Method (Str (codes "m2")) (actions.Invoke 1 (Reg 3) (Str (codes "m3")) (Reg 3 ∷ Reg 1 ∷ Reg 1 ∷ []) ∷ actions.New 3 (codes "Window") ∷ actions.Put (Reg 3) (IntKey (pos 7)) (Reg 1) ∷ actions.Get 1 (Reg 3) (IntKey (pos 7)) ∷ actions.Remove (Reg 3) (IntKey (pos 7)) ∷ []) ∷
            members.Method (Str (codes "take")) (actions.Note (Reg 0) ∷ actions.Enumerate 0 (Reg 2) ∷ []) ∷
            members.Method (IntKey (pos 4)) (actions.Load 3 1 ∷ actions.Load 3 2 ∷ actions.New 1 (codes "A") ∷ actions.New 3 (codes "B") ∷ actions.New 4 (codes "A") ∷ []) ∷
            members.Default (actions.Load 3 1 ∷ actions.Invoke 0 (Reg 13) (Str (codes "m2")) (Reg 2 ∷ Reg 0 ∷ []) ∷ actions.Destroy 0 3 ∷ []) ∷
            members.Method (Str (codes "m1")) [] ∷
            members.Method (Str (codes "m3")) (actions.Load 3 2 ∷ actions.Load 2 0 ∷ actions.New 5 (codes "A") ∷ actions.New 4 (codes "A") ∷ []) ∷ []);
      }) ∷ []);
  resources = (
      resource (codes "r") (codes "t/p") 1 (codes "0123456789") ∷
      resource (codes "e") (codes "t/p") 0 (195 ∷ 164 ∷ 226 ∷ 130 ∷ 172 ∷ []) ∷ []);
  commands = (
      commands.Create (codes "t/x") 1 [] ∷
      commands.Scriptable 0 1 ∷
      commands.New 2 1 (codes "Window") ∷
      commands.New 3 1 (codes "A") ∷
      commands.Pump 8 ∷
      commands.Invoke 10 (Reg 3) (IntKey (pos 4)) (Reg 3 ∷ Const (values.Text (195 ∷ 164 ∷ 34 ∷ 92 ∷ 1 ∷ 127 ∷ [])) ∷ Reg 0 ∷ []) ∷
      commands.Invoke 5 (Reg 1) (Str (codes "m1")) (Const (values.Int (pos 100)) ∷ Reg 1 ∷ Reg 0 ∷ []) ∷
      commands.Invoke 1 (Reg 0) (Str (codes "m2")) (Reg 4 ∷ Reg 1 ∷ []) ∷ []);
}

abbrev plugin : Plugin
plugin = record {
  major = 0;
  minor = 27;
  classes = (
      (record {
        name = codes "Main";
        version = 3;
        stored = true;
        members = (
            members.Method (IntKey (pos 4)) (actions.Load 3 1 ∷ actions.New 1 (codes "T") ∷ actions.Add 2 (Reg 2) (Reg 5) ∷ []) ∷
            members.Method (Str (codes "m2")) (actions.Load 2 0 ∷ actions.Load 0 1 ∷ actions.New 3 (codes "U") ∷ actions.Construct 1 (Reg 3) (Reg 2 ∷ Reg 2 ∷ Reg 1 ∷ []) ∷ []) ∷
            members.Method (Str (codes "take")) (actions.Slot 1 (Reg 1) ∷ actions.Load 3 1 ∷ []) ∷
            members.Construct (actions.Invoke 5 (Reg 2) (IntKey (pos 4)) (Reg 0 ∷ Reg 0 ∷ Reg 2 ∷ []) ∷ actions.Invoke 2 (Reg 2) (Str (codes "m2")) (Reg 2 ∷ Reg 1 ∷ []) ∷ []) ∷
            members.Method (Str (codes "m0")) (actions.SelfTo 3 ∷ actions.Load 1 2 ∷ actions.Add 2 (Reg 3) (Reg 0) ∷ []) ∷
            members.Getter (Str (codes "f1")) (actions.Throw (codes "no") ∷ actions.New 2 (codes "U") ∷ actions.New 1 (codes "U") ∷ actions.Drop 3 ∷ actions.Get 0 (Reg 12) (Str (codes "f0")) ∷ []) ∷
            members.Default (actions.SelfTo 2 ∷ actions.Invoke 3 (Reg 3) (Str (codes "m2")) (Const (values.Int (pos 0)) ∷ Reg 1 ∷ Const (values.Int (pos 0)) ∷ []) ∷ []) ∷
            members.Method (Str (codes "m3")) (actions.Load 2 0 ∷ actions.Later (codes "t") ∷ actions.Fail ∷ []) ∷ []);
      }) ∷
      (record {
        name = codes "T";
        version = 1;
        stored = true;
        members = (
            members.Method (Str (codes "m0")) (actions.Load 2 0 ∷ actions.SelfTo 2 ∷ actions.Load 1 1 ∷ []) ∷
            members.Method (Str (codes "take")) [] ∷
            members.Method (Str (codes "m1")) (actions.Load 2 0 ∷ actions.Invoke 4 (Reg 0) (Str (codes "take")) (Reg 3 ∷ Reg 2 ∷ Reg 3 ∷ []) ∷ actions.Later (codes "t") ∷ []) ∷
            members.Method (IntKey (pos 4)) [] ∷
            members.Method (Str (codes "m3")) (actions.Load 2 0 ∷ actions.Load 3 1 ∷ actions.New 2 (codes "U") ∷ actions.Invoke 2 (Reg 1) (IntKey (pos 4)) (Const (values.Text []) ∷ Reg 0 ∷ Reg 0 ∷ []) ∷ []) ∷
            members.Method (Str (codes "m2")) (actions.SelfTo 2 ∷ actions.Load 0 2 ∷ actions.Set 2 (Reg 1) ∷ []) ∷ []);
      }) ∷
      (record {
        name = codes "U";
        version = 1;
        stored = true;
        members = (
            members.Method (Str (codes "m1")) (actions.Load 3 1 ∷ actions.Load 3 2 ∷ actions.Slot 0 (Const (values.Text (195 ∷ 164 ∷ 34 ∷ 92 ∷ 1 ∷ 127 ∷ []))) ∷ []) ∷
            members.Method (Str (codes "m2")) [] ∷
            members.Method (Str (codes "take")) (actions.Load 2 2 ∷ actions.Later (codes "t") ∷ actions.SelfTo 3 ∷ []) ∷
            members.Method (Str (codes "m3")) (actions.SelfTo 2 ∷ actions.Load 3 2 ∷ actions.Invoke 5 (Reg 0) (IntKey (pos 4)) [] ∷ actions.New 5 (codes "T") ∷ actions.New 1 (codes "Main") ∷ actions.Later (codes "v") ∷ actions.Load 0 2 ∷ []) ∷
            members.Method (Str (codes "m0")) (actions.Load 2 0 ∷ actions.Load 3 1 ∷ actions.Put (Const (values.Double (0 ∷ 1 ∷ 2 ∷ 3 ∷ 4 ∷ 5 ∷ 6 ∷ 7 ∷ []))) (Str (codes "f0")) (Reg 2) ∷ []) ∷ []);
      }) ∷ []);
  handlers = (
      (record { which = handlers.New; body = (actions.New 0 (codes "Main") ∷ actions.Slot 0 (Reg 0) ∷ actions.Window 1 ∷ actions.Slot 1 (Reg 1) ∷ actions.Load 3 1 ∷ actions.Load 2 0 ∷ actions.Construct 2 (Reg 2) (Reg 4 ∷ []) ∷ actions.GetUrl 1 (Const (values.Text (codes "r"))) (negsuc 1) ∷ []) }) ∷
      (record { which = handlers.Scriptable; body = (actions.SelfTo 2 ∷ actions.Load 2 0 ∷ actions.New 1 (codes "T") ∷ actions.New 3 (codes "U") ∷ actions.New 2 (codes "T") ∷ actions.Invoke 2 (Reg 2) (IntKey (pos 4)) (Reg 3 ∷ Const (values.Text (codes "e")) ∷ []) ∷ actions.Load 0 0 ∷ actions.Return (Reg 0) ∷ []) }) ∷
      (record { which = handlers.NewStream; body = (actions.OnEq (Reg 0) (Const (values.Int (pos 1))) 1 ∷ actions.Return (Const (values.Int (pos 2))) ∷ actions.Return (Const (values.Int (pos 2))) ∷ []) }) ∷
      (record { which = handlers.DestroyStream; body = (actions.SelfTo 2 ∷ actions.New 3 (codes "T") ∷ []) }) ∷ []);
  tasks = (
      (record { name = codes "t"; body = (actions.Load 1 1 ∷ actions.Load 0 2 ∷ actions.Load 0 2 ∷ actions.Later (codes "u") ∷ actions.Invoke 3 (Reg 0) (Str (codes "m3")) (Reg 1 ∷ Reg 0 ∷ []) ∷ actions.HasMethod (Reg 2) (Str (codes "m1")) ∷ actions.Invoke 3 (Reg 1) (Str (codes "m1")) (Reg 1 ∷ Reg 2 ∷ Reg 3 ∷ []) ∷ actions.Return (Reg 3) ∷ []) }) ∷
      (record { name = codes "u"; body = (actions.Load 2 2 ∷ actions.CallDefault 1 (Reg 1) (Reg 2 ∷ Reg 5 ∷ []) ∷ actions.New 2 (codes "U") ∷ actions.Note (Reg 2) ∷ []) }) ∷ []);
}

-- the run of both
both-end : outcome 1500 page plugin ≡ record {
  page = (
      Created (record { side = sides.Page; instance = 1; serial = 1 }) ∷
      CommandResult 1 (results.Code NoError) ∷
      CommandResult 2 (results.Yes (values.Object (record { side = sides.Plug; instance = 1; serial = 1 })) false) ∷
      Created (record { side = sides.Page; instance = 1; serial = 2 }) ∷
      CommandResult 3 (results.Yes (values.Object (record { side = sides.Page; instance = 1; serial = 2 })) false) ∷
      Created (record { side = sides.Page; instance = 1; serial = 3 }) ∷
      CommandResult 4 (results.Yes (values.Object (record { side = sides.Page; instance = 1; serial = 3 })) false) ∷
      StreamAnswered 1 (streams.New (pos 2)) ∷
      CommandResult 5 (results.Pumped 1) ∷
      Entered (record { side = sides.Page; instance = 1; serial = 3 }) (ops.Invoke (IntKey (pos 4))) ∷
      CommandResult 6 (results.Yes values.Void false) ∷
      CommandResult 7 results.No ∷
      CommandResult 8 (results.Yes values.Void false) ∷
      ProxyGone (record { side = sides.Plug; instance = 1; serial = 1 }) ∷
      Invalidated (record { side = sides.Page; instance = 1; serial = 1 }) ∷
      Invalidated (record { side = sides.Page; instance = 1; serial = 2 }) ∷
      Invalidated (record { side = sides.Page; instance = 1; serial = 3 }) ∷
      Deallocated (record { side = sides.Page; instance = 1; serial = 1 }) ∷
      Deallocated (record { side = sides.Page; instance = 1; serial = 2 }) ∷
      Deallocated (record { side = sides.Page; instance = 1; serial = 3 }) ∷ []);
  plugin = (
      HandlerRun 1 handlers.New ∷
      Created (record { side = sides.Plug; instance = 1; serial = 1 }) ∷
      Entered (record { side = sides.Plug; instance = 1; serial = 1 }) ops.Construct ∷
      HandlerRun 1 handlers.Scriptable ∷
      Created (record { side = sides.Plug; instance = 1; serial = 2 }) ∷
      Created (record { side = sides.Plug; instance = 1; serial = 3 }) ∷
      Created (record { side = sides.Plug; instance = 1; serial = 4 }) ∷
      Entered (record { side = sides.Plug; instance = 1; serial = 4 }) (ops.Invoke (IntKey (pos 4))) ∷
      Deallocated (record { side = sides.Plug; instance = 1; serial = 4 }) ∷
      Deallocated (record { side = sides.Plug; instance = 1; serial = 2 }) ∷
      Deallocated (record { side = sides.Plug; instance = 1; serial = 3 }) ∷
      HandlerRun 1 handlers.NewStream ∷
      Entered (record { side = sides.Plug; instance = 1; serial = 1 }) (ops.Invoke (Str (codes "m2"))) ∷
      Created (record { side = sides.Plug; instance = 1; serial = 5 }) ∷
      Deallocated (record { side = sides.Plug; instance = 1; serial = 5 }) ∷
      ProxyGone (record { side = sides.Page; instance = 1; serial = 1 }) ∷
      Invalidated (record { side = sides.Plug; instance = 1; serial = 1 }) ∷
      Deallocated (record { side = sides.Plug; instance = 1; serial = 1 }) ∷ []);
  files = [];
  rests = true;
}
unfolding encoding digits is_text is_utf8 chars encode_utf8
both-end = refl

-- the direct run
direct-run : direct_outcome 3000 page plugin ≡ record {
  page = (
      Created (record { side = sides.Page; instance = 1; serial = 1 }) ∷
      CommandResult 1 (results.Code NoError) ∷
      CommandResult 2 (results.Yes (values.Object (record { side = sides.Plug; instance = 1; serial = 1 })) false) ∷
      Created (record { side = sides.Page; instance = 1; serial = 2 }) ∷
      CommandResult 3 (results.Yes (values.Object (record { side = sides.Page; instance = 1; serial = 2 })) false) ∷
      Created (record { side = sides.Page; instance = 1; serial = 3 }) ∷
      CommandResult 4 (results.Yes (values.Object (record { side = sides.Page; instance = 1; serial = 3 })) false) ∷
      StreamAnswered 1 (streams.New (pos 2)) ∷
      CommandResult 5 (results.Pumped 1) ∷
      Entered (record { side = sides.Page; instance = 1; serial = 3 }) (ops.Invoke (IntKey (pos 4))) ∷
      CommandResult 6 (results.Yes values.Void false) ∷
      CommandResult 7 results.No ∷
      CommandResult 8 (results.Yes values.Void false) ∷
      ProxyGone (record { side = sides.Plug; instance = 1; serial = 1 }) ∷
      Invalidated (record { side = sides.Page; instance = 1; serial = 1 }) ∷
      Invalidated (record { side = sides.Page; instance = 1; serial = 2 }) ∷
      Invalidated (record { side = sides.Page; instance = 1; serial = 3 }) ∷
      Deallocated (record { side = sides.Page; instance = 1; serial = 1 }) ∷
      Deallocated (record { side = sides.Page; instance = 1; serial = 2 }) ∷
      Deallocated (record { side = sides.Page; instance = 1; serial = 3 }) ∷ []);
  plugin = (
      HandlerRun 1 handlers.New ∷
      Created (record { side = sides.Plug; instance = 1; serial = 1 }) ∷
      Entered (record { side = sides.Plug; instance = 1; serial = 1 }) ops.Construct ∷
      HandlerRun 1 handlers.Scriptable ∷
      Created (record { side = sides.Plug; instance = 1; serial = 2 }) ∷
      Created (record { side = sides.Plug; instance = 1; serial = 3 }) ∷
      Created (record { side = sides.Plug; instance = 1; serial = 4 }) ∷
      Entered (record { side = sides.Plug; instance = 1; serial = 4 }) (ops.Invoke (IntKey (pos 4))) ∷
      Deallocated (record { side = sides.Plug; instance = 1; serial = 4 }) ∷
      Deallocated (record { side = sides.Plug; instance = 1; serial = 2 }) ∷
      Deallocated (record { side = sides.Plug; instance = 1; serial = 3 }) ∷
      HandlerRun 1 handlers.NewStream ∷
      Entered (record { side = sides.Plug; instance = 1; serial = 1 }) (ops.Invoke (Str (codes "m2"))) ∷
      Created (record { side = sides.Plug; instance = 1; serial = 5 }) ∷
      Deallocated (record { side = sides.Plug; instance = 1; serial = 5 }) ∷
      ProxyGone (record { side = sides.Page; instance = 1; serial = 1 }) ∷
      Invalidated (record { side = sides.Plug; instance = 1; serial = 1 }) ∷
      Deallocated (record { side = sides.Plug; instance = 1; serial = 1 }) ∷ []);
  files = [];
  rests = true;
}
unfolding encoding digits is_text is_utf8 chars encode_utf8
direct-run = refl

-- each message is delivered at once, and none is refused
orderly-in-rounds : orderly_along (sides.Page ∷ sides.Plug ∷ []) 700 page plugin ≡ true
unfolding encoding digits is_text is_utf8 chars encode_utf8
orderly-in-rounds = refl

-- each message is delivered at once, and none is refused
orderly-page-ahead : orderly_along (sides.Page ∷ sides.Page ∷ sides.Page ∷ sides.Page ∷ sides.Page ∷ sides.Page ∷ sides.Plug ∷ []) 200 page plugin ≡ true
unfolding encoding digits is_text is_utf8 chars encode_utf8
orderly-page-ahead = refl

-- each message is delivered at once, and none is refused
orderly-plugin-ahead : orderly_along (sides.Page ∷ sides.Plug ∷ sides.Plug ∷ sides.Plug ∷ sides.Plug ∷ sides.Plug ∷ sides.Plug ∷ []) 200 page plugin ≡ true
unfolding encoding digits is_text is_utf8 chars encode_utf8
orderly-plugin-ahead = refl

-- all bytes that the page sends
page-sends : page_bytes 1500 page plugin ≡ (0 ∷ 0 ∷ 0 ∷ 7 ∷ 1 ∷ 1 ∷ 0 ∷ 0 ∷ 1 ∷ 0 ∷ 27 ∷ 0 ∷ 0 ∷ 0 ∷ 12 ∷ 2 ∷ 1 ∷ 0 ∷ 0 ∷ 1 ∷ 1 ∷ 0 ∷ 3 ∷ 116 ∷ 47 ∷ 120 ∷ 0 ∷ 0 ∷ 0 ∷ 0 ∷ 11 ∷ 65 ∷ 2 ∷ 0 ∷ 0 ∷ 6 ∷ 0 ∷ 1 ∷ 0 ∷ 0 ∷ 0 ∷ 1 ∷ 0 ∷ 0 ∷ 0 ∷ 5 ∷ 69 ∷ 2 ∷ 0 ∷ 0 ∷ 0 ∷ 0 ∷ 0 ∷ 0 ∷ 5 ∷ 4 ∷ 1 ∷ 0 ∷ 0 ∷ 1 ∷ 0 ∷ 0 ∷ 0 ∷ 21 ∷ 6 ∷ 1 ∷ 0 ∷ 0 ∷ 1 ∷ 0 ∷ 0 ∷ 0 ∷ 1 ∷ 0 ∷ 1 ∷ 114 ∷ 0 ∷ 3 ∷ 116 ∷ 47 ∷ 112 ∷ 0 ∷ 0 ∷ 0 ∷ 10 ∷ 0 ∷ 0 ∷ 0 ∷ 18 ∷ 64 ∷ 1 ∷ 0 ∷ 0 ∷ 1 ∷ 0 ∷ 0 ∷ 0 ∷ 1 ∷ 1 ∷ 0 ∷ 0 ∷ 2 ∷ 109 ∷ 50 ∷ 2 ∷ 0 ∷ 0 ∷ 0 ∷ 0 ∷ 0 ∷ 5 ∷ 3 ∷ 1 ∷ 0 ∷ 0 ∷ 1 ∷ 0 ∷ 0 ∷ 0 ∷ 4 ∷ 12 ∷ 1 ∷ 0 ∷ 0 ∷ [])
unfolding encoding digits is_text is_utf8 chars encode_utf8
page-sends = refl

-- all bytes that the plugin sends
plugin-sends : plugin_bytes 1500 page plugin ≡ (0 ∷ 0 ∷ 0 ∷ 5 ∷ 69 ∷ 1 ∷ 0 ∷ 0 ∷ 0 ∷ 0 ∷ 0 ∷ 0 ∷ 5 ∷ 32 ∷ 2 ∷ 0 ∷ 0 ∷ 1 ∷ 0 ∷ 0 ∷ 0 ∷ 12 ∷ 33 ∷ 2 ∷ 0 ∷ 0 ∷ 1 ∷ 0 ∷ 1 ∷ 114 ∷ 255 ∷ 255 ∷ 255 ∷ 254 ∷ 0 ∷ 0 ∷ 0 ∷ 5 ∷ 69 ∷ 1 ∷ 0 ∷ 0 ∷ 0 ∷ 0 ∷ 0 ∷ 0 ∷ 11 ∷ 65 ∷ 1 ∷ 0 ∷ 0 ∷ 6 ∷ 1 ∷ 1 ∷ 0 ∷ 0 ∷ 0 ∷ 1 ∷ 0 ∷ 0 ∷ 0 ∷ 8 ∷ 70 ∷ 1 ∷ 0 ∷ 0 ∷ 0 ∷ 0 ∷ 0 ∷ 2 ∷ 0 ∷ 0 ∷ 0 ∷ 5 ∷ 65 ∷ 1 ∷ 0 ∷ 0 ∷ 0 ∷ 0 ∷ 0 ∷ 0 ∷ 5 ∷ 69 ∷ 1 ∷ 0 ∷ 0 ∷ 0 ∷ 0 ∷ 0 ∷ 0 ∷ 4 ∷ 71 ∷ 1 ∷ 0 ∷ 0 ∷ [])
unfolding encoding digits is_text is_utf8 chars encode_utf8
plugin-sends = refl
