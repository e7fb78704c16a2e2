-- Made by tools/vector-theorems of tests/vectors/lie-5.
use Rattle.std.proofs.Common.{◌≡◌, pos, negsuc, List, [], ◌∷◌, refl, true, false, None}
use Rattle.std.specs.Prelude.{codes}
use Rattle.std.specs.Char.{encode_utf8}
use Rattle.std.specs.Fmt.{digits}
use Rattle.std.specs.Str.{is_utf8, chars}
use Rattle.np_values.specs.declared.handler.Handler.TheVariants as handlers
use Rattle.np_values.specs.declared.name.Side.TheVariants as sides
use Rattle.np_values.specs.declared.value.Value.TheVariants as values
use Rattle.np_values.specs.Text.{is_text}
use Rattle.np_idents.specs.declared.key.IdKey.TheVariants.{Str, Int as IntKey}
use Rattle.np_script_grammar.specs.declared.action.Action.TheVariants as actions
use Rattle.np_script_grammar.specs.declared.action.Operand.TheVariants.{Reg, Const}
use Rattle.np_script_grammar.specs.declared.class.Member.TheVariants as members
use Rattle.np_script_grammar.specs.declared.plugin.Plugin.{Plugin}
use Rattle.np_message.specs.Encoding.{encoding}
use Rattle.np_message.specs.Message.{Message}
use Rattle.np_message.specs.declared.payload.Payload.TheVariants as payloads
use Rattle.np_journal.specs.declared.line.Line.TheVariants.{Created, HandlerRun, ProxyGone, Invalidated, Deallocated}
use Rattle.np_machine_plans.specs.Outcomes.{plugin_outcome}

abbrev plugin : Plugin
plugin = record {
  major = 0;
  minor = 27;
  classes = (
      (record {
        name = codes "Main";
        version = 1;
        stored = true;
        members = (
            members.Method (Str (codes "m2")) (actions.Load 2 0 ∷ actions.Later (codes "u") ∷ actions.CallDefault 3 (Reg 2) (Const (values.Int (negsuc 0)) ∷ Reg 1 ∷ []) ∷ actions.New 4 (codes "Main") ∷ actions.OnTrue 3 ∷ actions.New 3 (codes "Main") ∷ actions.HasProperty (Reg 0) (Str (codes "f1")) ∷ actions.Later (codes "t") ∷ actions.Invoke 3 (Reg 5) (Str (codes "take")) (Reg 2 ∷ Reg 2 ∷ Reg 2 ∷ []) ∷ []) ∷
            members.Method (IntKey (pos 4)) (actions.Load 5 2 ∷ actions.Invoke 1 (Reg 0) (Str (codes "take")) [] ∷ []) ∷
            members.Method (Str (codes "m1")) (actions.Load 2 0 ∷ actions.OnFalse 2 ∷ actions.New 5 (codes "U") ∷ actions.Construct 4 (Reg 12) (Reg 0 ∷ Reg 2 ∷ Reg 0 ∷ []) ∷ []) ∷
            members.Method (Str (codes "m3")) (actions.Load 2 0 ∷ actions.Enumerate 0 (Reg 1) ∷ actions.Add 3 (Reg 4) (Const (values.Int (pos 14))) ∷ actions.New 3 (codes "U") ∷ actions.New 5 (codes "U") ∷ actions.Invoke 2 (Reg 0) (Str (codes "take")) (Reg 2 ∷ Reg 3 ∷ []) ∷ actions.Slot 1 (Const (values.Bool false)) ∷ []) ∷
            members.Method (Str (codes "take")) (actions.SelfTo 2 ∷ actions.Load 3 1 ∷ actions.New 1 (codes "U") ∷ []) ∷ []);
      }) ∷
      (record {
        name = codes "T";
        version = 3;
        stored = true;
        members = (
            members.Method (IntKey (pos 4)) (actions.Load 2 0 ∷ actions.Later (codes "t") ∷ actions.Load 1 1 ∷ []) ∷
            members.Method (Str (codes "m2")) (actions.Load 2 2 ∷ actions.New 1 (codes "U") ∷ actions.Invoke 0 (Reg 3) (IntKey (pos 4)) (Reg 1 ∷ []) ∷ actions.HasMethod (Reg 2) (IntKey (pos 4)) ∷ []) ∷
            members.Setter (Str (codes "f0")) (actions.Later (codes "u") ∷ actions.SelfTo 3 ∷ actions.Window 2 ∷ actions.Slot 2 (Const (values.Int (pos 0))) ∷ actions.Slot 1 (Reg 3) ∷ []) ∷
            members.Method (Str (codes "take")) (actions.Load 3 1 ∷ actions.New 5 (codes "Main") ∷ actions.New 1 (codes "T") ∷ actions.New 3 (codes "U") ∷ actions.Later (codes "t") ∷ []) ∷
            members.Method (Str (codes "m1")) [] ∷
            members.Method (Str (codes "m0")) (actions.Load 3 1 ∷ actions.Load 1 2 ∷ actions.Later (codes "v") ∷ actions.New 4 (codes "U") ∷ actions.OnEq (Reg 1) (Reg 1) 3 ∷ actions.Invoke 2 (Reg 3) (Str (codes "m2")) (Reg 0 ∷ Reg 0 ∷ []) ∷ []) ∷ []);
      }) ∷
      (record {
        name = codes "U";
        version = 2;
        stored = true;
        members = (
            members.Method (Str (codes "m2")) (actions.Load 2 0 ∷ actions.Load 0 2 ∷ actions.Invoke 1 (Reg 2) (Str (codes "take")) (Reg 0 ∷ Reg 2 ∷ []) ∷ actions.Note (Reg 1) ∷ actions.New 1 (codes "U") ∷ actions.Put (Reg 2) (Str (codes "f1")) (Const (values.Int (pos 1))) ∷ actions.CallDefault 3 (Reg 1) (Reg 2 ∷ Reg 1 ∷ []) ∷ []) ∷
            members.Method (Str (codes "m3")) (actions.Load 3 1 ∷ actions.New 3 (codes "Main") ∷ actions.New 0 (codes "U") ∷ actions.New 5 (codes "T") ∷ actions.Add 0 (Reg 2) (Reg 3) ∷ []) ∷
            members.Method (Str (codes "take")) (actions.Load 3 1 ∷ actions.Later (codes "u") ∷ actions.New 2 (codes "Main") ∷ actions.Get 2 (Reg 3) (Str (codes "f1")) ∷ actions.New 3 (codes "Main") ∷ actions.New 4 (codes "T") ∷ actions.Load 3 1 ∷ actions.Get 1 (Reg 3) (IntKey (pos 7)) ∷ actions.Put (Reg 3) (IntKey (pos 7)) (Reg 3) ∷ []) ∷
            members.Method (Str (codes "m0")) (actions.Later (codes "v") ∷ actions.Later (codes "u") ∷ actions.Invoke 0 (Reg 1) (Str (codes "m2")) (Reg 0 ∷ Reg 3 ∷ Reg 0 ∷ []) ∷ actions.New 4 (codes "Main") ∷ actions.Put (Reg 4) (Str (codes "f0")) (Reg 0) ∷ actions.Put (Reg 4) (IntKey (pos 7)) (Reg 3) ∷ actions.New 5 (codes "T") ∷ actions.Put (Reg 4) (Str (codes "f1")) (Reg 5) ∷ actions.Drop 5 ∷ actions.Return (Reg 5) ∷ []) ∷
            members.Method (Str (codes "m1")) (actions.New 5 (codes "T") ∷ actions.New 2 (codes "T") ∷ []) ∷
            members.Method (IntKey (pos 4)) [] ∷ []);
      }) ∷ []);
  handlers = (
      (record { which = handlers.New; body = (actions.New 0 (codes "Main") ∷ actions.Slot 0 (Reg 0) ∷ actions.Window 1 ∷ actions.Slot 1 (Reg 1) ∷ []) }) ∷
      (record { which = handlers.Scriptable; body = (actions.Load 0 0 ∷ actions.Return (Reg 0) ∷ []) }) ∷
      (record { which = handlers.Destroy; body = [] }) ∷
      (record { which = handlers.NewStream; body = (actions.New 5 (codes "U") ∷ actions.New 3 (codes "Main") ∷ actions.Later (codes "v") ∷ actions.Slot 0 (Reg 2) ∷ actions.Return (Const (values.Int (pos 3))) ∷ []) }) ∷
      (record { which = handlers.WriteReady; body = (actions.Return (Const (values.Int (pos 100))) ∷ []) }) ∷
      (record { which = handlers.Write; body = (actions.Load 3 1 ∷ actions.Load 2 2 ∷ actions.Note (Reg 1) ∷ actions.Invoke 2 (Reg 2) (IntKey (pos 4)) (Reg 1 ∷ []) ∷ actions.RequestRead 1 (Const (values.Int (pos 4))) ((record { offset = negsuc 2; length = 1 }) ∷ (record { offset = pos 0; length = 9000 }) ∷ []) ∷ actions.Return (Reg 2) ∷ []) }) ∷
      (record { which = handlers.AsFile; body = [] }) ∷
      (record { which = handlers.DestroyStream; body = (actions.SelfTo 2 ∷ actions.Note (Reg 1) ∷ actions.New 0 (codes "T") ∷ []) }) ∷
      (record { which = handlers.UrlNotify; body = (actions.SelfTo 2 ∷ actions.Later (codes "u") ∷ actions.New 1 (codes "U") ∷ actions.New 3 (codes "U") ∷ actions.New 4 (codes "Main") ∷ actions.Put (Reg 3) (IntKey (pos 7)) (Reg 0) ∷ actions.RequestRead 3 (Const (values.Int (pos 4))) ((record { offset = pos 0; length = 9000 }) ∷ (record { offset = negsuc 0; length = 9000 }) ∷ (record { offset = negsuc 0; length = 2 }) ∷ (record { offset = pos 1; length = 4294967295 }) ∷ []) ∷ actions.Return (Reg 1) ∷ []) }) ∷ []);
  tasks = (
      (record { name = codes "t"; body = (actions.Load 1 1 ∷ actions.Load 0 2 ∷ actions.SelfTo 2 ∷ actions.Load 0 2 ∷ actions.Later (codes "v") ∷ actions.Invoke 2 (Reg 1) (Str (codes "m1")) [] ∷ actions.Later (codes "u") ∷ actions.SelfTo 2 ∷ actions.Load 3 1 ∷ actions.New 4 (codes "T") ∷ actions.Put (Reg 4) (Str (codes "f1")) (Reg 5) ∷ actions.Put (Reg 4) (Str (codes "f0")) (Reg 2) ∷ actions.New 5 (codes "Main") ∷ actions.Put (Reg 4) (IntKey (pos 7)) (Reg 5) ∷ actions.Return (Reg 4) ∷ actions.Return (Reg 5) ∷ []) }) ∷
      (record { name = codes "u"; body = (actions.Load 1 1 ∷ actions.Load 0 2 ∷ actions.Load 3 2 ∷ actions.Load 3 1 ∷ actions.New 1 (codes "Main") ∷ actions.Later (codes "u") ∷ actions.New 1 (codes "U") ∷ actions.Note (Reg 0) ∷ actions.Invoke 1 (Reg 1) (Str (codes "m2")) [] ∷ actions.Load 3 1 ∷ actions.SelfTo 2 ∷ actions.Later (codes "u") ∷ actions.Later (codes "u") ∷ actions.Return (Reg 0) ∷ []) }) ∷
      (record { name = codes "v"; body = (actions.Load 1 1 ∷ actions.Load 0 2 ∷ actions.SelfTo 2 ∷ actions.Load 5 2 ∷ actions.OnEq (Reg 1) (Const (values.Text (195 ∷ 164 ∷ 34 ∷ 92 ∷ 1 ∷ 127 ∷ []))) 1 ∷ actions.New 4 (codes "T") ∷ actions.Get 2 (Reg 2) (Str (codes "f0")) ∷ actions.SelfTo 2 ∷ actions.Later (codes "v") ∷ actions.Load 2 2 ∷ actions.Load 2 0 ∷ actions.New 5 (codes "T") ∷ actions.New 3 (codes "U") ∷ actions.Invoke 4 (Reg 2) (Str (codes "m0")) [] ∷ actions.Note (Reg 0) ∷ []) }) ∷ []);
}

abbrev got-got : List Message
got-got = (
    (record { depth = record { level = 1; task = false }; releases = []; body = payloads.Hello 1 0 27 }) ∷
    (record { depth = record { level = 1; task = false }; releases = []; body = payloads.New 1 2 (codes "t/x") [] }) ∷
    (record { depth = record { level = 2; task = false }; releases = []; body = payloads.True (values.Object (record { side = sides.Page; instance = 1; serial = 1 })) }) ∷
    (record { depth = record { level = 1; task = false }; releases = []; body = payloads.Scriptable 1 }) ∷
    (record { depth = record { level = 1; task = false }; releases = ((record { instance = 1; serial = 1; times = 1 }) ∷ []); body = payloads.Destroy 1 }) ∷
    (record { depth = record { level = 1; task = false }; releases = []; body = payloads.Shutdown }) ∷ [])

-- the plugin with these messages
got : plugin_outcome 1500 plugin got-got ≡ record {
  refusal = None;
  plugin = (
      HandlerRun 1 handlers.New ∷
      Created (record { side = sides.Plug; instance = 1; serial = 1 }) ∷
      HandlerRun 1 handlers.Scriptable ∷
      HandlerRun 1 handlers.Destroy ∷
      ProxyGone (record { side = sides.Page; instance = 1; serial = 1 }) ∷
      Invalidated (record { side = sides.Plug; instance = 1; serial = 1 }) ∷
      Deallocated (record { side = sides.Plug; instance = 1; serial = 1 }) ∷ []);
}
unfolding encoding digits is_text is_utf8 chars encode_utf8
got = refl
