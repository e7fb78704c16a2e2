-- Made by tools/vector-theorems of tests/vectors/lie-0.
use Rattle.std.proofs.Common.{◌≡◌, pos, negsuc, List, [], ◌∷◌, refl, true, false, Some}
use Rattle.std.specs.Prelude.{codes}
use Rattle.std.specs.Char.{encode_utf8}
use Rattle.std.specs.Fmt.{digits}
use Rattle.std.specs.Str.{is_utf8, chars}
use Rattle.np_values.specs.declared.handler.Handler.TheVariants as handlers
use Rattle.np_values.specs.declared.name.Side.TheVariants as sides
use Rattle.np_values.specs.declared.reason.NpReason.TheVariants as reasons
use Rattle.np_values.specs.declared.value.Value.TheVariants as values
use Rattle.np_values.specs.Text.{is_text}
use Rattle.np_idents.specs.declared.key.IdKey.TheVariants.{Str, Int as IntKey}
use Rattle.np_idents.specs.declared.op.Op.TheVariants as ops
use Rattle.np_script_grammar.specs.declared.action.Action.TheVariants as actions
use Rattle.np_script_grammar.specs.declared.action.Operand.TheVariants.{Reg, Const}
use Rattle.np_script_grammar.specs.declared.class.Member.TheVariants as members
use Rattle.np_script_grammar.specs.declared.plugin.Plugin.{Plugin}
use Rattle.np_message.specs.Encoding.{encoding}
use Rattle.np_message.specs.Message.{Message}
use Rattle.np_message.specs.declared.payload.Payload.TheVariants as payloads
use Rattle.np_journal.specs.declared.line.Line.TheVariants.{Created, HandlerRun, ProxyGone, Invalidated, Deallocated}
use Rattle.np_machine.specs.declared.refusal.Rule.TheVariants as rules
use Rattle.np_machine_plans.specs.Outcomes.{plugin_outcome}

abbrev plugin : Plugin
plugin = record {
  major = 0;
  minor = 27;
  classes = (
      (record {
        name = codes "Main";
        version = 3;
        stored = true;
        members = (
            members.Construct (actions.Later (codes "t") ∷ actions.Later (codes "t") ∷ []) ∷
            members.Setter (Str (codes "f1")) (actions.Load 3 1 ∷ actions.Drop 2 ∷ actions.Later (codes "v") ∷ []) ∷
            members.Getter (Str (codes "f0")) (actions.SelfTo 2 ∷ actions.Load 3 1 ∷ actions.New 4 (codes "T") ∷ actions.Later (codes "u") ∷ actions.Slot 0 (Const (values.Int (pos 2147483647))) ∷ actions.New 5 (codes "Main") ∷ actions.Load 0 2 ∷ actions.Invoke 3 (Reg 3) (Str (codes "take")) [] ∷ actions.Put (Reg 3) (Str (codes "f0")) (Reg 2) ∷ actions.Get 2 (Reg 3) (Str (codes "f1")) ∷ []) ∷
            members.Method (IntKey (pos 4)) (actions.Load 2 2 ∷ actions.OnEq (Reg 2) (Reg 9) 3 ∷ actions.New 3 (codes "U") ∷ actions.Put (Reg 3) (Str (codes "f0")) (Reg 2) ∷ actions.Put (Reg 3) (Str (codes "f1")) (Reg 3) ∷ actions.Slot 0 (Reg 3) ∷ actions.Enumerate 2 (Reg 3) ∷ []) ∷
            members.Method (Str (codes "take")) (actions.Load 0 2 ∷ actions.Load 2 0 ∷ actions.Later (codes "v") ∷ []) ∷
            members.Method (Str (codes "m1")) (actions.Load 1 2 ∷ actions.Load 3 1 ∷ actions.Slot 3 (Reg 3) ∷ actions.New 5 (codes "U") ∷ actions.New 1 (codes "Main") ∷ actions.New 4 (codes "U") ∷ actions.New 1 (codes "T") ∷ actions.Invoke 5 (Reg 2) (Str (codes "m3")) (Reg 1 ∷ Const (values.Int (negsuc 2147483647)) ∷ Reg 3 ∷ []) ∷ []) ∷
            members.Method (Str (codes "m0")) (actions.Load 3 1 ∷ actions.Drop 0 ∷ actions.Slot 0 (Reg 2) ∷ actions.Later (codes "t") ∷ actions.Get 0 (Reg 0) (Str (codes "f0")) ∷ actions.Slot 2 (Reg 0) ∷ actions.Later (codes "v") ∷ []) ∷
            members.Method (Str (codes "m3")) (actions.Load 2 0 ∷ actions.Load 3 0 ∷ actions.New 0 (codes "U") ∷ actions.Set 1 (Reg 2) ∷ actions.New 4 (codes "T") ∷ actions.Load 1 0 ∷ actions.Invoke 4 (Reg 0) (Str (codes "take")) (Reg 0 ∷ Reg 3 ∷ []) ∷ actions.Window 3 ∷ []) ∷ []);
      }) ∷
      (record {
        name = codes "T";
        version = 2;
        stored = true;
        members = (
            members.Method (Str (codes "m0")) (actions.New 5 (codes "T") ∷ actions.Later (codes "t") ∷ actions.New 0 (codes "T") ∷ actions.Put (Reg 0) (Str (codes "f0")) (Reg 3) ∷ actions.Return (Reg 0) ∷ actions.Slot 0 (Reg 2) ∷ actions.Later (codes "v") ∷ actions.Remove (Reg 1) (Str (codes "7")) ∷ []) ∷
            members.Construct (actions.SelfTo 2 ∷ actions.Invoke 1 (Const (values.Int (pos 13))) (Str (codes "take")) (Reg 13 ∷ Reg 2 ∷ []) ∷ actions.New 3 (codes "U") ∷ actions.SelfTo 3 ∷ []) ∷
            members.Method (Str (codes "m3")) (actions.New 3 (codes "T") ∷ actions.Invoke 3 (Const (values.Text (codes "r"))) (IntKey (pos 4)) (Reg 3 ∷ Reg 1 ∷ Reg 1 ∷ []) ∷ actions.New 5 (codes "Main") ∷ actions.Load 2 1 ∷ actions.New 1 (codes "Main") ∷ actions.Load 2 1 ∷ actions.Slot 2 (Const (values.Text (codes "e"))) ∷ actions.Slot 3 (Reg 1) ∷ []) ∷
            members.Method (Str (codes "m1")) (actions.SelfTo 2 ∷ actions.Slot 2 (Reg 1) ∷ actions.Put (Reg 2) (IntKey (pos 7)) (Reg 6) ∷ actions.Later (codes "u") ∷ actions.New 2 (codes "Main") ∷ actions.Window 2 ∷ actions.New 0 (codes "Main") ∷ []) ∷
            members.Method (Str (codes "m2")) (actions.Later (codes "u") ∷ actions.OnEq (Const (values.Int (pos 14))) (Const (values.Int (pos 13))) 2 ∷ actions.Later (codes "t") ∷ actions.Invoke 3 (Reg 1) (Str (codes "m3")) (Reg 14 ∷ Const (values.Int (pos 14)) ∷ []) ∷ []) ∷
            members.Method (IntKey (pos 4)) (actions.Put (Reg 3) (Str (codes "f0")) (Reg 1) ∷ actions.Load 0 2 ∷ actions.New 4 (codes "Main") ∷ actions.New 3 (codes "U") ∷ actions.Later (codes "t") ∷ actions.EndStream 15 (Const (values.Int (pos 3))) reasons.Done ∷ actions.Window 3 ∷ []) ∷
            members.Method (Str (codes "take")) (actions.Invoke 3 (Reg 1) (Str (codes "none")) (Reg 0 ∷ Reg 2 ∷ Const (values.Int (pos 1)) ∷ []) ∷ actions.New 2 (codes "U") ∷ actions.New 1 (codes "Main") ∷ actions.Put (Reg 3) (Str (codes "f0")) (Reg 3) ∷ []) ∷ []);
      }) ∷
      (record {
        name = codes "U";
        version = 2;
        stored = false;
        members = (
            members.Method (Str (codes "m0")) (actions.Window 0 ∷ actions.OnTrue 1 ∷ actions.SelfTo 3 ∷ actions.Add 1 (Reg 3) (Reg 2) ∷ actions.New 1 (codes "U") ∷ actions.New 4 (codes "U") ∷ actions.New 5 (codes "T") ∷ actions.Put (Reg 4) (Str (codes "f1")) (Reg 5) ∷ actions.Slot 0 (Reg 4) ∷ actions.Drop 4 ∷ []) ∷
            members.Method (Str (codes "take")) (actions.SelfTo 2 ∷ actions.New 3 (codes "Main") ∷ actions.New 1 (codes "T") ∷ actions.New 4 (codes "U") ∷ actions.Later (codes "t") ∷ actions.New 1 (codes "U") ∷ actions.Put (Reg 1) (Str (codes "f0")) (Reg 4) ∷ actions.Get 4 (Reg 1) (Str (codes "f0")) ∷ actions.Remove (Reg 1) (Str (codes "f0")) ∷ []) ∷
            members.Method (Str (codes "m2")) (actions.Load 1 2 ∷ actions.Load 2 0 ∷ actions.Invoke 2 (Const (values.Int (pos 2147483647))) (IntKey (pos 4)) (Const (values.Int (pos 1)) ∷ Reg 0 ∷ Reg 4 ∷ []) ∷ actions.SelfTo 2 ∷ actions.New 2 (codes "T") ∷ actions.Add 0 (Reg 0) (Reg 3) ∷ []) ∷
            members.Method (IntKey (pos 4)) (actions.SelfTo 2 ∷ actions.New 4 (codes "T") ∷ actions.HasMethod (Reg 1) (Str (codes "m3")) ∷ actions.New 1 (codes "Main") ∷ actions.Invoke 0 (Reg 2) (Str (codes "take")) (Const (values.Bool false) ∷ []) ∷ actions.Later (codes "t") ∷ []) ∷
            members.Getter (Str (codes "f1")) (actions.Load 3 1 ∷ actions.Load 2 0 ∷ actions.New 3 (codes "U") ∷ actions.Load 2 0 ∷ actions.Later (codes "u") ∷ actions.New 5 (codes "Main") ∷ actions.Slot 0 (Reg 0) ∷ actions.Slot 2 (Const (values.Int (pos 0))) ∷ actions.Later (codes "u") ∷ []) ∷
            members.Method (Str (codes "m1")) (actions.SelfTo 2 ∷ actions.Later (codes "t") ∷ actions.Invoke 3 (Reg 1) (Str (codes "m2")) (Reg 0 ∷ []) ∷ []) ∷ []);
      }) ∷ []);
  handlers = (
      (record { which = handlers.New; body = (actions.New 0 (codes "Main") ∷ actions.Slot 0 (Reg 0) ∷ actions.Window 1 ∷ actions.Slot 1 (Reg 1) ∷ []) }) ∷
      (record { which = handlers.Scriptable; body = (actions.Load 0 0 ∷ actions.Return (Reg 0) ∷ []) }) ∷
      (record { which = handlers.Destroy; body = (actions.Load 3 1 ∷ actions.Throw [] ∷ actions.Window 2 ∷ []) }) ∷
      (record { which = handlers.NewStream; body = (actions.Load 0 2 ∷ actions.Load 2 0 ∷ actions.New 2 (codes "T") ∷ actions.OnEq (Reg 0) (Const (values.Int (pos 1))) 1 ∷ actions.Return (Const (values.Int (pos 2))) ∷ actions.Return (Const (values.Int (pos 3))) ∷ []) }) ∷
      (record { which = handlers.WriteReady; body = (actions.New 5 (codes "T") ∷ actions.Later (codes "t") ∷ actions.Return (Const (values.Int (pos 9000))) ∷ []) }) ∷
      (record { which = handlers.Write; body = [] }) ∷ []);
  tasks = (
      (record { name = codes "t"; body = (actions.SelfTo 2 ∷ actions.Load 2 0 ∷ actions.New 3 (codes "U") ∷ actions.Invoke 2 (Reg 3) (Str (codes "m1")) [] ∷ []) }) ∷
      (record { name = codes "u"; body = (actions.Load 1 1 ∷ actions.Load 0 0 ∷ actions.Load 2 0 ∷ actions.New 3 (codes "T") ∷ actions.New 1 (codes "Main") ∷ actions.Later (codes "v") ∷ actions.Invoke 0 (Reg 1) (Str (codes "m2")) [] ∷ actions.Load 2 0 ∷ actions.Load 0 2 ∷ actions.Set 5 (Reg 3) ∷ actions.Slot 3 (Const (values.Int (negsuc 2147483647))) ∷ actions.Later (codes "v") ∷ actions.Invoke 0 (Reg 2) (Str (codes "m3")) (Const (values.Int (negsuc 0)) ∷ Reg 0 ∷ Reg 0 ∷ []) ∷ []) }) ∷
      (record { name = codes "v"; body = (actions.Load 1 1 ∷ actions.Load 0 1 ∷ actions.Load 2 0 ∷ actions.New 3 (codes "T") ∷ actions.New 2 (codes "T") ∷ actions.Invoke 3 (Reg 1) (IntKey (pos 4)) (Reg 2 ∷ Reg 2 ∷ Const (values.Text []) ∷ []) ∷ actions.Load 3 2 ∷ actions.Load 3 1 ∷ actions.Later (codes "v") ∷ actions.New 4 (codes "Main") ∷ actions.New 5 (codes "T") ∷ actions.Put (Reg 4) (IntKey (pos 7)) (Reg 5) ∷ actions.Put (Reg 4) (Str (codes "f0")) (Reg 5) ∷ actions.New 5 (codes "U") ∷ actions.Put (Reg 4) (Str (codes "f1")) (Reg 5) ∷ actions.Slot 3 (Reg 4) ∷ actions.Drop 4 ∷ actions.Return (Reg 4) ∷ []) }) ∷ []);
}

abbrev got-got : List Message
got-got = (
    (record { depth = record { level = 1; task = false }; releases = []; body = payloads.Hello 1 0 27 }) ∷
    (record { depth = record { level = 1; task = false }; releases = []; body = payloads.New 1 2 (codes "t/x") [] }) ∷
    (record { depth = record { level = 2; task = false }; releases = []; body = payloads.True (values.Object (record { side = sides.Page; instance = 1; serial = 1 })) }) ∷
    (record { depth = record { level = 1; task = false }; releases = []; body = payloads.Scriptable 1 }) ∷
    (record { depth = record { level = 1; task = false }; releases = []; body = payloads.New 2 1 (codes "t/x") [] }) ∷
    (record { depth = record { level = 2; task = false }; releases = []; body = payloads.True (values.Object (record { side = sides.Page; instance = 2; serial = 1 })) }) ∷
    (record { depth = record { level = 1; task = false }; releases = []; body = payloads.Scriptable 2 }) ∷
    (record { depth = record { level = 2; task = false }; releases = []; body = payloads.Destroy 1 }) ∷
    (record { depth = record { level = 3; task = false }; releases = []; body = payloads.True (values.Object (record { side = sides.Page; instance = 1; serial = 1 })) }) ∷
    (record { depth = record { level = 1; task = false }; releases = []; body = payloads.New 3 2 (codes "t/y") [] }) ∷
    (record { depth = record { level = 2; task = false }; releases = []; body = payloads.False }) ∷
    (record { depth = record { level = 4; task = false }; releases = ((record { instance = 2; serial = 1; times = 1 }) ∷ []); body = payloads.Destroy 2 }) ∷
    (record { depth = record { level = 5; task = false }; releases = []; body = payloads.True (values.Object (record { side = sides.Page; instance = 3; serial = 3 })) }) ∷
    (record { depth = record { level = 1; task = false }; releases = []; body = payloads.Call 3 3 ops.Enumerate [] }) ∷ [])

-- the plugin with these messages
got : plugin_outcome 1500 plugin got-got ≡ record {
  refusal = Some (record { place = 13; rule = rules.Unknown; first = 3; second = 3 });
  plugin = (
      HandlerRun 1 handlers.New ∷
      Created (record { side = sides.Plug; instance = 1; serial = 1 }) ∷
      HandlerRun 1 handlers.Scriptable ∷
      HandlerRun 2 handlers.New ∷
      Created (record { side = sides.Plug; instance = 2; serial = 1 }) ∷
      HandlerRun 2 handlers.Scriptable ∷
      HandlerRun 1 handlers.Destroy ∷
      ProxyGone (record { side = sides.Page; instance = 1; serial = 1 }) ∷
      Invalidated (record { side = sides.Plug; instance = 1; serial = 1 }) ∷
      Deallocated (record { side = sides.Plug; instance = 1; serial = 1 }) ∷
      HandlerRun 3 handlers.New ∷
      Created (record { side = sides.Plug; instance = 3; serial = 1 }) ∷
      HandlerRun 2 handlers.Destroy ∷
      ProxyGone (record { side = sides.Page; instance = 2; serial = 1 }) ∷
      Invalidated (record { side = sides.Plug; instance = 2; serial = 1 }) ∷
      Deallocated (record { side = sides.Plug; instance = 2; serial = 1 }) ∷ []);
}
unfolding encoding digits is_text is_utf8 chars encode_utf8
got = refl
