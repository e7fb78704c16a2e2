-- Made by tools/vector-theorems of tests/vectors/lie-8.
use Rattle.std.proofs.Common.{◌≡◌, pos, List, [], ◌∷◌, refl, true, false, Some}
use Rattle.std.specs.Prelude.{codes}
use Rattle.std.specs.Char.{encode_utf8}
use Rattle.std.specs.Fmt.{digits}
use Rattle.std.specs.Str.{is_utf8, chars}
use Rattle.np_values.specs.declared.handler.Handler.TheVariants as handlers
use Rattle.np_values.specs.declared.name.Side.TheVariants as sides
use Rattle.np_values.specs.declared.reason.NpReason.TheVariants as reasons
use Rattle.np_values.specs.declared.value.Value.TheVariants as values
use Rattle.np_values.specs.Text.{is_text}
use Rattle.np_idents.specs.declared.key.IdKey.TheVariants.{Str, Int as IntKey}
use Rattle.np_script_grammar.specs.declared.action.Action.TheVariants as actions
use Rattle.np_script_grammar.specs.declared.action.Operand.TheVariants.{Reg, Const}
use Rattle.np_script_grammar.specs.declared.class.Member.TheVariants as members
use Rattle.np_script_grammar.specs.declared.plugin.Plugin.{Plugin}
use Rattle.np_message.specs.Encoding.{encoding}
use Rattle.np_message.specs.Message.{Message}
use Rattle.np_message.specs.declared.payload.Payload.TheVariants as payloads
use Rattle.np_journal.specs.declared.line.Line.TheVariants.{Created, HandlerRun, ProxyGone, Invalidated, Deallocated}
use Rattle.np_machine.specs.declared.refusal.Rule.TheVariants as rules
use Rattle.np_machine_plans.specs.Outcomes.{plugin_outcome}

abbrev plugin : Plugin
plugin = record {
  major = 0;
  minor = 27;
  classes = (
      (record {
        name = codes "Main";
        version = 2;
        stored = false;
        members = (
            members.Method (Str (codes "take")) (actions.Load 3 1 ∷ actions.Load 4 2 ∷ actions.Later (codes "v") ∷ actions.Invoke 3 (Reg 0) (Str (codes "none")) (Reg 3 ∷ Reg 3 ∷ []) ∷ actions.Later (codes "v") ∷ actions.Fail ∷ actions.HasMethod (Reg 1) (Str (codes "m3")) ∷ []) ∷
            members.Method (Str (codes "m0")) (actions.SelfTo 2 ∷ actions.Load 0 2 ∷ actions.Invoke 0 (Reg 1) (Str (codes "m3")) (Const (values.Text (195 ∷ 164 ∷ 34 ∷ 92 ∷ 1 ∷ 127 ∷ [])) ∷ Reg 1 ∷ Reg 1 ∷ []) ∷ actions.New 5 (codes "T") ∷ actions.New 2 (codes "Main") ∷ actions.New 4 (codes "U") ∷ actions.Invoke 3 (Reg 0) (Str (codes "m2")) (Reg 1 ∷ Reg 2 ∷ Const (values.Text (codes "s")) ∷ []) ∷ actions.Later (codes "u") ∷ actions.Set 2 (Reg 2) ∷ actions.EndStream 1 (Const (values.Int (pos 2))) reasons.UserBreak ∷ []) ∷
            members.Default (actions.Load 2 0 ∷ actions.Load 3 2 ∷ actions.New 3 (codes "Main") ∷ actions.New 4 (codes "T") ∷ actions.Later (codes "v") ∷ actions.New 2 (codes "T") ∷ actions.Load 2 0 ∷ actions.Get 0 (Reg 2) (Str (codes "7")) ∷ actions.Put (Reg 2) (Str (codes "7")) (Reg 1) ∷ []) ∷
            members.Construct (actions.SelfTo 2 ∷ actions.SelfTo 3 ∷ actions.Window 3 ∷ actions.HasProperty (Const (values.Int (pos 1))) (Str (codes "f0")) ∷ actions.Add 3 (Reg 3) (Reg 3) ∷ []) ∷
            members.Method (IntKey (pos 4)) (actions.Load 3 1 ∷ actions.Load 2 0 ∷ actions.New 2 (codes "U") ∷ actions.New 5 (codes "U") ∷ actions.New 1 (codes "Main") ∷ actions.Later (codes "v") ∷ []) ∷
            members.Method (Str (codes "m2")) (actions.SelfTo 2 ∷ actions.New 0 (codes "Main") ∷ actions.Put (Reg 0) (Str (codes "f0")) (Reg 4) ∷ actions.Get 4 (Reg 0) (Str (codes "f0")) ∷ actions.Remove (Reg 0) (Str (codes "f0")) ∷ []) ∷ []);
      }) ∷
      (record {
        name = codes "T";
        version = 3;
        stored = true;
        members = (
            members.Method (Str (codes "m0")) (actions.SelfTo 2 ∷ actions.Load 3 1 ∷ actions.Later (codes "t") ∷ actions.Invoke 2 (Reg 1) (Str (codes "m3")) (Reg 3 ∷ Reg 0 ∷ []) ∷ actions.Invoke 1 (Reg 3) (Str (codes "m2")) [] ∷ []) ∷
            members.Method (Str (codes "take")) (actions.Load 2 0 ∷ actions.SelfTo 2 ∷ actions.Later (codes "v") ∷ actions.New 0 (codes "U") ∷ actions.HasMethod (Reg 2) (Str (codes "m1")) ∷ actions.Drop 2 ∷ actions.New 2 (codes "T") ∷ actions.Put (Reg 2) (Str (codes "f0")) (Reg 3) ∷ actions.Return (Reg 2) ∷ []) ∷
            members.Method (Str (codes "m2")) (actions.Load 2 0 ∷ actions.Load 2 2 ∷ actions.Later (codes "v") ∷ actions.Note (Reg 0) ∷ actions.Invoke 2 (Reg 4) (Str (codes "take")) (Reg 2 ∷ []) ∷ actions.Invoke 2 (Reg 3) (Str (codes "m3")) (Const (values.Int (pos 100)) ∷ Reg 3 ∷ Reg 2 ∷ []) ∷ actions.Load 1 1 ∷ []) ∷
            members.Setter (Str (codes "f1")) (actions.Window 1 ∷ actions.New 2 (codes "Main") ∷ actions.New 1 (codes "Main") ∷ actions.New 3 (codes "T") ∷ actions.Load 4 0 ∷ []) ∷
            members.Method (Str (codes "m3")) (actions.Load 2 0 ∷ actions.Invoke 5 (Reg 4) (IntKey (pos 4)) (Reg 0 ∷ Reg 1 ∷ []) ∷ actions.Invoke 1 (Reg 3) (IntKey (pos 4)) (Reg 2 ∷ Reg 2 ∷ Reg 4 ∷ []) ∷ actions.Load 1 2 ∷ actions.Slot 1 (Reg 2) ∷ []) ∷
            members.Construct (actions.Later (codes "t") ∷ actions.Enumerate 2 (Reg 4) ∷ actions.OnTrue 3 ∷ actions.New 3 (codes "Main") ∷ []) ∷
            members.Method (IntKey (pos 4)) (actions.Load 3 2 ∷ actions.Later (codes "u") ∷ actions.Load 2 0 ∷ actions.Set 2 (Reg 3) ∷ actions.Invoke 1 (Reg 2) (Str (codes "take")) (Reg 0 ∷ Const (values.Int (pos 100)) ∷ Reg 5 ∷ []) ∷ actions.Invoke 3 (Reg 2) (Str (codes "take")) (Reg 2 ∷ Reg 4 ∷ Reg 4 ∷ []) ∷ actions.EndStream 0 (Const (values.Int (pos 4))) reasons.NetworkErr ∷ []) ∷
            members.Method (Str (codes "m1")) (actions.SelfTo 2 ∷ actions.Load 2 2 ∷ actions.Later (codes "v") ∷ []) ∷ []);
      }) ∷
      (record {
        name = codes "U";
        version = 1;
        stored = false;
        members = (
            members.Method (Str (codes "take")) [] ∷
            members.Method (Str (codes "m2")) [] ∷
            members.Method (Str (codes "m0")) (actions.Later (codes "t") ∷ []) ∷
            members.Method (IntKey (pos 4)) (actions.SelfTo 2 ∷ actions.Load 3 1 ∷ actions.Later (codes "v") ∷ []) ∷
            members.Method (Str (codes "m3")) (actions.Load 3 1 ∷ actions.Load 2 0 ∷ actions.New 2 (codes "U") ∷ actions.Put (Reg 2) (Str (codes "f0")) (Reg 0) ∷ actions.Get 0 (Reg 2) (Str (codes "f0")) ∷ actions.Remove (Reg 2) (Str (codes "f0")) ∷ []) ∷
            members.Getter (Str (codes "f0")) (actions.SelfTo 2 ∷ actions.Later (codes "t") ∷ actions.Load 3 0 ∷ actions.Get 3 (Reg 3) (Str (codes "f0")) ∷ []) ∷
            members.Method (Str (codes "m1")) (actions.Load 3 1 ∷ actions.SelfTo 2 ∷ actions.Later (codes "t") ∷ actions.New 0 (codes "T") ∷ actions.New 4 (codes "T") ∷ actions.Put (Reg 0) (Str (codes "7")) (Reg 2) ∷ actions.Get 2 (Reg 0) (Str (codes "7")) ∷ actions.Remove (Reg 0) (Str (codes "7")) ∷ []) ∷ []);
      }) ∷ []);
  handlers = (
      (record { which = handlers.New; body = (actions.New 0 (codes "Main") ∷ actions.Slot 0 (Reg 0) ∷ actions.Window 1 ∷ actions.Slot 1 (Reg 1) ∷ actions.Load 3 1 ∷ actions.Later (codes "none") ∷ actions.Return (Const (values.Int (pos 3))) ∷ []) }) ∷
      (record { which = handlers.Scriptable; body = (actions.Load 0 0 ∷ actions.Return (Reg 0) ∷ []) }) ∷
      (record { which = handlers.Destroy; body = (actions.SelfTo 2 ∷ actions.Load 3 1 ∷ actions.Invoke 0 (Reg 0) (Str (codes "m1")) (Reg 3 ∷ Reg 1 ∷ Const (values.Int (pos 0)) ∷ []) ∷ actions.New 1 (codes "T") ∷ actions.New 3 (codes "U") ∷ actions.Put (Reg 2) (Str (codes "f0")) (Reg 2) ∷ actions.Later (codes "none") ∷ actions.New 0 (codes "Main") ∷ []) }) ∷
      (record { which = handlers.WriteReady; body = (actions.Return (Const (values.Int (pos 9000))) ∷ []) }) ∷
      (record { which = handlers.Write; body = (actions.Load 3 2 ∷ actions.Load 2 0 ∷ actions.Slot 1 (Reg 0) ∷ actions.Invoke 2 (Reg 2) (Str (codes "m3")) (Const (values.Bool true) ∷ Reg 2 ∷ Reg 7 ∷ Reg 1 ∷ Reg 3 ∷ Const (values.Int (pos 14)) ∷ Reg 1 ∷ Reg 0 ∷ []) ∷ []) }) ∷
      (record { which = handlers.DestroyStream; body = [] }) ∷ []);
  tasks = (
      (record { name = codes "t"; body = (actions.Load 1 1 ∷ actions.Load 0 3 ∷ actions.Later (codes "v") ∷ actions.Invoke 3 (Reg 2) (IntKey (pos 4)) [] ∷ actions.New 5 (codes "T") ∷ actions.Later (codes "none") ∷ actions.Invoke 2 (Reg 2) (Str (codes "take")) (Reg 4 ∷ []) ∷ actions.Later (codes "t") ∷ actions.Load 2 2 ∷ actions.New 3 (codes "T") ∷ actions.Put (Reg 3) (Str (codes "f0")) (Reg 4) ∷ actions.Slot 1 (Reg 3) ∷ actions.Drop 3 ∷ []) }) ∷
      (record { name = codes "u"; body = (actions.Load 1 1 ∷ actions.Load 0 2 ∷ actions.SelfTo 2 ∷ actions.Later (codes "v") ∷ actions.Invoke 2 (Const (values.Text (codes "e"))) (Str (codes "m0")) (Reg 3 ∷ Reg 2 ∷ []) ∷ actions.Later (codes "u") ∷ actions.Invoke 1 (Reg 1) (Str (codes "m2")) (Reg 1 ∷ Const (values.Double (0 ∷ 1 ∷ 2 ∷ 3 ∷ 4 ∷ 5 ∷ 6 ∷ 7 ∷ [])) ∷ Reg 3 ∷ Reg 5 ∷ Reg 1 ∷ Const (values.Text (codes "r")) ∷ Reg 2 ∷ Reg 3 ∷ []) ∷ actions.Return (Reg 4) ∷ []) }) ∷
      (record { name = codes "v"; body = (actions.Load 1 1 ∷ actions.Load 0 3 ∷ actions.Later (codes "t") ∷ actions.New 1 (codes "Main") ∷ actions.New 3 (codes "U") ∷ actions.New 4 (codes "T") ∷ actions.New 5 (codes "U") ∷ actions.Put (Reg 4) (IntKey (pos 7)) (Reg 5) ∷ actions.Drop 5 ∷ actions.Invoke 0 (Reg 1) (Str (codes "m0")) (Reg 0 ∷ Reg 2 ∷ Reg 0 ∷ []) ∷ actions.Load 3 1 ∷ actions.Load 3 2 ∷ actions.Later (codes "u") ∷ actions.CallDefault 3 (Reg 0) (Const (values.Text (codes "s")) ∷ Reg 3 ∷ Reg 3 ∷ []) ∷ actions.Note (Reg 5) ∷ []) }) ∷ []);
}

abbrev got-got : List Message
got-got = (
    (record { depth = record { level = 1; task = false }; releases = []; body = payloads.Hello 1 0 27 }) ∷
    (record { depth = record { level = 1; task = false }; releases = []; body = payloads.New 1 2 (codes "t/x") (codes "a" ∷ codes "1" ∷ codes "a" ∷ codes "1" ∷ []) }) ∷
    (record { depth = record { level = 2; task = false }; releases = []; body = payloads.True (values.Object (record { side = sides.Page; instance = 1; serial = 1 })) }) ∷
    (record { depth = record { level = 1; task = false }; releases = []; body = payloads.New 2 1 (codes "t/x") [] }) ∷
    (record { depth = record { level = 2; task = false }; releases = []; body = payloads.False }) ∷
    (record { depth = record { level = 2; task = false }; releases = []; body = payloads.True (values.Object (record { side = sides.Page; instance = 1; serial = 2 })) }) ∷ [])

-- the plugin with these messages
got : plugin_outcome 1500 plugin got-got ≡ record {
  refusal = Some (record { place = 5; rule = rules.Unmatched; first = 2; second = 0 });
  plugin = (
      HandlerRun 1 handlers.New ∷
      Created (record { side = sides.Plug; instance = 1; serial = 1 }) ∷
      ProxyGone (record { side = sides.Page; instance = 1; serial = 1 }) ∷
      Invalidated (record { side = sides.Plug; instance = 1; serial = 1 }) ∷
      Deallocated (record { side = sides.Plug; instance = 1; serial = 1 }) ∷
      HandlerRun 2 handlers.New ∷
      Created (record { side = sides.Plug; instance = 2; serial = 1 }) ∷
      Invalidated (record { side = sides.Plug; instance = 2; serial = 1 }) ∷
      Deallocated (record { side = sides.Plug; instance = 2; serial = 1 }) ∷ []);
}
unfolding encoding digits is_text is_utf8 chars encode_utf8
got = refl
