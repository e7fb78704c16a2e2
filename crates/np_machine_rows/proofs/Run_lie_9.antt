-- Made by tools/vector-theorems of tests/vectors/lie-9.
use Rattle.std.proofs.Common.{◌≡◌, pos, negsuc, List, [], ◌∷◌, refl, true, false, Some}
use Rattle.std.specs.Prelude.{codes}
use Rattle.std.specs.Char.{encode_utf8}
use Rattle.std.specs.Fmt.{digits}
use Rattle.std.specs.Str.{is_utf8, chars}
use Rattle.np_values.specs.declared.handler.Handler.TheVariants as handlers
use Rattle.np_values.specs.declared.reason.NpReason.TheVariants as reasons
use Rattle.np_values.specs.declared.value.Value.TheVariants as values
use Rattle.np_values.specs.Text.{is_text}
use Rattle.np_idents.specs.declared.key.IdKey.TheVariants.{Str, Int as IntKey}
use Rattle.np_script_grammar.specs.declared.action.Action.TheVariants as actions
use Rattle.np_script_grammar.specs.declared.action.Operand.TheVariants.{Reg, Const}
use Rattle.np_script_grammar.specs.declared.class.Member.TheVariants as members
use Rattle.np_script_grammar.specs.declared.plugin.Plugin.{Plugin}
use Rattle.np_message.specs.Encoding.{encoding}
use Rattle.np_message.specs.Message.{Message}
use Rattle.np_message.specs.declared.payload.Payload.TheVariants as payloads
use Rattle.np_machine.specs.declared.refusal.Rule.TheVariants as rules
use Rattle.np_machine_plans.specs.Outcomes.{plugin_outcome}

abbrev plugin : Plugin
plugin = record {
  major = 0;
  minor = 27;
  classes = (
      (record {
        name = codes "Main";
        version = 2;
        stored = true;
        members = (
            members.Method (Str (codes "take")) (actions.New 2 (codes "T") ∷ []) ∷
            members.Method (IntKey (pos 4)) (actions.SelfTo 2 ∷ actions.New 5 (codes "T") ∷ actions.SelfTo 3 ∷ actions.HasProperty (Reg 3) (Str (codes "f1")) ∷ actions.New 2 (codes "Main") ∷ actions.Later (codes "v") ∷ actions.Invoke 1 (Reg 1) (Str (codes "take")) (Reg 3 ∷ Reg 1 ∷ Reg 3 ∷ []) ∷ []) ∷
            members.Method (Str (codes "m0")) (actions.Load 3 1 ∷ actions.Load 2 0 ∷ actions.New 1 (codes "Main") ∷ actions.Add 3 (Reg 0) (Reg 5) ∷ []) ∷
            members.Getter (IntKey (pos 7)) (actions.CallDefault 0 (Reg 2) (Const (values.Text (codes "s")) ∷ Reg 0 ∷ Reg 3 ∷ []) ∷ actions.New 0 (codes "U") ∷ actions.Later (codes "v") ∷ actions.SelfTo 2 ∷ actions.HasMethod (Reg 1) (IntKey (pos 4)) ∷ []) ∷
            members.Default (actions.Load 1 2 ∷ actions.New 1 (codes "U") ∷ actions.Put (Reg 3) (Str (codes "f1")) (Const (values.Int (pos 2147483647))) ∷ []) ∷
            members.Method (Str (codes "m1")) (actions.Add 0 (Reg 3) (Reg 2) ∷ actions.New 4 (codes "Main") ∷ actions.Put (Reg 4) (Str (codes "7")) (Reg 1) ∷ actions.Put (Reg 4) (Str (codes "f1")) (Reg 4) ∷ actions.Slot 0 (Reg 4) ∷ actions.Enumerate 1 (Reg 4) ∷ []) ∷
            members.Construct (actions.Load 4 2 ∷ actions.SelfTo 2 ∷ actions.New 3 (codes "T") ∷ actions.New 4 (codes "U") ∷ actions.Later (codes "u") ∷ []) ∷
            members.Method (Str (codes "m2")) (actions.SelfTo 2 ∷ actions.New 2 (codes "U") ∷ actions.Later (codes "t") ∷ actions.Invoke 0 (Reg 0) (IntKey (pos 4)) (Reg 0 ∷ Const (values.Text (codes "r")) ∷ Reg 3 ∷ []) ∷ actions.New 1 (codes "T") ∷ actions.Later (codes "u") ∷ actions.Throw [] ∷ actions.Load 0 3 ∷ []) ∷ []);
      }) ∷
      (record {
        name = codes "T";
        version = 3;
        stored = false;
        members = (
            members.Method (Str (codes "m2")) (actions.Load 1 2 ∷ actions.Load 2 0 ∷ actions.Later (codes "t") ∷ actions.Throw (codes "no") ∷ actions.Slot 0 (Const (values.Text (codes "e"))) ∷ actions.Set 1 (Const (values.Int (pos 2147483647))) ∷ actions.CallDefault 3 (Reg 1) (Reg 0 ∷ Reg 0 ∷ Reg 2 ∷ []) ∷ actions.CallDefault 0 (Reg 3) (Reg 0 ∷ Reg 1 ∷ Reg 3 ∷ []) ∷ []) ∷
            members.Method (Str (codes "m3")) (actions.Load 3 1 ∷ actions.New 2 (codes "U") ∷ actions.Slot 1 (Reg 1) ∷ actions.New 5 (codes "T") ∷ actions.Later (codes "u") ∷ actions.Later (codes "t") ∷ []) ∷
            members.Getter (Str (codes "f0")) (actions.SelfTo 2 ∷ actions.New 2 (codes "T") ∷ actions.RequestRead 3 (Const (values.Int (pos 2))) ((record { offset = pos 2; length = 2 }) ∷ []) ∷ actions.New 2 (codes "U") ∷ actions.New 4 (codes "U") ∷ actions.Put (Reg 4) (Str (codes "f0")) (Reg 3) ∷ actions.Get 3 (Reg 4) (Str (codes "f0")) ∷ actions.Remove (Reg 4) (Str (codes "f0")) ∷ []) ∷
            members.Method (IntKey (pos 4)) (actions.SelfTo 2 ∷ actions.Set 2 (Const values.Void) ∷ actions.Window 1 ∷ actions.Note (Reg 0) ∷ actions.OnTrue 1 ∷ []) ∷
            members.Method (Str (codes "m0")) (actions.Load 3 1 ∷ actions.Note (Reg 2) ∷ []) ∷
            members.Method (Str (codes "m1")) (actions.Load 3 1 ∷ actions.SelfTo 2 ∷ actions.Load 5 0 ∷ actions.Invoke 0 (Reg 5) (Str (codes "m3")) (Reg 1 ∷ Reg 3 ∷ Reg 0 ∷ []) ∷ []) ∷
            members.Method (Str (codes "take")) (actions.SelfTo 2 ∷ actions.Load 3 0 ∷ actions.EndStream 5 (Const (values.Int (pos 3))) reasons.NetworkErr ∷ actions.Invoke 3 (Reg 0) (Str (codes "m3")) (Reg 0 ∷ []) ∷ actions.Slot 1 (Reg 1) ∷ actions.Invoke 1 (Reg 0) (Str (codes "none")) (Reg 2 ∷ Reg 3 ∷ Reg 2 ∷ []) ∷ actions.HasMethod (Reg 5) (Str (codes "m3")) ∷ []) ∷
            members.Default (actions.Load 2 0 ∷ actions.Load 2 2 ∷ actions.New 3 (codes "U") ∷ actions.Set 4 (Reg 0) ∷ actions.New 5 (codes "T") ∷ actions.Slot 1 (Reg 1) ∷ actions.Slot 0 (Reg 3) ∷ actions.Put (Reg 0) (Str (codes "f0")) (Reg 1) ∷ []) ∷ []);
      }) ∷
      (record {
        name = codes "U";
        version = 3;
        stored = true;
        members = (
            members.Method (Str (codes "m1")) [] ∷
            members.Getter (Str (codes "f0")) (actions.SelfTo 2 ∷ actions.Load 3 1 ∷ actions.Drop 8 ∷ actions.OnEq (Reg 3) (Reg 2) 2 ∷ actions.Get 0 (Reg 1) (Str (codes "f0")) ∷ []) ∷
            members.Method (Str (codes "m3")) (actions.Load 0 2 ∷ actions.SelfTo 2 ∷ actions.New 3 (codes "U") ∷ actions.New 2 (codes "T") ∷ []) ∷
            members.Method (IntKey (pos 4)) (actions.Load 2 0 ∷ actions.Load 3 1 ∷ actions.Invoke 0 (Reg 2) (Str (codes "take")) (Reg 0 ∷ []) ∷ []) ∷
            members.Method (Str (codes "take")) (actions.Load 0 2 ∷ actions.Load 3 1 ∷ actions.New 1 (codes "T") ∷ actions.New 3 (codes "T") ∷ actions.New 0 (codes "U") ∷ actions.Set 2 (Reg 3) ∷ actions.OnEq (Const (values.Bool false)) (Reg 2) 3 ∷ []) ∷
            members.Method (Str (codes "m0")) (actions.Load 2 2 ∷ actions.Load 3 1 ∷ actions.New 1 (codes "U") ∷ actions.Note (Reg 0) ∷ actions.Drop 1 ∷ []) ∷ []);
      }) ∷ []);
  handlers = (
      (record { which = handlers.New; body = (actions.New 0 (codes "Main") ∷ actions.Slot 0 (Reg 0) ∷ actions.Window 1 ∷ actions.Slot 1 (Reg 1) ∷ []) }) ∷
      (record { which = handlers.Scriptable; body = (actions.Load 0 0 ∷ actions.Return (Reg 0) ∷ []) }) ∷
      (record { which = handlers.Destroy; body = (actions.Load 2 0 ∷ actions.SelfTo 2 ∷ actions.Later (codes "t") ∷ []) }) ∷
      (record { which = handlers.Write; body = (actions.RequestRead 4 (Reg 0) ((record { offset = negsuc 0; length = 4294967295 }) ∷ []) ∷ actions.SelfTo 2 ∷ actions.New 4 (codes "Main") ∷ actions.Throw (codes "no") ∷ actions.Return (Const values.Void) ∷ []) }) ∷
      (record { which = handlers.DestroyStream; body = [] }) ∷
      (record { which = handlers.UrlNotify; body = [] }) ∷ []);
  tasks = (
      (record { name = codes "t"; body = (actions.Load 1 1 ∷ actions.Load 0 2 ∷ actions.Load 0 2 ∷ actions.Put (Reg 3) (Str (codes "f0")) (Const (values.Text (195 ∷ 164 ∷ 34 ∷ 92 ∷ 1 ∷ 127 ∷ []))) ∷ actions.Later (codes "v") ∷ actions.New 3 (codes "T") ∷ actions.Invoke 3 (Reg 1) (Str (codes "m0")) [] ∷ []) }) ∷
      (record { name = codes "u"; body = (actions.Load 1 1 ∷ actions.Load 0 0 ∷ actions.SelfTo 2 ∷ actions.Load 0 2 ∷ actions.New 3 (codes "U") ∷ actions.Load 1 3 ∷ actions.Drop 1 ∷ actions.Window 1 ∷ []) }) ∷
      (record { name = codes "v"; body = (actions.Load 2 0 ∷ actions.Load 2 2 ∷ actions.SelfTo 2 ∷ actions.Set 2 (Reg 2) ∷ []) }) ∷ []);
}

abbrev got-got : List Message
got-got = (
    (record { depth = record { level = 1; task = false }; releases = []; body = payloads.Hello 1 0 27 }) ∷
    (record { depth = record { level = 4; task = false }; releases = []; body = payloads.False }) ∷ [])

-- the plugin with these messages
got : plugin_outcome 1500 plugin got-got ≡ record {
  refusal = Some (record { place = 1; rule = rules.Unmatched; first = 4; second = 0 });
  plugin = [];
}
unfolding encoding digits is_text is_utf8 chars encode_utf8
got = refl
