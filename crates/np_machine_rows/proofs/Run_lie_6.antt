-- Made by tools/vector-theorems of tests/vectors/lie-6.
use Rattle.std.proofs.Common.{◌≡◌, pos, List, [], ◌∷◌, refl, true, false, None}
use Rattle.std.specs.Prelude.{codes}
use Rattle.std.specs.Char.{encode_utf8}
use Rattle.std.specs.Fmt.{digits}
use Rattle.std.specs.Str.{is_utf8, chars}
use Rattle.np_values.specs.declared.error.NpError.TheVariants.{NoError}
use Rattle.np_values.specs.declared.name.Side.TheVariants as sides
use Rattle.np_values.specs.declared.value.Value.TheVariants as values
use Rattle.np_values.specs.Text.{is_text}
use Rattle.np_idents.specs.declared.key.IdKey.TheVariants.{Str, Int as IntKey}
use Rattle.np_script_grammar.specs.declared.action.Action.TheVariants as actions
use Rattle.np_script_grammar.specs.declared.action.Operand.TheVariants.{Reg, Const}
use Rattle.np_script_grammar.specs.declared.class.Member.TheVariants as members
use Rattle.np_script_grammar.specs.declared.command.Command.TheVariants as commands
use Rattle.np_script_grammar.specs.declared.page.Page.{Page}
use Rattle.np_message.specs.Encoding.{encoding}
use Rattle.np_message.specs.Message.{Message}
use Rattle.np_message.specs.declared.payload.Payload.TheVariants as payloads
use Rattle.np_journal.specs.declared.line.Line.TheVariants.{Created, ProxyGone, Invalidated, Deallocated, StreamAnswered, CommandResult}
use Rattle.np_journal.specs.declared.printed.Printed.TheVariants as results
use Rattle.np_journal.specs.declared.streamed.Streamed.TheVariants as streams
use Rattle.np_machine_plans.specs.Outcomes.{resource, page_outcome}

abbrev page : Page
page = record {
  major = 0;
  minor = 27;
  classes = (
      (record {
        name = codes "Window";
        version = 3;
        stored = true;
        members = (
            members.Method (Str (codes "m1")) (actions.New 3 (codes "A") ∷ actions.Put (Reg 3) (IntKey (pos 0)) (Const (values.Int (pos 0))) ∷ actions.Put (Reg 3) (IntKey (pos 1)) (Const (values.Int (pos 1))) ∷ actions.Put (Reg 3) (IntKey (pos 2)) (Const (values.Int (pos 2))) ∷ actions.Put (Reg 3) (IntKey (pos 3)) (Const (values.Int (pos 3))) ∷ actions.Put (Reg 3) (IntKey (pos 4)) (Const (values.Int (pos 4))) ∷ actions.Put (Reg 3) (IntKey (pos 5)) (Const (values.Int (pos 5))) ∷ actions.Put (Reg 3) (IntKey (pos 6)) (Const (values.Int (pos 6))) ∷ actions.Put (Reg 3) (IntKey (pos 7)) (Const (values.Int (pos 7))) ∷ actions.Put (Reg 3) (IntKey (pos 8)) (Const (values.Int (pos 8))) ∷ actions.Put (Reg 3) (IntKey (pos 9)) (Const (values.Int (pos 9))) ∷ actions.Put (Reg 3) (IntKey (pos 10)) (Const (values.Int (pos 10))) ∷ actions.Put (Reg 3) (IntKey (pos 11)) (Const (values.Int (pos 11))) ∷ actions.Put (Reg 3) (IntKey (pos 12)) (Const (values.Int (pos 12))) ∷ actions.Put (Reg 3) (IntKey (pos 13)) (Const (values.Int (pos 13))) ∷ actions.Put (Reg 3) (IntKey (pos 14)) (Const (values.Int (pos 14))) ∷ actions.Put (Reg 3) (IntKey (pos 15)) (Const (values.Int (pos 15))) ∷ actions.Put (Reg 3) (IntKey (pos 16)) (Const (values.Int (pos 16))) ∷ actions.Put (Reg 3) (IntKey (pos 17)) (Const (values.Int (pos 17))) ∷ actions.Put (Reg 3) (IntKey (pos 18)) (Const (values.Int (pos 18))) ∷ actions.Put (Reg 3) (IntKey (pos 19)) (Const (values.Int (pos 19))) ∷ actions.Put (Reg 3) (IntKey (pos 20)) (Const (values.Int (pos 20))) ∷ actions.Put (Reg 3) (IntKey (pos 21)) (Const (values.Int (pos 21))) ∷ actions.Put (Reg 3) (IntKey (pos 22)) (Const (values.Int (pos 22))) ∷ actions.Put (Reg 3) (IntKey (pos 23)) (Const (values.Int (pos 23))) ∷ actions.Put (Reg 3) (IntKey (pos 24)) (Const (values.Int (pos 24))) ∷ actions.Put (Reg 3) (IntKey (pos 25)) (Const (values.Int (pos 25))) ∷ actions.Put (Reg 3) (IntKey (pos 26)) (Const (values.Int (pos 26))) ∷ actions.Put (Reg 3) (IntKey (pos 27)) (Const (values.Int (pos 27))) ∷ actions.Put (Reg 3) (IntKey (pos 28)) (Const (values.Int (pos 28))) ∷ actions.Put (Reg 3) (IntKey (pos 29)) (Const (values.Int (pos 29))) ∷ actions.Remove (Reg 3) (IntKey (pos 5)) ∷ actions.Put (Reg 3) (IntKey (pos 99)) (Reg 3) ∷ actions.Enumerate 2 (Reg 3) ∷ actions.Return (Reg 2) ∷ []) ∷
            members.Default (actions.Load 2 0 ∷ actions.New 4 (codes "B") ∷ actions.New 2 (codes "Window") ∷ actions.Load 2 1 ∷ actions.Note (Reg 3) ∷ []) ∷
            members.Method (Str (codes "m2")) (actions.Load 3 1 ∷ actions.Load 2 0 ∷ actions.New 2 (codes "Window") ∷ actions.Put (Reg 2) (Str (codes "f0")) (Reg 1) ∷ actions.Slot 0 (Reg 2) ∷ actions.Drop 2 ∷ []) ∷
            members.Setter (Str (codes "f1")) (actions.Load 3 1 ∷ actions.Slot 1 (Reg 2) ∷ []) ∷
            members.Method (Str (codes "take")) (actions.New 5 (codes "A") ∷ actions.New 2 (codes "Window") ∷ actions.New 3 (codes "Window") ∷ actions.CallDefault 1 (Reg 2) (Reg 1 ∷ Reg 3 ∷ []) ∷ []) ∷
            members.Method (Str (codes "m0")) (actions.New 3 (codes "A") ∷ actions.Put (Reg 3) (IntKey (pos 0)) (Const (values.Int (pos 0))) ∷ actions.Put (Reg 3) (IntKey (pos 1)) (Const (values.Int (pos 1))) ∷ actions.Put (Reg 3) (IntKey (pos 2)) (Const (values.Int (pos 2))) ∷ actions.Put (Reg 3) (IntKey (pos 3)) (Const (values.Int (pos 3))) ∷ actions.Put (Reg 3) (IntKey (pos 4)) (Const (values.Int (pos 4))) ∷ actions.Put (Reg 3) (IntKey (pos 5)) (Const (values.Int (pos 5))) ∷ actions.Put (Reg 3) (IntKey (pos 6)) (Const (values.Int (pos 6))) ∷ actions.Put (Reg 3) (IntKey (pos 7)) (Const (values.Int (pos 7))) ∷ actions.Put (Reg 3) (IntKey (pos 8)) (Const (values.Int (pos 8))) ∷ actions.Put (Reg 3) (IntKey (pos 9)) (Const (values.Int (pos 9))) ∷ actions.Put (Reg 3) (IntKey (pos 10)) (Const (values.Int (pos 10))) ∷ actions.Put (Reg 3) (IntKey (pos 11)) (Const (values.Int (pos 11))) ∷ actions.Put (Reg 3) (IntKey (pos 12)) (Const (values.Int (pos 12))) ∷ actions.Put (Reg 3) (IntKey (pos 13)) (Const (values.Int (pos 13))) ∷ actions.Put (Reg 3) (IntKey (pos 14)) (Const (values.Int (pos 14))) ∷ actions.Put (Reg 3) (IntKey (pos 15)) (Const (values.Int (pos 15))) ∷ actions.Put (Reg 3) (IntKey (pos 16)) (Const (values.Int (pos 16))) ∷ actions.Put (Reg 3) (IntKey (pos 17)) (Const (values.Int (pos 17))) ∷ actions.Put (Reg 3) (IntKey (pos 18)) (Const (values.Int (pos 18))) ∷ actions.Put (Reg 3) (IntKey (pos 19)) (Const (values.Int (pos 19))) ∷ actions.Put (Reg 3) (IntKey (pos 20)) (Const (values.Int (pos 20))) ∷ actions.Put (Reg 3) (IntKey (pos 21)) (Const (values.Int (pos 21))) ∷ actions.Put (Reg 3) (IntKey (pos 22)) (Const (values.Int (pos 22))) ∷ actions.Put (Reg 3) (IntKey (pos 23)) (Const (values.Int (pos 23))) ∷ actions.Put (Reg 3) (IntKey (pos 24)) (Const (values.Int (pos 24))) ∷ actions.Put (Reg 3) (IntKey (pos 25)) (Const (values.Int (pos 25))) ∷ actions.Put (Reg 3) (IntKey (pos 26)) (Const (values.Int (pos 26))) ∷ actions.Put (Reg 3) (IntKey (pos 27)) (Const (values.Int (pos 27))) ∷ actions.Put (Reg 3) (IntKey (pos 28)) (Const (values.Int (pos 28))) ∷ actions.Put (Reg 3) (IntKey (pos 29)) (Const (values.Int (pos 29))) ∷ actions.Put (Reg 3) (IntKey (pos 30)) (Const (values.Int (pos 30))) ∷ actions.Put (Reg 3) (IntKey (pos 31)) (Const (values.Int (pos 31))) ∷ actions.Put (Reg 3) (IntKey (pos 32)) (Const (values.Int (pos 32))) ∷ actions.Put (Reg 3) (IntKey (pos 33)) (Const (values.Int (pos 33))) ∷ actions.Put (Reg 3) (IntKey (pos 34)) (Const (values.Int (pos 34))) ∷ actions.Put (Reg 3) (IntKey (pos 35)) (Const (values.Int (pos 35))) ∷ actions.Put (Reg 3) (IntKey (pos 36)) (Const (values.Int (pos 36))) ∷ actions.Put (Reg 3) (IntKey (pos 37)) (Const (values.Int (pos 37))) ∷ actions.Put (Reg 3) (IntKey (pos 38)) (Const (values.Int (pos 38))) ∷ actions.Put (Reg 3) (IntKey (pos 39)) (Const (values.Int (pos 39))) ∷ actions.Put (Reg 3) (IntKey (pos 40)) (Const (values.Int (pos 40))) ∷ actions.Put (Reg 3) (IntKey (pos 41)) (Const (values.Int (pos 41))) ∷ actions.Put (Reg 3) (IntKey (pos 42)) (Const (values.Int (pos 42))) ∷ actions.Put (Reg 3) (IntKey (pos 43)) (Const (values.Int (pos 43))) ∷ actions.Put (Reg 3) (IntKey (pos 44)) (Const (values.Int (pos 44))) ∷ actions.Put (Reg 3) (IntKey (pos 45)) (Const (values.Int (pos 45))) ∷ actions.Put (Reg 3) (IntKey (pos 46)) (Const (values.Int (pos 46))) ∷ actions.Put (Reg 3) (IntKey (pos 47)) (Const (values.Int (pos 47))) ∷ actions.Put (Reg 3) (IntKey (pos 48)) (Const (values.Int (pos 48))) ∷ actions.Put (Reg 3) (IntKey (pos 49)) (Const (values.Int (pos 49))) ∷ actions.Put (Reg 3) (IntKey (pos 50)) (Const (values.Int (pos 50))) ∷ actions.Put (Reg 3) (IntKey (pos 51)) (Const (values.Int (pos 51))) ∷ actions.Put (Reg 3) (IntKey (pos 52)) (Const (values.Int (pos 52))) ∷ actions.Put (Reg 3) (IntKey (pos 53)) (Const (values.Int (pos 53))) ∷ actions.Put (Reg 3) (IntKey (pos 54)) (Const (values.Int (pos 54))) ∷ actions.Put (Reg 3) (IntKey (pos 55)) (Const (values.Int (pos 55))) ∷ actions.Put (Reg 3) (IntKey (pos 56)) (Const (values.Int (pos 56))) ∷ actions.Put (Reg 3) (IntKey (pos 57)) (Const (values.Int (pos 57))) ∷ actions.Put (Reg 3) (IntKey (pos 58)) (Const (values.Int (pos 58))) ∷ actions.Put (Reg 3) (IntKey (pos 59)) (Const (values.Int (pos 59))) ∷ actions.Put (Reg 3) (IntKey (pos 60)) (Const (values.Int (pos 60))) ∷ actions.Put (Reg 3) (IntKey (pos 61)) (Const (values.Int (pos 61))) ∷ actions.Put (Reg 3) (IntKey (pos 62)) (Const (values.Int (pos 62))) ∷ actions.Put (Reg 3) (IntKey (pos 63)) (Const (values.Int (pos 63))) ∷ actions.Put (Reg 3) (IntKey (pos 64)) (Const (values.Int (pos 64))) ∷ actions.Put (Reg 3) (IntKey (pos 65)) (Const (values.Int (pos 65))) ∷ actions.Put (Reg 3) (IntKey (pos 66)) (Const (values.Int (pos 66))) ∷ actions.Put (Reg 3) (IntKey (pos 67)) (Const (values.Int (pos 67))) ∷ actions.Put (Reg 3) (IntKey (pos 68)) (Const (values.Int (pos 68))) ∷ actions.Put (Reg 3) (IntKey (pos 69)) (Const (values.Int (pos 69))) ∷ actions.Remove (Reg 3) (IntKey (pos 5)) ∷ actions.Put (Reg 3) (IntKey (pos 99)) (Reg 3) ∷ actions.Enumerate 2 (Reg 3) ∷ actions.Return (Reg 2) ∷ []) ∷
            members.Method (Str (codes "m3")) (actions.Invoke 5 (Reg 3) (Str (codes "take")) (Reg 0 ∷ Reg 0 ∷ Const (values.Int (pos 0)) ∷ []) ∷ []) ∷ []);
      }) ∷
      (record {
        name = codes "A";
        version = 1;
        stored = true;
        members = (
            members.Method (Str (codes "take")) (actions.Load 3 1 ∷ actions.SelfTo 2 ∷ actions.New 4 (codes "A") ∷ actions.New 2 (codes "Window") ∷ actions.New 5 (codes "B") ∷ []) ∷
            members.Method (Str (codes "m2")) (actions.Load 2 0 ∷ actions.New 1 (codes "Window") ∷ actions.New 4 (codes "B") ∷ actions.HasProperty (Reg 2) (Str (codes "f0")) ∷ actions.Get 2 (Reg 2) (Str (codes "f1")) ∷ actions.New 1 (codes "Window") ∷ []) ∷
            members.Method (Str (codes "m1")) (actions.New 3 (codes "A") ∷ actions.Put (Reg 3) (IntKey (pos 0)) (Const (values.Int (pos 0))) ∷ actions.Put (Reg 3) (IntKey (pos 1)) (Const (values.Int (pos 1))) ∷ actions.Put (Reg 3) (IntKey (pos 2)) (Const (values.Int (pos 2))) ∷ actions.Put (Reg 3) (IntKey (pos 3)) (Const (values.Int (pos 3))) ∷ actions.Put (Reg 3) (IntKey (pos 4)) (Const (values.Int (pos 4))) ∷ actions.Put (Reg 3) (IntKey (pos 5)) (Const (values.Int (pos 5))) ∷ actions.Put (Reg 3) (IntKey (pos 6)) (Const (values.Int (pos 6))) ∷ actions.Put (Reg 3) (IntKey (pos 7)) (Const (values.Int (pos 7))) ∷ actions.Put (Reg 3) (IntKey (pos 8)) (Const (values.Int (pos 8))) ∷ actions.Put (Reg 3) (IntKey (pos 9)) (Const (values.Int (pos 9))) ∷ actions.Put (Reg 3) (IntKey (pos 10)) (Const (values.Int (pos 10))) ∷ actions.Put (Reg 3) (IntKey (pos 11)) (Const (values.Int (pos 11))) ∷ actions.Put (Reg 3) (IntKey (pos 12)) (Const (values.Int (pos 12))) ∷ actions.Put (Reg 3) (IntKey (pos 13)) (Const (values.Int (pos 13))) ∷ actions.Put (Reg 3) (IntKey (pos 14)) (Const (values.Int (pos 14))) ∷ actions.Put (Reg 3) (IntKey (pos 15)) (Const (values.Int (pos 15))) ∷ actions.Put (Reg 3) (IntKey (pos 16)) (Const (values.Int (pos 16))) ∷ actions.Put (Reg 3) (IntKey (pos 17)) (Const (values.Int (pos 17))) ∷ actions.Put (Reg 3) (IntKey (pos 18)) (Const (values.Int (pos 18))) ∷ actions.Put (Reg 3) (IntKey (pos 19)) (Const (values.Int (pos 19))) ∷ actions.Put (Reg 3) (IntKey (pos 20)) (Const (values.Int (pos 20))) ∷ actions.Put (Reg 3) (IntKey (pos 21)) (Const (values.Int (pos 21))) ∷ actions.Put (Reg 3) (IntKey (pos 22)) (Const (values.Int (pos 22))) ∷ actions.Put (Reg 3) (IntKey (pos 23)) (Const (values.Int (pos 23))) ∷ actions.Put (Reg 3) (IntKey (pos 24)) (Const (values.Int (pos 24))) ∷ actions.Put (Reg 3) (IntKey (pos 25)) (Const (values.Int (pos 25))) ∷ actions.Put (Reg 3) (IntKey (pos 26)) (Const (values.Int (pos 26))) ∷ actions.Put (Reg 3) (IntKey (pos 27)) (Const (values.Int (pos 27))) ∷ actions.Put (Reg 3) (IntKey (pos 28)) (Const (values.Int (pos 28))) ∷ actions.Put (Reg 3) (IntKey (pos 29)) (Const (values.Int (pos 29))) ∷ actions.Put (Reg 3) (IntKey (pos 30)) (Const (values.Int (pos 30))) ∷ actions.Put (Reg 3) (IntKey (pos 31)) (Const (values.Int (pos 31))) ∷ actions.Put (Reg 3) (IntKey (pos 32)) (Const (values.Int (pos 32))) ∷ actions.Put (Reg 3) (IntKey (pos 33)) (Const (values.Int (pos 33))) ∷ actions.Put (Reg 3) (IntKey (pos 34)) (Const (values.Int (pos 34))) ∷ actions.Put (Reg 3) (IntKey (pos 35)) (Const (values.Int (pos 35))) ∷ actions.Put (Reg 3) (IntKey (pos 36)) (Const (values.Int (pos 36))) ∷ actions.Put (Reg 3) (IntKey (pos 37)) (Const (values.Int (pos 37))) ∷ actions.Put (Reg 3) (IntKey (pos 38)) (Const (values.Int (pos 38))) ∷ actions.Put (Reg 3) (IntKey (pos 39)) (Const (values.Int (pos 39))) ∷ actions.Put (Reg 3) (IntKey (pos 40)) (Const (values.Int (pos 40))) ∷ actions.Put (Reg 3) (IntKey (pos 41)) (Const (values.Int (pos 41))) ∷ actions.Put (Reg 3) (IntKey (pos 42)) (Const (values.Int (pos 42))) ∷ actions.Put (Reg 3) (IntKey (pos 43)) (Const (values.Int (pos 43))) ∷ actions.Put (Reg 3) (IntKey (pos 44)) (Const (values.Int (pos 44))) ∷ actions.Put (Reg 3) (IntKey (pos 45)) (Const (values.Int (pos 45))) ∷ actions.Put (Reg 3) (IntKey (pos 46)) (Const (values.Int (pos 46))) ∷ actions.Put (Reg 3) (IntKey (pos 47)) (Const (values.Int (pos 47))) ∷ actions.Put (Reg 3) (IntKey (pos 48)) (Const (values.Int (pos 48))) ∷ actions.Put (Reg 3) (IntKey (pos 49)) (Const (values.Int (pos 49))) ∷ actions.Put (Reg 3) (IntKey (pos 50)) (Const (values.Int (pos 50))) ∷ actions.Put (Reg 3) (IntKey (pos 51)) (Const (values.Int (pos 51))) ∷ actions.Put (Reg 3) (IntKey (pos 52)) (Const (values.Int (pos 52))) ∷ actions.Put (Reg 3) (IntKey (pos 53)) (Const (values.Int (pos 53))) ∷ actions.Put (Reg 3) (IntKey (pos 54)) (Const (values.Int (pos 54))) ∷ actions.Put (Reg 3) (IntKey (pos 55)) (Const (values.Int (pos 55))) ∷ actions.Put (Reg 3) (IntKey (pos 56)) (Const (values.Int (pos 56))) ∷ actions.Put (Reg 3) (IntKey (pos 57)) (Const (values.Int (pos 57))) ∷ actions.Put (Reg 3) (IntKey (pos 58)) (Const (values.Int (pos 58))) ∷ actions.Put (Reg 3) (IntKey (pos 59)) (Const (values.Int (pos 59))) ∷ actions.Put (Reg 3) (IntKey (pos 60)) (Const (values.Int (pos 60))) ∷ actions.Put (Reg 3) (IntKey (pos 61)) (Const (values.Int (pos 61))) ∷ actions.Put (Reg 3) (IntKey (pos 62)) (Const (values.Int (pos 62))) ∷ actions.Put (Reg 3) (IntKey (pos 63)) (Const (values.Int (pos 63))) ∷ actions.Put (Reg 3) (IntKey (pos 64)) (Const (values.Int (pos 64))) ∷ actions.Remove (Reg 3) (IntKey (pos 5)) ∷ actions.Put (Reg 3) (IntKey (pos 99)) (Reg 3) ∷ actions.Enumerate 2 (Reg 3) ∷ actions.Return (Reg 2) ∷ []) ∷
            members.Method (IntKey (pos 4)) (actions.New 1 (codes "Window") ∷ actions.New 3 (codes "A") ∷ []) ∷
            members.Method (Str (codes "m0")) (actions.Load 2 0 ∷ actions.Load 3 1 ∷ actions.Get 0 (Reg 1) (Str (codes "f0")) ∷ actions.Load 0 1 ∷ actions.Slot 0 (Reg 3) ∷ actions.CallDefault 5 (Reg 3) (Reg 1 ∷ []) ∷ []) ∷
            members.Construct (actions.New 0 (codes "B") ∷ actions.Put (Reg 3) (Str (codes "f1")) (Reg 0) ∷ actions.New 4 (codes "B") ∷ actions.OnEq (Reg 2) (Const values.Void) 3 ∷ actions.Remove (Reg 2) (Str (codes "f0")) ∷ []) ∷
            members.Method (Str (codes "m3")) [] ∷ []);
      }) ∷
      (record {
        name = codes "B";
        version = 3;
        stored = true;
        members = (
            members.Default (actions.Load 0 2 ∷ actions.New 4 (codes "A") ∷ actions.New 5 (codes "A") ∷ actions.Put (Reg 4) (Str (codes "f0")) (Reg 5) ∷ actions.New 5 (codes "A") ∷ actions.Put (Reg 4) (Str (codes "f1")) (Reg 5) ∷ []) ∷
            members.Method (Str (codes "m0")) [] ∷
            members.Method (Str (codes "m1")) (actions.New 3 (codes "Window") ∷ actions.Put (Reg 3) (IntKey (pos 0)) (Const (values.Int (pos 0))) ∷ actions.Put (Reg 3) (IntKey (pos 1)) (Const (values.Int (pos 1))) ∷ actions.Put (Reg 3) (IntKey (pos 2)) (Const (values.Int (pos 2))) ∷ actions.Put (Reg 3) (IntKey (pos 3)) (Const (values.Int (pos 3))) ∷ actions.Put (Reg 3) (IntKey (pos 4)) (Const (values.Int (pos 4))) ∷ actions.Put (Reg 3) (IntKey (pos 5)) (Const (values.Int (pos 5))) ∷ actions.Put (Reg 3) (IntKey (pos 6)) (Const (values.Int (pos 6))) ∷ actions.Put (Reg 3) (IntKey (pos 7)) (Const (values.Int (pos 7))) ∷ actions.Put (Reg 3) (IntKey (pos 8)) (Const (values.Int (pos 8))) ∷ actions.Put (Reg 3) (IntKey (pos 9)) (Const (values.Int (pos 9))) ∷ actions.Put (Reg 3) (IntKey (pos 10)) (Const (values.Int (pos 10))) ∷ actions.Put (Reg 3) (IntKey (pos 11)) (Const (values.Int (pos 11))) ∷ actions.Put (Reg 3) (IntKey (pos 12)) (Const (values.Int (pos 12))) ∷ actions.Put (Reg 3) (IntKey (pos 13)) (Const (values.Int (pos 13))) ∷ actions.Put (Reg 3) (IntKey (pos 14)) (Const (values.Int (pos 14))) ∷ actions.Put (Reg 3) (IntKey (pos 15)) (Const (values.Int (pos 15))) ∷ actions.Put (Reg 3) (IntKey (pos 16)) (Const (values.Int (pos 16))) ∷ actions.Put (Reg 3) (IntKey (pos 17)) (Const (values.Int (pos 17))) ∷ actions.Put (Reg 3) (IntKey (pos 18)) (Const (values.Int (pos 18))) ∷ actions.Put (Reg 3) (IntKey (pos 19)) (Const (values.Int (pos 19))) ∷ actions.Put (Reg 3) (IntKey (pos 20)) (Const (values.Int (pos 20))) ∷ actions.Put (Reg 3) (IntKey (pos 21)) (Const (values.Int (pos 21))) ∷ actions.Put (Reg 3) (IntKey (pos 22)) (Const (values.Int (pos 22))) ∷ actions.Put (Reg 3) (IntKey (pos 23)) (Const (values.Int (pos 23))) ∷ actions.Put (Reg 3) (IntKey (pos 24)) (Const (values.Int (pos 24))) ∷ actions.Put (Reg 3) (IntKey (pos 25)) (Const (values.Int (pos 25))) ∷ actions.Put (Reg 3) (IntKey (pos 26)) (Const (values.Int (pos 26))) ∷ actions.Put (Reg 3) (IntKey (pos 27)) (Const (values.Int (pos 27))) ∷ actions.Put (Reg 3) (IntKey (pos 28)) (Const (values.Int (pos 28))) ∷ actions.Put (Reg 3) (IntKey (pos 29)) (Const (values.Int (pos 29))) ∷ actions.Put (Reg 3) (IntKey (pos 30)) (Const (values.Int (pos 30))) ∷ actions.Put (Reg 3) (IntKey (pos 31)) (Const (values.Int (pos 31))) ∷ actions.Put (Reg 3) (IntKey (pos 32)) (Const (values.Int (pos 32))) ∷ actions.Put (Reg 3) (IntKey (pos 33)) (Const (values.Int (pos 33))) ∷ actions.Put (Reg 3) (IntKey (pos 34)) (Const (values.Int (pos 34))) ∷ actions.Put (Reg 3) (IntKey (pos 35)) (Const (values.Int (pos 35))) ∷ actions.Put (Reg 3) (IntKey (pos 36)) (Const (values.Int (pos 36))) ∷ actions.Put (Reg 3) (IntKey (pos 37)) (Const (values.Int (pos 37))) ∷ actions.Put (Reg 3) (IntKey (pos 38)) (Const (values.Int (pos 38))) ∷ actions.Put (Reg 3) (IntKey (pos 39)) (Const (values.Int (pos 39))) ∷ actions.Put (Reg 3) (IntKey (pos 40)) (Const (values.Int (pos 40))) ∷ actions.Put (Reg 3) (IntKey (pos 41)) (Const (values.Int (pos 41))) ∷ actions.Put (Reg 3) (IntKey (pos 42)) (Const (values.Int (pos 42))) ∷ actions.Put (Reg 3) (IntKey (pos 43)) (Const (values.Int (pos 43))) ∷ actions.Put (Reg 3) (IntKey (pos 44)) (Const (values.Int (pos 44))) ∷ actions.Put (Reg 3) (IntKey (pos 45)) (Const (values.Int (pos 45))) ∷ actions.Put (Reg 3) (IntKey (pos 46)) (Const (values.Int (pos 46))) ∷ actions.Put (Reg 3) (IntKey (pos 47)) (Const (values.Int (pos 47))) ∷ actions.Put (Reg 3) (IntKey (pos 48)) (Const (values.Int (pos 48))) ∷ actions.Put (Reg 3) (IntKey (pos 49)) (Const (values.Int (pos 49))) ∷ actions.Put (Reg 3) (IntKey (pos 50)) (Const (values.Int (pos 50))) ∷ actions.Put (Reg 3) (IntKey (pos 51)) (Const (values.Int (pos 51))) ∷ actions.Put (Reg 3) (IntKey (pos 52)) (Const (values.Int (pos 52))) ∷ actions.Put (Reg 3) (IntKey (pos 53)) (Const (values.Int (pos 53))) ∷ actions.Put (Reg 3) (IntKey (pos 54)) (Const (values.Int (pos 54))) ∷ actions.Put (Reg 3) (IntKey (pos 55)) (Const (values.Int (pos 55))) ∷ actions.Put (Reg 3) (IntKey (pos 56)) (Const (values.Int (pos 56))) ∷ actions.Put (Reg 3) (IntKey (pos 57)) (Const (values.Int (pos 57))) ∷ actions.Put (Reg 3) (IntKey (pos 58)) (Const (values.Int (pos 58))) ∷ actions.Put (Reg 3) (IntKey (pos 59)) (Const (values.Int (pos 59))) ∷ actions.Put (Reg 3) (IntKey (pos 60)) (Const (values.Int (pos 60))) ∷ actions.Put (Reg 3) (IntKey (pos 61)) (Const (values.Int (pos 61))) ∷ actions.Put (Reg 3) (IntKey (pos 62)) (Const (values.Int (pos 62))) ∷ actions.Put (Reg 3) (IntKey (pos 63)) (Const (values.Int (pos 63))) ∷ actions.Put (Reg 3) (IntKey (pos 64)) (Const (values.Int (pos 64))) ∷ actions.Put (Reg 3) (IntKey (pos 65)) (Const (values.Int (pos 65))) ∷ actions.Put (Reg 3) (IntKey (pos 66)) (Const (values.Int (pos 66))) ∷ actions.Put (Reg 3) (IntKey (pos 67)) (Const (values.Int (pos 67))) ∷ actions.Put (Reg 3) (IntKey (pos 68)) (Const (values.Int (pos 68))) ∷ actions.Put (Reg 3) (IntKey (pos 69)) (Const (values.Int (pos 69))) ∷ actions.Remove (Reg 3) (IntKey (pos 5)) ∷ actions.Put (Reg 3) (IntKey (pos 99)) (Reg 3) ∷ actions.Enumerate 2 (Reg 3) ∷ actions.Return (Reg 2) ∷ []) ∷
            members.Method (Str (codes "m3")) (actions.New 4 (codes "Window") ∷ actions.Drop 1 ∷ actions.New 3 (codes "B") ∷ actions.Invoke 0 (Reg 3) (IntKey (pos 4)) (Reg 1 ∷ Reg 3 ∷ []) ∷ actions.HasProperty (Reg 5) (Str (codes "f0")) ∷ []) ∷
            members.Method (Str (codes "m2")) (actions.Load 2 0 ∷ actions.New 3 (codes "Window") ∷ actions.New 4 (codes "Window") ∷ actions.New 2 (codes "B") ∷ actions.Slot 3 (Reg 2) ∷ []) ∷
            members.Method (IntKey (pos 4)) (actions.Load 3 1 ∷ actions.Load 2 0 ∷ actions.Invoke 0 (Reg 0) (Str (codes "take")) (Reg 1 ∷ Reg 0 ∷ Reg 13 ∷ []) ∷ actions.Slot 3 (Reg 3) ∷ []) ∷ []);
      }) ∷ []);
  resources = (
      resource (codes "r") (codes "t/p") 1 (codes "0123456789") ∷
      resource (codes "s") (codes "t/p") 1 (codes "0123456789") ∷
      resource (codes "e") (codes "t/p") 0 (120 ∷ 1 ∷ 34 ∷ []) ∷ []);
  commands = (
      commands.Create (codes "t/x") 1 [] ∷
      commands.Scriptable 0 1 ∷
      commands.Create (codes "t/x") 1 [] ∷
      commands.Scriptable 1 2 ∷
      commands.New 2 1 (codes "A") ∷
      commands.New 3 2 (codes "A") ∷
      commands.OpenStream 1 (codes "r") ∷
      commands.Pump 1 ∷
      commands.Invoke 5 (Reg 4) (Str (codes "m0")) [] ∷ []);
}

abbrev got-got : List Message
got-got = (
    (record { depth = record { level = 1; task = false }; releases = []; body = payloads.Code NoError }) ∷
    (record { depth = record { level = 2; task = false }; releases = []; body = payloads.Window 1 }) ∷
    (record { depth = record { level = 1; task = false }; releases = []; body = payloads.Code NoError }) ∷
    (record { depth = record { level = 1; task = false }; releases = []; body = payloads.True (values.Object (record { side = sides.Plug; instance = 1; serial = 1 })) }) ∷
    (record { depth = record { level = 2; task = false }; releases = []; body = payloads.Window 2 }) ∷
    (record { depth = record { level = 1; task = false }; releases = []; body = payloads.Code NoError }) ∷
    (record { depth = record { level = 1; task = false }; releases = []; body = payloads.True (values.Object (record { side = sides.Plug; instance = 2; serial = 1 })) }) ∷
    (record { depth = record { level = 1; task = false }; releases = []; body = payloads.Number (pos 1) }) ∷
    (record { depth = record { level = 1; task = false }; releases = []; body = payloads.Code NoError }) ∷
    (record { depth = record { level = 1; task = false }; releases = []; body = payloads.Code NoError }) ∷
    (record { depth = record { level = 1; task = false }; releases = []; body = payloads.Done }) ∷ [])

-- the page with these messages
got : page_outcome 1500 page got-got ≡ record {
  refusal = None;
  page = (
      Created (record { side = sides.Page; instance = 1; serial = 1 }) ∷
      CommandResult 1 (results.Code NoError) ∷
      CommandResult 2 (results.Yes (values.Object (record { side = sides.Plug; instance = 1; serial = 1 })) false) ∷
      Created (record { side = sides.Page; instance = 2; serial = 1 }) ∷
      CommandResult 3 (results.Code NoError) ∷
      CommandResult 4 (results.Yes (values.Object (record { side = sides.Plug; instance = 2; serial = 1 })) false) ∷
      Created (record { side = sides.Page; instance = 1; serial = 2 }) ∷
      CommandResult 5 (results.Yes (values.Object (record { side = sides.Page; instance = 1; serial = 2 })) false) ∷
      Created (record { side = sides.Page; instance = 2; serial = 2 }) ∷
      CommandResult 6 (results.Yes (values.Object (record { side = sides.Page; instance = 2; serial = 2 })) false) ∷
      CommandResult 7 (results.Code NoError) ∷
      StreamAnswered 1 (streams.New (pos 1)) ∷
      CommandResult 8 (results.Pumped 1) ∷
      CommandResult 9 results.No ∷
      ProxyGone (record { side = sides.Plug; instance = 1; serial = 1 }) ∷
      Invalidated (record { side = sides.Page; instance = 1; serial = 1 }) ∷
      Invalidated (record { side = sides.Page; instance = 1; serial = 2 }) ∷
      Deallocated (record { side = sides.Page; instance = 1; serial = 1 }) ∷
      Deallocated (record { side = sides.Page; instance = 1; serial = 2 }) ∷
      ProxyGone (record { side = sides.Plug; instance = 2; serial = 1 }) ∷
      Invalidated (record { side = sides.Page; instance = 2; serial = 1 }) ∷
      Invalidated (record { side = sides.Page; instance = 2; serial = 2 }) ∷
      Deallocated (record { side = sides.Page; instance = 2; serial = 1 }) ∷
      Deallocated (record { side = sides.Page; instance = 2; serial = 2 }) ∷ []);
}
unfolding encoding digits is_text is_utf8 chars encode_utf8
got = refl
