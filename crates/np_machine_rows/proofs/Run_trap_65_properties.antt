-- Made by tools/vector-theorems of tests/vectors/trap-65-properties.
use Rattle.std.proofs.Common.{◌≡◌, pos, [], ◌∷◌, refl, true, false}
use Rattle.std.specs.Prelude.{codes}
use Rattle.std.specs.Char.{encode_utf8}
use Rattle.std.specs.Fmt.{digits}
use Rattle.std.specs.Str.{is_utf8, chars}
use Rattle.np_values.specs.declared.error.NpError.TheVariants.{NoError}
use Rattle.np_values.specs.declared.name.Side.TheVariants as sides
use Rattle.np_values.specs.declared.value.Value.TheVariants as values
use Rattle.np_values.specs.Text.{is_text}
use Rattle.np_idents.specs.declared.key.IdKey.TheVariants.{Int as IntKey}
use Rattle.np_idents.specs.declared.op.Op.TheVariants as ops
use Rattle.np_script_grammar.specs.declared.action.Operand.TheVariants.{Reg, Const}
use Rattle.np_script_grammar.specs.declared.command.Command.TheVariants as commands
use Rattle.np_script_grammar.specs.declared.page.Page.{Page}
use Rattle.np_script_grammar.specs.declared.plugin.Plugin.{Plugin}
use Rattle.np_message.specs.Encoding.{encoding}
use Rattle.np_journal.specs.declared.line.Line.TheVariants.{Created, Entered, Invalidated, Deallocated, CommandResult}
use Rattle.np_journal.specs.declared.printed.Printed.TheVariants as results
use Rattle.np_machine_plans.specs.Outcomes.{outcome}

abbrev page : Page
page = record {
  major = 0;
  minor = 27;
  classes = (
      (record {
        name = codes "Bag";
        version = 3;
        stored = true;
        members = [];
      }) ∷ []);
  resources = [];
  commands = (
      commands.Create (codes "t/x") 1 [] ∷
      commands.New 0 1 (codes "Bag") ∷
      commands.Put (Reg 0) (IntKey (pos 0)) (Const (values.Int (pos 0))) ∷
      commands.Put (Reg 0) (IntKey (pos 1)) (Const (values.Int (pos 1))) ∷
      commands.Put (Reg 0) (IntKey (pos 2)) (Const (values.Int (pos 2))) ∷
      commands.Put (Reg 0) (IntKey (pos 3)) (Const (values.Int (pos 3))) ∷
      commands.Put (Reg 0) (IntKey (pos 4)) (Const (values.Int (pos 4))) ∷
      commands.Put (Reg 0) (IntKey (pos 5)) (Const (values.Int (pos 5))) ∷
      commands.Put (Reg 0) (IntKey (pos 6)) (Const (values.Int (pos 6))) ∷
      commands.Put (Reg 0) (IntKey (pos 7)) (Const (values.Int (pos 7))) ∷
      commands.Put (Reg 0) (IntKey (pos 8)) (Const (values.Int (pos 8))) ∷
      commands.Put (Reg 0) (IntKey (pos 9)) (Const (values.Int (pos 9))) ∷
      commands.Put (Reg 0) (IntKey (pos 10)) (Const (values.Int (pos 10))) ∷
      commands.Put (Reg 0) (IntKey (pos 11)) (Const (values.Int (pos 11))) ∷
      commands.Put (Reg 0) (IntKey (pos 12)) (Const (values.Int (pos 12))) ∷
      commands.Put (Reg 0) (IntKey (pos 13)) (Const (values.Int (pos 13))) ∷
      commands.Put (Reg 0) (IntKey (pos 14)) (Const (values.Int (pos 14))) ∷
      commands.Put (Reg 0) (IntKey (pos 15)) (Const (values.Int (pos 15))) ∷
      commands.Put (Reg 0) (IntKey (pos 16)) (Const (values.Int (pos 16))) ∷
      commands.Put (Reg 0) (IntKey (pos 17)) (Const (values.Int (pos 17))) ∷
      commands.Put (Reg 0) (IntKey (pos 18)) (Const (values.Int (pos 18))) ∷
      commands.Put (Reg 0) (IntKey (pos 19)) (Const (values.Int (pos 19))) ∷
      commands.Put (Reg 0) (IntKey (pos 20)) (Const (values.Int (pos 20))) ∷
      commands.Put (Reg 0) (IntKey (pos 21)) (Const (values.Int (pos 21))) ∷
      commands.Put (Reg 0) (IntKey (pos 22)) (Const (values.Int (pos 22))) ∷
      commands.Put (Reg 0) (IntKey (pos 23)) (Const (values.Int (pos 23))) ∷
      commands.Put (Reg 0) (IntKey (pos 24)) (Const (values.Int (pos 24))) ∷
      commands.Put (Reg 0) (IntKey (pos 25)) (Const (values.Int (pos 25))) ∷
      commands.Put (Reg 0) (IntKey (pos 26)) (Const (values.Int (pos 26))) ∷
      commands.Put (Reg 0) (IntKey (pos 27)) (Const (values.Int (pos 27))) ∷
      commands.Put (Reg 0) (IntKey (pos 28)) (Const (values.Int (pos 28))) ∷
      commands.Put (Reg 0) (IntKey (pos 29)) (Const (values.Int (pos 29))) ∷
      commands.Put (Reg 0) (IntKey (pos 30)) (Const (values.Int (pos 30))) ∷
      commands.Put (Reg 0) (IntKey (pos 31)) (Const (values.Int (pos 31))) ∷
      commands.Put (Reg 0) (IntKey (pos 32)) (Const (values.Int (pos 32))) ∷
      commands.Put (Reg 0) (IntKey (pos 33)) (Const (values.Int (pos 33))) ∷
      commands.Put (Reg 0) (IntKey (pos 34)) (Const (values.Int (pos 34))) ∷
      commands.Put (Reg 0) (IntKey (pos 35)) (Const (values.Int (pos 35))) ∷
      commands.Put (Reg 0) (IntKey (pos 36)) (Const (values.Int (pos 36))) ∷
      commands.Put (Reg 0) (IntKey (pos 37)) (Const (values.Int (pos 37))) ∷
      commands.Put (Reg 0) (IntKey (pos 38)) (Const (values.Int (pos 38))) ∷
      commands.Put (Reg 0) (IntKey (pos 39)) (Const (values.Int (pos 39))) ∷
      commands.Put (Reg 0) (IntKey (pos 40)) (Const (values.Int (pos 40))) ∷
      commands.Put (Reg 0) (IntKey (pos 41)) (Const (values.Int (pos 41))) ∷
      commands.Put (Reg 0) (IntKey (pos 42)) (Const (values.Int (pos 42))) ∷
      commands.Put (Reg 0) (IntKey (pos 43)) (Const (values.Int (pos 43))) ∷
      commands.Put (Reg 0) (IntKey (pos 44)) (Const (values.Int (pos 44))) ∷
      commands.Put (Reg 0) (IntKey (pos 45)) (Const (values.Int (pos 45))) ∷
      commands.Put (Reg 0) (IntKey (pos 46)) (Const (values.Int (pos 46))) ∷
      commands.Put (Reg 0) (IntKey (pos 47)) (Const (values.Int (pos 47))) ∷
      commands.Put (Reg 0) (IntKey (pos 48)) (Const (values.Int (pos 48))) ∷
      commands.Put (Reg 0) (IntKey (pos 49)) (Const (values.Int (pos 49))) ∷
      commands.Put (Reg 0) (IntKey (pos 50)) (Const (values.Int (pos 50))) ∷
      commands.Put (Reg 0) (IntKey (pos 51)) (Const (values.Int (pos 51))) ∷
      commands.Put (Reg 0) (IntKey (pos 52)) (Const (values.Int (pos 52))) ∷
      commands.Put (Reg 0) (IntKey (pos 53)) (Const (values.Int (pos 53))) ∷
      commands.Put (Reg 0) (IntKey (pos 54)) (Const (values.Int (pos 54))) ∷
      commands.Put (Reg 0) (IntKey (pos 55)) (Const (values.Int (pos 55))) ∷
      commands.Put (Reg 0) (IntKey (pos 56)) (Const (values.Int (pos 56))) ∷
      commands.Put (Reg 0) (IntKey (pos 57)) (Const (values.Int (pos 57))) ∷
      commands.Put (Reg 0) (IntKey (pos 58)) (Const (values.Int (pos 58))) ∷
      commands.Put (Reg 0) (IntKey (pos 59)) (Const (values.Int (pos 59))) ∷
      commands.Put (Reg 0) (IntKey (pos 60)) (Const (values.Int (pos 60))) ∷
      commands.Put (Reg 0) (IntKey (pos 61)) (Const (values.Int (pos 61))) ∷
      commands.Put (Reg 0) (IntKey (pos 62)) (Const (values.Int (pos 62))) ∷
      commands.Put (Reg 0) (IntKey (pos 63)) (Const (values.Int (pos 63))) ∷
      commands.Put (Reg 0) (IntKey (pos 64)) (Const (values.Int (pos 64))) ∷
      commands.Put (Reg 0) (IntKey (pos 0)) (Const (values.Int (pos 7))) ∷
      commands.Get 1 (Reg 0) (IntKey (pos 0)) ∷
      commands.Get 1 (Reg 0) (IntKey (pos 64)) ∷
      commands.Remove (Reg 0) (IntKey (pos 0)) ∷
      commands.Put (Reg 0) (IntKey (pos 64)) (Const (values.Int (pos 1))) ∷ []);
}

abbrev plugin : Plugin
plugin = record {
  major = 0;
  minor = 27;
  classes = [];
  handlers = [];
  tasks = [];
}

-- the run of both
both-end : outcome 1500 page plugin ≡ record {
  page = (
      CommandResult 1 (results.Code NoError) ∷
      Created (record { side = sides.Page; instance = 1; serial = 1 }) ∷
      CommandResult 2 (results.Yes (values.Object (record { side = sides.Page; instance = 1; serial = 1 })) false) ∷
      Entered (record { side = sides.Page; instance = 1; serial = 1 }) (ops.Put (IntKey (pos 0))) ∷
      CommandResult 3 (results.Yes values.Void false) ∷
      Entered (record { side = sides.Page; instance = 1; serial = 1 }) (ops.Put (IntKey (pos 1))) ∷
      CommandResult 4 (results.Yes values.Void false) ∷
      Entered (record { side = sides.Page; instance = 1; serial = 1 }) (ops.Put (IntKey (pos 2))) ∷
      CommandResult 5 (results.Yes values.Void false) ∷
      Entered (record { side = sides.Page; instance = 1; serial = 1 }) (ops.Put (IntKey (pos 3))) ∷
      CommandResult 6 (results.Yes values.Void false) ∷
      Entered (record { side = sides.Page; instance = 1; serial = 1 }) (ops.Put (IntKey (pos 4))) ∷
      CommandResult 7 (results.Yes values.Void false) ∷
      Entered (record { side = sides.Page; instance = 1; serial = 1 }) (ops.Put (IntKey (pos 5))) ∷
      CommandResult 8 (results.Yes values.Void false) ∷
      Entered (record { side = sides.Page; instance = 1; serial = 1 }) (ops.Put (IntKey (pos 6))) ∷
      CommandResult 9 (results.Yes values.Void false) ∷
      Entered (record { side = sides.Page; instance = 1; serial = 1 }) (ops.Put (IntKey (pos 7))) ∷
      CommandResult 10 (results.Yes values.Void false) ∷
      Entered (record { side = sides.Page; instance = 1; serial = 1 }) (ops.Put (IntKey (pos 8))) ∷
      CommandResult 11 (results.Yes values.Void false) ∷
      Entered (record { side = sides.Page; instance = 1; serial = 1 }) (ops.Put (IntKey (pos 9))) ∷
      CommandResult 12 (results.Yes values.Void false) ∷
      Entered (record { side = sides.Page; instance = 1; serial = 1 }) (ops.Put (IntKey (pos 10))) ∷
      CommandResult 13 (results.Yes values.Void false) ∷
      Entered (record { side = sides.Page; instance = 1; serial = 1 }) (ops.Put (IntKey (pos 11))) ∷
      CommandResult 14 (results.Yes values.Void false) ∷
      Entered (record { side = sides.Page; instance = 1; serial = 1 }) (ops.Put (IntKey (pos 12))) ∷
      CommandResult 15 (results.Yes values.Void false) ∷
      Entered (record { side = sides.Page; instance = 1; serial = 1 }) (ops.Put (IntKey (pos 13))) ∷
      CommandResult 16 (results.Yes values.Void false) ∷
      Entered (record { side = sides.Page; instance = 1; serial = 1 }) (ops.Put (IntKey (pos 14))) ∷
      CommandResult 17 (results.Yes values.Void false) ∷
      Entered (record { side = sides.Page; instance = 1; serial = 1 }) (ops.Put (IntKey (pos 15))) ∷
      CommandResult 18 (results.Yes values.Void false) ∷
      Entered (record { side = sides.Page; instance = 1; serial = 1 }) (ops.Put (IntKey (pos 16))) ∷
      CommandResult 19 (results.Yes values.Void false) ∷
      Entered (record { side = sides.Page; instance = 1; serial = 1 }) (ops.Put (IntKey (pos 17))) ∷
      CommandResult 20 (results.Yes values.Void false) ∷
      Entered (record { side = sides.Page; instance = 1; serial = 1 }) (ops.Put (IntKey (pos 18))) ∷
      CommandResult 21 (results.Yes values.Void false) ∷
      Entered (record { side = sides.Page; instance = 1; serial = 1 }) (ops.Put (IntKey (pos 19))) ∷
      CommandResult 22 (results.Yes values.Void false) ∷
      Entered (record { side = sides.Page; instance = 1; serial = 1 }) (ops.Put (IntKey (pos 20))) ∷
      CommandResult 23 (results.Yes values.Void false) ∷
      Entered (record { side = sides.Page; instance = 1; serial = 1 }) (ops.Put (IntKey (pos 21))) ∷
      CommandResult 24 (results.Yes values.Void false) ∷
      Entered (record { side = sides.Page; instance = 1; serial = 1 }) (ops.Put (IntKey (pos 22))) ∷
      CommandResult 25 (results.Yes values.Void false) ∷
      Entered (record { side = sides.Page; instance = 1; serial = 1 }) (ops.Put (IntKey (pos 23))) ∷
      CommandResult 26 (results.Yes values.Void false) ∷
      Entered (record { side = sides.Page; instance = 1; serial = 1 }) (ops.Put (IntKey (pos 24))) ∷
      CommandResult 27 (results.Yes values.Void false) ∷
      Entered (record { side = sides.Page; instance = 1; serial = 1 }) (ops.Put (IntKey (pos 25))) ∷
      CommandResult 28 (results.Yes values.Void false) ∷
      Entered (record { side = sides.Page; instance = 1; serial = 1 }) (ops.Put (IntKey (pos 26))) ∷
      CommandResult 29 (results.Yes values.Void false) ∷
      Entered (record { side = sides.Page; instance = 1; serial = 1 }) (ops.Put (IntKey (pos 27))) ∷
      CommandResult 30 (results.Yes values.Void false) ∷
      Entered (record { side = sides.Page; instance = 1; serial = 1 }) (ops.Put (IntKey (pos 28))) ∷
      CommandResult 31 (results.Yes values.Void false) ∷
      Entered (record { side = sides.Page; instance = 1; serial = 1 }) (ops.Put (IntKey (pos 29))) ∷
      CommandResult 32 (results.Yes values.Void false) ∷
      Entered (record { side = sides.Page; instance = 1; serial = 1 }) (ops.Put (IntKey (pos 30))) ∷
      CommandResult 33 (results.Yes values.Void false) ∷
      Entered (record { side = sides.Page; instance = 1; serial = 1 }) (ops.Put (IntKey (pos 31))) ∷
      CommandResult 34 (results.Yes values.Void false) ∷
      Entered (record { side = sides.Page; instance = 1; serial = 1 }) (ops.Put (IntKey (pos 32))) ∷
      CommandResult 35 (results.Yes values.Void false) ∷
      Entered (record { side = sides.Page; instance = 1; serial = 1 }) (ops.Put (IntKey (pos 33))) ∷
      CommandResult 36 (results.Yes values.Void false) ∷
      Entered (record { side = sides.Page; instance = 1; serial = 1 }) (ops.Put (IntKey (pos 34))) ∷
      CommandResult 37 (results.Yes values.Void false) ∷
      Entered (record { side = sides.Page; instance = 1; serial = 1 }) (ops.Put (IntKey (pos 35))) ∷
      CommandResult 38 (results.Yes values.Void false) ∷
      Entered (record { side = sides.Page; instance = 1; serial = 1 }) (ops.Put (IntKey (pos 36))) ∷
      CommandResult 39 (results.Yes values.Void false) ∷
      Entered (record { side = sides.Page; instance = 1; serial = 1 }) (ops.Put (IntKey (pos 37))) ∷
      CommandResult 40 (results.Yes values.Void false) ∷
      Entered (record { side = sides.Page; instance = 1; serial = 1 }) (ops.Put (IntKey (pos 38))) ∷
      CommandResult 41 (results.Yes values.Void false) ∷
      Entered (record { side = sides.Page; instance = 1; serial = 1 }) (ops.Put (IntKey (pos 39))) ∷
      CommandResult 42 (results.Yes values.Void false) ∷
      Entered (record { side = sides.Page; instance = 1; serial = 1 }) (ops.Put (IntKey (pos 40))) ∷
      CommandResult 43 (results.Yes values.Void false) ∷
      Entered (record { side = sides.Page; instance = 1; serial = 1 }) (ops.Put (IntKey (pos 41))) ∷
      CommandResult 44 (results.Yes values.Void false) ∷
      Entered (record { side = sides.Page; instance = 1; serial = 1 }) (ops.Put (IntKey (pos 42))) ∷
      CommandResult 45 (results.Yes values.Void false) ∷
      Entered (record { side = sides.Page; instance = 1; serial = 1 }) (ops.Put (IntKey (pos 43))) ∷
      CommandResult 46 (results.Yes values.Void false) ∷
      Entered (record { side = sides.Page; instance = 1; serial = 1 }) (ops.Put (IntKey (pos 44))) ∷
      CommandResult 47 (results.Yes values.Void false) ∷
      Entered (record { side = sides.Page; instance = 1; serial = 1 }) (ops.Put (IntKey (pos 45))) ∷
      CommandResult 48 (results.Yes values.Void false) ∷
      Entered (record { side = sides.Page; instance = 1; serial = 1 }) (ops.Put (IntKey (pos 46))) ∷
      CommandResult 49 (results.Yes values.Void false) ∷
      Entered (record { side = sides.Page; instance = 1; serial = 1 }) (ops.Put (IntKey (pos 47))) ∷
      CommandResult 50 (results.Yes values.Void false) ∷
      Entered (record { side = sides.Page; instance = 1; serial = 1 }) (ops.Put (IntKey (pos 48))) ∷
      CommandResult 51 (results.Yes values.Void false) ∷
      Entered (record { side = sides.Page; instance = 1; serial = 1 }) (ops.Put (IntKey (pos 49))) ∷
      CommandResult 52 (results.Yes values.Void false) ∷
      Entered (record { side = sides.Page; instance = 1; serial = 1 }) (ops.Put (IntKey (pos 50))) ∷
      CommandResult 53 (results.Yes values.Void false) ∷
      Entered (record { side = sides.Page; instance = 1; serial = 1 }) (ops.Put (IntKey (pos 51))) ∷
      CommandResult 54 (results.Yes values.Void false) ∷
      Entered (record { side = sides.Page; instance = 1; serial = 1 }) (ops.Put (IntKey (pos 52))) ∷
      CommandResult 55 (results.Yes values.Void false) ∷
      Entered (record { side = sides.Page; instance = 1; serial = 1 }) (ops.Put (IntKey (pos 53))) ∷
      CommandResult 56 (results.Yes values.Void false) ∷
      Entered (record { side = sides.Page; instance = 1; serial = 1 }) (ops.Put (IntKey (pos 54))) ∷
      CommandResult 57 (results.Yes values.Void false) ∷
      Entered (record { side = sides.Page; instance = 1; serial = 1 }) (ops.Put (IntKey (pos 55))) ∷
      CommandResult 58 (results.Yes values.Void false) ∷
      Entered (record { side = sides.Page; instance = 1; serial = 1 }) (ops.Put (IntKey (pos 56))) ∷
      CommandResult 59 (results.Yes values.Void false) ∷
      Entered (record { side = sides.Page; instance = 1; serial = 1 }) (ops.Put (IntKey (pos 57))) ∷
      CommandResult 60 (results.Yes values.Void false) ∷
      Entered (record { side = sides.Page; instance = 1; serial = 1 }) (ops.Put (IntKey (pos 58))) ∷
      CommandResult 61 (results.Yes values.Void false) ∷
      Entered (record { side = sides.Page; instance = 1; serial = 1 }) (ops.Put (IntKey (pos 59))) ∷
      CommandResult 62 (results.Yes values.Void false) ∷
      Entered (record { side = sides.Page; instance = 1; serial = 1 }) (ops.Put (IntKey (pos 60))) ∷
      CommandResult 63 (results.Yes values.Void false) ∷
      Entered (record { side = sides.Page; instance = 1; serial = 1 }) (ops.Put (IntKey (pos 61))) ∷
      CommandResult 64 (results.Yes values.Void false) ∷
      Entered (record { side = sides.Page; instance = 1; serial = 1 }) (ops.Put (IntKey (pos 62))) ∷
      CommandResult 65 (results.Yes values.Void false) ∷
      Entered (record { side = sides.Page; instance = 1; serial = 1 }) (ops.Put (IntKey (pos 63))) ∷
      CommandResult 66 (results.Yes values.Void false) ∷
      Entered (record { side = sides.Page; instance = 1; serial = 1 }) (ops.Put (IntKey (pos 64))) ∷
      CommandResult 67 results.No ∷
      Entered (record { side = sides.Page; instance = 1; serial = 1 }) (ops.Put (IntKey (pos 0))) ∷
      CommandResult 68 (results.Yes values.Void false) ∷
      Entered (record { side = sides.Page; instance = 1; serial = 1 }) (ops.Get (IntKey (pos 0))) ∷
      CommandResult 69 (results.Yes (values.Int (pos 7)) false) ∷
      Entered (record { side = sides.Page; instance = 1; serial = 1 }) (ops.Get (IntKey (pos 64))) ∷
      CommandResult 70 results.No ∷
      Entered (record { side = sides.Page; instance = 1; serial = 1 }) (ops.Remove (IntKey (pos 0))) ∷
      CommandResult 71 (results.Yes values.Void false) ∷
      Entered (record { side = sides.Page; instance = 1; serial = 1 }) (ops.Put (IntKey (pos 64))) ∷
      CommandResult 72 (results.Yes values.Void false) ∷
      Invalidated (record { side = sides.Page; instance = 1; serial = 1 }) ∷
      Deallocated (record { side = sides.Page; instance = 1; serial = 1 }) ∷ []);
  plugin = [];
  files = [];
  rests = true;
}
unfolding encoding digits is_text is_utf8 chars encode_utf8
both-end = refl
