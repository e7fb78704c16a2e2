-- The line of each action and each command. (This project's own; the calls are those of npruntime.h, NPClass, and npfunctions.h.)
use Rattle.std.specs.Prelude.{ℕ, List, [], ◌∷◌, map, codes}
use Rattle.std.specs.List.{flat_map}
use Rattle.np_values.specs.declared.range.Range.{Range}
use Rattle.np_values.specs.NpReason.{reason_code}
use Rattle.np_idents.specs.declared.key.IdKey.{IdKey}
use Rattle.np_script_grammar.specs.declared.action.Operand.{Operand}
use Rattle.np_script_grammar.specs.declared.action.Action.{Action}
use Rattle.np_script_grammar.specs.declared.action.Action.TheVariants as actions
use Rattle.np_script_grammar.specs.declared.command.Command.{Command}
use Rattle.np_script_grammar.specs.declared.command.Command.TheVariants as commands
use Rattle.np_script_grammar.specs.declared.line.Field.{Field}
use Rattle.np_script_grammar.specs.declared.line.Field.TheVariants as fields
use Rattle.np_script_grammar.specs.Forms.{Line}

abbrev pub register : ℕ → Field
register number = fields.Register number

abbrev pub value : Operand → Field
value operand = fields.Operand operand

abbrev pub number : ℕ → Field
number n = fields.Number n

abbrev pub text : List ℕ → Field
text bytes = fields.Text bytes

abbrev pub key : IdKey → Field
key k = fields.Identifier k

abbrev pub values : List Operand → List Field
values operands = map value operands

abbrev pub texts : List (List ℕ) → List Field
texts ts = map text ts

-- where it begins, and how many bytes
abbrev pub range_fields : Range → List Field
range_fields range = fields.Integer range.offset ∷ number range.length ∷ []

abbrev pub action_line : Action → Line
action_line (actions.Set r v) = (codes "set", register r ∷ value v ∷ [])
action_line (actions.Add r v w) = (codes "add", register r ∷ value v ∷ value w ∷ [])
action_line actions.Fail = (codes "fail", [])
action_line (actions.Return v) = (codes "return", value v ∷ [])
action_line (actions.Throw t) = (codes "throw", text t ∷ [])
action_line (actions.New r class) = (codes "new", register r ∷ text class ∷ [])
action_line (actions.Drop r) = (codes "drop", register r ∷ [])
action_line (actions.Slot n v) = (codes "slot", number n ∷ value v ∷ [])
action_line (actions.Load r n) = (codes "load", register r ∷ number n ∷ [])
action_line (actions.SelfTo r) = (codes "self", register r ∷ [])
action_line (actions.Invoke r v id arguments) = (codes "invoke", register r ∷ value v ∷ key id ∷ values arguments)
action_line (actions.CallDefault r v arguments) = (codes "calldef", register r ∷ value v ∷ values arguments)
action_line (actions.Construct r v arguments) = (codes "construct", register r ∷ value v ∷ values arguments)
action_line (actions.Get r v id) = (codes "get", register r ∷ value v ∷ key id ∷ [])
action_line (actions.Put v id w) = (codes "put", value v ∷ key id ∷ value w ∷ [])
action_line (actions.Remove v id) = (codes "remove", value v ∷ key id ∷ [])
action_line (actions.HasMethod v id) = (codes "hasm", value v ∷ key id ∷ [])
action_line (actions.HasProperty v id) = (codes "hasp", value v ∷ key id ∷ [])
action_line (actions.Enumerate r v) = (codes "enum", register r ∷ value v ∷ [])
action_line (actions.Window r) = (codes "window", register r ∷ [])
action_line (actions.GetUrl r v n) = (codes "geturl", register r ∷ value v ∷ fields.Integer n ∷ [])
action_line (actions.RequestRead r v ranges) = (codes "reqread", register r ∷ value v ∷ flat_map range_fields ranges)
action_line (actions.EndStream r v reason) = (codes "endstream", register r ∷ value v ∷ number (reason_code reason) ∷ [])
action_line (actions.Later task) = (codes "later", text task ∷ [])
action_line (actions.Note v) = (codes "note", value v ∷ [])
action_line (actions.Destroy r instance) = (codes "destroy", register r ∷ number instance ∷ [])
action_line (actions.OnTrue n) = (codes "ontrue", number n ∷ [])
action_line (actions.OnFalse n) = (codes "onfalse", number n ∷ [])
action_line (actions.OnEq v w n) = (codes "oneq", value v ∷ value w ∷ number n ∷ [])
action_line (actions.Exit n) = (codes "exit", number n ∷ [])

abbrev pub command_line : Command → Line
command_line (commands.Create mime mode attributes) = (codes "create", text mime ∷ fields.Mode mode ∷ texts attributes)
command_line (commands.Destroy instance) = (codes "destroy", number instance ∷ [])
command_line (commands.Scriptable r instance) = (codes "scriptable", register r ∷ number instance ∷ [])
command_line (commands.New r instance class) = (codes "new", register r ∷ number instance ∷ text class ∷ [])
command_line (commands.Set r v) = (codes "set", register r ∷ value v ∷ [])
command_line (commands.Drop r) = (codes "drop", register r ∷ [])
command_line (commands.Invoke r v id arguments) = (codes "invoke", register r ∷ value v ∷ key id ∷ values arguments)
command_line (commands.CallDefault r v arguments) = (codes "calldef", register r ∷ value v ∷ values arguments)
command_line (commands.Construct r v arguments) = (codes "construct", register r ∷ value v ∷ values arguments)
command_line (commands.Get r v id) = (codes "get", register r ∷ value v ∷ key id ∷ [])
command_line (commands.Put v id w) = (codes "put", value v ∷ key id ∷ value w ∷ [])
command_line (commands.Remove v id) = (codes "remove", value v ∷ key id ∷ [])
command_line (commands.HasMethod v id) = (codes "hasm", value v ∷ key id ∷ [])
command_line (commands.HasProperty v id) = (codes "hasp", value v ∷ key id ∷ [])
command_line (commands.Enumerate r v) = (codes "enum", register r ∷ value v ∷ [])
command_line (commands.Note v) = (codes "note", value v ∷ [])
command_line commands.Turn = (codes "turn", [])
command_line (commands.OpenStream instance url) = (codes "open", number instance ∷ text url ∷ [])
command_line (commands.Pump n) = (codes "pump", number n ∷ [])
