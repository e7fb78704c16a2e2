-- The command of a line, field by field. (This project's own.)
use Rattle.std.specs.Prelude.{ℕ, List, [], ◌∷◌, codes, Option, Some}
use Rattle.np_script_grammar.specs.declared.command.Command.{Command}
use Rattle.np_script_grammar.specs.declared.command.Command.TheVariants as commands
use Rattle.np_script_grammar.specs.declared.line.Field.{Field}
use Rattle.np_script_grammar.specs.Takes.{◌>>=◌, take, register_in, operand_in, byte_in, number_in, text_in, key_in, mode_in, at_end, all_of}
use Rattle.np_script_actions.specs.SaidBy.{Rows, said_by}

-- ---- calls on objects, and what else an action may be too

-- `set R V`
abbrev pub set_of : List Field → Option Command
set_of fields = do
  register ← take register_in fields
  value ← take operand_in register.1
  end ← at_end value.1
  Some (commands.Set register.0 value.0)

-- `drop R`
abbrev pub drop_of : List Field → Option Command
drop_of fields = do
  register ← take register_in fields
  end ← at_end register.1
  Some (commands.Drop register.0)

-- `invoke R V ID V*`
abbrev pub invoke_of : List Field → Option Command
invoke_of fields = do
  register ← take register_in fields
  value ← take operand_in register.1
  key ← take key_in value.1
  arguments ← all_of operand_in key.1
  Some (commands.Invoke register.0 value.0 key.0 arguments)

-- `calldef R V V*`
abbrev pub call_default_of : List Field → Option Command
call_default_of fields = do
  register ← take register_in fields
  value ← take operand_in register.1
  arguments ← all_of operand_in value.1
  Some (commands.CallDefault register.0 value.0 arguments)

-- `construct R V V*`
abbrev pub construct_of : List Field → Option Command
construct_of fields = do
  register ← take register_in fields
  value ← take operand_in register.1
  arguments ← all_of operand_in value.1
  Some (commands.Construct register.0 value.0 arguments)

-- `get R V ID`
abbrev pub get_of : List Field → Option Command
get_of fields = do
  register ← take register_in fields
  value ← take operand_in register.1
  key ← take key_in value.1
  end ← at_end key.1
  Some (commands.Get register.0 value.0 key.0)

-- `put V ID V`
abbrev pub put_of : List Field → Option Command
put_of fields = do
  value ← take operand_in fields
  key ← take key_in value.1
  other ← take operand_in key.1
  end ← at_end other.1
  Some (commands.Put value.0 key.0 other.0)

-- `remove V ID`
abbrev pub remove_of : List Field → Option Command
remove_of fields = do
  value ← take operand_in fields
  key ← take key_in value.1
  end ← at_end key.1
  Some (commands.Remove value.0 key.0)

-- `hasm V ID`
abbrev pub has_method_of : List Field → Option Command
has_method_of fields = do
  value ← take operand_in fields
  key ← take key_in value.1
  end ← at_end key.1
  Some (commands.HasMethod value.0 key.0)

-- `hasp V ID`
abbrev pub has_property_of : List Field → Option Command
has_property_of fields = do
  value ← take operand_in fields
  key ← take key_in value.1
  end ← at_end key.1
  Some (commands.HasProperty value.0 key.0)

-- `enum R V`
abbrev pub enumerate_of : List Field → Option Command
enumerate_of fields = do
  register ← take register_in fields
  value ← take operand_in register.1
  end ← at_end value.1
  Some (commands.Enumerate register.0 value.0)

-- `note V`
abbrev pub note_of : List Field → Option Command
note_of fields = do
  value ← take operand_in fields
  end ← at_end value.1
  Some (commands.Note value.0)

-- ---- the other commands

-- `create TEXT MODE (TEXT TEXT)*`
abbrev pub create_of : List Field → Option Command
create_of fields = do
  text ← take text_in fields
  mode ← take mode_in text.1
  attributes ← all_of text_in mode.1
  Some (commands.Create text.0 mode.0 attributes)

-- `destroy N`
abbrev pub destroy_of : List Field → Option Command
destroy_of fields = do
  number ← take byte_in fields
  end ← at_end number.1
  Some (commands.Destroy number.0)

-- `scriptable R N`
abbrev pub scriptable_of : List Field → Option Command
scriptable_of fields = do
  register ← take register_in fields
  number ← take byte_in register.1
  end ← at_end number.1
  Some (commands.Scriptable register.0 number.0)

-- `new R N TEXT`
abbrev pub new_of : List Field → Option Command
new_of fields = do
  register ← take register_in fields
  number ← take byte_in register.1
  text ← take text_in number.1
  end ← at_end text.1
  Some (commands.New register.0 number.0 text.0)

-- `turn`
abbrev pub turn_of : List Field → Option Command
turn_of fields = at_end fields >>= (λ end. Some commands.Turn)

-- `open N TEXT`
abbrev pub open_stream_of : List Field → Option Command
open_stream_of fields = do
  number ← take byte_in fields
  text ← take text_in number.1
  end ← at_end text.1
  Some (commands.OpenStream number.0 text.0)

-- `pump N`
abbrev pub pump_of : List Field → Option Command
pump_of fields = do
  number ← take number_in fields
  end ← at_end number.1
  Some (commands.Pump number.0)

-- ---- the rows, by their words

unfoldable pub page_rows : Rows Command
page_rows =
    (codes "create", create_of)
    ∷ (codes "destroy", destroy_of)
    ∷ (codes "scriptable", scriptable_of)
    ∷ (codes "new", new_of)
    ∷ (codes "turn", turn_of)
    ∷ (codes "open", open_stream_of)
    ∷ (codes "pump", pump_of) ∷ []

abbrev pub command_rows : Rows Command
command_rows =
    (codes "set", set_of)
    ∷ (codes "drop", drop_of)
    ∷ (codes "invoke", invoke_of)
    ∷ (codes "calldef", call_default_of)
    ∷ (codes "construct", construct_of)
    ∷ (codes "get", get_of)
    ∷ (codes "put", put_of)
    ∷ (codes "remove", remove_of)
    ∷ (codes "hasm", has_method_of)
    ∷ (codes "hasp", has_property_of)
    ∷ (codes "enum", enumerate_of)
    ∷ (codes "note", note_of) ∷ page_rows

-- the command that the word and the fields say, if they say one
unfoldable pub command_of : List ℕ → List Field → Option Command
command_of word fields = said_by command_rows word fields
