-- The action of a line, field by field. (This project's own.)
use Rattle.std.specs.Prelude.{ℕ, List, [], ◌∷◌, codes, Option, Some}
use Rattle.np_script_grammar.specs.declared.action.Action.{Action}
use Rattle.np_script_grammar.specs.declared.action.Action.TheVariants as actions
use Rattle.np_script_grammar.specs.declared.line.Field.{Field}
use Rattle.np_script_grammar.specs.Takes.{◌>>=◌, take, register_in, operand_in, integer_in, byte_in, text_in, key_in, reason_in, at_end, all_of, all_ranges}
use Rattle.np_script_actions.specs.SaidBy.{Rows, said_by}

-- ---- calls on objects, and what else a command may be too

-- `set R V`
abbrev pub set_of : List Field → Option Action
set_of fields = do
  register ← take register_in fields
  value ← take operand_in register.1
  end ← at_end value.1
  Some (actions.Set register.0 value.0)

-- `drop R`
abbrev pub drop_of : List Field → Option Action
drop_of fields = do
  register ← take register_in fields
  end ← at_end register.1
  Some (actions.Drop register.0)

-- `invoke R V ID V*`
abbrev pub invoke_of : List Field → Option Action
invoke_of fields = do
  register ← take register_in fields
  value ← take operand_in register.1
  key ← take key_in value.1
  arguments ← all_of operand_in key.1
  Some (actions.Invoke register.0 value.0 key.0 arguments)

-- `calldef R V V*`
abbrev pub call_default_of : List Field → Option Action
call_default_of fields = do
  register ← take register_in fields
  value ← take operand_in register.1
  arguments ← all_of operand_in value.1
  Some (actions.CallDefault register.0 value.0 arguments)

-- `construct R V V*`
abbrev pub construct_of : List Field → Option Action
construct_of fields = do
  register ← take register_in fields
  value ← take operand_in register.1
  arguments ← all_of operand_in value.1
  Some (actions.Construct register.0 value.0 arguments)

-- `get R V ID`
abbrev pub get_of : List Field → Option Action
get_of fields = do
  register ← take register_in fields
  value ← take operand_in register.1
  key ← take key_in value.1
  end ← at_end key.1
  Some (actions.Get register.0 value.0 key.0)

-- `put V ID V`
abbrev pub put_of : List Field → Option Action
put_of fields = do
  value ← take operand_in fields
  key ← take key_in value.1
  other ← take operand_in key.1
  end ← at_end other.1
  Some (actions.Put value.0 key.0 other.0)

-- `remove V ID`
abbrev pub remove_of : List Field → Option Action
remove_of fields = do
  value ← take operand_in fields
  key ← take key_in value.1
  end ← at_end key.1
  Some (actions.Remove value.0 key.0)

-- `hasm V ID`
abbrev pub has_method_of : List Field → Option Action
has_method_of fields = do
  value ← take operand_in fields
  key ← take key_in value.1
  end ← at_end key.1
  Some (actions.HasMethod value.0 key.0)

-- `hasp V ID`
abbrev pub has_property_of : List Field → Option Action
has_property_of fields = do
  value ← take operand_in fields
  key ← take key_in value.1
  end ← at_end key.1
  Some (actions.HasProperty value.0 key.0)

-- `enum R V`
abbrev pub enumerate_of : List Field → Option Action
enumerate_of fields = do
  register ← take register_in fields
  value ← take operand_in register.1
  end ← at_end value.1
  Some (actions.Enumerate register.0 value.0)

-- `note V`
abbrev pub note_of : List Field → Option Action
note_of fields = do
  value ← take operand_in fields
  end ← at_end value.1
  Some (actions.Note value.0)

-- ---- the other actions of both sides

-- `add R V V`
abbrev pub add_of : List Field → Option Action
add_of fields = do
  register ← take register_in fields
  value ← take operand_in register.1
  other ← take operand_in value.1
  end ← at_end other.1
  Some (actions.Add register.0 value.0 other.0)

-- `fail`
abbrev pub fail_of : List Field → Option Action
fail_of fields = at_end fields >>= (λ end. Some actions.Fail)

-- `return V`
abbrev pub return_of : List Field → Option Action
return_of fields = do
  value ← take operand_in fields
  end ← at_end value.1
  Some (actions.Return value.0)

-- `throw TEXT`
abbrev pub throw_of : List Field → Option Action
throw_of fields = do
  text ← take text_in fields
  end ← at_end text.1
  Some (actions.Throw text.0)

-- `new R TEXT`
abbrev pub new_of : List Field → Option Action
new_of fields = do
  register ← take register_in fields
  text ← take text_in register.1
  end ← at_end text.1
  Some (actions.New register.0 text.0)

-- `slot N V`
abbrev pub slot_of : List Field → Option Action
slot_of fields = do
  number ← take byte_in fields
  value ← take operand_in number.1
  end ← at_end value.1
  Some (actions.Slot number.0 value.0)

-- `load R N`
abbrev pub load_of : List Field → Option Action
load_of fields = do
  register ← take register_in fields
  number ← take byte_in register.1
  end ← at_end number.1
  Some (actions.Load register.0 number.0)

-- `self R`
abbrev pub self_of : List Field → Option Action
self_of fields = do
  register ← take register_in fields
  end ← at_end register.1
  Some (actions.SelfTo register.0)

-- `ontrue N`
abbrev pub on_true_of : List Field → Option Action
on_true_of fields = do
  number ← take byte_in fields
  end ← at_end number.1
  Some (actions.OnTrue number.0)

-- `onfalse N`
abbrev pub on_false_of : List Field → Option Action
on_false_of fields = do
  number ← take byte_in fields
  end ← at_end number.1
  Some (actions.OnFalse number.0)

-- `oneq V V N`
abbrev pub on_equal_of : List Field → Option Action
on_equal_of fields = do
  value ← take operand_in fields
  other ← take operand_in value.1
  number ← take byte_in other.1
  end ← at_end number.1
  Some (actions.OnEq value.0 other.0 number.0)

-- ---- the actions of one side

-- `window R`
abbrev pub window_of : List Field → Option Action
window_of fields = do
  register ← take register_in fields
  end ← at_end register.1
  Some (actions.Window register.0)

-- `geturl R V INT`
abbrev pub get_url_of : List Field → Option Action
get_url_of fields = do
  register ← take register_in fields
  value ← take operand_in register.1
  integer ← take integer_in value.1
  end ← at_end integer.1
  Some (actions.GetUrl register.0 value.0 integer.0)

-- `reqread R V (INT N)*`
abbrev pub request_read_of : List Field → Option Action
request_read_of fields = do
  register ← take register_in fields
  value ← take operand_in register.1
  ranges ← all_ranges value.1
  Some (actions.RequestRead register.0 value.0 ranges)

-- `endstream R V N`
abbrev pub end_stream_of : List Field → Option Action
end_stream_of fields = do
  register ← take register_in fields
  value ← take operand_in register.1
  reason ← take reason_in value.1
  end ← at_end reason.1
  Some (actions.EndStream register.0 value.0 reason.0)

-- `later TEXT`
abbrev pub later_of : List Field → Option Action
later_of fields = do
  text ← take text_in fields
  end ← at_end text.1
  Some (actions.Later text.0)

-- `destroy R N`
abbrev pub destroy_of : List Field → Option Action
destroy_of fields = do
  register ← take register_in fields
  number ← take byte_in register.1
  end ← at_end number.1
  Some (actions.Destroy register.0 number.0)

-- `exit N`
abbrev pub exit_of : List Field → Option Action
exit_of fields = do
  number ← take byte_in fields
  end ← at_end number.1
  Some (actions.Exit number.0)

-- ---- the rows, by their words

unfoldable pub own_rows : Rows Action
own_rows =
    (codes "window", window_of)
    ∷ (codes "geturl", get_url_of)
    ∷ (codes "reqread", request_read_of)
    ∷ (codes "endstream", end_stream_of)
    ∷ (codes "later", later_of)
    ∷ (codes "destroy", destroy_of)
    ∷ (codes "exit", exit_of) ∷ []

unfoldable pub plain_rows : Rows Action
plain_rows =
    (codes "add", add_of)
    ∷ (codes "fail", fail_of)
    ∷ (codes "return", return_of)
    ∷ (codes "throw", throw_of)
    ∷ (codes "new", new_of)
    ∷ (codes "slot", slot_of)
    ∷ (codes "load", load_of)
    ∷ (codes "self", self_of)
    ∷ (codes "ontrue", on_true_of)
    ∷ (codes "onfalse", on_false_of)
    ∷ (codes "oneq", on_equal_of) ∷ own_rows

abbrev pub action_rows : Rows Action
action_rows =
    (codes "set", set_of)
    ∷ (codes "drop", drop_of)
    ∷ (codes "invoke", invoke_of)
    ∷ (codes "calldef", call_default_of)
    ∷ (codes "construct", construct_of)
    ∷ (codes "get", get_of)
    ∷ (codes "put", put_of)
    ∷ (codes "remove", remove_of)
    ∷ (codes "hasm", has_method_of)
    ∷ (codes "hasp", has_property_of)
    ∷ (codes "enum", enumerate_of)
    ∷ (codes "note", note_of) ∷ plain_rows

-- the action that the word and the fields say, if they say one, whichever side may have it
unfoldable pub action_of : List ℕ → List Field → Option Action
action_of word fields = said_by action_rows word fields
