-- What each row of commands makes of fields was the line of that command.
use Rattle.std.proofs.Common.{◌≡◌, List, [], ◌∷◌, Some, ap, sym, ◌∙◌, arith}
use Rattle.std.specs.Prelude.{codes}
use Rattle.std.specs.List.{AllByRecursion}
use Rattle.std.proofs.lemmas.Bool.Decides.{nat_tests}
use Rattle.np_script_grammar.specs.declared.command.Command.{Command}
use Rattle.np_script_grammar.specs.declared.command.Command.TheVariants as commands
use Rattle.np_script_grammar.specs.declared.line.Field.{Field}
use Rattle.np_script_grammar.specs.declared.line.Field.TheVariants.{Register, Operand as OfOperand, Number, Text, Identifier, Mode}
use Rattle.np_script_grammar.specs.Rows.{command_line}
use Rattle.np_script_grammar.specs.Takes.{operand_in, text_in, all_of}
use Rattle.np_script_actions.proofs.Taken.{bound, operands_were, texts_were, RowWas}
use Rattle.np_script_actions.specs.Commands.{set_of, drop_of, invoke_of, call_default_of, construct_of, get_of, put_of, remove_of, has_method_of, has_property_of, enumerate_of, note_of, create_of, destroy_of, scriptable_of, new_of, turn_of, open_stream_of, pump_of, command_rows, page_rows}

pub same_command : (a b : Command) → Some a ≡ Some b → a ≡ b
same_command a b e = cc

set_was : (fields : List Field) (command : Command) → set_of fields ≡ Some command → command_line command ≡ (codes "set", fields)
set_was (Register r ∷ OfOperand v ∷ []) command e = sym (ap command_line (same_command (commands.Set r v) command e))
set_was fields command e = absurd cc

drop_was : (fields : List Field) (command : Command) → drop_of fields ≡ Some command → command_line command ≡ (codes "drop", fields)
drop_was (Register r ∷ []) command e = sym (ap command_line (same_command (commands.Drop r) command e))
drop_was fields command e = absurd cc

invoke_was : (fields : List Field) (command : Command) → invoke_of fields ≡ Some command → command_line command ≡ (codes "invoke", fields)
invoke_was (Register r ∷ OfOperand v ∷ Identifier k ∷ rest) command e =
    let found = bound (all_of operand_in rest) (λ all. Some (commands.Invoke r v k all)) command e in
    sym (ap command_line (same_command (commands.Invoke r v k found.0) command found.2)) ∙ ap (λ (l : List Field). (codes "invoke", Register r ∷ OfOperand v ∷ Identifier k ∷ l)) (operands_were rest found.0 found.1)
invoke_was fields command e = absurd cc

call_default_was : (fields : List Field) (command : Command) → call_default_of fields ≡ Some command → command_line command ≡ (codes "calldef", fields)
call_default_was (Register r ∷ OfOperand v ∷ rest) command e =
    let found = bound (all_of operand_in rest) (λ all. Some (commands.CallDefault r v all)) command e in
    sym (ap command_line (same_command (commands.CallDefault r v found.0) command found.2)) ∙ ap (λ (l : List Field). (codes "calldef", Register r ∷ OfOperand v ∷ l)) (operands_were rest found.0 found.1)
call_default_was fields command e = absurd cc

construct_was : (fields : List Field) (command : Command) → construct_of fields ≡ Some command → command_line command ≡ (codes "construct", fields)
construct_was (Register r ∷ OfOperand v ∷ rest) command e =
    let found = bound (all_of operand_in rest) (λ all. Some (commands.Construct r v all)) command e in
    sym (ap command_line (same_command (commands.Construct r v found.0) command found.2)) ∙ ap (λ (l : List Field). (codes "construct", Register r ∷ OfOperand v ∷ l)) (operands_were rest found.0 found.1)
construct_was fields command e = absurd cc

get_was : (fields : List Field) (command : Command) → get_of fields ≡ Some command → command_line command ≡ (codes "get", fields)
get_was (Register r ∷ OfOperand v ∷ Identifier k ∷ []) command e = sym (ap command_line (same_command (commands.Get r v k) command e))
get_was fields command e = absurd cc

put_was : (fields : List Field) (command : Command) → put_of fields ≡ Some command → command_line command ≡ (codes "put", fields)
put_was (OfOperand v ∷ Identifier k ∷ OfOperand w ∷ []) command e = sym (ap command_line (same_command (commands.Put v k w) command e))
put_was fields command e = absurd cc

remove_was : (fields : List Field) (command : Command) → remove_of fields ≡ Some command → command_line command ≡ (codes "remove", fields)
remove_was (OfOperand v ∷ Identifier k ∷ []) command e = sym (ap command_line (same_command (commands.Remove v k) command e))
remove_was fields command e = absurd cc

has_method_was : (fields : List Field) (command : Command) → has_method_of fields ≡ Some command → command_line command ≡ (codes "hasm", fields)
has_method_was (OfOperand v ∷ Identifier k ∷ []) command e = sym (ap command_line (same_command (commands.HasMethod v k) command e))
has_method_was fields command e = absurd cc

has_property_was : (fields : List Field) (command : Command) → has_property_of fields ≡ Some command → command_line command ≡ (codes "hasp", fields)
has_property_was (OfOperand v ∷ Identifier k ∷ []) command e = sym (ap command_line (same_command (commands.HasProperty v k) command e))
has_property_was fields command e = absurd cc

enumerate_was : (fields : List Field) (command : Command) → enumerate_of fields ≡ Some command → command_line command ≡ (codes "enum", fields)
enumerate_was (Register r ∷ OfOperand v ∷ []) command e = sym (ap command_line (same_command (commands.Enumerate r v) command e))
enumerate_was fields command e = absurd cc

note_was : (fields : List Field) (command : Command) → note_of fields ≡ Some command → command_line command ≡ (codes "note", fields)
note_was (OfOperand v ∷ []) command e = sym (ap command_line (same_command (commands.Note v) command e))
note_was fields command e = absurd cc

create_was : (fields : List Field) (command : Command) → create_of fields ≡ Some command → command_line command ≡ (codes "create", fields)
create_was (Text t ∷ Mode m ∷ rest) command e =
    let found = bound (all_of text_in rest) (λ all. Some (commands.Create t m all)) command e in
    sym (ap command_line (same_command (commands.Create t m found.0) command found.2)) ∙ ap (λ (l : List Field). (codes "create", Text t ∷ Mode m ∷ l)) (texts_were rest found.0 found.1)
create_was fields command e = absurd cc

destroy_was : (fields : List Field) (command : Command) → destroy_of fields ≡ Some command → command_line command ≡ (codes "destroy", fields)
destroy_was (Number n ∷ []) command e = grind (arith, nat_tests)
destroy_was fields command e = absurd (grind (arith, nat_tests))

scriptable_was : (fields : List Field) (command : Command) → scriptable_of fields ≡ Some command → command_line command ≡ (codes "scriptable", fields)
scriptable_was (Register r ∷ Number n ∷ []) command e = grind (arith, nat_tests)
scriptable_was fields command e = absurd (grind (arith, nat_tests))

new_was : (fields : List Field) (command : Command) → new_of fields ≡ Some command → command_line command ≡ (codes "new", fields)
new_was (Register r ∷ Number n ∷ Text t ∷ []) command e = grind (arith, nat_tests)
new_was fields command e = absurd (grind (arith, nat_tests))

turn_was : (fields : List Field) (command : Command) → turn_of fields ≡ Some command → command_line command ≡ (codes "turn", fields)
turn_was ([]) command e = sym (ap command_line (same_command (commands.Turn) command e))
turn_was fields command e = absurd cc

open_stream_was : (fields : List Field) (command : Command) → open_stream_of fields ≡ Some command → command_line command ≡ (codes "open", fields)
open_stream_was (Number n ∷ Text t ∷ []) command e = grind (arith, nat_tests)
open_stream_was fields command e = absurd (grind (arith, nat_tests))

pump_was : (fields : List Field) (command : Command) → pump_of fields ≡ Some command → command_line command ≡ (codes "pump", fields)
pump_was (Number n ∷ []) command e = sym (ap command_line (same_command (commands.Pump n) command e))
pump_was fields command e = absurd cc

pub command_rows_were : AllByRecursion (RowWas command_line) command_rows
unfolding page_rows
command_rows_were = (set_was, (drop_was, (invoke_was, (call_default_was, (construct_was, (get_was, (put_was, (remove_was, (has_method_was, (has_property_was, (enumerate_was, (note_was, (create_was, (destroy_was, (scriptable_was, (new_was, (turn_was, (open_stream_was, (pump_was, tt)))))))))))))))))))
