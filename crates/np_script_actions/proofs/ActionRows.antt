-- What each row of actions makes of fields was the line of that action.
use Rattle.std.proofs.Common.{◌≡◌, List, [], ◌∷◌, Some, ap, sym, ◌∙◌, arith}
use Rattle.std.specs.Prelude.{codes}
use Rattle.std.specs.List.{AllByRecursion}
use Rattle.std.proofs.lemmas.Bool.Decides.{nat_tests}
use Rattle.np_script_grammar.specs.declared.action.Action.{Action}
use Rattle.np_script_grammar.specs.declared.action.Action.TheVariants as actions
use Rattle.np_script_grammar.specs.declared.line.Field.{Field}
use Rattle.np_script_grammar.specs.declared.line.Field.TheVariants.{Register, Operand as OfOperand, Integer, Number, Text, Identifier}
use Rattle.np_script_grammar.specs.Rows.{action_line}
use Rattle.np_script_grammar.specs.Takes.{operand_in, all_of, all_ranges}
use Rattle.np_script_actions.proofs.Taken.{bound, operands_were, ranges_were, RowWas}
use Rattle.np_script_actions.specs.Actions.{set_of, drop_of, invoke_of, call_default_of, construct_of, get_of, put_of, remove_of, has_method_of, has_property_of, enumerate_of, note_of, add_of, fail_of, return_of, throw_of, new_of, slot_of, load_of, self_of, on_true_of, on_false_of, on_equal_of, window_of, get_url_of, request_read_of, end_stream_of, later_of, destroy_of, exit_of, action_rows, plain_rows, own_rows}

pub same_action : (a b : Action) → Some a ≡ Some b → a ≡ b
same_action a b e = cc

set_was : (fields : List Field) (action : Action) → set_of fields ≡ Some action → action_line action ≡ (codes "set", fields)
set_was (Register r ∷ OfOperand v ∷ []) action e = sym (ap action_line (same_action (actions.Set r v) action e))
set_was fields action e = absurd cc

drop_was : (fields : List Field) (action : Action) → drop_of fields ≡ Some action → action_line action ≡ (codes "drop", fields)
drop_was (Register r ∷ []) action e = sym (ap action_line (same_action (actions.Drop r) action e))
drop_was fields action e = absurd cc

invoke_was : (fields : List Field) (action : Action) → invoke_of fields ≡ Some action → action_line action ≡ (codes "invoke", fields)
invoke_was (Register r ∷ OfOperand v ∷ Identifier k ∷ rest) action e =
    let found = bound (all_of operand_in rest) (λ all. Some (actions.Invoke r v k all)) action e in
    sym (ap action_line (same_action (actions.Invoke r v k found.0) action found.2)) ∙ ap (λ (l : List Field). (codes "invoke", Register r ∷ OfOperand v ∷ Identifier k ∷ l)) (operands_were rest found.0 found.1)
invoke_was fields action e = absurd cc

call_default_was : (fields : List Field) (action : Action) → call_default_of fields ≡ Some action → action_line action ≡ (codes "calldef", fields)
call_default_was (Register r ∷ OfOperand v ∷ rest) action e =
    let found = bound (all_of operand_in rest) (λ all. Some (actions.CallDefault r v all)) action e in
    sym (ap action_line (same_action (actions.CallDefault r v found.0) action found.2)) ∙ ap (λ (l : List Field). (codes "calldef", Register r ∷ OfOperand v ∷ l)) (operands_were rest found.0 found.1)
call_default_was fields action e = absurd cc

construct_was : (fields : List Field) (action : Action) → construct_of fields ≡ Some action → action_line action ≡ (codes "construct", fields)
construct_was (Register r ∷ OfOperand v ∷ rest) action e =
    let found = bound (all_of operand_in rest) (λ all. Some (actions.Construct r v all)) action e in
    sym (ap action_line (same_action (actions.Construct r v found.0) action found.2)) ∙ ap (λ (l : List Field). (codes "construct", Register r ∷ OfOperand v ∷ l)) (operands_were rest found.0 found.1)
construct_was fields action e = absurd cc

get_was : (fields : List Field) (action : Action) → get_of fields ≡ Some action → action_line action ≡ (codes "get", fields)
get_was (Register r ∷ OfOperand v ∷ Identifier k ∷ []) action e = sym (ap action_line (same_action (actions.Get r v k) action e))
get_was fields action e = absurd cc

put_was : (fields : List Field) (action : Action) → put_of fields ≡ Some action → action_line action ≡ (codes "put", fields)
put_was (OfOperand v ∷ Identifier k ∷ OfOperand w ∷ []) action e = sym (ap action_line (same_action (actions.Put v k w) action e))
put_was fields action e = absurd cc

remove_was : (fields : List Field) (action : Action) → remove_of fields ≡ Some action → action_line action ≡ (codes "remove", fields)
remove_was (OfOperand v ∷ Identifier k ∷ []) action e = sym (ap action_line (same_action (actions.Remove v k) action e))
remove_was fields action e = absurd cc

has_method_was : (fields : List Field) (action : Action) → has_method_of fields ≡ Some action → action_line action ≡ (codes "hasm", fields)
has_method_was (OfOperand v ∷ Identifier k ∷ []) action e = sym (ap action_line (same_action (actions.HasMethod v k) action e))
has_method_was fields action e = absurd cc

has_property_was : (fields : List Field) (action : Action) → has_property_of fields ≡ Some action → action_line action ≡ (codes "hasp", fields)
has_property_was (OfOperand v ∷ Identifier k ∷ []) action e = sym (ap action_line (same_action (actions.HasProperty v k) action e))
has_property_was fields action e = absurd cc

enumerate_was : (fields : List Field) (action : Action) → enumerate_of fields ≡ Some action → action_line action ≡ (codes "enum", fields)
enumerate_was (Register r ∷ OfOperand v ∷ []) action e = sym (ap action_line (same_action (actions.Enumerate r v) action e))
enumerate_was fields action e = absurd cc

note_was : (fields : List Field) (action : Action) → note_of fields ≡ Some action → action_line action ≡ (codes "note", fields)
note_was (OfOperand v ∷ []) action e = sym (ap action_line (same_action (actions.Note v) action e))
note_was fields action e = absurd cc

add_was : (fields : List Field) (action : Action) → add_of fields ≡ Some action → action_line action ≡ (codes "add", fields)
add_was (Register r ∷ OfOperand v ∷ OfOperand w ∷ []) action e = sym (ap action_line (same_action (actions.Add r v w) action e))
add_was fields action e = absurd cc

fail_was : (fields : List Field) (action : Action) → fail_of fields ≡ Some action → action_line action ≡ (codes "fail", fields)
fail_was ([]) action e = sym (ap action_line (same_action (actions.Fail) action e))
fail_was fields action e = absurd cc

return_was : (fields : List Field) (action : Action) → return_of fields ≡ Some action → action_line action ≡ (codes "return", fields)
return_was (OfOperand v ∷ []) action e = sym (ap action_line (same_action (actions.Return v) action e))
return_was fields action e = absurd cc

throw_was : (fields : List Field) (action : Action) → throw_of fields ≡ Some action → action_line action ≡ (codes "throw", fields)
throw_was (Text t ∷ []) action e = sym (ap action_line (same_action (actions.Throw t) action e))
throw_was fields action e = absurd cc

new_was : (fields : List Field) (action : Action) → new_of fields ≡ Some action → action_line action ≡ (codes "new", fields)
new_was (Register r ∷ Text t ∷ []) action e = sym (ap action_line (same_action (actions.New r t) action e))
new_was fields action e = absurd cc

slot_was : (fields : List Field) (action : Action) → slot_of fields ≡ Some action → action_line action ≡ (codes "slot", fields)
slot_was (Number n ∷ OfOperand v ∷ []) action e = grind (arith, nat_tests)
slot_was fields action e = absurd (grind (arith, nat_tests))

load_was : (fields : List Field) (action : Action) → load_of fields ≡ Some action → action_line action ≡ (codes "load", fields)
load_was (Register r ∷ Number n ∷ []) action e = grind (arith, nat_tests)
load_was fields action e = absurd (grind (arith, nat_tests))

self_was : (fields : List Field) (action : Action) → self_of fields ≡ Some action → action_line action ≡ (codes "self", fields)
self_was (Register r ∷ []) action e = sym (ap action_line (same_action (actions.SelfTo r) action e))
self_was fields action e = absurd cc

on_true_was : (fields : List Field) (action : Action) → on_true_of fields ≡ Some action → action_line action ≡ (codes "ontrue", fields)
on_true_was (Number n ∷ []) action e = grind (arith, nat_tests)
on_true_was fields action e = absurd (grind (arith, nat_tests))

on_false_was : (fields : List Field) (action : Action) → on_false_of fields ≡ Some action → action_line action ≡ (codes "onfalse", fields)
on_false_was (Number n ∷ []) action e = grind (arith, nat_tests)
on_false_was fields action e = absurd (grind (arith, nat_tests))

on_equal_was : (fields : List Field) (action : Action) → on_equal_of fields ≡ Some action → action_line action ≡ (codes "oneq", fields)
on_equal_was (OfOperand v ∷ OfOperand w ∷ Number n ∷ []) action e = grind (arith, nat_tests)
on_equal_was fields action e = absurd (grind (arith, nat_tests))

window_was : (fields : List Field) (action : Action) → window_of fields ≡ Some action → action_line action ≡ (codes "window", fields)
window_was (Register r ∷ []) action e = sym (ap action_line (same_action (actions.Window r) action e))
window_was fields action e = absurd cc

get_url_was : (fields : List Field) (action : Action) → get_url_of fields ≡ Some action → action_line action ≡ (codes "geturl", fields)
get_url_was (Register r ∷ OfOperand v ∷ Integer z ∷ []) action e = sym (ap action_line (same_action (actions.GetUrl r v z) action e))
get_url_was fields action e = absurd cc

request_read_was : (fields : List Field) (action : Action) → request_read_of fields ≡ Some action → action_line action ≡ (codes "reqread", fields)
request_read_was (Register r ∷ OfOperand v ∷ rest) action e =
    let found = bound (all_ranges rest) (λ all. Some (actions.RequestRead r v all)) action e in
    sym (ap action_line (same_action (actions.RequestRead r v found.0) action found.2)) ∙ ap (λ (l : List Field). (codes "reqread", Register r ∷ OfOperand v ∷ l)) (ranges_were rest found.0 found.1)
request_read_was fields action e = absurd cc

end_stream_was : (fields : List Field) (action : Action) → end_stream_of fields ≡ Some action → action_line action ≡ (codes "endstream", fields)
end_stream_was (Register r ∷ OfOperand v ∷ Number n ∷ []) action e = grind (arith, nat_tests)
end_stream_was fields action e = absurd (grind (arith, nat_tests))

later_was : (fields : List Field) (action : Action) → later_of fields ≡ Some action → action_line action ≡ (codes "later", fields)
later_was (Text t ∷ []) action e = sym (ap action_line (same_action (actions.Later t) action e))
later_was fields action e = absurd cc

destroy_was : (fields : List Field) (action : Action) → destroy_of fields ≡ Some action → action_line action ≡ (codes "destroy", fields)
destroy_was (Register r ∷ Number n ∷ []) action e = grind (arith, nat_tests)
destroy_was fields action e = absurd (grind (arith, nat_tests))

exit_was : (fields : List Field) (action : Action) → exit_of fields ≡ Some action → action_line action ≡ (codes "exit", fields)
exit_was (Number n ∷ []) action e = grind (arith, nat_tests)
exit_was fields action e = absurd (grind (arith, nat_tests))

pub action_rows_were : AllByRecursion (RowWas action_line) action_rows
unfolding plain_rows own_rows
action_rows_were = (set_was, (drop_was, (invoke_was, (call_default_was, (construct_was, (get_was, (put_was, (remove_was, (has_method_was, (has_property_was, (enumerate_was, (note_was, (add_was, (fail_was, (return_was, (throw_was, (new_was, (slot_was, (load_was, (self_was, (on_true_was, (on_false_was, (on_equal_was, (window_was, (get_url_was, (request_read_was, (end_stream_was, (later_was, (destroy_was, (exit_was, tt))))))))))))))))))))))))))))))
