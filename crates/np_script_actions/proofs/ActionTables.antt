-- The lines of the tables say actions, and an action's line is read as it.
use Rattle.std.proofs.Common.{◌≡◌, ℕ, List, [], ◌∷◌, true, Some, None, refl, arith}
use Rattle.std.specs.Prelude.{codes, nat_lt}
use Rattle.std.specs.List.{AllByRecursion}
use Rattle.std.proofs.lemmas.Bool.Decides.{nat_tests}
use Rattle.std.proofs.lemmas.Bool.{and_parts}
use Rattle.np_values.specs.declared.name.Side.{Side}
use Rattle.np_values.specs.declared.name.Side.TheVariants as sides
use Rattle.np_script_grammar.specs.declared.action.Action.{Action}
use Rattle.np_script_grammar.specs.declared.action.Action.TheVariants as actions
use Rattle.np_script_grammar.specs.declared.line.Item.TheVariants as items
use Rattle.np_script_grammar.specs.declared.line.Field.{Field}
use Rattle.np_script_grammar.specs.Forms.{Form, Line, are_of, IsOf}
use Rattle.np_script_grammar.specs.Tables.{action_table}
use Rattle.np_script_grammar.specs.Rows.{action_line, register, value, number}
use Rattle.np_script_actions.specs.Actions.{action_rows, plain_rows, own_rows, action_of}
use Rattle.np_script_actions.proofs.Taken.{operands_are_read, ranges_are_read, reason_is_read}
use Rattle.np_script_actions.proofs.Tables.{without_groups, FormSays, form_says, said_was, of_only}
use Rattle.np_script_actions.proofs.ActionRows.{action_rows_were}
use Rattle.np_script_actions.proofs.ActionForms.{set_says, drop_says, invoke_says, call_default_says, construct_says, get_says, put_says, remove_says, has_method_says, has_property_says, enumerate_says, note_says, add_says, fail_says, return_says, throw_says, new_says, slot_says, load_says, self_says, on_true_says, on_false_says, on_equal_says, window_says, get_url_says, request_read_says, end_stream_says, later_says, destroy_says, exit_says}

page_table_says : AllByRecursion (FormSays action_rows) (action_table sides.Page)
unfolding plain_rows own_rows
page_table_says = (
  λ fields h. set_says fields (without_groups (items.Register ∷ items.Operand ∷ []) fields h),
  (
    λ fields h. drop_says fields (without_groups (items.Register ∷ []) fields h),
    (
      λ fields h. invoke_says h.groups fields h.each,
      (
        λ fields h. call_default_says h.groups fields h.each,
        (
          λ fields h. construct_says h.groups fields h.each,
          (
            λ fields h. get_says fields (without_groups (items.Register ∷ items.Operand ∷ items.Identifier ∷ []) fields h),
            (
              λ fields h. put_says fields (without_groups (items.Operand ∷ items.Identifier ∷ items.Operand ∷ []) fields h),
              (
                λ fields h. remove_says fields (without_groups (items.Operand ∷ items.Identifier ∷ []) fields h),
                (
                  λ fields h. has_method_says fields (without_groups (items.Operand ∷ items.Identifier ∷ []) fields h),
                  (
                    λ fields h. has_property_says fields (without_groups (items.Operand ∷ items.Identifier ∷ []) fields h),
                    (
                      λ fields h. enumerate_says fields (without_groups (items.Register ∷ items.Operand ∷ []) fields h),
                      (
                        λ fields h. note_says fields (without_groups (items.Operand ∷ []) fields h),
                        (
                          λ fields h. add_says fields (without_groups (items.Register ∷ items.Operand ∷ items.Operand ∷ []) fields h),
                          (
                            λ fields h. fail_says fields (without_groups ([]) fields h),
                            (
                              λ fields h. return_says fields (without_groups (items.Operand ∷ []) fields h),
                              (
                                λ fields h. throw_says fields (without_groups (items.Text ∷ []) fields h),
                                (
                                  λ fields h. new_says fields (without_groups (items.Register ∷ items.Text ∷ []) fields h),
                                  (
                                    λ fields h. slot_says fields (without_groups (items.Number 0 7 ∷ items.Operand ∷ []) fields h),
                                    (
                                      λ fields h. load_says fields (without_groups (items.Register ∷ items.Number 0 7 ∷ []) fields h),
                                      (
                                        λ fields h. self_says fields (without_groups (items.Register ∷ []) fields h),
                                        (
                                          λ fields h. on_true_says fields (without_groups (items.Number 1 255 ∷ []) fields h),
                                          (
                                            λ fields h. on_false_says fields (without_groups (items.Number 1 255 ∷ []) fields h),
                                            (
                                              λ fields h. on_equal_says fields (without_groups (items.Operand ∷ items.Operand ∷ items.Number 1 255 ∷ []) fields h),
                                              (λ fields h. destroy_says fields (without_groups (items.Register ∷ items.Number 1 255 ∷ []) fields h), tt),
                                            ),
                                          ),
                                        ),
                                      ),
                                    ),
                                  ),
                                ),
                              ),
                            ),
                          ),
                        ),
                      ),
                    ),
                  ),
                ),
              ),
            ),
          ),
        ),
      ),
    ),
  ),
)

plug_table_says : AllByRecursion (FormSays action_rows) (action_table sides.Plug)
unfolding plain_rows own_rows
plug_table_says = (
  λ fields h. set_says fields (without_groups (items.Register ∷ items.Operand ∷ []) fields h),
  (
    λ fields h. drop_says fields (without_groups (items.Register ∷ []) fields h),
    (
      λ fields h. invoke_says h.groups fields h.each,
      (
        λ fields h. call_default_says h.groups fields h.each,
        (
          λ fields h. construct_says h.groups fields h.each,
          (
            λ fields h. get_says fields (without_groups (items.Register ∷ items.Operand ∷ items.Identifier ∷ []) fields h),
            (
              λ fields h. put_says fields (without_groups (items.Operand ∷ items.Identifier ∷ items.Operand ∷ []) fields h),
              (
                λ fields h. remove_says fields (without_groups (items.Operand ∷ items.Identifier ∷ []) fields h),
                (
                  λ fields h. has_method_says fields (without_groups (items.Operand ∷ items.Identifier ∷ []) fields h),
                  (
                    λ fields h. has_property_says fields (without_groups (items.Operand ∷ items.Identifier ∷ []) fields h),
                    (
                      λ fields h. enumerate_says fields (without_groups (items.Register ∷ items.Operand ∷ []) fields h),
                      (
                        λ fields h. note_says fields (without_groups (items.Operand ∷ []) fields h),
                        (
                          λ fields h. add_says fields (without_groups (items.Register ∷ items.Operand ∷ items.Operand ∷ []) fields h),
                          (
                            λ fields h. fail_says fields (without_groups ([]) fields h),
                            (
                              λ fields h. return_says fields (without_groups (items.Operand ∷ []) fields h),
                              (
                                λ fields h. throw_says fields (without_groups (items.Text ∷ []) fields h),
                                (
                                  λ fields h. new_says fields (without_groups (items.Register ∷ items.Text ∷ []) fields h),
                                  (
                                    λ fields h. slot_says fields (without_groups (items.Number 0 7 ∷ items.Operand ∷ []) fields h),
                                    (
                                      λ fields h. load_says fields (without_groups (items.Register ∷ items.Number 0 7 ∷ []) fields h),
                                      (
                                        λ fields h. self_says fields (without_groups (items.Register ∷ []) fields h),
                                        (
                                          λ fields h. on_true_says fields (without_groups (items.Number 1 255 ∷ []) fields h),
                                          (
                                            λ fields h. on_false_says fields (without_groups (items.Number 1 255 ∷ []) fields h),
                                            (
                                              λ fields h. on_equal_says fields (without_groups (items.Operand ∷ items.Operand ∷ items.Number 1 255 ∷ []) fields h),
                                              (
                                                λ fields h. window_says fields (without_groups (items.Register ∷ []) fields h),
                                                (
                                                  λ fields h. get_url_says fields (without_groups (items.Register ∷ items.Operand ∷ items.Integer ∷ []) fields h),
                                                  (
                                                    λ fields h. request_read_says h.groups fields h.each,
                                                    (
                                                      λ fields h. end_stream_says fields (without_groups (items.Register ∷ items.Operand ∷ items.Number 0 2 ∷ []) fields h),
                                                      (
                                                        λ fields h. later_says fields (without_groups (items.Text ∷ []) fields h),
                                                        (λ fields h. exit_says fields (without_groups (items.Number 0 63 ∷ []) fields h), tt),
                                                      ),
                                                    ),
                                                  ),
                                                ),
                                              ),
                                            ),
                                          ),
                                        ),
                                      ),
                                    ),
                                  ),
                                ),
                              ),
                            ),
                          ),
                        ),
                      ),
                    ),
                  ),
                ),
              ),
            ),
          ),
        ),
      ),
    ),
  ),
)

table_says : (side : Side) → AllByRecursion (FormSays action_rows) (action_table side)
table_says sides.Page = page_table_says
table_says sides.Plug = plug_table_says

pub lines_say : (side : Side) (line : Line) → IsOf (action_table side) line → (action : Action) × (action_of line.0 line.1 ≡ Some action)
unfolding action_of
lines_say side line is = form_says action_rows (action_table side) (table_says side) line.0 is.form is.listed line.1 is.of_form

pub were_lines : (word : List ℕ) (fields : List Field) (action : Action) → action_of word fields ≡ Some action → action_line action ≡ (word, fields)
unfolding action_of
were_lines word fields action e = said_was action_line action_rows action_rows_were word fields action e

-- ---- each is read as itself

not_listed : (form : Form) → None ≡ Some form → ⊥
not_listed form e = absurd cc

pub are_read : (side : Side) (action : Action) → IsOf (action_table side) (action_line action) → action_of (action_line action).0 (action_line action).1 ≡ Some action
unfolding action_of plain_rows own_rows
are_read side (actions.Set r v) is = refl
are_read side (actions.Drop r) is = refl
are_read side (actions.Invoke r v k all) is = rw (operands_are_read all) refl
are_read side (actions.CallDefault r v all) is = rw (operands_are_read all) refl
are_read side (actions.Construct r v all) is = rw (operands_are_read all) refl
are_read side (actions.Get r v k) is = refl
are_read side (actions.Put v k w) is = refl
are_read side (actions.Remove v k) is = refl
are_read side (actions.HasMethod v k) is = refl
are_read side (actions.HasProperty v k) is = refl
are_read side (actions.Enumerate r v) is = refl
are_read side (actions.Note v) is = refl
are_read side (actions.Add r v w) is = refl
are_read side actions.Fail is = refl
are_read side (actions.Return v) is = refl
are_read side (actions.Throw t) is = refl
are_read side (actions.New r t) is = refl
are_read side (actions.Slot n v) is =
    let fits : are_of (items.Number 0 7 ∷ items.Operand ∷ []) (number n ∷ value v ∷ []) ≡ true = of_only (action_table side) (codes "slot") (items.Number 0 7 ∷ items.Operand ∷ []) (number n ∷ value v ∷ []) is refl in
    let small : nat_lt n 256 ≡ true = grind (arith, nat_tests, and_parts) in
    rw small refl
are_read side (actions.Load r n) is =
    let fits : are_of (items.Register ∷ items.Number 0 7 ∷ []) (register r ∷ number n ∷ []) ≡ true = of_only (action_table side) (codes "load") (items.Register ∷ items.Number 0 7 ∷ []) (register r ∷ number n ∷ []) is refl in
    let small : nat_lt n 256 ≡ true = grind (arith, nat_tests, and_parts) in
    rw small refl
are_read side (actions.SelfTo r) is = refl
are_read side (actions.OnTrue n) is =
    let fits : are_of (items.Number 1 255 ∷ []) (number n ∷ []) ≡ true = of_only (action_table side) (codes "ontrue") (items.Number 1 255 ∷ []) (number n ∷ []) is refl in
    let small : nat_lt n 256 ≡ true = grind (arith, nat_tests, and_parts) in
    rw small refl
are_read side (actions.OnFalse n) is =
    let fits : are_of (items.Number 1 255 ∷ []) (number n ∷ []) ≡ true = of_only (action_table side) (codes "onfalse") (items.Number 1 255 ∷ []) (number n ∷ []) is refl in
    let small : nat_lt n 256 ≡ true = grind (arith, nat_tests, and_parts) in
    rw small refl
are_read side (actions.OnEq v w n) is =
    let fits : are_of (items.Operand ∷ items.Operand ∷ items.Number 1 255 ∷ []) (value v ∷ value w ∷ number n ∷ []) ≡ true = of_only (action_table side) (codes "oneq") (items.Operand ∷ items.Operand ∷ items.Number 1 255 ∷ []) (value v ∷ value w ∷ number n ∷ []) is refl in
    let small : nat_lt n 256 ≡ true = grind (arith, nat_tests, and_parts) in
    rw small refl
are_read side (actions.Window r) is = refl
are_read side (actions.GetUrl r v z) is = refl
are_read side (actions.RequestRead r v all) is = rw (ranges_are_read all) refl
are_read side (actions.EndStream r v reason) is = rw (reason_is_read reason) refl
are_read side (actions.Later t) is = refl
are_read sides.Page (actions.Destroy r n) is =
    let fits : are_of (items.Register ∷ items.Number 1 255 ∷ []) (register r ∷ number n ∷ []) ≡ true = of_only (action_table sides.Page) (codes "destroy") (items.Register ∷ items.Number 1 255 ∷ []) (register r ∷ number n ∷ []) is refl in
    let small : nat_lt n 256 ≡ true = grind (arith, nat_tests, and_parts) in
    rw small refl
are_read sides.Plug (actions.Destroy r n) is = absurd (not_listed is.form is.listed)
are_read sides.Plug (actions.Exit n) is =
    let fits : are_of (items.Number 0 63 ∷ []) (number n ∷ []) ≡ true = of_only (action_table sides.Plug) (codes "exit") (items.Number 0 63 ∷ []) (number n ∷ []) is refl in
    let small : nat_lt n 256 ≡ true = grind (arith, nat_tests, and_parts) in
    rw small refl
are_read sides.Page (actions.Exit n) is = absurd (not_listed is.form is.listed)
