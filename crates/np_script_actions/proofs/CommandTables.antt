-- The lines of the tables say commands, and a command's line is read as it.
use Rattle.std.proofs.Common.{◌≡◌, ℕ, List, [], ◌∷◌, true, Some, refl, arith}
use Rattle.std.specs.Prelude.{codes, nat_lt}
use Rattle.std.specs.List.{AllByRecursion}
use Rattle.std.proofs.lemmas.Bool.Decides.{nat_tests}
use Rattle.std.proofs.lemmas.Bool.{and_parts}
use Rattle.np_script_grammar.specs.declared.command.Command.{Command}
use Rattle.np_script_grammar.specs.declared.command.Command.TheVariants as commands
use Rattle.np_script_grammar.specs.declared.line.Item.TheVariants as items
use Rattle.np_script_grammar.specs.declared.line.Field.{Field}
use Rattle.np_script_grammar.specs.Forms.{Line, are_of, IsOf}
use Rattle.np_script_grammar.specs.Tables.{command_table}
use Rattle.np_script_grammar.specs.Rows.{command_line, register, number, text}
use Rattle.np_script_actions.specs.Commands.{command_rows, page_rows, command_of}
use Rattle.np_script_actions.proofs.Taken.{operands_are_read, texts_are_read}
use Rattle.np_script_actions.proofs.Tables.{without_groups, FormSays, form_says, said_was, of_only}
use Rattle.np_script_actions.proofs.CommandRows.{command_rows_were}
use Rattle.np_script_actions.proofs.CommandForms.{set_says, drop_says, invoke_says, call_default_says, construct_says, get_says, put_says, remove_says, has_method_says, has_property_says, enumerate_says, note_says, create_says, destroy_says, scriptable_says, new_says, turn_says, open_stream_says, pump_says}

table_says : AllByRecursion (FormSays command_rows) command_table
unfolding page_rows
table_says = (
  λ fields h. set_says fields (without_groups (items.Register ∷ items.Operand ∷ []) fields h),
  (
    λ fields h. drop_says fields (without_groups (items.Register ∷ []) fields h),
    (
      λ fields h. invoke_says h.groups fields h.each,
      (
        λ fields h. call_default_says h.groups fields h.each,
        (
          λ fields h. construct_says h.groups fields h.each,
          (
            λ fields h. get_says fields (without_groups (items.Register ∷ items.Operand ∷ items.Identifier ∷ []) fields h),
            (
              λ fields h. put_says fields (without_groups (items.Operand ∷ items.Identifier ∷ items.Operand ∷ []) fields h),
              (
                λ fields h. remove_says fields (without_groups (items.Operand ∷ items.Identifier ∷ []) fields h),
                (
                  λ fields h. has_method_says fields (without_groups (items.Operand ∷ items.Identifier ∷ []) fields h),
                  (
                    λ fields h. has_property_says fields (without_groups (items.Operand ∷ items.Identifier ∷ []) fields h),
                    (
                      λ fields h. enumerate_says fields (without_groups (items.Register ∷ items.Operand ∷ []) fields h),
                      (
                        λ fields h. note_says fields (without_groups (items.Operand ∷ []) fields h),
                        (
                          λ fields h. create_says h.groups fields h.each,
                          (
                            λ fields h. destroy_says fields (without_groups (items.Number 1 255 ∷ []) fields h),
                            (
                              λ fields h. scriptable_says fields (without_groups (items.Register ∷ items.Number 1 255 ∷ []) fields h),
                              (
                                λ fields h. new_says fields (without_groups (items.Register ∷ items.Number 1 255 ∷ items.Text ∷ []) fields h),
                                (
                                  λ fields h. turn_says fields (without_groups ([]) fields h),
                                  (
                                    λ fields h. open_stream_says fields (without_groups (items.Number 1 255 ∷ items.Text ∷ []) fields h),
                                    (λ fields h. pump_says fields (without_groups (items.Number 1 100000 ∷ []) fields h), tt),
                                  ),
                                ),
                              ),
                            ),
                          ),
                        ),
                      ),
                    ),
                  ),
                ),
              ),
            ),
          ),
        ),
      ),
    ),
  ),
)

pub lines_say : (line : Line) → IsOf command_table line → (command : Command) × (command_of line.0 line.1 ≡ Some command)
unfolding command_of
lines_say line is = form_says command_rows command_table table_says line.0 is.form is.listed line.1 is.of_form

pub were_lines : (word : List ℕ) (fields : List Field) (command : Command) → command_of word fields ≡ Some command → command_line command ≡ (word, fields)
unfolding command_of
were_lines word fields command e = said_was command_line command_rows command_rows_were word fields command e

-- ---- each is read as itself

pub are_read : (command : Command) → IsOf command_table (command_line command) → command_of (command_line command).0 (command_line command).1 ≡ Some command
unfolding command_of page_rows
are_read (commands.Set r v) is = refl
are_read (commands.Drop r) is = refl
are_read (commands.Invoke r v k all) is = rw (operands_are_read all) refl
are_read (commands.CallDefault r v all) is = rw (operands_are_read all) refl
are_read (commands.Construct r v all) is = rw (operands_are_read all) refl
are_read (commands.Get r v k) is = refl
are_read (commands.Put v k w) is = refl
are_read (commands.Remove v k) is = refl
are_read (commands.HasMethod v k) is = refl
are_read (commands.HasProperty v k) is = refl
are_read (commands.Enumerate r v) is = refl
are_read (commands.Note v) is = refl
are_read (commands.Create t m all) is = rw (texts_are_read all) refl
are_read (commands.Destroy n) is =
    let fits : are_of (items.Number 1 255 ∷ []) (number n ∷ []) ≡ true = of_only command_table (codes "destroy") (items.Number 1 255 ∷ []) (number n ∷ []) is refl in
    let small : nat_lt n 256 ≡ true = grind (arith, nat_tests, and_parts) in
    rw small refl
are_read (commands.Scriptable r n) is =
    let fits : are_of (items.Register ∷ items.Number 1 255 ∷ []) (register r ∷ number n ∷ []) ≡ true = of_only command_table (codes "scriptable") (items.Register ∷ items.Number 1 255 ∷ []) (register r ∷ number n ∷ []) is refl in
    let small : nat_lt n 256 ≡ true = grind (arith, nat_tests, and_parts) in
    rw small refl
are_read (commands.New r n t) is =
    let fits : are_of (items.Register ∷ items.Number 1 255 ∷ items.Text ∷ []) (register r ∷ number n ∷ text t ∷ []) ≡ true = of_only command_table (codes "new") (items.Register ∷ items.Number 1 255 ∷ items.Text ∷ []) (register r ∷ number n ∷ text t ∷ []) is refl in
    let small : nat_lt n 256 ≡ true = grind (arith, nat_tests, and_parts) in
    rw small refl
are_read commands.Turn is = refl
are_read (commands.OpenStream n t) is =
    let fits : are_of (items.Number 1 255 ∷ items.Text ∷ []) (number n ∷ text t ∷ []) ≡ true = of_only command_table (codes "open") (items.Number 1 255 ∷ items.Text ∷ []) (number n ∷ text t ∷ []) is refl in
    let small : nat_lt n 256 ≡ true = grind (arith, nat_tests, and_parts) in
    rw small refl
are_read (commands.Pump n) is = refl
