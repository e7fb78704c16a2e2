-- The parts that plans are made of. (This project's own.)
use Rattle.std.specs.Ordering.{int_eq}
use Rattle.std.specs.Prelude.{Bool, List, None, Option, Some, [], false, not, pos, true, ℕ, ◌++◌, ◌∷◌}
use Rattle.std.specs.Str.{bytes_eq}
use Rattle.np_values.specs.declared.error.NpError.TheVariants.{NoError}
use Rattle.np_values.specs.declared.error.NpError.{NpError}
use Rattle.np_values.specs.declared.name.Name.{Name}
use Rattle.np_values.specs.declared.value.Value.TheVariants as values
use Rattle.np_values.specs.declared.value.Value.{Value}
use Rattle.np_values.specs.NpError.{code_of}
use Rattle.np_script_grammar.specs.declared.action.Operand.TheVariants.{Const, Reg}
use Rattle.np_script_grammar.specs.declared.action.Operand.{Operand}
use Rattle.np_message.specs.declared.depth.Depth.{Depth}
use Rattle.np_journal.specs.declared.line.Line.TheVariants.{Noted}
use Rattle.np_journal.specs.declared.line.Line.{Line}
use Rattle.np_machine.specs.declared.draft.Draft.{Draft}
use Rattle.np_machine.specs.declared.place.Place.TheVariants.{Register}
use Rattle.np_machine.specs.declared.place.Place.{Place}
use Rattle.np_machine.specs.declared.step.Step.TheVariants.{Constant, Copy, Deallocate, Deliver, DropEach, Put, SetFlag, Sweep}
use Rattle.np_machine.specs.declared.step.Step.{Step}
use Rattle.np_machine.specs.Plan.{Plan}
use Rattle.np_machine.specs.References.{is_same_name, name_of}
use Rattle.np_machine_plans.specs.View.{SideView, is_dead}
use Rattle.np_machine.specs.Values.{read_at}

-- a plan that sends no message
abbrev pub plan : {C : Type 0} → C → List Step → Plan C
plan c steps = record { control = c; steps = steps; sends = None }

-- a plan that sends a message, whose references its steps hand over
abbrev pub sending : {C : Type 0} → C → List Step → Depth → Draft → Plan C
sending c steps depth draft = record { control = c; steps = steps; sends = Some (record { depth = depth; draft = draft }) }

-- the plan with these steps before its own
abbrev pub after_steps : {C : Type 0} → List Step → Plan C → Plan C
after_steps steps p = record p { steps = steps ++ p.steps }

-- An assignment: the next value in flight goes to the place, and then what was there is dropped.
abbrev pub assign : Place → List Step
assign place = Put place ∷ (DropEach 1 ∷ [])

-- A message is delivered: its references are named and its releases applied, then own objects that nothing refers to are deallocated.
abbrev pub delivery : List Step
delivery = Deliver ∷ (Sweep ∷ (Deallocate ∷ []))

-- how many values a frame's places hold: its 16 registers, and the object whose member it runs
abbrev pub frame_value_count : ℕ
frame_value_count = 17

-- ---- operands

-- an operand's value comes in flight, where the registers are these places
abbrev pub operand_step : (ℕ → Place) → Operand → Step
operand_step register (Reg n) = Copy (register n)
operand_step register (Const v) = Constant v

-- the operands' values come in flight, the first of them next
abbrev pub operand_steps : (ℕ → Place) → List Operand → List Step
operand_steps register [] = []
operand_steps register (o ∷ os) = operand_steps register os ++ operand_step register o ∷ []

-- an operand's value, where the registers hold these
abbrev pub operand_value : List Value → Operand → Value
operand_value registers (Reg n) = read_at n registers
operand_value registers (Const v) = v

-- ---- values

-- both are true, or both false
abbrev pub is_same_bool : Bool → Bool → Bool
is_same_bool true b = b
is_same_bool false b = not b

-- two values of the same kind and content; two doubles are the same where their bytes are
abbrev pub is_same_value : Value → Value → Bool
is_same_value values.Void values.Void = true
is_same_value values.Null values.Null = true
is_same_value (values.Bool a) (values.Bool b) = is_same_bool a b
is_same_value (values.Int a) (values.Int b) = int_eq a b
is_same_value (values.Double a) (values.Double b) = bytes_eq a b
is_same_value (values.Text a) (values.Text b) = bytes_eq a b
is_same_value (values.Object a) (values.Object b) = is_same_name a b
is_same_value a b = false

-- the value names an object whose instance is dead on this side, as a journal prints it
abbrev pub names_dead : SideView → Option Name → Bool
names_dead p None = false
names_dead p (Some name) = is_dead p name.instance

-- the line of a noted value
abbrev pub noted_line : SideView → Value → Line
noted_line p v = Noted v (names_dead p (name_of v))

-- the number of an error, in a register; the flag is whether it is 0 (npapi.h, NPError)
abbrev pub code_steps : ℕ → NpError → List Step
code_steps r error = SetFlag (is_no_error error) ∷ (Constant (values.Int (pos (code_of error))) ∷ assign (Register r))
  where
    is_no_error : NpError → Bool
    is_no_error NoError = true
    is_no_error error = false
