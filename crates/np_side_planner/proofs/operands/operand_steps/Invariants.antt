use Rattle.std.proofs.Common.{◌≡◌, ◌++◌, ◌≤◌, drop, length}
use Rattle.np_machine_plans.specs.PlanParts.{operand_steps}
use Rattle.np_side_planner.specs.Registers.{register_of}
use Rattle.np_side_planner.proofs.operands.operand_steps.Given as goal

abbrev pub invariant-loop-left : goal.invariant-loop-left
invariant-loop-left l = record {
  within : l.left ≤ length l.operands;
  steps : l.steps.items ≡ l.initial.steps.items ++ operand_steps (register_of l.registers) (drop l.left l.operands);
}

abbrev pub decreases-loop-left : goal.decreases-loop-left
decreases-loop-left l = l.left
