use Rattle.std.proofs.Common.{◌∙◌, sym, ap, arith}
use Rattle.np_machine.specs.Values.{read_at}
use Rattle.np_machine_plans.specs.PlanParts.{operand_value}
use Rattle.np_side_planner.proofs.StoredObjectLemmas.{read-past, read-get}
use Rattle.np_side_planner.proofs.values.operand_value.Goals as goal

pub returns-then-registers-place : goal.returns-then-registers-place
returns-then-registers-place c =
    record { value = c.requires.void ∙ read-past c.in-Reg.register c.args.registers.now (omega (arith, c.from-place.ensures)) ∙ ap (λ o. operand_value c.args.registers.now o) (sym c.in-Reg.is) }

pub returns-else-registers-place : goal.returns-else-registers-place
returns-else-registers-place c =
    let v = c.index-registers-place.result in
    record { value = c.index-registers-place.is ∙ read-get c.from-place.result v c.args.registers.now c.if-registers-place.false ∙ ap (λ i. read_at i c.args.registers.now) c.from-place.ensures ∙ ap (λ o. operand_value c.args.registers.now o) (sym c.in-Reg.is) }
