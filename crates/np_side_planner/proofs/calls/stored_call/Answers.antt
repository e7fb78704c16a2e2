use Rattle.np_side_planner.specs.Registers.{register_of}
use Rattle.np_side_planner.proofs.calls.stored_call.Goals as goal

pub returns-in-Get-clause-steps : goal.returns-in-Get-clause-steps
returns-in-Get-clause-steps c = rw c.in-Get.is (λ place. c.stored_get.ensures.steps (register_of c.args.registers) c.args.class.now place)

pub returns-in-Get-clause-tells : goal.returns-in-Get-clause-tells
returns-in-Get-clause-tells c = rw c.in-Get.is (λ place. c.stored_get.ensures.tells (register_of c.args.registers) c.args.class.now place)

pub returns-in-Put-clause-steps : goal.returns-in-Put-clause-steps
returns-in-Put-clause-steps c = rw c.in-Put.is (λ place. c.stored_put.ensures.steps place)

pub returns-in-Put-clause-tells : goal.returns-in-Put-clause-tells
returns-in-Put-clause-tells c = rw c.in-Put.is (λ place. c.stored_put.ensures.tells c.args.wanted place)

pub returns-in-Remove-clause-steps : goal.returns-in-Remove-clause-steps
returns-in-Remove-clause-steps c = rw c.in-Remove.is (λ place. c.stored_remove.ensures.steps (register_of c.args.registers) c.args.class.now place)

pub returns-in-Remove-clause-tells : goal.returns-in-Remove-clause-tells
returns-in-Remove-clause-tells c = rw c.in-Remove.is (λ place. c.stored_remove.ensures.tells c.args.wanted (register_of c.args.registers) c.args.class.now place)

pub returns-in-Enumerate-clause-tells : goal.returns-in-Enumerate-clause-tells
returns-in-Enumerate-clause-tells c = rw c.in-Enumerate.is (λ place. c.stored_keys.ensures.tells c.args.wanted (register_of c.args.registers) place)
