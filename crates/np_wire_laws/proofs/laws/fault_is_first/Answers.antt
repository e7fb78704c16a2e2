use Rattle.np_wire_laws.proofs.FirstFaults.{refuses_only_faults, refuses_each_fault}
use Rattle.np_wire_laws.proofs.OneFault.{has_one_first_fault, encodings_have_no_fault}
use Rattle.np_wire_laws.proofs.laws.fault_is_first.Goals as goal

pub returns-clause-only : goal.returns-clause-only
returns-clause-only c = refuses_only_faults

pub returns-clause-each : goal.returns-clause-each
returns-clause-each c = refuses_each_fault

pub returns-clause-one : goal.returns-clause-one
returns-clause-one c = has_one_first_fault

pub returns-clause-none : goal.returns-clause-none
returns-clause-none c = encodings_have_no_fault
