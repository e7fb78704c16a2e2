use Rattle.np_life.proofs.Others.{one-changes, one-begins}
use Rattle.np_life.proofs.laws.one_phase_changes.Goals as goal

pub returns-clause-changes : goal.returns-clause-changes
returns-clause-changes c = one-changes

pub returns-clause-begins : goal.returns-clause-begins
returns-clause-begins c = one-begins
