use Rattle.np_wire_laws.proofs.Lengths.{waits_exactly, beginnings_are_awaited}
use Rattle.np_wire_laws.proofs.laws.partial_is_cut_short.Goals as goal

pub returns-clause-exact : goal.returns-clause-exact
returns-clause-exact c = waits_exactly

pub returns-clause-beginning : goal.returns-clause-beginning
returns-clause-beginning c = beginnings_are_awaited
