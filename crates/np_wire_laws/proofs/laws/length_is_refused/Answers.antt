use Rattle.np_wire_laws.proofs.Lengths.{refuses_length_exactly, front_refused}
use Rattle.np_wire_laws.proofs.laws.length_is_refused.Goals as goal

pub returns-clause-exact : goal.returns-clause-exact
returns-clause-exact c = refuses_length_exactly

pub returns-clause-numbers : goal.returns-clause-numbers
returns-clause-numbers c = front_refused
