use Rattle.np_wire.proofs.Runs.{gives}
use Rattle.np_wire.proofs.laws.feeds_give_what_was_pushed.Goals as goal

pub returns : goal.returns
returns c = record { law = gives }
