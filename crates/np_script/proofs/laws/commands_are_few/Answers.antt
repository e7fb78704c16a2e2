use Rattle.np_script.proofs.OneValue.{few-commands}
use Rattle.np_script.proofs.laws.commands_are_few.Goals as goal

pub returns : goal.returns
returns c = record { law = few-commands c.lines_are_few.ensures.law }
