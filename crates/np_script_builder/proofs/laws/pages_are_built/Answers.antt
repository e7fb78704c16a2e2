use Rattle.np_script_builder.proofs.Backward.{pages_are_built}
use Rattle.np_script_builder.proofs.laws.pages_are_built.Goals as goal

pub returns : goal.returns
returns c = record { law = pages_are_built (record { actions = c.actions_are_read.ensures.law; commands = c.commands_are_read.ensures.law }) }
