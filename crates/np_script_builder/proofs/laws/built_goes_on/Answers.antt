use Rattle.np_script_builder.proofs.GoingOn.{goes_on}
use Rattle.np_script_grammar.specs.declared.place.Place.TheVariants.{Head}
use Rattle.np_script_builder.specs.Building.{at_start}
use Rattle.np_script_builder.proofs.laws.built_goes_on.Goals as goal

pub returns : goal.returns
returns c = record { law = λ lines line b e. goes_on Head at_start lines line b e }
