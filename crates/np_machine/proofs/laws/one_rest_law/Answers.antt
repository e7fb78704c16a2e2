use Rattle.np_values.specs.declared.name.Side.TheVariants.{Page, Plug}
use Rattle.np_machine.specs.Side.{at_start}
use Rattle.np_machine.specs.Machine.{both_start}
use Rattle.np_machine.proofs.EndpointRuns.{one_rest}
use Rattle.np_machine.proofs.Cuts.{page-one_rest, plugin-one_rest}
use Rattle.np_machine.proofs.Turns.{start-both}
use Rattle.np_machine.proofs.laws.one_rest_law.Goals as goal

pub returns : goal.returns
returns g c = record { law = λ P Q c d. (λ got p q. one_rest P got (at_start Page c) p q, λ got p q. one_rest Q got (at_start Plug d) p q, λ k p q. page-one_rest P Q (both_start c d) (start-both c d) k p q, λ j p q. plugin-one_rest P Q (both_start c d) (start-both c d) j p q) }
