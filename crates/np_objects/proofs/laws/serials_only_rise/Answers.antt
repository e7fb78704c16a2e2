use Rattle.np_objects.specs.Objects.{no_objects}
use Rattle.np_objects.specs.History.{after_all}
use Rattle.np_objects.proofs.Histories.{valid, serials-rise}
use Rattle.np_objects.proofs.laws.serials_only_rise.Goals as goal

pub returns : goal.returns
returns c = record {
  law = λ side earlier calls instance a b. serials-rise calls (after_all earlier (no_objects side)) instance b (valid side earlier a);
}
