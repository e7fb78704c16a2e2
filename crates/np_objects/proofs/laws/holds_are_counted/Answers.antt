use Rattle.np_objects.specs.Objects.{no_objects}
use Rattle.np_objects.specs.History.{after_all}
use Rattle.np_objects.proofs.Histories.{valid, counted}
use Rattle.np_objects.proofs.laws.holds_are_counted.Goals as goal

pub returns : goal.returns
returns c = record {
  law = λ side earlier calls x a b l t. counted calls (after_all earlier (no_objects side)) x (valid side earlier a) b l t;
}
