use Rattle.np_objects.specs.Objects.{no_objects}
use Rattle.np_objects.specs.History.{after_all}
use Rattle.np_objects.proofs.Histories.{valid, never-again}
use Rattle.np_objects.proofs.laws.no_name_lives_again.Goals as goal

pub returns : goal.returns
returns c = record {
  law = λ side earlier calls x a b given n. never-again calls (after_all earlier (no_objects side)) x b (valid side earlier a) given n;
}
