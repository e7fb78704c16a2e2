use Rattle.np_proxy.proofs.ClearingLemmas.{none-purged}
use Rattle.np_proxy.proofs.imports.Imports.new.Goals as goal

pub returns-clause-unpurged : goal.returns-clause-unpurged
returns-clause-unpurged c = none-purged
