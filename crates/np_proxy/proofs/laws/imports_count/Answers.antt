use Rattle.std.proofs.Common.{refl}
use Rattle.np_proxy.proofs.CountLemmas.{received-accepted, holders-accepted, received-purged, holders-purged, holders-held, received-held, holders-unheld, received-unheld, pending-unheld, last-goes, others-same, none-left}
use Rattle.np_proxy.proofs.ClearingLemmas.{clears-count, held-names, others-kept, marks-kept}
use Rattle.np_proxy.proofs.laws.imports_count.Goals as goal

pub returns-clause-accepts : goal.returns-clause-accepts
returns-clause-accepts c x names imports p = record { received = received-accepted x names imports p; holders = holders-accepted x names imports p; pending = refl }

pub returns-clause-purged : goal.returns-clause-purged
returns-clause-purged c x names imports p = record { received = received-purged x names imports p; holders = holders-purged x names imports p; pending = refl }

pub returns-clause-holds : goal.returns-clause-holds
returns-clause-holds c x y imports h = (holders-held x y imports h, received-held x y imports, refl)

pub returns-clause-drops : goal.returns-clause-drops
returns-clause-drops c x y imports h = (holders-unheld x y imports h, received-unheld x y imports h, pending-unheld x y imports h)

pub returns-clause-last : goal.returns-clause-last
returns-clause-last c y imports capacity keeps h = last-goes y imports capacity keeps h

pub returns-clause-others : goal.returns-clause-others
returns-clause-others c x y imports capacity keeps h d side = others-same x y imports capacity keeps h d side

pub returns-clause-purge : goal.returns-clause-purge
returns-clause-purge c x imports = none-left x imports

pub returns-clause-other_instances : goal.returns-clause-other_instances
returns-clause-other_instances c = others-kept

pub returns-clause-marks : goal.returns-clause-marks
returns-clause-marks c = marks-kept

pub returns-clause-clears : goal.returns-clause-clears
returns-clause-clears c = clears-count

pub returns-clause-names : goal.returns-clause-names
returns-clause-names c x instance imports capacity keeps = held-names x instance imports.proxies keeps.proxies_rise
