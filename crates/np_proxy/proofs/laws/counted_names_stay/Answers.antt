use Rattle.np_proxy.proofs.CountedNames.{accepts-counted, holds-counted, drops-counted, clears-counted, purges-counted}
use Rattle.np_proxy.proofs.laws.counted_names_stay.Goals as goal

pub returns-clause-accepts : goal.returns-clause-accepts
returns-clause-accepts c = accepts-counted

pub returns-clause-holds : goal.returns-clause-holds
returns-clause-holds c = holds-counted

pub returns-clause-drops : goal.returns-clause-drops
returns-clause-drops c = drops-counted

pub returns-clause-clears : goal.returns-clause-clears
returns-clause-clears c = clears-counted

pub returns-clause-purges : goal.returns-clause-purges
returns-clause-purges c = purges-counted
