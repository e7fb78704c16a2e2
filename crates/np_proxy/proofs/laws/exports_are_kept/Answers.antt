use Rattle.np_proxy.proofs.MembershipLemmas.{none-out, adds-one, sends-keep, releases-keep, drops-no-other, purges-an-instance, purges-no-other}
use Rattle.np_proxy.proofs.laws.exports_are_kept.Goals as goal

pub returns-clause-none : goal.returns-clause-none
returns-clause-none c = none-out

pub returns-clause-adds : goal.returns-clause-adds
returns-clause-adds c = adds-one

pub returns-clause-sends : goal.returns-clause-sends
returns-clause-sends c = sends-keep

pub returns-clause-releases : goal.returns-clause-releases
returns-clause-releases c = releases-keep

pub returns-clause-drops : goal.returns-clause-drops
returns-clause-drops c = drops-no-other

pub returns-clause-purge : goal.returns-clause-purge
returns-clause-purge c = purges-an-instance

pub returns-clause-others : goal.returns-clause-others
returns-clause-others c = purges-no-other
