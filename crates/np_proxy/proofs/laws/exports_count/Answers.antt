use Rattle.np_proxy.proofs.CountLemmas.{sends-count, releases-count, added-count}
use Rattle.np_proxy.proofs.laws.exports_count.Goals as goal

pub returns-clause-sends : goal.returns-clause-sends
returns-clause-sends c = sends-count

pub returns-clause-releases : goal.returns-clause-releases
returns-clause-releases c = releases-count

pub returns-clause-added : goal.returns-clause-added
returns-clause-added c = added-count
