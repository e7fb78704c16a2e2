use Rattle.std.specs.Vec.{vec_capacity}
use Rattle.np_proxy.proofs.TakingLemmas.{IsTaking}
use Rattle.np_proxy.proofs.proxies.take_up_all.Given as goal

abbrev pub invariant-loop-name : goal.invariant-loop-name
invariant-loop-name l = IsTaking l.purged l.names l.fn.proxies.items l.name-index l.proxies.items (vec_capacity l.proxies)
