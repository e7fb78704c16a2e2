use Rattle.np_proxy.proofs.TakingLemmas.{taking-more}
use Rattle.np_proxy.proofs.proxies.take_up_all.Goals as goal

pub loop-name-preserved : goal.loop-name-preserved
loop-name-preserved c =
    taking-more c.args.purged.now c.args.names.now c.args.proxies.now.items c.loop-name.name-index c.loop-name.proxies.items _ c.loop-name.invariant c.loop-name-test.true _ c.take_up.new.proxies.items _ c.take_up.ensures.value c.take_up.ensures.rising c.take_up.ensures.capacity
