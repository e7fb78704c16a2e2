use Rattle.std.proofs.Common.{◌∙◌, sym}
use Rattle.np_proxy.proofs.TakingLemmas.{looking-more}
use Rattle.np_proxy.proofs.ImportLemmas.{not-false}
use Rattle.np_proxy.proofs.proxies.first_full.Goals as goal

pub loop-place-preserved : goal.loop-place-preserved
loop-place-preserved c =
    c.loop-place.invariant ∙ looking-more c.args.purged.now c.args.releases.now c.args.names.now c.args.proxies.now c.loop-place.place c.loop-place-test.true _ (not-false _ (sym c.is_full.ensures.value ∙ c.if-is_full.false))
