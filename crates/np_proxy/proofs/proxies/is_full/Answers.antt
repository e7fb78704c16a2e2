use Rattle.std.proofs.Common.{◌∙◌, sym}
use Rattle.np_proxy.proofs.ImportLemmas.{full-is}
use Rattle.np_proxy.proofs.proxies.is_full.Goals as goal

pub returns : goal.returns
returns c = record { value = full-is c.args.purged.now c.args.releases.now c.args.name c.args.before.now c.args.proxies.now c.from.result c.count_of.result c.from-2.result (sym c.is_purged.ensures.value ∙ c.if-is_purged.false) (c.from.ensures ∙ c.received.ensures.value) c.count_of.ensures.value (c.from-2.ensures ∙ c.pending_times.ensures.value) }
