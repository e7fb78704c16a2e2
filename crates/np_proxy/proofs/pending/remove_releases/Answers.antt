use Rattle.std.proofs.Common.{rules}
use Rattle.std.proofs.lemmas.Fn.{filter_same}
use Rattle.np_proxy.proofs.pending.remove_releases.Goals as goal

pub returns-clause-value : goal.returns-clause-value
returns-clause-value c = filter_same _ _ _ (λ e b f' r. search rules) _ _ c.retain.ensures.filtered
