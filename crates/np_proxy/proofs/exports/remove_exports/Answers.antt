use Rattle.std.proofs.Common.{rules}
use Rattle.std.proofs.lemmas.Fn.{filter_same}
use Rattle.np_proxy.proofs.exports.remove_exports.Goals as goal

pub returns : goal.returns
returns c = record { value = filter_same _ _ _ (λ e b f' r. search rules) _ _ c.retain.ensures.filtered }
