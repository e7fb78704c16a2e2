use Rattle.std.proofs.Common.{◌≡◌, true, sym, subst, List, take}
use Rattle.np_values.specs.declared.name.Name.{Name}
use Rattle.np_proxy.specs.Imports.{are_others}
use Rattle.np_proxy.proofs.NameLemmas.{names-are-others}
use Rattle.np_proxy.proofs.incoming.Incoming.new.Goals as goal

pub invariant_of-result : goal.invariant_of-result
invariant_of-result c =
    subst (λ (names : List Name). are_others c.args.side names ≡ true) (sym c.loop-value.invariant) (names-are-others c.args.side (take c.loop-value.value-index c.args.values.now))
