use Rattle.std.proofs.Common.{List, ap, ◌∙◌}
use Rattle.std.specs.List.{filter}
use Rattle.np_proxy.specs.declared.export.Export.{Export}
use Rattle.np_proxy.specs.Exports.{Exported, export_name, is_of_other_instance}
use Rattle.np_proxy.proofs.Finding.{rising-filter}
use Rattle.np_proxy.proofs.ExportLemmas.{joined}
use Rattle.np_proxy.proofs.exports.Exports.purge.Goals as goal

pub invariant_of-self : goal.invariant_of-self
invariant_of-self c = rw c.remove_exports.ensures.value (rising-filter export_name (is_of_other_instance c.args.instance) c.self.inside.objects.items c.self.invariant)

pub returns : goal.returns
returns c =
    record { value = joined c.self.inside.side _ _ _ c.args.self.now c.self.view_is (c.remove_exports.ensures.value ∙ ap (λ (l : List Export). filter (is_of_other_instance c.args.instance) l) (ap (λ (e : Exported). e.objects) c.self.view_is)) }
