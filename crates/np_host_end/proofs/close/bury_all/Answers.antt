use Rattle.std.proofs.Common.{◌∙◌, length, refl}
use Rattle.std.proofs.lemmas.Simd.{splat_is_map}
use Rattle.np_model.specs.declared.page.Phase.TheVariants.{Dead}
use Rattle.np_host_end.proofs.close.bury_all.Goals as goal

pub returns : goal.returns
returns c = record { value = c.fill.ensures.after (λ y h. h) ∙ splat_is_map c.args.phases.now (length c.args.phases.now) Dead refl }
