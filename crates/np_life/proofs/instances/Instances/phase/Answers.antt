use Rattle.std.proofs.Common.{arith, ap, sym, ◌≡◌, ◌∙◌, ◌-◌, ◌<◌, List, length, take, ⊎_elim}
use Rattle.std.proofs.lemmas.List.{get_or-take, length-take-le}
use Rattle.np_life.specs.declared.phase.Phase.{Phase}
use Rattle.np_life.specs.declared.phase.Phase.TheVariants.{Absent}
use Rattle.np_life.proofs.Phases.{begun-phase}
use Rattle.np_life.proofs.instances.Instances.phase.Goals as goal

pub returns-clause-absent : goal.returns-clause-absent
returns-clause-absent c =
    let begun = length-take-le c.self.inside.begun c.self.inside.phases (omega arith) in
    let long : length c.args.self.now ≡ c.self.inside.begun = ap (λ (l : List Phase). length l) (sym c.self.view_is) ∙ begun in
    let below : c.from-2.result - 1 < c.self.inside.begun = omega arith in
    let same = get_or-take c.self.inside.begun c.self.inside.phases (c.from-2.result - 1) Absent below in (
      λ e. absurd (begun-phase (take c.self.inside.begun c.self.inside.phases) (c.from-2.result - 1) c.self.invariant.1 (omega (arith, below, begun)) (same ∙ e)),
      λ e. ⊎_elim (λ z. absurd (omega (arith, z))) (λ l. absurd (omega (arith, l, long))) e,
    )
