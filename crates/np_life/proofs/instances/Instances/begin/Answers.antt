use Rattle.std.proofs.Common.{refl, arith, ◌++◌, [], ◌∷◌, take, subst, ap, ◌∙◌, sym}
use Rattle.std.proofs.lemmas.List.{take_more_set}
use Rattle.np_life.specs.declared.phase.Phase.TheVariants.{Live}
use Rattle.np_life.specs.Instances.{NeverGoBack}
use Rattle.np_life.proofs.Phases.{begun-push, order-push}
use Rattle.np_life.proofs.instances.Instances.begin.Goals as goal

pub invariant_of-self : goal.invariant_of-self
invariant_of-self c =
    let more = take_more_set c.self.inside.phases c.self.inside.begun Live (omega arith) in
    (omega arith, rw more (begun-push (take c.self.inside.begun c.self.inside.phases) Live c.self.invariant.1 refl))

pub returns-clause-order : goal.returns-clause-order
returns-clause-order c =
    let more = take_more_set c.self.inside.phases c.self.inside.begun Live (omega arith) in
    subst (λ l. NeverGoBack c.args.self.now l) (ap (λ l. l ++ Live ∷ []) (sym c.self.view_is) ∙ sym more) (order-push c.args.self.now)
