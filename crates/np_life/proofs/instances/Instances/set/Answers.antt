use Rattle.std.proofs.Common.{arith, sym, List, subst}
use Rattle.np_life.specs.declared.phase.Phase.{Phase}
use Rattle.np_life.specs.Instances.{NeverGoBack}
use Rattle.np_life.proofs.Phases.{number-within, at-within, edited, edited-begun, begun-next, order-set}
use Rattle.np_life.proofs.instances.Instances.set.Goals as goal

pub overflow_sub-phase : goal.overflow_sub-phase
overflow_sub-phase c = let n = number-within c.args.self.now c.args.instance c.requires.begun in omega (arith, n.0, c.from.ensures)

pub bounds-self-inside-from : goal.bounds-self-inside-from
bounds-self-inside-from c =
    let n = at-within _ _ _ c.args.instance c.from.result c.self.view_is (omega arith) c.from.ensures c.requires.begun in
    omega (arith, n.1)

pub invariant_of-self : goal.invariant_of-self
invariant_of-self c =
    let n = at-within _ _ _ c.args.instance c.from.result c.self.view_is (omega arith) c.from.ensures c.requires.begun in
    let e = edited c.self.inside.phases _ c.self.inside.begun c.args.instance c.from.result c.args.phase c.self.view_is c.from.ensures n.1 in
    (omega arith, rw e (edited-begun _ _ c.self.inside.begun c.args.instance c.args.phase c.self.view_is c.self.invariant.1 (begun-next _ c.args.phase c.requires.begun c.requires.follows)))

pub returns-clause-value : goal.returns-clause-value
returns-clause-value c =
    let n = at-within _ _ _ c.args.instance c.from.result c.self.view_is (omega arith) c.from.ensures c.requires.begun in
    edited c.self.inside.phases _ c.self.inside.begun c.args.instance c.from.result c.args.phase c.self.view_is c.from.ensures n.1

pub returns-clause-order : goal.returns-clause-order
returns-clause-order c =
    let n = at-within _ _ _ c.args.instance c.from.result c.self.view_is (omega arith) c.from.ensures c.requires.begun in
    let e = edited c.self.inside.phases _ c.self.inside.begun c.args.instance c.from.result c.args.phase c.self.view_is c.from.ensures n.1 in
    subst (λ (l : List Phase). NeverGoBack c.args.self.now l) (sym e) (order-set _ c.args.instance c.args.phase c.requires.begun c.requires.follows)
