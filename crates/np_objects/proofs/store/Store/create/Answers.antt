use Rattle.std.proofs.Common.{◌∙◌, refl, arith}
use Rattle.np_objects.proofs.Keeping.{kept-create, unused, next-unused}
use Rattle.np_objects.proofs.store.Store.create.Goals as goal

pub returns-then-len-eq-MAX_OBJECTS-clause-unused : goal.returns-then-len-eq-MAX_OBJECTS-clause-unused
returns-then-len-eq-MAX_OBJECTS-clause-unused c =
    next-unused c.self.inside.side c.self.inside.instances c.self.inside.live c.args.instance c.args.self.now c.self.invariant c.self.view_is

pub insert-requires : goal.insert-requires
insert-requires c = record { absent = unused c.self.inside.side c.self.inside.instances c.self.inside.live _ (omega arith) c.self.invariant.named }

pub returns-in_err-insert-clause-unused : goal.returns-in_err-insert-clause-unused
returns-in_err-insert-clause-unused c =
    next-unused c.self.inside.side c.self.inside.instances c.self.inside.live c.args.instance c.args.self.now c.self.invariant c.self.view_is

pub invariant_of-self-2 : goal.invariant_of-self-2
invariant_of-self-2 c =
    kept-create c.self.inside.side c.self.inside.instances c.self.inside.live c.insert.new.self c.args.instance c.args.class _ _ (omega arith)
    (λ e. c.if-len-eq-MAX_OBJECTS.false (c.len.ensures.value ∙ e))
    refl refl c.in_ok-insert.ensures.ok c.self.invariant

pub returns-clause-unused : goal.returns-clause-unused
returns-clause-unused c =
    next-unused c.self.inside.side c.self.inside.instances c.self.inside.live c.args.instance c.args.self.now c.self.invariant c.self.view_is
