use Rattle.std.proofs.Common.{arith, ◌∙◌, ◌≡◌, ap, subst, length, IfOk}
use Rattle.np_machine.specs.Values.{read_at}
use Rattle.np_side_places.proofs.ValueLists.{read-past, read-get}
use Rattle.np_side_places.proofs.lists.copy_at.Goals as goal

pub returns-then-values-place : goal.returns-then-values-place
returns-then-values-place c =
    let l = ap length c.as_slice-values.ensures.same in
    record { value = read-past c.args.place c.args.values.now (omega arith) }

pub returns : goal.returns
returns c =
    let v = c.index-values-place.result in
    let l = ap length c.as_slice-values.ensures.same in
    let e : v ≡ read_at c.args.place c.args.values.now = c.index-values-place.is ∙ read-get c.args.place v c.as_slice-values.result.now (omega arith) ∙ ap (read_at c.args.place) c.as_slice-values.ensures.same in
    record { value = subst (λ w. IfOk c.try_copy.result (λ copy. copy ≡ w)) e c.try_copy.ensures.value }
