use Rattle.std.proofs.Common.{arith, ◌∙◌}
use Rattle.np_side_places.proofs.ValueLists.{old-past, put-past, put-set, old-get}
use Rattle.np_side_places.proofs.lists.put_at.Goals as goal

pub returns-then-len-place-clause-list : goal.returns-then-len-place-clause-list
returns-then-len-place-clause-list c = put-past c.args.place c.args.value c.args.values.now (omega arith)

pub returns-then-len-place-clause-value : goal.returns-then-len-place-clause-value
returns-then-len-place-clause-value c = old-past c.args.place c.args.value c.args.values.now (omega arith)

pub returns-clause-list : goal.returns-clause-list
returns-clause-list c = c.replace.ensures.list ∙ put-set c.args.place c.args.value c.args.values.now

pub returns-clause-value : goal.returns-clause-value
returns-clause-value c = c.replace.ensures.value ∙ old-get c.args.place c.args.value c.replace.result c.args.values.now (omega arith)
