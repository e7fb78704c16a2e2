use Rattle.std.proofs.Common.{◌∙◌, ap, arith, Bool}
use Rattle.std.specs.Prelude.{◌/◌, if◌then◌else◌}
use Rattle.np_values.specs.Name.{is_before}
use Rattle.np_name_search.proofs.NumberLemmas.{less-is-before}
use Rattle.np_name_search.proofs.Halving.{step, last}
use Rattle.np_name_search.proofs.search.count_before.Goals as goal

pub loop-size-preserved : goal.loop-size-preserved
loop-size-preserved g c =
    let less = less-is-before (g.T.Named.name_of c.index-entries-base.result) c.args.name c.number.result c.number_of-number.result c.number.ensures.typed c.number_of-number.ensures.typed c.number.ensures.value c.number_of-number.ensures.value in
    step (λ e. is_before (g.T.Named.name_of e) c.args.name) c.args.entries.now c.requires.partitioned c.loop-size.base c.loop-size.size c.count_if_less-base.result c.index-entries-base.result c.loop-size.invariant (omega arith) c.index-entries-base.is (c.count_if_less-base.ensures.value ∙ ap (λ (b : Bool). if b then (c.loop-size.size / 2) else 0) less)

pub returns-clause-within : goal.returns-clause-within
returns-clause-within g c =
    let less = less-is-before (g.T.Named.name_of c.index-entries-base-2.result) c.args.name c.number-2.result c.number_of-number.result c.number-2.ensures.typed c.number_of-number.ensures.typed c.number-2.ensures.value c.number_of-number.ensures.value in
    (last (λ e. is_before (g.T.Named.name_of e) c.args.name) c.args.entries.now c.requires.partitioned c.loop-size.base c.loop-size.size c.count_if_less.result c.index-entries-base-2.result c.loop-size.invariant c.loop-size-test.false c.index-entries-base-2.is (c.count_if_less.ensures.value ∙ ap (λ (b : Bool). if b then 1 else 0) less)).0

pub returns-clause-parts : goal.returns-clause-parts
returns-clause-parts g c =
    let less = less-is-before (g.T.Named.name_of c.index-entries-base-2.result) c.args.name c.number-2.result c.number_of-number.result c.number-2.ensures.typed c.number_of-number.ensures.typed c.number-2.ensures.value c.number_of-number.ensures.value in
    (last (λ e. is_before (g.T.Named.name_of e) c.args.name) c.args.entries.now c.requires.partitioned c.loop-size.base c.loop-size.size c.count_if_less.result c.index-entries-base-2.result c.loop-size.invariant c.loop-size-test.false c.index-entries-base-2.is (c.count_if_less.ensures.value ∙ ap (λ (b : Bool). if b then 1 else 0) less)).1
