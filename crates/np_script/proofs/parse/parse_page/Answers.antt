use Rattle.std.proofs.Common.{inl, Ok, ap, ◌∙◌}
use Rattle.np_values.specs.declared.name.Side.TheVariants as sides
use Rattle.np_script.proofs.WholeTexts.{page-given, only-error, ran-out}
use Rattle.np_script.proofs.parse.parse_page.Goals as goal

pub new-requires : goal.new-requires
new-requires c =
    record { rules = (page-given c.built_pages.ensures.law c.canonical_pages_are_in_order.ensures.law c.args.bytes.now c.read_script.new.reader c.page.result c.in-Ok.ensures.script c.page.ensures.value).1 }

pub returns-in-Ok-clause-ok : goal.returns-in-Ok-clause-ok
returns-in-Ok-clause-ok c =
    (page-given c.built_pages.ensures.law c.canonical_pages_are_in_order.ensures.law c.args.bytes.now c.read_script.new.reader c.new.result c.in-Ok.ensures.script (c.new.ensures.same ∙ c.page.ensures.value)).0

pub returns-in-Ok-clause-read : goal.returns-in-Ok-clause-read
returns-in-Ok-clause-read c = λ value is.
    let own = (page-given c.built_pages.ensures.law c.canonical_pages_are_in_order.ensures.law c.args.bytes.now c.read_script.new.reader c.new.result c.in-Ok.ensures.script (c.new.ensures.same ∙ c.page.ensures.value)).0 in
    inl (ap Ok (c.one_page.ensures.law c.args.bytes.now c.new.result value own is))

pub returns-in-Ok-clause-refused_only : goal.returns-in-Ok-clause-refused_only
returns-in-Ok-clause-refused_only c = λ e error.
    let own = (page-given c.built_pages.ensures.law c.canonical_pages_are_in_order.ensures.law c.args.bytes.now c.read_script.new.reader c.new.result c.in-Ok.ensures.script (c.new.ensures.same ∙ c.page.ensures.value)).0 in
    absurd (c.no_page_is_refused.ensures.law c.args.bytes.now c.new.result e own error)

pub returns-in-Err-clause-refused_only : goal.returns-in-Err-clause-refused_only
returns-in-Err-clause-refused_only c = only-error c.one_refusal.ensures.law sides.Page c.args.bytes.now c.read_script.new.reader c.in-Err.error c.in-Err.ensures.script

pub returns-in-Err-clause-memory : goal.returns-in-Err-clause-memory
returns-in-Err-clause-memory c = ran-out sides.Page c.args.bytes.now c.read_script.new.reader c.in-Err.error c.in-Err.ensures.script
