use Rattle.std.proofs.Common.{◌≡◌, ◌<◌, length, arith, refl, rules}
use Rattle.std.proofs.lemmas.Bool.Decides.{nat_tests}
use Rattle.std.proofs.lemmas.Result.{err_from_is_err_and}
use Rattle.np_script_words.specs.Forms.{form_value}
use Rattle.np_script_words.proofs.FormReading.{first_error, group_read}
use Rattle.np_script_words.proofs.FormEnds.{no_group, group_error, not_enough, past_limits, within_limits}
use Rattle.np_script_words.proofs.fields.read_fields.Goals as goal

pub returns-in_err-left : goal.returns-in_err-left
returns-in_err-left c =
    let p = err_from_is_err_and c.from_residual.result c.from_residual.ensures.1 in
    let reading = c.take_items.new.reading in
    record { value = rw (p.1, p.2) (first_error (form_value c.args.form) c.args.rest.now reading reading _ c.in_err-left.ensures.value) }

pub returns-then-is_empty : goal.returns-then-is_empty
returns-then-is_empty c =
    let none : length c.args.form.group.now ≡ 0 = grind (arith, nat_tests) in
    record { value = no_group (form_value c.args.form) c.args.rest.now c.loop-left.left.now c.loop-left.reading c.loop-left.groups c.loop-left.invariant (c.has_word.ensures.yes c.loop-left-test.true) none }

pub returns-in_err-left-2 : goal.returns-in_err-left-2
returns-in_err-left-2 c =
    let p = err_from_is_err_and c.from_residual-in_err-left-2.result c.from_residual-in_err-left-2.ensures.1 in
    let before = c.loop-left.reading in
    record { value = rw (p.1, p.2) (group_error (form_value c.args.form) c.args.rest.now c.loop-left.left.now before before before c.loop-left.groups _ c.loop-left.invariant (c.has_word.ensures.yes c.loop-left-test.true) c.in_err-left-2.ensures.value) }

pub loop-left-preserved : goal.loop-left-preserved
loop-left-preserved c =
    let taken = c.in_ok-left-2.ensures.value in
    let some : 0 < length c.args.form.group.now = grind (arith, nat_tests) in
    group_read (form_value c.args.form) c.args.rest.now c.loop-left.left.now c.in_ok-left-2.left.now c.loop-left.reading _ _ c.loop-left.groups taken.0 c.loop-left.invariant taken.1 refl c.passes.ensures.value taken.2 some (c.in_ok-left-2.ensures.shorter some)

pub returns-then-not-has_enough : goal.returns-then-not-has_enough
returns-then-not-has_enough c =
    let few = c.has_enough.ensures.no (search rules) in
    record { value = not_enough (form_value c.args.form) c.args.rest.now c.loop-left.left.now c.loop-left.reading c.loop-left.groups c.loop-left.invariant (c.has_word.ensures.no c.loop-left-test.false) few.0 few.1 }

pub returns-then-reading : goal.returns-then-reading
returns-then-reading c =
    record { value = past_limits (form_value c.args.form) c.args.rest.now c.loop-left.left.now c.loop-left.reading c.loop-left.groups c.loop-left.invariant (c.has_word.ensures.no c.loop-left-test.false) (c.has_enough.ensures.yes (search rules)) (search rules) }

pub returns : goal.returns
returns c =
    record { value = within_limits (form_value c.args.form) c.args.rest.now c.loop-left.left.now c.loop-left.reading c.loop-left.groups c.loop-left.invariant (c.has_word.ensures.no c.loop-left-test.false) (c.has_enough.ensures.yes (search rules)) (search rules) }
