use Rattle.std.proofs.Common.{◌++◌, ◌∷◌, [], arith, refl}
use Rattle.std.proofs.lemmas.Result.{err_from_is_err_and}
use Rattle.np_script_words.proofs.ItemReading.{too_few, one_more, after-append, items_error}
use Rattle.np_script_words.proofs.fields.take_items.Goals as goal

pub returns-in_default-clause-value : goal.returns-in_default-clause-value
returns-in_default-clause-value c =
    let before = c.loop-item.invariant in
    too_few c.args.items.now c.loop-item.item-index _ before.read _ before.begins (c.in_default.ensures.none.0 refl) (omega arith)

pub returns-in_err-take_field-clause-value : goal.returns-in_err-take_field-clause-value
returns-in_err-take_field-clause-value c =
    let before = c.loop-item.invariant in
    let p = err_from_is_err_and c.from_residual.result c.from_residual.ensures.1 in
    rw (p.1, p.2) (items_error c.args.items.now c.loop-item.item-index _ c.args.line.now c.in-Some.word.now c.in-Some.behind.now c.loop-item.left.now before.read c.args.reading.now c.loop-item.reading c.take_field.new.reading _ before.begins c.in-Some.ensures.words (omega arith) c.in_err-take_field.ensures.value)

pub loop-item-preserved : goal.loop-item-preserved
loop-item-preserved c =
    let before = c.loop-item.invariant in
    let taken = c.in_ok-take_field.ensures.value in
    record {
      read = before.read ++ taken.0 ∷ [];
      begins = one_more c.args.items.now c.loop-item.item-index _ _ before.read c.in-Some.word.now _ _ taken.0 before.begins c.in-Some.ensures.words (omega arith) taken.1;
      after = after-append c.args.reading.now c.loop-item.reading _ before.read (taken.0 ∷ []) before.after taken.2;
      within = omega (arith, c.in-Some.ensures.shorter);
      shorter = λ some. omega (arith, c.in-Some.ensures.shorter);
    }
