use Rattle.std.proofs.Common.{◌≡◌, true, false, Some, Err, ap, rules}
use Rattle.np_script_grammar.specs.Words.{words_of}
use Rattle.np_script_grammar.specs.Order.{counts_after, are_few, declares_twice}
use Rattle.np_script_grammar.specs.Tables.{table_at}
use Rattle.np_script_grammar.specs.Forms.{form_of}
use Rattle.np_script_words.specs.Forms.{form_value}
use Rattle.np_script.proofs.LineKinds.{not-no-word, no-fields, too-much, form-error, limit-error}
use Rattle.np_script.proofs.NoFields.{takes-accepted, takes-fields, not-false, not-true, no-limit, no-second}
use Rattle.np_script.proofs.read.read_words.Goals as goal

pub returns-in-Err-Form : goal.returns-in-Err-Form
returns-in-Err-Form c =
    let table = table_at c.args.side c.args.order.now.place in
    let form = form_value c.in-Some.form in
    let listed : form_of table c.args.word.now ≡ Some form = search rules in
    record { words = (not-no-word table c.args.word.now _ form listed, no-fields table c.args.word.now c.args.rest.now form listed (form-error form c.args.rest.now c.in-Err-Form.field-0 c.in-Err-Form.field-0-is c.in-Err-Form.ensures.value)) }

pub returns-in-Err-Limit : goal.returns-in-Err-Limit
returns-in-Err-Limit c =
    let table = table_at c.args.side c.args.order.now.place in
    let form = form_value c.in-Some.form in
    let listed : form_of table c.args.word.now ≡ Some form = search rules in
    record { words = too-much table c.args.word.now c.args.rest.now form c.args.order.now listed (limit-error form c.args.rest.now c.in-Err-Limit.field-0 c.in-Err-Limit.field-0-is c.in-Err-Limit.ensures.value) }

pub returns-in-Err-NoMemory : goal.returns-in-Err-NoMemory
returns-in-Err-NoMemory c =
    let form = form_value c.in-Some.form in
    let listed : form_of (table_at c.args.side c.args.order.now.place) c.args.word.now ≡ Some form = search rules in
    record { words = takes-fields c.args.side c.args.order.now c.args.word.now (words_of c.args.rest.now) form listed (c.in-Err-NoMemory.ensures.memory (ap Err c.in-Err-NoMemory.field-0-is)) }

pub returns-in-Err-NoMemory-accept : goal.returns-in-Err-NoMemory-accept
returns-in-Err-NoMemory-accept c =
    let form = form_value c.in-Some.form in
    let listed : form_of (table_at c.args.side c.args.order.now.place) c.args.word.now ≡ Some form = search rules in
    let few : are_few (counts_after c.args.order.now.place c.args.order.now.counts (c.args.word.now, c.in-Ok.fields)) ≡ true =
    not-false _ (λ off. no-limit c.in-Err-NoMemory-accept.field-0 c.in-Err-NoMemory-accept.field-0-is (c.in-Err-NoMemory-accept.ensures.limit_only off)) in
    let new : declares_twice c.args.order.now (c.args.word.now, c.in-Ok.fields) ≡ false =
    not-true _ (λ on. no-second c.in-Err-NoMemory-accept.field-0 c.in-Err-NoMemory-accept.field-0-is (c.in-Err-NoMemory-accept.ensures.twice_only few on)) in
    record { words = takes-accepted c.args.side c.args.order.now c.args.word.now (words_of c.args.rest.now) form c.in-Ok.fields listed c.in-Ok.ensures.value.0.0 c.in-Ok.ensures.value.0.1 c.in-Ok.ensures.value.1 few new }

pub returns-in-Err : goal.returns-in-Err
returns-in-Err c =
    let form = form_value c.in-Some.form in
    let listed : form_of (table_at c.args.side c.args.order.now.place) c.args.word.now ≡ Some form = search rules in
    record {
      words = takes-accepted c.args.side c.args.order.now c.args.word.now (words_of c.args.rest.now) form c.in-Ok.fields listed c.in-Ok.ensures.value.0.0 c.in-Ok.ensures.value.0.1 c.in-Ok.ensures.value.1
          c.in-Ok-accept.ensures.fits.0 c.in-Ok-accept.ensures.fits.1;
    }
