use Rattle.std.proofs.Common.{refl}
use Rattle.std.proofs.lemmas.Result.{err_from_is_err_and}
use Rattle.np_script_words.proofs.Reading.{value_error}
use Rattle.np_script_words.proofs.value.read_value.Goals as goal

pub returns-in_err-read_text : goal.returns-in_err-read_text
returns-in_err-read_text c =
    let p = err_from_is_err_and c.from_residual.result c.from_residual.ensures.1 in
    record { value = rw (p.1, p.2) (value_error c.args.word.now _ (c.in_default.ensures.none refl) c.in_err-read_text.ensures.value) }
