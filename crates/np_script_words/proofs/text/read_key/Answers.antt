use Rattle.std.proofs.Common.{refl}
use Rattle.std.proofs.lemmas.Result.{err_from_is_err_and}
use Rattle.np_script_words.proofs.Reading.{key_error}
use Rattle.np_script_words.proofs.text.read_key.Goals as goal

pub returns-in_err-read_id_text : goal.returns-in_err-read_id_text
returns-in_err-read_id_text c =
    let p = err_from_is_err_and c.from_residual.result c.from_residual.ensures.1 in
    record { value = rw (p.1, p.2) (key_error c.args.word.now _ (c.in_default.ensures.none refl) c.in_err-read_id_text.ensures.value) }
