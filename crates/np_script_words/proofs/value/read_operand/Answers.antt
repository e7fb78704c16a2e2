use Rattle.std.proofs.Common.{refl}
use Rattle.std.proofs.lemmas.Result.{err_from_is_err_and}
use Rattle.np_script_words.proofs.Reading.{operand_error}
use Rattle.np_script_words.proofs.value.read_operand.Goals as goal

pub returns-in_err-read_value : goal.returns-in_err-read_value
returns-in_err-read_value c =
    let p = err_from_is_err_and c.from_residual.result c.from_residual.ensures.1 in
    record { value = rw (p.1, p.2) (operand_error c.args.word.now _ (c.in_default.ensures.none refl) c.in_err-read_value.ensures.value) }
