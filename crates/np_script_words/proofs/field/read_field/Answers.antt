use Rattle.std.proofs.lemmas.Result.{err_from_is_err_and}
use Rattle.np_script_words.proofs.Reading.{operand_field_error, text_field_error, key_field_error}
use Rattle.np_script_words.proofs.field.read_field.Goals as goal

pub returns-in_err-read_operand-in-Operand : goal.returns-in_err-read_operand-in-Operand
returns-in_err-read_operand-in-Operand c =
    let p = err_from_is_err_and c.from_residual.result c.from_residual.ensures.1 in
    record { value = rw (p.1, p.2) (operand_field_error c.args.item c.args.word.now _ c.in-Operand.is c.in_err-read_operand-in-Operand.ensures.value) }

pub returns-in_err-read_text-in-Text : goal.returns-in_err-read_text-in-Text
returns-in_err-read_text-in-Text c =
    let p = err_from_is_err_and c.from_residual-in_err-read_text-in-Text.result c.from_residual-in_err-read_text-in-Text.ensures.1 in
    record { value = rw (p.1, p.2) (text_field_error c.args.item c.args.word.now _ c.in-Text.is c.in_err-read_text-in-Text.ensures.value) }

pub returns-in_err-read_key-in-Identifier : goal.returns-in_err-read_key-in-Identifier
returns-in_err-read_key-in-Identifier c =
    let p = err_from_is_err_and c.from_residual-in_err-read_key-in-Identifier.result c.from_residual-in_err-read_key-in-Identifier.ensures.1 in
    record { value = rw (p.1, p.2) (key_field_error c.args.item c.args.word.now _ c.in-Identifier.is c.in_err-read_key-in-Identifier.ensures.value) }
