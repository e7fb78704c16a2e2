use Rattle.std.proofs.Common.{ap, sym, ◌∙◌, arith, rules}
use Rattle.std.specs.Str.{bytes_eq}
use Rattle.np_script_words.proofs.Rows.{row_found, row_passed}
use Rattle.np_script_words.proofs.table.form_among.Goals as goal

pub returns-then-eq : goal.returns-then-eq
returns-then-eq c = record { value = row_found c.args.rows.now c.loop-row.row-index _ c.args.word.now (omega arith) c.loop-row.invariant (search rules) }

pub loop-row-preserved : goal.loop-row-preserved
loop-row-preserved c = row_passed c.args.rows.now c.loop-row.row-index _ c.args.word.now (omega arith) c.loop-row.invariant (ap (bytes_eq c.args.word.now) (sym c.as_bytes.ensures.value) ∙ sym c.eq.ensures ∙ c.if-eq.false)
