use Rattle.std.proofs.Common.{◌≡◌, drop, map}
use Rattle.np_script_grammar.specs.Forms.{form_of}
use Rattle.np_script_words.specs.Forms.{row_value}
use Rattle.np_script_words.proofs.table.form_among.Given as goal

abbrev pub invariant-loop-row : goal.invariant-loop-row
invariant-loop-row l = form_of (map row_value (drop l.row-index l.rows)) l.word ≡ form_of (map row_value l.rows) l.word
