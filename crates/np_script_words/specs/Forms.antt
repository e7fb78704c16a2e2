-- The forms of the code as those of the grammar.
use Rattle.std.specs.Prelude.{ℕ, List}
use Rattle.np_script_grammar.specs.Forms.{Form as GrammarForm}
use Rattle.np_script_words.specs.declared.form.Form.{Form}
use Rattle.np_script_words.specs.declared.table.Row.{Row}

-- a form, as the grammar has it
abbrev pub form_value : Form → GrammarForm
form_value form = record { items = form.items.now; group = form.group.now; least = form.least; most = form.most }

-- a row, as the grammar's tables have it
abbrev pub row_value : Row → List ℕ × GrammarForm
row_value row = (row.word.now, form_value row.form)
