use Rattle.std.proofs.Common.{◌∷◌, [], refl, append_assoc, ◌∙◌}
use Rattle.std.specs.Prelude.{decimal}
use Rattle.np_end_lines.specs.ScriptLines.{kind_name}
use Rattle.np_end_lines.proofs.script_lines.script_error_text.Goals as goal

pub returns : goal.returns
returns c = record { text = c.in_ok-format.ensures.ok ∙ rw (c.kind_name-name.ensures.value, append_assoc (decimal c.args.error.line) (32 ∷ []) (kind_name c.args.error.kind), append_assoc (decimal c.args.error.line) (32 ∷ kind_name c.args.error.kind) (10 ∷ [])) refl }
