use Rattle.std.proofs.Common.{ℕ, List, ◌++◌, ap, ◌∙◌}
use Rattle.np_script_grammar.specs.Scripts.{canonical_plugin_lines}
use Rattle.np_script_print.proofs.Spaced.{text_is}
use Rattle.np_script_print.proofs.scripts.print_plugin.Goals as goal

pub returns-in-Ok-clause-ok : goal.returns-in-Ok-clause-ok
returns-in-Ok-clause-ok c =
    c.in-Ok.ensures.ok ∙ ap (λ (l : List ℕ). c.args.out.now.items ++ l) (text_is (canonical_plugin_lines c.args.plugin.now))
