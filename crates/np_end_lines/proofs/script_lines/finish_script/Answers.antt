use Rattle.std.proofs.Common.{List, ℕ, subst, ◌∙◌}
use Rattle.std.specs.Prelude.{OnOk}
use Rattle.np_end_stops.specs.Causes.{Adds}
use Rattle.np_end_lines.proofs.script_lines.finish_script.Goals as goal

pub returns-in-Ok-clause-printed : goal.returns-in-Ok-clause-printed
returns-in-Ok-clause-printed g c = subst (λ (l : List ℕ). OnOk c.print_line.result (Adds (g.O.Sink.taken c.args.out.now) (g.O.Sink.taken c.print_line.new.out) l)) (c.as_str.ensures.value ∙ c.in-Ok.ensures.text) c.print_line.ensures.printed
