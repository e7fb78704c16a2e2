use Rattle.np_script_line_laws.proofs.Canonical.{page_is_said}
use Rattle.np_script_line_laws.proofs.laws.canonical_lines_say_pages.Goals as goal

pub returns : goal.returns
returns c = record { law = page_is_said }
