use Rattle.np_script.proofs.OneValue.{page-is-script}
use Rattle.np_script.proofs.laws.canonical_pages_are_scripts.Goals as goal

pub returns : goal.returns
returns c = record { law = page-is-script c.texts_have_their_lines.ensures.law c.canonical_lines_say_pages.ensures.law }
