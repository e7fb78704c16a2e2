use Rattle.np_script.proofs.OneValue.{page-of-text}
use Rattle.np_script.proofs.laws.one_canonical_page.Goals as goal

pub returns : goal.returns
returns c = record { law = page-of-text c.one_say.ensures.law c.pages_are_built.ensures.law c.texts_have_their_lines.ensures.law c.canonical_lines_say_pages.ensures.law }
