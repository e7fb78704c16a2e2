use Rattle.np_script.proofs.OneValue.{one-page-of}
use Rattle.np_script.proofs.laws.one_page.Goals as goal

pub returns : goal.returns
returns c = record { law = one-page-of c.one_say.ensures.law c.pages_are_built.ensures.law }
