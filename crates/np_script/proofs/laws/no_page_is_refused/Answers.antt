use Rattle.np_script.proofs.OneValue.{page-not-refused}
use Rattle.np_script.proofs.laws.no_page_is_refused.Goals as goal

pub returns : goal.returns
returns c = record { law = page-not-refused c.refused_texts_are_no_scripts.ensures.law }
