use Rattle.np_script.proofs.OneValue.{page-keeps}
use Rattle.np_script.proofs.laws.page_scripts_keep_limits.Goals as goal

pub returns : goal.returns
returns c = record { law = λ bytes page is. c.pages_keep_limits.ensures.law page (page-keeps c.canonical_pages_are_in_order.ensures.law bytes page is) }
