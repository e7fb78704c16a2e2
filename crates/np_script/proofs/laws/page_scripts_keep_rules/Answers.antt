use Rattle.np_script.proofs.OneValue.{page-keeps}
use Rattle.np_script.proofs.laws.page_scripts_keep_rules.Goals as goal

pub returns : goal.returns
returns c = record { law = page-keeps c.canonical_pages_are_in_order.ensures.law }
