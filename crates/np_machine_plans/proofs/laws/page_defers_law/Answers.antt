use Rattle.np_machine_plans.proofs.PageDeferrals.{defers-at-most-one}
use Rattle.np_machine_plans.proofs.laws.page_defers_law.Goals as goal

pub returns : goal.returns
returns c = record { law = λ page got turns. defers-at-most-one (λ remote plan p. c.delivered_law.ensures.law remote plan p) page got turns }
