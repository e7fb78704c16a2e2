use Rattle.np_end_stops.specs.declared.ending.Ending.TheVariants.{Done, Unsent, Ended, Failed, Refused}
use Rattle.std.proofs.lemmas.Result.{on_ok_weaker, on_err_weaker}
use Rattle.np_host.proofs.Closings.{closed-page, closed-loss}
use Rattle.np_host.proofs.ClosingCuts.{page-part, loss-part, losing-part}
use Rattle.np_end_stops.proofs.Stops.{on-stop}
use Rattle.np_host.proofs.session.close.Goals as goal

pub returns-in-Done-clause-closed : goal.returns-in-Done-clause-closed
returns-in-Done-clause-closed g c = on_ok_weaker c.finish.result (λ adds. closed-page _ _ c.args.end.now c.args.ending Done c.in-Done.is tt adds) c.finish.ensures.printed

pub returns-in-Unsent-clause-closed : goal.returns-in-Unsent-clause-closed
returns-in-Unsent-clause-closed g c = on_ok_weaker c.finish-in-Unsent.result (λ adds. closed-page _ _ c.args.end.now c.args.ending Unsent c.in-Unsent.is tt adds) c.finish-in-Unsent.ensures.printed

pub returns-in_ok-lose-in-Ended-clause-closed : goal.returns-in_ok-lose-in-Ended-clause-closed
returns-in_ok-lose-in-Ended-clause-closed g c = on_ok_weaker c.finish-in-Ended.result (λ adds. closed-loss _ _ _ c.args.end.now c.args.ending Ended c.in-Ended.is tt c.in_ok-lose-in-Ended.ensures.lost adds) c.finish-in-Ended.ensures.printed

pub returns-in_ok-lose-in-Failed-clause-closed : goal.returns-in_ok-lose-in-Failed-clause-closed
returns-in_ok-lose-in-Failed-clause-closed g c = on_ok_weaker c.finish-in-Failed.result (λ adds. closed-loss _ _ _ c.args.end.now c.args.ending Failed c.in-Failed.is tt c.in_ok-lose-in-Failed.ensures.lost adds) c.finish-in-Failed.ensures.printed

pub returns-in_ok-lose-in-Refused-clause-closed : goal.returns-in_ok-lose-in-Refused-clause-closed
returns-in_ok-lose-in-Refused-clause-closed g c = on_ok_weaker c.finish_refused.result (λ adds. closed-loss _ _ _ c.args.end.now c.args.ending (Refused c.in-Refused.refusal) c.in-Refused.is tt c.in_ok-lose-in-Refused.ensures.lost adds) c.finish_refused.ensures.printed

pub returns-in-Done-clause-cut : goal.returns-in-Done-clause-cut
returns-in-Done-clause-cut g c = on_err_weaker c.finish.result (λ adds. page-part _ _ c.args.end.now c.args.ending Done c.in-Done.is tt adds) c.finish.ensures.part

pub returns-in-Unsent-clause-cut : goal.returns-in-Unsent-clause-cut
returns-in-Unsent-clause-cut g c = on_err_weaker c.finish-in-Unsent.result (λ adds. page-part _ _ c.args.end.now c.args.ending Unsent c.in-Unsent.is tt adds) c.finish-in-Unsent.ensures.part

pub returns-in_ok-lose-in-Ended-clause-cut : goal.returns-in_ok-lose-in-Ended-clause-cut
returns-in_ok-lose-in-Ended-clause-cut g c = on_err_weaker c.finish-in-Ended.result (λ adds. loss-part _ _ _ c.args.end.now c.args.ending Ended c.in-Ended.is tt c.in_ok-lose-in-Ended.ensures.lost adds) c.finish-in-Ended.ensures.part

pub returns-in_err-lose-in-Ended-clause-cut : goal.returns-in_err-lose-in-Ended-clause-cut
returns-in_err-lose-in-Ended-clause-cut g c = on-stop c.from_residual.result _ (losing-part _ _ c.args.end.now c.args.ending Ended c.in-Ended.is tt c.in_err-lose-in-Ended.ensures.cut)

pub returns-in_ok-lose-in-Failed-clause-cut : goal.returns-in_ok-lose-in-Failed-clause-cut
returns-in_ok-lose-in-Failed-clause-cut g c = on_err_weaker c.finish-in-Failed.result (λ adds. loss-part _ _ _ c.args.end.now c.args.ending Failed c.in-Failed.is tt c.in_ok-lose-in-Failed.ensures.lost adds) c.finish-in-Failed.ensures.part

pub returns-in_err-lose-in-Failed-clause-cut : goal.returns-in_err-lose-in-Failed-clause-cut
returns-in_err-lose-in-Failed-clause-cut g c = on-stop c.from_residual-in_err-lose-in-Failed.result _ (losing-part _ _ c.args.end.now c.args.ending Failed c.in-Failed.is tt c.in_err-lose-in-Failed.ensures.cut)

pub returns-in_ok-lose-in-Refused-clause-cut : goal.returns-in_ok-lose-in-Refused-clause-cut
returns-in_ok-lose-in-Refused-clause-cut g c = on_err_weaker c.finish_refused.result (λ adds. loss-part _ _ _ c.args.end.now c.args.ending (Refused c.in-Refused.refusal) c.in-Refused.is tt c.in_ok-lose-in-Refused.ensures.lost adds) c.finish_refused.ensures.part

pub returns-in_err-lose-in-Refused-clause-cut : goal.returns-in_err-lose-in-Refused-clause-cut
returns-in_err-lose-in-Refused-clause-cut g c = on-stop c.from_residual-in_err-lose-in-Refused.result _ (losing-part _ _ c.args.end.now c.args.ending (Refused c.in-Refused.refusal) c.in-Refused.is tt c.in_err-lose-in-Refused.ensures.cut)
