use Rattle.np_model.specs.Alone.{page_role}
use Rattle.np_end_stops.proofs.Reasons.{ending-reason}
use Rattle.np_end_stops.proofs.Stops.{on-stop}
use Rattle.np_exchange.proofs.Limits.{gave-nothing}
use Rattle.np_exchange.proofs.Sessions.{session-ends, talk-cut, close-cut, is-run-status}
use Rattle.np_host.specs.Outcomes.{OutcomeOf}
use Rattle.np_host.proofs.session.session.Goals as goal

pub returns-clause-outcome : goal.returns-clause-outcome
returns-clause-outcome g c = session-ends page_role OutcomeOf c.args.page _ _ _ _ _ c.in_ok-end.end c.talk.new.end c.in_ok-ending.ending c.in_ok-status.status c.in_ok-end.ensures.stands c.in_ok-ending.ensures.talked c.in_ok-status.ensures.closed c.in_ok-status.ensures.status

pub returns-clause-status : goal.returns-clause-status
returns-clause-status g c = is-run-status c.in_ok-ending.ending c.in_ok-status.status c.in_ok-status.ensures.status

pub returns-in_err-ending-clause-cut : goal.returns-in_err-ending-clause-cut
returns-in_err-ending-clause-cut g c = on-stop c.from_residual-in_err-ending.result _ (talk-cut page_role OutcomeOf _ _ c.args.page _ _ _ _ c.in_ok-end.end c.in_ok-end.ensures.stands c.in_err-ending.ensures.cut)

pub returns-in_err-status-clause-cut : goal.returns-in_err-status-clause-cut
returns-in_err-status-clause-cut g c = on-stop c.from_residual-in_err-status.result _ (close-cut page_role OutcomeOf _ _ c.args.page _ _ _ _ _ c.in_ok-end.end c.talk.new.end c.in_ok-ending.ending c.in_ok-end.ensures.stands c.in_ok-ending.ensures.talked (ending-reason _ _ _ c.in_ok-ending.ending c.in_ok-ending.ensures.peer.failed c.in_ok-ending.ensures.ended) c.in_err-status.ensures.cut)

pub returns-in_err-end-clause-read_limit : goal.returns-in_err-end-clause-read_limit
returns-in_err-end-clause-read_limit g c = gave-nothing _ _
