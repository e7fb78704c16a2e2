use Rattle.std.proofs.lemmas.Result.{on_ok_weaker, on_err_weaker}
use Rattle.np_host.proofs.Closings.{loses}
use Rattle.np_host.proofs.ClosingCuts.{loses-nothing, loses-part}
use Rattle.np_end_stops.proofs.Stops.{on-stop}
use Rattle.np_host.proofs.session.lose.Goals as goal

pub returns-clause-lost : goal.returns-clause-lost
returns-clause-lost g c = on_ok_weaker c.print_journal.result (λ adds. loses _ _ c.args.end.now c.gone.new.self c.run.new.self c.gone.ensures.lost c.in_ok-run.ensures.keeps_lost c.in_ok-run.ensures.lost adds) c.print_journal.ensures.taken

pub returns-clause-cut : goal.returns-clause-cut
returns-clause-cut g c = on_err_weaker c.print_journal.result (λ adds. loses-part c.lost_law.ensures.law c.journal_law.ensures.law _ _ c.args.end.now c.gone.new.self c.run.new.self c.gone.ensures.lost c.in_ok-run.ensures.keeps_lost adds) c.print_journal.ensures.part

pub returns-in_err-run-clause-cut : goal.returns-in_err-run-clause-cut
returns-in_err-run-clause-cut g c = on-stop c.from_residual.result _ (loses-nothing c.lost_law.ensures.law c.journal_law.ensures.law _ c.args.end.now)
