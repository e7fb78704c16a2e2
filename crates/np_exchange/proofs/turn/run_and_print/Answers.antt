use Rattle.std.proofs.Common.{inr}
use Rattle.np_end_stops.proofs.Stops.{on-stop}
use Rattle.np_exchange.proofs.turn.run_and_print.Goals as goal

pub returns-in_err-print_journal-clause-cut : goal.returns-in_err-print_journal-clause-cut
returns-in_err-print_journal-clause-cut g c = on-stop c.from_residual-in_err-print_journal.result _ (inr (g.E.Endpoint.seen c.run.new.self, c.in_ok-halt.ensures.keeps, c.in_err-print_journal.ensures.part))
