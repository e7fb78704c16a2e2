use Rattle.np_show.proofs.FileReads.{on-stop}
use Rattle.np_show.proofs.Pieces.{nothing-front, piece-front}
use Rattle.np_show.proofs.reading.show_piece.Goals as goal

pub returns-in_err-push-clause-front : goal.returns-in_err-push-clause-front
returns-in_err-push-clause-front g c = on-stop _ _ (nothing-front _ _ _)

pub returns-in_err-fault-clause-front : goal.returns-in_err-fault-clause-front
returns-in_err-fault-clause-front g c = on-stop _ _ (nothing-front _ _ _)

pub returns-in_err-print_all-clause-front : goal.returns-in_err-print_all-clause-front
returns-in_err-print_all-clause-front g c = on-stop _ _ (piece-front c.args.piece.now c.args.feed.now c.push.new.self c.take_lines.new.feed _ c.take_lines.new.lines.items _ _ _ c.deref.ensures.value c.in_ok-push.ensures.ok c.clear.ensures.items c.in_ok-fault.ensures.taken c.in_err-print_all.ensures.taken)
