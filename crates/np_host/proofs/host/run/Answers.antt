use Rattle.std.proofs.Common.{Result, Err, inl, inr, refl, ap, ◌∙◌, arith}
use Rattle.np_model_scripts.specs.declared.serve.Unserved.{Unserved}
use Rattle.np_model.specs.Journal.{end_line}
use Rattle.np_end_lines.specs.ScriptLines.{OfError, Unbuilt, script_error_line, unbuilt_line}
use Rattle.np_model.specs.declared.script.Page.{Page}
use Rattle.np_host.proofs.Pages.{only-page, refused-file, runs, ran-not}
use Rattle.std.proofs.lemmas.Result.{on_err_weaker}
use Rattle.np_host.specs.Words.{texts}
use Rattle.np_host.proofs.PageCuts.{nothing-cut, early-cut, due-file, due-script, due-start, unstarted, start-gave, page-cut}
use Rattle.np_end_stops.proofs.Stops.{on-each, if-then, ok-then, on-stop, failed-cause}
use Rattle.np_end_lines.proofs.EarlyLines.{early-line}
use Rattle.np_exchange.proofs.Limits.{gave-nothing, gave-then}
use Rattle.np_host.proofs.host.run.Goals as goal

abbrev refusal : Unserved → Result Page Unserved
refusal e = Err e

pub returns-clause-runs : goal.returns-clause-runs
returns-clause-runs g c =
    runs c.args.name.now _ _ _ c.in-Ok.bytes.items c.deref.result.now c.in-Ok-serve_page.page _ _ _ _ _ c.in_ok-status.status c.in-Ok-start.field-0 c.in-Ok.ensures.contents c.deref.ensures.value c.in-Ok-serve_page.ensures.ok c.in-Ok-start.ensures.known c.in_ok-status.ensures.outcome

pub returns-in-Err-NoMemory-clause-cut : goal.returns-in-Err-NoMemory-clause-cut
returns-in-Err-NoMemory-clause-cut g c = nothing-cut _ _ c.args.name.now (texts c.args.program.now) _ _ (g.F.Files.contents c.args.files.now) (g.P.Peer.known c.args.peer.now) (g.P.Peer.known c.args.peer.now) (g.O.Sink.taken c.args.out.now) (λ old k. k)

pub returns-in-Err-Failed-clause-cut : goal.returns-in-Err-Failed-clause-cut
returns-in-Err-Failed-clause-cut g c =
    on_err_weaker c.finish.result (λ adds. early-cut _ _ c.args.name.now (texts c.args.program.now) _ _ (g.F.Files.contents c.args.files.now) (g.P.Peer.known c.args.peer.now) (g.P.Peer.known c.args.peer.now) (g.O.Sink.taken c.args.out.now) (g.O.Sink.taken c.finish.new.out) (end_line 4) (due-file c.args.name.now (texts c.args.program.now) _ _ (g.F.Files.contents c.args.files.now) (g.P.Peer.known c.args.peer.now) (failed-cause _ _ c.in-Err-Failed.field-0 c.in-Err-Failed.field-0-is c.in-Err-Failed.ensures.cause)) adds) c.finish.ensures.part

pub returns-in-Err-NoMemory-start-clause-cut : goal.returns-in-Err-NoMemory-start-clause-cut
returns-in-Err-NoMemory-start-clause-cut g c = nothing-cut _ _ c.args.name.now (texts c.args.program.now) _ _ (g.F.Files.contents c.args.files.now) (g.P.Peer.known c.args.peer.now) (g.P.Peer.known c.start.new.self) (g.O.Sink.taken c.args.out.now) (unstarted (texts c.args.program.now) (g.P.Peer.known c.args.peer.now) (g.P.Peer.known c.start.new.self) c.in-Err-NoMemory-start.field-0 c.in-Err-NoMemory-start.field-0-is c.in-Err-NoMemory-start.ensures.known)

pub returns-in-Err-Failed-start-clause-cut : goal.returns-in-Err-Failed-start-clause-cut
returns-in-Err-Failed-start-clause-cut g c =
    on_err_weaker c.finish-in-Err-Failed-start.result (λ adds. early-cut _ _ c.args.name.now (texts c.args.program.now) _ _ (g.F.Files.contents c.args.files.now) (g.P.Peer.known c.args.peer.now) (g.P.Peer.known c.start.new.self) (g.O.Sink.taken c.args.out.now) (g.O.Sink.taken c.finish-in-Err-Failed-start.new.out) (end_line 11)
    (due-start c.args.name.now (texts c.args.program.now) _ _ (g.F.Files.contents c.args.files.now) (g.P.Peer.known c.args.peer.now) (g.P.Peer.known c.start.new.self) c.in-Err-Failed-start.field-0 c.in-Err-Failed-start.field-0-is c.in-Err-Failed-start.ensures.known (failed-cause _ _ c.in-Err-Failed-start.field-0 c.in-Err-Failed-start.field-0-is c.in-Err-Failed-start.ensures.cause)) adds) c.finish-in-Err-Failed-start.ensures.part

pub returns-in_err-status-clause-cut : goal.returns-in_err-status-clause-cut
returns-in_err-status-clause-cut g c =
    on-stop c.from_residual.result _ (page-cut _ _ _ _ c.args.name.now (texts c.args.program.now) _ _ (g.F.Files.contents c.args.files.now) _ c.in-Ok.bytes.items c.deref.result.now c.in-Ok-serve_page.page (g.P.Peer.known c.args.peer.now) _ _ (g.O.Sink.taken c.args.out.now) _ c.in-Ok-start.field-0 c.in-Ok-start.ensures.pipe_faults c.in-Ok.ensures.contents c.deref.ensures.value c.in-Ok-serve_page.ensures.ok c.in-Ok-start.ensures.known c.in_err-status.ensures.cut)

pub returns-in-Err-Failed-start-clause-runs : goal.returns-in-Err-Failed-start-clause-runs
returns-in-Err-Failed-start-clause-runs g c = if-then c.finish-in-Err-Failed-start.result _ _ (λ status is. ran-not _ _ _ _ _ _ _ status (inr is)) c.finish-in-Err-Failed-start.ensures.status

pub returns-in-Err-Unbuilt-clause-runs : goal.returns-in-Err-Unbuilt-clause-runs
returns-in-Err-Unbuilt-clause-runs g c = if-then c.finish_unbuilt.result _ _ (λ status is. ran-not _ _ _ _ _ _ _ status (inl is)) c.finish_unbuilt.ensures.status

pub returns-in-Err-Failed-start-clause-script_only : goal.returns-in-Err-Failed-start-clause-script_only
returns-in-Err-Failed-start-clause-script_only g c =
    on-each c.finish-in-Err-Failed-start.result _ (λ status. only-page _ _ c.args.name.now c.in-Ok.bytes.items c.deref.result.now c.serve_page.result c.in-Ok-serve_page.page status c.in-Ok.ensures.contents c.deref.ensures.value c.in-Ok-serve_page.is c.serve_page.ensures.refused_only c.serve_page.ensures.unbuilt_only)

pub returns-clause-script_only : goal.returns-clause-script_only
returns-clause-script_only g c =
    only-page _ _ c.args.name.now c.in-Ok.bytes.items c.deref.result.now c.serve_page.result c.in-Ok-serve_page.page c.in_ok-status.status c.in-Ok.ensures.contents c.deref.ensures.value c.in-Ok-serve_page.is c.serve_page.ensures.refused_only c.serve_page.ensures.unbuilt_only

pub returns-in-Err-Failed-clause-early : goal.returns-in-Err-Failed-clause-early
returns-in-Err-Failed-clause-early g c = if-then c.finish.result _ _ (λ status line early. (refl, line)) (early-line c.finish.result 4 (end_line 4) _ _ (inr (λ e. absurd (omega arith), refl)) c.finish.ensures.status c.finish.ensures.printed)

pub returns-in-Err-Script-clause-early : goal.returns-in-Err-Script-clause-early
returns-in-Err-Script-clause-early g c = if-then c.finish_script.result _ _ (λ status line early. (refl, line)) (early-line c.finish_script.result 3 (script_error_line c.in-Err-Script.error) _ _ (inl (refl, (OfError c.in-Err-Script.error, refl))) c.finish_script.ensures.status c.finish_script.ensures.printed)

pub returns-in-Err-Unbuilt-clause-early : goal.returns-in-Err-Unbuilt-clause-early
returns-in-Err-Unbuilt-clause-early g c = if-then c.finish_unbuilt.result _ _ (λ status line early. (refl, line)) (early-line c.finish_unbuilt.result 3 unbuilt_line _ _ (inl (refl, (Unbuilt, refl))) c.finish_unbuilt.ensures.status c.finish_unbuilt.ensures.printed)

pub returns-in-Err-Script-clause-script : goal.returns-in-Err-Script-clause-script
returns-in-Err-Script-clause-script g c =
    ok-then c.finish_script.result _ _ (λ status adds three f told. (OfError c.in-Err-Script.error, refused-file _ _ c.args.name.now c.in-Ok.bytes.items c.deref.result.now (OfError c.in-Err-Script.error) f c.in-Ok.ensures.contents c.deref.ensures.value (c.serve_page.ensures.refused c.in-Err-Script.error (c.in-Err-Script.is ∙ ap refusal c.in-Err-Script.field-0-is)) told, adds)) c.finish_script.ensures.printed

pub returns-in-Err-Unbuilt-clause-script : goal.returns-in-Err-Unbuilt-clause-script
returns-in-Err-Unbuilt-clause-script g c =
    ok-then c.finish_unbuilt.result _ _ (λ status adds three f told. (Unbuilt, refused-file _ _ c.args.name.now c.in-Ok.bytes.items c.deref.result.now Unbuilt f c.in-Ok.ensures.contents c.deref.ensures.value (c.serve_page.ensures.unbuilt (c.in-Err-Unbuilt.is ∙ ap refusal c.in-Err-Unbuilt.field-0-is)) told, adds)) c.finish_unbuilt.ensures.printed

pub returns-in-Err-NoMemory-serve_page-clause-cut : goal.returns-in-Err-NoMemory-serve_page-clause-cut
returns-in-Err-NoMemory-serve_page-clause-cut g c = nothing-cut _ _ c.args.name.now (texts c.args.program.now) _ _ (g.F.Files.contents c.args.files.now) (g.P.Peer.known c.args.peer.now) (g.P.Peer.known c.args.peer.now) (g.O.Sink.taken c.args.out.now) (λ old k. k)

pub returns-in-Err-Script-clause-cut : goal.returns-in-Err-Script-clause-cut
returns-in-Err-Script-clause-cut g c =
    on_err_weaker c.finish_script.result (λ adds. early-cut _ _ c.args.name.now (texts c.args.program.now) _ _ (g.F.Files.contents c.args.files.now) (g.P.Peer.known c.args.peer.now) (g.P.Peer.known c.args.peer.now) (g.O.Sink.taken c.args.out.now) (g.O.Sink.taken c.finish_script.new.out) (script_error_line c.in-Err-Script.error)
    (due-script c.args.name.now (texts c.args.program.now) _ _ (g.F.Files.contents c.args.files.now) _ c.in-Ok.bytes.items c.deref.result.now (g.P.Peer.known c.args.peer.now) (OfError c.in-Err-Script.error) c.in-Ok.ensures.contents c.deref.ensures.value (c.serve_page.ensures.refused c.in-Err-Script.error (c.in-Err-Script.is ∙ ap refusal c.in-Err-Script.field-0-is))) adds) c.finish_script.ensures.part

pub returns-in-Err-Unbuilt-clause-cut : goal.returns-in-Err-Unbuilt-clause-cut
returns-in-Err-Unbuilt-clause-cut g c =
    on_err_weaker c.finish_unbuilt.result (λ adds. early-cut _ _ c.args.name.now (texts c.args.program.now) _ _ (g.F.Files.contents c.args.files.now) (g.P.Peer.known c.args.peer.now) (g.P.Peer.known c.args.peer.now) (g.O.Sink.taken c.args.out.now) (g.O.Sink.taken c.finish_unbuilt.new.out) unbuilt_line
    (due-script c.args.name.now (texts c.args.program.now) _ _ (g.F.Files.contents c.args.files.now) _ c.in-Ok.bytes.items c.deref.result.now (g.P.Peer.known c.args.peer.now) Unbuilt c.in-Ok.ensures.contents c.deref.ensures.value (c.serve_page.ensures.unbuilt (c.in-Err-Unbuilt.is ∙ ap refusal c.in-Err-Unbuilt.field-0-is))) adds) c.finish_unbuilt.ensures.part

pub returns-in-Err-NoMemory-clause-read_limit : goal.returns-in-Err-NoMemory-clause-read_limit
returns-in-Err-NoMemory-clause-read_limit g c = gave-nothing _ _

pub returns-in-Err-Failed-clause-read_limit : goal.returns-in-Err-Failed-clause-read_limit
returns-in-Err-Failed-clause-read_limit g c = gave-nothing _ _

pub returns-in-Err-NoMemory-serve_page-clause-read_limit : goal.returns-in-Err-NoMemory-serve_page-clause-read_limit
returns-in-Err-NoMemory-serve_page-clause-read_limit g c = gave-nothing _ _

pub returns-in-Err-Script-clause-read_limit : goal.returns-in-Err-Script-clause-read_limit
returns-in-Err-Script-clause-read_limit g c = gave-nothing _ _

pub returns-in-Err-Unbuilt-clause-read_limit : goal.returns-in-Err-Unbuilt-clause-read_limit
returns-in-Err-Unbuilt-clause-read_limit g c = gave-nothing _ _

pub returns-in-Err-NoMemory-start-clause-read_limit : goal.returns-in-Err-NoMemory-start-clause-read_limit
returns-in-Err-NoMemory-start-clause-read_limit g c = start-gave _ (g.P.Peer.known c.args.peer.now) (g.P.Peer.known c.start.new.self) _ (texts c.args.program.now) c.in-Err-NoMemory-start.ensures.known

pub returns-in-Err-Failed-start-clause-read_limit : goal.returns-in-Err-Failed-start-clause-read_limit
returns-in-Err-Failed-start-clause-read_limit g c = start-gave _ (g.P.Peer.known c.args.peer.now) (g.P.Peer.known c.start.new.self) _ (texts c.args.program.now) c.in-Err-Failed-start.ensures.known

pub returns-clause-read_limit : goal.returns-clause-read_limit
returns-clause-read_limit g c = gave-then 0 _ _ (g.P.Peer.known c.args.peer.now) (g.P.Peer.known c.start.new.self) (g.P.Peer.known c.session.new.peer) (omega arith) (start-gave 0 (g.P.Peer.known c.args.peer.now) (g.P.Peer.known c.start.new.self) _ (texts c.args.program.now) c.in-Ok-start.ensures.known) c.session.ensures.read_limit

pub returns-in_err-status-clause-read_limit : goal.returns-in_err-status-clause-read_limit
returns-in_err-status-clause-read_limit g c = gave-then 0 _ _ (g.P.Peer.known c.args.peer.now) (g.P.Peer.known c.start.new.self) (g.P.Peer.known c.session.new.peer) (omega arith) (start-gave 0 (g.P.Peer.known c.args.peer.now) (g.P.Peer.known c.start.new.self) _ (texts c.args.program.now) c.in-Ok-start.ensures.known) c.session.ensures.read_limit
