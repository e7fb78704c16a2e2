use Rattle.std.proofs.Common.{Result, Err, inl, inr, refl, ap, ◌∙◌, arith}
use Rattle.np_model.specs.declared.script.Plugin.{Plugin}
use Rattle.np_model_scripts.specs.declared.serve.Unserved.{Unserved}
use Rattle.np_end_lines.specs.ScriptLines.{OfError, Unbuilt, script_error_line, unbuilt_line}
use Rattle.np_model.specs.Journal.{end_line}
use Rattle.std.proofs.lemmas.Result.{on_err_weaker}
use Rattle.np_plug.proofs.Scripts.{only-plugin, refused-file, runs, ran-not}
use Rattle.np_plug.proofs.ScriptCuts.{nothing-cut, early-cut, due-file, due-script, plugin-cut}
use Rattle.np_end_stops.proofs.Stops.{if-then, ok-then, on-stop, failed-cause}
use Rattle.np_end_lines.proofs.EarlyLines.{early-line}
use Rattle.np_exchange.proofs.Limits.{gave-nothing}
use Rattle.np_plug.proofs.plug.run.Goals as goal

abbrev refusal : Unserved → Result Plugin Unserved
refusal e = Err e

pub returns-clause-runs : goal.returns-clause-runs
returns-clause-runs g c =
    runs c.args.name.now _ _ c.in-Ok.bytes.items c.deref.result.now c.in-Ok-serve_plugin.plugin _ _ _ _ c.in_ok-status.status c.in-Ok.ensures.contents c.deref.ensures.value c.in-Ok-serve_plugin.ensures.ok c.in_ok-status.ensures.outcome

pub returns-in-Err-NoMemory-clause-cut : goal.returns-in-Err-NoMemory-clause-cut
returns-in-Err-NoMemory-clause-cut g c = nothing-cut _ c.args.name.now _ (g.F.Files.contents c.args.files.now) (g.P.Peer.known c.args.peer.now) (g.O.Sink.taken c.args.notes.now)

pub returns-in-Err-Failed-clause-cut : goal.returns-in-Err-Failed-clause-cut
returns-in-Err-Failed-clause-cut g c =
    on_err_weaker c.finish.result (λ adds. early-cut _ c.args.name.now _ (g.F.Files.contents c.args.files.now) (g.P.Peer.known c.args.peer.now) (g.O.Sink.taken c.args.notes.now) (g.O.Sink.taken c.finish.new.out) (end_line 4) (due-file c.args.name.now _ (g.F.Files.contents c.args.files.now) (failed-cause _ _ c.in-Err-Failed.field-0 c.in-Err-Failed.field-0-is c.in-Err-Failed.ensures.cause)) adds) c.finish.ensures.part

pub returns-in_err-status-clause-cut : goal.returns-in_err-status-clause-cut
returns-in_err-status-clause-cut g c =
    on-stop c.from_residual.result _ (plugin-cut _ c.args.name.now _ (g.F.Files.contents c.args.files.now) _ c.in-Ok.bytes.items c.deref.result.now c.in-Ok-serve_plugin.plugin (g.P.Peer.known c.args.peer.now) _ (g.O.Sink.taken c.args.notes.now) _ c.in-Ok.ensures.contents c.deref.ensures.value c.in-Ok-serve_plugin.ensures.ok c.in_err-status.ensures.cut)

pub returns-clause-script_only : goal.returns-clause-script_only
returns-clause-script_only g c =
    only-plugin _ _ c.args.name.now c.in-Ok.bytes.items c.deref.result.now c.serve_plugin.result c.in-Ok-serve_plugin.plugin c.in_ok-status.status c.in-Ok.ensures.contents c.deref.ensures.value c.in-Ok-serve_plugin.is c.serve_plugin.ensures.refused_only c.serve_plugin.ensures.unbuilt_only

pub returns-in-Err-Failed-clause-early : goal.returns-in-Err-Failed-clause-early
returns-in-Err-Failed-clause-early g c = if-then c.finish.result _ _ (λ status line early. (refl, line)) (early-line c.finish.result 4 (end_line 4) _ _ (inr (λ e. absurd (omega arith), refl)) c.finish.ensures.status c.finish.ensures.printed)

pub returns-in-Err-Script-clause-early : goal.returns-in-Err-Script-clause-early
returns-in-Err-Script-clause-early g c = if-then c.finish_script.result _ _ (λ status line early. (refl, line)) (early-line c.finish_script.result 3 (script_error_line c.in-Err-Script.error) _ _ (inl (refl, (OfError c.in-Err-Script.error, refl))) c.finish_script.ensures.status c.finish_script.ensures.printed)

pub returns-in-Err-Unbuilt-clause-early : goal.returns-in-Err-Unbuilt-clause-early
returns-in-Err-Unbuilt-clause-early g c = if-then c.finish_unbuilt.result _ _ (λ status line early. (refl, line)) (early-line c.finish_unbuilt.result 3 unbuilt_line _ _ (inl (refl, (Unbuilt, refl))) c.finish_unbuilt.ensures.status c.finish_unbuilt.ensures.printed)

pub returns-in-Err-Unbuilt-clause-runs : goal.returns-in-Err-Unbuilt-clause-runs
returns-in-Err-Unbuilt-clause-runs g c = if-then c.finish_unbuilt.result _ _ (λ status is. ran-not _ _ _ _ _ _ status is) c.finish_unbuilt.ensures.status

pub returns-in-Err-Script-clause-script : goal.returns-in-Err-Script-clause-script
returns-in-Err-Script-clause-script g c =
    ok-then c.finish_script.result _ _ (λ status adds three f told. (OfError c.in-Err-Script.error, refused-file _ _ c.args.name.now c.in-Ok.bytes.items c.deref.result.now (OfError c.in-Err-Script.error) f c.in-Ok.ensures.contents c.deref.ensures.value (c.serve_plugin.ensures.refused c.in-Err-Script.error (c.in-Err-Script.is ∙ ap refusal c.in-Err-Script.field-0-is)) told, adds)) c.finish_script.ensures.printed

pub returns-in-Err-Unbuilt-clause-script : goal.returns-in-Err-Unbuilt-clause-script
returns-in-Err-Unbuilt-clause-script g c =
    ok-then c.finish_unbuilt.result _ _ (λ status adds three f told. (Unbuilt, refused-file _ _ c.args.name.now c.in-Ok.bytes.items c.deref.result.now Unbuilt f c.in-Ok.ensures.contents c.deref.ensures.value (c.serve_plugin.ensures.unbuilt (c.in-Err-Unbuilt.is ∙ ap refusal c.in-Err-Unbuilt.field-0-is)) told, adds)) c.finish_unbuilt.ensures.printed

pub returns-in-Err-NoMemory-serve_plugin-clause-cut : goal.returns-in-Err-NoMemory-serve_plugin-clause-cut
returns-in-Err-NoMemory-serve_plugin-clause-cut g c = nothing-cut _ c.args.name.now _ (g.F.Files.contents c.args.files.now) (g.P.Peer.known c.args.peer.now) (g.O.Sink.taken c.args.notes.now)

pub returns-in-Err-Script-clause-cut : goal.returns-in-Err-Script-clause-cut
returns-in-Err-Script-clause-cut g c =
    on_err_weaker c.finish_script.result (λ adds. early-cut _ c.args.name.now _ (g.F.Files.contents c.args.files.now) (g.P.Peer.known c.args.peer.now) (g.O.Sink.taken c.args.notes.now) (g.O.Sink.taken c.finish_script.new.out) (script_error_line c.in-Err-Script.error)
    (due-script c.args.name.now _ (g.F.Files.contents c.args.files.now) _ c.in-Ok.bytes.items c.deref.result.now (OfError c.in-Err-Script.error) c.in-Ok.ensures.contents c.deref.ensures.value (c.serve_plugin.ensures.refused c.in-Err-Script.error (c.in-Err-Script.is ∙ ap refusal c.in-Err-Script.field-0-is))) adds) c.finish_script.ensures.part

pub returns-in-Err-Unbuilt-clause-cut : goal.returns-in-Err-Unbuilt-clause-cut
returns-in-Err-Unbuilt-clause-cut g c =
    on_err_weaker c.finish_unbuilt.result (λ adds. early-cut _ c.args.name.now _ (g.F.Files.contents c.args.files.now) (g.P.Peer.known c.args.peer.now) (g.O.Sink.taken c.args.notes.now) (g.O.Sink.taken c.finish_unbuilt.new.out) unbuilt_line
    (due-script c.args.name.now _ (g.F.Files.contents c.args.files.now) _ c.in-Ok.bytes.items c.deref.result.now Unbuilt c.in-Ok.ensures.contents c.deref.ensures.value (c.serve_plugin.ensures.unbuilt (c.in-Err-Unbuilt.is ∙ ap refusal c.in-Err-Unbuilt.field-0-is))) adds) c.finish_unbuilt.ensures.part

pub returns-in-Err-NoMemory-clause-read_limit : goal.returns-in-Err-NoMemory-clause-read_limit
returns-in-Err-NoMemory-clause-read_limit g c = gave-nothing _ _

pub returns-in-Err-Failed-clause-read_limit : goal.returns-in-Err-Failed-clause-read_limit
returns-in-Err-Failed-clause-read_limit g c = gave-nothing _ _

pub returns-in-Err-NoMemory-serve_plugin-clause-read_limit : goal.returns-in-Err-NoMemory-serve_plugin-clause-read_limit
returns-in-Err-NoMemory-serve_plugin-clause-read_limit g c = gave-nothing _ _

pub returns-in-Err-Script-clause-read_limit : goal.returns-in-Err-Script-clause-read_limit
returns-in-Err-Script-clause-read_limit g c = gave-nothing _ _

pub returns-in-Err-Unbuilt-clause-read_limit : goal.returns-in-Err-Unbuilt-clause-read_limit
returns-in-Err-Unbuilt-clause-read_limit g c = gave-nothing _ _
