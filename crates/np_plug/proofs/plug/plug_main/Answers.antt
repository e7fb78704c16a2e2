use Rattle.std.proofs.Common.{◌≡◌, true, inr}
use Rattle.std.specs.Prelude.{string_bytes}
use Rattle.np_plug.specs.Plug.{texts, script_word, RunsPlugin, RunCut, OnlyRefused, RefusesPlugin, NotesScriptOnly}
use Rattle.np_ports.specs.Causes.{Rose}
use Rattle.np_plug.specs.Outcomes.{CutShort}
use Rattle.np_plug.proofs.ScriptWord.{script-is, of-script}
use Rattle.np_plug.proofs.FollowsCuts.{follows-cut}
use Rattle.np_plug.proofs.Follows.{follows-done, follows-left, follows-broken, follows-refused}
use Rattle.np_plug.proofs.UnrefusedRuns.{words-unrefused}
use Rattle.np_plug.proofs.plug.plug_main.Goals as goal

pub returns-in-Ok-clause-runs : goal.returns-in-Ok-clause-runs
returns-in-Ok-clause-runs g c =
    of-script (script_word (texts c.args.words.now)) (string_bytes c.script-item.result) c.as_str.result.now (λ name. RunsPlugin name (g.F.Files.contents c.args.files.now) (g.P.Peer.known c.args.peer.now) (g.P.Peer.known c.run.new.peer) (g.O.Sink.taken c.args.notes.now) (g.O.Sink.taken c.run.new.notes) c.in-Ok.status) _
    (script-is c.args.words.now c.script-item.result c.in-len2.len_at_least c.in-len2.len_below c.script-item.is) c.as_str.ensures.value c.in-Ok.ensures.runs

pub returns-in-Ok-clause-script_only : goal.returns-in-Ok-clause-script_only
returns-in-Ok-clause-script_only g c =
    inr (of-script (script_word (texts c.args.words.now)) (string_bytes c.script-item.result) c.as_str.result.now (λ name. OnlyRefused name (g.F.Files.contents c.args.files.now) c.in-Ok.status) _
    (script-is c.args.words.now c.script-item.result c.in-len2.len_at_least c.in-len2.len_below c.script-item.is) c.as_str.ensures.value c.in-Ok.ensures.script_only)

pub returns-in-Ok-clause-script : goal.returns-in-Ok-clause-script
returns-in-Ok-clause-script g c = λ is.
    of-script (script_word (texts c.args.words.now)) (string_bytes c.script-item.result) c.as_str.result.now (λ name. RefusesPlugin name (g.F.Files.contents c.args.files.now) (g.O.Sink.taken c.args.notes.now) (g.O.Sink.taken c.run.new.notes)) _
    (script-is c.args.words.now c.script-item.result c.in-len2.len_at_least c.in-len2.len_below c.script-item.is) c.as_str.ensures.value (c.in-Ok.ensures.script is)

pub returns-in-Ok-clause-failed_calls : goal.returns-in-Ok-clause-failed_calls
returns-in-Ok-clause-failed_calls g c =
    of-script (script_word (texts c.args.words.now)) (string_bytes c.script-item.result) c.as_str.result.now (λ name. NotesScriptOnly name (g.F.Files.failed_calls c.args.files.now) (g.F.Files.failed_calls c.run.new.files)) _
    (script-is c.args.words.now c.script-item.result c.in-len2.len_at_least c.in-len2.len_below c.script-item.is) c.as_str.ensures.value c.in-Ok.ensures.failed_calls

pub returns-in-Ok-clause-follows_done : goal.returns-in-Ok-clause-follows_done
returns-in-Ok-clause-follows_done g c = λ is. follows-done c.served_pages_are_well_formed.ensures.law c.plugin_waits_law.ensures.law c.plugin_ends_law.ensures.law (texts c.args.words.now) (g.F.Files.contents c.args.files.now) (g.P.Peer.known c.args.peer.now) (g.P.Peer.known c.run.new.peer) (g.O.Sink.taken c.args.notes.now) (g.O.Sink.taken c.run.new.notes) c.in-Ok.status is (returns-in-Ok-clause-runs g c)

pub returns-in-Ok-clause-follows_left : goal.returns-in-Ok-clause-follows_left
returns-in-Ok-clause-follows_left g c = λ is. follows-left c.served_pages_are_well_formed.ensures.law c.plugin_waits_law.ensures.law (texts c.args.words.now) (g.F.Files.contents c.args.files.now) (g.P.Peer.known c.args.peer.now) (g.P.Peer.known c.run.new.peer) (g.O.Sink.taken c.args.notes.now) (g.O.Sink.taken c.run.new.notes) c.in-Ok.status is (returns-in-Ok-clause-runs g c)

pub returns-in-Ok-clause-follows_broken : goal.returns-in-Ok-clause-follows_broken
returns-in-Ok-clause-follows_broken g c = λ is. follows-broken c.served_pages_are_well_formed.ensures.law c.plugin_waits_law.ensures.law c.plugin_ends_law.ensures.law (texts c.args.words.now) (g.F.Files.contents c.args.files.now) (g.P.Peer.known c.args.peer.now) (g.P.Peer.known c.run.new.peer) (g.O.Sink.taken c.args.notes.now) (g.O.Sink.taken c.run.new.notes) c.in-Ok.status is (returns-in-Ok-clause-runs g c)

pub returns-in-Ok-clause-never_refused : goal.returns-in-Ok-clause-never_refused
returns-in-Ok-clause-never_refused g c = λ is. follows-refused c.served_pages_are_well_formed.ensures.law c.plugin_never_refuses_law.ensures.law c.page_few_bytes_law.ensures.law (texts c.args.words.now) (g.F.Files.contents c.args.files.now) (g.P.Peer.known c.args.peer.now) (g.P.Peer.known c.run.new.peer) (g.O.Sink.taken c.args.notes.now) (g.O.Sink.taken c.run.new.notes) c.in-Ok.status is (returns-in-Ok-clause-runs g c)

pub returns-in-Ok-clause-unrefused : goal.returns-in-Ok-clause-unrefused
returns-in-Ok-clause-unrefused g c = λ is. words-unrefused c.rests_unrefused_law.ensures.plugin (texts c.args.words.now) (g.F.Files.contents c.args.files.now) (g.P.Peer.known c.args.peer.now) (g.P.Peer.known c.run.new.peer) (g.O.Sink.taken c.args.notes.now) (g.O.Sink.taken c.run.new.notes) c.in-Ok.status is (returns-in-Ok-clause-runs g c)

pub returns-in-Err-OutputFailed-clause-cut : goal.returns-in-Err-OutputFailed-clause-cut
returns-in-Err-OutputFailed-clause-cut g c = λ is.
    of-script (script_word (texts c.args.words.now)) (string_bytes c.script-item.result) c.as_str.result.now (λ name. RunCut (CutShort (Rose (g.P.Peer.pipe_faults c.args.peer.now) (g.P.Peer.pipe_faults c.run.new.peer)) (g.P.Peer.has_ended c.run.new.peer ≡ true)) name (Rose (g.F.Files.faults c.args.files.now) (g.F.Files.faults c.run.new.files)) (g.F.Files.contents c.args.files.now) (g.P.Peer.known c.args.peer.now) (g.P.Peer.known c.run.new.peer) (g.O.Sink.taken c.args.notes.now) (g.O.Sink.taken c.run.new.notes)) _
    (script-is c.args.words.now c.script-item.result c.in-len2.len_at_least c.in-len2.len_below c.script-item.is) c.as_str.ensures.value c.in-Err-OutputFailed.ensures.cut

pub returns-in-Err-NoMemory-clause-cut : goal.returns-in-Err-NoMemory-clause-cut
returns-in-Err-NoMemory-clause-cut g c = λ is.
    of-script (script_word (texts c.args.words.now)) (string_bytes c.script-item.result) c.as_str.result.now (λ name. RunCut (CutShort (Rose (g.P.Peer.pipe_faults c.args.peer.now) (g.P.Peer.pipe_faults c.run.new.peer)) (g.P.Peer.has_ended c.run.new.peer ≡ true)) name (Rose (g.F.Files.faults c.args.files.now) (g.F.Files.faults c.run.new.files)) (g.F.Files.contents c.args.files.now) (g.P.Peer.known c.args.peer.now) (g.P.Peer.known c.run.new.peer) (g.O.Sink.taken c.args.notes.now) (g.O.Sink.taken c.run.new.notes)) _
    (script-is c.args.words.now c.script-item.result c.in-len2.len_at_least c.in-len2.len_below c.script-item.is) c.as_str.ensures.value c.in-Err-NoMemory.ensures.cut

pub returns-in-Err-OutputFailed-clause-follows_cut : goal.returns-in-Err-OutputFailed-clause-follows_cut
returns-in-Err-OutputFailed-clause-follows_cut g c = λ is.
    follows-cut (record { formed = c.served_pages_are_well_formed.ensures.law; waits = c.plugin_waits_law.ensures.law; ends = c.plugin_ends_law.ensures.law; begins = c.plugin_begins_law.ensures.law; rests = c.plugin_comes_to_rest_law.ensures.law; never = c.plugin_never_refuses_law.ensures.law; few = c.page_few_bytes_law.ensures.law }) _ _
    (texts c.args.words.now) _ (g.F.Files.contents c.args.files.now) (g.P.Peer.known c.args.peer.now) (g.P.Peer.known c.run.new.peer) (g.O.Sink.taken c.args.notes.now) (g.O.Sink.taken c.run.new.notes) (returns-in-Err-OutputFailed-clause-cut g c is)

pub returns-in-Err-NoMemory-clause-follows_cut : goal.returns-in-Err-NoMemory-clause-follows_cut
returns-in-Err-NoMemory-clause-follows_cut g c = λ is.
    follows-cut (record { formed = c.served_pages_are_well_formed.ensures.law; waits = c.plugin_waits_law.ensures.law; ends = c.plugin_ends_law.ensures.law; begins = c.plugin_begins_law.ensures.law; rests = c.plugin_comes_to_rest_law.ensures.law; never = c.plugin_never_refuses_law.ensures.law; few = c.page_few_bytes_law.ensures.law }) _ _
    (texts c.args.words.now) _ (g.F.Files.contents c.args.files.now) (g.P.Peer.known c.args.peer.now) (g.P.Peer.known c.run.new.peer) (g.O.Sink.taken c.args.notes.now) (g.O.Sink.taken c.run.new.notes) (returns-in-Err-NoMemory-clause-cut g c is)
