use Rattle.std.proofs.Common.{◌≡◌, true, List, Option, Some, drop, inr, refl, ap, subst, ◌∙◌, arith}
use Rattle.std.specs.Prelude.{String, string_bytes}
use Rattle.std.specs.Global.{Vec, Global}
use Rattle.std.proofs.lemmas.List.{take_rest}
use Rattle.np_host.specs.declared.words.CommandWords.{CommandWords}
use Rattle.np_host.specs.declared.words.CommandWords.TheVariants as commands
use Rattle.np_values.specs.declared.name.Side.{Side}
use Rattle.np_model.specs.Journal.{end_line}
use Rattle.np_host.specs.Check.{CheckCut}
use Rattle.np_show.specs.Show.{ShowCut}
use Rattle.np_ports.specs.Causes.{Rose}
use Rattle.np_host.specs.Words.{RunWords, HostCommand, Check, Show, IsRun, GivesCommand, host_command, texts}
use Rattle.np_host.specs.Host.{RunsPage, RunCut, NotStarted, OnlyRefused}
use Rattle.np_host.proofs.RunWords.{words-are, of-words, of-named, of-check, of-show, run-some}
use Rattle.np_host.specs.Outcomes.{CutShort}
use Rattle.np_host.proofs.PageCuts.{words-nothing}
use Rattle.np_host.proofs.ShowCuts.{nothing-shown}
use Rattle.np_end_stops.proofs.Stops.{if-then, on-stop}
use Rattle.np_end_lines.proofs.EarlyLines.{early-line}
use Rattle.np_exchange.proofs.Limits.{gave-nothing}
use Rattle.np_host.proofs.host.serve.Goals as goal

gives : (read : CommandWords) (plain : Vec (String Global)) (command : Option HostCommand) → read ≡ commands.Run plain → GivesCommand (Some read) command → IsRun plain.items command
gives read plain command is h = subst (λ (k : CommandWords). GivesCommand (Some k) command) is h

gives-check : (read : CommandWords) (side : Side) (file : String Global) (command : Option HostCommand) → read ≡ commands.Check side file → GivesCommand (Some read) command → command ≡ Some (Check side (string_bytes file))
gives-check read side file command is h = subst (λ (k : CommandWords). GivesCommand (Some k) command) is h

pub returns-clause-runs : goal.returns-clause-runs
returns-clause-runs g c =
    of-words _ _ (λ (r : RunWords). RunsPage r.page r.program (g.F.Files.contents c.args.files.now) (g.P.Peer.known c.args.peer.now) (g.P.Peer.known c.run.new.peer) (g.O.Sink.taken c.args.out.now) (g.O.Sink.taken c.run.new.out) c.in_ok-status.status) _
    (words-are c.in-Some-Run.plain.items _ _ c.index.result.now c.as_str-2.result.now (gives c.in-Some-Run.field-0 c.in-Some-Run.plain (host_command (texts c.args.words.now)) c.in-Some-Run.field-0-is (subst (λ (o : Option CommandWords). GivesCommand o (host_command (texts c.args.words.now))) c.in-Some-Run.is c.in_ok-plain.ensures.command)) c.index.ensures c.as_str-2.ensures.value (take_rest c.deref.result.now 1 ∙ ap (λ (l : List (String Global)). drop 1 l) c.deref.ensures.value))
    c.in_ok-status.ensures.runs

pub returns-clause-script_only : goal.returns-clause-script_only
returns-clause-script_only g c =
    of-words _ _ (λ (r : RunWords). OnlyRefused r.page (g.F.Files.contents c.args.files.now) c.in_ok-status.status) _
    (words-are c.in-Some-Run.plain.items _ _ c.index.result.now c.as_str-2.result.now (gives c.in-Some-Run.field-0 c.in-Some-Run.plain (host_command (texts c.args.words.now)) c.in-Some-Run.field-0-is (subst (λ (o : Option CommandWords). GivesCommand o (host_command (texts c.args.words.now))) c.in-Some-Run.is c.in_ok-plain.ensures.command)) c.index.ensures c.as_str-2.ensures.value (take_rest c.deref.result.now 1 ∙ ap (λ (l : List (String Global)). drop 1 l) c.deref.ensures.value))
    c.in_ok-status.ensures.script_only

pub returns-clause-failed_calls : goal.returns-clause-failed_calls
returns-clause-failed_calls g c =
    of-named _ _ _ _
    (words-are c.in-Some-Run.plain.items _ _ c.index.result.now c.as_str-2.result.now (gives c.in-Some-Run.field-0 c.in-Some-Run.plain (host_command (texts c.args.words.now)) c.in-Some-Run.field-0-is (subst (λ (o : Option CommandWords). GivesCommand o (host_command (texts c.args.words.now))) c.in-Some-Run.is c.in_ok-plain.ensures.command)) c.index.ensures c.as_str-2.ensures.value (take_rest c.deref.result.now 1 ∙ ap (λ (l : List (String Global)). drop 1 l) c.deref.ensures.value))
    c.in_ok-status.ensures.failed_calls

pub returns-clause-not_started : goal.returns-clause-not_started
returns-clause-not_started g c =
    of-words _ _ (λ (r : RunWords). NotStarted r.program (g.P.Peer.known c.args.peer.now) (g.P.Peer.known c.run.new.peer) (g.O.Sink.taken c.args.out.now) (g.O.Sink.taken c.run.new.out) c.in_ok-status.status) _
    (words-are c.in-Some-Run.plain.items _ _ c.index.result.now c.as_str-2.result.now (gives c.in-Some-Run.field-0 c.in-Some-Run.plain (host_command (texts c.args.words.now)) c.in-Some-Run.field-0-is (subst (λ (o : Option CommandWords). GivesCommand o (host_command (texts c.args.words.now))) c.in-Some-Run.is c.in_ok-plain.ensures.command)) c.index.ensures c.as_str-2.ensures.value (take_rest c.deref.result.now 1 ∙ ap (λ (l : List (String Global)). drop 1 l) c.deref.ensures.value))
    c.in_ok-status.ensures.not_started

pub returns-in_err-plain-clause-cut : goal.returns-in_err-plain-clause-cut
returns-in_err-plain-clause-cut g c = on-stop c.from_residual.result _ (words-nothing _ _ (texts c.args.words.now) _ _ (g.F.Files.contents c.args.files.now) (g.P.Peer.known c.args.peer.now) (g.O.Sink.taken c.args.out.now))

pub returns-in_err-status-clause-cut : goal.returns-in_err-status-clause-cut
returns-in_err-status-clause-cut g c =
    on-stop c.from_residual-in_err-status.result _ (of-words _ _ (λ (r : RunWords). RunCut (CutShort (Rose (g.P.Peer.pipe_faults c.args.peer.now) (g.P.Peer.pipe_faults c.run.new.peer)) (g.P.Peer.has_ended c.run.new.peer ≡ true)) r.page r.program (Rose (g.F.Files.faults c.args.files.now) (g.F.Files.faults c.run.new.files)) (Rose (g.P.Peer.start_faults c.args.peer.now) (g.P.Peer.start_faults c.run.new.peer)) (g.F.Files.contents c.args.files.now) (g.P.Peer.known c.args.peer.now) (g.P.Peer.known c.run.new.peer) (g.O.Sink.taken c.args.out.now) (g.O.Sink.taken c.run.new.out)) _
    (words-are c.in-Some-Run.plain.items _ _ c.index.result.now c.as_str-2.result.now (gives c.in-Some-Run.field-0 c.in-Some-Run.plain (host_command (texts c.args.words.now)) c.in-Some-Run.field-0-is (subst (λ (o : Option CommandWords). GivesCommand o (host_command (texts c.args.words.now))) c.in-Some-Run.is c.in_ok-plain.ensures.command)) c.index.ensures c.as_str-2.ensures.value (take_rest c.deref.result.now 1 ∙ ap (λ (l : List (String Global)). drop 1 l) c.deref.ensures.value))
    c.in_err-status.ensures.cut)

pub returns-clause-usage : goal.returns-clause-usage
returns-clause-usage g c = (
  λ two. absurd (c.in_ok-status.ensures.usage two),
  λ none. absurd (run-some _ _
      (words-are c.in-Some-Run.plain.items _ _ c.index.result.now c.as_str-2.result.now (gives c.in-Some-Run.field-0 c.in-Some-Run.plain (host_command (texts c.args.words.now)) c.in-Some-Run.field-0-is (subst (λ (o : Option CommandWords). GivesCommand o (host_command (texts c.args.words.now))) c.in-Some-Run.is c.in_ok-plain.ensures.command)) c.index.ensures c.as_str-2.ensures.value (take_rest c.deref.result.now 1 ∙ ap (λ (l : List (String Global)). drop 1 l) c.deref.ensures.value))
      none),
)

pub returns-in-None-clause-early : goal.returns-in-None-clause-early
returns-in-None-clause-early g c = if-then c.finish.result _ _ (λ status line none early. (refl, line)) (early-line c.finish.result 2 (end_line 2) _ _ (inr (λ e. absurd (omega arith), refl)) c.finish.ensures.status c.finish.ensures.printed)

pub returns-in_err-status-in-Some-Check-clause-check_cut : goal.returns-in_err-status-in-Some-Check-clause-check_cut
returns-in_err-status-in-Some-Check-clause-check_cut g c =
    on-stop c.from_residual-in_err-status-in-Some-Check.result _ (of-check _ c.in-Some-Check.side (string_bytes c.in-Some-Check.file) c.as_str.result.now (λ side name. CheckCut side name (Rose (g.F.Files.faults c.args.files.now) (g.F.Files.faults c.check.new.files)) (g.F.Files.contents c.args.files.now) (g.O.Sink.taken c.args.out.now) (g.O.Sink.taken c.check.new.out))
    (gives-check c.in-Some-Check.field-0 c.in-Some-Check.side c.in-Some-Check.file (host_command (texts c.args.words.now)) c.in-Some-Check.field-0-is (subst (λ (o : Option CommandWords). GivesCommand o (host_command (texts c.args.words.now))) c.in-Some-Check.is c.in_ok-plain.ensures.command))
    c.as_str.ensures.value c.in_err-status-in-Some-Check.ensures.cut)

gives-show : (read : CommandWords) (file : String Global) (command : Option HostCommand) → read ≡ commands.Show file → GivesCommand (Some read) command → command ≡ Some (Show (string_bytes file))
gives-show read file command is h = subst (λ (k : CommandWords). GivesCommand (Some k) command) is h

pub returns-in_err-status-in-Some-Show-clause-show_cut : goal.returns-in_err-status-in-Some-Show-clause-show_cut
returns-in_err-status-in-Some-Show-clause-show_cut g c =
    on-stop c.from_residual-in_err-status-in-Some-Show.result _ (of-show _ (string_bytes c.in-Some-Show.file) c.as_str-in-Some-Show.result.now (λ name. ShowCut name (Rose (g.F.Files.faults c.args.files.now) (g.F.Files.faults c.show.new.files)) (g.F.Files.contents c.args.files.now) (g.O.Sink.taken c.args.out.now) (g.O.Sink.taken c.show.new.out))
    (gives-show c.in-Some-Show.field-0 c.in-Some-Show.file (host_command (texts c.args.words.now)) c.in-Some-Show.field-0-is (subst (λ (o : Option CommandWords). GivesCommand o (host_command (texts c.args.words.now))) c.in-Some-Show.is c.in_ok-plain.ensures.command))
    c.as_str-in-Some-Show.ensures.value c.in_err-status-in-Some-Show.ensures.cut)

pub returns-in_err-plain-clause-show_cut : goal.returns-in_err-plain-clause-show_cut
returns-in_err-plain-clause-show_cut g c = on-stop c.from_residual.result _ (nothing-shown (texts c.args.words.now) _ (g.F.Files.contents c.args.files.now) (g.O.Sink.taken c.args.out.now))

pub returns-in_err-plain-clause-read_limit : goal.returns-in_err-plain-clause-read_limit
returns-in_err-plain-clause-read_limit g c = gave-nothing _ _

pub returns-in-None-clause-read_limit : goal.returns-in-None-clause-read_limit
returns-in-None-clause-read_limit g c = gave-nothing _ _

pub returns-in_err-status-in-Some-Check-clause-read_limit : goal.returns-in_err-status-in-Some-Check-clause-read_limit
returns-in_err-status-in-Some-Check-clause-read_limit g c = gave-nothing _ _

pub returns-in_err-status-in-Some-Show-clause-read_limit : goal.returns-in_err-status-in-Some-Show-clause-read_limit
returns-in_err-status-in-Some-Show-clause-read_limit g c = gave-nothing _ _
