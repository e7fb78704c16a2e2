-- From a page that was cut short alone to the one process.
use Rattle.std.proofs.Common.{◌≡◌, ℕ, ◌≤◌, List, ◌++◌, length, ◌⊎◌, inl, inr, ⊎_elim, Option, Some, None, subst}
use Rattle.np_model.specs.declared.script.Page.{Page}
use Rattle.np_message.specs.Encoding.{encodings}
use Rattle.np_model.specs.declared.script.Plugin.{Plugin}
use Rattle.np_model.specs.Journal.{end_line}
use Rattle.np_model.specs.HostRun.{IsPluginText}
use Rattle.np_ports.specs.Peer.{Known, started}
use Rattle.np_ports.specs.Files.{Contents}
use Rattle.np_model_scripts.specs.Laws.{ServedPagesAreWellFormed}
use Rattle.np_model.specs.Alone.{page_role, ComesTo}
use Rattle.np_model_wire_laws.specs.Prefix.{WaitsLaw, EndsLaw, BeginsLaw, ComesToRestLaw, NeverRefusesLaw, FewBytesLaw}
use Rattle.np_end_stops.specs.declared.ending.Ending.{Ending}
use Rattle.np_end_stops.specs.declared.ending.Ending.TheVariants as endings
use Rattle.np_host.specs.Words.{HostCommand, Run, Check, Show, host_command}
use Rattle.np_exchange.specs.Session.{Exchanged, Interrupted}
use Rattle.np_host.specs.Outcomes.{OutcomeOf, CutShort}
use Rattle.np_end_stops.specs.Causes.{AddsPart}
use Rattle.np_host.specs.Host.{OfRun, RunCut, CutWords}
use Rattle.np_host.specs.Main.{HostDone, HostLost, HostBroken, HostInterrupted, HostCut, ForEachPlugin}
use Rattle.np_host.proofs.Follows.{exchange-follows, same-given, done-follows, lost-follows, broken-follows, never-refused}
use Rattle.np_end_stops.proofs.Parts.{begins-then, messages-begin}

-- the laws that are used
pub record RunLaws : Type 0 where
  pub formed : ServedPagesAreWellFormed
  pub waits : WaitsLaw
  pub ends : EndsLaw
  pub begins : BeginsLaw
  pub rests : ComesToRestLaw
  pub never : NeverRefusesLaw
  pub few : FewBytesLaw

interrupted-follows : RunLaws → (page : Page) (plugin : Plugin) (old : Known) (first : List ℕ) (new : Known) (sink given : List ℕ) → Interrupted (page_role page) old first new sink → new.given ≡ old.given ++ given → IsPluginText page plugin given → HostInterrupted page plugin old first new sink given
interrupted-follows laws page plugin old first new sink given c e t =
    let same = same-given page old new c.got c.sent given c.exchanged e in
    let at = subst (λ (l : List ℕ). ComesTo (page_role page) l c.side) same c.comes_to in
    let r = laws.rests page plugin given t in
    let b = laws.begins page plugin given r.0 c.side r.1 t at r.2 r.3 in
    record {
      n = r.0;
      side = r.1;
      lines = c.lines;
      taken = c.sent;
      whole = r.2;
      rests = r.3;
      lines_part = begins-then r.1.journal c.side.journal c.lines (record { rest = b.0.0; parts = b.0.1 }) c.lines_part;
      printed = c.printed;
      taken_part = begins-then (encodings r.1.sent) (encodings c.side.sent) c.sent (messages-begin r.1.sent c.side.sent b.1.0 b.1.1) c.sent_part;
      exchange = exchange-follows laws.waits page plugin old new given c.sent t (subst (λ (l : List ℕ). Exchanged (page_role page) old new l c.sent) same c.exchanged);
    }

outcome-follows : RunLaws → (page : Page) (plugin : Plugin) (old : Known) (first : List ℕ) (new : Known) (sink given : List ℕ) (ending : Ending) → length page.commands ≤ 1048576 → OutcomeOf page ending old first new sink → new.given ≡ old.given ++ given → IsPluginText page plugin given
    → HostDone page plugin old first new sink given ⊎ (HostLost page plugin old first new sink given ⊎ HostBroken page plugin old first new sink given)
outcome-follows laws page plugin old first new sink given endings.Done short o e t = inl (done-follows laws.waits laws.ends page plugin old first new sink given o e t)
outcome-follows laws page plugin old first new sink given endings.Unsent short o e t = inr (inr (broken-follows laws.waits laws.ends page plugin old first new sink given o e t))
outcome-follows laws page plugin old first new sink given endings.Ended short o e t = inr (inl (lost-follows laws.waits page plugin old first new sink given o e t))
outcome-follows laws page plugin old first new sink given endings.Failed short o e t = inr (inr (broken-follows laws.waits laws.ends page plugin old first new sink given o e t))
outcome-follows laws page plugin old first new sink given (endings.Refused r) short o e t = absurd (never-refused laws.never laws.few page plugin old first new sink given short o e t)

cut-follows : RunLaws → (pipe_failed peer_ended : Type 0) (page : Page) (old : Known) (first : List ℕ) (new : Known) (sink : List ℕ) → length page.commands ≤ 1048576 → CutShort pipe_failed peer_ended page old first new sink → ForEachPlugin HostCut page old first new sink
cut-follows laws pipe_failed peer_ended page old first new sink short (before, inl c) plugin given e t = (before, inl (interrupted-follows laws page plugin old first new sink given c e t))
cut-follows laws pipe_failed peer_ended page old first new sink short (before, inr (ending, reason, c)) plugin given e t = (before, inr (c.whole, c.part, c.unfinished, c.first_stays, outcome-follows laws page plugin old first new c.whole given ending short c.reached e t))

-- ---- of a run of the host

page-follows : RunLaws → (pipe_failed peer_ended : Type 0) (name : List ℕ) (program : List (List ℕ)) (file_failed start_failed : Type 0) (files : Option Contents) (known0 known1 : Option Known) (taken0 taken1 : Option (List ℕ)) → RunCut (CutShort pipe_failed peer_ended) name program file_failed start_failed files known0 known1 taken0 taken1 → RunCut (ForEachPlugin HostCut) name program file_failed start_failed files known0 known1 taken0 taken1
page-follows laws pipe_failed peer_ended name program file_failed start_failed files known0 known1 taken0 taken1 cut f old first told k o =
    let x = cut f old first told k o in
    (x.0, x.1, x.2, x.3, ⊎_elim (λ early. inl early) (λ c. inr (c.0, c.1, cut-follows laws pipe_failed peer_ended c.0 (started old program) first x.0 x.1 (laws.formed (f name) c.0 c.1).1 c.2)) x.4)

pub follows-cut : RunLaws → (pipe_failed peer_ended : Type 0) (words : List (List ℕ)) (file_failed start_failed : Type 0) (files : Option Contents) (known0 known1 : Option Known) (taken0 taken1 : Option (List ℕ)) → CutWords (CutShort pipe_failed peer_ended) words file_failed start_failed files known0 known1 taken0 taken1 → CutWords (ForEachPlugin HostCut) words file_failed start_failed files known0 known1 taken0 taken1
follows-cut laws pipe_failed peer_ended words file_failed start_failed files known0 known1 taken0 taken1 cut = at (host_command words) cut
  where
    at : (o : Option HostCommand) → OfRun o (λ r. RunCut (CutShort pipe_failed peer_ended) r.page r.program file_failed start_failed files known0 known1 taken0 taken1) ((known1 ≡ known0) × AddsPart taken0 taken1 (end_line 2)) → OfRun o (λ r. RunCut (ForEachPlugin HostCut) r.page r.program file_failed start_failed files known0 known1 taken0 taken1) ((known1 ≡ known0) × AddsPart taken0 taken1 (end_line 2))
    at None h = h
    at (Some (Check side file)) h = tt
    at (Some (Show file)) h = tt
    at (Some (Run r)) h = page-follows laws pipe_failed peer_ended r.page r.program file_failed start_failed files known0 known1 taken0 taken1 h
