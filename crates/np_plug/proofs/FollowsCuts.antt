-- From a plug-in that was cut short alone to the one process.
use Rattle.std.proofs.Common.{◌≡◌, ℕ, ◌≤◌, List, ◌++◌, length, ◌⊎◌, inl, inr, ⊎_elim, Option, Some, None, subst}
use Rattle.np_model.specs.declared.script.Page.{Page}
use Rattle.np_model.specs.declared.script.Plugin.{Plugin}
use Rattle.np_model.specs.Script.{IsWellFormed}
use Rattle.np_message.specs.Encoding.{encodings}
use Rattle.np_model.specs.PluginRun.{IsPageText}
use Rattle.np_ports.specs.Peer.{Known}
use Rattle.np_ports.specs.Files.{Contents}
use Rattle.np_model_scripts.specs.Laws.{ServedPagesAreWellFormed}
use Rattle.np_model.specs.Alone.{plugin_role, ComesTo}
use Rattle.np_model_wire_laws.specs.PluginPrefix.{PluginWaitsLaw, PluginEndsLaw, PluginBeginsLaw, PluginComesToRestLaw, PluginNeverRefusesLaw, PageFewBytesLaw}
use Rattle.np_end_stops.specs.declared.ending.Ending.{Ending}
use Rattle.np_end_stops.specs.declared.ending.Ending.TheVariants as endings
use Rattle.np_exchange.specs.Session.{Exchanged, Interrupted}
use Rattle.np_plug.specs.Outcomes.{OutcomeOf, CutShort}
use Rattle.np_plug.specs.Plug.{script_word, OfScript, RunCut, CutWords}
use Rattle.np_plug.specs.Main.{PluginDone, PluginLeft, PluginBroken, PluginInterrupted, PluginCut, ForEachPage}
use Rattle.np_end_stops.proofs.Parts.{begins-then, messages-begin}
use Rattle.np_plug.proofs.Follows.{exchange-follows, same-given, done-follows, left-follows, broken-follows, never-refused}

-- the laws that are used
pub record RunLaws : Type 0 where
  pub formed : ServedPagesAreWellFormed
  pub waits : PluginWaitsLaw
  pub ends : PluginEndsLaw
  pub begins : PluginBeginsLaw
  pub rests : PluginComesToRestLaw
  pub never : PluginNeverRefusesLaw
  pub few : PageFewBytesLaw

interrupted-follows : RunLaws → (page : Page) (plugin : Plugin) (old : Known) (first : List ℕ) (new : Known) (sink given : List ℕ) → Interrupted (plugin_role plugin) old first new sink → IsWellFormed page → new.given ≡ old.given ++ given → IsPageText page plugin given → PluginInterrupted page plugin old first new sink given
interrupted-follows laws page plugin old first new sink given c w e t =
    let same = same-given plugin old new c.got c.sent given c.exchanged e in
    let at = subst (λ (l : List ℕ). ComesTo (plugin_role plugin) l c.side) same c.comes_to in
    let r = laws.rests page plugin given w t in
    let b = laws.begins page plugin given r.0 c.side r.1 w t at r.2 r.3 in
    record {
      n = r.0;
      side = r.1;
      lines = c.lines;
      taken = c.sent;
      whole = r.2;
      rests = r.3;
      lines_part = begins-then r.1.journal c.side.journal c.lines (record { rest = b.0.0; parts = b.0.1 }) c.lines_part;
      printed = c.printed;
      taken_part = begins-then (encodings r.1.sent) (encodings c.side.sent) c.sent (messages-begin r.1.sent c.side.sent b.1.0 b.1.1) c.sent_part;
      exchange = exchange-follows laws.waits page plugin old new given c.sent w t (subst (λ (l : List ℕ). Exchanged (plugin_role plugin) old new l c.sent) same c.exchanged);
    }

outcome-follows : RunLaws → (page : Page) (plugin : Plugin) (old : Known) (first : List ℕ) (new : Known) (sink given : List ℕ) (ending : Ending) → length page.commands ≤ 1048576 → OutcomeOf plugin ending old first new sink → IsWellFormed page → new.given ≡ old.given ++ given → IsPageText page plugin given
    → PluginDone page plugin old first new sink given ⊎ (PluginLeft page plugin old first new sink given ⊎ PluginBroken page plugin old first new sink given)
outcome-follows laws page plugin old first new sink given endings.Done short o w e t = inl (done-follows laws.waits laws.ends page plugin old first new sink given o w e t)
outcome-follows laws page plugin old first new sink given endings.Unsent short o w e t = inr (inr (broken-follows laws.waits laws.ends page plugin old first new sink given o w e t))
outcome-follows laws page plugin old first new sink given endings.Ended short o w e t = inr (inl (left-follows laws.waits page plugin old first new sink given o w e t))
outcome-follows laws page plugin old first new sink given endings.Failed short o w e t = inr (inr (broken-follows laws.waits laws.ends page plugin old first new sink given o w e t))
outcome-follows laws page plugin old first new sink given (endings.Refused r) short o w e t = absurd (never-refused laws.never laws.few page plugin old first new sink given short o w e t)

cut-follows : RunLaws → (pipe_failed peer_ended : Type 0) (plugin : Plugin) (old : Known) (first : List ℕ) (new : Known) (sink : List ℕ) → CutShort pipe_failed peer_ended plugin old first new sink → ForEachPage PluginCut plugin old first new sink
cut-follows laws pipe_failed peer_ended plugin old first new sink (before, inl c) page given scripted e t = (before, inl (interrupted-follows laws page plugin old first new sink given c (laws.formed scripted.script page scripted.says).0 e t))
cut-follows laws pipe_failed peer_ended plugin old first new sink (before, inr (ending, reason, c)) page given scripted e t =
    let w = laws.formed scripted.script page scripted.says in
    (before, inr (c.whole, c.part, c.unfinished, c.first_stays, outcome-follows laws page plugin old first new c.whole given ending w.1 c.reached w.0 e t))

-- ---- of a run of the plug-in program

script-follows : RunLaws → (pipe_failed peer_ended : Type 0) (name : List ℕ) (file_failed : Type 0) (files : Option Contents) (known0 known1 : Option Known) (taken0 taken1 : Option (List ℕ)) → RunCut (CutShort pipe_failed peer_ended) name file_failed files known0 known1 taken0 taken1 → RunCut (ForEachPage PluginCut) name file_failed files known0 known1 taken0 taken1
script-follows laws pipe_failed peer_ended name file_failed files known0 known1 taken0 taken1 cut f old first told k o =
    let x = cut f old first told k o in
    (x.0, x.1, x.2, x.3, ⊎_elim (λ early. inl early) (λ c. inr (c.0, c.1, cut-follows laws pipe_failed peer_ended c.0 old first x.0 x.1 c.2)) x.4)

pub follows-cut : RunLaws → (pipe_failed peer_ended : Type 0) (words : List (List ℕ)) (file_failed : Type 0) (files : Option Contents) (known0 known1 : Option Known) (taken0 taken1 : Option (List ℕ)) → CutWords (CutShort pipe_failed peer_ended) words file_failed files known0 known1 taken0 taken1 → CutWords (ForEachPage PluginCut) words file_failed files known0 known1 taken0 taken1
follows-cut laws pipe_failed peer_ended words file_failed files known0 known1 taken0 taken1 cut = at (script_word words) cut
  where
    at : (o : Option (List ℕ)) → OfScript o (λ name. RunCut (CutShort pipe_failed peer_ended) name file_failed files known0 known1 taken0 taken1) ⊥ → OfScript o (λ name. RunCut (ForEachPage PluginCut) name file_failed files known0 known1 taken0 taken1) ⊥
    at None h = h
    at (Some name) h = script-follows laws pipe_failed peer_ended name file_failed files known0 known1 taken0 taken1 h
