-- From the page alone to the one process.
use Rattle.std.proofs.Common.{◌≡◌, ℕ, ◌-◌, ◌≤◌, List, [], ◌∷◌, ◌++◌, length, take, drop, Option, Some, None, sym, ap, subst, ◌∙◌, append_assoc, arith, inl, inr}
use Rattle.std.specs.List.{AllByRecursion}
use Rattle.std.proofs.lemmas.List.{take-append-drop, append_cancel_left}
use Rattle.np_model.specs.declared.script.Page.{Page}
use Rattle.np_message.specs.Encoding.{encodings}
use Rattle.np_model.specs.declared.script.Plugin.{Plugin}
use Rattle.np_model.specs.HostRun.{IsPluginText}
use Rattle.np_ports.specs.Peer.{Known, started}
use Rattle.np_ports.specs.Files.{Contents}
use Rattle.np_model.specs.Alone.{page_role, WaitsAt, EndsAt, RefusesAt}
use Rattle.np_model.proofs.Paces.{page-awaiting, page-ended}
use Rattle.np_model_scripts.specs.Laws.{ServedPagesAreWellFormed}
use Rattle.np_model_wire_laws.specs.Prefix.{WaitsLaw, EndsLaw, NeverRefusesLaw, FewBytesLaw}
use Rattle.np_end_stops.specs.declared.ending.Ending.{Ending}
use Rattle.np_end_stops.specs.declared.ending.Ending.TheVariants as endings
use Rattle.np_host.specs.Words.{HostCommand, Run, Check, Show, host_command}
use Rattle.np_exchange.specs.Session.{ReadsWell, Exchanged, Completed}
use Rattle.np_host.specs.Outcomes.{PeerEnded, PipeFailed, PeerRefused, OutcomeOf}
use Rattle.np_end_stops.specs.Status.{status_of, IsRunStatus}
use Rattle.np_host.specs.Host.{OfRun, RunsPage, RunsWords}
use Rattle.np_host.specs.Main.{ReadFollows, FollowsExchange, HostDone, HostLost, HostBroken, HostRefused, FollowsPage, FollowsWords}

-- a prefix of a prefix
shorter-text : (page : Page) (plugin : Plugin) (given : List ℕ) (n : ℕ) → IsPluginText page plugin given → IsPluginText page plugin (take n given)
shorter-text page plugin given n t = record {
  rounds = t.rounds;
  rest = drop n given ++ t.rest;
  text = t.text ∙ ap (λ (l : List ℕ). l ++ t.rest) (sym (take-append-drop n given)) ∙ append_assoc (take n given) (drop n given) t.rest;
}

read-follows : WaitsLaw → (page : Page) (plugin : Plugin) (old : Known) (given taken : List ℕ) (r : ℕ × ℕ) → IsPluginText page plugin given → ReadsWell (page_role page) old given taken r → ReadFollows page plugin old given taken r
read-follows waits page plugin old given taken r t w =
    let x = waits page plugin (take (r.1 - length old.given) given) w.side (shorter-text page plugin given (r.1 - length old.given) t) w.waits in
    record { n = length w.side.examined; side = w.side; whole = x.1; rests = x.0; taken_is = w.taken }

each-follows : WaitsLaw → (page : Page) (plugin : Plugin) (old : Known) (given taken : List ℕ) (rs : List (ℕ × ℕ)) → IsPluginText page plugin given → AllByRecursion (ReadsWell (page_role page) old given taken) rs → AllByRecursion (ReadFollows page plugin old given taken) rs
each-follows waits page plugin old given taken [] t all = tt
each-follows waits page plugin old given taken (r ∷ rs) t all = (read-follows waits page plugin old given taken r t all.0, each-follows waits page plugin old given taken rs t all.1)

pub exchange-follows : WaitsLaw → (page : Page) (plugin : Plugin) (old new : Known) (given taken : List ℕ) → IsPluginText page plugin given → Exchanged (page_role page) old new given taken → FollowsExchange page plugin old new given taken
exchange-follows waits page plugin old new given taken t x = record {
  reads = x.reads;
  taken_is = x.taken;
  starts = x.starts;
  reads_are = x.reads_are;
  each = each-follows waits page plugin old given taken x.reads t x.each;
}

-- the bytes that the session got are those that the peer gave
pub same-given : (page : Page) (old new : Known) (got sent given : List ℕ) → Exchanged (page_role page) old new got sent → new.given ≡ old.given ++ given → got ≡ given
same-given page old new got sent given x e = append_cancel_left old.given got given (sym x.given ∙ e)

pub done-follows : WaitsLaw → EndsLaw → (page : Page) (plugin : Plugin) (old : Known) (first : List ℕ) (new : Known) (sink given : List ℕ) → Completed (page_role page) old first new sink → new.given ≡ old.given ++ given → IsPluginText page plugin given → HostDone page plugin old first new sink given
done-follows waits ends page plugin old first new sink given c e t =
    let same = same-given page old new c.got c.sent given c.exchanged e in
    let at = subst (λ (l : List ℕ). EndsAt (page_role page) l c.side) same c.ends in
    let x = ends page plugin given c.side t at in
    let y = subst (λ (l : List ℕ). Exchanged (page_role page) old new l c.sent) same c.exchanged in
    record {
      n = length c.side.examined;
      side = c.side;
      whole = x.1;
      rests = x.0;
      ended = page-ended c.side.control.stage at.ended;
      printed = c.printed;
      exchange = exchange-follows waits page plugin old new given (encodings c.side.sent) t (subst (λ (l : List ℕ). Exchanged (page_role page) old new given l) c.sent_is y);
    }

pub lost-follows : WaitsLaw → (page : Page) (plugin : Plugin) (old : Known) (first : List ℕ) (new : Known) (sink given : List ℕ) → PeerEnded page old first new sink → new.given ≡ old.given ++ given → IsPluginText page plugin given → HostLost page plugin old first new sink given
lost-follows waits page plugin old first new sink given c e t =
    let same = same-given page old new c.got c.sent given c.exchanged e in
    let at = subst (λ (l : List ℕ). WaitsAt (page_role page) l c.side) same c.waits in
    let x = waits page plugin given c.side t at in
    let y = subst (λ (l : List ℕ). Exchanged (page_role page) old new l c.sent) same c.exchanged in
    record {
      n = length c.side.examined;
      side = c.side;
      last = c.last;
      whole = x.1;
      rests = x.0;
      awaits = page-awaiting c.side.control.stage at.awaits;
      lost = c.lost;
      printed = c.printed;
      exchange = exchange-follows waits page plugin old new given (encodings c.side.sent) t (subst (λ (l : List ℕ). Exchanged (page_role page) old new given l) c.sent_is y);
    }

pub broken-follows : WaitsLaw → EndsLaw → (page : Page) (plugin : Plugin) (old : Known) (first : List ℕ) (new : Known) (sink given : List ℕ) → PipeFailed page old first new sink → new.given ≡ old.given ++ given → IsPluginText page plugin given → HostBroken page plugin old first new sink given
broken-follows waits ends page plugin old first new sink given c e t =
    let same = same-given page old new c.got c.sent given c.exchanged e in
    let y = exchange-follows waits page plugin old new given c.sent t (subst (λ (l : List ℕ). Exchanged (page_role page) old new l c.sent) same c.exchanged) in
    elim c.rests as (λ rests. HostBroken page plugin old first new sink given) [
      | inl w ↦ (let at = subst (λ (l : List ℕ). WaitsAt (page_role page) l c.side) same w.0 in
          let x = waits page plugin given c.side t at in
          record { n = length c.side.examined; side = c.side; lines = c.lines; taken = c.sent; whole = x.1; rests = x.0; lines_are = inl (page-awaiting c.side.control.stage at.awaits, w.1); printed = c.printed; taken_part = c.sent_part; exchange = y })
      | inr d ↦ (let at = subst (λ (l : List ℕ). EndsAt (page_role page) l c.side) same d.0 in
          let x = ends page plugin given c.side t at in
          record { n = length c.side.examined; side = c.side; lines = c.lines; taken = c.sent; whole = x.1; rests = x.0; lines_are = inr (page-ended c.side.control.stage at.ended, d.1); printed = c.printed; taken_part = c.sent_part; exchange = y })
    ]

pub never-refused : NeverRefusesLaw → FewBytesLaw → (page : Page) (plugin : Plugin) (old : Known) (first : List ℕ) (new : Known) (sink given : List ℕ) → length page.commands ≤ 1048576 → PeerRefused page old first new sink → new.given ≡ old.given ++ given → IsPluginText page plugin given → ⊥
never-refused never few page plugin old first new sink given short c e t =
    let same = same-given page old new c.got c.sent given c.exchanged e in
    let at = subst (λ (l : List ℕ). RefusesAt (page_role page) l c.side c.refusal) same c.refuses in
    elim at.refusal [
      | inl refused ↦ never page plugin given t c.side c.refusal at.comes_to refused
      | inr full ↦ (let n = few page plugin given t in let m = full.1 in absurd (omega (arith, n, m, short)))
    ]

-- ---- of a run of the host

ends-done : (page : Page) (old : Known) (first : List ℕ) (new : Known) (sink : List ℕ) (ending : Ending) → 0 ≡ status_of ending → OutcomeOf page ending old first new sink → Completed (page_role page) old first new sink
ends-done page old first new sink endings.Done e o = o
ends-done page old first new sink endings.Unsent e o = absurd (omega arith)
ends-done page old first new sink endings.Ended e o = absurd (omega arith)
ends-done page old first new sink endings.Failed e o = absurd (omega arith)
ends-done page old first new sink (endings.Refused r) e o = absurd (omega arith)

ends-lost : (page : Page) (old : Known) (first : List ℕ) (new : Known) (sink : List ℕ) (ending : Ending) → 5 ≡ status_of ending → OutcomeOf page ending old first new sink → PeerEnded page old first new sink
ends-lost page old first new sink endings.Done e o = absurd (omega arith)
ends-lost page old first new sink endings.Unsent e o = absurd (omega arith)
ends-lost page old first new sink endings.Ended e o = o
ends-lost page old first new sink endings.Failed e o = absurd (omega arith)
ends-lost page old first new sink (endings.Refused r) e o = absurd (omega arith)

ends-broken : (page : Page) (old : Known) (first : List ℕ) (new : Known) (sink : List ℕ) (ending : Ending) → 6 ≡ status_of ending → OutcomeOf page ending old first new sink → PipeFailed page old first new sink
ends-broken page old first new sink endings.Done e o = absurd (omega arith)
ends-broken page old first new sink endings.Unsent e o = o
ends-broken page old first new sink endings.Ended e o = absurd (omega arith)
ends-broken page old first new sink endings.Failed e o = o
ends-broken page old first new sink (endings.Refused r) e o = absurd (omega arith)

ends-refused : (page : Page) (old : Known) (first : List ℕ) (new : Known) (sink : List ℕ) (ending : Ending) → 7 ≡ status_of ending → OutcomeOf page ending old first new sink → PeerRefused page old first new sink
ends-refused page old first new sink endings.Done e o = absurd (omega arith)
ends-refused page old first new sink endings.Unsent e o = absurd (omega arith)
ends-refused page old first new sink endings.Ended e o = absurd (omega arith)
ends-refused page old first new sink endings.Failed e o = absurd (omega arith)
ends-refused page old first new sink (endings.Refused r) e o = o

-- what holds of each page that ran to this status holds of the run of the words
pub from-page : ServedPagesAreWellFormed → (outcome : Page → Plugin → Known → List ℕ → Known → List ℕ → List ℕ → Type 0) (words : List (List ℕ)) (files : Option Contents) (known0 known1 : Option Known) (taken0 taken1 : Option (List ℕ)) (status : ℕ) → IsRunStatus status
    → ((page : Page) (plugin : Plugin) (old : Known) (first : List ℕ) (new : Known) (sink given : List ℕ) (ending : Ending) → length page.commands ≤ 1048576 → status ≡ status_of ending → OutcomeOf page ending old first new sink → new.given ≡ old.given ++ given → IsPluginText page plugin given → outcome page plugin old first new sink given)
    → RunsWords words files known0 known1 taken0 taken1 status → FollowsWords outcome words files known0 known1 taken0 taken1
from-page formed outcome words files known0 known1 taken0 taken1 status ran each runs = at (host_command words) runs
  where
    at : (o : Option HostCommand) → OfRun o (λ r. RunsPage r.page r.program files known0 known1 taken0 taken1 status) (IsRunStatus status → ⊥) → OfRun o (λ r. FollowsPage outcome r.page r.program files known0 known1 taken0 taken1) ⊥
    at None h = h ran
    at (Some (Check side file)) h = tt
    at (Some (Show file)) h = tt
    at (Some (Run r)) h = λ f old first told k o.
        let x = h ran f old first told k o in
        let y = x.4 in
        (x.0, x.2, (y.0, y.1, y.2, y.3, λ plugin given e t. each x.0 plugin (started old r.program) first y.0 y.1 given x.1 (formed (f r.page) x.0 x.2).1 x.3 y.4 e t))

pub follows-done : ServedPagesAreWellFormed → WaitsLaw → EndsLaw → (words : List (List ℕ)) (files : Option Contents) (known0 known1 : Option Known) (taken0 taken1 : Option (List ℕ)) (status : ℕ) → status ≡ 0 → RunsWords words files known0 known1 taken0 taken1 status → FollowsWords HostDone words files known0 known1 taken0 taken1
follows-done formed waits ends words files known0 known1 taken0 taken1 status is runs =
    from-page formed HostDone words files known0 known1 taken0 taken1 status (inl is)
    (λ page plugin old first new sink given ending short s o e t. done-follows waits ends page plugin old first new sink given (ends-done page old first new sink ending (sym is ∙ s) o) e t) runs

pub follows-lost : ServedPagesAreWellFormed → WaitsLaw → (words : List (List ℕ)) (files : Option Contents) (known0 known1 : Option Known) (taken0 taken1 : Option (List ℕ)) (status : ℕ) → status ≡ 5 → RunsWords words files known0 known1 taken0 taken1 status → FollowsWords HostLost words files known0 known1 taken0 taken1
follows-lost formed waits words files known0 known1 taken0 taken1 status is runs =
    from-page formed HostLost words files known0 known1 taken0 taken1 status (inr (inl is))
    (λ page plugin old first new sink given ending short s o e t. lost-follows waits page plugin old first new sink given (ends-lost page old first new sink ending (sym is ∙ s) o) e t) runs

pub follows-broken : ServedPagesAreWellFormed → WaitsLaw → EndsLaw → (words : List (List ℕ)) (files : Option Contents) (known0 known1 : Option Known) (taken0 taken1 : Option (List ℕ)) (status : ℕ) → status ≡ 6 → RunsWords words files known0 known1 taken0 taken1 status → FollowsWords HostBroken words files known0 known1 taken0 taken1
follows-broken formed waits ends words files known0 known1 taken0 taken1 status is runs =
    from-page formed HostBroken words files known0 known1 taken0 taken1 status (inr (inr (inl is)))
    (λ page plugin old first new sink given ending short s o e t. broken-follows waits ends page plugin old first new sink given (ends-broken page old first new sink ending (sym is ∙ s) o) e t) runs

pub follows-refused : ServedPagesAreWellFormed → NeverRefusesLaw → FewBytesLaw → (words : List (List ℕ)) (files : Option Contents) (known0 known1 : Option Known) (taken0 taken1 : Option (List ℕ)) (status : ℕ) → status ≡ 7 → RunsWords words files known0 known1 taken0 taken1 status → FollowsWords HostRefused words files known0 known1 taken0 taken1
follows-refused formed never few words files known0 known1 taken0 taken1 status is runs =
    from-page formed HostRefused words files known0 known1 taken0 taken1 status (inr (inr (inr is)))
    (λ page plugin old first new sink given ending short s o e t. never-refused never few page plugin old first new sink given short (ends-refused page old first new sink ending (sym is ∙ s) o) e t) runs
