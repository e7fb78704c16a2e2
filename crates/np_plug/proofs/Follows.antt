-- From the plug-in alone to the one process.
use Rattle.std.proofs.Common.{◌≡◌, ℕ, ◌-◌, ◌≤◌, List, [], ◌∷◌, ◌++◌, length, take, drop, Option, Some, None, sym, ap, subst, ◌∙◌, append_assoc, arith, inl, inr}
use Rattle.std.specs.List.{AllByRecursion}
use Rattle.std.proofs.lemmas.List.{take-append-drop, append_cancel_left}
use Rattle.np_model.specs.declared.script.Page.{Page}
use Rattle.np_message.specs.Encoding.{encodings}
use Rattle.np_model.specs.declared.script.Plugin.{Plugin}
use Rattle.np_model.specs.Script.{IsWellFormed}
use Rattle.np_model.specs.PluginRun.{IsPageText}
use Rattle.np_ports.specs.Peer.{Known}
use Rattle.np_ports.specs.Files.{Contents}
use Rattle.np_model.specs.Alone.{plugin_role, WaitsAt, EndsAt, RefusesAt}
use Rattle.np_model.proofs.Paces.{plugin-listening, plugin-ended}
use Rattle.np_model_wire_laws.specs.PluginPrefix.{PluginWaitsLaw, PluginEndsLaw, PluginNeverRefusesLaw, PageFewBytesLaw}
use Rattle.np_model_scripts.specs.Laws.{ServedPagesAreWellFormed}
use Rattle.np_end_stops.specs.declared.ending.Ending.{Ending}
use Rattle.np_end_stops.specs.declared.ending.Ending.TheVariants as endings
use Rattle.np_exchange.specs.Session.{ReadsWell, Exchanged, Completed}
use Rattle.np_plug.specs.Outcomes.{PeerEnded, PipeFailed, PeerRefused, OutcomeOf}
use Rattle.np_end_stops.specs.Status.{status_of, IsRunStatus}
use Rattle.np_plug.specs.Plug.{script_word, OfScript, RunsPlugin, RunsWords}
use Rattle.np_plug.specs.Main.{ReadFollows, FollowsExchange, PluginDone, PluginLeft, PluginBroken, PluginRefused, FollowsScript, FollowsWords}

-- a prefix of a prefix
shorter-text : (page : Page) (plugin : Plugin) (given : List ℕ) (n : ℕ) → IsPageText page plugin given → IsPageText page plugin (take n given)
shorter-text page plugin given n t = record {
  rounds = t.rounds;
  rest = drop n given ++ t.rest;
  text = t.text ∙ ap (λ (l : List ℕ). l ++ t.rest) (sym (take-append-drop n given)) ∙ append_assoc (take n given) (drop n given) t.rest;
}

read-follows : PluginWaitsLaw → (page : Page) (plugin : Plugin) (old : Known) (given taken : List ℕ) (r : ℕ × ℕ) → IsWellFormed page → IsPageText page plugin given → ReadsWell (plugin_role plugin) old given taken r → ReadFollows page plugin old given taken r
read-follows waits page plugin old given taken r f t w =
    let x = waits page plugin (take (r.1 - length old.given) given) w.side f (shorter-text page plugin given (r.1 - length old.given) t) w.waits in
    record { n = length w.side.examined; side = w.side; whole = x.1; rests = x.0; taken_is = w.taken }

each-follows : PluginWaitsLaw → (page : Page) (plugin : Plugin) (old : Known) (given taken : List ℕ) (rs : List (ℕ × ℕ)) → IsWellFormed page → IsPageText page plugin given → AllByRecursion (ReadsWell (plugin_role plugin) old given taken) rs → AllByRecursion (ReadFollows page plugin old given taken) rs
each-follows waits page plugin old given taken [] f t all = tt
each-follows waits page plugin old given taken (r ∷ rs) f t all = (read-follows waits page plugin old given taken r f t all.0, each-follows waits page plugin old given taken rs f t all.1)

pub exchange-follows : PluginWaitsLaw → (page : Page) (plugin : Plugin) (old new : Known) (given taken : List ℕ) → IsWellFormed page → IsPageText page plugin given → Exchanged (plugin_role plugin) old new given taken → FollowsExchange page plugin old new given taken
exchange-follows waits page plugin old new given taken f t x = record {
  reads = x.reads;
  taken_is = x.taken;
  starts = x.starts;
  reads_are = x.reads_are;
  each = each-follows waits page plugin old given taken x.reads f t x.each;
}

-- the bytes that the session got are those that the peer gave
pub same-given : (plugin : Plugin) (old new : Known) (got sent given : List ℕ) → Exchanged (plugin_role plugin) old new got sent → new.given ≡ old.given ++ given → got ≡ given
same-given plugin old new got sent given x e = append_cancel_left old.given got given (sym x.given ∙ e)

pub done-follows : PluginWaitsLaw → PluginEndsLaw → (page : Page) (plugin : Plugin) (old : Known) (first : List ℕ) (new : Known) (sink given : List ℕ) → Completed (plugin_role plugin) old first new sink → IsWellFormed page → new.given ≡ old.given ++ given → IsPageText page plugin given → PluginDone page plugin old first new sink given
done-follows waits ends page plugin old first new sink given c f e t =
    let same = same-given plugin old new c.got c.sent given c.exchanged e in
    let at = subst (λ (l : List ℕ). EndsAt (plugin_role plugin) l c.side) same c.ends in
    let x = ends page plugin given c.side f t at in
    let y = subst (λ (l : List ℕ). Exchanged (plugin_role plugin) old new l c.sent) same c.exchanged in
    record {
      n = length c.side.examined;
      side = c.side;
      whole = x.1;
      rests = x.0;
      ended = plugin-ended c.side.control.stage at.ended;
      printed = c.printed;
      exchange = exchange-follows waits page plugin old new given (encodings c.side.sent) f t (subst (λ (l : List ℕ). Exchanged (plugin_role plugin) old new given l) c.sent_is y);
    }

pub left-follows : PluginWaitsLaw → (page : Page) (plugin : Plugin) (old : Known) (first : List ℕ) (new : Known) (sink given : List ℕ) → PeerEnded plugin old first new sink → IsWellFormed page → new.given ≡ old.given ++ given → IsPageText page plugin given → PluginLeft page plugin old first new sink given
left-follows waits page plugin old first new sink given c f e t =
    let same = same-given plugin old new c.got c.sent given c.exchanged e in
    let at = subst (λ (l : List ℕ). WaitsAt (plugin_role plugin) l c.side) same c.waits in
    let x = waits page plugin given c.side f t at in
    let y = subst (λ (l : List ℕ). Exchanged (plugin_role plugin) old new l c.sent) same c.exchanged in
    record {
      n = length c.side.examined;
      side = c.side;
      whole = x.1;
      rests = x.0;
      listens = plugin-listening c.side.control.stage at.awaits;
      printed = c.printed;
      exchange = exchange-follows waits page plugin old new given (encodings c.side.sent) f t (subst (λ (l : List ℕ). Exchanged (plugin_role plugin) old new given l) c.sent_is y);
    }

pub broken-follows : PluginWaitsLaw → PluginEndsLaw → (page : Page) (plugin : Plugin) (old : Known) (first : List ℕ) (new : Known) (sink given : List ℕ) → PipeFailed plugin old first new sink → IsWellFormed page → new.given ≡ old.given ++ given → IsPageText page plugin given → PluginBroken page plugin old first new sink given
broken-follows waits ends page plugin old first new sink given c f e t =
    let same = same-given plugin old new c.got c.sent given c.exchanged e in
    let y = exchange-follows waits page plugin old new given c.sent f t (subst (λ (l : List ℕ). Exchanged (plugin_role plugin) old new l c.sent) same c.exchanged) in
    elim c.rests as (λ rests. PluginBroken page plugin old first new sink given) [
      | inl w ↦ (let x = waits page plugin given c.side f t (subst (λ (l : List ℕ). WaitsAt (plugin_role plugin) l c.side) same w) in
          record { n = length c.side.examined; side = c.side; taken = c.sent; whole = x.1; rests = x.0; printed = c.printed; taken_part = c.sent_part; exchange = y })
      | inr d ↦ (let x = ends page plugin given c.side f t (subst (λ (l : List ℕ). EndsAt (plugin_role plugin) l c.side) same d) in
          record { n = length c.side.examined; side = c.side; taken = c.sent; whole = x.1; rests = x.0; printed = c.printed; taken_part = c.sent_part; exchange = y })
    ]

pub never-refused : PluginNeverRefusesLaw → PageFewBytesLaw → (page : Page) (plugin : Plugin) (old : Known) (first : List ℕ) (new : Known) (sink given : List ℕ) → length page.commands ≤ 1048576 → PeerRefused plugin old first new sink → IsWellFormed page → new.given ≡ old.given ++ given → IsPageText page plugin given → ⊥
never-refused never few page plugin old first new sink given short c f e t =
    let same = same-given plugin old new c.got c.sent given c.exchanged e in
    let at = subst (λ (l : List ℕ). RefusesAt (plugin_role plugin) l c.side c.refusal) same c.refuses in
    elim at.refusal [
      | inl refused ↦ never page plugin given f t c.side c.refusal at.comes_to refused
      | inr full ↦ (let n = few page plugin given f t in let m = full.1 in absurd (omega (arith, n, m, short)))
    ]

-- ---- of a run of the plug-in program

ends-done : (plugin : Plugin) (old : Known) (first : List ℕ) (new : Known) (sink : List ℕ) (ending : Ending) → 0 ≡ status_of ending → OutcomeOf plugin ending old first new sink → Completed (plugin_role plugin) old first new sink
ends-done plugin old first new sink endings.Done e o = o
ends-done plugin old first new sink endings.Unsent e o = absurd (omega arith)
ends-done plugin old first new sink endings.Ended e o = absurd (omega arith)
ends-done plugin old first new sink endings.Failed e o = absurd (omega arith)
ends-done plugin old first new sink (endings.Refused r) e o = absurd (omega arith)

ends-left : (plugin : Plugin) (old : Known) (first : List ℕ) (new : Known) (sink : List ℕ) (ending : Ending) → 5 ≡ status_of ending → OutcomeOf plugin ending old first new sink → PeerEnded plugin old first new sink
ends-left plugin old first new sink endings.Done e o = absurd (omega arith)
ends-left plugin old first new sink endings.Unsent e o = absurd (omega arith)
ends-left plugin old first new sink endings.Ended e o = o
ends-left plugin old first new sink endings.Failed e o = absurd (omega arith)
ends-left plugin old first new sink (endings.Refused r) e o = absurd (omega arith)

ends-broken : (plugin : Plugin) (old : Known) (first : List ℕ) (new : Known) (sink : List ℕ) (ending : Ending) → 6 ≡ status_of ending → OutcomeOf plugin ending old first new sink → PipeFailed plugin old first new sink
ends-broken plugin old first new sink endings.Done e o = absurd (omega arith)
ends-broken plugin old first new sink endings.Unsent e o = o
ends-broken plugin old first new sink endings.Ended e o = absurd (omega arith)
ends-broken plugin old first new sink endings.Failed e o = o
ends-broken plugin old first new sink (endings.Refused r) e o = absurd (omega arith)

ends-refused : (plugin : Plugin) (old : Known) (first : List ℕ) (new : Known) (sink : List ℕ) (ending : Ending) → 7 ≡ status_of ending → OutcomeOf plugin ending old first new sink → PeerRefused plugin old first new sink
ends-refused plugin old first new sink endings.Done e o = absurd (omega arith)
ends-refused plugin old first new sink endings.Unsent e o = absurd (omega arith)
ends-refused plugin old first new sink endings.Ended e o = absurd (omega arith)
ends-refused plugin old first new sink endings.Failed e o = absurd (omega arith)
ends-refused plugin old first new sink (endings.Refused r) e o = o

-- what holds of each plug-in that ran to this status, with each page script, holds of the run of the words
from-plugin : ServedPagesAreWellFormed → (outcome : Page → Plugin → Known → List ℕ → Known → List ℕ → List ℕ → Type 0) (words : List (List ℕ)) (files : Option Contents) (known0 known1 : Option Known) (taken0 taken1 : Option (List ℕ)) (status : ℕ) → IsRunStatus status
    → ((page : Page) (plugin : Plugin) (old : Known) (first : List ℕ) (new : Known) (sink given : List ℕ) (ending : Ending) → length page.commands ≤ 1048576 → IsWellFormed page → status ≡ status_of ending → OutcomeOf plugin ending old first new sink → new.given ≡ old.given ++ given → IsPageText page plugin given → outcome page plugin old first new sink given)
    → RunsWords words files known0 known1 taken0 taken1 status → FollowsWords outcome words files known0 known1 taken0 taken1
from-plugin formed outcome words files known0 known1 taken0 taken1 status ran each runs = at (script_word words) runs
  where
    at : (o : Option (List ℕ)) → OfScript o (λ name. RunsPlugin name files known0 known1 taken0 taken1 status) (IsRunStatus status → ⊥) → OfScript o (λ name. FollowsScript outcome name files known0 known1 taken0 taken1) ⊥
    at None h = h ran
    at (Some name) h = λ f old first told k o.
        let x = h ran f old first told k o in
        let y = x.4 in (
          x.0,
          x.2,
          (
            y.0,
            y.1,
            y.2,
            y.3,
            λ page given scripted e t.
                let w = formed scripted.script page scripted.says in
                each page x.0 old first y.0 y.1 given x.1 w.1 w.0 x.3 y.4 e t,
          ),
        )

pub follows-done : ServedPagesAreWellFormed → PluginWaitsLaw → PluginEndsLaw → (words : List (List ℕ)) (files : Option Contents) (known0 known1 : Option Known) (taken0 taken1 : Option (List ℕ)) (status : ℕ) → status ≡ 0 → RunsWords words files known0 known1 taken0 taken1 status → FollowsWords PluginDone words files known0 known1 taken0 taken1
follows-done formed waits ends words files known0 known1 taken0 taken1 status is runs =
    from-plugin formed PluginDone words files known0 known1 taken0 taken1 status (inl is)
    (λ page plugin old first new sink given ending short f s o e t. done-follows waits ends page plugin old first new sink given (ends-done plugin old first new sink ending (sym is ∙ s) o) f e t) runs

pub follows-left : ServedPagesAreWellFormed → PluginWaitsLaw → (words : List (List ℕ)) (files : Option Contents) (known0 known1 : Option Known) (taken0 taken1 : Option (List ℕ)) (status : ℕ) → status ≡ 5 → RunsWords words files known0 known1 taken0 taken1 status → FollowsWords PluginLeft words files known0 known1 taken0 taken1
follows-left formed waits words files known0 known1 taken0 taken1 status is runs =
    from-plugin formed PluginLeft words files known0 known1 taken0 taken1 status (inr (inl is))
    (λ page plugin old first new sink given ending short f s o e t. left-follows waits page plugin old first new sink given (ends-left plugin old first new sink ending (sym is ∙ s) o) f e t) runs

pub follows-broken : ServedPagesAreWellFormed → PluginWaitsLaw → PluginEndsLaw → (words : List (List ℕ)) (files : Option Contents) (known0 known1 : Option Known) (taken0 taken1 : Option (List ℕ)) (status : ℕ) → status ≡ 6 → RunsWords words files known0 known1 taken0 taken1 status → FollowsWords PluginBroken words files known0 known1 taken0 taken1
follows-broken formed waits ends words files known0 known1 taken0 taken1 status is runs =
    from-plugin formed PluginBroken words files known0 known1 taken0 taken1 status (inr (inr (inl is)))
    (λ page plugin old first new sink given ending short f s o e t. broken-follows waits ends page plugin old first new sink given (ends-broken plugin old first new sink ending (sym is ∙ s) o) f e t) runs

pub follows-refused : ServedPagesAreWellFormed → PluginNeverRefusesLaw → PageFewBytesLaw → (words : List (List ℕ)) (files : Option Contents) (known0 known1 : Option Known) (taken0 taken1 : Option (List ℕ)) (status : ℕ) → status ≡ 7 → RunsWords words files known0 known1 taken0 taken1 status → FollowsWords PluginRefused words files known0 known1 taken0 taken1
follows-refused formed never few words files known0 known1 taken0 taken1 status is runs =
    from-plugin formed PluginRefused words files known0 known1 taken0 taken1 status (inr (inr (inr is)))
    (λ page plugin old first new sink given ending short f s o e t. never-refused never few page plugin old first new sink given short (ends-refused plugin old first new sink ending (sym is ∙ s) o) f e t) runs
