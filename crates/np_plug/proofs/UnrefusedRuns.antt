-- Where a run wasn't ended by a refusal, its plug-in refuses nothing.
use Rattle.std.proofs.Common.{◌≡◌, ℕ, ◌^◌, ◌<◌, List, ◌++◌, length, inl, inr, Option, None, Some, sym, subst, ◌∙◌, arith}
use Rattle.np_model.specs.declared.script.Plugin.{Plugin}
use Rattle.np_ports.specs.Peer.{Known}
use Rattle.np_ports.specs.Files.{Contents}
use Rattle.np_model.specs.PluginPlan.{PluginControl}
use Rattle.np_model.specs.Alone.{plugin_role, RefusesNothing}
use Rattle.np_model_wire_laws.specs.Prefix.{RestsUnrefusedLaw}
use Rattle.np_end_stops.specs.declared.ending.Ending.{Ending}
use Rattle.np_end_stops.specs.declared.ending.Ending.TheVariants as endings
use Rattle.np_end_stops.specs.Status.{status_of, IsRunStatus}
use Rattle.np_exchange.specs.Closing.{IsUnrefusedStatus}
use Rattle.np_exchange.proofs.Sessions.{never-seven, unrefused-run}
use Rattle.np_plug.specs.Outcomes.{PipeFailed, OutcomeOf}
use Rattle.np_plug.specs.Plug.{script_word, OfScript, RunsPlugin, RunsWords, RunsUnrefused, UnrefusedWords}

-- what the peer gave, of which nothing is refused
record Unrefused (plugin : Plugin) (old new : Known) (status : ℕ) : Type 0 where
  got : List ℕ
  given : new.given ≡ old.given ++ got
  nothing : RefusesNothing (plugin_role plugin) got
  below_limit : status ≡ 5 → length got < 2 ^ 40

failed-unrefused : RestsUnrefusedLaw PluginControl → (plugin : Plugin) (old : Known) (first : List ℕ) (new : Known) (sink : List ℕ) → PipeFailed plugin old first new sink → Unrefused plugin old new 6
failed-unrefused law plugin old first new sink o = record { got = o.got; given = o.exchanged.given; nothing = law (plugin_role plugin) o.got o.side o.rests; below_limit = λ e. absurd (omega arith) }

outcome-unrefused : RestsUnrefusedLaw PluginControl → (plugin : Plugin) (old : Known) (first : List ℕ) (new : Known) (sink : List ℕ) (ending : Ending) → IsUnrefusedStatus (status_of ending) → OutcomeOf plugin ending old first new sink → Unrefused plugin old new (status_of ending)
outcome-unrefused law plugin old first new sink endings.Done is o = record { got = o.got; given = o.exchanged.given; nothing = law (plugin_role plugin) o.got o.side (inr o.ends); below_limit = λ e. absurd (omega arith) }
outcome-unrefused law plugin old first new sink endings.Unsent is o = failed-unrefused law plugin old first new sink o
outcome-unrefused law plugin old first new sink endings.Ended is o = record { got = o.got; given = o.exchanged.given; nothing = law (plugin_role plugin) o.got o.side (inl o.waits); below_limit = λ e. o.below_limit }
outcome-unrefused law plugin old first new sink endings.Failed is o = failed-unrefused law plugin old first new sink o
outcome-unrefused law plugin old first new sink (endings.Refused r) is o = absurd (never-seven is)

plugin-unrefused : RestsUnrefusedLaw PluginControl → (name : List ℕ) (files : Option Contents) (known0 known1 : Option Known) (taken0 taken1 : Option (List ℕ)) (status : ℕ) → IsUnrefusedStatus status → RunsPlugin name files known0 known1 taken0 taken1 status → RunsUnrefused name files known0 known1 taken0 status
plugin-unrefused law name files known0 known1 taken0 taken1 status is runs f old first told k o =
    let x = runs (unrefused-run status is) f old first told k o in
    let y = x.4 in
    let u = outcome-unrefused law x.0 old first y.0 y.1 x.1 (subst IsUnrefusedStatus x.3 is) y.4 in
    (x.0, y.0, u.got, x.2, y.2, u.given, u.nothing, λ e. u.below_limit (sym x.3 ∙ e))

pub words-unrefused : RestsUnrefusedLaw PluginControl → (words : List (List ℕ)) (files : Option Contents) (known0 known1 : Option Known) (taken0 taken1 : Option (List ℕ)) (status : ℕ) → IsUnrefusedStatus status → RunsWords words files known0 known1 taken0 taken1 status → UnrefusedWords words files known0 known1 taken0 status
words-unrefused law words files known0 known1 taken0 taken1 status is runs = at (script_word words) runs
  where
    at : (o : Option (List ℕ)) → OfScript o (λ name. RunsPlugin name files known0 known1 taken0 taken1 status) (IsRunStatus status → ⊥) → OfScript o (λ name. RunsUnrefused name files known0 known1 taken0 status) ⊥
    at None h = h (unrefused-run status is)
    at (Some name) h = plugin-unrefused law name files known0 known1 taken0 taken1 status is h
