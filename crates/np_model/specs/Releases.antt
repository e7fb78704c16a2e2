-- The releases that a message carries, while no object is handed out. (This project's own.)
use Rattle.std.specs.Prelude.{ℕ, ◌-◌, List, Bool, true, false, not, find, Option, Some, None, unwrap_or, slice_get}
use Rattle.np_proxy_release.specs.declared.release.Release.{Release}
use Rattle.np_message.specs.Message.{Message}
use Rattle.np_model.specs.declared.page.Phase.{Phase}
use Rattle.np_model.specs.declared.page.Phase.TheVariants.{Absent, Live, Destroying, Dead}
use Rattle.np_model.specs.declared.refusal.Rule.TheVariants.{Unknown}
use Rattle.np_model.specs.Side.{Micro}
use Rattle.np_model.specs.Run.{Meeting, Accepts, Refuses}

-- the phase of an instance, which is counted from 1; an instance that was not begun is absent
abbrev pub phase_of : List Phase → ℕ → Phase
phase_of phases instance = unwrap_or (slice_get phases (instance - 1)) Absent

-- an instance that is no more
abbrev pub is_dead : Phase → Bool
is_dead Absent = false
is_dead Live = false
is_dead Destroying = false
is_dead Dead = true

-- A release comes late for a dead instance, and changes nothing. Any other is of an object that isn't out.
abbrev pub is_unknown : List Phase → Release → Bool
is_unknown phases r = not (is_dead (phase_of phases r.instance))

-- the first release of an object that isn't out
abbrev pub unknown_release : List Phase → List Release → Option Release
unknown_release phases releases = find (is_unknown phases) releases

-- these steps, or the refusal of an unknown release
abbrev pub accepts_unless : {C : Type 0} → Option Release → List (Micro C) → Meeting C
accepts_unless None steps = Accepts steps
accepts_unless (Some r) steps = Refuses Unknown r.instance r.serial

-- After all other rules: a message that would be accepted is refused by its first release of an object that isn't out.
abbrev pub settled : {C : Type 0} → List Phase → Message → Meeting C → Meeting C
settled phases m (Accepts steps) = accepts_unless (unknown_release phases m.releases) steps
settled phases m (Refuses rule first second) = Refuses rule first second
