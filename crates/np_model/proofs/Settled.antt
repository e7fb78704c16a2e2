-- What becomes of a meeting once the releases are looked at.
use Rattle.std.proofs.Common.{◌≡◌, ℕ, List, [], Option, Some, None, refl, ap}
use Rattle.np_proxy_release.specs.declared.release.Release.{Release}
use Rattle.np_message.specs.Message.{Message}
use Rattle.np_model.specs.declared.page.Phase.{Phase}
use Rattle.np_model.specs.declared.refusal.Rule.{Rule}
use Rattle.np_model.specs.declared.refusal.Rule.TheVariants.{Unknown}
use Rattle.np_model.specs.Run.{Meeting, Accepts, Refuses}
use Rattle.np_model.specs.Releases.{unknown_release, accepts_unless, settled}

-- what holds of the meeting and of each refusal holds then too
pub settled-by : {C : Type 0} (P : Meeting C → Type 0) (phases : List Phase) (m : Message) (meeting : Meeting C) → ((rule : Rule) (first second : ℕ) → P (Refuses rule first second)) → P meeting → P (settled phases m meeting)
settled-by P phases m (Accepts steps) none h = at (unknown_release phases m.releases)
  where
    at : (o : Option Release) → P (accepts_unless o steps)
    at (Some r) = none Unknown r.instance r.serial
    at None = h
settled-by P phases m (Refuses rule first second) none h = h

-- without an unknown release nothing changes
pub settled-none : {C : Type 0} (phases : List Phase) (m : Message) (meeting : Meeting C) → unknown_release phases m.releases ≡ None → settled phases m meeting ≡ meeting
settled-none phases m (Accepts steps) e = ap (λ (o : Option Release). accepts_unless o steps) e
settled-none phases m (Refuses rule first second) e = refl

-- a message that gives nothing back has none
pub settled-bare : {C : Type 0} (phases : List Phase) (m : Message) (meeting : Meeting C) → m.releases ≡ [] → settled phases m meeting ≡ meeting
settled-bare phases m meeting e = settled-none phases m meeting (ap (unknown_release phases) e)
