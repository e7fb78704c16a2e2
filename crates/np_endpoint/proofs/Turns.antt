-- What a turn of a side does that awaits a message.
use Rattle.std.proofs.Common.{◌≡◌, List, [], ◌∷◌, ◌++◌, length, drop, Some, refl, ap, ◌∙◌}
use Rattle.np_message.specs.Message.{Message}
use Rattle.np_model.specs.Side.{SideState, Micro, run_steps, examine}
use Rattle.np_model.specs.Run.{Plans, Pace, Awaits, Accepts, first, meets, listens, turn_at, turn}

next-is : (examined : List Message) (m : Message) → first (drop (length examined) (examined ++ m ∷ [])) ≡ Some m
next-is [] m = refl
next-is (x ∷ examined) m = next-is examined m

-- the next message comes and is accepted
pub meet-turn : {C : Type 0} (S : Plans C) (p : SideState C) (m : Message) (steps : List (Micro C)) → S.pace p ≡ Awaits → S.meet p m ≡ Accepts steps → turn S (p.examined ++ m ∷ []) p ≡ run_steps steps (examine m p)
meet-turn S p m steps awaits plan =
    ap (λ (pace : Pace). turn_at S (p.examined ++ m ∷ []) p pace) awaits ∙ ap (listens S p) (next-is p.examined m) ∙ ap (meets p m) plan
