-- How an end comes by its turns to where it runs out of memory.
use Rattle.std.proofs.Common.{◌≡◌, ℕ, suc, List, [], ◌∷◌, ◌++◌, Result, Ok, Err, refl, ap, sym, ◌∙◌, append_assoc, append-nil}
use Rattle.std.specs.Prelude.{OnErr}
use Rattle.np_message.specs.Message.{Message}
use Rattle.np_message.specs.Encoding.{encoding, encodings}
use Rattle.np_message.specs.Rules.{KeepsFormat, IsTyped}
use Rattle.np_model.specs.Side.{SideState, Micro, run_steps, examine}
use Rattle.np_model.specs.Run.{Awaits, turn, endpoint_run}
use Rattle.np_model.specs.Alone.{Role, MoreMessages}
use Rattle.np_model.specs.Steps.{control_after}
use Rattle.np_endpoint.specs.End.{HasPace}
use Rattle.np_endpoint.specs.Memory.{CameTo}
use Rattle.np_model.proofs.StepLemmas.{run-control, run-examined}
use Rattle.np_endpoint.proofs.Turns.{meet-turn}
use Rattle.np_endpoint.proofs.Stands.{ActsBy, AcceptsBy, messages-more, encodings-more}

-- no turn was taken yet
pub came-nowhere : {C : Type 0} (role : Role C) (p : SideState C) (unread : List ℕ) (control : C) → p.control ≡ control → CameTo role p unread control unread
came-nowhere role p unread control same = record {
  side = p;
  turns = 0;
  messages = [];
  comes = refl;
  examined = sym (append-nil p.examined);
  are = tt;
  bytes = refl;
  same = same;
}

-- the side acted
pub came-acted : {C : Type 0} (role : Role C) (p : SideState C) (unread left : List ℕ) (old new : C) (steps : List (Micro C)) → ActsBy role old steps → new ≡ control_after steps old → CameTo role p unread old left → CameTo role p unread new left
came-acted role p unread left old new steps acts after c = record {
  side = run_steps steps c.side;
  turns = suc c.turns;
  messages = c.messages;
  comes = ap (λ (l : List Message). endpoint_run role.plans l (suc c.turns) p) same ∙ ap (turn role.plans c.side.examined) c.comes ∙ acts c.side c.side.examined c.same;
  examined = same ∙ c.examined;
  are = c.are;
  bytes = c.bytes;
  same = run-control steps c.side ∙ ap (control_after steps) c.same ∙ sym after;
}
  where
    same : (run_steps steps c.side).examined ≡ c.side.examined
    same = run-examined steps c.side

-- the side accepted the next message
pub came-met : {C : Type 0} → MoreMessages C → (role : Role C) (p : SideState C) (unread left rest : List ℕ) (old new : C) (m : Message) (steps : List (Micro C)) → HasPace role old Awaits → AcceptsBy role old m steps → KeepsFormat m → IsTyped m → left ≡ encoding m ++ rest → new ≡ control_after steps old → CameTo role p unread old left → CameTo role p unread new rest
came-met {C} more role p unread left rest old new m steps awaits plan keeps typed bytes after c = record {
  side = side;
  turns = suc k.0;
  messages = c.messages ++ m ∷ [];
  comes = ap (λ (l : List Message). endpoint_run role.plans l (suc k.0) p) same ∙ ap (turn role.plans (c.side.examined ++ m ∷ [])) (k.1 ∙ c.comes) ∙ meet-turn role.plans c.side m steps (awaits c.side c.same) (plan c.side c.same);
  examined = same ∙ ap (λ (l : List Message). l ++ m ∷ []) c.examined ∙ append_assoc p.examined c.messages (m ∷ []);
  are = messages-more c.messages m c.are keeps typed;
  bytes = c.bytes ∙ ap (λ (l : List ℕ). encodings c.messages ++ l) bytes ∙ sym (append_assoc (encodings c.messages) (encoding m) rest) ∙ ap (λ (l : List ℕ). l ++ rest) (sym (encodings-more c.messages m));
  same = run-control steps (examine m c.side) ∙ ap (control_after steps) c.same ∙ sym after;
}
  where
    side : SideState C
    side = run_steps steps (examine m c.side)

    same : side.examined ≡ c.side.examined ++ m ∷ []
    same = run-examined steps (examine m c.side)

    k : (k : ℕ) × (endpoint_run role.plans (c.side.examined ++ m ∷ []) k p ≡ endpoint_run role.plans c.side.examined c.turns p)
    k = more role.plans c.side.examined (m ∷ []) c.turns p

-- the control stayed
abbrev pub came-still : {C : Type 0} (role : Role C) (p : SideState C) (unread left : List ℕ) (old new : C) → new ≡ old → CameTo role p unread old left → CameTo role p unread new left
came-still role p unread left old new is c = record {
  side = c.side;
  turns = c.turns;
  messages = c.messages;
  comes = c.comes;
  examined = c.examined;
  are = c.are;
  bytes = c.bytes;
  same = c.same ∙ sym is;
}

-- what holds anyway holds where memory ran out
pub on-err : {T E : Type 0} (result : Result T E) (P : Type 0) → P → OnErr result P
on-err (Ok x) P p = tt
on-err (Err e) P p = p
