-- Where a side rests, or the messages that come are accepted, it refuses nothing of the bytes that it was given.
use Rattle.std.proofs.Common.{◌≡◌, ℕ, List, [], ◌∷◌, ◌++◌, length, drop, refl, sym, ap, subst, ◌∙◌, append_assoc, arith, ◌⊎◌, inl, inr, ⊎_elim, Some}
use Rattle.std.proofs.Math.Seq.{drop-append_seam}
use Rattle.std.proofs.lemmas.List.{append-nil, length-append}
use Rattle.np_message.specs.Message.{Message}
use Rattle.np_model.specs.declared.refusal.Refusal.{Refusal}
use Rattle.np_model.specs.declared.refusal.Rule.{Rule}
use Rattle.np_message.specs.Encoding.{encoding, encodings}
use Rattle.np_message.specs.Rules.{KeepsFormat, IsTyped, AreMessages}
use Rattle.np_message.specs.Decoding.{Front, Partial, Whole, front}
use Rattle.np_model.specs.Side.{SideState, at_start}
use Rattle.np_model.specs.Run.{Awaits, HasEnded, Meeting, Accepts, Refuses, Plans, first, next_message, meets, listens, turn, endpoint_run}
use Rattle.np_model.specs.Refused.{RefusedMeeting, RefusedBy}
use Rattle.np_model.specs.Alone.{Role, MoreMessages, ComesTo, WaitsAt, EndsAt, IsRefusal, RefusesNothing}
use Rattle.np_model_laws.specs.Laws.{RefusesNone}
use Rattle.np_model_wire_laws.proofs.Streams.{Wire, Waiting, Continues, continues, one-begins, whole-or-waits, waits-shorter, HasFirst, first-or-waits}
use Rattle.np_model_wire_laws.proofs.SideAlone.{Stays, one-stay, stays-with, waiting-stays, awaiting-turn, ended-turn}

-- ---- what is refused at the front

awaited-unrefused : {C : Type 0} (meet : Message → Meeting C) (at : ℕ) (r : Refusal) (seen : Front) → seen ≡ Partial → RefusedBy meet at r seen → ⊥
awaited-unrefused meet at r seen e h = subst (λ (x : Front). RefusedBy meet at r x) e h

-- a refused message has its rule
record RefusesMessage {C : Type 0} (meet : Message → Meeting C) (m : Message) : Type 0 where
  rule : Rule
  first_number : ℕ
  second_number : ℕ
  meets : meet m ≡ Refuses rule first_number second_number

refused-by : {C : Type 0} (meet : Message → Meeting C) (at : ℕ) (r : Refusal) (m : Message) (meeting : Meeting C) → meet m ≡ meeting → RefusedMeeting at r meeting → RefusesMessage meet m
refused-by meet at r m (Accepts steps) e h = absurd h
refused-by meet at r m (Refuses rule a b) e h = record { rule = rule; first_number = a; second_number = b; meets = e }

-- where the bytes behind what the side examined begin with a message, this one is refused
first-refused : {C : Type 0} → Wire → Waiting → (role : Role C) (p : SideState C) (left rest : List ℕ) (r : Refusal) (m : Message) → KeepsFormat m → IsTyped m → IsRefusal role p left r → left ≡ encoding m ++ rest → RefusesMessage (role.plans.meet p) m
first-refused w v role p left rest r m keeps typed x e =
    let at = length (encodings p.examined) in
    ⊎_elim
    (λ (partial : front at x.read ≡ Partial). absurd (awaited-unrefused (role.plans.meet p) at r (front at x.read) partial x.refused))
    (λ (y : (behind : List ℕ) × (front at x.read ≡ Whole m behind)). refused-by (role.plans.meet p) at r m (role.plans.meet p m) refl (subst (λ (seen : Front). RefusedBy (role.plans.meet p) at r seen) y.1 x.refused))
    (whole-or-waits w v at x.read x.later rest m keeps typed (sym x.left_is ∙ e))

refused-turn : {C : Type 0} (S : Plans C) (more : List Message) (p : SideState C) (m : Message) → S.pace p ≡ Awaits → RefusesMessage (S.meet p) m → turn S (p.examined ++ m ∷ more) p ≡ p
refused-turn S more p m h r =
    awaiting-turn S (p.examined ++ m ∷ more) p h
    ∙ ap (λ o. listens S p o) (ap first (drop-append_seam p.examined (m ∷ more)))
    ∙ ap (λ meeting. meets p m meeting) r.meets

-- ---- a place that rests, and one that refuses what stands next

-- a place with these messages, of which all were examined or the next is refused
refuser-stays : {C : Type 0} → Wire → Waiting → MoreMessages C → (role : Role C) (got : List ℕ) (q : SideState C) (r : Refusal) (c : ComesTo role got q) → IsRefusal role q c.left r → (all : List Message) (rest : List ℕ) → (n : Continues q.examined all c.left rest) → Stays role all q
refuser-stays w v more_law role got q r c x all rest n = subst (λ (l : List Message). Stays role l q) (sym n.is) (at n.more n.bytes n.keep)
  where
    at : (more : List Message) → c.left ≡ encodings more ++ rest → AreMessages more → Stays role (q.examined ++ more) q
    at [] bytes keep = subst (λ (l : List Message). Stays role l q) (sym (append-nil q.examined)) (waiting-stays role c.turns q c.comes x.awaits)
    at (m ∷ more) bytes keep =
        let refused = first-refused w v role q c.left (encodings more ++ rest) r m keep.0.0 keep.0.1 x (bytes ∙ append_assoc (encoding m) (encodings more) rest) in
        stays-with more_law role (m ∷ more) c.turns q c.comes (refused-turn role.plans more q m x.awaits refused)

-- a side that waits with all its messages examined is the one that would refuse, and awaits what that one refuses
waiting-unrefused : {C : Type 0} → Wire → Waiting → MoreMessages C → (role : Role C) (got : List ℕ) (p : SideState C) → WaitsAt role got p → RefusesNothing role got
waiting-unrefused {C} w v more_law role got p waits q r c x = at n.more refl
  where
    a : ComesTo role got p
    a = waits.comes_to

    n : Continues q.examined p.examined c.left a.left
    n = continues w (length (encodings p.examined)) q.examined p.examined c.left a.left c.messages a.messages waits.partial (sym c.got_is ∙ a.got_is)

    same : p ≡ q
    same = one-stay role p.examined p q (waiting-stays role a.turns p a.comes waits.awaits) (refuser-stays w v more_law role got q r c x p.examined a.left n)

    at : (more : List Message) → n.more ≡ more → ⊥
    at [] e =
        let left : x.read ++ x.later ≡ a.left = sym x.left_is ∙ n.bytes ∙ ap (λ (l : List Message). encodings l ++ a.left) e in
        let partial = waits-shorter v.exact (length (encodings p.examined)) (length (encodings q.examined)) x.read x.later (ap (λ (l : List ℕ). front (length (encodings p.examined)) l) left ∙ waits.partial) in
        awaited-unrefused (role.plans.meet q) (length (encodings q.examined)) r (front (length (encodings q.examined)) x.read) partial x.refused
    at (m ∷ more) e =
        let lengths = ap (λ (s : SideState C). length s.examined) same in
        let all = ap length (n.is ∙ ap (λ (l : List Message). q.examined ++ l) e) in
        absurd (omega (arith, lengths, all, length-append q.examined (m ∷ more)))

-- a side that has ended awaits nothing
ended-apart : {C : Type 0} (S : Plans C) (p q : SideState C) → p ≡ q → S.pace p ≡ HasEnded → S.pace q ≡ Awaits → ⊥
ended-apart {C} S p q same ended awaits = let no : HasEnded ≡ Awaits = sym ended ∙ ap (λ (s : SideState C). S.pace s) same ∙ awaits in cc

ended-unrefused : {C : Type 0} → Wire → Waiting → MoreMessages C → (role : Role C) (got : List ℕ) (p : SideState C) → EndsAt role got p → RefusesNothing role got
ended-unrefused w v more_law role got p ends q r c x =
    ⊎_elim longer shorter (one-begins w q.examined p.examined c.left a.left c.messages a.messages (sym c.got_is ∙ a.got_is))
  where
    a : ComesTo role got p
    a = ends.comes_to

    longer : Continues q.examined p.examined c.left a.left → ⊥
    longer n =
        let here : Stays role p.examined p = record { turns = a.turns; comes = a.comes; still = ended-turn role.plans p.examined p ends.ended } in
        ended-apart role.plans p q (one-stay role p.examined p q here (refuser-stays w v more_law role got q r c x p.examined a.left n)) ends.ended x.awaits

    shorter : Continues p.examined q.examined a.left c.left → ⊥
    shorter n =
        let here : Stays role q.examined p = subst (λ (l : List Message). Stays role l p) (sym n.is) (stays-with more_law role n.more a.turns p a.comes (ended-turn role.plans (p.examined ++ n.more) p ends.ended)) in
        ended-apart role.plans p q (one-stay role q.examined p q here (waiting-stays role c.turns q c.comes x.awaits)) ends.ended x.awaits

pub unrefused : {C : Type 0} → Wire → Waiting → MoreMessages C → (role : Role C) (got : List ℕ) (p : SideState C) → WaitsAt role got p ⊎ EndsAt role got p → RefusesNothing role got
unrefused w v more_law role got p (inl waits) = waiting-unrefused w v more_law role got p waits
unrefused w v more_law role got p (inr ends) = ended-unrefused w v more_law role got p ends

-- ---- messages that are accepted

next-there : (examined more later : List Message) (m : Message) → more ≡ m ∷ later → first (drop (length examined) (examined ++ more)) ≡ Some m
next-there examined more later m e = ap first (drop-append_seam examined more) ∙ ap first e

accepts-next : {C : Type 0} → MoreMessages C → (role : Role C) (turns : ℕ) (sent more later : List Message) (m : Message) (p : SideState C) → RefusesNone role.plans sent (at_start role.start) → endpoint_run role.plans p.examined turns (at_start role.start) ≡ p → role.plans.pace p ≡ Awaits → sent ≡ p.examined ++ more → more ≡ m ∷ later → RefusesMessage (role.plans.meet p) m → ⊥
accepts-next {C} more_law role turns sent more later m p none comes awaits is are refused =
    let start = at_start role.start in
    let k = more_law role.plans p.examined more turns start in
    let there : endpoint_run role.plans sent k.0 start ≡ p = ap (λ l. endpoint_run role.plans l k.0 start) is ∙ k.1 ∙ comes in
    let next : next_message sent p ≡ Some m = ap (λ l. first (drop (length p.examined) l)) is ∙ next-there p.examined more later m are in
    none k.0 m refused.rule refused.first_number refused.second_number (ap (λ (q : SideState C). role.plans.pace q) there ∙ awaits) (ap (λ (q : SideState C). next_message sent q) there ∙ next) (ap (λ (q : SideState C). role.plans.meet q m) there ∙ refused.meets)

-- a side that refuses none of the messages that come refuses nothing of bytes that begin theirs
pub never-refused : {C : Type 0} → Wire → Waiting → MoreMessages C → (role : Role C) (given rest : List ℕ) (p : SideState C) (r : Refusal) (sent : List Message) → RefusesNone role.plans sent (at_start role.start) → (c : ComesTo role given p) → Continues p.examined sent (c.left ++ rest) [] → IsRefusal role p c.left r → ⊥
never-refused w v more_law role given rest p r sent none c b refusal =
    let at = length (encodings p.examined) in
    let parts : refusal.read ++ (refusal.later ++ rest) ≡ encodings b.more = sym (append_assoc refusal.read refusal.later rest) ∙ ap (λ l. l ++ rest) (sym refusal.left_is) ∙ b.bytes ∙ append-nil (encodings b.more) in
    ⊎_elim
    (λ (partial : front at refusal.read ≡ Partial). awaited-unrefused (role.plans.meet p) at r (front at refusal.read) partial refusal.refused)
    (λ (f : HasFirst at refusal.read b.more).
    accepts-next more_law role c.turns sent b.more f.later f.message p none c.comes refusal.awaits b.is f.are (refused-by (role.plans.meet p) at r f.message (role.plans.meet p f.message) refl (subst (λ (seen : Front). RefusedBy (role.plans.meet p) at r seen) f.seen refusal.refused)))
    (first-or-waits w v at refusal.read (refusal.later ++ rest) b.more b.keep parts)
