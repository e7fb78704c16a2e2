-- How the steps of an end carry on what it stands for.
use Rattle.std.proofs.Common.{◌≡◌, ℕ, suc, ◌+◌, ◌<◌, ◌≤◌, List, [], ◌∷◌, ◌++◌, length, refl, ap, sym, ◌∙◌, subst, arith, append_assoc, append-nil, length-append}
use Rattle.np_message.specs.Message.{Message}
use Rattle.np_model.specs.declared.refusal.Refusal.{Refusal}
use Rattle.np_message.specs.Encoding.{encoding, encodings}
use Rattle.np_message.specs.Rules.{AreMessages, KeepsFormat, IsTyped}
use Rattle.np_message.specs.Decoding.{front}
use Rattle.np_model.specs.Side.{SideState, Micro, run_steps, examine, at_start}
use Rattle.np_model.specs.Run.{Awaits, Accepts, turn, endpoint_run}
use Rattle.np_model.specs.Alone.{Role, MoreMessages, IsRefusal}
use Rattle.np_model.specs.Refused.{RefusedBy}
use Rattle.np_model.specs.Steps.{control_after, sent_by, printed_by}
use Rattle.np_endpoint.specs.End.{EndState, StandsFor, HasLeft, HasPace}
use Rattle.np_endpoint.specs.declared.halt.Halt.{Halt}
use Rattle.np_endpoint.specs.declared.halt.Halt.TheVariants.{Waiting, Finished, Refused}
use Rattle.np_model.proofs.Encodings.{encodings-append}
use Rattle.np_model.proofs.StepLemmas.{run-control, run-sent, run-journal, run-examined}
use Rattle.np_endpoint.proofs.Turns.{meet-turn}

-- an end went on by the steps of a plan, and refused nothing
pub record EndMoves {S C : Type 0} (old new : EndState S C) (steps : List (Micro C)) : Type 0 where
  pub control : new.control ≡ control_after steps old.control
  pub outgoing : new.outgoing ≡ old.outgoing ++ encodings (sent_by steps)
  pub journal : new.journal ≡ old.journal ++ printed_by steps
  pub script : new.script ≡ old.script
  pub old_state : old.state ≡ Waiting
  pub new_state : new.state ≡ Waiting

-- the bytes of a journal or of messages, of which a part was cut off, with more behind them
more-behind : (all cut rest more new : List ℕ) → all ≡ cut ++ rest → new ≡ rest ++ more → all ++ more ≡ cut ++ new
more-behind all cut rest more new e f = ap (λ (l : List ℕ). l ++ more) e ∙ append_assoc cut rest more ∙ ap (λ (l : List ℕ). cut ++ l) (sym f)

-- an end stands where its side stands, of which these bytes were cut off
pub record Follows {S C : Type 0} (sent printed : List ℕ) (e : EndState S C) (side : SideState C) : Type 0 where
  pub control : e.control ≡ side.control
  pub sent_is : encodings side.sent ≡ sent ++ e.outgoing
  pub printed_is : side.journal ≡ printed ++ e.journal

pub follows : {S C : Type 0} (sent printed : List ℕ) (old new : EndState S C) (steps : List (Micro C)) (side : SideState C) → EndMoves old new steps → Follows sent printed old side → Follows sent printed new (run_steps steps side)
follows sent printed old new steps side m f = record {
  control = m.control ∙ ap (control_after steps) f.control ∙ sym (run-control steps side);
  sent_is = ap encodings (run-sent steps side) ∙ encodings-append side.sent (sent_by steps) ∙ more-behind _ sent old.outgoing _ new.outgoing f.sent_is m.outgoing;
  printed_is = run-journal steps side ∙ more-behind _ printed old.journal _ new.journal f.printed_is m.journal;
}

waiting-left : {C : Type 0} (role : Role C) (side : SideState C) (s : Halt) (consumed : ℕ) (unread left : List ℕ) → s ≡ Waiting → HasLeft role side s consumed unread left → (consumed ≡ length (encodings side.examined)) × (unread ≡ left)
waiting-left role side s consumed unread left e h = subst (λ (t : Halt). HasLeft role side t consumed unread left) e h

left-waiting : {C : Type 0} (role : Role C) (side : SideState C) (s : Halt) (consumed : ℕ) (unread left : List ℕ) → s ≡ Waiting → (consumed ≡ length (encodings side.examined)) × (unread ≡ left) → HasLeft role side s consumed unread left
left-waiting role side s consumed unread left e h = subst (λ (t : Halt). HasLeft role side t consumed unread left) (sym e) h

-- ---- the side acts

-- a side of this control acts by these steps
abbrev pub ActsBy : {C : Type 0} → Role C → C → List (Micro C) → Type 0
ActsBy {C} role control steps = (p : SideState C) (got : List Message) → p.control ≡ control → turn role.plans got p ≡ run_steps steps p

pub stands-acted : {S C : Type 0} (role_of : S → Role C) (script : S) (got sent printed : List ℕ) (old new : EndState S C) (steps : List (Micro C)) → ActsBy (role_of old.script) old.control steps → EndMoves old new steps → new.consumed ≡ old.consumed → new.unread ≡ old.unread → StandsFor role_of script got sent printed old → StandsFor role_of script got sent printed new
stands-acted {S} {C} role_of script got sent printed old new steps acts m consumed unread s = record {
  same_script = m.script ∙ s.same_script;
  side = run_steps steps s.side;
  turns = suc s.turns;
  left = s.left;
  comes = ap (λ (l : List Message). endpoint_run (role_of script).plans l (suc s.turns) (at_start (role_of script).start)) same ∙ ap (turn (role_of script).plans s.side.examined) s.comes ∙ acted s.side s.side.examined (sym s.control);
  messages = subst AreMessages (sym same) s.messages;
  control = f.control;
  got_is = s.got_is ∙ ap (λ (l : List Message). encodings l ++ s.left) (sym same);
  has_left = left-waiting (role_of script) _ new.state _ _ _ m.new_state (consumed ∙ was.0 ∙ ap (λ (l : List Message). length (encodings l)) (sym same), unread ∙ was.1);
  sent_is = f.sent_is;
  printed_is = f.printed_is;
}
  where
    acted : ActsBy (role_of script) old.control steps
    acted = subst (λ (x : S). ActsBy (role_of x) old.control steps) s.same_script acts

    f : Follows sent printed new (run_steps steps s.side)
    f = follows sent printed old new steps s.side m (record { control = s.control; sent_is = s.sent_is; printed_is = s.printed_is })

    same : (run_steps steps s.side).examined ≡ s.side.examined
    same = run-examined steps s.side

    was : (old.consumed ≡ length (encodings s.side.examined)) × (old.unread ≡ s.left)
    was = waiting-left (role_of script) s.side old.state _ _ _ m.old_state s.has_left

-- ---- a message

pub messages-more : (messages : List Message) (m : Message) → AreMessages messages → KeepsFormat m → IsTyped m → AreMessages (messages ++ m ∷ [])
messages-more [] m h keeps typed = ((keeps, typed), tt)
messages-more (x ∷ messages) m h keeps typed = (h.0, messages-more messages m h.1 keeps typed)

pub encodings-more : (messages : List Message) (m : Message) → encodings (messages ++ m ∷ []) ≡ encodings messages ++ encoding m
encodings-more messages m = encodings-append messages (m ∷ []) ∙ ap (λ (l : List ℕ). encodings messages ++ l) (append-nil (encoding m))

positive : (m : Message) → 1 ≤ length (encoding m)
unfolding encoding
positive m = omega (arith, length-append {A = ℕ})

-- each message makes the bytes that are left fewer
pub message-shortens : (m : Message) (old new : List ℕ) → old ≡ encoding m ++ new → length new < length old
message-shortens m old new e =
    let n : length old ≡ length (encoding m) + length new = ap length e ∙ length-append (encoding m) new in
    omega (arith, n, positive m)

-- a side of this control accepts the message, and does these steps
abbrev pub AcceptsBy : {C : Type 0} → Role C → C → Message → List (Micro C) → Type 0
AcceptsBy {C} role control m steps = (p : SideState C) → p.control ≡ control → role.plans.meet p m ≡ Accepts steps

-- a message was taken off the bytes and accepted
pub record EndListens {S C : Type 0} (role_of : S → Role C) (old new : EndState S C) (m : Message) (steps : List (Micro C)) : Type 0 where
  pub awaits : HasPace (role_of old.script) old.control Awaits
  pub plan : AcceptsBy (role_of old.script) old.control m steps
  pub moves : EndMoves old new steps
  pub keeps : KeepsFormat m
  pub typed : IsTyped m
  pub bytes : old.unread ≡ encoding m ++ new.unread
  pub total : new.consumed + length new.unread ≡ old.consumed + length old.unread

pub stands-met : {S C : Type 0} → MoreMessages C → (role_of : S → Role C) (script : S) (got sent printed : List ℕ) (old new : EndState S C) (m : Message) (steps : List (Micro C)) → EndListens role_of old new m steps → StandsFor role_of script got sent printed old → StandsFor role_of script got sent printed new
stands-met {S} {C} more role_of script got sent printed old new m steps x s = record {
  same_script = x.moves.script ∙ s.same_script;
  side = side;
  turns = suc k.0;
  left = new.unread;
  comes = ap (λ (l : List Message). endpoint_run (role_of script).plans l (suc k.0) (at_start (role_of script).start)) same ∙ ap (turn (role_of script).plans (s.side.examined ++ m ∷ [])) (k.1 ∙ s.comes) ∙ meet-turn (role_of script).plans s.side m steps awaits plan;
  messages = subst AreMessages (sym same) (messages-more s.side.examined m s.messages x.keeps x.typed);
  control = f.control;
  got_is = s.got_is ∙ ap (λ (l : List ℕ). encodings s.side.examined ++ l) (sym was.1 ∙ x.bytes) ∙ sym (append_assoc (encodings s.side.examined) (encoding m) new.unread) ∙ ap (λ (l : List ℕ). l ++ new.unread) (sym encoded);
  has_left = left-waiting (role_of script) _ new.state _ _ _ x.moves.new_state (consumed, refl);
  sent_is = f.sent_is;
  printed_is = f.printed_is;
}
  where
    side : SideState C
    side = run_steps steps (examine m s.side)

    f : Follows sent printed new side
    f = follows sent printed old new steps (examine m s.side) x.moves (record { control = s.control; sent_is = s.sent_is; printed_is = s.printed_is })

    same : side.examined ≡ s.side.examined ++ m ∷ []
    same = run-examined steps (examine m s.side)

    encoded : encodings side.examined ≡ encodings s.side.examined ++ encoding m
    encoded = ap encodings same ∙ encodings-more s.side.examined m

    k : (k : ℕ) × (endpoint_run (role_of script).plans (s.side.examined ++ m ∷ []) k (at_start (role_of script).start) ≡ endpoint_run (role_of script).plans s.side.examined s.turns (at_start (role_of script).start))
    k = more (role_of script).plans s.side.examined (m ∷ []) s.turns (at_start (role_of script).start)

    awaits : (role_of script).plans.pace s.side ≡ Awaits
    awaits = subst (λ (y : S). HasPace (role_of y) old.control Awaits) s.same_script x.awaits s.side (sym s.control)

    plan : (role_of script).plans.meet s.side m ≡ Accepts steps
    plan = subst (λ (y : S). AcceptsBy (role_of y) old.control m steps) s.same_script x.plan s.side (sym s.control)

    was : (old.consumed ≡ length (encodings s.side.examined)) × (old.unread ≡ s.left)
    was = waiting-left (role_of script) s.side old.state _ _ _ x.moves.old_state s.has_left

    consumed : new.consumed ≡ length (encodings side.examined)
    consumed =
        let a : length (encodings side.examined) ≡ length (encodings s.side.examined) + length (encoding m) = ap length encoded ∙ length-append (encodings s.side.examined) (encoding m) in
        let b : length old.unread ≡ length (encoding m) + length new.unread = ap length x.bytes ∙ length-append (encoding m) new.unread in
        let d = was.0 in
        let t = x.total in
        omega (arith, a, b, d, t)

-- ---- a refusal

-- a side of this control refuses so what stands at the front of bytes, the first of which is at this place
abbrev pub RefusesFront : {C : Type 0} → Role C → C → ℕ → List ℕ → Refusal → Type 0
RefusesFront {C} role control at bytes r = (p : SideState C) → p.control ≡ control → RefusedBy (role.plans.meet p) at r (front at bytes)

-- nothing of a refused message took effect
pub record EndRefused {S C : Type 0} (role_of : S → Role C) (old new : EndState S C) (r : Refusal) : Type 0 where
  pub control : new.control ≡ old.control
  pub outgoing : new.outgoing ≡ old.outgoing
  pub journal : new.journal ≡ old.journal
  pub script : new.script ≡ old.script
  pub old_state : old.state ≡ Waiting
  pub new_state : new.state ≡ Refused r
  pub awaits : HasPace (role_of old.script) old.control Awaits
  pub refused : RefusesFront (role_of old.script) old.control old.consumed old.unread r

pub stands-refused : {S C : Type 0} (role_of : S → Role C) (script : S) (got sent printed : List ℕ) (old new : EndState S C) (r : Refusal) → EndRefused role_of old new r → StandsFor role_of script got sent printed old → StandsFor role_of script got sent printed new
stands-refused {S} {C} role_of script got sent printed old new r x s = record {
  same_script = x.script ∙ s.same_script;
  side = s.side;
  turns = s.turns;
  left = s.left;
  comes = s.comes;
  messages = s.messages;
  control = x.control ∙ s.control;
  got_is = s.got_is;
  has_left = subst (λ (t : Halt). HasLeft (role_of script) s.side t new.consumed new.unread s.left) (sym x.new_state) refusal;
  sent_is = s.sent_is ∙ ap (λ (l : List ℕ). sent ++ l) (sym x.outgoing);
  printed_is = s.printed_is ∙ ap (λ (l : List ℕ). printed ++ l) (sym x.journal);
}
  where
    was : (old.consumed ≡ length (encodings s.side.examined)) × (old.unread ≡ s.left)
    was = waiting-left (role_of script) s.side old.state _ _ _ x.old_state s.has_left

    refused : RefusesFront (role_of script) old.control old.consumed old.unread r
    refused = subst (λ (y : S). RefusesFront (role_of y) old.control old.consumed old.unread r) s.same_script x.refused

    refusal : IsRefusal (role_of script) s.side s.left r
    refusal = record {
      awaits = subst (λ (y : S). HasPace (role_of y) old.control Awaits) s.same_script x.awaits s.side (sym s.control);
      read = old.unread;
      later = [];
      left_is = sym was.1 ∙ sym (append-nil old.unread);
      refused = subst (λ (n : ℕ). RefusedBy ((role_of script).plans.meet s.side) n r (front n old.unread)) was.0 (refused s.side (sym s.control));
    }

-- ---- further bytes

has-more : {C : Type 0} (role : Role C) (side : SideState C) (s : Halt) (consumed : ℕ) (unread left bytes : List ℕ) → HasLeft role side s consumed unread left → HasLeft role side s consumed (unread ++ bytes) (left ++ bytes)
has-more role side Waiting consumed unread left bytes h = (h.0, ap (λ (l : List ℕ). l ++ bytes) h.1)
has-more role side Finished consumed unread left bytes h = (h.0, ap (λ (l : List ℕ). l ++ bytes) h.1)
has-more role side (Refused r) consumed unread left bytes h = record {
  awaits = h.awaits;
  read = h.read;
  later = h.later ++ bytes;
  left_is = ap (λ (l : List ℕ). l ++ bytes) h.left_is ∙ append_assoc h.read h.later bytes;
  refused = h.refused;
}

pub stands-took : {S C : Type 0} (role_of : S → Role C) (script : S) (got sent printed bytes : List ℕ) (e : EndState S C) → StandsFor role_of script got sent printed e → StandsFor role_of script (got ++ bytes) sent printed (record e { unread = e.unread ++ bytes })
stands-took role_of script got sent printed bytes e s = record {
  same_script = s.same_script;
  side = s.side;
  turns = s.turns;
  left = s.left ++ bytes;
  comes = s.comes;
  messages = s.messages;
  control = s.control;
  got_is = ap (λ (l : List ℕ). l ++ bytes) s.got_is ∙ append_assoc (encodings s.side.examined) s.left bytes;
  has_left = has-more (role_of script) s.side e.state e.consumed e.unread s.left bytes s.has_left;
  sent_is = s.sent_is;
  printed_is = s.printed_is;
}

-- the end of a script before anything was done
pub stands-start : {S C : Type 0} (role_of : S → Role C) (script : S) (e : EndState S C) → e.script ≡ script → e.control ≡ (role_of script).start → e.outgoing ≡ [] → e.journal ≡ [] → e.state ≡ Waiting → e.consumed ≡ 0 → e.unread ≡ [] → StandsFor role_of script [] [] [] e
stands-start role_of script e same control outgoing journal state consumed unread = record {
  same_script = same;
  side = at_start (role_of script).start;
  turns = 0;
  left = [];
  comes = refl;
  messages = tt;
  control = control;
  got_is = refl;
  has_left = left-waiting (role_of script) (at_start (role_of script).start) e.state _ _ _ state (consumed, unread);
  sent_is = sym outgoing;
  printed_is = sym journal;
}
