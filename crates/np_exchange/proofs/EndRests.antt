-- Where an end waits, has finished or refuses, in the words of its side.
use Rattle.std.proofs.Common.{◌≡◌, ℕ, ◌+◌, List, [], ◌++◌, length, sym, ap, subst, ◌∙◌, arith, inl}
use Rattle.std.proofs.lemmas.List.{length-append, append-nil}
use Rattle.np_model.specs.declared.refusal.Refusal.{Refusal}
use Rattle.np_message.specs.Encoding.{encodings}
use Rattle.np_message.specs.Decoding.{Partial, front}
use Rattle.np_model.specs.Run.{Pace, Awaits, HasEnded}
use Rattle.np_model.specs.Alone.{Role, ComesTo, WaitsAt, EndsAt, RefusesAt}
use Rattle.np_endpoint.specs.End.{EndState, StandsFor, HasLeft, HasPace, RestsAs, total_of}
use Rattle.np_endpoint.specs.declared.halt.Halt.{Halt}
use Rattle.np_endpoint.specs.declared.halt.Halt.TheVariants.{Waiting, Finished, Refused}

abbrev pub comes-to : {S C : Type 0} (role_of : S → Role C) (script : S) (got sent printed : List ℕ) (e : EndState S C) (s : StandsFor role_of script got sent printed e) → ComesTo (role_of script) got s.side
comes-to role_of script got sent printed e s = record { turns = s.turns; left = s.left; comes = s.comes; messages = s.messages; got_is = s.got_is }

-- what stands behind the messages that were examined, where the end is in this state
left-as : {S C : Type 0} (role_of : S → Role C) (script : S) (got sent printed : List ℕ) (e : EndState S C) (state : Halt) → e.state ≡ state → (s : StandsFor role_of script got sent printed e) → HasLeft (role_of script) s.side state e.consumed e.unread s.left
left-as role_of script got sent printed e state is s = subst (λ (t : Halt). HasLeft (role_of script) s.side t e.consumed e.unread s.left) is s.has_left

-- the pace of its side
pace-as : {S C : Type 0} (role_of : S → Role C) (script : S) (got sent printed : List ℕ) (e : EndState S C) (pace : Pace) → HasPace (role_of e.script) e.control pace → (s : StandsFor role_of script got sent printed e) → (role_of script).plans.pace s.side ≡ pace
pace-as {S} role_of script got sent printed e pace has s = subst (λ (x : S). HasPace (role_of x) e.control pace) s.same_script has s.side (sym s.control)

pub waits-at : {S C : Type 0} (role_of : S → Role C) (script : S) (got sent printed : List ℕ) (e : EndState S C) → RestsAs role_of e Waiting → (s : StandsFor role_of script got sent printed e) → WaitsAt (role_of script) got s.side
waits-at role_of script got sent printed e w s =
    let has = left-as role_of script got sent printed e Waiting w.0 s in
    record {
      comes_to = comes-to role_of script got sent printed e s;
      awaits = pace-as role_of script got sent printed e Awaits w.1 s;
      partial = subst (λ (l : List ℕ). front (length (encodings s.side.examined)) l ≡ Partial) has.1 (subst (λ (n : ℕ). front n e.unread ≡ Partial) has.0 w.2);
    }

pub ends-at : {S C : Type 0} (role_of : S → Role C) (script : S) (got sent printed : List ℕ) (e : EndState S C) → RestsAs role_of e Finished → (s : StandsFor role_of script got sent printed e) → EndsAt (role_of script) got s.side
ends-at role_of script got sent printed e f s = record { comes_to = comes-to role_of script got sent printed e s; ended = pace-as role_of script got sent printed e HasEnded f.1 s }

pub refuses-at : {S C : Type 0} (role_of : S → Role C) (script : S) (got sent printed : List ℕ) (e : EndState S C) (r : Refusal) → e.state ≡ Refused r → (s : StandsFor role_of script got sent printed e) → RefusesAt (role_of script) got s.side r
refuses-at role_of script got sent printed e r is s = record {
  comes_to = comes-to role_of script got sent printed e s;
  refusal = inl (left-as role_of script got sent printed e (Refused r) is s);
}

-- how many bytes it was given
pub total-is : {S C : Type 0} (role_of : S → Role C) (script : S) (got sent printed : List ℕ) (e : EndState S C) → RestsAs role_of e Waiting → StandsFor role_of script got sent printed e → total_of e ≡ length got
total-is role_of script got sent printed e w s =
    let has = left-as role_of script got sent printed e Waiting w.0 s in
    let n : length got ≡ length (encodings s.side.examined) + length s.left = ap length s.got_is ∙ length-append (encodings s.side.examined) s.left in
    let u : length e.unread ≡ length s.left = ap length has.1 in
    let c = has.0 in
    omega (arith, n, u, c)

-- all messages were taken
pub all-taken : {S C : Type 0} (role_of : S → Role C) (script : S) (got sent printed taken : List ℕ) (e : EndState S C) → taken ≡ sent → e.outgoing ≡ [] → (s : StandsFor role_of script got sent printed e) → taken ≡ encodings s.side.sent
all-taken role_of script got sent printed taken e whole nothing s = whole ∙ sym (s.sent_is ∙ ap (λ (l : List ℕ). sent ++ l) nothing ∙ append-nil sent)
