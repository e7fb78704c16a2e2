-- Each step keeps the counts of the other side's objects in balance.
use Rattle.std.proofs.Common.{◌≡◌, ℕ, ◌+◌, ◌-◌, ◌≤◌, List, [], ◌∷◌, ◌++◌, length, Bool, true, false, refl, sym, ap, ◌∙◌, subst, arith, take, drop, Option, Some, None}
use Rattle.np_values.specs.declared.name.Name.{Name}
use Rattle.np_values.specs.declared.value.Value.{Value}
use Rattle.np_values.specs.Name.{is_same_side}
use Rattle.np_message.specs.declared.depth.Depth.{Depth}
use Rattle.np_message.specs.declared.payload.Payload.{Payload}
use Rattle.np_message.specs.Message.{Message}
use Rattle.np_machine.specs.References.{other_side, name_of, count_in_value, references_to, count_in_names, released_count, references_in, carried_in, released_in}
use Rattle.np_life.specs.declared.phase.Phase.TheVariants.{Live}
use Rattle.np_machine.specs.declared.frame.Progress.{Progress}
use Rattle.np_machine.specs.declared.frame.Frame.{Frame}
use Rattle.np_machine.specs.Side.{SideState, local_count, is_dead}
use Rattle.np_machine.specs.Instances.{is_dead_phase, is_begun}
use Rattle.np_machine.specs.Objects.{has_object}
use Rattle.np_machine.specs.declared.place.Place.{Place}
use Rattle.np_machine.specs.declared.place.Place.TheVariants.{Register, PageRegister, Slot, PropertyOf, This}
use Rattle.np_machine.specs.declared.draft.Sending.{Sending}
use Rattle.np_machine.specs.declared.step.Step.{Step}
use Rattle.np_machine.specs.declared.step.Step.TheVariants.{Copy, Constant, Put, Remove, Drop, DropEach, MoveAfter, Create, Enter, Leave, Advance, SetFlag, NoteException, Await, Resume, HandOver, Deliver, Sweep, Deallocate, Begin, MarkDestroying, TearDown, File, Print}
use Rattle.np_machine.specs.Values.{voids, next_value, moved_after}
use Rattle.np_machine.specs.Frames.{with_progress}
use Rattle.np_machine.specs.Places.{read, exchange, put_next}
use Rattle.np_machine.specs.Steps.{create_object, change_progress, leave_body, add_constant, run_step}
use Rattle.np_machine.specs.Messages.{draft_payload, send_payload, remote_names_in, deliver, deliver_next, send_draft, examine}
use Rattle.np_machine.specs.Sound.{Balances, BalancesAt, ArePositive, IsSound}
use Rattle.np_machine.proofs.Counting.{carried_in-append, in_frames, local_count-is, references_to-append, references_to-cut, released_in-append, removed-old, released_count-cut, with_object-more, with_serial-slots}
use Rattle.np_machine.proofs.NameLemmas.{count_in_names-append, count_in_names-in, count_in_names-out, same_side-refl}
use Rattle.np_machine.proofs.BalanceLemmas.{by_if, more_balances, moved, same_balances}
use Rattle.np_machine.proofs.PhaseLemmas.{begun-phase, destroy-phase, destroy-slots, serial-phase, slots-append, voids-none}
use Rattle.np_machine.proofs.Untouched.{exchange-local_count, exchange-same, read-le}
use Rattle.np_machine.proofs.Drops.{drop_each-sound, drop_next-sound, hand_over-sound, one_other, positive-drop, serve_deallocations-sound}
use Rattle.np_machine.proofs.Teardowns.{tear_down-sound}

exchange-sound : {C : Type 0} (place : Place) (v : Value) (rest : List Value) (p : SideState C) → p.in_flight ≡ v ∷ rest → IsSound p → IsSound (exchange place v rest p)
exchange-sound place v rest p e s =
    let m = exchange-same place v rest p in
    let w = same_pending place in
    record {
      balances = λ x o. let o' = sym (ap (λ z. is_same_side x.side z) m.side) ∙ o in moved x p (exchange place v rest p) (s.balances x o') (m.dead x.instance) (exchange-local_count x place v rest p e) (ap (λ l. released_count x l) w) (ap (λ l. count_in_names x l) m.unreleased) (ap (λ z. carried_in z x (exchange place v rest p).delivered) m.side ∙ ap (λ l. carried_in p.side x l) m.delivered) (ap (λ l. released_in x l) m.sent);
      positive = subst ArePositive (sym w) s.positive;
    }
  where
    same_pending : (place : Place) → (exchange place v rest p).pending_releases ≡ p.pending_releases
    same_pending (Register i) = refl
    same_pending (PageRegister i) = refl
    same_pending (Slot n i) = refl
    same_pending (PropertyOf y key) = by_if (λ (q : SideState _). q.pending_releases ≡ p.pending_releases) (has_object y p.objects) _ _ (λ e. refl) (λ e. refl)
    same_pending This = refl

put_next-sound : {C : Type 0} (place : Place) (vs : List Value) (p : SideState C) → p.in_flight ≡ vs → IsSound p → IsSound (put_next place vs p)
put_next-sound place [] p e s = s
put_next-sound place (v ∷ rest) p e s = exchange-sound place v rest p e s

leave_body-sound : {C : Type 0} (n : ℕ) (stack : List Frame) (p : SideState C) → p.frames ≡ stack → IsSound p → IsSound (leave_body n stack p)
leave_body-sound n [] p e s = s
leave_body-sound n (a ∷ rest) p e s = record {
  balances = λ x o. let b : in_frames x p.frames ≡ count_in_value x a.this + references_to x a.registers + in_frames x rest = ap (λ l. in_frames x l) e in moved x p (leave_body n (a ∷ rest) p) (s.balances x o) refl (omega (arith, references_to-append x (take n p.in_flight) (a.registers ++ (a.this ∷ drop n p.in_flight)), references_to-append x a.registers (a.this ∷ drop n p.in_flight), references_to-cut x n p.in_flight, b)) refl refl refl refl;
  positive = s.positive;
}

next-local_count : (x : Name) (w : List Value) → count_in_value x (next_value w) + references_to x (drop 1 w) ≡ references_to x w
next-local_count x [] = refl
next-local_count x (v ∷ vs) = omega arith

enter_body-local_count : (x : Name) (n : ℕ) (w : List Value) → count_in_value x (next_value (drop n w)) + references_to x (take n w) + references_to x (drop 1 (drop n w)) ≡ references_to x w
enter_body-local_count x n w = omega (arith, references_to-cut x n w, next-local_count x (drop n w))

progress-local_count : (x : Name) (change : Progress → Progress) (stack : List Frame) → in_frames x (with_progress change stack) ≡ in_frames x stack
progress-local_count x change [] = refl
progress-local_count x change (a ∷ rest) = refl

progress-sound : {C : Type 0} (change : Progress → Progress) (p : SideState C) → IsSound p → IsSound (change_progress change p)
progress-sound change p s = record { balances = λ x o. moved x p (change_progress change p) (s.balances x o) refl (omega (arith, progress-local_count x change p.frames)) refl refl refl refl; positive = s.positive }

moved_after-local_count : (x : Name) (n : ℕ) (w : List Value) → references_to x (moved_after n w) ≡ references_to x w
moved_after-local_count x n [] = refl
moved_after-local_count x n (v ∷ rest) = omega (arith, references_to-append x (take n rest) (v ∷ drop n rest), references_to-cut x n rest)

pub grown : (d : Bool) (h w k r f n k' : ℕ) → Balances d h w k r f → (d ≡ true → k' ≡ n + k) → (d ≡ false → k' ≡ k) → Balances d (n + h) w k' (r + n) f
grown false h w k r f n k' t a b = record { within = omega (arith, t.within); none = λ z. omega (arith, t.none (omega arith)); some = λ z. grind (arith, t.some, t.within); unkept = b refl ∙ t.unkept }
grown true h w k r f n k' t a b = record { within = omega (arith, t.within); quiet = t.quiet; stays = λ z. grind (arith, t.stays, a refl); out = λ z. grind (arith, t.out, t.within, a refl); all = λ z. grind (arith, t.all, a refl) }

deliver-sound : {C : Type 0} (m : Message) (p : SideState C) → IsSound p → IsSound (deliver m p)
deliver-sound m p s = record { balances = λ x o. each x o; positive = s.positive }
  where
    vs : List Value
    vs = references_in p.side m.body

    each : (x : Name) → is_same_side x.side p.side ≡ false → BalancesAt x (deliver m p)
    each x o =
        let a : local_count x (deliver m p) ≡ references_to x (references_in p.side m.body) + local_count x p = omega (arith, local_count-is x (deliver m p), local_count-is x p, references_to-append x (references_in p.side m.body) p.in_flight) in
        let b : carried_in p.side x (deliver m p).delivered ≡ carried_in p.side x p.delivered + references_to x (references_in p.side m.body) = omega (arith, carried_in-append p.side x p.delivered (m ∷ [])) in
        let c = count_in_names-append x (remote_names_in p.side (λ n. is_dead p n) (references_in p.side m.body)) p.unreleased in
        same_balances (is_dead p x.instance) _ _ _ _ _ _ _ _ _ _ (grown (is_dead p x.instance) _ _ _ _ _ (references_to x (references_in p.side m.body)) (count_in_names x (deliver m p).unreleased) (s.balances x o) (λ d. let e = count_in_names-in x p.side (λ n. is_dead p n) (references_in p.side m.body) o d in omega arith) (λ d. let e = count_in_names-out x p.side (λ n. is_dead p n) (references_in p.side m.body) d in omega arith)) a refl refl b refl

deliver_next-sound : {C : Type 0} (ms : List Message) (p : SideState C) → IsSound p → IsSound (deliver_next ms p)
deliver_next-sound [] p s = s
deliver_next-sound (m ∷ rest) p s = deliver-sound m (record p { undelivered = rest }) (record { balances = s.balances; positive = s.positive })

send_payload-sound : {C : Type 0} (depth : Depth) (o : Option Payload) (p : SideState C) → IsSound p → IsSound (send_payload depth o p)
send_payload-sound depth None p s = s
send_payload-sound depth (Some body) p s = record { balances = λ x o. sent_ x o; positive = positive-drop 1024 p.pending_releases s.positive }
  where
    gives : (d : Bool) (h w k r f a w' f' : ℕ) → Balances d h w k r f → f' ≡ f + a → a + w' ≡ w → Balances d h w' k r f'
    gives false h w k r f a w' f' t e g = record { within = omega (arith, t.within); none = λ z. omega (arith, t.none z); some = λ z. omega (arith, t.some z); unkept = t.unkept }
    gives true h w k r f a w' f' t e g = record { within = omega (arith, t.within, t.quiet); quiet = omega (arith, t.quiet); stays = t.stays; out = λ z. omega (arith, t.quiet, t.out z); all = λ z. t.all (omega (arith, t.quiet)) }

    sent_ : (x : Name) → is_same_side x.side p.side ≡ false → BalancesAt x (send_payload depth (Some body) p)
    sent_ x o =
        let e : released_in x (send_payload depth (Some body) p).sent ≡ released_in x p.sent + released_count x (take 1024 p.pending_releases) = omega (arith, released_in-append x p.sent (record { depth = depth; releases = take 1024 p.pending_releases; body = body } ∷ [])) in
        gives (is_dead p x.instance) _ _ _ _ _ (released_count x (take 1024 p.pending_releases)) _ _ (s.balances x o) e (released_count-cut x 1024 p.pending_releases)

add_constant-sound : {C : Type 0} (v : Value) (n : Option Name) (p : SideState C) → name_of v ≡ n → IsSound p → IsSound (add_constant v n p)
add_constant-sound v None p e s = record { balances = λ x o. moved x p (add_constant v None p) (s.balances x o) refl (simp e (omega arith)) refl refl refl refl; positive = s.positive }
add_constant-sound v (Some y) p e s = s

create_object-sound : {C : Type 0} (y : Name) (class : ℕ) (p : SideState C) → is_same_side y.side p.side ≡ true → IsSound p → IsSound (create_object y class p)
create_object-sound y class p f s = record {
  balances = λ x o. let q = one_other x y p.side o f in moved x p (create_object y class p) (s.balances x o) (ap is_dead_phase (serial-phase x.instance y.instance y.serial p.instances)) (simp q (omega (arith, with_serial-slots x y.instance y.serial p.instances, with_object-more x (record { name = y; class = class; properties = [] }) p.objects))) refl refl refl refl;
  positive = s.positive;
}

pub step-sound : {C : Type 0} (remote : Name → Bool) (step : Step) (p : SideState C) → IsSound p → IsSound (run_step remote step p)
step-sound remote (Copy place) p s = record {
  balances = λ x o. let a : local_count x (run_step remote (Copy place) p) ≡ count_in_value x (read place p) + local_count x p = omega (arith, local_count-is x (run_step remote (Copy place) p), local_count-is x p) in let l : count_in_value x (read place p) ≤ local_count x p = omega (arith, read-le x place p, local_count-is x p) in same_balances (is_dead p x.instance) _ _ _ _ _ _ _ _ _ _ (more_balances (is_dead p x.instance) _ _ _ _ _ _ (s.balances x o) l) a refl refl refl refl;
  positive = s.positive;
}
step-sound remote (Constant v) p s = add_constant-sound v (name_of v) p refl s
step-sound remote (Put place) p s = put_next-sound place p.in_flight p refl s
step-sound remote (Remove y key) p s = record { balances = λ x o. moved x p (run_step remote (Remove y key) p) (s.balances x o) refl (omega (arith, removed-old x y key p.objects)) refl refl refl refl; positive = s.positive }
step-sound remote Drop p s = drop_next-sound remote p.in_flight p refl s
step-sound remote (DropEach n) p s = drop_each-sound n remote p s
step-sound remote (MoveAfter n) p s = record { balances = λ x o. moved x p (run_step remote (MoveAfter n) p) (s.balances x o) refl (omega (arith, moved_after-local_count x n p.in_flight)) refl refl refl refl; positive = s.positive }
step-sound remote (Create n class) p s = by_if IsSound (is_begun n p.instances) _ _ (λ e. create_object-sound _ class p (same_side-refl p.side) s) (λ e. s)
step-sound remote (Enter n entry) p s = record { balances = λ x o. moved x p (run_step remote (Enter n entry) p) (s.balances x o) refl (omega (arith, enter_body-local_count x n p.in_flight, references_to-append x (take n p.in_flight) (voids (16 - n)), voids-none x (16 - n))) refl refl refl refl; positive = s.positive }
step-sound remote (Leave n) p s = leave_body-sound n p.frames p refl s
step-sound remote (Advance n) p s = progress-sound (λ s. record s { done = s.done + n }) p s
step-sound remote (SetFlag b_) p s = progress-sound (λ s. record s { flag = b_ }) p s
step-sound remote (NoteException text) p s = progress-sound (λ s. record s { exception = Some text }) p s
step-sound remote (Await how) p s = progress-sound (λ s. record s { awaits = Some how }) p s
step-sound remote Resume p s = progress-sound (λ s. record s { awaits = None }) p s
step-sound remote HandOver p s = hand_over-sound p.in_flight p refl s
step-sound remote Deliver p s = deliver_next-sound p.undelivered p s
step-sound remote Sweep p s = record { balances = s.balances; positive = s.positive }
step-sound remote Deallocate p s = serve_deallocations-sound (length p.objects) remote p.dealloc_queue p s
step-sound remote (Begin n) p s = record { balances = λ x o. moved x p (run_step remote (Begin n) p) (s.balances x o) (begun-phase x.instance n (voids 9) p.instances) (omega (arith, slots-append x p.instances (record { number = n; phase = Live; serial = 0; slots = voids 9 } ∷ []), voids-none x 9)) refl refl refl refl; positive = s.positive }
step-sound remote (MarkDestroying n) p s = record { balances = λ x o. moved x p (run_step remote (MarkDestroying n) p) (s.balances x o) (destroy-phase x.instance n p.instances) (omega (arith, destroy-slots x n p.instances)) refl refl refl refl; positive = s.positive }
step-sound remote (TearDown n) p s = by_if IsSound (is_begun n p.instances) _ _ (λ e. tear_down-sound n p e s) (λ e. s)
step-sound remote (File file) p s = record { balances = s.balances; positive = s.positive }
step-sound remote (Print line) p s = record { balances = s.balances; positive = s.positive }

pub sends-sound : {C : Type 0} (o : Option Sending) (p : SideState C) → IsSound p → IsSound (send_draft o p)
sends-sound None p s = s
sends-sound (Some m) p s = send_payload-sound m.depth (draft_payload (other_side p.side) m.draft p.handed_over) p s

pub examine-sound : {C : Type 0} (m : Message) (p : SideState C) → IsSound p → IsSound (examine m p)
examine-sound m p s = record { balances = s.balances; positive = s.positive }
