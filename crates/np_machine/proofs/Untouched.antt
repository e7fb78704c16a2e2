-- What the dropping and moving of values leaves as it was.
use Rattle.std.proofs.Common.{◌≡◌, ℕ, zero, suc, ◌+◌, ◌-◌, ◌≤◌, List, [], ◌∷◌, ◌++◌, length, Bool, true, ◌&&◌, refl, ap, ◌∙◌, arith, Option, Some, None}
use Rattle.std.specs.Prelude.{◌==◌, not}
use Rattle.np_values.specs.declared.name.Name.{Name}
use Rattle.np_values.specs.declared.value.Value.{Value}
use Rattle.np_values.specs.Name.{is_same_side}
use Rattle.np_proxy_release.specs.declared.release.Release.{Release}
use Rattle.np_machine.specs.References.{name_of, count_in_value, references_to}
use Rattle.np_machine.specs.declared.frame.Frame.{Frame}
use Rattle.np_machine.specs.Side.{SideState, local_count, is_dead}
use Rattle.np_machine.specs.Instances.{is_dead_phase, slots_in}
use Rattle.np_machine.specs.Objects.{properties_of, with_properties, put_property, property_at, has_object}
use Rattle.np_machine.specs.declared.place.Place.{Place}
use Rattle.np_machine.specs.declared.place.Place.TheVariants.{Register, PageRegister, Slot, PropertyOf, This}
use Rattle.np_machine.specs.Values.{put_at}
use Rattle.np_machine.specs.Frames.{registers_of}
use Rattle.np_machine.specs.Places.{read, exchange, put_next}
use Rattle.np_machine.specs.Dropping.{received_count, returned_count, add_release, drop_remote, drop_local, drop_reference, drop_next, drop_many}
use Rattle.np_machine.specs.Deallocation.{take_out, serve_deallocations, serve_queue, drop_each}
use Rattle.np_machine.specs.Steps.{leave_body}
use Rattle.np_machine.proofs.Counting.{properties-le, property_at-le, put-old, put_property-old, put_register-old, put_slot-old, read-at-le, registers-le, slots-le, total, with_properties-old}
use Rattle.np_machine.proofs.BalanceLemmas.{by_if}
use Rattle.np_machine.proofs.PhaseLemmas.{slots-phase}

pub read-le : {C : Type 0} (x : Name) (place : Place) (p : SideState C) → count_in_value x (read place p) ≤ total x p
read-le x (Register i) p = omega (arith, read-at-le x i (registers_of p.frames), registers-le x p.frames)
read-le x (PageRegister i) p = omega (arith, read-at-le x i p.registers)
read-le x (Slot n i) p = omega (arith, read-at-le x i (slots_in n p.instances), slots-le x n p.instances)
read-le x (PropertyOf y key) p = omega (arith, property_at-le x key (properties_of y p.objects), properties-le x y p.objects)
read-le x This p = self p.frames refl
  where
    self : (stack : List Frame) → p.frames ≡ stack → count_in_value x (read This p) ≤ total x p
    self [] e = simp e (omega arith)
    self (a ∷ rest) e = simp e (omega arith)

pub exchange-local_count : {C : Type 0} (x : Name) (place : Place) (v : Value) (rest : List Value) (p : SideState C) → p.in_flight ≡ v ∷ rest → total x (exchange place v rest p) ≡ total x p
exchange-local_count x (Register i) v rest p e = let a : references_to x p.in_flight ≡ count_in_value x v + references_to x rest = ap (λ l. references_to x l) e in omega (arith, a, put_register-old x i v p.frames)
exchange-local_count x (PageRegister i) v rest p e = let a : references_to x p.in_flight ≡ count_in_value x v + references_to x rest = ap (λ l. references_to x l) e in omega (arith, a, put-old x i v p.registers)
exchange-local_count x (Slot n i) v rest p e = let a : references_to x p.in_flight ≡ count_in_value x v + references_to x rest = ap (λ l. references_to x l) e in omega (arith, a, put_slot-old x n i v p.instances)
exchange-local_count x (PropertyOf y key) v rest p e = by_if (λ (q : SideState _). total x q ≡ total x p) (has_object y p.objects) _ _ there (λ f. refl)
  where
    there : has_object y p.objects ≡ true → total x (record p { objects = with_properties y (put_property key v (properties_of y p.objects)) p.objects; in_flight = property_at key (properties_of y p.objects) ∷ rest }) ≡ total x p
    there f =
        let a : references_to x p.in_flight ≡ count_in_value x v + references_to x rest = ap (λ l. references_to x l) e in
        let g = with_properties-old x y (put_property key v (properties_of y p.objects)) p.objects f in
        let h = put_property-old x key v (properties_of y p.objects) in
        omega (arith, a, g, h)
exchange-local_count x This v rest p e = refl

pub record Same {C : Type 0} (p q : SideState C) : Type 0 where
  pub side : p.side ≡ q.side
  pub dead : (n : ℕ) → is_dead p n ≡ is_dead q n
  pub sent : p.sent ≡ q.sent
  pub examined : p.examined ≡ q.examined
  pub undelivered : p.undelivered ≡ q.undelivered
  pub delivered : p.delivered ≡ q.delivered
  pub handed_over : p.handed_over ≡ q.handed_over
  pub unreleased : p.unreleased ≡ q.unreleased
  pub files : p.files ≡ q.files

unchanged : {C : Type 0} (p : SideState C) → Same p p
unchanged p = record { side = refl; dead = λ n. refl; sent = refl; examined = refl; undelivered = refl; delivered = refl; handed_over = refl; unreleased = refl; files = refl }

same_trans : {C : Type 0} (p q r : SideState C) → Same p q → Same q r → Same p r
same_trans p q r a b = record { side = a.side ∙ b.side; dead = λ n. a.dead n ∙ b.dead n; sent = a.sent ∙ b.sent; examined = a.examined ∙ b.examined; undelivered = a.undelivered ∙ b.undelivered; delivered = a.delivered ∙ b.delivered; handed_over = a.handed_over ∙ b.handed_over; unreleased = a.unreleased ∙ b.unreleased; files = a.files ∙ b.files }

pub drop_reference-same : {C : Type 0} (remote : Name → Bool) (n : Option Name) (p : SideState C) → Same (drop_reference remote n p) p
drop_reference-same remote None p = unchanged p
drop_reference-same remote (Some y) p = by_if (λ q. Same q p) (is_same_side y.side p.side) _ _ (λ e. own) (λ e. others)
  where
    leave_ : (w : List Release) (ds : List Name) → Same (record p { pending_releases = w; dealloc_queue = ds }) p
    leave_ w ds = record { side = refl; dead = λ n. refl; sent = refl; examined = refl; undelivered = refl; delivered = refl; handed_over = refl; unreleased = refl; files = refl }

    own : Same (drop_local remote y p) p
    own = by_if (λ q. Same q p) (not (is_dead p y.instance) && (local_count y p == 0 && not (remote y))) _ _ (λ e. leave_ p.pending_releases (p.dealloc_queue ++ y ∷ [])) (λ e. unchanged p)

    others : Same (drop_remote y p) p
    others = by_if (λ q. Same q p) (is_dead p y.instance) _ _ (λ e. unchanged p) (λ e. by_if (λ q. Same q p) (local_count y p == 0) _ _ (λ e. leave_ (add_release (record { instance = y.instance; serial = y.serial; times = received_count y p - returned_count y p }) p.pending_releases) p.dealloc_queue) (λ e. unchanged p))

pub drop_next-same : {C : Type 0} (remote : Name → Bool) (vs : List Value) (p : SideState C) → Same (drop_next remote vs p) p
drop_next-same remote [] p = unchanged p
drop_next-same remote (v ∷ rest) p =
    let a = drop_reference-same remote (name_of v) (record p { in_flight = rest }) in
    record { side = a.side; dead = a.dead; sent = a.sent; examined = a.examined; undelivered = a.undelivered; delivered = a.delivered; handed_over = a.handed_over; unreleased = a.unreleased; files = a.files }

drop_many-same : {C : Type 0} (n : ℕ) (remote : Name → Bool) (p : SideState C) → Same (drop_many n remote p) p
drop_many-same zero remote p = unchanged p
drop_many-same (suc n) remote p =
    same_trans _ (drop_next remote p.in_flight p) p (drop_many-same n remote (drop_next remote p.in_flight p)) (drop_next-same remote p.in_flight p)

pub serve_deallocations-same : {C : Type 0} (n : ℕ) (remote : Name → Bool) (ds : List Name) (p : SideState C) → Same (serve_deallocations n remote ds p) p
serve_deallocations-same zero remote ds p = unchanged p
serve_deallocations-same (suc n) remote [] p = unchanged p
serve_deallocations-same (suc n) remote (y ∷ rest) p =
    let k = length (properties_of y p.objects) in
    let q = drop_many k remote (take_out y rest p) in
    let a = drop_many-same k remote (take_out y rest p) in
    same_trans _ q p (serve_deallocations-same n remote q.dealloc_queue q) (record { side = a.side; dead = a.dead; sent = a.sent; examined = a.examined; undelivered = a.undelivered; delivered = a.delivered; handed_over = a.handed_over; unreleased = a.unreleased; files = a.files })

pub drop_each-same : {C : Type 0} (n : ℕ) (remote : Name → Bool) (p : SideState C) → Same (drop_each n remote p) p
drop_each-same zero remote p = unchanged p
drop_each-same (suc n) remote p =
    let q = drop_next remote p.in_flight p in
    let d = serve_queue remote q in
    same_trans _ d p (drop_each-same n remote d) (same_trans d q p (serve_deallocations-same (length q.objects) remote q.dealloc_queue q) (drop_next-same remote p.in_flight p))

pub exchange-same : {C : Type 0} (place : Place) (v : Value) (rest : List Value) (p : SideState C) → Same (exchange place v rest p) p
exchange-same (Register i) v rest p = record { side = refl; dead = λ n. refl; sent = refl; examined = refl; undelivered = refl; delivered = refl; handed_over = refl; unreleased = refl; files = refl }
exchange-same (PageRegister i) v rest p = record { side = refl; dead = λ n. refl; sent = refl; examined = refl; undelivered = refl; delivered = refl; handed_over = refl; unreleased = refl; files = refl }
exchange-same (Slot n i) v rest p = record { side = refl; dead = λ m. ap is_dead_phase (slots-phase m n (put_at i v (slots_in n p.instances)) p.instances); sent = refl; examined = refl; undelivered = refl; delivered = refl; handed_over = refl; unreleased = refl; files = refl }
exchange-same (PropertyOf y key) v rest p = by_if (λ q. Same q p) (has_object y p.objects) _ _ (λ e. record { side = refl; dead = λ n. refl; sent = refl; examined = refl; undelivered = refl; delivered = refl; handed_over = refl; unreleased = refl; files = refl }) (λ e. unchanged p)
exchange-same This v rest p = unchanged p

pub put_next-same : {C : Type 0} (place : Place) (vs : List Value) (p : SideState C) → Same (put_next place vs p) p
put_next-same place [] p = unchanged p
put_next-same place (v ∷ rest) p = exchange-same place v rest p

pub leave_body-same : {C : Type 0} (n : ℕ) (stack : List Frame) (p : SideState C) → Same (leave_body n stack p) p
leave_body-same n [] p = unchanged p
leave_body-same n (a ∷ rest) p = record { side = refl; dead = λ n. refl; sent = refl; examined = refl; undelivered = refl; delivered = refl; handed_over = refl; unreleased = refl; files = refl }
