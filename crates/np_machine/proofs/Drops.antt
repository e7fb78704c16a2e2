-- The counts still balance after a reference is dropped, and after objects are deallocated.
use Rattle.std.proofs.Common.{◌≡◌, ℕ, zero, suc, ◌+◌, ◌-◌, ◌<◌, List, [], ◌∷◌, ◌++◌, length, Bool, true, false, ◌&&◌, refl, sym, ap, ◌∙◌, subst, arith, drop, inl, inr, Option, Some, None}
use Rattle.std.specs.Prelude.{◌==◌, if◌then◌else◌, not}
use Rattle.np_values.specs.declared.name.Side.{Side}
use Rattle.np_values.specs.declared.name.Side.TheVariants.{Page, Plug}
use Rattle.np_values.specs.declared.name.Name.{Name}
use Rattle.np_values.specs.declared.value.Value.{Value}
use Rattle.np_values.specs.Name.{is_same_side}
use Rattle.np_proxy_release.specs.declared.release.Release.{Release}
use Rattle.np_proxy_release.specs.Release.{is_released_before}
use Rattle.np_machine.specs.References.{is_same_name, name_of, count_in_name, count_in_value, references_to, count_in_names, released_count, carried_in, released_in}
use Rattle.np_machine.specs.Side.{SideState, local_count, is_dead}
use Rattle.np_machine.specs.Objects.{property_values, properties_of}
use Rattle.np_machine.specs.Dropping.{received_count, returned_count, add_release, drop_remote, drop_local, drop_reference, drop_next, drop_many}
use Rattle.np_machine.specs.Deallocation.{take_out, serve_deallocations, serve_queue, drop_each}
use Rattle.np_machine.specs.Messages.{hand_over}
use Rattle.np_machine.specs.Sound.{Balances, BalancesLive, BalancesAt, ArePositive, IsSound}
use Rattle.np_machine.proofs.Counting.{local_count-is, property_values-are, references_to-append, without_object-old}
use Rattle.np_machine.proofs.NameLemmas.{same-is, same-refl, released_count-add}
use Rattle.np_machine.proofs.BalanceLemmas.{by_if, less_balances, is_zero, moved, nonzero, same_balances}
use Rattle.np_machine.proofs.Untouched.{drop_reference-same}

-- the counts balance where the reference to be dropped is counted besides the places
abbrev pub BalancesBeside : {C : Type 0} → Name → Option Name → SideState C → Type 0
BalancesBeside x n p = Balances (is_dead p x.instance) (count_in_name x n + local_count x p) (released_count x p.pending_releases) (count_in_names x p.unreleased) (carried_in p.side x p.delivered) (released_in x p.sent)

-- a name of the other side differs from one of this side
pub one_other : (x y : Name) (s : Side) → is_same_side x.side s ≡ false → is_same_side y.side s ≡ true → is_same_name x y ≡ false
one_other x y s e f = go (is_same_name x y) refl
  where
    go : (b : Bool) → is_same_name x y ≡ b → is_same_name x y ≡ false
    go true g = let h = ap (λ n. is_same_side n.side s) (same-is x y g) in cc
    go false g = g

-- two names of the other side are of the same side
both_other : (a b c : Side) → is_same_side a c ≡ false → is_same_side b c ≡ false → is_same_side a b ≡ true
both_other Page Page c e f = refl
both_other Plug Plug c e f = refl
both_other Page Plug Page e f = cc
both_other Page Plug Plug e f = cc
both_other Plug Page Page e f = cc
both_other Plug Page Plug e f = cc

drop_local-balances : {C : Type 0} (remote : Name → Bool) (y x : Name) (p : SideState C) → BalancesAt x p → BalancesAt x (drop_local remote y p)
drop_local-balances remote y x p f = by_if (λ q. BalancesAt x q) (not (is_dead p y.instance) && (local_count y p == 0 && not (remote y))) _ _ (λ e. f) (λ e. f)

abbrev pub last_release : {C : Type 0} → Name → SideState C → Release
last_release y p = record { instance = y.instance; serial = y.serial; times = received_count y p - returned_count y p }

-- how many references to x a release of y gives back
released_count-last : (x y : Name) (s : Side) (t : ℕ) → is_same_side x.side s ≡ false → is_same_side y.side s ≡ false → (if x.instance == y.instance && x.serial == y.serial then t else 0) ≡ (if is_same_name x y then t else 0)
released_count-last x y s t o e = simp (both_other x.side y.side s o e) refl

drop_remote-balances : {C : Type 0} (y x : Name) (p : SideState C) → is_same_side x.side p.side ≡ false → is_same_side y.side p.side ≡ false → BalancesBeside x (Some y) p → BalancesAt x (drop_remote y p)
drop_remote-balances y x p o u f = by_if (λ q. BalancesAt x q) (is_dead p y.instance) _ _ dead live
  where
    others : is_same_name x y ≡ false → BalancesAt x p
    others e = less_balances (is_dead p x.instance) _ _ _ _ _ (count_in_name x (Some y)) f (inl (simp e))

    dead : is_dead p y.instance ≡ true → BalancesAt x p
    dead d = go (is_same_name x y) refl
      where
        go : (b : Bool) → is_same_name x y ≡ b → BalancesAt x p
        go true e = less_balances (is_dead p x.instance) _ _ _ _ _ (count_in_name x (Some y)) f (inr (inr (ap (λ n. is_dead p n.instance) (same-is x y e) ∙ d)))
        go false e = others e

    live : is_dead p y.instance ≡ false → BalancesAt x (if local_count y p == 0 then record p { pending_releases = add_release (last_release y p) p.pending_releases } else p)
    live d = by_if (λ q. BalancesAt x q) (local_count y p == 0) _ _ (λ e. gone (is_zero _ e)) (λ e. stays (nonzero _ e))
      where
        gone : local_count y p ≡ 0 → BalancesAt x (record p { pending_releases = add_release (last_release y p) p.pending_releases })
        gone z = go (is_same_name x y) refl
          where
            a : released_count x (add_release (last_release y p) p.pending_releases) ≡ released_count x p.pending_releases + (if is_same_name x y then received_count y p - returned_count y p else 0)
            a = released_count-add x (last_release y p) p.pending_releases ∙ ap (λ n. released_count x p.pending_releases + n) (released_count-last x y p.side (received_count y p - returned_count y p) o u)

            go : (b : Bool) → is_same_name x y ≡ b → BalancesAt x (record p { pending_releases = add_release (last_release y p) p.pending_releases })
            go true e =
                let k = same-is x y e in
                let a' = simp e at a in
                let c : received_count y p - returned_count y p ≡ received_count x p - returned_count x p = ap (λ n. received_count n p - returned_count n p) (sym k) in
                let hz : local_count x p ≡ 0 = ap (λ n. local_count n p) k ∙ z in
                let dx : is_dead p x.instance ≡ false = ap (λ n. is_dead p n.instance) k ∙ d in
                let f' : BalancesLive (count_in_name x (Some y) + local_count x p) (released_count x p.pending_releases) (count_in_names x p.unreleased) (carried_in p.side x p.delivered) (released_in x p.sent) = subst (λ t. Balances t (count_in_name x (Some y) + local_count x p) (released_count x p.pending_releases) (count_in_names x p.unreleased) (carried_in p.side x p.delivered) (released_in x p.sent)) dx f in
                subst (λ t. Balances t (local_count x p) (released_count x (add_release (last_release y p) p.pending_releases)) (count_in_names x p.unreleased) (carried_in p.side x p.delivered) (released_in x p.sent)) (sym dx) (record { within = omega (arith, a', c, f'.within); none = λ q. omega (arith, a', c, f'.within); some = λ q. absurd (omega arith); unkept = f'.unkept })
            go false e =
                let a' = simp e at a in
                same_balances (is_dead p x.instance) _ _ _ _ _ _ _ _ _ _ (others e) refl (omega (arith, a')) refl refl refl

        stays : 0 < local_count y p → BalancesAt x p
        stays z = go (is_same_name x y) refl
          where
            go : (b : Bool) → is_same_name x y ≡ b → BalancesAt x p
            go true e =
                let hz : 0 < local_count x p = subst (λ n. 0 < local_count n p) (sym (same-is x y e)) z in
                less_balances (is_dead p x.instance) _ _ _ _ _ (count_in_name x (Some y)) f (inr (inl hz))
            go false e = others e

drop_reference-balances : {C : Type 0} (remote : Name → Bool) (n : Option Name) (x : Name) (p : SideState C) → is_same_side x.side p.side ≡ false → BalancesBeside x n p → BalancesAt x (drop_reference remote n p)
drop_reference-balances remote None x p o f = less_balances (is_dead p x.instance) _ _ _ _ _ 0 f (inl refl)
drop_reference-balances remote (Some y) x p o f = by_if (λ q. BalancesAt x q) (is_same_side y.side p.side) _ _ own (λ e. drop_remote-balances y x p o e f)
  where
    own : is_same_side y.side p.side ≡ true → BalancesAt x (drop_local remote y p)
    own e = drop_local-balances remote y x p (less_balances (is_dead p x.instance) _ _ _ _ _ (count_in_name x (Some y)) f (inl (simp (one_other x y p.side o e))))

-- ---- each release gives back a reference at least

positive-add : (r : Release) (rs : List Release) → 0 < r.times → ArePositive rs → ArePositive (add_release r rs)
positive-add r [] z h = (z, tt)
positive-add r (s ∷ rs) z h = by_if ArePositive (r.instance == s.instance && r.serial == s.serial) _ _ (λ e. (omega (arith, h.0), h.1)) (λ e. by_if ArePositive (is_released_before r s) _ _ (λ f. (z, h)) (λ f. (h.0, positive-add r rs z h.1)))

pub positive-drop : (n : ℕ) (rs : List Release) → ArePositive rs → ArePositive (drop n rs)
positive-drop zero rs h = h
positive-drop (suc n) [] h = tt
positive-drop (suc n) (r ∷ rs) h = positive-drop n rs h.1

pub positive-live : (d : Bool) (h w k r f : ℕ) → d ≡ false → 0 < h → Balances d h w k r f → 0 < r - (f + w)
positive-live false h w k r f e z t = omega (arith, t.some z)
positive-live true h w k r f e z t = cc

drop_reference-positive : {C : Type 0} (remote : Name → Bool) (n : Option Name) (p : SideState C) → ((x : Name) → is_same_side x.side p.side ≡ false → BalancesBeside x n p) → ArePositive p.pending_releases → ArePositive (drop_reference remote n p).pending_releases
drop_reference-positive remote None p f h = h
drop_reference-positive remote (Some y) p f h = by_if (λ (q : SideState _). ArePositive q.pending_releases) (is_same_side y.side p.side) _ _ (λ e. own) (λ e. others e)
  where
    own : ArePositive (drop_local remote y p).pending_releases
    own = by_if (λ (q : SideState _). ArePositive q.pending_releases) (not (is_dead p y.instance) && (local_count y p == 0 && not (remote y))) _ _ (λ e. h) (λ e. h)

    others : is_same_side y.side p.side ≡ false → ArePositive (drop_remote y p).pending_releases
    others o = by_if (λ (q : SideState _). ArePositive q.pending_releases) (is_dead p y.instance) _ _ (λ d. h) live
      where
        once : 0 < count_in_name y (Some y) + local_count y p
        once = simp (same-refl y) (omega arith)

        live : is_dead p y.instance ≡ false → ArePositive (if local_count y p == 0 then record p { pending_releases = add_release (last_release y p) p.pending_releases } else p).pending_releases
        live d = by_if (λ (q : SideState _). ArePositive q.pending_releases) (local_count y p == 0) _ _ (λ e. positive-add (last_release y p) p.pending_releases (positive-live (is_dead p y.instance) (count_in_name y (Some y) + local_count y p) (released_count y p.pending_releases) (count_in_names y p.unreleased) (carried_in p.side y p.delivered) (released_in y p.sent) d once (f y o)) h) (λ e. h)

drop_reference-sound : {C : Type 0} (remote : Name → Bool) (n : Option Name) (p : SideState C) → ((x : Name) → is_same_side x.side p.side ≡ false → BalancesBeside x n p) → ArePositive p.pending_releases → IsSound (drop_reference remote n p)
drop_reference-sound remote n p f h =
    record { balances = λ x o. let o' = sym (ap (λ z. is_same_side x.side z) (drop_reference-same remote n p).side) ∙ o in drop_reference-balances remote n x p o' (f x o'); positive = drop_reference-positive remote n p f h }

-- the next value in flight, counted apart from the places
pub beside : {C : Type 0} (x : Name) (v : Value) (rest : List Value) (p : SideState C) → p.in_flight ≡ v ∷ rest → count_in_value x v + local_count x (record p { in_flight = rest }) ≡ local_count x p
beside x v rest p e =
    let a : references_to x p.in_flight ≡ count_in_value x v + references_to x rest = ap (λ l. references_to x l) e in
    omega (arith, local_count-is x (record p { in_flight = rest }), local_count-is x p, a)

pub drop_next-sound : {C : Type 0} (remote : Name → Bool) (vs : List Value) (p : SideState C) → p.in_flight ≡ vs → IsSound p → IsSound (drop_next remote vs p)
drop_next-sound remote [] p e s = s
drop_next-sound remote (v ∷ rest) p e s =
    drop_reference-sound remote (name_of v) (record p { in_flight = rest }) (λ x o. same_balances (is_dead p x.instance) _ _ _ _ _ _ _ _ _ _ (s.balances x o) (beside x v rest p e) refl refl refl refl) s.positive

pub drop_many-sound : {C : Type 0} (n : ℕ) (remote : Name → Bool) (p : SideState C) → IsSound p → IsSound (drop_many n remote p)
drop_many-sound zero remote p s = s
drop_many-sound (suc n) remote p s = drop_many-sound n remote (drop_next remote p.in_flight p) (drop_next-sound remote p.in_flight p refl s)

-- ---- objects are deallocated

pub take_out-sound : {C : Type 0} (y : Name) (rest : List Name) (p : SideState C) → IsSound p → IsSound (take_out y rest p)
take_out-sound y rest p s = record {
  balances = λ x o. moved x p (take_out y rest p) (s.balances x o) refl (omega (arith, references_to-append x (property_values (properties_of y p.objects)) p.in_flight, property_values-are x (properties_of y p.objects), without_object-old x y p.objects)) refl refl refl refl;
  positive = s.positive;
}

pub serve_deallocations-sound : {C : Type 0} (n : ℕ) (remote : Name → Bool) (ds : List Name) (p : SideState C) → IsSound p → IsSound (serve_deallocations n remote ds p)
serve_deallocations-sound zero remote ds p s = s
serve_deallocations-sound (suc n) remote [] p s = s
serve_deallocations-sound (suc n) remote (y ∷ rest) p s =
    let k = length (properties_of y p.objects) in
    let q = drop_many k remote (take_out y rest p) in
    serve_deallocations-sound n remote q.dealloc_queue q (drop_many-sound k remote (take_out y rest p) (take_out-sound y rest p s))

pub drop_each-sound : {C : Type 0} (n : ℕ) (remote : Name → Bool) (p : SideState C) → IsSound p → IsSound (drop_each n remote p)
drop_each-sound zero remote p s = s
drop_each-sound (suc n) remote p s =
    let q = drop_next remote p.in_flight p in
    drop_each-sound n remote (serve_queue remote q) (serve_deallocations-sound (length q.objects) remote q.dealloc_queue q (drop_next-sound remote p.in_flight p refl s))

pub hand_over-sound : {C : Type 0} (vs : List Value) (p : SideState C) → p.in_flight ≡ vs → IsSound p → IsSound (hand_over vs p)
hand_over-sound [] p e s = s
hand_over-sound (v ∷ rest) p e s =
    drop_reference-sound (λ y. true) (name_of v) (record p { in_flight = rest; handed_over = p.handed_over ++ v ∷ [] }) (λ x o. same_balances (is_dead p x.instance) _ _ _ _ _ _ _ _ _ _ (s.balances x o) (beside x v rest p e) refl refl refl refl) s.positive
