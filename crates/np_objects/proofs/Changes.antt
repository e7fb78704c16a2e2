-- What one call leaves of each object and of each instance.
use Rattle.std.proofs.Common.{◌≡◌, ℕ, ◌<◌, List, [], ◌∷◌, length, Bool, true, false, refl, sym, ap, ◌∙◌, subst, arith, Option, Some, None, is_some}
use Rattle.std.specs.Prelude.{◌==◌, if◌then◌else◌}
use Rattle.std.specs.Option.{option_map}
use Rattle.std.proofs.lemmas.Bool.Decides.{nat_tests}
use Rattle.std.proofs.lemmas.List.{get_or-set_same, get_or-set_other}
use Rattle.np_values.specs.declared.name.Name.{Name}
use Rattle.np_objects.specs.declared.object.LiveObject.{LiveObject}
use Rattle.np_objects.specs.declared.numbering.Numbering.{Numbering}
use Rattle.np_objects.specs.Fields.{fields_set, without_field}
use Rattle.np_objects.specs.LiveObjects.{is_same, object_at, is_there, at_name, raised, lowered, pin_set, fields_changed, fresh}
use Rattle.np_objects.specs.Objects.{Objects, numbering_of, numbered, killed, unnumbered, at_instance, next_name, is_live, after_create}
use Rattle.np_objects.specs.History.{Call, Create, Hold, Unhold, Pin, Unpin, SetField, RemoveField, TakeDead, Kill, after, IsAllowed, IsNewName, takes_out, changed_at, object_after, numbering_after}
use Rattle.np_objects.proofs.Names.{same-is}
use Rattle.np_objects.proofs.Finding.{edited-at, unchanged}
use Rattle.np_objects.proofs.Lookups.{other-at, with-at, without-at}
use Rattle.np_objects.proofs.Histories.{either}

edited : (x y : Name) (f : LiveObject → LiveObject) (os : List LiveObject) → ((o : LiveObject) → (f o).name ≡ o.name) → object_at x (at_name y f os) ≡ changed_at x y f (object_at x os)
edited x y f os k = go (is_same x y) refl (object_at x os) refl
  where
    go : (b : Bool) → is_same x y ≡ b → (o : Option LiveObject) → object_at x os ≡ o → object_at x (at_name y f os) ≡ changed_at x y f (object_at x os)
    go false q o e = simp q (other-at x y f k q os)
    go true q (Some o) e =
        let n : object_at x (at_name y f os) ≡ Some (f o) = subst (λ z. object_at x (at_name z f os) ≡ Some (f o)) (same-is x y q) (edited-at x f os o k e) in
        simp q (n ∙ sym (ap (λ t. option_map f t) e))
    go true q None e =
        let n : is_there y os ≡ false = ap (λ z. is_there z os) (sym (same-is x y q)) ∙ ap is_some e in
        simp q (ap (λ l. object_at x l) (unchanged y f os n) ∙ e ∙ sym (ap (λ t. option_map f t) e))

created : (i class : ℕ) (s : Objects) (x : Name) → is_live (next_name i s) s ≡ false → (b : Bool) → object_at x (if b then s else after_create i class s).live ≡ (if b then object_at x s.live else if is_same x (next_name i s) then Some (fresh (next_name i s) class) else object_at x s.live)
created i class s x new true = refl
created i class s x new false = with-at (fresh (next_name i s) class) x s.live new

pub object-known : (c : Call) (s : Objects) (x : Name) → IsNewName c s → takes_out x (c ∷ []) ≡ false → object_at x (after c s).live ≡ object_after c s x (object_at x s.live)
object-known (Create i class) s x new t = created i class s x new (length s.live == 1024)
object-known (Hold y) s x new t = edited x y raised s.live (λ o. refl)
object-known (Unhold y) s x new t = edited x y lowered s.live (λ o. refl)
object-known (Pin y) s x new t = edited x y (pin_set true) s.live (λ o. refl)
object-known (Unpin y) s x new t = edited x y (pin_set false) s.live (λ o. refl)
object-known (SetField y key value) s x new t = edited x y (fields_changed (fields_set key value)) s.live (λ o. refl)
object-known (RemoveField y key) s x new t = edited x y (fields_changed (without_field key)) s.live (λ o. refl)
object-known (TakeDead y) s x new t = without-at x y s.live (either (is_same x y) false t).0
object-known (Kill i) s x new t = refl

-- ---- instances

number-is : (n i : ℕ) → (n == i) ≡ true → n ≡ i
number-is n i e = grind (arith, nat_tests)

apart : (n i : ℕ) → (n == i) ≡ false → n ≡ i → ⊥
apart n i d e = grind (arith, nat_tests)

numbered-at : (ns : List Numbering) (i n : ℕ) (f : Numbering → Numbering) → i < length ns → numbering_of n (at_instance i f ns) ≡ (if n == i then f (numbering_of n ns) else numbering_of n ns)
numbered-at ns i n f small = go (n == i) refl
  where
    go : (b : Bool) → (n == i) ≡ b → numbering_of n (at_instance i f ns) ≡ (if n == i then f (numbering_of n ns) else numbering_of n ns)
    go true q =
        let here : numbering_of i (at_instance i f ns) ≡ f (numbering_of i ns) = get_or-set_same ns i (f (numbering_of i ns)) unnumbered small in
        simp q (subst (λ m. numbering_of m (at_instance i f ns) ≡ f (numbering_of m ns)) (sym (number-is n i q)) here)
    go false q = simp q (get_or-set_other ns i n (f (numbering_of i ns)) unnumbered (apart n i q))

created-number : (i class n : ℕ) (s : Objects) → i < length s.instances → (b : Bool) → numbering_of n (if b then s else after_create i class s).instances ≡ (if b then numbering_of n s.instances else if n == i then numbered (numbering_of n s.instances) else numbering_of n s.instances)
created-number i class n s small true = refl
created-number i class n s small false = numbered-at s.instances i n numbered small

pub numbering-known : (c : Call) (s : Objects) (n : ℕ) → IsAllowed c s → length s.instances ≡ 256 → numbering_of n (after c s).instances ≡ numbering_after c s n (numbering_of n s.instances)
numbering-known (Create i class) s n a l = created-number i class n s (omega (arith, a, l)) (length s.live == 1024)
numbering-known (Hold y) s n a l = refl
numbering-known (Unhold y) s n a l = refl
numbering-known (Pin y) s n a l = refl
numbering-known (Unpin y) s n a l = refl
numbering-known (SetField y key value) s n a l = refl
numbering-known (RemoveField y key) s n a l = refl
numbering-known (TakeDead y) s n a l = refl
numbering-known (Kill i) s n a l = numbered-at s.instances i n killed (omega (arith, a, l))
