-- What the changes of a store leave of what each store keeps.
use Rattle.std.proofs.Common.{◌≡◌, ◌≢◌, ℕ, suc, ◌+◌, ◌<◌, ◌≤◌, List, [], ◌∷◌, length, Bool, true, false, refl, sym, ap, ◌∙◌, subst, arith, inl, inr, ◌⊎◌, Result, Ok, Err, OnOk, OnErr}
use Rattle.std.specs.Prelude.{◌==◌, ◌&&◌, nat_le, slice_set}
use Rattle.std.proofs.Math.ListN.{set}
use Rattle.std.proofs.lemmas.Bool.Decides.{nat_tests}
use Rattle.std.proofs.lemmas.Bool.{cases_eq}
use Rattle.std.proofs.lemmas.List.{get_or-set_same, get_or-set_other, length-set}
use Rattle.np_values.specs.declared.name.Side.{Side}
use Rattle.np_values.specs.declared.name.Name.{Name}
use Rattle.np_values.specs.Name.{is_before, is_same_side}
use Rattle.np_objects.specs.declared.object.LiveObject.{LiveObject}
use Rattle.np_objects.specs.declared.numbering.Numbering.{Numbering}
use Rattle.np_objects.specs.LiveObjects.{is_same, is_there, at_name, with_object, without_object, names_in, are_rising, are_names_after, is_rising, are_after, fresh}
use Rattle.np_objects.specs.Objects.{Objects, unnumbered, numbering_of, were_named, IsKept, next_name, is_live}
use Rattle.np_objects.proofs.Names.{and_parts, same-is, same_side-refl}
use Rattle.np_objects.proofs.Finding.{and_both}

-- a name that is of the side, with a serial that was given
abbrev was_named : Side → List Numbering → Name → Bool
was_named side ns x = is_same_side x.side side && nat_le x.serial (numbering_of x.instance ns).last_serial

-- an edit of one object that keeps its name

length-edit : (x : Name) (f : LiveObject → LiveObject) (os : List LiveObject) → length (at_name x f os) ≡ length os
length-edit x f [] = refl
length-edit x f (o ∷ os) = go (is_same x o.name) refl (length-edit x f os)
  where
    go : (b : Bool) → is_same x o.name ≡ b → length (at_name x f os) ≡ length os → length (at_name x f (o ∷ os)) ≡ length (o ∷ os)
    go true q ih = simp q refl
    go false q ih = simp q (ap suc ih)

named-edit : (side : Side) (ns : List Numbering) (x : Name) (f : LiveObject → LiveObject) → ((o : LiveObject) → (f o).name ≡ o.name) → (os : List LiveObject) → were_named side ns (at_name x f os) ≡ were_named side ns os
named-edit side ns x f k [] = refl
named-edit side ns x f k (o ∷ os) = go (is_same x o.name) refl (named-edit side ns x f k os)
  where
    go : (b : Bool) → is_same x o.name ≡ b → were_named side ns (at_name x f os) ≡ were_named side ns os → were_named side ns (at_name x f (o ∷ os)) ≡ were_named side ns (o ∷ os)
    go true q ih = simp q (ap (λ y. was_named side ns y && were_named side ns os) (k o))
    go false q ih = simp q (ap (λ b. was_named side ns o.name && b) ih)

pub kept-edit : (side : Side) (ns : List Numbering) (x : Name) (f : LiveObject → LiveObject) (os new : List LiveObject) → ((o : LiveObject) → (f o).name ≡ o.name) → new ≡ at_name x f os → IsKept side os ns → IsKept side new ns
kept-edit side ns x f os new k e h = record {
  few = let l = ap length e ∙ length-edit x f os in omega (arith, l, h.few);
  named = ap (were_named side ns) e ∙ named-edit side ns x f k os ∙ h.named;
  instances = h.instances;
}

-- an edit that may fail, and leaves all as it was then
pub kept-tried : {A E : Type 0} (r : Result A E) (side : Side) (ns : List Numbering) (x : Name) (f : LiveObject → LiveObject) (os new : List LiveObject) → ((o : LiveObject) → (f o).name ≡ o.name) → OnOk r (new ≡ at_name x f os) → OnErr r (new ≡ os) → IsKept side os ns → IsKept side new ns
kept-tried (Ok v) side ns x f os new k ok err h = kept-edit side ns x f os new k ok h
kept-tried (Err v) side ns x f os new k ok err h = subst (λ l. IsKept side l ns) (sym err) h

-- an object that is taken out

length-without : (x : Name) (os : List LiveObject) → length (without_object x os) ≤ length os
length-without x [] = omega arith
length-without x (o ∷ os) = go (is_same x o.name) refl (length-without x os)
  where
    go : (b : Bool) → is_same x o.name ≡ b → length (without_object x os) ≤ length os → length (without_object x (o ∷ os)) ≤ length (o ∷ os)
    go true q ih = simp q (omega arith)
    go false q ih = simp q (omega (arith, ih))

named-without : (side : Side) (ns : List Numbering) (x : Name) (os : List LiveObject) → were_named side ns os ≡ true → were_named side ns (without_object x os) ≡ true
named-without side ns x [] h = refl
named-without side ns x (o ∷ os) h = go (is_same x o.name) refl (named-without side ns x os)
  where
    p : (was_named side ns o.name ≡ true) × (were_named side ns os ≡ true)
    p = and_parts (was_named side ns o.name) (were_named side ns os) h

    go : (b : Bool) → is_same x o.name ≡ b → (were_named side ns os ≡ true → were_named side ns (without_object x os) ≡ true) → were_named side ns (without_object x (o ∷ os)) ≡ true
    go true q ih = simp q p.1
    go false q ih = simp q (and_both (was_named side ns o.name) (were_named side ns (without_object x os)) p.0 (ih p.1))

pub kept-take : (side : Side) (ns : List Numbering) (x : Name) (os new : List LiveObject) → new ≡ without_object x os → IsKept side os ns → IsKept side new ns
kept-take side ns x os new e h = record {
  few = let l = ap length e in omega (arith, l, length-without x os, h.few);
  named = ap (were_named side ns) e ∙ named-without side ns x os h.named;
  instances = h.instances;
}

-- a further object

length-with : (o : LiveObject) (os : List LiveObject) → length (with_object o os) ≡ suc (length os)
length-with o [] = refl
length-with o (p ∷ os) = go (is_before o.name p.name) refl (length-with o os)
  where
    go : (b : Bool) → is_before o.name p.name ≡ b → length (with_object o os) ≡ suc (length os) → length (with_object o (p ∷ os)) ≡ suc (length (p ∷ os))
    go true q ih = simp q refl
    go false q ih = simp q (ap suc ih)

named-with : (side : Side) (ns : List Numbering) (o : LiveObject) (os : List LiveObject) → was_named side ns o.name ≡ true → were_named side ns os ≡ true → were_named side ns (with_object o os) ≡ true
named-with side ns o [] n h = and_both (was_named side ns o.name) true n refl
named-with side ns o (p ∷ os) n h = go (is_before o.name p.name) refl (named-with side ns o os n)
  where
    t : (was_named side ns p.name ≡ true) × (were_named side ns os ≡ true)
    t = and_parts (was_named side ns p.name) (were_named side ns os) h

    go : (b : Bool) → is_before o.name p.name ≡ b → (were_named side ns os ≡ true → were_named side ns (with_object o os) ≡ true) → were_named side ns (with_object o (p ∷ os)) ≡ true
    go true q ih = simp q (and_both (was_named side ns o.name) (were_named side ns (p ∷ os)) n h)
    go false q ih = simp q (and_both (was_named side ns p.name) (were_named side ns (with_object o os)) t.0 (ih t.1))

-- serials that only rise

abbrev pub rising_last : List Numbering → List Numbering → Type 0
rising_last ns ms = (j : ℕ) → (numbering_of j ns).last_serial ≤ (numbering_of j ms).last_serial

was-named-later : (side : Side) (ns ms : List Numbering) (x : Name) → rising_last ns ms → was_named side ns x ≡ true → was_named side ms x ≡ true
was-named-later side ns ms x up h =
    let p = and_parts (is_same_side x.side side) (nat_le x.serial (numbering_of x.instance ns).last_serial) h in
    let u = up x.instance in
    let later : nat_le x.serial (numbering_of x.instance ms).last_serial ≡ true = grind (arith, nat_tests) in
    and_both (is_same_side x.side side) (nat_le x.serial (numbering_of x.instance ms).last_serial) p.0 later

were-named-later : (side : Side) (ns ms : List Numbering) (os : List LiveObject) → rising_last ns ms → were_named side ns os ≡ true → were_named side ms os ≡ true
were-named-later side ns ms [] up h = refl
were-named-later side ns ms (o ∷ os) up h =
    let p = and_parts (was_named side ns o.name) (were_named side ns os) h in
    and_both (was_named side ms o.name) (were_named side ms os) (was-named-later side ns ms o.name up p.0) (were-named-later side ns ms os up p.1)

last-at : (ns : List Numbering) (i : ℕ) (n : Numbering) → i < length ns → numbering_of i (slice_set ns i n) ≡ n
last-at ns i n l = get_or-set_same ns i n unnumbered l

-- an instance's number that isn't below what it was
pub last-rises : (ns : List Numbering) (i : ℕ) (n : Numbering) → i < length ns → (numbering_of i ns).last_serial ≤ n.last_serial → rising_last ns (slice_set ns i n)
last-rises ns i n l up j = go (cases_eq j i)
  where
    go : (j ≡ i) ⊎ (j ≢ i) → (numbering_of j ns).last_serial ≤ (numbering_of j (slice_set ns i n)).last_serial
    go (inl e) =
        let a : (numbering_of j ns).last_serial ≡ (numbering_of i ns).last_serial = ap (λ k. (numbering_of k ns).last_serial) e in
        let b : (numbering_of j (slice_set ns i n)).last_serial ≡ n.last_serial = ap (λ k. (numbering_of k (slice_set ns i n)).last_serial) e ∙ ap (λ (m : Numbering). m.last_serial) (last-at ns i n l) in
        omega (arith, a, b, up)
    go (inr d) =
        let a : (numbering_of j (slice_set ns i n)).last_serial ≡ (numbering_of j ns).last_serial = ap (λ (m : Numbering). m.last_serial) (get_or-set_other ns i j n unnumbered d) in
        omega (arith, a)

pub kept-create : (side : Side) (ns : List Numbering) (os new : List LiveObject) (i class : ℕ) (n : Numbering) (x : Name)
    → i < 256 → length os ≢ 1024 → x ≡ (record { side = side; instance = i; serial = n.last_serial }) → n.last_serial ≡ (numbering_of i ns).last_serial + 1
    → new ≡ with_object (fresh x class) os → IsKept side os ns → IsKept side new (slice_set ns i n)
kept-create side ns os new i class n x small room is up e h = record {
  few = let l = ap length e in omega (arith, l, length-with (fresh x class) os, h.few, room);
  named =
      let within : i < length ns = omega (arith, small, h.instances) in
      let later = were-named-later side ns (slice_set ns i n) os (last-rises ns i n within (omega (arith, up))) h.named in
      let this : was_named side (slice_set ns i n) (record { side = side; instance = i; serial = n.last_serial }) ≡ true =
      and_both (is_same_side side side) (nat_le n.last_serial (numbering_of i (slice_set ns i n)).last_serial) (same_side-refl side)
      (let a = ap (λ (m : Numbering). m.last_serial) (last-at ns i n within) in grind (arith, nat_tests)) in
      ap (were_named side (slice_set ns i n)) e ∙ named-with side (slice_set ns i n) (fresh x class) os (subst (λ y. was_named side (slice_set ns i n) y ≡ true) (sym is) this) later;
  instances = length-set ns i n ∙ h.instances;
}

pub kept-kill : (side : Side) (ns : List Numbering) (os : List LiveObject) (i : ℕ) (n : Numbering) → i < 256 → n.last_serial ≡ (numbering_of i ns).last_serial → IsKept side os ns → IsKept side os (slice_set ns i n)
kept-kill side ns os i n small same h = record {
  few = h.few;
  named = let within : i < length ns = omega (arith, small, h.instances) in were-named-later side ns (slice_set ns i n) os (last-rises ns i n within (omega (arith, same))) h.named;
  instances = length-set ns i n ∙ h.instances;
}

-- a serial above the last one is in no live name
pub unused : (side : Side) (ns : List Numbering) (os : List LiveObject) (x : Name) → (numbering_of x.instance ns).last_serial < x.serial → were_named side ns os ≡ true → is_there x os ≡ false
unused side ns [] x up h = refl
unused side ns (o ∷ os) x up h = go (is_same x o.name) refl (unused side ns os x up)
  where
    p : (was_named side ns o.name ≡ true) × (were_named side ns os ≡ true)
    p = and_parts (was_named side ns o.name) (were_named side ns os) h

    go : (b : Bool) → is_same x o.name ≡ b → (were_named side ns os ≡ true → is_there x os ≡ false) → is_there x (o ∷ os) ≡ false
    go true q ih =
        let e = same-is x o.name q in
        let w : was_named side ns x ≡ true = subst (λ y. was_named side ns y ≡ true) (sym e) p.0 in
        let u = (and_parts (is_same_side x.side side) (nat_le x.serial (numbering_of x.instance ns).last_serial) w).1 in
        absurd (let l : x.serial ≤ (numbering_of x.instance ns).last_serial = grind (arith, nat_tests) in omega (arith, l, up))
    go false q ih = simp q (ih p.1)

pub next-unused : (side : Side) (ns : List Numbering) (os : List LiveObject) (i : ℕ) (s : Objects) → IsKept side os ns → (record { side = side; live = os; instances = ns }) ≡ s → is_live (next_name i s) s ≡ false
next-unused side ns os i s h view =
    let t : Objects = record { side = side; live = os; instances = ns } in
    subst (λ u. is_live (next_name i u) u ≡ false) view (unused side ns os (next_name i t) (omega arith) h.named)

-- the names of an instance's objects rise as the objects do

names-after : (x : Name) (i : ℕ) (os : List LiveObject) → are_after x os ≡ true → are_names_after x (names_in i os) ≡ true
names-after x i [] h = refl
names-after x i (o ∷ os) h = go (o.name.instance == i) refl (names-after x i os)
  where
    p : (is_before x o.name ≡ true) × (are_after x os ≡ true)
    p = and_parts (is_before x o.name) (are_after x os) h

    go : (b : Bool) → (o.name.instance == i) ≡ b → (are_after x os ≡ true → are_names_after x (names_in i os) ≡ true) → are_names_after x (names_in i (o ∷ os)) ≡ true
    go true q ih = simp q (and_both (is_before x o.name) (are_names_after x (names_in i os)) p.0 (ih p.1))
    go false q ih = simp q (ih p.1)

pub names-rise : (i : ℕ) (os : List LiveObject) → is_rising os ≡ true → are_rising (names_in i os) ≡ true
names-rise i [] h = refl
names-rise i (o ∷ os) h = go (o.name.instance == i) refl (names-rise i os)
  where
    p : (are_after o.name os ≡ true) × (is_rising os ≡ true)
    p = and_parts (are_after o.name os) (is_rising os) h

    go : (b : Bool) → (o.name.instance == i) ≡ b → (is_rising os ≡ true → are_rising (names_in i os) ≡ true) → are_rising (names_in i (o ∷ os)) ≡ true
    go true q ih = simp q (and_both (are_names_after o.name (names_in i os)) (are_rising (names_in i os)) (names-after o.name i os p.0) (ih p.1))
    go false q ih = simp q (ih p.1)
