-- How references are counted over the parts of a side, and what a value that goes in or out of a part changes.
use Rattle.std.proofs.Common.{◌≡◌, ℕ, zero, suc, ◌+◌, ◌≤◌, List, [], ◌∷◌, ◌++◌, Bool, true, false, refl, arith, take, drop}
use Rattle.np_values.specs.declared.name.Side.{Side}
use Rattle.np_values.specs.declared.name.Name.{Name}
use Rattle.np_values.specs.declared.value.Value.{Value}
use Rattle.np_idents.specs.declared.key.IdKey.{IdKey}
use Rattle.np_proxy_release.specs.declared.release.Release.{Release}
use Rattle.np_message.specs.Message.{Message}
use Rattle.np_machine.specs.References.{is_same_name, count_in_value, references_to, released_count, carried_in, released_in}
use Rattle.np_machine.specs.declared.instance.Instance.{Instance}
use Rattle.np_machine.specs.declared.object.Property.{Property}
use Rattle.np_machine.specs.declared.object.Object.{Object}
use Rattle.np_machine.specs.declared.frame.Frame.{Frame}
use Rattle.np_machine.specs.Side.{SideState, local_count}
use Rattle.np_machine.specs.Instances.{slot_values, slots_in, with_slots, with_serial}
use Rattle.np_machine.specs.Objects.{property_values, object_values, put_property, property_at, without_property, properties_of, with_properties, has_object, without_object, with_object}
use Rattle.np_machine.specs.Frames.{frame_values, registers_of, with_registers}
use Rattle.np_machine.specs.Values.{put_at, old_at, read_at}

-- ---- the places by their parts

abbrev pub in_slots : Name → List Instance → ℕ
in_slots x [] = 0
in_slots x (i ∷ is) = references_to x i.slots + in_slots x is

abbrev pub in_properties : Name → List Property → ℕ
in_properties x [] = 0
in_properties x (f ∷ fs) = count_in_value x f.value + in_properties x fs

abbrev pub in_objects : Name → List Object → ℕ
in_objects x [] = 0
in_objects x (o ∷ os) = in_properties x o.properties + in_objects x os

abbrev pub in_frames : Name → List Frame → ℕ
in_frames x [] = 0
in_frames x (a ∷ rest) = count_in_value x a.this + references_to x a.registers + in_frames x rest

abbrev pub total : {C : Type 0} → Name → SideState C → ℕ
total x p = references_to x p.in_flight + (references_to x p.registers + (in_slots x p.instances + (in_frames x p.frames + in_objects x p.objects)))

-- ---- lists

pub references_to-append : (x : Name) (vs us : List Value) → references_to x (vs ++ us) ≡ references_to x vs + references_to x us
references_to-append x [] us = omega arith
references_to-append x (v ∷ vs) us = omega (arith, references_to-append x vs us)

pub carried_in-append : (s : Side) (x : Name) (ms ns : List Message) → carried_in s x (ms ++ ns) ≡ carried_in s x ms + carried_in s x ns
carried_in-append s x [] ns = omega arith
carried_in-append s x (m ∷ ms) ns = omega (arith, carried_in-append s x ms ns)

pub released_in-append : (x : Name) (ms ns : List Message) → released_in x (ms ++ ns) ≡ released_in x ms + released_in x ns
released_in-append x [] ns = omega arith
released_in-append x (m ∷ ms) ns = omega (arith, released_in-append x ms ns)

pub references_to-cut : (x : Name) (n : ℕ) (vs : List Value) → references_to x (take n vs) + references_to x (drop n vs) ≡ references_to x vs
references_to-cut x zero vs = omega arith
references_to-cut x (suc n) [] = refl
references_to-cut x (suc n) (v ∷ vs) = omega (arith, references_to-cut x n vs)

pub released_count-cut : (x : Name) (n : ℕ) (rs : List Release) → released_count x (take n rs) + released_count x (drop n rs) ≡ released_count x rs
released_count-cut x zero rs = omega arith
released_count-cut x (suc n) [] = refl
released_count-cut x (suc n) (r ∷ rs) = omega (arith, released_count-cut x n rs)

-- ---- a value goes in, and another comes out

pub put-old : (x : Name) (i : ℕ) (v : Value) (vs : List Value) → references_to x (put_at i v vs) + count_in_value x (old_at i v vs) ≡ references_to x vs + count_in_value x v
put-old x i v [] = refl
put-old x zero v (u ∷ us) = omega arith
put-old x (suc i) v (u ∷ us) = omega (arith, put-old x i v us)

pub read-at-le : (x : Name) (i : ℕ) (vs : List Value) → count_in_value x (read_at i vs) ≤ references_to x vs
read-at-le x i [] = omega arith
read-at-le x zero (u ∷ us) = omega arith
read-at-le x (suc i) (u ∷ us) = omega (arith, read-at-le x i us)

pub put_property-old : (x : Name) (key : IdKey) (v : Value) (fs : List Property) → in_properties x (put_property key v fs) + count_in_value x (property_at key fs) ≡ in_properties x fs + count_in_value x v
put_property-old x key v [] = omega arith
put_property-old x key v (f ∷ fs) = grind (arith, put_property-old x key v fs)

pub property_at-le : (x : Name) (key : IdKey) (fs : List Property) → count_in_value x (property_at key fs) ≤ in_properties x fs
property_at-le x key [] = omega arith
property_at-le x key (f ∷ fs) = grind (arith, property_at-le x key fs)

without_property-old : (x : Name) (key : IdKey) (fs : List Property) → in_properties x (without_property key fs) + count_in_value x (property_at key fs) ≡ in_properties x fs
without_property-old x key [] = refl
without_property-old x key (f ∷ fs) = grind (arith, without_property-old x key fs)

pub with_properties-old : (x y : Name) (fs : List Property) (os : List Object) → has_object y os ≡ true → in_objects x (with_properties y fs os) + in_properties x (properties_of y os) ≡ in_objects x os + in_properties x fs
with_properties-old x y fs [] e = cc
with_properties-old x y fs (o ∷ os) e = go (is_same_name y o.name) refl (λ f. with_properties-old x y fs os f)
  where
    go : (b : Bool) → is_same_name y o.name ≡ b → (has_object y os ≡ true → in_objects x (with_properties y fs os) + in_properties x (properties_of y os) ≡ in_objects x os + in_properties x fs) → in_objects x (with_properties y fs (o ∷ os)) + in_properties x (properties_of y (o ∷ os)) ≡ in_objects x (o ∷ os) + in_properties x fs
    go true q ih = simp q (omega arith)
    go false q ih = let e' = simp q at e in let h = ih e' in simp q (omega (arith, h))

pub removed-old : (x y : Name) (key : IdKey) (os : List Object) → in_objects x (with_properties y (without_property key (properties_of y os)) os) + count_in_value x (property_at key (properties_of y os)) ≡ in_objects x os
removed-old x y key [] = refl
removed-old x y key (o ∷ os) = grind (arith, without_property-old x key o.properties, removed-old x y key os)

pub properties-le : (x y : Name) (os : List Object) → in_properties x (properties_of y os) ≤ in_objects x os
properties-le x y [] = omega arith
properties-le x y (o ∷ os) = grind (arith, properties-le x y os)

pub without_object-old : (x y : Name) (os : List Object) → in_objects x (without_object y os) + in_properties x (properties_of y os) ≡ in_objects x os
without_object-old x y [] = refl
without_object-old x y (o ∷ os) = grind (arith, without_object-old x y os)

pub with_object-more : (x : Name) (o : Object) (os : List Object) → in_objects x (with_object o os) ≡ in_properties x o.properties + in_objects x os
with_object-more x o [] = omega arith
with_object-more x o (y ∷ os) = grind (arith, with_object-more x o os)

pub property_values-are : (x : Name) (fs : List Property) → references_to x (property_values fs) ≡ in_properties x fs
property_values-are x [] = refl
property_values-are x (f ∷ fs) = omega (arith, property_values-are x fs)

pub put_slot-old : (x : Name) (n i : ℕ) (v : Value) (is : List Instance) → in_slots x (with_slots n (put_at i v (slots_in n is)) is) + count_in_value x (old_at i v (slots_in n is)) ≡ in_slots x is + count_in_value x v
put_slot-old x n i v [] = refl
put_slot-old x n i v (a ∷ is) = grind (arith, put-old x i v a.slots, put_slot-old x n i v is)

pub slots-le : (x : Name) (n : ℕ) (is : List Instance) → references_to x (slots_in n is) ≤ in_slots x is
slots-le x n [] = omega arith
slots-le x n (a ∷ is) = grind (arith, slots-le x n is)

pub with_serial-slots : (x : Name) (n s : ℕ) (is : List Instance) → in_slots x (with_serial n s is) ≡ in_slots x is
with_serial-slots x n s [] = refl
with_serial-slots x n s (a ∷ is) = grind (arith, with_serial-slots x n s is)

pub put_register-old : (x : Name) (i : ℕ) (v : Value) (stack : List Frame) → in_frames x (with_registers (put_at i v (registers_of stack)) stack) + count_in_value x (old_at i v (registers_of stack)) ≡ in_frames x stack + count_in_value x v
put_register-old x i v [] = refl
put_register-old x i v (a ∷ rest) = omega (arith, put-old x i v a.registers)

pub registers-le : (x : Name) (stack : List Frame) → references_to x (registers_of stack) ≤ in_frames x stack
registers-le x [] = omega arith
registers-le x (a ∷ rest) = omega arith

-- ---- the parts are the places

slots-are : (x : Name) (is : List Instance) → references_to x (slot_values is) ≡ in_slots x is
slots-are x [] = refl
slots-are x (i ∷ is) = omega (arith, references_to-append x i.slots (slot_values is), slots-are x is)

objects-are : (x : Name) (os : List Object) → references_to x (object_values os) ≡ in_objects x os
objects-are x [] = refl
objects-are x (o ∷ os) = omega (arith, references_to-append x (property_values o.properties) (object_values os), property_values-are x o.properties, objects-are x os)

frames-are : (x : Name) (stack : List Frame) → references_to x (frame_values stack) ≡ in_frames x stack
frames-are x [] = refl
frames-are x (a ∷ rest) = omega (arith, references_to-append x a.registers (frame_values rest), frames-are x rest)

pub local_count-is : {C : Type 0} (x : Name) (p : SideState C) → local_count x p ≡ total x p
local_count-is x p =
    omega (arith, references_to-append x p.in_flight (p.registers ++ (slot_values p.instances ++ (frame_values p.frames ++ object_values p.objects))), references_to-append x p.registers (slot_values p.instances ++ (frame_values p.frames ++ object_values p.objects)), references_to-append x (slot_values p.instances) (frame_values p.frames ++ object_values p.objects), references_to-append x (frame_values p.frames) (object_values p.objects), slots-are x p.instances, frames-are x p.frames, objects-are x p.objects)
