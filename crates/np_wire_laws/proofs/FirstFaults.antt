-- Bytes are refused for their first fault.
use Rattle.std.proofs.Common.{◌≡◌, ◌⊎◌, inl, inr, ℕ, ◌+◌, ◌-◌, ◌<◌, ◌≤◌, Bool, true, false, cond, ltb, List, ◌++◌, length, take, drop, Result, Ok, Err, refl, sym, ap, subst, ◌∙◌, arith}
use Rattle.std.proofs.lemmas.Bool.{ltb-true, lt-ltb}
use Rattle.std.proofs.lemmas.List.{take_at, take-append-drop, length-append, length-take, length-drop}
use Rattle.np_message.specs.declared.wire.WireKind.{WireKind}
use Rattle.np_message.specs.declared.wire.WireKind.TheVariants.{Length, Item as ItemRule, Rest}
use Rattle.np_message.specs.declared.wire.WireError.{WireError}
use Rattle.np_message.specs.Message.{Message}
use Rattle.np_message.specs.Formats.{message_format}
use Rattle.np_message.specs.Decoding.{Reading, read, whole, front_body, front}
use Rattle.np_message.specs.Faults.{HasLength, BreaksAt, IsBodyFault, IsFirstFault}
use Rattle.np_wire_laws.specs.Laws.{length_of, HasBadLength, length_error, RefusesOnlyFaults, RefusesEachFault}
use Rattle.np_wire_laws.proofs.Items.{AreBytes, bytes_of_all, bytes-take, bytes-drop}
use Rattle.np_wire_laws.proofs.Agreement.{Agrees, read_again, read_agrees, fault_read}
use Rattle.np_wire_laws.proofs.Lengths.{partial, seen, bad, not_nil, LengthCase, few, out, cut, there, length_case, front_short, front_refused, front_cut}
use Rattle.np_wire_laws.proofs.Fronts.{field_of, field_is, front_whole}

-- ---- the rule that a body breaks

-- a body that is read in part breaks this rule, and so many bytes are left from the place where it does
abbrev Breaks : List ℕ → WireKind × ℕ → Type 0
Breaks body broken = (place : ℕ) × BreaksAt broken.0 body place × (length body ≡ place + broken.1)

abbrev broken_body : WireKind × ℕ → Result Message (WireKind × ℕ)
broken_body broken = Err broken

same_break : (a b : WireKind × ℕ) → broken_body a ≡ broken_body b → a ≡ b
same_break a b e = cc

rest_breaks : (body : List ℕ) (y : Message × List ℕ) → Agrees message_format body (Ok y) → ltb 0 (length y.1) ≡ true → Breaks body (Rest, length y.1)
rest_breaks body y (items, parts, encodes) more =
    let some : 0 < length y.1 = ltb-true _ _ more in (
      length items,
      record { items = items; rest = y.1; says = y.0; parts = parts; encodes = encodes; more = λ none. omega (arith, some, ap length none); place = refl },
      omega (arith, ap length parts, length-append items y.1),
    )

breaks_of : (body : List ℕ) (r : Reading Message) (broken : WireKind × ℕ) → Agrees message_format body r → whole r ≡ Err broken → Breaks body broken
breaks_of body (Err left) broken agrees e = subst (λ (b : WireKind × ℕ). Breaks body b) (same_break (ItemRule, left) broken e) agrees
breaks_of body (Ok y) broken agrees e = by_test (ltb 0 (length y.1)) refl e
  where
    by_test : (more : Bool) → ltb 0 (length y.1) ≡ more → cond more (broken_body (Rest, length y.1)) (Ok y.0) ≡ Err broken → Breaks body broken
    by_test true t h = subst (λ (b : WireKind × ℕ). Breaks body b) (same_break (Rest, length y.1) broken h) (rest_breaks body y agrees t)
    by_test false t h = absurd cc

-- a body is read up to the rule that it breaks
break_read : (kind : WireKind) (body : List ℕ) (place : ℕ) → AreBytes body → BreaksAt kind body place → (left : ℕ) × (whole (read message_format body) ≡ Err (kind, left)) × (length body ≡ place + left)
break_read Length body place fit h = absurd h
break_read ItemRule body place fit h = (let t = fault_read message_format body place fit h in (t.0, ap whole t.1, t.2))
break_read Rest body place fit h =
    let n = length h.rest in
    let again : read message_format body ≡ Ok (h.says, h.rest) = ap (read message_format) h.parts ∙ read_again message_format h.says h.items h.rest h.encodes in
    let more : ltb 0 n ≡ true = lt-ltb 0 n (not_nil h.rest h.more) in
    (n, ap whole again ∙ ap (λ (b : Bool). cond b (broken_body (Rest, n)) (Ok h.says)) more, omega (arith, h.place, ap length h.parts, length-append h.items h.rest))

-- ---- the fault of what stands at the front

abbrev told_at : ℕ → ℕ → WireKind → ℕ → WireError
told_at at n kind place = record { at = place; kind = kind; first = at; second = n }

place_of : (at n place left : ℕ) → n ≡ place + left → at + 4 + n - left ≡ at + 4 + place
place_of at n place left e = omega arith

told : (at : ℕ) (body behind : List ℕ) (r : Result Message (WireKind × ℕ)) (e : WireError) → front_body at (length body) r behind ≡ bad e → (broken : WireKind × ℕ) × (r ≡ Err broken) × (told_at at (length body) broken.0 (at + 4 + length body - broken.1) ≡ e)
told at body behind (Ok m) e h = absurd (let no : seen m behind ≡ bad e = h in cc)
told at body behind (Err broken) e h = (broken, refl, (let alike : bad (told_at at (length body) broken.0 (at + 4 + length body - broken.1)) ≡ bad e = h in cc))

-- a whole message, and where its body breaks the format
body_fault : (at : ℕ) (bytes body behind : List ℕ) (e : WireError) → AreBytes body → HasLength bytes (length body) (body ++ behind) → 4 ≤ length body → length body ≤ 32768 → front at bytes ≡ bad e → IsBodyFault at bytes e
body_fault at bytes body behind e fit begins least most h =
    let n = length body in
    let r = read message_format body in
    let t = told at body behind (whole r) e (sym (front_whole at bytes body behind begins least most) ∙ h) in
    let b = breaks_of body r t.0 (read_agrees message_format body fit) t.1 in
    record {
      body = body;
      behind = behind;
      begins = begins;
      least = least;
      most = most;
      kind = t.0.0;
      place = b.0;
      breaks = b.1;
      error = sym t.2 ∙ ap (told_at at n t.0.0) (place_of at n b.0 t.0.1 b.2);
    }

-- by cases on the length
first_fault : (at : ℕ) (bytes : List ℕ) (e : WireError) → AreBytes bytes → LengthCase bytes → front at bytes ≡ bad e → IsFirstFault at bytes e
first_fault at bytes e fit (few short) h = absurd (let no : partial ≡ bad e = sym (front_short at bytes short) ∙ h in cc)
first_fault at bytes e fit (out is) h =
    let same : length_error at bytes ≡ e = (let alike : bad (length_error at bytes) ≡ bad e = sym (front_refused at bytes is) ∙ h in cc) in
    inl (record { value = length_of bytes; behind = drop 4 bytes; begins = field_of bytes is.0; out = is.1; error = sym same })
first_fault at bytes e fit (cut long low high less) h = absurd (let no : partial ≡ bad e = sym (front_cut at bytes long low high less) ∙ h in cc)
first_fault at bytes e fit (there low high enough) h =
    let n = length_of bytes in
    let rest = drop 4 bytes in
    let whole_body : n ≡ length (take n rest) = omega (arith, length-take n rest, length-drop 4 bytes) in
    let f = field_of bytes (omega arith) in
    let begins : HasLength bytes (length (take n rest)) (take n rest ++ drop n rest) =
    record { field = f.field; parts = f.parts ∙ ap (λ (l : List ℕ). f.field ++ l) (sym (take-append-drop n rest)); four = f.four; value_is = f.value_is ∙ whole_body } in
    inr (body_fault at bytes (take n rest) (drop n rest) e (bytes-take n rest (bytes-drop 4 bytes fit)) begins (omega (arith, whole_body)) (omega (arith, whole_body)) h)

pub refuses_only_faults : RefusesOnlyFaults
refuses_only_faults at bytes e all h = first_fault at bytes e (bytes_of_all bytes all) (length_case bytes) h

-- the bytes of a body that stands behind a length
body_bytes : (bytes body behind : List ℕ) → AreBytes bytes → HasLength bytes (length body) (body ++ behind) → AreBytes body
body_bytes bytes body behind fit h =
    let n = length body in
    let f = field_is bytes n (body ++ behind) h in
    subst AreBytes (ap (take n) f.behind_is ∙ take_at body behind n refl) (bytes-take n (drop 4 bytes) (bytes-drop 4 bytes fit))

pub refuses_each_fault : RefusesEachFault
refuses_each_fault at bytes e all (inl h) =
    let f = field_is bytes h.value h.behind h.begins in
    let is : HasBadLength bytes = (f.long, subst (λ (n : ℕ). (n < 4) ⊎ (32768 < n)) (sym f.value_is) h.out) in
    let error : length_error at bytes ≡ e = ap (λ (n : ℕ). let made : WireError = record { at = at; kind = Length; first = n; second = 32768 } in made) f.value_is ∙ sym h.error in
    front_refused at bytes is ∙ ap bad error
refuses_each_fault at bytes e all (inr h) =
    let n = length h.body in
    let t = break_read h.kind h.body h.place (body_bytes bytes h.body h.behind (bytes_of_all bytes all) h.begins) h.breaks in
    front_whole at bytes h.body h.behind h.begins h.least h.most
    ∙ ap (λ (r : Result Message (WireKind × ℕ)). front_body at n r h.behind) t.1
    ∙ ap (λ (k : ℕ). bad (told_at at n h.kind k)) (place_of at n h.place t.0 t.2)
    ∙ ap bad (sym h.error)
