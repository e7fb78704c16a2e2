-- Releases are read as they are spelled.
use Rattle.std.proofs.Common.{◌≡◌, ℕ, ◌≤◌, true, cond, List, ◌∷◌, ◌++◌, length, Option, Ok, Err, refl, sym, ap, subst, ◌∙◌, append_assoc, arith}
use Rattle.np_proxy_release.specs.declared.release.Release.{Release}
use Rattle.np_proxy_release.specs.Release.{IsRelease, IsTypedRelease, is_behind}
use Rattle.np_message.specs.Encoding.{number_item, release_item}
use Rattle.np_message.specs.Items.{is_within}
use Rattle.np_message.specs.Decoding.{◌>>=◌, Reading, no_item, at_start, read_tested, read_number, read_entry, read_release}
use Rattle.np_wire_laws.proofs.Readings.{AreBytes, bind_ok, guarded, HasRead, tested_read, within_again, within_is, at_start_ok, at_start_left}
use Rattle.np_wire_laws.proofs.Numbers.{number_again, number_read}

abbrev pub KeepsRelease : Option Release → Release → Type 0
KeepsRelease before r = IsRelease r × IsTypedRelease r × (is_behind before r ≡ true)

entry_behind : (before : Option Release) (instance serial times : ℕ) (bytes behind_serial rest : List ℕ) → is_within 1 255 instance ≡ true → read_number 1 bytes ≡ Ok (serial, behind_serial) → read_number 1 behind_serial ≡ Ok (times, rest) → is_behind before (record { instance = instance; serial = serial; times = times }) ≡ true → read_entry before (instance ∷ bytes) ≡ Ok (record { instance = instance; serial = serial; times = times }, rest)
unfolding read_entry
entry_behind before instance serial times bytes behind_serial rest fits e f behind = rw (fits, e, f, behind) refl

pub release_again : (before : Option Release) (r : Release) (rest : List ℕ) → KeepsRelease before r → read_release before (release_item r ++ rest) ≡ Ok (r, rest)
release_again before r rest keeps =
    let behind_serial = number_item r.times ++ rest in
    let bytes = number_item r.serial ++ behind_serial in
    ap (λ (l : List ℕ). read_release before (r.instance ∷ l)) (append_assoc (number_item r.serial) (number_item r.times) rest)
    ∙ ap (at_start (r.instance ∷ bytes)) (entry_behind before r.instance r.serial r.times bytes behind_serial rest (within_again 1 255 r.instance (omega (arith, keeps.0.instance)) (omega (arith, keeps.1.instance))) (number_again 1 r.serial behind_serial (omega (arith, keeps.0.serial)) keeps.1.serial) (number_again 1 r.times rest (omega (arith, keeps.0.times)) keeps.1.times) keeps.2)

release_parts : (instance : ℕ) (serial times bytes behind_instance behind_serial rest : List ℕ) → bytes ≡ instance ∷ behind_instance → behind_instance ≡ serial ++ behind_serial → behind_serial ≡ times ++ rest → bytes ≡ instance ∷ ((serial ++ times) ++ rest)
release_parts instance serial times bytes behind_instance behind_serial rest e f g =
    e ∙ ap (λ (l : List ℕ). instance ∷ l) (f ∙ ap (λ (l : List ℕ). serial ++ l) g ∙ sym (append_assoc serial times rest))

entry_read : (before : Option Release) (bytes : List ℕ) (x : Release × List ℕ) → AreBytes bytes → read_entry before bytes ≡ Ok x → HasRead release_item (KeepsRelease before) bytes x.0 x.1
unfolding read_entry
entry_read before bytes x fit e =
    let make : ℕ → ℕ → ℕ × List ℕ → Reading Release = λ instance serial times. cond (is_behind before (record { instance = instance; serial = serial; times = times.0 })) (Ok (record { instance = instance; serial = serial; times = times.0 }, times.1)) (no_item bytes) in
    let a = bind_ok (read_tested (is_within 1 255) bytes) (λ instance. read_number 1 instance.1 >>= (λ serial. read_number 1 serial.1 >>= make instance.0 serial.0)) x e in
    let b = bind_ok (read_number 1 a.0.1) (λ serial. read_number 1 serial.1 >>= make a.0.0 serial.0) x a.2 in
    let c = bind_ok (read_number 1 b.0.1) (make a.0.0 b.0.0) x b.2 in
    let t0 = tested_read (is_within 1 255) bytes a.0 fit a.1 in
    let t1 = number_read 1 a.0.1 b.0 t0.behind b.1 in
    let t2 = number_read 1 b.0.1 c.0 t1.behind c.1 in
    let made : Release = record { instance = a.0.0; serial = b.0.0; times = c.0.0 } in
    let g = guarded (is_behind before made) (length bytes) (made, c.0.1) x c.2 in
    let low : 1 ≤ a.0.0 = (within_is 1 255 a.0.0 t0.keeps.0).0 in
    let parts : bytes ≡ release_item made ++ c.0.1 = release_parts a.0.0 (number_item b.0.0) (number_item c.0.0) bytes a.0.1 b.0.1 c.0.1 t0.parts t1.parts t2.parts in
    let is_release : IsRelease made = record { instance = omega (arith, low); serial = omega (arith, t1.keeps.0); times = omega (arith, t2.keeps.0) } in
    let typed : IsTypedRelease made = record { instance = t0.keeps.1; serial = t1.keeps.1; times = t2.keeps.1 } in
    subst (λ (y : Release × List ℕ). HasRead release_item (KeepsRelease before) bytes y.0 y.1) {x = (made, c.0.1)} g.1
    (record { parts = parts; keeps = (is_release, typed, g.0); behind = t2.behind })

pub release_read : (before : Option Release) (bytes : List ℕ) (x : Release × List ℕ) → AreBytes bytes → read_release before bytes ≡ Ok x → HasRead release_item (KeepsRelease before) bytes x.0 x.1
release_read before bytes x fit e = entry_read before bytes x fit (at_start_ok bytes (read_entry before bytes) x e)

pub release_left : (before : Option Release) (bytes : List ℕ) (left : ℕ) → read_release before bytes ≡ Err left → left ≡ length bytes
release_left before bytes left e = at_start_left bytes (read_entry before bytes) left e
