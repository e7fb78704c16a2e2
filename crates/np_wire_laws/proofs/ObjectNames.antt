-- Names of objects are read as they are spelled.
use Rattle.std.proofs.Common.{◌≡◌, ℕ, ◌<◌, ◌≤◌, true, cond, eqb, List, ◌∷◌, ◌++◌, Ok, refl, subst, arith}
use Rattle.np_values.specs.declared.name.Name.{Name}
use Rattle.np_values.specs.declared.name.Side.{Side}
use Rattle.np_values.specs.declared.name.Side.TheVariants.{Page, Plug}
use Rattle.np_message.specs.Rules.{IsTypedName}
use Rattle.np_message.specs.Encoding.{number_item, side_byte, name_item}
use Rattle.np_message.specs.Items.{is_within}
use Rattle.np_message.specs.Decoding.{◌>>=◌, Reading, read_tested, read_number, read_name}
use Rattle.np_wire_laws.proofs.Readings.{AreBytes, bind_ok, done_is, HasRead, tested_read, within_again, within_is}
use Rattle.np_wire_laws.proofs.Numbers.{number_again, number_read}

abbrev pub KeepsName : Name → Type 0
KeepsName name = (0 < name.instance) × (0 < name.serial) × IsTypedName name

abbrev side_of : ℕ → Side
side_of b = cond (eqb b 0) Page Plug

name_behind : (side : Side) (instance serial : ℕ) (bytes rest : List ℕ) → is_within 1 255 instance ≡ true → read_number 1 bytes ≡ Ok (serial, rest) → read_name (side_byte side ∷ instance ∷ bytes) ≡ Ok (record { side = side; instance = instance; serial = serial }, rest)
unfolding read_name
name_behind Page instance serial bytes rest fits e = rw (fits, e) refl
name_behind Plug instance serial bytes rest fits e = rw (fits, e) refl

pub name_again : (name : Name) (rest : List ℕ) → KeepsName name → read_name (name_item name ++ rest) ≡ Ok (name, rest)
name_again name rest keeps =
    name_behind name.side name.instance name.serial (number_item name.serial ++ rest) rest (within_again 1 255 name.instance (omega (arith, keeps.0)) (omega (arith, keeps.2.0))) (number_again 1 name.serial rest (omega (arith, keeps.1)) keeps.2.1)

side_is : (b : ℕ) → b ≤ 1 → b ≡ side_byte (side_of b)
side_is b low = grind arith

name_parts : (side : Side) (first second : ℕ) (bytes behind_first behind_second last : List ℕ) → first ≡ side_byte side → bytes ≡ first ∷ behind_first → behind_first ≡ second ∷ behind_second → behind_second ≡ last → bytes ≡ side_byte side ∷ second ∷ last
name_parts side first second bytes behind_first behind_second last e f g h = cc

pub name_read : (bytes : List ℕ) (x : Name × List ℕ) → AreBytes bytes → read_name bytes ≡ Ok x → HasRead name_item KeepsName bytes x.0 x.1
unfolding read_name
name_read bytes x fit e =
    let make : ℕ → ℕ → ℕ × List ℕ → Reading Name = λ side instance serial. Ok (record { side = side_of side; instance = instance; serial = serial.0 }, serial.1) in
    let a = bind_ok (read_tested (is_within 0 1) bytes) (λ side. read_tested (is_within 1 255) side.1 >>= (λ instance. read_number 1 instance.1 >>= make side.0 instance.0)) x e in
    let b = bind_ok (read_tested (is_within 1 255) a.0.1) (λ instance. read_number 1 instance.1 >>= make a.0.0 instance.0) x a.2 in
    let c = bind_ok (read_number 1 b.0.1) (make a.0.0 b.0.0) x b.2 in
    let t0 = tested_read (is_within 0 1) bytes a.0 fit a.1 in
    let t1 = tested_read (is_within 1 255) a.0.1 b.0 t0.behind b.1 in
    let t2 = number_read 1 b.0.1 c.0 t1.behind c.1 in
    let side : a.0.0 ≡ side_byte (side_of a.0.0) = side_is a.0.0 (within_is 0 1 a.0.0 t0.keeps.0).1 in
    let low : 1 ≤ b.0.0 = (within_is 1 255 b.0.0 t1.keeps.0).0 in
    let made : Name = record { side = side_of a.0.0; instance = b.0.0; serial = c.0.0 } in
    let parts : bytes ≡ name_item made ++ c.0.1 = name_parts (side_of a.0.0) a.0.0 b.0.0 bytes a.0.1 b.0.1 (number_item c.0.0 ++ c.0.1) side t0.parts t1.parts t2.parts in
    subst (λ (y : Name × List ℕ). HasRead name_item KeepsName bytes y.0 y.1) {x = (made, c.0.1)} (done_is (made, c.0.1) x c.2)
    (record { parts = parts; keeps = (omega (arith, low), omega (arith, t2.keeps.0), (t1.keeps.1, t2.keeps.1)); behind = t2.behind })
