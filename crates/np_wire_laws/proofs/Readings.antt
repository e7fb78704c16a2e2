-- What a reading that succeeds passed, and the items of one byte.
use Rattle.std.proofs.Common.{◌≡◌, ℕ, suc, ◌+◌, ◌<◌, ◌≤◌, Bool, true, false, cond, eqb, leb, ◌&&◌, List, [], ◌∷◌, ◌++◌, length, get_or, take, drop, Option, Some, None, Result, Ok, Err, refl, sym, ap, subst, ◌∙◌, arith, ◌⊎◌, inl, inr}
use Rattle.std.specs.List.{All}
use Rattle.std.proofs.lemmas.Bool.{cases_lt, eqb-true, le-leb, leb-true}
use Rattle.std.proofs.lemmas.List.{length-take, get_or-drop, get_or-take, get_or_past}
use Rattle.np_message.specs.Rules.{Each, IsByte}
use Rattle.np_message.specs.Items.{is_within}
use Rattle.np_message.specs.Decoding.{◌>>=◌, Reading, no_item, at_start, read_tested, read_meant}

-- ---- bytes

-- bytes of the code: each is below 256
abbrev pub AreBytes : List ℕ → Type 0
AreBytes bytes = (i : ℕ) → get_or bytes i 0 < 256

pub bytes_of_all : (bytes : List ℕ) → All (λ b. b < 256) bytes → AreBytes bytes
bytes_of_all bytes all i =
    elim (cases_lt i (length bytes)) [
      | inl lt ↦ all i 0 lt
      | inr le ↦ rw (get_or_past bytes i 0 le) (omega arith)
    ]

pub bytes-drop : (n : ℕ) (bytes : List ℕ) → AreBytes bytes → AreBytes (drop n bytes)
bytes-drop n bytes h i = rw get_or-drop (h (n + i))

pub bytes-take : (n : ℕ) (bytes : List ℕ) → AreBytes bytes → AreBytes (take n bytes)
bytes-take n bytes h i =
    elim (cases_lt i n) [
      | inl lt ↦ rw (get_or-take n bytes i 0 lt) (h i)
      | inr le ↦ rw (get_or_past (take n bytes) i 0 (omega (arith, length-take n bytes))) (omega arith)
    ]

pub bytes-first : (b : ℕ) (bytes : List ℕ) → AreBytes (b ∷ bytes) → b < 256
bytes-first b bytes h = h 0

pub bytes-rest : (b : ℕ) (bytes : List ℕ) → AreBytes (b ∷ bytes) → AreBytes bytes
bytes-rest b bytes h i = h (suc i)

-- those behind others
pub bytes-behind : (first rest : List ℕ) → AreBytes (first ++ rest) → AreBytes rest
bytes-behind [] rest h = h
bytes-behind (b ∷ first) rest h = bytes-behind first rest (bytes-rest b (first ++ rest) h)

pub each_byte : (bytes : List ℕ) → AreBytes bytes → Each IsByte bytes
each_byte [] h = tt
each_byte (b ∷ bytes) h = (bytes-first b bytes h, each_byte bytes (bytes-rest b bytes h))

-- ---- what a reading that succeeds passed

pub bind_ok : {A B E : Type 0} (r : Result A E) (f : A → Result B E) (y : B) → (r >>= f) ≡ Ok y → (x : A) × (r ≡ Ok x) × (f x ≡ Ok y)
bind_ok (Ok x) f y e = (x, refl, e)
bind_ok (Err d) f y e = absurd cc

pub guarded : {A E : Type 0} (b : Bool) (d : E) (x y : A) → cond b (Ok x) (Err d) ≡ Ok y → (b ≡ true) × (x ≡ y)
guarded true d x y e = (refl, cc)
guarded false d x y e = absurd cc

pub passed : {A E : Type 0} (b : Bool) (d : E) (r : Result A E) (y : A) → cond b (Err d) r ≡ Ok y → (b ≡ false) × (r ≡ Ok y)
passed true d r y e = absurd cc
passed false d r y e = (refl, e)

pub chosen : {A : Type 0} (b : Bool) (x y z : A) → cond b x y ≡ z → ((b ≡ true) × (x ≡ z)) ⊎ ((b ≡ false) × (y ≡ z))
chosen true x y z e = inl (refl, e)
chosen false x y z e = inr (refl, e)

pub both : (a b : Bool) → (a && b) ≡ true → (a ≡ true) × (b ≡ true)
both true b h = (refl, h)
both false b h = absurd cc

abbrev pub done : {A : Type 0} → A × List ℕ → Reading A
done x = Ok x

pub done_is : {A : Type 0} (x y : A × List ℕ) → done x ≡ done y → x ≡ y
done_is x y e = cc

-- what was read has this spelling, keeps this rule, and stands before the bytes that are left
pub record HasRead {A : Type 0} (spelling : A → List ℕ) (Keeps : A → Type 0) (bytes : List ℕ) (x : A) (rest : List ℕ) : Type 0 where
  pub parts : bytes ≡ spelling x ++ rest
  pub keeps : Keeps x
  pub behind : AreBytes rest

pub at_start_ok : {A : Type 0} (bytes : List ℕ) (r : Reading A) (x : A × List ℕ) → at_start bytes r ≡ Ok x → r ≡ Ok x
at_start_ok bytes (Ok y) x e = e
at_start_ok bytes (Err left) x e = absurd cc

-- what stands behind a byte, and makes something else together with it
pub tagged_read : {A B : Type 0} (spelling : A → List ℕ) (Keeps : A → Type 0) (whole : B → List ℕ) (KeepsWhole : B → Type 0) (tag : ℕ) (make : A → B) → ((y : A) → Keeps y → (tag ∷ spelling y ≡ whole (make y)) × KeepsWhole (make y)) → (bytes : List ℕ) (r : Reading A) (x : B × List ℕ) → ((y : A × List ℕ) → r ≡ Ok y → HasRead spelling Keeps bytes y.0 y.1) → (r >>= (λ y. Ok (make y.0, y.1))) ≡ Ok x → HasRead whole KeepsWhole (tag ∷ bytes) x.0 x.1
tagged_read {B = B} spelling Keeps whole KeepsWhole tag make same bytes r x reads e =
    let b = bind_ok r (λ y. done (make y.0, y.1)) x e in
    let t = reads b.0 b.1 in
    let s = same b.0.0 t.keeps in
    subst (λ (z : B × List ℕ). HasRead whole KeepsWhole (tag ∷ bytes) z.0 z.1) (done_is (make b.0.0, b.0.1) x b.2)
    (record { parts = ap (λ (l : List ℕ). tag ∷ l) t.parts ∙ ap (λ (l : List ℕ). l ++ b.0.1) s.0; keeps = s.1; behind = t.behind })

-- nothing stands behind a byte
pub alone_read : {B : Type 0} (whole : B → List ℕ) (KeepsWhole : B → Type 0) (tag : ℕ) (made : B) → (tag ∷ [] ≡ whole made) → KeepsWhole made → (bytes : List ℕ) (x : B × List ℕ) → AreBytes bytes → done (made, bytes) ≡ Ok x → HasRead whole KeepsWhole (tag ∷ bytes) x.0 x.1
alone_read {B = B} whole KeepsWhole tag made same keeps bytes x fit e =
    subst (λ (z : B × List ℕ). HasRead whole KeepsWhole (tag ∷ bytes) z.0 z.1) (done_is (made, bytes) x e)
    (record { parts = ap (λ (l : List ℕ). l ++ bytes) same; keeps = keeps; behind = fit })

pub at_tag : {B : Type 0} (whole : B → List ℕ) (KeepsWhole : B → Type 0) (tag k : ℕ) (bytes : List ℕ) (x : B) (rest : List ℕ) → eqb tag k ≡ true → HasRead whole KeepsWhole (k ∷ bytes) x rest → HasRead whole KeepsWhole (tag ∷ bytes) x rest
at_tag whole KeepsWhole tag k bytes x rest e h = subst (λ (t : ℕ). HasRead whole KeepsWhole (t ∷ bytes) x rest) (sym (eqb-true tag k e)) h

-- ---- where a reading that fails stands

pub at_start_left : {A : Type 0} (bytes : List ℕ) (r : Reading A) (left : ℕ) → at_start bytes r ≡ Err left → left ≡ length bytes
at_start_left bytes (Ok y) left e = absurd cc
at_start_left bytes (Err n) left e = cc

-- a test that fails leaves all bytes
pub guarded_left : {A : Type 0} (b : Bool) (bytes : List ℕ) (x : A × List ℕ) (left : ℕ) → cond b (Ok x) (no_item bytes) ≡ Err left → left ≡ length bytes
guarded_left true bytes x left e = absurd cc
guarded_left false bytes x left e = cc

pub passed_left : {A : Type 0} (b : Bool) (bytes : List ℕ) (r : Reading A) (left : ℕ) → cond b (no_item bytes) r ≡ Err left → (r ≡ Err left → left ≡ length bytes) → left ≡ length bytes
passed_left true bytes r left e h = cc
passed_left false bytes r left e h = h e

-- ---- a byte that passes a test

pub tested_again : (test : ℕ → Bool) (b : ℕ) (rest : List ℕ) → test b ≡ true → read_tested test (b ∷ rest) ≡ Ok (b, rest)
tested_again test b rest h = rw h refl

abbrev pub byte_spelling : ℕ → List ℕ
byte_spelling b = b ∷ []

pub tested_read : (test : ℕ → Bool) (bytes : List ℕ) (x : ℕ × List ℕ) → AreBytes bytes → read_tested test bytes ≡ Ok x → HasRead byte_spelling (λ b. (test b ≡ true) × (b < 256)) bytes x.0 x.1
tested_read test [] x fit e = absurd cc
tested_read test (b ∷ bs) x fit e =
    let g = guarded (test b) (length (b ∷ bs)) (b, bs) x e in
    subst (λ (y : ℕ × List ℕ). HasRead byte_spelling (λ c. (test c ≡ true) × (c < 256)) (b ∷ bs) y.0 y.1) g.1 (record { parts = refl; keeps = (g.0, bytes-first b bs fit); behind = bytes-rest b bs fit })

pub tested_left : (test : ℕ → Bool) (bytes : List ℕ) (left : ℕ) → read_tested test bytes ≡ Err left → left ≡ length bytes
tested_left test [] left e = cc
tested_left test (b ∷ bs) left e = guarded_left (test b) (b ∷ bs) (b, bs) left e

-- ---- a byte within bounds

pub within_again : (low high b : ℕ) → low ≤ b → b ≤ high → is_within low high b ≡ true
within_again low high b l h = rw (le-leb low b l, le-leb b high h) refl

pub within_is : (low high b : ℕ) → is_within low high b ≡ true → (low ≤ b) × (b ≤ high)
within_is low high b h = (let t = both (leb low b) (leb b high) h in (leb-true _ _ t.0, leb-true _ _ t.1))

-- ---- a byte that stands for something

pub meant_again : {A : Type 0} (meaning : ℕ → Option A) (b : ℕ) (x : A) (rest : List ℕ) → meaning b ≡ Some x → read_meant meaning (b ∷ rest) ≡ Ok (x, rest)
meant_again {A = A} meaning b x rest h = ap (λ (o : Option A). elim o as (λ y. Reading A) [ Some x ↦ Ok (x, rest) | None ↦ no_item (b ∷ rest) ]) h

from_meaning : {A : Type 0} (meaning : ℕ → Option A) (spelling : A → List ℕ) (Keeps : A → Type 0) (means : (b : ℕ) (x : A) → meaning b ≡ Some x → (b ∷ [] ≡ spelling x) × Keeps x) (b : ℕ) (bs : List ℕ) (o : Option A) (x : A × List ℕ) → AreBytes bs → meaning b ≡ o → elim o as (λ y. Reading A) [ Some x ↦ Ok (x, bs) | None ↦ no_item (b ∷ bs) ] ≡ Ok x → HasRead spelling Keeps (b ∷ bs) x.0 x.1
from_meaning meaning spelling Keeps means b bs None x fit h e = absurd cc
from_meaning {A = A} meaning spelling Keeps means b bs (Some y) x fit h e =
    let m = means b y h in
    subst (λ (z : A × List ℕ). HasRead spelling Keeps (b ∷ bs) z.0 z.1) (done_is (y, bs) x e) (record { parts = ap (λ (l : List ℕ). l ++ bs) m.0; keeps = m.1; behind = fit })

pub meant_read : {A : Type 0} (meaning : ℕ → Option A) (spelling : A → List ℕ) (Keeps : A → Type 0) (means : (b : ℕ) (x : A) → meaning b ≡ Some x → (b ∷ [] ≡ spelling x) × Keeps x) (bytes : List ℕ) (x : A × List ℕ) → AreBytes bytes → read_meant meaning bytes ≡ Ok x → HasRead spelling Keeps bytes x.0 x.1
meant_read meaning spelling Keeps means [] x fit e = absurd cc
meant_read meaning spelling Keeps means (b ∷ bs) x fit e = from_meaning meaning spelling Keeps means b bs (meaning b) x (bytes-rest b bs fit) refl e

pub meant_left : {A : Type 0} (meaning : ℕ → Option A) (bytes : List ℕ) (left : ℕ) → read_meant meaning bytes ≡ Err left → left ≡ length bytes
meant_left meaning [] left e = cc
meant_left {A = A} meaning (b ∷ bs) left e = from_none (meaning b) e
  where
    from_none : (o : Option A) → elim o as (λ y. Reading A) [ Some x ↦ Ok (x, bs) | None ↦ no_item (b ∷ bs) ] ≡ Err left → left ≡ length (b ∷ bs)
    from_none None h = cc
    from_none (Some x) h = absurd cc
