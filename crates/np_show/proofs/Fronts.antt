-- What stands at the front of bytes, where more follow.
use Rattle.std.proofs.Common.{◌≡◌, ◌≢◌, ◌<◌, ◌≤◌, ◌||◌, ℕ, Bool, true, false, nat_lt, if◌then◌else◌, List, [], ◌++◌, length, take, drop, refl, ap, sym, ◌∙◌, subst, arith, Result, Ok, Err}
use Rattle.std.specs.Int.{w32, from_be_bytes}
use Rattle.std.proofs.lemmas.List.{length-append, length-drop, take-append-le, drop-append-le}
use Rattle.np_message.specs.Message.{Message}
use Rattle.np_message.specs.declared.wire.WireError.{WireError}
use Rattle.np_message.specs.declared.wire.WireKind.TheVariants.{Length}
use Rattle.np_message.specs.Decoding.{Front, Partial, Whole, Bad, front, front_sized, front_body, read, whole}
use Rattle.np_message.specs.Formats.{message_format}
use Rattle.np_message.specs.declared.wire.WireKind.{WireKind}

-- what stood at the front stands there still, and more follows
abbrev pub with_more : List ℕ → Front → Front
with_more more Partial = Partial
with_more more (Whole m rest) = Whole m (rest ++ more)
with_more more (Bad e) = Bad e

body-more : (at n : ℕ) (r : Result Message (WireKind × ℕ)) (rest more : List ℕ) → front_body at n r (rest ++ more) ≡ with_more more (front_body at n r rest)
body-more at n (Ok m) rest more = refl
body-more at n (Err e) rest more = refl

-- a choice, by its test
yes : {A : Type 0} (b : Bool) (x y : A) → b ≡ true → (if b then x else y) ≡ x
yes b x y is = subst (λ (t : Bool). (if t then x else y) ≡ x) (sym is) refl

no : {A : Type 0} (b : Bool) (x y : A) → b ≡ false → (if b then x else y) ≡ y
no b x y is = subst (λ (t : Bool). (if t then x else y) ≡ y) (sym is) refl

fits : (n : ℕ) (rest more : List ℕ) → nat_lt (length rest) n ≡ false → (n ≤ length rest) × (nat_lt (length (rest ++ more)) n ≡ false)
fits n rest more is = let m = length-append rest more in (grind (arith, is), grind (arith, is, m))

sized-by : (b c : Bool) (at n : ℕ) (rest more : List ℕ) → (nat_lt n 4 || nat_lt 32768 n) ≡ b → nat_lt (length rest) n ≡ c → front_sized at n rest ≢ Partial
    → front_sized at n (rest ++ more) ≡ with_more more (front_sized at n rest)
sized-by true c at n rest more out short some =
    yes (nat_lt n 4 || nat_lt 32768 n) _ _ out ∙ ap (with_more more) (sym (yes (nat_lt n 4 || nat_lt 32768 n) (Bad (record { at = at; kind = Length; first = n; second = 32768 })) _ out))
sized-by false true at n rest more out short some = absurd (some (no (nat_lt n 4 || nat_lt 32768 n) _ _ out ∙ yes (nat_lt (length rest) n) _ _ short))
sized-by false false at n rest more out short some =
    let f = fits n rest more short in
    let here : front_sized at n rest ≡ front_body at n (whole (read message_format (take n rest))) (drop n rest) = no (nat_lt n 4 || nat_lt 32768 n) _ _ out ∙ no (nat_lt (length rest) n) _ _ short in
    let there : front_sized at n (rest ++ more) ≡ front_body at n (whole (read message_format (take n (rest ++ more)))) (drop n (rest ++ more)) = no (nat_lt n 4 || nat_lt 32768 n) _ _ out ∙ no (nat_lt (length (rest ++ more)) n) _ _ f.1 in
    there ∙ rw (take-append-le n rest more f.0, drop-append-le n rest more f.0) (body-more at n (whole (read message_format (take n rest))) (drop n rest) more) ∙ ap (with_more more) (sym here)

pub sized-more : (at n : ℕ) (rest more : List ℕ) → front_sized at n rest ≢ Partial → front_sized at n (rest ++ more) ≡ with_more more (front_sized at n rest)
sized-more at n rest more some = sized-by (nat_lt n 4 || nat_lt 32768 n) (nat_lt (length rest) n) at n rest more refl refl some

front-by : (b : Bool) (at : ℕ) (bytes more : List ℕ) → nat_lt (length bytes) 4 ≡ b → front at bytes ≢ Partial → front at (bytes ++ more) ≡ with_more more (front at bytes)
unfolding front
front-by true at bytes more short some = absurd (some (yes (nat_lt (length bytes) 4) _ _ short))
front-by false at bytes more short some =
    let f = fits 4 bytes more short in
    let here : front at bytes ≡ front_sized at (from_be_bytes w32 (take 4 bytes)) (drop 4 bytes) = no (nat_lt (length bytes) 4) _ _ short in
    let there : front at (bytes ++ more) ≡ front_sized at (from_be_bytes w32 (take 4 (bytes ++ more))) (drop 4 (bytes ++ more)) = no (nat_lt (length (bytes ++ more)) 4) _ _ f.1 in
    there ∙ rw (take-append-le 4 bytes more f.0, drop-append-le 4 bytes more f.0) (sized-more at (from_be_bytes w32 (take 4 bytes)) (drop 4 bytes) more (λ e. some (here ∙ e))) ∙ ap (with_more more) (sym here)

pub front-more : (at : ℕ) (bytes more : List ℕ) → front at bytes ≢ Partial → front at (bytes ++ more) ≡ with_more more (front at bytes)
front-more at bytes more some = front-by (nat_lt (length bytes) 4) at bytes more refl some

pub whole-more : (at : ℕ) (bytes more : List ℕ) (m : Message) (rest : List ℕ) → front at bytes ≡ Whole m rest → front at (bytes ++ more) ≡ Whole m (rest ++ more)
whole-more at bytes more m rest is = front-more at bytes more (λ e. absurd (cc' (sym is ∙ e))) ∙ ap (with_more more) is
  where
    cc' : Whole m rest ≡ Partial → ⊥
    cc' e = absurd cc

pub bad-more : (at : ℕ) (bytes more : List ℕ) (e : WireError) → front at bytes ≡ Bad e → front at (bytes ++ more) ≡ Bad e
bad-more at bytes more e is = front-more at bytes more (λ p. absurd (cc' (sym is ∙ p))) ∙ ap (with_more more) is
  where
    cc' : Bad e ≡ Partial → ⊥
    cc' p = absurd cc

-- ---- a whole message has bytes

abbrev left_of : Front → ℕ → Type 0
left_of Partial size = Unit {0}
left_of (Whole m rest) size = length rest < size
left_of (Bad e) size = Unit {0}

body-left : (at n : ℕ) (r : Result Message (WireKind × ℕ)) (rest : List ℕ) (size : ℕ) → length rest < size → left_of (front_body at n r rest) size
body-left at n (Ok m) rest size less = less
body-left at n (Err e) rest size less = tt

choice : (P : Front → Type 0) (b : Bool) (x y : Front) → P x → P y → P (if b then x else y)
choice P true x y p q = p
choice P false x y p q = q

sized-left : (at n : ℕ) (rest : List ℕ) (size : ℕ) → length rest < size → left_of (front_sized at n rest) size
sized-left at n rest size less =
    let k = length-drop n rest in
    choice (λ f. left_of f size) (nat_lt n 4 || nat_lt 32768 n) _ _ tt (choice (λ f. left_of f size) (nat_lt (length rest) n) _ _ tt (body-left at n (whole (read message_format (take n rest))) (drop n rest) size (omega (arith, k, less))))

front-left-by : (b : Bool) (at : ℕ) (bytes : List ℕ) → nat_lt (length bytes) 4 ≡ b → left_of (front at bytes) (length bytes)
unfolding front
front-left-by true at bytes short = subst (λ (f : Front). left_of f (length bytes)) (sym (yes (nat_lt (length bytes) 4) _ _ short)) tt
front-left-by false at bytes short =
    let k = length-drop 4 bytes in
    subst (λ (f : Front). left_of f (length bytes)) (sym (no (nat_lt (length bytes) 4) _ _ short)) (sized-left at (from_be_bytes w32 (take 4 bytes)) (drop 4 bytes) (length bytes) (grind (arith, k, short)))

pub whole-left : (at : ℕ) (bytes : List ℕ) (m : Message) (rest : List ℕ) → front at bytes ≡ Whole m rest → length rest < length bytes
whole-left at bytes m rest is = subst (λ (f : Front). left_of f (length bytes)) is (front-left-by (nat_lt (length bytes) 4) at bytes refl)

pub empty-front : (at : ℕ) → front at [] ≡ Partial
unfolding front
empty-front at = refl
