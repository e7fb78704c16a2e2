-- What a kind's format encodes: payloads of that kind, by their items.
use Rattle.std.proofs.Common.{◌≡◌, ℕ, ◌<◌, true, List, [], ◌∷◌, subst, arith}
use Rattle.np_message.specs.declared.payload.Payload.{Payload}
use Rattle.np_message.specs.Encoding.{kind_of, items_of}
use Rattle.np_message.specs.Rules.{Each, IsNumber, KeepsKind, IsTypedBody}
use Rattle.np_message.specs.Items.{NumberItem, is_within, IsOf}
pub use Rattle.np_wire_laws.proofs.Readings.{within_again as within, within_is as bounds}

-- the bytes are the items of the payload, which is of this kind and keeps its rules
pub record Row (kind : ℕ) (bytes : List ℕ) (p : Payload) : Type 0 where
  pub kind_is : kind_of p ≡ kind
  pub parts : bytes ≡ items_of p
  pub keeps : KeepsKind p
  pub typed : IsTypedBody p

-- a row of the payload that is said
pub row_of : (kind : ℕ) (bytes : List ℕ) (p q : Payload) → p ≡ q → Row kind bytes p → Row kind bytes q
row_of kind bytes p q same h = subst (λ (x : Payload). Row kind bytes x) same h

-- a byte that counts from 1
pub counted_is : (b : ℕ) → is_within 1 255 b ≡ true → (0 < b) × (b < 256)
counted_is b h = (let t = bounds 1 255 b h in (omega (arith, t.0), omega (arith, t.1)))

pub counted_within : (b : ℕ) → 0 < b → b < 256 → is_within 1 255 b ≡ true
counted_within b l h = within 1 255 b (omega arith) (omega arith)

-- a number that counts from 1
pub number_within : (n : ℕ) → 0 < n → IsNumber n → IsOf (NumberItem 1) n
number_within n l h = (omega arith, h)

pub any_number : (n : ℕ) → IsNumber n → IsOf (NumberItem 0) n
any_number n h = (omega arith, h)

-- ---- facts on each of a list

pub each_firsts : {A : Type 0} (P Q : A → Type 0) (xs : List A) → Each (λ x. P x × Q x) xs → Each P xs
each_firsts P Q [] h = tt
each_firsts P Q (x ∷ xs) h = (h.0.0, each_firsts P Q xs h.1)

pub each_seconds : {A : Type 0} (P Q : A → Type 0) (xs : List A) → Each (λ x. P x × Q x) xs → Each Q xs
each_seconds P Q [] h = tt
each_seconds P Q (x ∷ xs) h = (h.0.1, each_seconds P Q xs h.1)

pub each_both : {A : Type 0} (P Q : A → Type 0) (xs : List A) → Each P xs → Each Q xs → Each (λ x. P x × Q x) xs
each_both P Q [] p q = tt
each_both P Q (x ∷ xs) p q = ((p.0, q.0), each_both P Q xs p.1 q.1)
