-- From what stands behind the length to the whole front.
use Rattle.std.proofs.Common.{◌≡◌, ℕ, zero, suc, ◌+◌, ◌-◌, ◌<◌, ◌≤◌, List, [], ◌∷◌, length, get_or, take, drop, ltb, true, false, Option, Some, None, Result, Ok, Err, refl, sym, ap, subst, ◌∙◌, arith, drop-drop}
use Rattle.std.specs.Prelude.{IfOk, IfSome}
use Rattle.std.specs.Int.{w32, from_be_bytes}
use Rattle.std.proofs.lemmas.Bool.{le-ltb, lt-ltb}
use Rattle.std.proofs.lemmas.List.Elements.{All-from_get_or}
use Rattle.np_message.specs.Message.{Message}
use Rattle.np_message.specs.Decoding.{Front, Partial, Whole, front, front_sized}
use Rattle.np_wire_laws.specs.Laws.{ReadIsEncoded, RefusesOnlyFaults}
use Rattle.np_wire_decode.specs.declared.unread.Broken.{Broken}
use Rattle.np_wire_decode.specs.declared.unread.Broken.TheVariants as broken
use Rattle.np_wire_decode.specs.Reading.{WantsOnly, needs_memory}
use Rattle.np_wire.specs.declared.error.FeedError.{FeedError}
use Rattle.np_wire.specs.declared.error.FeedError.TheVariants.{Wire, NoMemory}
use Rattle.np_wire.specs.Feed.{FrontIs, SizedIs, FrontGives, SizedGives, IsEncoded, RefusesFirstFault, IsWholeBody, HasWholeBody, WantsMemoryOnly, RefusedAs}

behind : (seen : Front) (bytes : List ℕ) (r : Result (Option (Message × ℕ)) FeedError) → SizedIs seen (drop 4 bytes) r → FrontIs seen bytes r
behind seen bytes (Ok None) h = h
behind seen bytes (Ok (Some m)) h =
    let e : 4 + (m.1 - 4) ≡ m.1 = omega (arith, h.0) in
    h.1 ∙ ap (Whole m.0) (drop-drop (m.1 - 4) 4 bytes ∙ ap (λ (k : ℕ). drop k bytes) e)
behind seen bytes (Err (Wire e)) h = h
behind seen bytes (Err NoMemory) h = tt

pub front_short : (at : ℕ) (bytes : List ℕ) → length bytes < 4 → front at bytes ≡ Partial
unfolding front
front_short at bytes short = (let e : ltb (length bytes) 4 ≡ true = lt-ltb _ _ short in rw e refl)

pub front_is : (at n : ℕ) (bytes rest : List ℕ) (r : Result (Option (Message × ℕ)) FeedError) → 4 ≤ length bytes → n ≡ from_be_bytes w32 (take 4 bytes) → rest ≡ drop 4 bytes → SizedGives at n rest r → FrontGives at bytes r
unfolding front
front_is at n bytes rest r long n-is rest-is h =
    let e : ltb (length bytes) 4 ≡ false = le-ltb _ _ long in
    rw e (behind (front_sized at (from_be_bytes w32 (take 4 bytes)) (drop 4 bytes)) bytes r (rw (← n-is, ← rest-is) h))

pub front_found : ReadIsEncoded → (at : ℕ) (bytes : List ℕ) (r : Result (Option (Message × ℕ)) FeedError) → ((i : ℕ) → get_or bytes i 0 < 256) → FrontGives at bytes r → IfOk r (λ next. IfSome next (λ m. IsEncoded m.0 bytes (drop m.1 bytes)))
front_found law at bytes (Ok None) fit h = tt
front_found law at bytes (Ok (Some m)) fit h =
    let t = law at bytes (drop m.1 bytes) m.0 (All-from_get_or (λ b. b < 256) bytes 0 (λ i below. fit i)) h in
    record { parts = t.0; format = t.1; typed = t.2 }
front_found law at bytes (Err (Wire e)) fit h = tt
front_found law at bytes (Err NoMemory) fit h = tt

pub front_refuses : RefusesOnlyFaults → (at : ℕ) (bytes : List ℕ) (r : Result (Option (Message × ℕ)) FeedError) → ((i : ℕ) → get_or bytes i 0 < 256) → FrontGives at bytes r → RefusesFirstFault at bytes r
front_refuses law at bytes (Ok next) fit h = tt
front_refuses law at bytes (Err (Wire e)) fit h = law at bytes e (All-from_get_or (λ b. b < 256) bytes 0 (λ i below. fit i)) h
front_refuses law at bytes (Err NoMemory) fit h = tt

-- the head of a body tells whether it needs memory
needs_of_taken : (n : ℕ) (bytes : List ℕ) → 4 ≤ n → needs_memory (take n bytes) ≡ true → needs_memory bytes ≡ true
needs_of_taken zero bytes low h = absurd (omega (arith, low))
needs_of_taken (suc zero) bytes low h = absurd (omega (arith, low))
needs_of_taken (suc (suc zero)) bytes low h = absurd (omega (arith, low))
needs_of_taken (suc (suc (suc zero))) bytes low h = absurd (omega (arith, low))
needs_of_taken (suc (suc (suc (suc n)))) [] low h = h
needs_of_taken (suc (suc (suc (suc n)))) (a ∷ []) low h = h
needs_of_taken (suc (suc (suc (suc n)))) (a ∷ b ∷ []) low h = h
needs_of_taken (suc (suc (suc (suc n)))) (a ∷ b ∷ c ∷ []) low h = h
needs_of_taken (suc (suc (suc (suc n)))) (a ∷ b ∷ c ∷ d ∷ bytes) low h = h

pub sized_memory : (X : Type 0) (at n : ℕ) (rest body : List ℕ) (b : Broken) (e : FeedError) → 4 ≤ n → body ≡ take n rest → RefusedAs at n b e → (let r : Result Message Broken = Err b in WantsOnly (needs_memory body ≡ true) r) → (let s : Result X FeedError = Err e in WantsMemoryOnly (needs_memory rest ≡ true) s)
sized_memory X at n rest body (broken.Item left) e low is refused h = subst (λ (y : FeedError). let s : Result X FeedError = Err y in WantsMemoryOnly (needs_memory rest ≡ true) s) (sym refused) tt
sized_memory X at n rest body (broken.Rest left) e low is refused h = subst (λ (y : FeedError). let s : Result X FeedError = Err y in WantsMemoryOnly (needs_memory rest ≡ true) s) (sym refused) tt
sized_memory X at n rest body broken.NoMemory e low is refused h = subst (λ (y : FeedError). let s : Result X FeedError = Err y in WantsMemoryOnly (needs_memory rest ≡ true) s) (sym refused) (needs_of_taken n rest low (ap needs_memory (sym is) ∙ h))

-- what holds anyway holds where memory is wanted
pub wants_anyway : {X : Type 0} {P : Type 0} → P → (r : Result X FeedError) → WantsMemoryOnly P r
wants_anyway p (Ok x) = tt
wants_anyway p (Err (Wire e)) = tt
wants_anyway p (Err NoMemory) = p

wants_less : {X : Type 0} {P Q : Type 0} → (P → Q) → (r : Result X FeedError) → WantsMemoryOnly P r → WantsMemoryOnly Q r
wants_less f (Ok x) h = tt
wants_less f (Err (Wire e)) h = tt
wants_less f (Err NoMemory) h = f h

-- the body after the length is that of the whole bytes
pub whole_front : {X : Type 0} (n : ℕ) (bytes rest : List ℕ) (r : Result X FeedError) → 4 ≤ length bytes → n ≡ from_be_bytes w32 (take 4 bytes) → rest ≡ drop 4 bytes → WantsMemoryOnly (IsWholeBody n rest) r → WantsMemoryOnly (HasWholeBody bytes) r
whole_front n bytes rest r long n-is rest-is h = wants_less (λ whole. (long, subst (λ (k : ℕ). IsWholeBody k (drop 4 bytes)) n-is (subst (λ (b : List ℕ). IsWholeBody n b) rest-is whole))) r h
