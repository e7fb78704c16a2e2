-- Depths, codes and reasons are read as they are spelled.
use Rattle.std.proofs.Common.{◌≡◌, ℕ, ◌+◌, ◌-◌, ◌<◌, ◌≤◌, Bool, true, false, cond, eqb, List, [], ◌∷◌, Option, Some, None, refl, ap, subst, ◌∙◌, arith, ◌⊎◌, inl, inr}
use Rattle.std.proofs.lemmas.Bool.{le-leb, lt-leb, eqb-true}
use Rattle.np_values.specs.declared.error.NpError.{NpError}
use Rattle.np_values.specs.declared.error.NpError.TheVariants.{NoError, Generic, InvalidInstance, InvalidFunctable, ModuleLoadFailed, OutOfMemory, InvalidPlugin, InvalidPluginDir, IncompatibleVersion, InvalidParam, InvalidUrl, FileNotFound, NoData, StreamNotSeekable}
use Rattle.np_values.specs.NpError.{code_of, errors, error_among, error_of}
use Rattle.np_values.specs.declared.reason.NpReason.{NpReason}
use Rattle.np_values.specs.declared.reason.NpReason.TheVariants.{Done, NetworkErr, UserBreak}
use Rattle.np_values.specs.NpReason.{reason_code, reasons, reason_among, reason_of}
use Rattle.np_message.specs.declared.depth.Depth.{Depth}
use Rattle.np_message.specs.Encoding.{depth_byte}
use Rattle.np_message.specs.Items.{is_within}
use Rattle.np_message.specs.Decoding.{depth_of}
use Rattle.np_wire_laws.proofs.Readings.{chosen, within_again, within_is}

-- ---- depths

level_again : (level : ℕ) (task : Bool) → 0 < level → level < 65 → depth_of (depth_byte (record { level = level; task = task })) ≡ Some (record { level = level; task = task })
level_again level false low high = rw (within_again 1 64 level (omega arith) (omega arith)) refl
level_again level true low high =
    let e : level + 128 - 128 ≡ level = omega arith in
    rw (le-leb 1 (level + 128) (omega arith), lt-leb (level + 128) 64 (omega arith), le-leb 129 (level + 128) (omega arith), le-leb (level + 128) 192 (omega arith), e) refl

pub depth_again : (depth : Depth) → 0 < depth.level → depth.level < 65 → depth_of (depth_byte depth) ≡ Some depth
depth_again depth low high = level_again depth.level depth.task low high

-- the byte's depth is this one
record IsDepth (b : ℕ) (depth : Depth) : Type 0 where
  pub byte : b ≡ depth_byte depth
  pub above : 0 < depth.level
  pub below : depth.level < 65

abbrev some : {A : Type 0} → A → Option A
some x = Some x

some_is : {A : Type 0} (a b : A) → some a ≡ some b → a ≡ b
some_is a b e = cc

depth_is : (b : ℕ) (depth : Depth) → depth_of b ≡ Some depth → IsDepth b depth
depth_is b depth e =
    let none : Option Depth = None in
    let call : Depth = record { level = b; task = false } in
    let task_call : Depth = record { level = b - 128; task = true } in
    let high : Option Depth = cond (is_within 129 192 b) (Some task_call) none in
    elim (chosen (is_within 1 64 b) (Some call) high (Some depth) e) [
      | inl h ↦ (let t = within_is 1 64 b h.0 in
          let low : 1 ≤ b = t.0 in
          let top : b ≤ 64 = t.1 in
          subst (IsDepth b) (some_is call depth h.1) (record { byte = refl; above = omega arith; below = omega arith }))
      | inr f ↦ elim (chosen (is_within 129 192 b) (Some task_call) none (Some depth) f.1) [
        | inl h ↦ (let t = within_is 129 192 b h.0 in
            let low : 129 ≤ b = t.0 in
            let top : b ≤ 192 = t.1 in
            subst (IsDepth b) (some_is task_call depth h.1) (record { byte = omega arith; above = omega arith; below = omega arith }))
        | inr bad ↦ absurd (let no : none ≡ some depth = bad.1 in cc)
      ]
    ]

pub depth_means : (b : ℕ) (depth : Depth) → depth_of b ≡ Some depth → (b ∷ [] ≡ depth_byte depth ∷ []) × ((0 < depth.level) × (depth.level < 65))
depth_means b depth e = (let t = depth_is b depth e in (ap (λ (c : ℕ). c ∷ []) t.byte, (t.above, t.below)))

-- ---- codes and reasons

pub error_again : (error : NpError) → error_of (code_of error) ≡ Some error
error_again NoError = refl
error_again Generic = refl
error_again InvalidInstance = refl
error_again InvalidFunctable = refl
error_again ModuleLoadFailed = refl
error_again OutOfMemory = refl
error_again InvalidPlugin = refl
error_again InvalidPluginDir = refl
error_again IncompatibleVersion = refl
error_again InvalidParam = refl
error_again InvalidUrl = refl
error_again FileNotFound = refl
error_again NoData = refl
error_again StreamNotSeekable = refl

pub reason_again : (reason : NpReason) → reason_of (reason_code reason) ≡ Some reason
reason_again Done = refl
reason_again NetworkErr = refl
reason_again UserBreak = refl

found : {A : Type 0} (b : Bool) (x : A) (y : Option A) (z : A) → cond b (Some x) y ≡ Some z → ((b ≡ true) × (x ≡ z)) ⊎ (y ≡ Some z)
found true x y z e = inl (refl, some_is x z e)
found false x y z e = inr e

error_is : (listed : List NpError) (code : ℕ) (error : NpError) → error_among listed code ≡ Some error → code ≡ code_of error
error_is [] code error e = absurd cc
error_is (first ∷ others) code error e =
    elim (found (eqb code (code_of first)) first (error_among others code) error e) [
      | inl h ↦ eqb-true _ _ h.0 ∙ ap code_of h.1
      | inr h ↦ error_is others code error h
    ]

reason_is : (listed : List NpReason) (code : ℕ) (reason : NpReason) → reason_among listed code ≡ Some reason → code ≡ reason_code reason
reason_is [] code reason e = absurd cc
reason_is (first ∷ others) code reason e =
    elim (found (eqb code (reason_code first)) first (reason_among others code) reason e) [
      | inl h ↦ eqb-true _ _ h.0 ∙ ap reason_code h.1
      | inr h ↦ reason_is others code reason h
    ]

pub error_means : (b : ℕ) (error : NpError) → error_of b ≡ Some error → (b ∷ [] ≡ code_of error ∷ []) × Unit {0}
error_means b error e = (ap (λ (c : ℕ). c ∷ []) (error_is errors b error e), tt)

pub reason_means : (b : ℕ) (reason : NpReason) → reason_of b ≡ Some reason → (b ∷ [] ≡ reason_code reason ∷ []) × Unit {0}
reason_means b reason e = (ap (λ (c : ℕ). c ∷ []) (reason_is reasons b reason e), tt)
