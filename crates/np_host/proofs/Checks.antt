-- From what was read of a file to what its check gives.
use Rattle.std.proofs.Common.{◌≡◌, ℕ, ◌≤◌, List, length, true, false, ◌⊎◌, inl, inr, Result, Ok, Err, Option, Some, sym, subst, ◌∙◌}
use Rattle.std.specs.Prelude.{IsOk}
use Rattle.std.specs.Global.{Vec}
use Rattle.np_values.specs.declared.name.Side.{Side}
use Rattle.np_values.specs.declared.name.Side.TheVariants as sides
use Rattle.np_script_grammar.specs.declared.refusal.ScriptError.{ScriptError}
use Rattle.np_script_grammar.specs.Refusals.{FirstError}
use Rattle.np_script.specs.declared.error.ParseError.{ParseError}
use Rattle.np_script.specs.declared.error.ParseError.TheVariants as errors
use Rattle.np_ports.specs.Files.{Contents}
use Rattle.np_end_lines.proofs.Fronts.{of-front, to-front, error-of-front, error-to-front}
use Rattle.np_host.specs.Check.{IsCanonicalOf}
use Rattle.np_host.proofs.Pages.{WasRead}

-- ---- of one result two things are said

abbrev value-of : {A E : Type 0} → A → Result A E
value-of value = Ok value

abbrev error-of : {A E : Type 0} → E → Result A E
error-of error = Err error

value-not-error : {A E : Type 0} (value : A) (error : E) → value-of {A = A} {E = E} value ≡ error-of {A = A} {E = E} error → ⊥
value-not-error value error same = cc

same-error : {A E : Type 0} (error other : E) → error-of {A = A} {E = E} error ≡ error-of {A = A} {E = E} other → error ≡ other
same-error error other same = cc

-- where it is an error, it is the one that is allowed
pub error-is : {A E : Type 0} (result : Result A E) (error other : E) (value : A) → result ≡ Err error → (result ≡ Ok value) ⊎ (result ≡ Err other) → error ≡ other
error-is result error other value is (inl ok) = absurd (value-not-error value error (sym ok ∙ is))
error-is {A} {E} result error other value is (inr err) = same-error {A = A} error other (sym is ∙ err)

pub errors-are : {A E : Type 0} (result : Result A E) (error first second : E) → result ≡ Err error → (result ≡ Err first) ⊎ (result ≡ Err second) → (error ≡ first) ⊎ (error ≡ second)
errors-are {A} {E} result error first second is (inl e) = inl (same-error {A = A} error first (sym is ∙ e))
errors-are {A} {E} result error first second is (inr e) = inr (same-error {A = A} error second (sym is ∙ e))

-- a value is no error
pub no-error : {A E : Type 0} (result : Result A E) (value : A) (first second : E) → result ≡ Ok value → (result ≡ Err first) ⊎ (result ≡ Err second) → ⊥
no-error result value first second is (inl e) = value-not-error value first (sym is ∙ e)
no-error result value first second is (inr e) = value-not-error value second (sym is ∙ e)

no-true : false ≡ true → ⊥
no-true e = cc

-- an error is no value
ok-or-other : {A E : Type 0} (result : Result A E) (error other : E) → result ≡ Err error → IsOk result ⊎ (result ≡ Err other) → error ≡ other
ok-or-other (Ok value) error other is (inl ok) = absurd (value-not-error value error is)
ok-or-other (Err e) error other is (inl ok) = absurd (no-true ok)
ok-or-other {A} {E} result error other is (inr err) = same-error {A = A} error other (sym is ∙ err)

-- an error of the script isn't want of memory
pub not-script : (result : Result (Vec ℕ) ParseError) (e : ScriptError) → result ≡ Err (errors.Script e) → IsOk result ⊎ (result ≡ Err errors.NoMemory) → ⊥
not-script result e is h = let same : errors.Script e ≡ errors.NoMemory = ok-or-other result (errors.Script e) errors.NoMemory is h in cc

-- ---- of the front of a file and of the whole

canonical-short : (side : Side) (text bytes : List ℕ) → IsCanonicalOf side bytes text → length bytes ≤ 1048576
canonical-short sides.Page text bytes h = h.1.size
canonical-short sides.Plug text bytes h = h.1.size

pub canonical-file : (files0 files1 : Option Contents) (name bytes seen : List ℕ) (side : Side) (text : List ℕ) (f : Contents) → WasRead files0 files1 name bytes → seen ≡ bytes → IsCanonicalOf side seen text → files0 ≡ Some f → IsCanonicalOf side (f name) text
canonical-file files0 files1 name bytes seen side text f read same h told =
    of-front (λ (l : List ℕ). IsCanonicalOf side l text) (canonical-short side text) (f name) (subst (λ (l : List ℕ). IsCanonicalOf side l text) (same ∙ (read f told).1) h)

pub canonical-front : (files0 files1 : Option Contents) (name bytes seen : List ℕ) (side : Side) (text : List ℕ) (f : Contents) → WasRead files0 files1 name bytes → seen ≡ bytes → IsCanonicalOf side (f name) text → files0 ≡ Some f → IsCanonicalOf side seen text
canonical-front files0 files1 name bytes seen side text f read same h told =
    subst (λ (l : List ℕ). IsCanonicalOf side l text) (sym (same ∙ (read f told).1)) (to-front (λ (l : List ℕ). IsCanonicalOf side l text) (canonical-short side text) (f name) h)

pub error-file : (files0 files1 : Option Contents) (name bytes seen : List ℕ) (side : Side) (e : ScriptError) (f : Contents) → WasRead files0 files1 name bytes → seen ≡ bytes → FirstError side seen e → files0 ≡ Some f → FirstError side (f name) e
error-file files0 files1 name bytes seen side e f read same h told = error-of-front side (f name) e (subst (λ (l : List ℕ). FirstError side l e) (same ∙ (read f told).1) h)

pub error-front : (files0 files1 : Option Contents) (name bytes seen : List ℕ) (side : Side) (e : ScriptError) (f : Contents) → WasRead files0 files1 name bytes → seen ≡ bytes → FirstError side (f name) e → files0 ≡ Some f → FirstError side seen e
error-front files0 files1 name bytes seen side e f read same h told = subst (λ (l : List ℕ). FirstError side l e) (sym (same ∙ (read f told).1)) (error-to-front side (f name) e h)
