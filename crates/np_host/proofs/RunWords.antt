-- From the plain words to what is run.
use Rattle.std.proofs.Common.{◌≡◌, ℕ, ◌≤◌, List, [], ◌∷◌, length, drop, get_or, Option, Some, None, sym, ap, subst, ◌∙◌, arith}
use Rattle.std.specs.Prelude.{String, string_bytes}
use Rattle.std.specs.Global.{Global}
use Rattle.std.proofs.lemmas.Bool.{le-leb}
use Rattle.std.proofs.lemmas.List.{length-map}
use Rattle.np_values.specs.declared.name.Side.{Side}
use Rattle.np_host.specs.Words.{RunWords, HostCommand, Run, Check, Show, texts, run_of, IsRun}
use Rattle.np_ports.specs.declared.file_call.FileCall.{FileCall}
use Rattle.np_show.specs.Show.{NotesReadOnly}
use Rattle.np_host.specs.Host.{OfRun, OfCheck, OfShow, IsNoShow, NotesScriptOnly}

-- the command to run this page over this program
abbrev running : List ℕ → List (List ℕ) → Option HostCommand
running page program = let r : RunWords = record { page = page; program = program } in Some (Run r)

run-is : (plain : List (String Global)) (first : String Global) → 2 ≤ length plain → length plain ≤ 18 → first ≡ get_or plain 0 first → run_of (texts plain) ≡ running (string_bytes first) (texts (drop 1 plain))
run-is [] first some few is = absurd (omega arith)
run-is (a ∷ []) first some few is = absurd (omega arith)
run-is (a ∷ b ∷ rest) first some few is =
    let n : length (texts rest) ≤ 16 = omega (arith, length-map rest (λ (w : String Global). string_bytes w)) in
    rw (le-leb (length (texts rest)) 16 n) (ap (λ (w : String Global). running (string_bytes w) (texts (b ∷ rest))) (sym is))

pub words-are : (plain program : List (String Global)) (command : Option HostCommand) (first : String Global) (name : List ℕ) → IsRun plain command → first ≡ get_or plain 0 first → name ≡ string_bytes first → program ≡ drop 1 plain → command ≡ Some (Run (record { page = name; program = texts program }))
words-are plain program command first name run is same rest =
    run.run ∙ run-is plain first run.some run.few is
    ∙ ap (λ (n : List ℕ). running n (texts (drop 1 plain))) (sym same)
    ∙ ap (λ (l : List (String Global)). running name (texts l)) (sym rest)

pub of-words : (o : Option HostCommand) (r : RunWords) (P : RunWords → Type 0) (Q : Type 0) → o ≡ Some (Run r) → P r → OfRun o P Q
of-words o r P Q is p = subst (λ (x : Option HostCommand). OfRun x P Q) (sym is) p

-- the calls that failed are those of the page that the words name
pub of-named : (o : Option HostCommand) (r : RunWords) (old new : Option (List (List ℕ × FileCall))) → o ≡ Some (Run r) → NotesReadOnly r.page old new → NotesScriptOnly o old new
of-named o r old new is p = subst (λ (x : Option HostCommand). NotesScriptOnly x old new) (sym is) p

-- a check of words that tell to run, and the other way round
pub no-check : (o : Option HostCommand) (r : RunWords) (P : Side → List ℕ → Type 0) → o ≡ Some (Run r) → OfCheck o P
no-check o r P is = subst (λ (x : Option HostCommand). OfCheck x P) (sym is) tt

pub no-run : (o : Option HostCommand) (side : Side) (file : List ℕ) (P : RunWords → Type 0) (Q : Type 0) → o ≡ Some (Check side file) → OfRun o P Q
no-run o side file P Q is = subst (λ (x : Option HostCommand). OfRun x P Q) (sym is) tt

pub of-check : (o : Option HostCommand) (side : Side) (file seen : List ℕ) (P : Side → List ℕ → Type 0) → o ≡ Some (Check side file) → seen ≡ file → P side seen → OfCheck o P
of-check o side file seen P is same p = subst (λ (x : Option HostCommand). OfCheck x P) (sym is) (subst (λ (l : List ℕ). P side l) same p)

pub of-show : (o : Option HostCommand) (file seen : List ℕ) (P : List ℕ → Type 0) → o ≡ Some (Show file) → seen ≡ file → P seen → OfShow o P
of-show o file seen P is same p = subst (λ (x : Option HostCommand). OfShow x P) (sym is) (subst (λ (l : List ℕ). P l) same p)

pub no-show : (o : Option HostCommand) (file : List ℕ) → o ≡ Some (Show file) → IsNoShow o → ⊥
no-show o file is none = subst (λ (x : Option HostCommand). IsNoShow x) is none

pub run-some : (o : Option HostCommand) (r : RunWords) → o ≡ Some (Run r) → o ≡ None → ⊥
run-some o r is none = let both : Some (Run r) ≡ None = sym is ∙ none in cc
