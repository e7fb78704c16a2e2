-- From the bytes of a file to its page.
use Rattle.std.proofs.Common.{◌≡◌, ℕ, List, take, ◌⊎◌, inl, inr, Result, Ok, Err, Option, Some, sym, subst, ◌∙◌, arith}
use Rattle.np_values.specs.declared.name.Side.TheVariants as sides
use Rattle.np_script_grammar.specs.declared.refusal.ScriptError.{ScriptError}
use Rattle.np_script_grammar.specs.Refusals.{FirstError}
use Rattle.np_model.specs.declared.script.Page.{Page}
use Rattle.np_ports.specs.Peer.{Known, Starts, started}
use Rattle.np_ports.specs.Files.{Contents}
use Rattle.np_model_scripts.specs.declared.serve.Unserved.{Unserved}
use Rattle.np_model_scripts.specs.declared.serve.Unserved.TheVariants as unserved
use Rattle.np_model_scripts.specs.Served.{SaysPage, IsUnbuiltPage}
use Rattle.np_end_lines.specs.ScriptLines.{ScriptRefusal, OfError, Unbuilt}
use Rattle.np_end_stops.specs.Status.{IsRunStatus}
use Rattle.np_end_lines.proofs.Fronts.{of-front, to-front, error-of-front, error-to-front}
use Rattle.np_exchange.specs.Closing.{EndsWith}
use Rattle.np_host.specs.Host.{RunsPage, IsRefusedPage, OnlyRefused}
use Rattle.np_host.specs.Outcomes.{OutcomeOf}

-- what was read of the file
abbrev pub WasRead : Option Contents → Option Contents → List ℕ → List ℕ → Type 0
WasRead files0 files1 name bytes = (f : Contents) → files0 ≡ Some f → (files1 ≡ Some f) × (bytes ≡ take 1048577 (f name))

-- the page of what was read is that of the file
pub says-page : (files0 files1 : Option Contents) (name bytes seen : List ℕ) (page : Page) (f : Contents) → WasRead files0 files1 name bytes → seen ≡ bytes → SaysPage seen page → files0 ≡ Some f → SaysPage (f name) page
says-page files0 files1 name bytes seen page f read same says told =
    let front = subst (λ (l : List ℕ). SaysPage l page) (same ∙ (read f told).1) says in
    of-front (λ (l : List ℕ). SaysPage l page) (λ (l : List ℕ) (s : SaysPage l page). s.is_script.size) (f name) front

refused-of-front : (content : List ℕ) (r : ScriptRefusal) → IsRefusedPage (take 1048577 content) r → IsRefusedPage content r
refused-of-front content (OfError e) refused = error-of-front sides.Page content e refused
refused-of-front content Unbuilt refused = of-front IsUnbuiltPage (λ (l : List ℕ) (u : IsUnbuiltPage l). u.is_script.size) content refused

refused-to-front : (content : List ℕ) (r : ScriptRefusal) → IsRefusedPage content r → IsRefusedPage (take 1048577 content) r
refused-to-front content (OfError e) refused = error-to-front sides.Page content e refused
refused-to-front content Unbuilt refused = to-front IsUnbuiltPage (λ (l : List ℕ) (u : IsUnbuiltPage l). u.is_script.size) content refused

-- why what was read isn't served is why the file isn't
pub refused-file : (files0 files1 : Option Contents) (name bytes seen : List ℕ) (r : ScriptRefusal) (f : Contents) → WasRead files0 files1 name bytes → seen ≡ bytes → IsRefusedPage seen r → files0 ≡ Some f → IsRefusedPage (f name) r
refused-file files0 files1 name bytes seen r f read same refused told = refused-of-front (f name) r (subst (λ (l : List ℕ). IsRefusedPage l r) (same ∙ (read f told).1) refused)

-- what is served isn't refused
served-only : (result : Result Page Unserved) (page : Page) (bytes : List ℕ) (r : ScriptRefusal) → result ≡ Ok page
    → ((e : ScriptError) → FirstError sides.Page bytes e → (result ≡ Err (unserved.Script e)) ⊎ (result ≡ Err unserved.NoMemory))
    → (IsUnbuiltPage bytes → (result ≡ Err unserved.Unbuilt) ⊎ (result ≡ Err unserved.NoMemory)) → IsRefusedPage bytes r → ⊥
served-only result page bytes (OfError e) is refused unbuilt h = elim (refused e h) [
  | inl other ↦ (let both : Ok page ≡ Err (unserved.Script e) = sym is ∙ other in cc)
  | inr other ↦ (let both : Ok page ≡ Err unserved.NoMemory = sym is ∙ other in cc)
]
served-only result page bytes Unbuilt is refused unbuilt h = elim (unbuilt h) [
  | inl other ↦ (let both : Ok page ≡ Err unserved.Unbuilt = sym is ∙ other in cc)
  | inr other ↦ (let both : Ok page ≡ Err unserved.NoMemory = sym is ∙ other in cc)
]

-- so a file that was read as a page isn't refused
pub only-page : (files0 files1 : Option Contents) (name bytes seen : List ℕ) (result : Result Page Unserved) (page : Page) (status : ℕ) → WasRead files0 files1 name bytes → seen ≡ bytes → result ≡ Ok page
    → ((e : ScriptError) → FirstError sides.Page seen e → (result ≡ Err (unserved.Script e)) ⊎ (result ≡ Err unserved.NoMemory))
    → (IsUnbuiltPage seen → (result ≡ Err unserved.Unbuilt) ⊎ (result ≡ Err unserved.NoMemory)) → OnlyRefused name files0 status
only-page files0 files1 name bytes seen result page status read same is refused unbuilt f told r h =
    let front = subst (λ (l : List ℕ). IsRefusedPage l r) (sym (same ∙ (read f told).1)) (refused-to-front (f name) r h) in
    absurd (served-only result page seen r is refused unbuilt front)

pub runs : (name : List ℕ) (program : List (List ℕ)) (files0 files1 : Option Contents) (bytes seen : List ℕ) (page : Page) (known0 known1 known2 : Option Known) (taken0 taken1 : Option (List ℕ)) (status : ℕ) (x : Unit {0})
    → WasRead files0 files1 name bytes → seen ≡ bytes → SaysPage seen page → Starts known0 known1 (Ok x) program → EndsWith (OutcomeOf page) known1 known2 taken0 taken1 status → RunsPage name program files0 known0 known2 taken0 taken1 status
runs name program files0 files1 bytes seen page known0 known1 known2 taken0 taken1 status x read same says starts outcome is f old first told k o =
    let begun : known1 ≡ Some (started old program) = subst (λ (s : Option Known). Starts s known1 (Ok x) program) k starts in
    (page, outcome.0, says-page files0 files1 name bytes seen page f read same says told, outcome.1, outcome.2 (started old program) first begun o)

-- a status that isn't one of a page that ran
pub ran-not : (name : List ℕ) (program : List (List ℕ)) (files : Option Contents) (known0 known1 : Option Known) (taken0 taken1 : Option (List ℕ)) (status : ℕ) → (status ≡ 3) ⊎ (status ≡ 11) → RunsPage name program files known0 known1 taken0 taken1 status
ran-not name program files known0 known1 taken0 taken1 status is ran = absurd (never is ran)
  where
    never : (status ≡ 3) ⊎ (status ≡ 11) → IsRunStatus status → ⊥
    never (inl is) (inl e) = absurd (omega arith)
    never (inl is) (inr (inl e)) = absurd (omega arith)
    never (inl is) (inr (inr (inl e))) = absurd (omega arith)
    never (inl is) (inr (inr (inr e))) = absurd (omega arith)
    never (inr is) (inl e) = absurd (omega arith)
    never (inr is) (inr (inl e)) = absurd (omega arith)
    never (inr is) (inr (inr (inl e))) = absurd (omega arith)
    never (inr is) (inr (inr (inr e))) = absurd (omega arith)
