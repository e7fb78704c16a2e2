-- From the bytes of a file to its plug-in.
use Rattle.std.proofs.Common.{◌≡◌, ℕ, List, take, ◌⊎◌, inl, inr, Result, Ok, Err, Option, Some, sym, subst, ◌∙◌, arith}
use Rattle.np_values.specs.declared.name.Side.TheVariants as sides
use Rattle.np_script_grammar.specs.declared.refusal.ScriptError.{ScriptError}
use Rattle.np_script_grammar.specs.Refusals.{FirstError}
use Rattle.np_model.specs.declared.script.Plugin.{Plugin}
use Rattle.np_ports.specs.Peer.{Known}
use Rattle.np_ports.specs.Files.{Contents}
use Rattle.np_model_scripts.specs.declared.serve.Unserved.{Unserved}
use Rattle.np_model_scripts.specs.declared.serve.Unserved.TheVariants as unserved
use Rattle.np_model_scripts.specs.Served.{SaysPlugin, IsUnbuiltPlugin}
use Rattle.np_end_lines.specs.ScriptLines.{ScriptRefusal, OfError, Unbuilt}
use Rattle.np_end_lines.proofs.Fronts.{of-front, to-front, error-of-front, error-to-front}
use Rattle.np_end_stops.specs.Status.{IsRunStatus}
use Rattle.np_exchange.specs.Closing.{EndsWith}
use Rattle.np_plug.specs.Outcomes.{OutcomeOf}
use Rattle.np_plug.specs.Plug.{RunsPlugin, IsRefusedPlugin, OnlyRefused}

-- what was read of the file
abbrev pub WasRead : Option Contents → Option Contents → List ℕ → List ℕ → Type 0
WasRead files0 files1 name bytes = (f : Contents) → files0 ≡ Some f → (files1 ≡ Some f) × (bytes ≡ take 1048577 (f name))

-- the plug-in of what was read is that of the file
pub says-plugin : (files0 files1 : Option Contents) (name bytes seen : List ℕ) (plugin : Plugin) (f : Contents) → WasRead files0 files1 name bytes → seen ≡ bytes → SaysPlugin seen plugin → files0 ≡ Some f → SaysPlugin (f name) plugin
says-plugin files0 files1 name bytes seen plugin f read same says told =
    let front = subst (λ (l : List ℕ). SaysPlugin l plugin) (same ∙ (read f told).1) says in
    of-front (λ (l : List ℕ). SaysPlugin l plugin) (λ (l : List ℕ) (s : SaysPlugin l plugin). s.is_script.size) (f name) front

refused-of-front : (content : List ℕ) (r : ScriptRefusal) → IsRefusedPlugin (take 1048577 content) r → IsRefusedPlugin content r
refused-of-front content (OfError e) refused = error-of-front sides.Plug content e refused
refused-of-front content Unbuilt refused = of-front IsUnbuiltPlugin (λ (l : List ℕ) (u : IsUnbuiltPlugin l). u.is_script.size) content refused

refused-to-front : (content : List ℕ) (r : ScriptRefusal) → IsRefusedPlugin content r → IsRefusedPlugin (take 1048577 content) r
refused-to-front content (OfError e) refused = error-to-front sides.Plug content e refused
refused-to-front content Unbuilt refused = to-front IsUnbuiltPlugin (λ (l : List ℕ) (u : IsUnbuiltPlugin l). u.is_script.size) content refused

-- why what was read isn't served is why the file isn't
pub refused-file : (files0 files1 : Option Contents) (name bytes seen : List ℕ) (r : ScriptRefusal) (f : Contents) → WasRead files0 files1 name bytes → seen ≡ bytes → IsRefusedPlugin seen r → files0 ≡ Some f → IsRefusedPlugin (f name) r
refused-file files0 files1 name bytes seen r f read same refused told = refused-of-front (f name) r (subst (λ (l : List ℕ). IsRefusedPlugin l r) (same ∙ (read f told).1) refused)

-- what is served isn't refused
served-only : (result : Result Plugin Unserved) (plugin : Plugin) (bytes : List ℕ) (r : ScriptRefusal) → result ≡ Ok plugin
    → ((e : ScriptError) → FirstError sides.Plug bytes e → (result ≡ Err (unserved.Script e)) ⊎ (result ≡ Err unserved.NoMemory))
    → (IsUnbuiltPlugin bytes → (result ≡ Err unserved.Unbuilt) ⊎ (result ≡ Err unserved.NoMemory)) → IsRefusedPlugin bytes r → ⊥
served-only result plugin bytes (OfError e) is refused unbuilt h = elim (refused e h) [
  | inl other ↦ (let both : Ok plugin ≡ Err (unserved.Script e) = sym is ∙ other in cc)
  | inr other ↦ (let both : Ok plugin ≡ Err unserved.NoMemory = sym is ∙ other in cc)
]
served-only result plugin bytes Unbuilt is refused unbuilt h = elim (unbuilt h) [
  | inl other ↦ (let both : Ok plugin ≡ Err unserved.Unbuilt = sym is ∙ other in cc)
  | inr other ↦ (let both : Ok plugin ≡ Err unserved.NoMemory = sym is ∙ other in cc)
]

-- so a file that was read as a plug-in isn't refused
pub only-plugin : (files0 files1 : Option Contents) (name bytes seen : List ℕ) (result : Result Plugin Unserved) (plugin : Plugin) (status : ℕ) → WasRead files0 files1 name bytes → seen ≡ bytes → result ≡ Ok plugin
    → ((e : ScriptError) → FirstError sides.Plug seen e → (result ≡ Err (unserved.Script e)) ⊎ (result ≡ Err unserved.NoMemory))
    → (IsUnbuiltPlugin seen → (result ≡ Err unserved.Unbuilt) ⊎ (result ≡ Err unserved.NoMemory)) → OnlyRefused name files0 status
only-plugin files0 files1 name bytes seen result plugin status read same is refused unbuilt f told r h =
    let front = subst (λ (l : List ℕ). IsRefusedPlugin l r) (sym (same ∙ (read f told).1)) (refused-to-front (f name) r h) in
    absurd (served-only result plugin seen r is refused unbuilt front)

pub runs : (name : List ℕ) (files0 files1 : Option Contents) (bytes seen : List ℕ) (plugin : Plugin) (known0 known1 : Option Known) (taken0 taken1 : Option (List ℕ)) (status : ℕ)
    → WasRead files0 files1 name bytes → seen ≡ bytes → SaysPlugin seen plugin → EndsWith (OutcomeOf plugin) known0 known1 taken0 taken1 status → RunsPlugin name files0 known0 known1 taken0 taken1 status
runs name files0 files1 bytes seen plugin known0 known1 taken0 taken1 status read same says outcome is f old first told k o = (plugin, outcome.0, says-plugin files0 files1 name bytes seen plugin f read same says told, outcome.1, outcome.2 old first k o)

-- 3 isn't the status of a plug-in that ran
pub ran-not : (name : List ℕ) (files : Option Contents) (known0 known1 : Option Known) (taken0 taken1 : Option (List ℕ)) (status : ℕ) → status ≡ 3 → RunsPlugin name files known0 known1 taken0 taken1 status
ran-not name files known0 known1 taken0 taken1 status is ran = absurd (never ran)
  where
    never : IsRunStatus status → ⊥
    never (inl e) = absurd (omega arith)
    never (inr (inl e)) = absurd (omega arith)
    never (inr (inr (inl e))) = absurd (omega arith)
    never (inr (inr (inr e))) = absurd (omega arith)
