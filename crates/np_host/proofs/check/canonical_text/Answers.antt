use Rattle.std.proofs.Common.{◌≡◌, ℕ, List, ◌⊎◌, Err, sym, subst}
use Rattle.std.specs.Prelude.{IsOk}
use Rattle.np_values.specs.declared.name.Side.{Side}
use Rattle.np_script_grammar.specs.declared.refusal.ScriptError.{ScriptError}
use Rattle.np_script_grammar.specs.Refusals.{FirstError}
use Rattle.np_script.specs.declared.error.ParseError.TheVariants as errors
use Rattle.np_host.specs.Check.{IsCanonicalOf}
use Rattle.np_host.proofs.check.canonical_text.Goals as goal

pub returns-in-Page-clause-read : goal.returns-in-Page-clause-read
returns-in-Page-clause-read c = subst (λ (s : Side). (text : List ℕ) → IsCanonicalOf s c.args.bytes.now text → IsOk c.page_text.result ⊎ (c.page_text.result ≡ Err errors.NoMemory)) (sym c.in-Page.is) c.page_text.ensures.read

pub returns-in-Plug-clause-read : goal.returns-in-Plug-clause-read
returns-in-Plug-clause-read c = subst (λ (s : Side). (text : List ℕ) → IsCanonicalOf s c.args.bytes.now text → IsOk c.plugin_text.result ⊎ (c.plugin_text.result ≡ Err errors.NoMemory)) (sym c.in-Plug.is) c.plugin_text.ensures.read

pub returns-in-Page-clause-refused_only : goal.returns-in-Page-clause-refused_only
returns-in-Page-clause-refused_only c = subst (λ (s : Side). (e : ScriptError) → FirstError s c.args.bytes.now e → (c.page_text.result ≡ Err (errors.Script e)) ⊎ (c.page_text.result ≡ Err errors.NoMemory)) (sym c.in-Page.is) c.page_text.ensures.refused_only

pub returns-in-Plug-clause-refused_only : goal.returns-in-Plug-clause-refused_only
returns-in-Plug-clause-refused_only c = subst (λ (s : Side). (e : ScriptError) → FirstError s c.args.bytes.now e → (c.plugin_text.result ≡ Err (errors.Script e)) ⊎ (c.plugin_text.result ≡ Err errors.NoMemory)) (sym c.in-Plug.is) c.plugin_text.ensures.refused_only
