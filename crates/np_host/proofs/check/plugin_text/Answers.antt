use Rattle.std.proofs.Common.{ℕ, inl, inr, ⊎_elim, Result, Err, ap}
use Rattle.std.specs.Global.{Vec}
use Rattle.np_script.specs.declared.error.ParseError.{ParseError}
use Rattle.np_script.specs.declared.error.ParseError.TheVariants as errors
use Rattle.np_host.proofs.Checks.{error-is, errors-are, no-error}
use Rattle.np_host.proofs.check.plugin_text.Goals as goal

abbrev refused : ParseError → Result (Vec ℕ) ParseError
refused e = Err e

pub returns-in-Err-clause-read : goal.returns-in-Err-clause-read
returns-in-Err-clause-read c = λ text h. inr (ap refused (error-is c.parse_plugin.result c.in-Err.error errors.NoMemory h.0 c.in-Err.is (c.parse_plugin.ensures.read h.0 h.1)))

pub returns-in-Err-clause-refused_only : goal.returns-in-Err-clause-refused_only
returns-in-Err-clause-refused_only c = λ e h. ⊎_elim (λ is. inl (ap refused is)) (λ is. inr (ap refused is)) (errors-are c.parse_plugin.result c.in-Err.error (errors.Script e) errors.NoMemory c.in-Err.is (c.parse_plugin.ensures.refused_only e h))

pub returns-in-Ok-print_plugin-clause-refused_only : goal.returns-in-Ok-print_plugin-clause-refused_only
returns-in-Ok-print_plugin-clause-refused_only c = λ e h. absurd (no-error c.parse_plugin.result c.in-Ok.script (errors.Script e) errors.NoMemory c.in-Ok.is (c.parse_plugin.ensures.refused_only e h))
