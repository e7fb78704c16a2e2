use Rattle.std.proofs.Common.{ℕ, List, Result, Err, inl, inr, refl, ap, sym, subst, ◌∙◌, arith}
use Rattle.std.specs.Global.{Vec}
use Rattle.std.proofs.lemmas.Result.{on_err_weaker}
use Rattle.np_script.specs.declared.error.ParseError.{ParseError}
use Rattle.np_script.specs.declared.error.ParseError.TheVariants as errors
use Rattle.np_model.specs.Journal.{end_line}
use Rattle.np_end_lines.specs.ScriptLines.{OfError, script_error_line}
use Rattle.np_end_stops.proofs.Stops.{if-then, ok-then, failed-cause}
use Rattle.np_end_lines.proofs.EarlyLines.{early-line}
use Rattle.np_host.specs.Check.{IsCanonicalOf}
use Rattle.np_host.proofs.Checks.{canonical-file, canonical-front, error-file, error-front, no-error, not-script}
use Rattle.np_host.proofs.check.check.Goals as goal

abbrev refusal : ParseError → Result (Vec ℕ) ParseError
refusal e = Err e

pub returns-in-Err-Failed-clause-cut : goal.returns-in-Err-Failed-clause-cut
returns-in-Err-Failed-clause-cut g c = on_err_weaker c.finish.result (λ adds f told. inr (end_line 4, inr (inr (refl, failed-cause _ _ c.in-Err-Failed.field-0 c.in-Err-Failed.field-0-is c.in-Err-Failed.ensures.cause)), adds)) c.finish.ensures.part

pub returns-in-Err-Failed-clause-early : goal.returns-in-Err-Failed-clause-early
returns-in-Err-Failed-clause-early g c = if-then c.finish.result _ _ (λ status line early. line) (early-line c.finish.result 4 (end_line 4) _ _ (inr (λ e. absurd (omega arith), refl)) c.finish.ensures.status c.finish.ensures.printed)

pub returns-in-Ok-canonical_text-clause-done : goal.returns-in-Ok-canonical_text-clause-done
returns-in-Ok-canonical_text-clause-done g c =
    ok-then c.print_text.result _ _ (λ status adds zero f told. (_, canonical-file _ _ c.args.name.now c.in-Ok.bytes.items c.deref.result.now c.args.side _ f c.in-Ok.ensures.contents c.deref.ensures.value (subst (λ (l : List ℕ). IsCanonicalOf c.args.side c.deref.result.now l) (sym c.deref-in-Ok-canonical_text.ensures.value) c.in-Ok-canonical_text.ensures.ok) told, adds)) c.print_text.ensures.printed

pub returns-in-Ok-canonical_text-clause-only : goal.returns-in-Ok-canonical_text-clause-only
returns-in-Ok-canonical_text-clause-only g c =
    if-then c.print_text.result _ _ (λ status is. record {
      script = λ f text told h. inl is;
      error = λ f e told h. absurd (no-error c.canonical_text.result c.in-Ok-canonical_text.text (errors.Script e) errors.NoMemory c.in-Ok-canonical_text.is
          (c.canonical_text.ensures.refused_only e (error-front _ _ c.args.name.now c.in-Ok.bytes.items c.deref.result.now c.args.side e f c.in-Ok.ensures.contents c.deref.ensures.value h told)));
    }) c.print_text.ensures.status

pub returns-in-Ok-canonical_text-clause-cut : goal.returns-in-Ok-canonical_text-clause-cut
returns-in-Ok-canonical_text-clause-cut g c =
    on_err_weaker c.print_text.result (λ adds f told. inr (_, inl (canonical-file _ _ c.args.name.now c.in-Ok.bytes.items c.deref.result.now c.args.side _ f c.in-Ok.ensures.contents c.deref.ensures.value (subst (λ (l : List ℕ). IsCanonicalOf c.args.side c.deref.result.now l) (sym c.deref-in-Ok-canonical_text.ensures.value) c.in-Ok-canonical_text.ensures.ok) told), adds)) c.print_text.ensures.part

pub returns-in-Err-Script-clause-refused : goal.returns-in-Err-Script-clause-refused
returns-in-Err-Script-clause-refused g c =
    ok-then c.finish_script.result _ _ (λ status adds three f told. (c.in-Err-Script.error, error-file _ _ c.args.name.now c.in-Ok.bytes.items c.deref.result.now c.args.side c.in-Err-Script.error f c.in-Ok.ensures.contents c.deref.ensures.value (c.canonical_text.ensures.refused c.in-Err-Script.error (c.in-Err-Script.is ∙ ap refusal c.in-Err-Script.field-0-is)) told, adds)) c.finish_script.ensures.printed

pub returns-in-Err-Script-clause-only : goal.returns-in-Err-Script-clause-only
returns-in-Err-Script-clause-only g c =
    if-then c.finish_script.result _ _ (λ status is. record {
      script = λ f text told h. absurd (not-script c.canonical_text.result c.in-Err-Script.error (c.in-Err-Script.is ∙ ap refusal c.in-Err-Script.field-0-is)
          (c.canonical_text.ensures.read text (canonical-front _ _ c.args.name.now c.in-Ok.bytes.items c.deref.result.now c.args.side text f c.in-Ok.ensures.contents c.deref.ensures.value h told)));
      error = λ f e told h. inl is;
    }) c.finish_script.ensures.status

pub returns-in-Err-Script-clause-cut : goal.returns-in-Err-Script-clause-cut
returns-in-Err-Script-clause-cut g c =
    on_err_weaker c.finish_script.result (λ adds f told. inr (script_error_line c.in-Err-Script.error, inr (inl (c.in-Err-Script.error, error-file _ _ c.args.name.now c.in-Ok.bytes.items c.deref.result.now c.args.side c.in-Err-Script.error f c.in-Ok.ensures.contents c.deref.ensures.value (c.canonical_text.ensures.refused c.in-Err-Script.error (c.in-Err-Script.is ∙ ap refusal c.in-Err-Script.field-0-is)) told, refl)), adds)) c.finish_script.ensures.part

pub returns-in-Err-Script-clause-early : goal.returns-in-Err-Script-clause-early
returns-in-Err-Script-clause-early g c = if-then c.finish_script.result _ _ (λ status line early. line) (early-line c.finish_script.result 3 (script_error_line c.in-Err-Script.error) _ _ (inl (refl, (OfError c.in-Err-Script.error, refl))) c.finish_script.ensures.status c.finish_script.ensures.printed)
