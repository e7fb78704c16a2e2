-- Lines that a sink takes.
use Rattle.std.proofs.Common.{◌<◌, ℕ, List, [], ◌∷◌, ◌++◌, length, Option, Some, refl, ap, sym, ◌∙◌, append-nil, arith}
use Rattle.std.specs.Prelude.{decimal, codes}
use Rattle.std.proofs.lemmas.List.{length-append}
use Rattle.np_model.specs.declared.refusal.Refusal.{Refusal}
use Rattle.np_model.specs.Journal.{end_line, refused_line, rule_name}
use Rattle.np_end_stops.specs.declared.ending.Ending.{Ending}
use Rattle.np_end_stops.specs.declared.ending.Ending.TheVariants.{Done, Unsent, Ended, Failed, Refused}
use Rattle.np_script_grammar.specs.declared.refusal.ScriptError.{ScriptError}
use Rattle.np_end_stops.specs.Causes.{AddsPart}
use Rattle.np_end_lines.specs.ScriptLines.{ScriptRefusal, OfError, Unbuilt, kind_name, script_error_line, unbuilt_line, refusal_line}
use Rattle.np_end_lines.specs.Endings.{ending_line}

pub nothing_added : (taken : Option (List ℕ)) (bytes : List ℕ) → 0 < length bytes → AddsPart taken taken bytes
nothing_added taken bytes some t e = ([], bytes, refl, e ∙ ap (λ (l : List ℕ). Some l) (sym (append-nil t)), some)

-- ---- no end line is empty

pub some_behind : (x y : List ℕ) → 0 < length y → 0 < length (x ++ y)
some_behind x y some = let n = length-append x y in omega (arith, n, some)

pub end_line_is_some : (status : ℕ) → 0 < length (end_line status)
end_line_is_some status = some_behind (codes "end " ++ decimal status) (10 ∷ []) (omega arith)

pub refused_line_is_some : (r : Refusal) → 0 < length (refused_line r)
refused_line_is_some r = some_behind (codes "end 7 at " ++ decimal r.at ++ codes " " ++ rule_name r.rule ++ codes " " ++ decimal r.first ++ codes " " ++ decimal r.second) (10 ∷ []) (omega arith)

pub ending_line_is_some : (ending : Ending) → 0 < length (ending_line ending)
ending_line_is_some Done = end_line_is_some 0
ending_line_is_some Unsent = end_line_is_some 6
ending_line_is_some Ended = end_line_is_some 5
ending_line_is_some Failed = end_line_is_some 6
ending_line_is_some (Refused r) = refused_line_is_some r

pub script_error_line_is_some : (e : ScriptError) → 0 < length (script_error_line e)
script_error_line_is_some e = some_behind (codes "end 3 line " ++ decimal e.line ++ codes " " ++ kind_name e.kind) (10 ∷ []) (omega arith)

pub unbuilt_line_is_some : 0 < length unbuilt_line
unbuilt_line_is_some = some_behind (codes "end 3 unbuilt") (10 ∷ []) (omega arith)

pub refusal_line_is_some : (r : ScriptRefusal) → 0 < length (refusal_line r)
refusal_line_is_some (OfError e) = script_error_line_is_some e
refusal_line_is_some Unbuilt = unbuilt_line_is_some
