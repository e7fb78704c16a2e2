-- The lines of both journals, and the end lines. (This project's own.)
use Rattle.std.specs.Prelude.{ℕ, List, [], ◌∷◌, ◌++◌, decimal, codes}
use Rattle.np_values.specs.declared.error.NpError.{NpError}
use Rattle.np_values.specs.NpError.{code_of}
use Rattle.np_model.specs.declared.refusal.Rule.{Rule}
use Rattle.np_model.specs.declared.refusal.Rule.TheVariants.{Bytes, Length, Item, Rest, WrongKind, Place, Held, Unmatched, Unknown, TooMany, CountFull}
use Rattle.np_model.specs.declared.refusal.Refusal.{Refusal}

-- the result line of the command with this number
abbrev pub result_line : ℕ → List ℕ → List ℕ
result_line number text = decimal number ++ codes ": " ++ text ++ 10 ∷ []

-- the result of NPP_New: the number of its error
abbrev pub code_line : ℕ → NpError → List ℕ
code_line number error = result_line number (codes "error " ++ decimal (code_of error))

-- the result of a `turn` that was answered
abbrev pub void_line : ℕ → List ℕ
void_line number = result_line number (codes "true void")

-- the result of a `turn` that was not
abbrev pub false_line : ℕ → List ℕ
false_line number = result_line number (codes "false")

-- the line of the handler that is run for NPP_New of an instance
abbrev pub new_line : ℕ → List ℕ
new_line instance = codes "> inst:" ++ decimal instance ++ codes " new" ++ 10 ∷ []

-- the last line, of a status
abbrev pub end_line : ℕ → List ℕ
end_line status = codes "end " ++ decimal status ++ 10 ∷ []

-- the word that the last line has for a rule
abbrev pub rule_name : Rule → List ℕ
rule_name Bytes = codes "bytes"
rule_name Length = codes "length"
rule_name Item = codes "item"
rule_name Rest = codes "rest"
rule_name WrongKind = codes "wrong-kind"
rule_name Place = codes "place"
rule_name Held = codes "held"
rule_name Unmatched = codes "unmatched"
rule_name Unknown = codes "unknown"
rule_name TooMany = codes "too-many"
rule_name CountFull = codes "count-full"

-- the last line of a run in which a message was refused
abbrev pub refused_line : Refusal → List ℕ
refused_line r = codes "end 7 at " ++ decimal r.at ++ codes " " ++ rule_name r.rule ++ codes " " ++ decimal r.first ++ codes " " ++ decimal r.second ++ 10 ∷ []
