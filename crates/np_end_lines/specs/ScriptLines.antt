-- The end lines of a script that is refused, and of one that isn't supported yet. (This project's own.)
use Rattle.std.specs.Prelude.{◌≡◌, ◌≢◌, ℕ, List, [], ◌∷◌, ◌++◌, ◌⊎◌, decimal, codes}
use Rattle.np_model.specs.Journal.{end_line}
use Rattle.np_script_grammar.specs.declared.refusal.ScriptKind.{ScriptKind}
use Rattle.np_script_grammar.specs.declared.refusal.ScriptKind.TheVariants.{Size, Bytes, Word, Form, Limit, Twice, End}
use Rattle.np_script_grammar.specs.declared.refusal.ScriptError.{ScriptError}
use Rattle.np_end_stops.specs.Status.{BAD_SCRIPT}

-- the word that the last line has for a kind
abbrev pub kind_name : ScriptKind → List ℕ
kind_name Size = codes "size"
kind_name Bytes = codes "bytes"
kind_name Word = codes "word"
kind_name Form = codes "form"
kind_name Limit = codes "limit"
kind_name Twice = codes "twice"
kind_name End = codes "end"

-- the last line where the script was refused for this error
abbrev pub script_error_line : ScriptError → List ℕ
script_error_line e = codes "end 3 line " ++ decimal e.line ++ codes " " ++ kind_name e.kind ++ 10 ∷ []

-- the last line where the script isn't supported yet
abbrev pub unbuilt_line : List ℕ
unbuilt_line = codes "end 3 unbuilt" ++ 10 ∷ []

-- why a script isn't served: it has an error, or a line that isn't supported yet
pub data ScriptRefusal : Type 0 where
  OfError : ScriptError → ScriptRefusal
  Unbuilt : ScriptRefusal

-- the last line where a script isn't served for this reason
abbrev pub refusal_line : ScriptRefusal → List ℕ
refusal_line (OfError e) = script_error_line e
refusal_line Unbuilt = unbuilt_line

-- the last line at this status where nothing ran: at 3 that of a script that isn't served, else the end line
abbrev pub IsEarlyLine : ℕ → List ℕ → Type 0
IsEarlyLine status line = ((status ≡ BAD_SCRIPT) × ((r : ScriptRefusal) × (line ≡ refusal_line r))) ⊎ ((status ≢ BAD_SCRIPT) × (line ≡ end_line status))
