-- Words with one space between them are the first, and each of the others behind a space.
use Rattle.std.proofs.Common.{◌≡◌, ℕ, List, [], ◌∷◌, ◌++◌, map, ap, sym, ◌∙◌, append-nil, refl}
use Rattle.np_script_grammar.specs.declared.line.Field.{Field}
use Rattle.np_script_grammar.specs.Fields.{field_word}
use Rattle.np_script_grammar.specs.Forms.{Line, line_words, spaced}
use Rattle.np_script_grammar.specs.Grammar.{text_of_lines}
use Rattle.np_script_print.specs.Printed.{all_behind, whole_line, lines_text}

spaced_fields : (word : List ℕ) (fields : List Field) → spaced (word ∷ map field_word fields) ≡ word ++ all_behind fields
spaced_fields word [] = sym (append-nil word)
spaced_fields word (field ∷ fields) = ap (λ (l : List ℕ). word ++ 32 ∷ l) (spaced_fields (field_word field) fields)

one_line : (line : Line) → spaced (line_words line) ++ 10 ∷ [] ≡ whole_line line
one_line line = ap (λ (l : List ℕ). l ++ 10 ∷ []) (spaced_fields line.0 line.1)

pub text_is : (lines : List Line) → lines_text lines ≡ text_of_lines lines
text_is [] = refl
text_is (line ∷ lines) =
    ap (λ (l : List ℕ). l ++ lines_text lines) (sym (one_line line)) ∙ ap (λ (l : List ℕ). (spaced (line_words line) ++ 10 ∷ []) ++ l) (text_is lines)
