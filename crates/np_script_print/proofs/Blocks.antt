-- Blocks of lines, one behind another.
use Rattle.std.proofs.Common.{◌≡◌, ℕ, List, [], ◌∷◌, ◌++◌, ap, sym, ◌∙◌, append_assoc, append-nil, arith}
use Rattle.std.proofs.lemmas.Grind.{flat_map-append}
use Rattle.np_script_grammar.specs.Forms.{Line}
use Rattle.np_script_print.specs.Printed.{whole_line, lines_text}

lines_append : (a b : List Line) → lines_text (a ++ b) ≡ lines_text a ++ lines_text b
lines_append a b = flat_map-append whole_line a b

-- first bytes, and then three blocks
pub three_blocks : (old first_out second_out third_out new first : List ℕ) (second third fourth : List Line) → first_out ≡ old ++ first → second_out ≡ first_out ++ lines_text second
    → third_out ≡ second_out ++ lines_text third → new ≡ third_out ++ lines_text fourth → new ≡ old ++ (first ++ lines_text (second ++ (third ++ fourth)))
three_blocks old a b c new first second third fourth ha hb hc hn =
    let inner : lines_text (second ++ (third ++ fourth)) ≡ lines_text second ++ (lines_text third ++ lines_text fourth) =
    lines_append second (third ++ fourth) ∙ ap (λ (l : List ℕ). lines_text second ++ l) (lines_append third fourth) in
    let outer : new ≡ old ++ (first ++ (lines_text second ++ (lines_text third ++ lines_text fourth))) = grind (arith, append_assoc, ha, hb, hc, hn) in
    outer ∙ ap (λ (l : List ℕ). old ++ (first ++ l)) (sym inner)

-- a block of one line
pub last_line : (old new : List ℕ) (line : Line) → new ≡ old ++ whole_line line → new ≡ old ++ lines_text (line ∷ [])
last_line old new line h = h ∙ ap (λ (l : List ℕ). old ++ l) (sym (append-nil (whole_line line)))
