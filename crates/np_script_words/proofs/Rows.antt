-- A table is searched row by row.
use Rattle.std.proofs.Common.{◌≡◌, ℕ, ◌+◌, ◌<◌, List, length, get_or, drop, map, Bool, true, false, cond, Option, Some, ap, sym, ◌∙◌}
use Rattle.std.specs.Str.{bytes_eq}
use Rattle.std.proofs.lemmas.List.{at_drop_more}
use Rattle.np_script_grammar.specs.Forms.{Form as GrammarForm, form_of}
use Rattle.np_script_words.specs.declared.table.Row.{Row}
use Rattle.np_script_words.specs.Forms.{form_value, row_value}

-- what a table's rows give
abbrev given : List Row → List ℕ → Option GrammarForm
given rows word = form_of (map row_value rows) word

at_row : (t : Bool) (rows : List Row) (i : ℕ) (d : Row) (word : List ℕ) → i < length rows → given (drop i rows) word ≡ given rows word
    → bytes_eq word (get_or rows i d).word.now ≡ t → given rows word ≡ cond t (Some (form_value (get_or rows i d).form)) (given (drop (i + 1) rows) word)
at_row t rows i d word h left e =
    sym left
    ∙ at_drop_more (λ (rs : List Row). given rs word) rows i d h
    ∙ ap (λ (b : Bool). cond b (Some (form_value (get_or rows i d).form)) (given (drop (i + 1) rows) word)) e

pub row_found : (rows : List Row) (i : ℕ) (d : Row) (word : List ℕ) → i < length rows → given (drop i rows) word ≡ given rows word
    → bytes_eq word (get_or rows i d).word.now ≡ true → Some (form_value (get_or rows i d).form) ≡ given rows word
row_found rows i d word h left e = sym (at_row true rows i d word h left e)

pub row_passed : (rows : List Row) (i : ℕ) (d : Row) (word : List ℕ) → i < length rows → given (drop i rows) word ≡ given rows word
    → bytes_eq word (get_or rows i d).word.now ≡ false → given (drop (i + 1) rows) word ≡ given rows word
row_passed rows i d word h left e = sym (at_row false rows i d word h left e)
