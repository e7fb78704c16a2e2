-- The words of lines in order say one list of lines.
use Rattle.std.proofs.Common.{◌≡◌, ℕ, List, [], ◌∷◌, ◌++◌, map, refl, ap, sym, ◌∙◌, subst}
use Rattle.np_values.specs.declared.name.Side.{Side}
use Rattle.np_script_grammar.specs.declared.place.Place.{Place}
use Rattle.np_script_grammar.specs.Forms.{Line, IsOf, line_words}
use Rattle.np_script_grammar.specs.Tables.{table_at}
use Rattle.np_script_grammar.specs.Order.{Standing, at_first, standing_after, AreInOrder}
use Rattle.np_script_grammar.specs.Grammar.{AreLinesOf}
use Rattle.np_script_words.specs.Laws.{HasFormAt, OneLine}
use Rattle.np_script_text_laws.proofs.TextLines.{append-nothing}

pub has-form : (side : Side) (place : Place) (line : Line) → IsOf (table_at side place) line → HasFormAt side place line
has-form side place line is = record { form = is.form; listed = is.listed; of_form = is.of_form }

-- lines in order whose words begin with those of others in order begin with these
pub front-is : OneLine → (side : Side) (s : Standing) (front all : List Line) (words : List (List (List ℕ))) → AreInOrder side s front → AreInOrder side s all
    → map line_words all ≡ map line_words front ++ words → (rest : List Line) × (all ≡ front ++ rest) × (map line_words rest ≡ words)
front-is law side s [] all words before every e = (all, refl, e)
front-is law side s (line ∷ front) [] words before every e = absurd cc
front-is law side s (line ∷ front) (other ∷ all) words before every e =
    let heads : line_words other ≡ line_words line = cc in
    let tails : map line_words all ≡ map line_words front ++ words = cc in
    let same : other ≡ line = law side s.place other line (has-form side s.place other every.0.listed) (has-form side s.place line before.0.listed) heads in
    let every_again : AreInOrder side (standing_after s line) all = subst (λ (l : Line). AreInOrder side (standing_after s l) all) same every.1 in
    let behind = front-is law side (standing_after s line) front all words before.1 every_again tails in
    (behind.0, ap (λ (l : Line). l ∷ all) same ∙ ap (λ (ls : List Line). line ∷ ls) behind.1, behind.2)

no-words : (rest : List Line) → map line_words rest ≡ [] → rest ≡ []
no-words [] e = refl
no-words (line ∷ rest) e = absurd cc

pub one-set : OneLine → (side : Side) (text : List (List ℕ)) (lines others : List Line) → AreLinesOf side text lines → AreLinesOf side text others → lines ≡ others
one-set law side text lines others are alike =
    let words : map line_words others ≡ map line_words lines ++ [] = sym alike.say ∙ are.say ∙ sym (append-nothing (map line_words lines)) in
    let behind = front-is law side at_first lines others [] are.in_order alike.in_order words in
    sym (append-nothing lines) ∙ ap (λ (rest : List Line). lines ++ rest) (sym (no-words behind.0 behind.2)) ∙ sym behind.1
