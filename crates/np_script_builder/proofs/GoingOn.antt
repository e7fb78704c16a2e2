-- What is built of lines, line by line and part by part.
use Rattle.std.proofs.Common.{◌≡◌, List, [], ◌∷◌, ◌++◌, Option, Some, None, refl, ap, ◌∙◌}
use Rattle.np_script_grammar.specs.declared.place.Place.{Place}
use Rattle.np_script_grammar.specs.Forms.{Line}
use Rattle.np_script_grammar.specs.Scripts.{place_after, place_behind}
use Rattle.np_script_grammar.specs.Takes.{◌>>=◌}
use Rattle.np_script_builder.proofs.FirstGiven.{given_first}
use Rattle.np_script_builder.specs.declared.state.Building.{Building}
use Rattle.np_script_builder.specs.Building.{built_after, built_from}

whole : {A : Type 0} (o : Option A) → (o >>= (λ next. Some next)) ≡ o
whole None = refl
whole (Some x) = refl

same : {A : Type 0} (a b : A) → Some a ≡ Some b → a ≡ b
same a b e = cc

pub goes_on : (place : Place) (a : Building) (lines : List Line) (line : Line) (b : Building) → built_from place a lines ≡ Some b → built_from place a (lines ++ line ∷ []) ≡ built_after (place_behind place lines) b line
goes_on place a [] line b e = whole (built_after place a line) ∙ ap (λ (x : Building). built_after place x line) (same a b e)
goes_on place a (first ∷ lines) line b e =
    let found = given_first (built_after place a first) (λ next. built_from (place_after place first.0) next lines) b e in
    rw found.1 (goes_on (place_after place first.0) found.0 lines line b found.2)
