use Rattle.std.proofs.Common.{◌≡◌, List, [], ◌∷◌, ◌++◌, Some, refl, ap, ◌∙◌}
use Rattle.std.specs.Prelude.{codes}
use Rattle.np_script_grammar.specs.declared.line.Field.{Field}
use Rattle.np_script_grammar.specs.declared.line.Field.TheVariants.{Number}
use Rattle.np_script_grammar.specs.declared.place.Place.TheVariants.{Head}
use Rattle.np_script_builder.specs.declared.state.Building.{Building}
use Rattle.np_script_builder.specs.Building.{at_start, built_after}
use Rattle.np_script_tests.proofs.building.the_first_line_says_the_version.Goals as goal

first_line : (b : Building) (fields : List Field) → b ≡ at_start → fields ≡ Number 1 ∷ Number 2 ∷ [] → built_after Head b (codes "page", fields) ≡ Some (record at_start { major = 1; minor = 2 })
unfolding built_after
first_line b fields e f = rw (e, f) refl

pub take-requires : goal.take-requires
take-requires g c =
    let both : c.push-2.new.self ≡ Number 1 ∷ Number 2 ∷ [] =
    c.in_ok-push-2.ensures.ok ∙ ap (λ (l : List Field). l ++ Number 2 ∷ []) (c.in_ok-push.ensures.ok ∙ ap (λ (l : List Field). l ++ Number 1 ∷ []) c.new-version.ensures.value) in
    record { says = (record at_start { major = 1; minor = 2 }, first_line _ _ c.new-builder.ensures.value both) }
