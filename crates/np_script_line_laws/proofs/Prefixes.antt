-- Lines in order, cut and joined.
use Rattle.std.proofs.Common.{◌≡◌, List, [], ◌∷◌, ◌++◌, refl}
use Rattle.np_values.specs.declared.name.Side.{Side}
use Rattle.np_script_grammar.specs.Forms.{Line}
use Rattle.np_script_grammar.specs.Scripts.{place_behind}
use Rattle.np_script_grammar.specs.Order.{Standing, standing_after, AreInOrder}
use Rattle.np_script_grammar.specs.Refusals.{standing_behind}

pub front_in_order : (side : Side) (s : Standing) (front rest : List Line) → AreInOrder side s (front ++ rest) → AreInOrder side s front
front_in_order side s [] rest all = tt
front_in_order side s (line ∷ front) rest all = (all.0, front_in_order side (standing_after s line) front rest all.1)

pub joined_in_order : (side : Side) (s : Standing) (front rest : List Line) → AreInOrder side s front → AreInOrder side (standing_behind s front) rest → AreInOrder side s (front ++ rest)
joined_in_order side s [] rest before behind = behind
joined_in_order side s (line ∷ front) rest before behind = (before.0, joined_in_order side (standing_after s line) front rest before.1 behind)

-- the place of a standing is the one that the lines lead to
pub place_of_standing : (s : Standing) (lines : List Line) → (standing_behind s lines).place ≡ place_behind s.place lines
place_of_standing s [] = refl
place_of_standing s (line ∷ lines) = place_of_standing (standing_after s line) lines
