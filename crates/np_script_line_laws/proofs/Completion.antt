-- From each place lines lead on to a place where a script may end.
use Rattle.std.proofs.Common.{◌≡◌, ℕ, List, [], ◌∷◌, ◌++◌, true, refl, ap, sym, ◌∙◌, arith}
use Rattle.std.specs.Prelude.{codes, Some}
use Rattle.np_values.specs.declared.name.Side.{Side}
use Rattle.np_values.specs.declared.name.Side.TheVariants as sides
use Rattle.np_script_grammar.specs.declared.place.Place.{Place}
use Rattle.np_script_grammar.specs.declared.place.Place.TheVariants.{Head, Top, Class, MemberBody, Body, Commands}
use Rattle.np_script_grammar.specs.Forms.{Line, Table, only, form_of, IsOf}
use Rattle.np_script_grammar.specs.Rows.{number}
use Rattle.np_script_grammar.specs.Scripts.{alone, place_after, place_behind}
use Rattle.np_script_grammar.specs.Order.{Counts, Standing, at_first, are_few, MayFollow, AreInOrder}
use Rattle.np_script_grammar.specs.Refusals.{standing_behind}
use Rattle.np_script_line_laws.specs.Laws.{last_place}
use Rattle.np_script_line_laws.proofs.Prefixes.{joined_in_order, place_of_standing}
use Rattle.np_script_line_laws.proofs.Clear.{Clear, IsClear, stays_clear, stays_few}

-- a word alone, which a table has
alone_is_of : (table : Table) (word : List ℕ) → form_of table word ≡ Some (only []) → IsOf table (alone word)
alone_is_of table word e = record {
  form = only [];
  listed = e;
  of_form = record { groups = 0; enough = omega arith; each = refl };
  within = record { short = refl; few = omega arith };
}

-- the lines that end a script from a place
abbrev ending : Side → Place → List Line
ending sides.Page Head = (codes "page", number 0 ∷ number 0 ∷ []) ∷ alone (codes "do") ∷ []
ending sides.Page Top = alone (codes "do") ∷ []
ending sides.Page Class = alone (codes "endclass") ∷ alone (codes "do") ∷ []
ending sides.Page MemberBody = alone (codes "end") ∷ alone (codes "endclass") ∷ alone (codes "do") ∷ []
ending sides.Page Body = alone (codes "end") ∷ alone (codes "do") ∷ []
ending sides.Page Commands = []
ending sides.Plug Head = (codes "plugin", number 0 ∷ number 0 ∷ []) ∷ []
ending sides.Plug Top = []
ending sides.Plug Class = alone (codes "endclass") ∷ []
ending sides.Plug MemberBody = alone (codes "end") ∷ alone (codes "endclass") ∷ []
ending sides.Plug Body = alone (codes "end") ∷ []
ending sides.Plug Commands = []

abbrev at : Place → Counts → List (List ℕ) → List (List ℕ) → Standing
at place counts top members = record { place = place; counts = counts; at_top = top; in_class = members }

do_follows : (counts : Counts) (top members : List (List ℕ)) → are_few counts ≡ true → Clear sides.Page Top top members → MayFollow sides.Page (at Top counts top members) (alone (codes "do"))
do_follows counts top members few clear = record { listed = alone_is_of _ (codes "do") refl; few = few; new = clear }

endclass_follows : (side : Side) (counts : Counts) (top members : List (List ℕ)) → are_few counts ≡ true → Clear side Class top members → MayFollow side (at Class counts top members) (alone (codes "endclass"))
endclass_follows side counts top members few clear = record { listed = alone_is_of _ (codes "endclass") refl; few = few; new = clear.1 }

end_of_member : (side : Side) (counts : Counts) (top members : List (List ℕ)) → are_few counts ≡ true → MayFollow side (at MemberBody counts top members) (alone (codes "end"))
end_of_member side counts top members few = record { listed = alone_is_of _ (codes "end") refl; few = few; new = refl }

end_of_body : (side : Side) (counts : Counts) (top members : List (List ℕ)) → are_few counts ≡ true → MayFollow side (at Body counts top members) (alone (codes "end"))
end_of_body side counts top members few = record { listed = alone_is_of _ (codes "end") refl; few = few; new = refl }

ends : (side : Side) (place : Place) (counts : Counts) (top members : List (List ℕ)) → are_few counts ≡ true → Clear side place top members → AreInOrder side (at place counts top members) (ending side place)
ends sides.Page Head counts top members few clear = (
  record { listed = record { form = _; listed = refl; of_form = record { groups = 0; enough = omega arith; each = refl }; within = record { short = refl; few = omega arith } }; few = few; new = refl },
  (do_follows counts top members few clear, tt),
)
ends sides.Page Top counts top members few clear = (do_follows counts top members few clear, tt)
ends sides.Page Class counts top members few clear = (endclass_follows sides.Page counts top members few clear, (do_follows counts top _ few clear.0, tt))
ends sides.Page MemberBody counts top members few clear =
    (end_of_member sides.Page counts top members few, (endclass_follows sides.Page counts top members few clear, (do_follows counts top _ few clear.0, tt)))
ends sides.Page Body counts top members few clear = (end_of_body sides.Page counts top members few, (do_follows counts top members few clear, tt))
ends sides.Page Commands counts top members few clear = tt
ends sides.Plug Head counts top members few clear =
    (record { listed = record { form = _; listed = refl; of_form = record { groups = 0; enough = omega arith; each = refl }; within = record { short = refl; few = omega arith } }; few = few; new = refl }, tt)
ends sides.Plug Top counts top members few clear = tt
ends sides.Plug Class counts top members few clear = (endclass_follows sides.Plug counts top members few clear, tt)
ends sides.Plug MemberBody counts top members few clear = (end_of_member sides.Plug counts top members few, (endclass_follows sides.Plug counts top members few clear, tt))
ends sides.Plug Body counts top members few clear = (end_of_body sides.Plug counts top members few, tt)
ends sides.Plug Commands counts top members few clear = tt

ends_at : (side : Side) (place : Place) (top members : List (List ℕ)) → Clear side place top members → place_behind place (ending side place) ≡ last_place side
ends_at sides.Page Head top members clear = refl
ends_at sides.Page Top top members clear = refl
ends_at sides.Page Class top members clear = refl
ends_at sides.Page MemberBody top members clear = refl
ends_at sides.Page Body top members clear = refl
ends_at sides.Page Commands top members clear = refl
ends_at sides.Plug Head top members clear = refl
ends_at sides.Plug Top top members clear = refl
ends_at sides.Plug Class top members clear = refl
ends_at sides.Plug MemberBody top members clear = refl
ends_at sides.Plug Body top members clear = refl
ends_at sides.Plug Commands top members clear = absurd clear

place_joined : (place : Place) (front rest : List Line) → place_behind place (front ++ rest) ≡ place_behind (place_behind place front) rest
place_joined place [] rest = refl
place_joined place (line ∷ front) rest = place_joined (place_after place line.0) front rest

pub completed : (side : Side) (lines : List Line) → AreInOrder side at_first lines →
    (more : List Line) × AreInOrder side at_first (lines ++ more) × (place_behind Head (lines ++ more) ≡ last_place side)
completed side lines all =
    let s : Standing = standing_behind at_first lines in
    let clear : IsClear side s = stays_clear side at_first lines all refl in
    let few : are_few s.counts ≡ true = stays_few side at_first lines all refl in (
      ending side s.place,
      joined_in_order side at_first lines (ending side s.place) all (ends side s.place s.counts s.at_top s.in_class few clear),
      place_joined Head lines (ending side s.place)
          ∙ ap (λ (place : Place). place_behind place (ending side s.place)) (sym (place_of_standing at_first lines))
          ∙ ends_at side s.place s.at_top s.in_class clear,
    )
