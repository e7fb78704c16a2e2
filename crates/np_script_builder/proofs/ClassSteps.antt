-- The lines between the members of a class.
use Rattle.std.proofs.Common.{◌≡◌, ℕ, List, [], ◌∷◌, ◌++◌, length, Bool, true, false, refl, ap, sym, ◌∙◌, map, append_assoc, append-nil, arith}
use Rattle.std.specs.Prelude.{codes, bytes_eq}
use Rattle.std.specs.List.{list_any, AllByRecursion}
use Rattle.std.proofs.lemmas.Bool.Decides.{nat_tests}
use Rattle.std.proofs.lemmas.Bool.{and_parts}
use Rattle.np_values.specs.declared.name.Side.{Side}
use Rattle.np_script_grammar.specs.declared.class.Member.{Member}
use Rattle.np_script_grammar.specs.declared.class.Member.TheVariants as members
use Rattle.np_script_grammar.specs.declared.class.ClassDef.{ClassDef}
use Rattle.np_script_grammar.specs.declared.place.Place.TheVariants.{Class}
use Rattle.np_script_grammar.specs.declared.line.Item.TheVariants as items
use Rattle.np_script_grammar.specs.declared.line.Field.{Field}
use Rattle.np_script_grammar.specs.declared.line.Field.TheVariants.{Identifier}
use Rattle.np_script_grammar.specs.Forms.{Line, are_of, IsOf}
use Rattle.np_script_grammar.specs.Tables.{class_table}
use Rattle.np_script_grammar.specs.Rows.{action_line}
use Rattle.np_script_grammar.specs.Scripts.{OfClass as ClassDeclared, alone, class_lines, member_opening, member_body}
use Rattle.np_script_grammar.specs.Order.{is_among}
use Rattle.np_script_builder.proofs.FormFields.{without_groups}
use Rattle.np_script_builder.specs.declared.state.Unfinished.{Unfinished}
use Rattle.np_script_builder.specs.declared.state.Unfinished.TheVariants.{Nothing, OfClass, OfMember}
use Rattle.np_script_builder.specs.declared.state.Building.{Building}
use Rattle.np_script_builder.specs.Building.{built_after}
use Rattle.np_script_builder.proofs.ByRows.{RowHas, by_rows}
use Rattle.np_script_builder.proofs.SaidSoFar.{OpenClass, SaysClass, SaysMember, class_so_far}
use Rattle.np_script_builder.proofs.Declared.{declares_more}
use Rattle.np_script_builder.proofs.ClassLines.{data_stored, class_ended, stays_noted, now_noted}
use Rattle.np_script_builder.proofs.TopSteps.{Goes}

-- the class is open as before, whatever else is unfinished, and with one line more among those of the class
pub still_open : (side : Side) (class : ClassDef) (in_class : List (List ℕ)) (b : Building) (lines : List Line) (unfinished : Unfinished) (more : List ℕ) → OpenClass side class in_class b lines
    → OpenClass side class (in_class ++ more ∷ []) (record b { unfinished = unfinished }) lines
still_open side class in_class b lines unfinished more said = record {
  front = said.front;
  early = said.early;
  late = said.late;
  members_are = said.members_are;
  lines_are = said.lines_are;
  declares = said.declares;
  no_commands = said.no_commands;
  noted = λ e. stays_noted (codes "data") more in_class (said.noted e);
}

-- a member is opened by this line
opens : (side : Side) (in_class : List (List ℕ)) (b : Building) (lines : List Line) (said : SaysClass side in_class b lines) (member : Member) (line : Line) (more : List ℕ)
    → line ∷ [] ≡ member_opening member ∷ map action_line (member_body member) → SaysMember side (in_class ++ more ∷ []) (record b { unfinished = OfMember said.class member }) (lines ++ line ∷ [])
opens side in_class b lines said member line more e = record {
  class = said.class;
  member = member;
  before = lines;
  unfinished_is = refl;
  opened = still_open side said.class in_class b lines (OfMember said.class member) more said.opened;
  lines_are = ap (λ (l : List Line). lines ++ l) e;
}

-- the line isn't declared again, and goes on
abbrev GoesOnce : Side → List (List ℕ) → Building → List Line → List ℕ → List Field → Type 0
GoesOnce side in_class b lines word fields = is_among in_class (word, fields) ≡ false → Goes side Class in_class b lines word fields

method_row : (side : Side) (in_class : List (List ℕ)) (b : Building) (lines : List Line) → SaysClass side in_class b lines → (fields : List Field) → are_of (items.Identifier ∷ []) fields ≡ true
    → GoesOnce side in_class b lines (codes "method") fields
unfolding built_after
method_row side in_class b lines said (Identifier key ∷ []) e new =
    record {
      next = record b { unfinished = OfMember said.class (members.Method key []) };
      gives = rw said.unfinished_is refl;
      says = opens side in_class b lines said (members.Method key []) _ _ refl;
    }
method_row side in_class b lines said fields e new = absurd (grind (arith, nat_tests, and_parts))

default_row : (side : Side) (in_class : List (List ℕ)) (b : Building) (lines : List Line) → SaysClass side in_class b lines → (fields : List Field) → are_of [] fields ≡ true
    → GoesOnce side in_class b lines (codes "default") fields
unfolding built_after
default_row side in_class b lines said [] e new =
    record {
      next = record b { unfinished = OfMember said.class (members.Default []) };
      gives = rw said.unfinished_is refl;
      says = opens side in_class b lines said (members.Default []) _ _ refl;
    }
default_row side in_class b lines said fields e new = absurd (grind (arith, nat_tests, and_parts))

construct_row : (side : Side) (in_class : List (List ℕ)) (b : Building) (lines : List Line) → SaysClass side in_class b lines → (fields : List Field) → are_of [] fields ≡ true
    → GoesOnce side in_class b lines (codes "construct") fields
unfolding built_after
construct_row side in_class b lines said [] e new =
    record {
      next = record b { unfinished = OfMember said.class (members.Construct []) };
      gives = rw said.unfinished_is refl;
      says = opens side in_class b lines said (members.Construct []) _ _ refl;
    }
construct_row side in_class b lines said fields e new = absurd (grind (arith, nat_tests, and_parts))

getter_row : (side : Side) (in_class : List (List ℕ)) (b : Building) (lines : List Line) → SaysClass side in_class b lines → (fields : List Field) → are_of (items.Identifier ∷ []) fields ≡ true
    → GoesOnce side in_class b lines (codes "getter") fields
unfolding built_after
getter_row side in_class b lines said (Identifier key ∷ []) e new =
    record {
      next = record b { unfinished = OfMember said.class (members.Getter key []) };
      gives = rw said.unfinished_is refl;
      says = opens side in_class b lines said (members.Getter key []) _ _ refl;
    }
getter_row side in_class b lines said fields e new = absurd (grind (arith, nat_tests, and_parts))

setter_row : (side : Side) (in_class : List (List ℕ)) (b : Building) (lines : List Line) → SaysClass side in_class b lines → (fields : List Field) → are_of (items.Identifier ∷ []) fields ≡ true
    → GoesOnce side in_class b lines (codes "setter") fields
unfolding built_after
setter_row side in_class b lines said (Identifier key ∷ []) e new =
    record {
      next = record b { unfinished = OfMember said.class (members.Setter key []) };
      gives = rw said.unfinished_is refl;
      says = opens side in_class b lines said (members.Setter key []) _ _ refl;
    }
setter_row side in_class b lines said fields e new = absurd (grind (arith, nat_tests, and_parts))

not_stored : (t : Bool) (noted : Bool) → (t ≡ true → noted ≡ true) → noted ≡ false → t ≡ false
not_stored true noted h e = sym (h refl) ∙ e
not_stored false noted h e = refl

data_row : (side : Side) (in_class : List (List ℕ)) (b : Building) (lines : List Line) → SaysClass side in_class b lines → (fields : List Field) → are_of [] fields ≡ true
    → GoesOnce side in_class b lines (codes "data") fields
unfolding built_after
data_row side in_class b lines said [] e new =
    let open_class = said.opened in
    let unstored : said.class.stored ≡ false = not_stored said.class.stored (list_any (bytes_eq (codes "data")) in_class) open_class.noted new in
    record {
      next = record b { unfinished = OfClass (record said.class { stored = true }) };
      gives = rw said.unfinished_is refl;
      says = record {
        class = record said.class { stored = true };
        unfinished_is = refl;
        opened = record {
          front = open_class.front;
          early = open_class.early ++ open_class.late;
          late = [];
          members_are = open_class.members_are ∙ sym (append-nil (open_class.early ++ open_class.late));
          lines_are = ap (λ (l : List Line). l ++ alone (codes "data") ∷ []) open_class.lines_are
              ∙ (append_assoc open_class.front (class_so_far open_class.early open_class.late said.class) (alone (codes "data") ∷ [])
              ∙ ap (λ (l : List Line). open_class.front ++ l) (data_stored open_class.early open_class.late said.class unstored));
          declares = open_class.declares;
          no_commands = open_class.no_commands;
          noted = λ f. now_noted (codes "data") in_class refl;
        };
      };
    }
data_row side in_class b lines said fields e new = absurd (grind (arith, nat_tests, and_parts))

endclass_row : (side : Side) (in_class : List (List ℕ)) (b : Building) (lines : List Line) → SaysClass side in_class b lines → (fields : List Field) → are_of [] fields ≡ true
    → GoesOnce side in_class b lines (codes "endclass") fields
unfolding built_after
endclass_row side in_class b lines said [] e new =
    let open_class = said.opened in
    let ended : lines ++ alone (codes "endclass") ∷ [] ≡ open_class.front ++ class_lines (length open_class.early) said.class =
    ap (λ (l : List Line). l ++ alone (codes "endclass") ∷ []) open_class.lines_are
    ∙ (append_assoc open_class.front (class_so_far open_class.early open_class.late said.class) (alone (codes "endclass") ∷ [])
    ∙ ap (λ (l : List Line). open_class.front ++ l) (class_ended open_class.early open_class.late said.class open_class.members_are)) in
    record {
      next = record b { classes = b.classes ++ said.class ∷ []; unfinished = Nothing };
      gives = rw said.unfinished_is refl;
      says = record {
        declares = declares_more side b.major b.minor b.classes (b.classes ++ said.class ∷ []) b.resources b.resources b.handlers b.handlers b.tasks b.tasks open_class.front _ (ClassDeclared (length open_class.early) said.class)
            open_class.declares refl (append-nil b.resources) (append-nil b.handlers) (append-nil b.tasks) ended tt;
        no_commands = open_class.no_commands;
      };
    }
endclass_row side in_class b lines said fields e new = absurd (grind (arith, nat_tests, and_parts))

class_rows : (side : Side) (in_class : List (List ℕ)) (b : Building) (lines : List Line) → SaysClass side in_class b lines → AllByRecursion (RowHas (GoesOnce side in_class b lines)) class_table
class_rows side in_class b lines said = (
  λ fields h. data_row side in_class b lines said fields (without_groups [] fields h),
  (
    λ fields h. method_row side in_class b lines said fields (without_groups (items.Identifier ∷ []) fields h),
    (
      λ fields h. default_row side in_class b lines said fields (without_groups [] fields h),
      (
        λ fields h. construct_row side in_class b lines said fields (without_groups [] fields h),
        (
          λ fields h. getter_row side in_class b lines said fields (without_groups (items.Identifier ∷ []) fields h),
          (
            λ fields h. setter_row side in_class b lines said fields (without_groups (items.Identifier ∷ []) fields h),
            (λ fields h. endclass_row side in_class b lines said fields (without_groups [] fields h), tt),
          ),
        ),
      ),
    ),
  ),
)

pub class_step : (side : Side) (in_class : List (List ℕ)) (b : Building) (lines : List Line) (word : List ℕ) (fields : List Field) → SaysClass side in_class b lines → IsOf class_table (word, fields)
    → is_among in_class (word, fields) ≡ false → Goes side Class in_class b lines word fields
class_step side in_class b lines word fields said is = by_rows (GoesOnce side in_class b lines) class_table (class_rows side in_class b lines said) word fields is
