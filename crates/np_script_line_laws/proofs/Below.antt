-- Whatever follows in order follows so too where a script has less already.
use Rattle.std.proofs.Common.{ℕ, ◌+◌, List, [], ◌∷◌, Bool, true, false, if◌then◌else◌, refl, arith}
use Rattle.std.specs.Prelude.{codes, bytes_eq}
use Rattle.np_values.specs.declared.name.Side.{Side}
use Rattle.np_script_grammar.specs.declared.place.Place.{Place}
use Rattle.np_script_grammar.specs.declared.place.Place.TheVariants.{Head, Top, Class, MemberBody, Body, Commands}
use Rattle.np_script_grammar.specs.Forms.{Line}
use Rattle.np_script_grammar.specs.Scripts.{place_after}
use Rattle.np_script_grammar.specs.Order.{Counts, declared_by, counts_after, top_after, class_after, MayFollow, AreInOrder}
use Rattle.np_script_line_laws.proofs.Counting.{Few, IsLower, few_parts, few_whole, lower_top, few_top}
use Rattle.np_script_line_laws.proofs.Alike.{at, Within, within_more, opened_afresh, IsLess, inside_less, inside_follows}
use Rattle.np_script_line_laws.proofs.Leading.{even_after}

-- the second standing has no more than the first, and no more of it is open
pub record IsBelow (place : Place) (c other : Counts) (top tops members others : List (List ℕ)) : Type 0 where
  pub lower : IsLower c other
  pub within : Within top tops
  pub less : IsLess place c other members others

abbrev IsBelowAfter : Place → Counts → Counts → List (List ℕ) → List (List ℕ) → List (List ℕ) → List (List ℕ) → Line → Type 0
IsBelowAfter place c other top tops members others line =
    IsBelow (place_after place line.0) (counts_after place c line) (counts_after place other line) (top_after place top line) (top_after place tops line) (class_after place members line) (class_after place others line)

-- by the test of the word: `create`
create_by : (create : Bool) (c other : Counts) → IsLower c other → IsLower (if create then record c { creates = c.creates + 1 } else c) (if create then record other { creates = other.creates + 1 } else other)
create_by true c other l = record { classes = l.classes; tasks = l.tasks; creates = omega (arith, l.creates); bytes = l.bytes }
create_by false c other l = l

few_create : (create : Bool) (c other : Counts) → IsLower c other → Few other → Few (if create then record c { creates = c.creates + 1 } else c) → Few (if create then record other { creates = other.creates + 1 } else other)
few_create true c other l f g = record { classes = f.classes; members = f.members; actions = f.actions; tasks = f.tasks; creates = omega (arith, l.creates, g.creates); bytes = f.bytes }
few_create false c other l f g = f

few_after : (side : Side) (place : Place) (c other : Counts) (top tops members others : List (List ℕ)) (line : Line) → IsBelow place c other top tops members others
    → MayFollow side (at place c top members) line → Few (counts_after place other line)
few_after side Head c other top tops members others line b may = absurd b.less.open_part
few_after side Top c other top tops members others line b may = few_top line c other (lower_top line c other b.lower) (few_parts _ may.few) b.less.few
few_after side Class c other top tops members others line b may = (inside_less side Class c other top tops members others line tt b.less may).few
few_after side MemberBody c other top tops members others line b may = (inside_less side MemberBody c other top tops members others line tt b.less may).few
few_after side Body c other top tops members others line b may = (inside_less side Body c other top tops members others line tt b.less may).few
few_after side Commands c other top tops members others line b may = few_create (bytes_eq line.0 (codes "create")) c other b.lower b.less.few (few_parts _ may.few)

follows : (side : Side) (place : Place) (c other : Counts) (top tops members others : List (List ℕ)) (line : Line) → IsBelow place c other top tops members others
    → MayFollow side (at place c top members) line → MayFollow side (at place other tops others) line
follows side Head c other top tops members others line b may = absurd b.less.open_part
follows side Top c other top tops members others line b may =
    record { listed = may.listed; few = few_whole _ (few_after side Top c other top tops members others line b may); new = b.within (declared_by line) may.new }
follows side Class c other top tops members others line b may = inside_follows side Class c other top tops members others line tt b.less may
follows side MemberBody c other top tops members others line b may = inside_follows side MemberBody c other top tops members others line tt b.less may
follows side Body c other top tops members others line b may = inside_follows side Body c other top tops members others line tt b.less may
follows side Commands c other top tops members others line b may =
    record { listed = may.listed; few = few_whole _ (few_after side Commands c other top tops members others line b may); new = refl }

lower_inside : (place : Place) (c other : Counts) (line : Line) → IsLower c other → IsLower (counts_after place c line) (counts_after place other line)
lower_inside Head c other line l = l
lower_inside Top c other line l = lower_top line c other l
lower_inside Class c other line l =
    let e = even_after Class c line tt in
    let f = even_after Class other line tt in
    record { classes = omega arith; tasks = omega arith; creates = omega arith; bytes = omega arith }
lower_inside MemberBody c other line l =
    let e = even_after MemberBody c line tt in
    let f = even_after MemberBody other line tt in
    record { classes = omega arith; tasks = omega arith; creates = omega arith; bytes = omega arith }
lower_inside Body c other line l =
    let e = even_after Body c line tt in
    let f = even_after Body other line tt in
    record { classes = omega arith; tasks = omega arith; creates = omega arith; bytes = omega arith }
lower_inside Commands c other line l = create_by (bytes_eq line.0 (codes "create")) c other l

below_after : (side : Side) (place : Place) (c other : Counts) (top tops members others : List (List ℕ)) (line : Line) → IsBelow place c other top tops members others
    → MayFollow side (at place c top members) line → IsBelowAfter place c other top tops members others line
below_after side Head c other top tops members others line b may = absurd b.less.open_part
below_after side Top c other top tops members others line b may = record {
  lower = lower_inside Top c other line b.lower;
  within = within_more top tops (declared_by line ∷ []) b.within;
  less = record { few = few_after side Top c other top tops members others line b may; open_part = opened_afresh line c other };
}
below_after side Class c other top tops members others line b may =
    record { lower = lower_inside Class c other line b.lower; within = b.within; less = inside_less side Class c other top tops members others line tt b.less may }
below_after side MemberBody c other top tops members others line b may =
    record { lower = lower_inside MemberBody c other line b.lower; within = b.within; less = inside_less side MemberBody c other top tops members others line tt b.less may }
below_after side Body c other top tops members others line b may =
    record { lower = lower_inside Body c other line b.lower; within = b.within; less = inside_less side Body c other top tops members others line tt b.less may }
below_after side Commands c other top tops members others line b may = record {
  lower = lower_inside Commands c other line b.lower;
  within = b.within;
  less = record { few = few_after side Commands c other top tops members others line b may; open_part = tt };
}

pub below_in_order : (side : Side) (place : Place) (c other : Counts) (top tops members others : List (List ℕ)) (lines : List Line) → IsBelow place c other top tops members others
    → AreInOrder side (at place c top members) lines → AreInOrder side (at place other tops others) lines
below_in_order side place c other top tops members others [] b all = tt
below_in_order side place c other top tops members others (line ∷ lines) b all = (
  follows side place c other top tops members others line b all.0,
  below_in_order side (place_after place line.0) (counts_after place c line) (counts_after place other line) (top_after place top line) (top_after place tops line) (class_after place members line) (class_after place others line)
      lines (below_after side place c other top tops members others line b all.0) all.1,
)
