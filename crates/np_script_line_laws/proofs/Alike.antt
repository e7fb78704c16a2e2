-- Lines that follow in order do so too where less is there already.
use Rattle.std.proofs.Common.{◌≡◌, ℕ, ◌+◌, ◌≤◌, List, [], ◌∷◌, ◌++◌, Bool, true, false, if◌then◌else◌, ◌||◌, refl, sym, ◌∙◌, arith}
use Rattle.std.specs.Prelude.{codes, bytes_eq}
use Rattle.std.specs.List.{list_any}
use Rattle.std.proofs.lemmas.Bool.{or_parts}
use Rattle.std.proofs.lemmas.List.Folds.{list_any-append}
use Rattle.np_values.specs.declared.name.Side.{Side}
use Rattle.np_script_grammar.specs.declared.place.Place.{Place}
use Rattle.np_script_grammar.specs.declared.place.Place.TheVariants.{Head, Top, Class, MemberBody, Body, Commands}
use Rattle.np_script_grammar.specs.Forms.{Line}
use Rattle.np_script_grammar.specs.Scripts.{place_after, is_member_word}
use Rattle.np_script_grammar.specs.Order.{Counts, Standing, declared_by, counts_at_top, counts_after, resource_bytes, class_after, MayFollow}
use Rattle.np_script_line_laws.proofs.Counting.{Few, few_parts, few_whole, top_counts}
use Rattle.np_script_line_laws.proofs.Clear.{Absent}

abbrev pub at : Place → Counts → List (List ℕ) → List (List ℕ) → Standing
at place counts top members = record { place = place; counts = counts; at_top = top; in_class = members }

-- ---- what was declared

-- what isn't among the first isn't among the second
abbrev pub Within : List (List ℕ) → List (List ℕ) → Type 0
Within declared other = (key : List ℕ) → Absent key declared → Absent key other

neither : (p q : Bool) → p ≡ false → q ≡ false → (p || q) ≡ false
neither true q e f = absurd cc
neither false q e f = f

pub absent_parts : (key : List ℕ) (xs ys : List (List ℕ)) → Absent key (xs ++ ys) → Absent key xs × Absent key ys
absent_parts key xs ys e = or_parts (list_any (bytes_eq key) xs) (list_any (bytes_eq key) ys) (sym (list_any-append (bytes_eq key) xs ys) ∙ e)

pub absent_join : (key : List ℕ) (xs ys : List (List ℕ)) → Absent key xs → Absent key ys → Absent key (xs ++ ys)
absent_join key xs ys e f = list_any-append (bytes_eq key) xs ys ∙ neither (list_any (bytes_eq key) xs) (list_any (bytes_eq key) ys) e f

pub within_more : (declared other more : List (List ℕ)) → Within declared other → Within (declared ++ more) (other ++ more)
within_more declared other more w key e = let parts = absent_parts key declared more e in absent_join key other more (w key parts.0) parts.1

pub within_front : (declared more : List (List ℕ)) → Within (declared ++ more) declared
within_front declared more key e = (absent_parts key declared more e).0

-- in another order
pub within_turned : (xs ys zs : List (List ℕ)) → Within ((xs ++ ys) ++ zs) ((xs ++ zs) ++ ys)
within_turned xs ys zs key e =
    let last = absent_parts key (xs ++ ys) zs e in
    let first = absent_parts key xs ys last.0 in
    absent_join key (xs ++ zs) ys (absent_join key xs zs first.0 last.1) first.1

-- ---- what is open

-- at the second of two standings no more was opened than at the first
abbrev pub IsLessOpen : Place → Counts → Counts → List (List ℕ) → List (List ℕ) → Type 0
IsLessOpen Head c other members others = ⊥
IsLessOpen Top c other members others = Unit {0}
IsLessOpen Class c other members others = (other.members ≤ c.members) × Within members others
IsLessOpen MemberBody c other members others = (other.members ≤ c.members) × Within members others × (other.actions ≤ c.actions)
IsLessOpen Body c other members others = other.actions ≤ c.actions
IsLessOpen Commands c other members others = Unit {0}

-- by the tests of the word of a line at the top: a class, task or handler is opened afresh
open_by : (class task handler resource commands : Bool) (size : ℕ) (c other : Counts)
    → IsLessOpen (if class then Class else if handler || task then Body else if commands then Commands else Top) (top_counts class task handler resource size c) (top_counts class task handler resource size other) [] []
open_by true task handler resource commands size c other = (omega arith, λ key e. e)
open_by false true true resource commands size c other = omega arith
open_by false true false resource commands size c other = omega arith
open_by false false true resource commands size c other = omega arith
open_by false false false resource true size c other = tt
open_by false false false resource false size c other = tt

pub opened_afresh : (line : Line) (c other : Counts) → IsLessOpen (place_after Top line.0) (counts_at_top c line) (counts_at_top other line) [] []
opened_afresh line c other =
    open_by (bytes_eq line.0 (codes "class")) (bytes_eq line.0 (codes "task")) (bytes_eq line.0 (codes "handler")) (bytes_eq line.0 (codes "resource")) (bytes_eq line.0 (codes "do")) (resource_bytes line.1) c other

-- ---- inside a class or a body

abbrev pub IsInside : Place → Type 0
IsInside Head = ⊥
IsInside Top = ⊥
IsInside Class = Unit {0}
IsInside MemberBody = Unit {0}
IsInside Body = Unit {0}
IsInside Commands = ⊥

-- at the second standing few are there, and no more was opened
pub record IsLess (place : Place) (c other : Counts) (members others : List (List ℕ)) : Type 0 where
  pub few : Few other
  pub open_part : IsLessOpen place c other members others

-- by the tests of the word: members and `endclass`
in_class_by : (member ends : Bool) (c other : Counts) (members others : List (List ℕ)) (key : List ℕ) → Few (if member then record c { members = c.members + 1; actions = 0 } else c) → IsLess Class c other members others
    → IsLess (if member then MemberBody else if ends then Top else Class) (if member then record c { members = c.members + 1; actions = 0 } else c)
    (if member then record other { members = other.members + 1; actions = 0 } else other) (members ++ key ∷ []) (others ++ key ∷ [])
in_class_by true ends c other members others key few less = record {
  few = record { classes = less.few.classes; members = omega (arith, few.members, less.open_part.0); actions = omega arith; tasks = less.few.tasks; creates = less.few.creates; bytes = less.few.bytes };
  open_part = (omega (arith, less.open_part.0), within_more members others (key ∷ []) less.open_part.1, omega arith);
}
in_class_by false true c other members others key few less = record { few = less.few; open_part = tt }
in_class_by false false c other members others key few less = record { few = less.few; open_part = (less.open_part.0, within_more members others (key ∷ []) less.open_part.1) }

in_member_by : (ends : Bool) (c other : Counts) (members others : List (List ℕ)) → Few (if ends then c else record c { actions = c.actions + 1 }) → IsLess MemberBody c other members others
    → IsLess (if ends then Class else MemberBody) (if ends then c else record c { actions = c.actions + 1 }) (if ends then other else record other { actions = other.actions + 1 }) members others
in_member_by true c other members others few less = record { few = less.few; open_part = (less.open_part.0, less.open_part.1) }
in_member_by false c other members others few less = record {
  few = record { classes = less.few.classes; members = less.few.members; actions = omega (arith, few.actions, less.open_part.2); tasks = less.few.tasks; creates = less.few.creates; bytes = less.few.bytes };
  open_part = (less.open_part.0, less.open_part.1, omega (arith, less.open_part.2));
}

in_body_by : (ends : Bool) (c other : Counts) (members others : List (List ℕ)) → Few (if ends then c else record c { actions = c.actions + 1 }) → IsLess Body c other members others
    → IsLess (if ends then Top else Body) (if ends then c else record c { actions = c.actions + 1 }) (if ends then other else record other { actions = other.actions + 1 }) members others
in_body_by true c other members others few less = record { few = less.few; open_part = tt }
in_body_by false c other members others few less = record {
  few = record { classes = less.few.classes; members = less.few.members; actions = omega (arith, few.actions, less.open_part); tasks = less.few.tasks; creates = less.few.creates; bytes = less.few.bytes };
  open_part = omega (arith, less.open_part);
}

-- what a line leaves less
abbrev pub LeavesLess : Place → Counts → Counts → List (List ℕ) → List (List ℕ) → Line → Type 0
LeavesLess place c other members others line =
    IsLess (place_after place line.0) (counts_after place c line) (counts_after place other line) (class_after place members line) (class_after place others line)

pub inside_less : (side : Side) (place : Place) (c other : Counts) (top tops members others : List (List ℕ)) (line : Line) → IsInside place → IsLess place c other members others
    → MayFollow side (at place c top members) line → LeavesLess place c other members others line
inside_less side Head c other top tops members others line inside less may = absurd inside
inside_less side Top c other top tops members others line inside less may = absurd inside
inside_less side Class c other top tops members others line inside less may =
    in_class_by (is_member_word line.0) (bytes_eq line.0 (codes "endclass")) c other members others (declared_by line) (few_parts _ may.few) less
inside_less side MemberBody c other top tops members others line inside less may = in_member_by (bytes_eq line.0 (codes "end")) c other members others (few_parts _ may.few) less
inside_less side Body c other top tops members others line inside less may = in_body_by (bytes_eq line.0 (codes "end")) c other members others (few_parts _ may.few) less
inside_less side Commands c other top tops members others line inside less may = absurd inside

pub inside_follows : (side : Side) (place : Place) (c other : Counts) (top tops members others : List (List ℕ)) (line : Line) → IsInside place → IsLess place c other members others
    → MayFollow side (at place c top members) line → MayFollow side (at place other tops others) line
inside_follows side Head c other top tops members others line inside less may = absurd inside
inside_follows side Top c other top tops members others line inside less may = absurd inside
inside_follows side Class c other top tops members others line inside less may =
    record { listed = may.listed; few = few_whole _ (inside_less side Class c other top tops members others line inside less may).few; new = less.open_part.1 (declared_by line) may.new }
inside_follows side MemberBody c other top tops members others line inside less may =
    record { listed = may.listed; few = few_whole _ (inside_less side MemberBody c other top tops members others line inside less may).few; new = refl }
inside_follows side Body c other top tops members others line inside less may =
    record { listed = may.listed; few = few_whole _ (inside_less side Body c other top tops members others line inside less may).few; new = refl }
inside_follows side Commands c other top tops members others line inside less may = absurd inside
