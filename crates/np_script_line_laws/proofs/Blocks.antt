-- Two declarations that follow each other may change places.
use Rattle.std.proofs.Common.{◌≡◌, ℕ, List, [], ◌∷◌, ◌++◌, Bool, true, false, ◌||◌, refl, ap, sym, ◌∙◌, subst, true≢false, arith}
use Rattle.std.specs.Prelude.{bytes_eq}
use Rattle.std.proofs.lemmas.Slice.Eq.{bytes_eq-Decides}
use Rattle.np_values.specs.declared.name.Side.{Side}
use Rattle.np_script_grammar.specs.declared.place.Place.{Place}
use Rattle.np_script_grammar.specs.declared.place.Place.TheVariants.{Top}
use Rattle.np_script_grammar.specs.Forms.{Line}
use Rattle.np_script_grammar.specs.Scripts.{place_after}
use Rattle.np_script_grammar.specs.Order.{Counts, Standing, declared_by, counts_at_top, standing_after, AreInOrder}
use Rattle.np_script_grammar.specs.Refusals.{standing_behind}
use Rattle.np_script_line_laws.proofs.Prefixes.{front_in_order, joined_in_order}
use Rattle.np_script_line_laws.proofs.Clear.{Absent, stays_few}
use Rattle.np_script_line_laws.proofs.Counting.{Few, IsLower, few_parts, few_whole, adds, stays_small}
use Rattle.np_script_line_laws.proofs.Alike.{at, absent_parts, absent_join, within_turned, opened_afresh}
use Rattle.np_script_line_laws.proofs.Leading.{Leads, IsEven, inside_in_order, even_behind, top_behind, place_led_to}
use Rattle.np_script_line_laws.proofs.Below.{below_in_order}

pub rest_in_order : (side : Side) (s : Standing) (front rest : List Line) → AreInOrder side s (front ++ rest) → AreInOrder side (standing_behind s front) rest
rest_in_order side s [] rest all = all
rest_in_order side s (line ∷ front) rest all = rest_in_order side (standing_after s line) front rest all.1

-- the lines stand inside what the opening line opens
abbrev pub IsBlock : Line → List Line → Type 0
IsBlock opening inner = Leads (place_after Top opening.0) inner Top

-- where a script stands behind a block
pub record IsBehind (c : Counts) (top : List (List ℕ)) (opening : Line) (s : Standing) : Type 0 where
  pub place : s.place ≡ Top
  pub even : IsEven (counts_at_top c opening) s.counts
  pub declared : s.at_top ≡ top ++ declared_by opening ∷ []
  pub few : Few s.counts

pub behind : (side : Side) (c : Counts) (top members : List (List ℕ)) (opening : Line) (inner : List Line) → IsBlock opening inner → Few c → AreInOrder side (at Top c top members) (opening ∷ inner)
    → IsBehind c top opening (standing_behind (at Top c top members) (opening ∷ inner))
behind side c top members opening inner block few all =
    let place : Place = place_after Top opening.0 in
    let counts : Counts = counts_at_top c opening in
    let declared : List (List ℕ) = top ++ declared_by opening ∷ [] in
    record {
      place = place_led_to place Top counts declared [] inner block;
      even = even_behind place Top counts declared [] inner block;
      declared = top_behind place Top counts declared [] inner block;
      few = few_parts _ (stays_few side (at Top c top members) (opening ∷ inner) all (few_whole c few));
    }

abbrev pub AtTop : Counts → List (List ℕ) → Line → Standing → Standing
AtTop c top opening s = at Top s.counts (top ++ declared_by opening ∷ []) s.in_class

same_standing : (c : Counts) (top : List (List ℕ)) (opening : Line) (s : Standing) → IsBehind c top opening s → s ≡ AtTop c top opening s
same_standing c top opening s b =
    ap (λ (p : Place). at p s.counts s.at_top s.in_class) b.place ∙ ap (λ (declared : List (List ℕ)). at Top s.counts declared s.in_class) b.declared

pub to_top : (side : Side) (c : Counts) (top : List (List ℕ)) (opening : Line) (s : Standing) (lines : List Line) → IsBehind c top opening s → AreInOrder side s lines → AreInOrder side (AtTop c top opening s) lines
to_top side c top opening s lines b all = subst (λ (x : Standing). AreInOrder side x lines) (same_standing c top opening s b) all

pub from_top : (side : Side) (c : Counts) (top : List (List ℕ)) (opening : Line) (s : Standing) (lines : List Line) → IsBehind c top opening s → AreInOrder side (AtTop c top opening s) lines → AreInOrder side s lines
from_top side c top opening s lines b all = subst (λ (x : Standing). AreInOrder side x lines) (sym (same_standing c top opening s b)) all

-- a block may stand where its opening line may
elsewhere : (side : Side) (c other : Counts) (top tops members others : List (List ℕ)) (opening : Line) (inner : List Line) → IsBlock opening inner → Few (counts_at_top other opening) → Absent (declared_by opening) tops
    → AreInOrder side (at Top c top members) (opening ∷ inner) → AreInOrder side (at Top other tops others) (opening ∷ inner)
elsewhere side c other top tops members others opening inner block few new all = (
  record { listed = all.0.listed; few = few_whole _ few; new = new },
  inside_in_order side (place_after Top opening.0) Top (counts_at_top c opening) (counts_at_top other opening) (top ++ declared_by opening ∷ []) (tops ++ declared_by opening ∷ []) [] [] inner block
      (record { few = few; open_part = opened_afresh opening c other }) all.1,
)

turned : (a b : List ℕ) → Absent a (b ∷ []) → Absent b (a ∷ [])
turned a b e = by (bytes_eq b a) refl
  where
    by : (t : Bool) → bytes_eq b a ≡ t → (t || false) ≡ false
    by true f = absurd (true≢false (sym (ap (λ (p : Bool). p || false) ((bytes_eq-Decides a b).1 (sym ((bytes_eq-Decides b a).0 f)))) ∙ e))
    by false f = refl

-- the two openings, one behind the other: few in one order is few in the other
few_alone : (c first : Counts) (one two : Line) → Few c → IsEven (counts_at_top c one) first → Few (counts_at_top first two) → Few (counts_at_top c two)
few_alone c first one two few even both =
    let a = adds one c in
    let b = adds two c in
    let d = adds two first in
    let small = stays_small two c few in
    record { classes = omega (arith, even.classes, both.classes); members = small.0; actions = small.1; tasks = omega (arith, even.tasks, both.tasks); creates = omega (arith, even.creates, both.creates); bytes = omega (arith, even.bytes, both.bytes) }

few_second : (c first second : Counts) (one two : Line) → IsEven (counts_at_top c one) first → IsEven (counts_at_top c two) second → Few second → Few (counts_at_top first two) → Few (counts_at_top second one)
few_second c first second one two e f few both =
    let a = adds one c in
    let b = adds two c in
    let d = adds two first in
    let g = adds one second in
    let small = stays_small one second few in
    record { classes = omega (arith, e.classes, f.classes, both.classes); members = small.0; actions = small.1; tasks = omega (arith, e.tasks, f.tasks, both.tasks); creates = omega (arith, e.creates, f.creates, both.creates); bytes = omega (arith, e.bytes, f.bytes, both.bytes) }

lower_both : (c first second last other : Counts) (one two : Line) → IsEven (counts_at_top c one) first → IsEven (counts_at_top c two) second → IsEven (counts_at_top first two) last → IsEven (counts_at_top second one) other
    → IsLower last other
lower_both c first second last other one two e f g h =
    let a = adds one c in
    let b = adds two c in
    let d = adds two first in
    let k = adds one second in
    record { classes = omega (arith, e.classes, f.classes, g.classes, h.classes); tasks = omega (arith, e.tasks, f.tasks, g.tasks, h.tasks); creates = omega (arith, e.creates, f.creates, g.creates, h.creates); bytes = omega (arith, e.bytes, f.bytes, g.bytes, h.bytes) }

pub swapped : (side : Side) (c : Counts) (top members : List (List ℕ)) (one two : Line) (within others rest : List Line) → IsBlock one within → IsBlock two others → Few c
    → AreInOrder side (at Top c top members) ((one ∷ within) ++ ((two ∷ others) ++ rest)) → AreInOrder side (at Top c top members) ((two ∷ others) ++ ((one ∷ within) ++ rest))
swapped side c top members one two within others rest block next few all =
    let s : Standing = at Top c top members in
    let a : AreInOrder side s (one ∷ within) = front_in_order side s (one ∷ within) ((two ∷ others) ++ rest) all in
    let first : Standing = standing_behind s (one ∷ within) in
    let b : IsBehind c top one first = behind side c top members one within block few a in
    let behind_first : AreInOrder side (AtTop c top one first) ((two ∷ others) ++ rest) = to_top side c top one first ((two ∷ others) ++ rest) b (rest_in_order side s (one ∷ within) ((two ∷ others) ++ rest) all) in
    let d : AreInOrder side (AtTop c top one first) (two ∷ others) = front_in_order side (AtTop c top one first) (two ∷ others) rest behind_first in
    let last : Standing = standing_behind (AtTop c top one first) (two ∷ others) in
    let e : IsBehind first.counts (top ++ declared_by one ∷ []) two last = behind side first.counts (top ++ declared_by one ∷ []) first.in_class two others next b.few d in
    let both : Few (counts_at_top first.counts two) = few_parts _ d.0.few in
    let apart = absent_parts (declared_by two) top (declared_by one ∷ []) d.0.new in
    let f : AreInOrder side s (two ∷ others) = elsewhere side first.counts c (top ++ declared_by one ∷ []) top first.in_class members two others next (few_alone c first.counts one two few b.even both) apart.0 d in
    let second : Standing = standing_behind s (two ∷ others) in
    let g : IsBehind c top two second = behind side c top members two others next few f in
    let h : AreInOrder side (AtTop c top two second) (one ∷ within) =
    elsewhere side c second.counts top (top ++ declared_by two ∷ []) members second.in_class one within block (few_second c first.counts second.counts one two b.even g.even g.few both)
    (absent_join (declared_by one) top (declared_by two ∷ []) a.0.new (turned (declared_by two) (declared_by one) apart.1)) a in
    let end : Standing = standing_behind (AtTop c top two second) (one ∷ within) in
    let k : IsBehind second.counts (top ++ declared_by two ∷ []) one end = behind side second.counts (top ++ declared_by two ∷ []) second.in_class one within block g.few h in
    let tail : AreInOrder side (AtTop second.counts (top ++ declared_by two ∷ []) one end) rest =
    below_in_order side Top last.counts end.counts ((top ++ declared_by one ∷ []) ++ declared_by two ∷ []) ((top ++ declared_by two ∷ []) ++ declared_by one ∷ []) last.in_class end.in_class rest
    (record {
      lower = lower_both c first.counts second.counts last.counts end.counts one two b.even g.even e.even k.even;
      within = within_turned top (declared_by one ∷ []) (declared_by two ∷ []);
      less = record { few = k.few; open_part = tt };
    })
    (to_top side first.counts (top ++ declared_by one ∷ []) two last rest e (rest_in_order side (AtTop c top one first) (two ∷ others) rest behind_first)) in
    joined_in_order side s (two ∷ others) ((one ∷ within) ++ rest) f
    (from_top side c top two second ((one ∷ within) ++ rest) g
    (joined_in_order side (AtTop c top two second) (one ∷ within) rest h
    (from_top side second.counts (top ++ declared_by two ∷ []) one end rest k tail)))
