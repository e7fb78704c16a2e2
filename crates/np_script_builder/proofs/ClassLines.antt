-- The lines of a class, as it grows.
use Rattle.std.proofs.Common.{◌≡◌, ℕ, List, [], ◌∷◌, ◌++◌, length, Bool, true, false, ◌||◌, refl, ap, sym, ◌∙◌, append_assoc, append-nil}
use Rattle.std.specs.Prelude.{codes, bytes_eq}
use Rattle.std.specs.List.{list_any}
use Rattle.std.proofs.lemmas.List.Folds.{list_any-append}
use Rattle.std.proofs.lemmas.Grind.{flat_map-append}
use Rattle.std.proofs.Math.Seq.{take-append_seam, drop-append_seam}
use Rattle.np_script_grammar.specs.declared.class.Member.{Member}
use Rattle.np_script_grammar.specs.declared.class.ClassDef.{ClassDef}
use Rattle.np_script_grammar.specs.Forms.{Line}
use Rattle.np_script_grammar.specs.Scripts.{alone, class_opening, class_lines, member_lines}
use Rattle.np_script_builder.proofs.SaidSoFar.{class_so_far}

-- a member more
pub one_member : (early late : List Member) (class : ClassDef) (member : Member) (longer : List Member) → class_so_far early late class ++ member_lines member ≡ class_so_far early (late ++ member ∷ []) (record class { members = longer })
one_member early late class member longer = simp (append_assoc, flat_map-append, append-nil)

-- the line `data`
pub data_stored : (early late : List Member) (class : ClassDef) → class.stored ≡ false → class_so_far early late class ++ alone (codes "data") ∷ [] ≡ class_so_far (early ++ late) [] (record class { stored = true })
data_stored early late class e = rw e (ap (λ (l : List Line). class_opening class ∷ (l ++ alone (codes "data") ∷ [])) (sym (flat_map-append member_lines early late)))

-- the line `endclass`
pub class_ended : (early late : List Member) (class : ClassDef) → class.members ≡ early ++ late → class_so_far early late class ++ alone (codes "endclass") ∷ [] ≡ class_lines (length early) class
class_ended early late class e = rw (e, take-append_seam early late, drop-append_seam early late) (simp append_assoc)

-- what was declared stays declared
pub stays_noted : (word more : List ℕ) (declared : List (List ℕ)) → list_any (bytes_eq word) declared ≡ true → list_any (bytes_eq word) (declared ++ more ∷ []) ≡ true
stays_noted word more declared e = list_any-append (bytes_eq word) declared (more ∷ []) ∙ rw e refl

or_true : (t u : Bool) → u ≡ true → (t || u) ≡ true
or_true true u e = refl
or_true false u e = e

pub now_noted : (word : List ℕ) (declared : List (List ℕ)) → bytes_eq word word ≡ true → list_any (bytes_eq word) (declared ++ word ∷ []) ≡ true
now_noted word [] e = rw e refl
now_noted word (first ∷ declared) e = or_true (bytes_eq word first) (list_any (bytes_eq word) (declared ++ word ∷ [])) (now_noted word declared e)
