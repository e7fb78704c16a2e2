-- Exports whose list was changed, and the counts that are left.
use Rattle.std.proofs.Common.{◌≡◌, ◌-◌, ◌≤◌, ℕ, nat_eq, eq-eqb, List, [], ◌∷◌, Bool, true, false, ap, ◌∙◌, refl, arith}
use Rattle.np_values.specs.declared.name.Side.{Side}
use Rattle.np_proxy.specs.declared.export.Export.{Export}
use Rattle.np_values.specs.declared.name.Name.{Name}
use Rattle.np_proxy.specs.Named.{is_same, named_at, at_name}
use Rattle.np_proxy.proofs.Names.{number-is}
use Rattle.np_proxy.specs.Exports.{Exported, export_name, count_of, taken_back, out_of, released}

exported : Side → List Export → Exported
exported side objects = record { side = side; objects = objects }

pub joined : (side : Side) (es l m : List Export) (now : Exported) → record { side = side; objects = es } ≡ now → l ≡ m → record { side = side; objects = l } ≡ record now { objects = m }
unfolding exported
joined side es l m now v e =
    let s : exported side l ≡ exported now.side l = ap (λ (t : Side). exported t l) (ap (λ (n : Exported). n.side) v) in
    let o : exported now.side l ≡ exported now.side m = ap (λ (k : List Export). exported now.side k) e in
    s ∙ o

count-taken_back : (x : Name) (n : ℕ) (es : List Export) → count_of (named_at export_name x (at_name export_name x (taken_back n) es)) ≡ count_of (named_at export_name x es) - n
count-taken_back x n [] = omega arith
count-taken_back x n (e ∷ es) = go (is_same x e.name) refl (count-taken_back x n es)
  where
    go : (b : Bool) → is_same x e.name ≡ b → count_of (named_at export_name x (at_name export_name x (taken_back n) es)) ≡ count_of (named_at export_name x es) - n → count_of (named_at export_name x (at_name export_name x (taken_back n) (e ∷ es))) ≡ count_of (named_at export_name x (e ∷ es)) - n
    go true q ih = simp (q, q) refl
    go false q ih = simp (q, q) ih

pub out-released : (x : Name) (n : ℕ) (exports : Exported) → out_of (released x n exports) x ≡ out_of exports x - n
out-released x n exports = count-taken_back x n exports.objects

-- none is left exactly where as many came back as were out
pub tells-last : (left old n m out : ℕ) → left ≡ old - n → out ≡ old → m ≡ n → n ≤ out → (nat_eq m out ≡ true → left ≡ 0) × (left ≡ 0 → nat_eq m out ≡ true)
tells-last left old n m out l o s le =
    (λ t. let e = number-is m out t in omega (arith, l, o, s, le, e), λ z. eq-eqb m out (omega (arith, l, o, s, le, z)))
