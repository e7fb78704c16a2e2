-- What each step of a search by halves knows.
use Rattle.std.proofs.Common.{◌≡◌, ℕ, ◌+◌, ◌-◌, ◌<◌, ◌≤◌, List, length, get_or, Bool, true, false, refl, sym, ap, ◌∙◌, arith, true≢false}
use Rattle.std.specs.Prelude.{◌/◌, if◌then◌else◌}
use Rattle.std.specs.List.Sorted.{IsPartitionPoint, IsPartitionedBy}
use Rattle.std.proofs.lemmas.List.{get_or_default}

module _ {X : Type 0} (p : X → Bool) (es : List X) where
  -- the test holds below the base, and of nothing behind what is left
  pub record Halved (base size : ℕ) : Type 0 where
    pub some : 0 < size
    pub within : base + size ≤ length es
    pub low : (k : ℕ) (d : X) → k < base → p (get_or es k d) ≡ true
    pub high : (k : ℕ) (d : X) → base + size ≤ k → k < length es → p (get_or es k d) ≡ false

  failed : IsPartitionedBy p es → (i j : ℕ) (d : X) → i ≤ j → j < length es → p (get_or es i d) ≡ false → p (get_or es j d) ≡ false
  failed parted i j d l m f = go (p (get_or es j d)) refl
    where
      go : (b : Bool) → p (get_or es j d) ≡ b → p (get_or es j d) ≡ false
      go true e = absurd (true≢false (sym (parted i j d l m e) ∙ f))
      go false e = e

  pub all : (0 < length es) → Halved 0 (length es)
  all l = record { some = l; within = omega arith; low = λ k d h. absurd (omega arith); high = λ k d h m. absurd (omega arith) }

  pub step : IsPartitionedBy p es → (base size count : ℕ) (e : X) → Halved base size → 1 < size → e ≡ get_or es (base + size / 2) e
      → count ≡ (if p e then (size / 2) else 0) → Halved (base + count) (size - size / 2)
  step parted base size count e h more is value = go (p e) refl
    where
      at : (d : X) → get_or es (base + size / 2) d ≡ e
      at d = let w = h.within in get_or_default es (base + size / 2) d e (omega (arith, w)) ∙ sym is

      go : (b : Bool) → p e ≡ b → Halved (base + count) (size - size / 2)
      go true q =
          let c : count ≡ size / 2 = value ∙ simp q refl in
          let w = h.within in
          record {
            some = omega arith;
            within = omega (arith, c, w);
            low = λ k d l. parted k (base + size / 2) d (omega (arith, c)) (omega (arith, w)) (ap p (at d) ∙ q);
            high = λ k d l m. h.high k d (omega (arith, c)) m;
          }
      go false q =
          let c : count ≡ 0 = value ∙ simp q refl in
          let w = h.within in
          record {
            some = omega arith;
            within = omega (arith, c, w);
            low = λ k d l. h.low k d (omega (arith, c));
            high = λ k d l m. failed parted (base + size / 2) k d (omega (arith, c)) m (ap p (at d) ∙ q);
          }

  pub last : IsPartitionedBy p es → (base size count : ℕ) (e : X) → Halved base size → size ≤ 1 → e ≡ get_or es base e
      → count ≡ (if p e then 1 else 0) → (base + count ≤ length es) × IsPartitionPoint (λ x. p x ≡ true) (λ x. p x ≡ false) es (base + count)
  last parted base size count e h less is value = go (p e) refl
    where
      at : (d : X) → get_or es base d ≡ e
      at d = let w = h.within in let s = h.some in get_or_default es base d e (omega (arith, w, s)) ∙ sym is

      go : (b : Bool) → p e ≡ b → (base + count ≤ length es) × IsPartitionPoint (λ x. p x ≡ true) (λ x. p x ≡ false) es (base + count)
      go true q =
          let c : count ≡ 1 = value ∙ simp q refl in
          let w = h.within in
          let s = h.some in
          (omega (arith, c, w, s), (λ k d z l. parted k base d (omega (arith, c)) (omega (arith, w, s)) (ap p (at d) ∙ q), λ k d l m. h.high k d (omega (arith, c, s)) m))
      go false q =
          let c : count ≡ 0 = value ∙ simp q refl in
          let w = h.within in
          let s = h.some in
          (omega (arith, c, w, s), (λ k d z l. h.low k d (omega (arith, c)), λ k d l m. failed parted base k d (omega (arith, c)) m (ap p (at d) ∙ q)))
