-- The head of a body tells whether it needs memory.
use Rattle.std.proofs.Common.{◌≡◌, ℕ, ◌+◌, ◌*◌, ◌<◌, Bool, true, false, not, eqb, ltb, cond, ◌&&◌, List, [], ◌∷◌, length, Option, Some, None, Ok, refl, sym, ap, ◌∙◌, arith}
use Rattle.std.specs.Int.{w16, from_be_bytes}
use Rattle.std.proofs.lemmas.Bool.{le-ltb}
use Rattle.std.proofs.lemmas.Bool.Decides.{nat_tests}
use Rattle.np_message.specs.declared.depth.Depth.{Depth}
use Rattle.np_message.specs.Items.{KindItem, DepthItem, CountItem, is_kind}
use Rattle.np_message.specs.Decoding.{Reading, no_item, read_item, read_tested, read_meant, read_count, depth_of}
use Rattle.np_wire_decode.specs.Reading.{is_plain_kind, needs_memory}

abbrev done : {A : Type 0} → A × List ℕ → Reading A
done x = Ok x

done_is : {A : Type 0} (x y : A × List ℕ) → done x ≡ done y → x ≡ y
done_is x y e = cc

-- what a test let through
passed_if : (t : Bool) (b : ℕ) (bs : List ℕ) (x : ℕ) (rest : List ℕ) → cond t (Ok (b, bs)) (no_item (b ∷ bs)) ≡ Ok (x, rest) → b ∷ bs ≡ x ∷ rest
passed_if true b bs x rest e = ap (λ (y : ℕ × List ℕ). y.0 ∷ y.1) (done_is (b, bs) (x, rest) e)
passed_if false b bs x rest e = absurd cc

tested_parts : (test : ℕ → Bool) (bytes : List ℕ) (x : ℕ) (rest : List ℕ) → read_tested test bytes ≡ Ok (x, rest) → bytes ≡ x ∷ rest
tested_parts test [] x rest e = absurd cc
tested_parts test (b ∷ bs) x rest e = passed_if (test b) b bs x rest e

-- a byte and the bytes behind it
record HasByte (bytes rest : List ℕ) : Type 0 where
  pub byte : ℕ
  pub parts : bytes ≡ byte ∷ rest

meant_if : (o : Option Depth) (b : ℕ) (bs : List ℕ) (x : Depth) (rest : List ℕ) → elim o as (λ y. Reading Depth) [ Some depth ↦ Ok (depth, bs) | None ↦ no_item (b ∷ bs) ] ≡ Ok (x, rest) → bs ≡ rest
meant_if (Some d) b bs x rest e = ap (λ (y : Depth × List ℕ). y.1) (done_is (d, bs) (x, rest) e)
meant_if None b bs x rest e = absurd cc

meant_parts : (bytes : List ℕ) (x : Depth) (rest : List ℕ) → read_meant depth_of bytes ≡ Ok (x, rest) → HasByte bytes rest
meant_parts [] x rest e = absurd cc
meant_parts (b ∷ bs) x rest e = record { byte = b; parts = ap (λ (l : List ℕ). b ∷ l) (meant_if (depth_of b) b bs x rest e) }

-- two bytes, their number and the bytes behind them
record HasCount (bytes : List ℕ) (n : ℕ) (rest : List ℕ) : Type 0 where
  pub high : ℕ
  pub low : ℕ
  pub parts : bytes ≡ high ∷ low ∷ rest
  pub number : n ≡ 256 * high + low

count_if : (short t : Bool) (high low n m : ℕ) (bs rest : List ℕ) → short ≡ false → n ≡ 256 * high + low → cond short (no_item (high ∷ low ∷ bs)) (cond t (no_item (high ∷ low ∷ bs)) (Ok (n, bs))) ≡ Ok (m, rest) → HasCount (high ∷ low ∷ bs) m rest
count_if true t high low n m bs rest long is e = absurd cc
count_if false true high low n m bs rest long is e = absurd cc
count_if false false high low n m bs rest long is e =
    let p = done_is (n, bs) (m, rest) e in
    let same : n ≡ m = ap (λ (y : ℕ × List ℕ). y.0) p in
    let behind : bs ≡ rest = ap (λ (y : ℕ × List ℕ). y.1) p in
    record { high = high; low = low; parts = ap (λ (l : List ℕ). high ∷ low ∷ l) behind; number = sym same ∙ is }

count_parts : (bytes : List ℕ) (m : ℕ) (rest : List ℕ) → read_count 1024 bytes ≡ Ok (m, rest) → HasCount bytes m rest
unfolding read_count
count_parts [] m rest e = absurd cc
count_parts (high ∷ []) m rest e = absurd cc
count_parts (high ∷ low ∷ bs) m rest e = count_if (ltb (length (high ∷ low ∷ bs)) 2) (ltb 1024 (from_be_bytes w16 (high ∷ low ∷ []))) high low (from_be_bytes w16 (high ∷ low ∷ [])) m bs rest (le-ltb _ _ (omega arith)) (omega arith) e

-- the head of a body
record Head (bytes : List ℕ) (kind count : ℕ) : Type 0 where
  pub depth : ℕ
  pub high : ℕ
  pub low : ℕ
  pub rest : List ℕ
  pub parts : bytes ≡ kind ∷ depth ∷ high ∷ low ∷ rest
  pub number : count ≡ 256 * high + low

head_of : (bytes : List ℕ) (kind : ℕ) (depth : Depth) (count : ℕ) (a b c : List ℕ) → read_item KindItem bytes ≡ Ok (kind, a) → read_item DepthItem a ≡ Ok (depth, b) → read_item (CountItem 1024) b ≡ Ok (count, c) → Head bytes kind count
head_of bytes kind depth count a b c p q r =
    let x = tested_parts is_kind bytes kind a p in
    let y = meant_parts a depth b q in
    let z = count_parts b count c r in
    record { depth = y.byte; high = z.high; low = z.low; rest = c; parts = x ∙ ap (λ (l : List ℕ). kind ∷ l) (y.parts ∙ ap (λ (l : List ℕ). y.byte ∷ l) z.parts); number = z.number }

by_count : (plain : Bool) (high low : ℕ) → 0 < 256 * high + low → not (plain && (eqb high 0 && eqb low 0)) ≡ true
by_count plain high low more = grind (arith, nat_tests)

by_kind : (plain others : Bool) → plain ≡ false → not (plain && others) ≡ true
by_kind true others e = absurd cc
by_kind false others e = refl

pub needs_by_count : (bytes : List ℕ) (kind : ℕ) (depth : Depth) (count : ℕ) (a b c : List ℕ) → read_item KindItem bytes ≡ Ok (kind, a) → read_item DepthItem a ≡ Ok (depth, b) → read_item (CountItem 1024) b ≡ Ok (count, c) → 0 < count → needs_memory bytes ≡ true
needs_by_count bytes kind depth count a b c p q r more =
    let h = head_of bytes kind depth count a b c p q r in
    ap needs_memory h.parts ∙ by_count (is_plain_kind kind) h.high h.low (omega (arith, h.number))

pub needs_by_kind : (bytes : List ℕ) (kind : ℕ) (depth : Depth) (count : ℕ) (a b c : List ℕ) → read_item KindItem bytes ≡ Ok (kind, a) → read_item DepthItem a ≡ Ok (depth, b) → read_item (CountItem 1024) b ≡ Ok (count, c) → is_plain_kind kind ≡ false → needs_memory bytes ≡ true
needs_by_kind bytes kind depth count a b c p q r listed =
    let h = head_of bytes kind depth count a b c p q r in
    ap needs_memory h.parts ∙ by_kind (is_plain_kind kind) (eqb h.high 0 && eqb h.low 0) listed
