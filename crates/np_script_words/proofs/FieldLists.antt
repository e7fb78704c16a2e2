-- Lists of fields, item by item.
use Rattle.std.proofs.Common.{◌≡◌, List, [], ◌∷◌, ◌++◌, length, true, refl, ap, arith}
use Rattle.std.proofs.lemmas.Bool.{and_parts, and_from, false≢true}
use Rattle.np_script_grammar.specs.declared.line.Item.{Item}
use Rattle.np_script_grammar.specs.declared.line.Field.{Field}
use Rattle.np_script_grammar.specs.Fields.{is_of}
use Rattle.np_script_grammar.specs.Forms.{are_of}

-- two ways to cut a list behind equally many items
pub same_front : {A : Type 0} (a b c d : List A) → length a ≡ length b → a ++ c ≡ b ++ d → (a ≡ b) × (c ≡ d)
same_front [] [] c d len e = (refl, e)
same_front [] (y ∷ b) c d len e = absurd (omega arith)
same_front (x ∷ a) [] c d len e = absurd (omega arith)
same_front (x ∷ a) (y ∷ b) c d len e =
    let first : x ≡ y = cc in
    let behind : a ++ c ≡ b ++ d = cc in
    let rest = same_front a b c d (omega arith) behind in
    (cc (first, rest.0), rest.1)

pub length-are_of : (items : List Item) (fields : List Field) → are_of items fields ≡ true → length fields ≡ length items
length-are_of [] [] e = refl
length-are_of [] (f ∷ fields) e = absurd (false≢true e)
length-are_of (item ∷ items) [] e = absurd (false≢true e)
length-are_of (item ∷ items) (f ∷ fields) e = omega (arith, length-are_of items fields (and_parts (is_of item f) (are_of items fields) e).1)

pub are_of-append : (xs ys : List Item) (fs bs : List Field) → are_of xs fs ≡ true → are_of ys bs ≡ true → are_of (xs ++ ys) (fs ++ bs) ≡ true
are_of-append [] ys [] bs e f = f
are_of-append [] ys (a ∷ fs) bs e f = absurd (false≢true e)
are_of-append (x ∷ xs) ys [] bs e f = absurd (false≢true e)
are_of-append (x ∷ xs) ys (a ∷ fs) bs e f =
    let both : (is_of x a ≡ true) × (are_of xs fs ≡ true) = and_parts (is_of x a) (are_of xs fs) e in
    and_from (is_of x a) (are_of (xs ++ ys) (fs ++ bs)) both.0 (are_of-append xs ys fs bs both.1 f)

-- fields that are of items one after another
pub record Split (xs ys : List Item) (fields : List Field) : Type 0 where
  pub front : List Field
  pub back : List Field
  pub whole : fields ≡ front ++ back
  pub first : are_of xs front ≡ true
  pub second : are_of ys back ≡ true

pub are_of-split : (xs ys : List Item) (fields : List Field) → are_of (xs ++ ys) fields ≡ true → Split xs ys fields
are_of-split [] ys fields e = record { front = []; back = fields; whole = refl; first = refl; second = e }
are_of-split (x ∷ xs) ys [] e = absurd (false≢true e)
are_of-split (x ∷ xs) ys (f ∷ fields) e =
    let both : (is_of x f ≡ true) × (are_of (xs ++ ys) fields ≡ true) = and_parts (is_of x f) (are_of (xs ++ ys) fields) e in
    let s = are_of-split xs ys fields both.1 in
    record {
      front = f ∷ s.front;
      back = s.back;
      whole = ap (λ (fs : List Field). f ∷ fs) s.whole;
      first = and_from (is_of x f) (are_of xs s.front) both.0 s.first;
      second = s.second;
    }
