-- The keys of lines.
use Rattle.std.proofs.Common.{◌≡◌, ℕ, List, [], ◌∷◌, ◌++◌, length, map, take, drop, Bool, true, false, ◌&&◌, eqb, bytes_eq, eqb-true, eq-eqb, refl, ap, sym}
use Rattle.np_script_grammar.specs.declared.line.Field.{Field}
use Rattle.np_script_grammar.specs.Fields.{field_word}
use Rattle.np_script_grammar.specs.Words.{words_of}
use Rattle.np_script_grammar.specs.Forms.{spaced}
use Rattle.np_script_grammar.specs.Order.{declared_by}
use Rattle.np_script_order.specs.Keys.{key_of}

same_truth : (a b : Bool) → (a ≡ true → b ≡ true) → (b ≡ true → a ≡ true) → a ≡ b
same_truth true true f g = refl
same_truth true false f g = sym (f refl)
same_truth false true f g = g refl
same_truth false false f g = refl

eqb-sym : (k w : ℕ) → eqb k w ≡ eqb w k
eqb-sym k w = same_truth (eqb k w) (eqb w k) (λ e. eq-eqb w k (sym (eqb-true k w e))) (λ e. eq-eqb k w (sym (eqb-true w k e)))

with_head : (t s p x y : Bool) → t ≡ s → t && p ≡ true → (p ≡ true → x ≡ y) → s && x ≡ y
with_head true true p x y same e again = again e
with_head true false p x y same e again = absurd cc
with_head false s p x y same e again = absurd cc

other_head : (t s p x : Bool) → t ≡ s → t && p ≡ false → (p ≡ false → x ≡ false) → s && x ≡ false
other_head true true p x same e again = again e
other_head true false p x same e again = absurd cc
other_head false true p x same e again = absurd cc
other_head false false p x same e again = refl

-- bytes that begin with a word are this word and more exactly where the others are those
pub begins_with_word : (key word more : List ℕ) → bytes_eq (take (length word) key) word ≡ true → bytes_eq (word ++ more) key ≡ bytes_eq more (drop (length word) key)
begins_with_word key [] more e = refl
begins_with_word [] (w ∷ ws) more e = absurd cc
begins_with_word (k ∷ ks) (w ∷ ws) more e = with_head (eqb k w) (eqb w k) (bytes_eq (take (length ws) ks) ws) (bytes_eq (ws ++ more) ks) (bytes_eq more (drop (length ws) ks)) (eqb-sym k w) e (begins_with_word ks ws more)

pub begins_with_other : (key word more : List ℕ) → bytes_eq (take (length word) key) word ≡ false → bytes_eq (word ++ more) key ≡ false
begins_with_other key [] more e = absurd cc
begins_with_other [] (w ∷ ws) more e = refl
begins_with_other (k ∷ ks) (w ∷ ws) more e = other_head (eqb k w) (eqb w k) (bytes_eq (take (length ws) ks) ws) (bytes_eq (ws ++ more) ks) (eqb-sym k w) e (begins_with_other ks ws more)

-- words that spell the fields of a line declare what the line declares
pub key_of_line : (word rest : List ℕ) (fields : List Field) → words_of rest ≡ map field_word fields → key_of word rest ≡ declared_by (word, fields)
key_of_line word rest fields e = ap (λ words. spaced (take 2 (word ∷ words))) e
