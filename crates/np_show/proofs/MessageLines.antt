-- The line of a message.
use Rattle.std.proofs.Common.{◌≡◌, ◌+◌, ℕ, List, [], ◌∷◌, ◌++◌, length, ap, sym, ◌∙◌, subst, append_assoc, arith, Option, Some, Ok}
use Rattle.std.specs.Prelude.{decimal, IfSome}
use Rattle.std.proofs.lemmas.List.{length-append}
use Rattle.np_message.specs.Message.{Message}
use Rattle.np_message.specs.Encoding.{kind_of, depth_byte, body_of, encoding}
use Rattle.np_wire.specs.Feed.{Fed, IsEncoded, NextGives}
use Rattle.np_message.specs.Decoding.{Whole, front}
use Rattle.np_show.specs.Listing.{message_line}
use Rattle.np_show.specs.Taking.{Lists, TakesLines}
use Rattle.np_show.proofs.Listings.{lists-message}

-- four bytes, and the body
pub encoding-length : (m : Message) → length (encoding m) ≡ 4 + length (body_of m)
unfolding encoding
encoding-length m = omega arith

-- the bytes of a message that is taken off
pub taken-length : (m : Message) (old new : List ℕ) → IsEncoded m old new → length old ≡ 4 + length (body_of m) + length new
taken-length m old new is = let n = ap (λ (l : List ℕ). length l) is.parts ∙ length-append (encoding m) new in let k = encoding-length m in omega (arith, n, k)

-- one message more
pub takes-message : (first old new : Fed) (lines0 lines1 lines2 : List ℕ) (m : Message) → TakesLines first old lines0 lines1 → front old.consumed old.left ≡ Whole m new.left → new.consumed ≡ old.consumed + length (encoding m)
    → lines2 ≡ lines1 ++ message_line old.consumed m → TakesLines first new lines0 lines2
takes-message first old new lines0 lines1 lines2 m takes is on more = record {
  added = takes.added ++ message_line old.consumed m;
  appended = more ∙ ap (λ (l : List ℕ). l ++ message_line old.consumed m) takes.appended ∙ append_assoc lines0 takes.added (message_line old.consumed m);
  lists = subst (λ (n : ℕ). Lists first.consumed first.left (takes.added ++ message_line old.consumed m) n new.left) (sym on) (lists-message first.consumed first.left takes.added old.consumed old.left m new.left takes.lists is);
}

pub advanced : (old new : Fed) (m : Message) → new.consumed + length new.left ≡ old.consumed + length old.left → IsEncoded m old.left new.left → new.consumed ≡ old.consumed + (4 + length (body_of m))
advanced old new m count is = let n = taken-length m old.left new.left is in omega (arith, n, count)

pub advanced-encoding : (old new : Fed) (m : Message) → new.consumed + length new.left ≡ old.consumed + length old.left → IsEncoded m old.left new.left → new.consumed ≡ old.consumed + length (encoding m)
advanced-encoding old new m count is = let n = advanced old new m count is in let k = encoding-length m in omega (arith, n, k)

-- ---- what next answers

-- a message that was taken off
pub took : (old new : Fed) (o : Option Message) (m : Message) → o ≡ Some m → NextGives old new (Ok o) → (front old.consumed old.left ≡ Whole m new.left) × (new.consumed + length new.left ≡ old.consumed + length old.left)
took old new o m is gives = subst (λ (x : Option Message). NextGives old new (Ok x)) is gives

pub took-encoded : (old new : Fed) (o : Option Message) (m : Message) → o ≡ Some m → IfSome o (λ x. IsEncoded x old.left new.left) → IsEncoded m old.left new.left
took-encoded old new o m is found = subst (λ (x : Option Message). IfSome x (λ y. IsEncoded y old.left new.left)) is found

-- ---- the parts of a line

line-parts : (o a b c d e : List ℕ)
    → o ++ a ++ 32 ∷ [] ++ b ++ 32 ∷ [] ++ c ++ 32 ∷ [] ++ d ++ 32 ∷ [] ++ e ++ 10 ∷ [] ≡ o ++ (a ++ 32 ∷ [] ++ b ++ 32 ∷ [] ++ c ++ 32 ∷ [] ++ d ++ 32 ∷ [] ++ e ++ 10 ∷ [])
line-parts o a b c d e = simp append_assoc

pub line-is : (o : List ℕ) (at kind depth count size : ℕ) (m : Message) (o1 o2 o3 o4 o5 o6 : List ℕ) → o1 ≡ o ++ decimal at ++ 32 ∷ [] → o2 ≡ o1 ++ decimal kind ++ 32 ∷ [] → o3 ≡ o2 ++ decimal depth ++ 32 ∷ []
    → o4 ≡ o3 ++ decimal count ++ 32 ∷ [] → o5 ≡ o4 ++ decimal size → o6 ≡ o5 ++ 10 ∷ [] → kind ≡ kind_of m.body → depth ≡ depth_byte m.depth → count ≡ length m.releases → size ≡ length (body_of m) → o6 ≡ o ++ message_line at m
line-is o at kind depth count size m o1 o2 o3 o4 o5 o6 e1 e2 e3 e4 e5 e6 k d r s =
    let a = e2 ∙ ap (λ (l : List ℕ). l ++ decimal kind ++ 32 ∷ []) e1 in
    let b = e3 ∙ ap (λ (l : List ℕ). l ++ decimal depth ++ 32 ∷ []) a in
    let c = e4 ∙ ap (λ (l : List ℕ). l ++ decimal count ++ 32 ∷ []) b in
    let e = e5 ∙ ap (λ (l : List ℕ). l ++ decimal size) c in
    let f = e6 ∙ ap (λ (l : List ℕ). l ++ 10 ∷ []) e in
    f ∙ line-parts o (decimal at) (decimal kind) (decimal depth) (decimal count) (decimal size)
    ∙ ap (λ (n : ℕ). o ++ (decimal at ++ 32 ∷ [] ++ decimal n ++ 32 ∷ [] ++ decimal depth ++ 32 ∷ [] ++ decimal count ++ 32 ∷ [] ++ decimal size ++ 10 ∷ [])) k
    ∙ ap (λ (n : ℕ). o ++ (decimal at ++ 32 ∷ [] ++ decimal (kind_of m.body) ++ 32 ∷ [] ++ decimal n ++ 32 ∷ [] ++ decimal count ++ 32 ∷ [] ++ decimal size ++ 10 ∷ [])) d
    ∙ ap (λ (n : ℕ). o ++ (decimal at ++ 32 ∷ [] ++ decimal (kind_of m.body) ++ 32 ∷ [] ++ decimal (depth_byte m.depth) ++ 32 ∷ [] ++ decimal n ++ 32 ∷ [] ++ decimal size ++ 10 ∷ [])) r
    ∙ ap (λ (n : ℕ). o ++ (decimal at ++ 32 ∷ [] ++ decimal (kind_of m.body) ++ 32 ∷ [] ++ decimal (depth_byte m.depth) ++ 32 ∷ [] ++ decimal (length m.releases) ++ 32 ∷ [] ++ decimal n ++ 10 ∷ [])) s
