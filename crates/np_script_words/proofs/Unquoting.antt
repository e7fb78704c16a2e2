-- A quoted text is read byte by byte.
use Rattle.std.proofs.Common.{◌≡◌, ℕ, ◌+◌, ◌<◌, ◌≤◌, List, [], ◌∷◌, ◌++◌, length, get_or, take, drop, Bool, true, nat_lt, Option, Some, None, refl, ap, sym, ◌∙◌, subst, arith, append_assoc}
use Rattle.std.specs.Prelude.{option_map}
use Rattle.std.proofs.lemmas.List.{drop_more, length_push, length-take, take_all, take-append-le}
use Rattle.std.proofs.lemmas.Bool.Decides.{nat_tests}
use Rattle.np_script_words.specs.declared.quoted.QuotedState.{QuotedState}
use Rattle.np_script_words.specs.declared.quoted.QuotedState.TheVariants.{Plain}
use Rattle.np_script_words.specs.declared.quoted.QuotedStep.TheVariants.{Moved, Byte}
use Rattle.np_script_words.specs.Quoted.{quoted_step, unquoted_from}

-- behind what was said already
abbrev pub behind : List ℕ → Option (List ℕ) → Option (List ℕ)
behind front said = option_map (λ text. front ++ text) said

-- the first i bytes of the word said `said`, of which `kept` is kept
pub record HasRead (limit : ℕ) (word kept : List ℕ) (passed : Bool) (state : QuotedState) (i : ℕ) : Type 0 where
  pub said : List ℕ
  pub all : unquoted_from Plain word ≡ behind said (unquoted_from state (drop i word))
  pub front : kept ≡ take limit said
  pub more : passed ≡ nat_lt limit (length said)

behind_more : (said : List ℕ) (c : ℕ) (rest : Option (List ℕ)) → behind said (option_map (λ text. c ∷ text) rest) ≡ behind (said ++ c ∷ []) rest
behind_more said c None = refl
behind_more said c (Some text) = ap Some (sym (append_assoc said (c ∷ []) text))

at_moved : (state next : QuotedState) (b : ℕ) (bs : List ℕ) → quoted_step state b ≡ Moved next → unquoted_from state (b ∷ bs) ≡ unquoted_from next bs
at_moved state next b bs e = rw (e, unquoted_from) refl

at_byte : (state : QuotedState) (b c : ℕ) (bs : List ℕ) → quoted_step state b ≡ Byte c → unquoted_from state (b ∷ bs) ≡ option_map (λ text. c ∷ text) (unquoted_from Plain bs)
at_byte state b c bs e = rw (e, unquoted_from) refl

pub has_moved : (limit : ℕ) (word kept : List ℕ) (passed : Bool) (state next : QuotedState) (i : ℕ) → HasRead limit word kept passed state i → i < length word
    → quoted_step state (get_or word i 0) ≡ Moved next → HasRead limit word kept passed next (i + 1)
has_moved limit word kept passed state next i h lt e = record {
  said = h.said;
  all = h.all ∙ ap (behind h.said) (ap (unquoted_from state) (drop_more word i 0 lt) ∙ at_moved state next (get_or word i 0) (drop (i + 1) word) e);
  front = h.front;
  more = h.more;
}

byte_said : (limit : ℕ) (word kept : List ℕ) (passed : Bool) (state : QuotedState) (i c : ℕ) (h : HasRead limit word kept passed state i) → i < length word
    → quoted_step state (get_or word i 0) ≡ Byte c → unquoted_from Plain word ≡ behind (h.said ++ c ∷ []) (unquoted_from Plain (drop (i + 1) word))
byte_said limit word kept passed state i c h lt e =
    h.all
    ∙ ap (behind h.said) (ap (unquoted_from state) (drop_more word i 0 lt) ∙ at_byte state (get_or word i 0) c (drop (i + 1) word) e)
    ∙ behind_more h.said c (unquoted_from Plain (drop (i + 1) word))

-- ---- a byte that is kept

short_front : (limit : ℕ) (said : List ℕ) → length (take limit said) < limit → take limit said ≡ said
short_front limit said h = take_all limit said (omega (arith, length-take {A = ℕ}))

pub has_kept : (limit : ℕ) (word kept : List ℕ) (passed : Bool) (state : QuotedState) (i c : ℕ) → HasRead limit word kept passed state i → i < length word
    → quoted_step state (get_or word i 0) ≡ Byte c → length kept < limit → HasRead limit word (kept ++ c ∷ []) passed Plain (i + 1)
has_kept limit word kept passed state i c h lt e room =
    let whole : take limit h.said ≡ h.said = short_front limit h.said (subst (λ (bs : List ℕ). length bs < limit) h.front room) in
    let short : length h.said < limit = subst (λ (bs : List ℕ). length bs < limit) (h.front ∙ whole) room in
    let longer : length (h.said ++ c ∷ []) ≡ length h.said + 1 = length_push h.said c in
    record {
      said = h.said ++ c ∷ [];
      all = byte_said limit word kept passed state i c h lt e;
      front = ap (λ (bs : List ℕ). bs ++ c ∷ []) (h.front ∙ whole) ∙ sym (take_all limit (h.said ++ c ∷ []) (omega arith));
      more = grind (arith, nat_tests, h.more);
    }

-- ---- a byte that is not

long_said : (limit : ℕ) (said : List ℕ) → limit ≤ length (take limit said) → limit ≤ length said
long_said limit said h = omega (arith, length-take {A = ℕ})

pub has_passed : (limit : ℕ) (word kept : List ℕ) (passed : Bool) (state : QuotedState) (i c : ℕ) → HasRead limit word kept passed state i → i < length word
    → quoted_step state (get_or word i 0) ≡ Byte c → limit ≤ length kept → HasRead limit word kept true Plain (i + 1)
has_passed limit word kept passed state i c h lt e full =
    let long : limit ≤ length h.said = long_said limit h.said (subst (λ (bs : List ℕ). limit ≤ length bs) h.front full) in
    let longer : length (h.said ++ c ∷ []) ≡ length h.said + 1 = length_push h.said c in
    record {
      said = h.said ++ c ∷ [];
      all = byte_said limit word kept passed state i c h lt e;
      front = h.front ∙ sym (take-append-le limit h.said (c ∷ []) long);
      more = grind (arith, nat_tests);
    }
