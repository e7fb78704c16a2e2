-- What a quoted text says is UTF-8 where the quoted text is.
use Rattle.std.proofs.Common.{◌≡◌, ℕ, suc, ◌<◌, ◌≤◌, List, [], ◌∷◌, ◌++◌, length, get_or, true, refl, ap, sym, ◌∙◌, subst, arith, inl, inr, append_assoc}
use Rattle.std.specs.List.{flat_map, list_all}
use Rattle.std.specs.Str.{IsUtf8, is_utf8}
use Rattle.std.proofs.Math.Utf8.{scalar, scalars, encode, encodes}
use Rattle.std.proofs.lemmas.Bool.{and_parts, cases_lt}
use Rattle.std.proofs.lemmas.Bool.Decides.{nat_tests}
use Rattle.std.proofs.lemmas.List.{length-append}
use Rattle.std.proofs.lemmas.Str.{IsUtf8-append, IsUtf8-encode, IsUtf8-from_is_utf8, is_utf8-from_IsUtf8, IsUtf8-nil, encode_ascii, char_from_byte}
use Rattle.np_script_grammar.specs.Fields.{quoted_byte, quoted}
use Rattle.np_script_words.proofs.QuotedBytes.{is_low, low_is_utf8, low_byte, high_byte, high_char}

-- the items of a text and the closing quote
abbrev closed : List ℕ → List ℕ
closed text = flat_map quoted_byte text ++ 34 ∷ []

abbrev AllHigh : List ℕ → Type 0
AllHigh bs = (k : ℕ) → k < length bs → 128 ≤ get_or bs k 0

low_head : (b : ℕ) (rest : List ℕ) → b < 128 → get_or (quoted_byte b ++ rest) 0 0 < 128
low_head b rest low = grind (arith, nat_tests)

closed_cons : (b : ℕ) (text : List ℕ) → closed (b ∷ text) ≡ quoted_byte b ++ closed text
closed_cons b text = append_assoc (quoted_byte b) (flat_map quoted_byte text) (34 ∷ [])

-- ---- high bytes stand as themselves

record Stripped (front rest text : List ℕ) : Type 0 where
  more : List ℕ
  same : text ≡ front ++ more
  behind : rest ≡ closed more

stripped_more : (h : ℕ) (front rest text : List ℕ) → Stripped front rest text → Stripped (h ∷ front) rest (h ∷ text)
stripped_more h front rest text s = record { more = s.more; same = ap (λ (t : List ℕ). h ∷ t) s.same; behind = s.behind }

strip : (front rest text : List ℕ) → AllHigh front → front ++ rest ≡ closed text → Stripped front rest text
strip [] rest text high e = record { more = text; same = refl; behind = e }
strip (h ∷ front) rest [] high e =
    let same : h ≡ 34 = cc in
    absurd (omega (arith, high 0 (omega arith)))
strip (h ∷ front) rest (b ∷ text) high e =
    elim (cases_lt b 128) [
      | inl low ↦
          let first : h ≡ get_or (quoted_byte b ++ closed text) 0 0 = ap (λ (bs : List ℕ). get_or bs 0 0) (e ∙ closed_cons b text) in
          absurd (omega (arith, low_head b (closed text) low, high 0 (omega arith)))
      | inr le ↦
          let stands : h ∷ (front ++ rest) ≡ b ∷ closed text = e ∙ closed_cons b text ∙ ap (λ (bs : List ℕ). bs ++ closed text) (high_byte b le) in
          let same : h ≡ b = cc in
          let behind : front ++ rest ≡ closed text = cc in
          subst (λ (x : ℕ). Stripped (h ∷ front) rest (x ∷ text)) same (stripped_more h front rest text (strip front rest text (λ k lt. high (suc k) (omega arith)) behind))
    ]

-- ---- character by character

-- a text is UTF-8 where low bytes and its items are these characters
abbrev Reads : List ℕ → Type 0
Reads cs = (low text : List ℕ) → list_all is_low low ≡ true → encodes cs ≡ low ++ closed text → IsUtf8 text

low_char : (c b : ℕ) (cs low text : List ℕ) → Reads cs → list_all is_low (b ∷ low) ≡ true → encode c ++ encodes cs ≡ b ∷ (low ++ closed text) → IsUtf8 text
low_char c b cs low text again all e =
    let both : (is_low b ≡ true) × (list_all is_low low ≡ true) = and_parts (is_low b) (list_all is_low low) all in
    let small : b < 128 = grind (arith, nat_tests) in
    let same : c ≡ b = char_from_byte (b ∷ (low ++ closed text)) (encodes cs) c (sym e) small (omega arith) in
    let one : encode c ≡ b ∷ [] = ap encode same ∙ encode_ascii b small in
    let whole : b ∷ encodes cs ≡ b ∷ (low ++ closed text) = ap (λ (bs : List ℕ). bs ++ encodes cs) (sym one) ∙ e in
    let behind : encodes cs ≡ low ++ closed text = cc in
    again low text both.1 behind

low_item : (c b : ℕ) (item cs text : List ℕ) → Reads cs → list_all is_low item ≡ true → 0 < length item → encode c ++ encodes cs ≡ item ++ closed text → IsUtf8 text
low_item c b [] cs text again all some e = absurd (omega arith)
low_item c b (x ∷ item) cs text again all some e = low_char c x cs item text again all e

some_item : (b : ℕ) → 0 < length (quoted_byte b)
some_item b = grind (arith, nat_tests)

ascii_first : (c b : ℕ) (cs text : List ℕ) → c < 128 → encode c ++ encodes cs ≡ closed (b ∷ text) → b < 128
ascii_first c b cs text low e = elim (cases_lt b 128) [
  | inl small ↦ small
  | inr le ↦
      let stands : c ∷ encodes cs ≡ b ∷ closed text = ap (λ (bs : List ℕ). bs ++ encodes cs) (sym (encode_ascii c low)) ∙ e ∙ closed_cons b text ∙ ap (λ (bs : List ℕ). bs ++ closed text) (high_byte b le) in
      let same : c ≡ b = cc in
      absurd (omega arith)
]

ascii_item : (c : ℕ) (cs text : List ℕ) → Reads cs → c < 128 → encode c ++ encodes cs ≡ closed text → IsUtf8 text
ascii_item c cs [] again low e = IsUtf8-nil
ascii_item c cs (b ∷ text) again low e =
    let small : b < 128 = ascii_first c b cs text low e in
    let behind : IsUtf8 text = low_item c b (quoted_byte b) cs text again (low_byte b small) (some_item b) (e ∙ closed_cons b text) in
    let one : list_all is_low (b ∷ []) ≡ true = grind (arith, nat_tests) in
    IsUtf8-append (b ∷ []) text (low_is_utf8 (b ∷ []) one) behind

high_item : (c : ℕ) (cs text : List ℕ) → Reads cs → scalar c ≡ true → 128 ≤ c → encode c ++ encodes cs ≡ closed text → IsUtf8 text
high_item c cs text again valid high e =
    let s : Stripped (encode c) (encodes cs) text = strip (encode c) (encodes cs) text (high_char c high) e in
    subst IsUtf8 (sym s.same) (IsUtf8-append (encode c) s.more (IsUtf8-encode c valid) (again [] s.more refl s.behind))

chars_read : (cs : List ℕ) → scalars cs ≡ true → Reads cs
chars_read [] valid low text all e = absurd (omega (arith, ap length e, length-append low (closed text), length-append (flat_map quoted_byte text) (34 ∷ [])))
chars_read (c ∷ cs) valid (b ∷ low) text all e = low_char c b cs low text (chars_read cs (and_parts (scalar c) (scalars cs) valid).1) all e
chars_read (c ∷ cs) valid [] text all e =
    let both : (scalar c ≡ true) × (scalars cs ≡ true) = and_parts (scalar c) (scalars cs) valid in
    elim (cases_lt c 128) [
      | inl low ↦ ascii_item c cs text (chars_read cs both.1) low e
      | inr high ↦ high_item c cs text (chars_read cs both.1) both.0 high e
    ]

pub said_is_utf8 : (text : List ℕ) → is_utf8 (quoted text) ≡ true → is_utf8 text ≡ true
said_is_utf8 text e =
    let chars = IsUtf8-from_is_utf8 (quoted text) e in
    is_utf8-from_IsUtf8 text (chars_read chars.0 chars.1.0 (34 ∷ []) text refl chars.1.1)
