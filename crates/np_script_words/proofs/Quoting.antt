-- A quoted text is read as what it says, and nothing else is read.
use Rattle.std.proofs.Common.{◌≡◌, ℕ, suc, ◌+◌, ◌*◌, ◌/◌, ◌%◌, ◌<◌, List, [], ◌∷◌, ◌++◌, length, Bool, true, false, cond, eqb, ◌||◌, Option, Some, None, refl, ap, sym, ◌∙◌, subst, arith, append_assoc, ◌⊎◌}
use Rattle.std.specs.Prelude.{option_map}
use Rattle.std.specs.List.{flat_map}
use Rattle.std.specs.Char.{digit_char}
use Rattle.std.proofs.lemmas.Bool.{or_parts}
use Rattle.std.proofs.lemmas.Bool.Decides.{nat_tests}
use Rattle.np_script_grammar.specs.Words.{is_plain}
use Rattle.np_script_grammar.specs.Fields.{quoted_byte}
use Rattle.np_script_words.specs.declared.quoted.QuotedState.{QuotedState}
use Rattle.np_script_words.specs.declared.quoted.QuotedState.TheVariants.{Plain, Escape, HexHigh, HexLow}
use Rattle.np_script_words.specs.declared.quoted.QuotedStep.{QuotedStep}
use Rattle.np_script_words.specs.declared.quoted.QuotedStep.TheVariants.{Closed, Moved, Byte, Failed}
use Rattle.np_script_words.specs.Quoted.{quoted_step, unquoted_from}

-- ---- a byte that is quoted is read

abbrev said : ℕ → List ℕ → Option (List ℕ)
said b rest = option_map (λ text. b ∷ text) (unquoted_from Plain rest)

abbrev closed : List ℕ → Option (List ℕ)
closed bs = cond (eqb (length bs) 0) (Some []) None

-- what is read from a step on
abbrev goes_on : QuotedStep → List ℕ → Option (List ℕ)
goes_on Closed bs = closed bs
goes_on (Moved next) bs = unquoted_from next bs
goes_on (Byte c) bs = said c bs
goes_on Failed bs = None

at_step : (state : QuotedState) (step : QuotedStep) (b : ℕ) (bs : List ℕ) → quoted_step state b ≡ step → unquoted_from state (b ∷ bs) ≡ goes_on step bs
at_step state Closed b bs e = rw (e, unquoted_from) refl
at_step state (Moved next) b bs e = rw (e, unquoted_from) refl
at_step state (Byte c) b bs e = rw (e, unquoted_from) refl
at_step state Failed b bs e = rw (e, unquoted_from) refl

plain_step : (b : ℕ) → eqb b 34 ≡ false → eqb b 92 ≡ false → is_plain b ≡ true → quoted_step Plain b ≡ Byte b
plain_step b e f p = rw (e, f, p) refl

high_step : (h : ℕ) → (h < 2) ⊎ (h ≡ 7) → quoted_step HexHigh (digit_char h) ≡ Moved (HexLow h)
high_step h e = grind (arith, nat_tests)

low_step : (h d : ℕ) → d < 16 → (h < 2) ⊎ ((h ≡ 7) × (d ≡ 15)) → quoted_step (HexLow h) (digit_char d) ≡ Byte (16 * h + d)
low_step h d e f = grind (arith, nat_tests)

high_digit : (b : ℕ) → is_plain b ≡ false → (b / 16 < 2) ⊎ ((b / 16 ≡ 7) × (b % 16 ≡ 15))
high_digit b e = grind (arith, nat_tests)

hex_is_read : (h d b : ℕ) (rest : List ℕ) → 16 * h + d ≡ b → d < 16 → (h < 2) ⊎ ((h ≡ 7) × (d ≡ 15)) → unquoted_from Plain (92 ∷ 120 ∷ digit_char h ∷ digit_char d ∷ rest) ≡ said b rest
hex_is_read h d b rest e small f =
    at_step HexHigh (Moved (HexLow h)) (digit_char h) (digit_char d ∷ rest) (high_step h (grind arith))
    ∙ at_step (HexLow h) (Byte (16 * h + d)) (digit_char d) rest (low_step h d small f)
    ∙ ap (λ (c : ℕ). said c rest) e

plain_is_read : (t : Bool) (b : ℕ) (rest : List ℕ) → is_plain b ≡ t → eqb b 34 ≡ false → eqb b 92 ≡ false
    → unquoted_from Plain (cond t (b ∷ []) (92 ∷ 120 ∷ digit_char (b / 16) ∷ digit_char (b % 16) ∷ []) ++ rest) ≡ said b rest
plain_is_read true b rest p e f = at_step Plain (Byte b) b rest (plain_step b e f p)
plain_is_read false b rest p e f = hex_is_read (b / 16) (b % 16) b rest (omega arith) (omega arith) (high_digit b p)

escaped_is_read : (b : ℕ) (rest : List ℕ) → (b ≡ 34) ⊎ (b ≡ 92) → unquoted_from Plain (92 ∷ b ∷ rest) ≡ said b rest
escaped_is_read b rest e = at_step Escape (Byte b) b rest (grind (arith, nat_tests))

item_is_read : (t : Bool) (b : ℕ) (rest : List ℕ) → (eqb b 34 || eqb b 92) ≡ t
    → unquoted_from Plain (cond t (92 ∷ b ∷ []) (cond (is_plain b) (b ∷ []) (92 ∷ 120 ∷ digit_char (b / 16) ∷ digit_char (b % 16) ∷ [])) ++ rest) ≡ said b rest
item_is_read true b rest e = escaped_is_read b rest (grind (arith, nat_tests))
item_is_read false b rest e = plain_is_read (is_plain b) b rest refl (or_parts (eqb b 34) (eqb b 92) e).0 (or_parts (eqb b 34) (eqb b 92) e).1

byte_is_read : (b : ℕ) (rest : List ℕ) → unquoted_from Plain (quoted_byte b ++ rest) ≡ said b rest
byte_is_read b rest = item_is_read (eqb b 34 || eqb b 92) b rest refl

pub quoted_reads : (text : List ℕ) → unquoted_from Plain (flat_map quoted_byte text ++ 34 ∷ []) ≡ Some text
quoted_reads [] = refl
quoted_reads (b ∷ text) =
    let behind : List ℕ = flat_map quoted_byte text ++ 34 ∷ [] in
    ap (unquoted_from Plain) (append_assoc (quoted_byte b) (flat_map quoted_byte text) (34 ∷ []))
    ∙ byte_is_read b behind
    ∙ ap (option_map (λ (rest : List ℕ). b ∷ rest)) (quoted_reads text)

-- ---- a text that is read was quoted

-- what was read of an item
abbrev lead : QuotedState → List ℕ
lead Plain = []
lead Escape = 92 ∷ []
lead HexHigh = 92 ∷ 120 ∷ []
lead (HexLow high) = 92 ∷ 120 ∷ (48 + high) ∷ []

was_closed : (state : QuotedState) (b : ℕ) → quoted_step state b ≡ Closed → (lead state ≡ []) × (b ≡ 34)
was_closed Plain b e = grind (arith, nat_tests)
was_closed Escape b e = grind (arith, nat_tests)
was_closed HexHigh b e = grind (arith, nat_tests)
was_closed (HexLow high) b e = grind (arith, nat_tests)

was_moved : (state next : QuotedState) (b : ℕ) → quoted_step state b ≡ Moved next → lead state ++ b ∷ [] ≡ lead next
was_moved Plain next b e = grind (arith, nat_tests)
was_moved Escape next b e = grind (arith, nat_tests)
was_moved HexHigh next b e = grind (arith, nat_tests)
was_moved (HexLow high) next b e = grind (arith, nat_tests)

was_byte : (state : QuotedState) (b c : ℕ) → quoted_step state b ≡ Byte c → lead state ++ b ∷ [] ≡ quoted_byte c
was_byte Plain b c e = grind (arith, nat_tests)
was_byte Escape b c e = grind (arith, nat_tests)
was_byte HexHigh b c e = grind (arith, nat_tests)
was_byte (HexLow high) b c e = grind (arith, nat_tests)

-- a text behind what was read of it, by what it says
abbrev pub Were : QuotedState → List ℕ → Option (List ℕ) → Type 0
Were state word None = Unit {0}
Were state word (Some text) = lead state ++ word ≡ flat_map quoted_byte text ++ 34 ∷ []

closed_was : (state : QuotedState) (b : ℕ) (bs : List ℕ) → (lead state ≡ []) × (b ≡ 34) → Were state (b ∷ bs) (closed bs)
closed_was state b [] e = rw (e.0, e.1) refl
closed_was state b (c ∷ bs) e =
    let open_still : eqb (suc (length bs)) 0 ≡ false = grind (arith, nat_tests) in
    subst (λ (t : Bool). Were state (b ∷ c ∷ bs) (cond t (Some []) None)) (sym open_still) tt

said_was : (state : QuotedState) (b c : ℕ) (bs : List ℕ) (behind : Option (List ℕ)) → lead state ++ b ∷ [] ≡ quoted_byte c → Were Plain bs behind
    → Were state (b ∷ bs) (option_map (λ text. c ∷ text) behind)
said_was state b c bs None e h = tt
said_was state b c bs (Some t) e h =
    sym (append_assoc (lead state) (b ∷ []) bs)
    ∙ ap (λ (front : List ℕ). front ++ bs) e
    ∙ ap (λ (behind : List ℕ). quoted_byte c ++ behind) h
    ∙ sym (append_assoc (quoted_byte c) (flat_map quoted_byte t) (34 ∷ []))

moved_was : (state next : QuotedState) (b : ℕ) (bs : List ℕ) (read : Option (List ℕ)) → lead state ++ b ∷ [] ≡ lead next → Were next bs read → Were state (b ∷ bs) read
moved_was state next b bs None e h = tt
moved_was state next b bs (Some t) e h = sym (append_assoc (lead state) (b ∷ []) bs) ∙ ap (λ (front : List ℕ). front ++ bs) e ∙ h

went_on : (state : QuotedState) (step : QuotedStep) (b : ℕ) (bs : List ℕ) → quoted_step state b ≡ step
    → ((next : QuotedState) → Were next bs (unquoted_from next bs)) → Were state (b ∷ bs) (goes_on step bs)
went_on state Closed b bs e again = closed_was state b bs (was_closed state b e)
went_on state (Moved next) b bs e again = moved_was state next b bs (unquoted_from next bs) (was_moved state next b e) (again next)
went_on state (Byte c) b bs e again = said_was state b c bs (unquoted_from Plain bs) (was_byte state b c e) (again Plain)
went_on state Failed b bs e again = tt

pub text_was : (state : QuotedState) (word : List ℕ) → Were state word (unquoted_from state word)
text_was state [] = tt
text_was state (b ∷ bs) =
    subst (Were state (b ∷ bs)) (sym (at_step state (quoted_step state b) b bs refl)) (went_on state (quoted_step state b) b bs refl (λ next. text_was next bs))
