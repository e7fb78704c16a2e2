-- A word says at most one text.
use Rattle.std.proofs.Common.{◌≡◌, ℕ, ◌-◌, ◌<◌, ◌≤◌, List, [], ◌∷◌, ◌++◌, length, get_or, take, drop, true, false, Some, None, Result, Ok, Err, ap, sym, ◌∙◌, subst, arith}
use Rattle.std.specs.Global.{Vec}
use Rattle.std.specs.List.{flat_map}
use Rattle.std.specs.Str.{is_utf8}
use Rattle.std.proofs.lemmas.Bool.{false≢true}
use Rattle.std.proofs.lemmas.Bool.Decides.{nat_tests}
use Rattle.std.proofs.lemmas.List.{take_rest}
use Rattle.std.proofs.lemmas.Str.{is_utf8-from_IsUtf8}
use Rattle.np_script_grammar.specs.Fields.{quoted_byte, quoted}
use Rattle.np_script_words.specs.declared.error.FieldError.{FieldError}
use Rattle.np_script_words.specs.declared.error.FieldError.TheVariants.{Form, Limit, NoMemory}
use Rattle.np_script_words.specs.declared.quoted.QuotedState.TheVariants.{Plain}
use Rattle.np_script_words.specs.Quoted.{unquoted_from, Unquotes}
use Rattle.np_script_words.specs.Reads.{ReadsBytes, SaysText, IsWithin}
use Rattle.np_script_words.proofs.Quoting.{Were, quoted_reads, text_was}
use Rattle.np_script_words.proofs.QuotedBytes.{quoted_is_utf8}
use Rattle.np_script_words.proofs.QuotedUtf8.{said_is_utf8}

-- a word that isn't UTF-8 says no text
pub broken_says_nothing : (word : List ℕ) → is_utf8 word ≡ false → (text : List ℕ) → SaysText word text → ⊥
broken_says_nothing word broken text says =
    let whole : is_utf8 word ≡ true = subst (λ (bs : List ℕ). is_utf8 bs ≡ true) (sym says.0) (is_utf8-from_IsUtf8 (quoted text) (quoted_is_utf8 text says.1)) in
    false≢true (sym broken ∙ whole)

text_said : (said text : List ℕ) → unquoted_from Plain said ≡ Some text → is_utf8 (34 ∷ said) ≡ true → SaysText (34 ∷ said) text
text_said said text e whole =
    let was : said ≡ flat_map quoted_byte text ++ 34 ∷ [] = subst (Were Plain said) e (text_was Plain said) in
    let same : 34 ∷ said ≡ quoted text = ap (λ (bs : List ℕ). 34 ∷ bs) was in
    (same, said_is_utf8 text (subst (λ (bs : List ℕ). is_utf8 bs ≡ true) same whole))

nothing_said : (said text : List ℕ) → unquoted_from Plain said ≡ None → SaysText (34 ∷ said) text → ⊥
nothing_said said text e says =
    let was : said ≡ flat_map quoted_byte text ++ 34 ∷ [] = cc (says.0) in
    let reads : unquoted_from Plain said ≡ Some text = ap (unquoted_from Plain) was ∙ quoted_reads text in
    cc

is_within : (limit : ℕ) (text : List ℕ) → length text ≤ limit → IsWithin limit text
is_within limit text h = grind (arith, nat_tests)

is_beyond : (limit : ℕ) (text : List ℕ) → limit < length text → IsWithin limit text → ⊥
is_beyond limit text h e = grind (arith, nat_tests)

bytes_read : (limit : ℕ) (said : List ℕ) (r : Result (Vec ℕ) FieldError) → is_utf8 (34 ∷ said) ≡ true → Unquotes limit (unquoted_from Plain said) r → ReadsBytes limit (34 ∷ said) r
bytes_read limit said (Ok text) whole h = (text_said said text.items h.0 whole, is_within limit text.items h.1)
bytes_read limit said (Err Limit) whole h = (h.0, text_said said h.0 h.1 whole, is_beyond limit h.0 h.2)
bytes_read limit said (Err Form) whole h = λ text says. nothing_said said text h says
bytes_read limit said (Err NoMemory) whole h = tt

-- what is read behind the opening quote
pub behind_quote : (limit : ℕ) (word : List ℕ) (r : Result (Vec ℕ) FieldError) → 0 < length word → get_or word 0 0 ≡ 34 → is_utf8 word ≡ true
    → Unquotes limit (unquoted_from Plain (take (length word - 1) (drop 1 word))) r → ReadsBytes limit word r
behind_quote limit [] r some quote whole h = absurd (omega arith)
behind_quote limit (b ∷ said) r some quote whole h =
    let rest : take (length (b ∷ said) - 1) (drop 1 (b ∷ said)) ≡ said = take_rest (b ∷ said) 1 in
    let same : 34 ∷ said ≡ b ∷ said = ap (λ (x : ℕ). x ∷ said) (sym quote) in
    let said_so : Unquotes limit (unquoted_from Plain said) r = subst (λ (bs : List ℕ). Unquotes limit (unquoted_from Plain bs) r) rest h in
    subst (λ (bs : List ℕ). ReadsBytes limit bs r) same (bytes_read limit said r (subst (λ (bs : List ℕ). is_utf8 bs ≡ true) (sym same) whole) said_so)
