-- What was read for the first items, and what comes next.
use Rattle.std.proofs.Common.{◌≡◌, ℕ, ◌+◌, ◌<◌, List, [], ◌∷◌, ◌++◌, length, map, take, drop, get_or, Bool, true, false, not, ◌&&◌, ◌||◌, Err, refl, ap, sym, ◌∙◌, subst, arith, append_assoc}
use Rattle.std.specs.List.{list_all}
use Rattle.std.proofs.lemmas.Bool.{and_parts, and_from, false≢true}
use Rattle.std.proofs.lemmas.List.{length-append, length-map, map-append, drop_more, take_more, take-append-drop, length-take-le}
use Rattle.std.proofs.lemmas.List.Folds.{list_all-append}
use Rattle.np_script_grammar.specs.declared.line.Item.{Item}
use Rattle.np_script_grammar.specs.declared.line.Field.{Field}
use Rattle.np_script_grammar.specs.Fields.{field_word, is_of, is_short}
use Rattle.np_script_grammar.specs.Forms.{are_of}
use Rattle.np_script_grammar.specs.Words.{words_of}
use Rattle.np_script_words.specs.declared.error.FieldError.{FieldError}
use Rattle.np_script_words.specs.declared.error.FieldError.TheVariants as errors
use Rattle.np_script_words.specs.declared.fields.Reading.{Reading}
use Rattle.np_script_words.specs.Reads.{Says}
use Rattle.np_script_words.specs.Lines.{BeginsWith, IsAfter, TakesField, TakesItems}
use Rattle.np_script_words.proofs.FieldLists.{same_front, length-are_of, are_of-append, are_of-split, Split}

pub length_begun : (items : List Item) (words : List (List ℕ)) (read : List Field) (rest : List (List ℕ)) → BeginsWith items words read rest → length words ≡ length items + length rest
length_begun items words read rest b =
    omega (arith, ap length b.spelled, length-append (map field_word read) rest, length-map read field_word, length-are_of items read b.each)

pub too_few : (items : List Item) (i : ℕ) (words : List (List ℕ)) (read : List Field) (rest : List (List ℕ)) → BeginsWith (take i items) words read rest → rest ≡ [] → i < length items
    → (all : List Field) (more : List (List ℕ)) → BeginsWith items words all more → ⊥
too_few items i words read rest b none h all more c =
    omega (arith, length_begun (take i items) words read rest b, length_begun items words all more c, length-take-le i items (omega arith), ap length none)

-- ---- the next word

cut_at : (items : List Item) (i : ℕ) (d : Item) → i < length items → take i items ++ (get_or items i d ∷ drop (i + 1) items) ≡ items
cut_at items i d h = ap (λ (rest : List Item). take i items ++ rest) (sym (drop_more items i d h)) ∙ take-append-drop i items

next_field : (item : Item) (items : List Item) (fields : List Field) (word : List ℕ) (behind rest : List (List ℕ)) → are_of (item ∷ items) fields ≡ true → word ∷ behind ≡ map field_word fields ++ rest
    → (f : Field) × Says item word f
next_field item items [] word behind rest e same = absurd (false≢true e)
next_field item items (f ∷ fields) word behind rest e same =
    let spelled : word ≡ field_word f = cc in
    (f, (spelled, (and_parts (is_of item f) (are_of items fields) e).0))

pub wrong_word : (items : List Item) (i : ℕ) (d : Item) (words : List (List ℕ)) (read : List Field) (word : List ℕ) (behind rest : List (List ℕ)) → BeginsWith (take i items) words read rest
    → rest ≡ word ∷ behind → i < length items → ((f : Field) → Says (get_or items i d) word f → ⊥) → (all : List Field) (more : List (List ℕ)) → BeginsWith items words all more → ⊥
wrong_word items i d words read word behind rest b begins h none all more c =
    let item : Item = get_or items i d in
    let cut : are_of (take i items ++ (item ∷ drop (i + 1) items)) all ≡ true = ap (λ (its : List Item). are_of its all) (cut_at items i d h) ∙ c.each in
    let s : Split (take i items) (item ∷ drop (i + 1) items) all = are_of-split (take i items) (item ∷ drop (i + 1) items) all cut in
    let whole : words ≡ map field_word s.front ++ (map field_word s.back ++ more) =
    c.spelled ∙ ap (λ (fs : List Field). map field_word fs ++ more) s.whole ∙ ap (λ (ws : List (List ℕ)). ws ++ more) (map-append field_word s.front s.back) ∙ append_assoc (map field_word s.front) (map field_word s.back) more in
    let same_length : length (map field_word read) ≡ length (map field_word s.front) =
    omega (arith, length-map read field_word, length-map s.front field_word, length-are_of (take i items) read b.each, length-are_of (take i items) s.front s.first) in
    let behind_front : rest ≡ map field_word s.back ++ more = (same_front (map field_word read) (map field_word s.front) rest (map field_word s.back ++ more) same_length (sym b.spelled ∙ whole)).1 in
    let f : (f : Field) × Says item word f = next_field item (drop (i + 1) items) s.back word behind more s.second (sym begins ∙ behind_front) in
    none f.0 f.1

pub one_more : (items : List Item) (i : ℕ) (d : Item) (words : List (List ℕ)) (read : List Field) (word : List ℕ) (behind rest : List (List ℕ)) (f : Field) → BeginsWith (take i items) words read rest
    → rest ≡ word ∷ behind → i < length items → Says (get_or items i d) word f → BeginsWith (take (i + 1) items) words (read ++ f ∷ []) behind
one_more items i d words read word behind rest f b begins h says = record {
  each = subst (λ (its : List Item). are_of its (read ++ f ∷ []) ≡ true) (sym (take_more items i d h))
      (are_of-append (take i items) (get_or items i d ∷ []) read (f ∷ []) b.each (and_from (is_of (get_or items i d) f) true says.1 refl));
  spelled =
      b.spelled
      ∙ ap (λ (ws : List (List ℕ)). map field_word read ++ ws) (begins ∙ ap (λ (w : List ℕ). w ∷ behind) says.0)
      ∙ sym (append_assoc (map field_word read) (field_word f ∷ []) behind)
      ∙ ap (λ (ws : List (List ℕ)). ws ++ behind) (sym (map-append field_word read (f ∷ [])));
}

-- ---- what is kept

joined : (p q r : Bool) → ((p || not q) || not r) ≡ (p || not (q && r))
joined true q r = refl
joined false true r = refl
joined false false r = refl

not_before : (p q : Bool) → (p || q) ≡ false → p ≡ false
not_before true q e = e
not_before false q e = refl

pub after-append : (old mid new : Reading) (read more : List Field) → IsAfter old mid read → IsAfter mid new more → IsAfter old new (read ++ more)
after-append old mid new read more a b = record {
  passed =
      b.passed
      ∙ ap (λ (p : Bool). p || not (list_all is_short more)) a.passed
      ∙ joined old.passed (list_all is_short read) (list_all is_short more)
      ∙ ap (λ (s : Bool). old.passed || not s) (sym (list_all-append is_short read more));
  kept = λ e.
      let before : mid.passed ≡ false = not_before mid.passed (not (list_all is_short more)) (sym b.passed ∙ e) in
      b.kept e ∙ ap (λ (fs : List Field). fs ++ more) (a.kept before) ∙ append_assoc old.fields read more;
}

-- ---- the next word is of no field

pub items_error : (items : List Item) (i : ℕ) (d : Item) (line word behind left : List ℕ) (read : List Field) (old before new : Reading) (e : FieldError)
    → BeginsWith (take i items) (words_of line) read (words_of left) → words_of left ≡ word ∷ words_of behind → i < length items
    → TakesField (get_or items i d) word before new (Err e) → TakesItems items line old new (Err e)
items_error items i d line word behind left read old before new errors.Form b begins h none = wrong_word items i d (words_of line) read word (words_of behind) (words_of left) b begins h none
items_error items i d line word behind left read old before new errors.Limit b begins h never = never
items_error items i d line word behind left read old before new errors.NoMemory b begins h t = tt
