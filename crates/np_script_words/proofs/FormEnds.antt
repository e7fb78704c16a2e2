-- How the reading of a line ends.
use Rattle.std.proofs.Common.{◌≡◌, ◌≢◌, ℕ, zero, suc, ◌+◌, ◌-◌, ◌*◌, ◌<◌, ◌≤◌, List, [], ◌∷◌, ◌++◌, length, map, true, false, Err, refl, ap, sym, ◌∙◌, subst, arith, append_assoc, inl, inr, mul-le-mul_right}
use Rattle.std.proofs.Math.Nat.{mul-lt-mul_of_pos_right}
use Rattle.std.proofs.lemmas.Bool.{false≢true, cases_lt}
use Rattle.std.proofs.lemmas.List.{length-map, map-append, append-nil}
use Rattle.np_script_grammar.specs.declared.line.Item.{Item}
use Rattle.np_script_grammar.specs.declared.line.Field.{Field}
use Rattle.np_script_grammar.specs.Fields.{field_word}
use Rattle.np_script_grammar.specs.Words.{words_of}
use Rattle.np_script_grammar.specs.Forms.{Form, HasForm, KeepsLimits, are_of, repeated}
use Rattle.np_script_words.specs.declared.error.FieldError.{FieldError}
use Rattle.np_script_words.specs.declared.error.FieldError.TheVariants as errors
use Rattle.np_script_words.specs.declared.fields.Reading.{Reading}
use Rattle.np_script_words.specs.Reads.{Reads}
use Rattle.np_script_words.specs.Lines.{BeginsWith, SaysFields, TakesItems}
use Rattle.np_script_words.proofs.FieldLists.{same_front, length-are_of, are_of-split, Split}
use Rattle.np_script_words.proofs.ItemReading.{length_begun}
use Rattle.np_script_words.proofs.FormReading.{HasRead, items_of, length_items, length_said, more_groups, repeated_add}

words_left : (form : Form) (line left : List ℕ) (reading : Reading) (groups : ℕ) (h : HasRead form line left reading groups)
    → length (words_of line) ≡ length form.items + groups * length form.group + length (words_of left)
words_left form line left reading groups h = omega (arith, length_begun (items_of form groups) (words_of line) h.read (words_of left) h.begins, length_items form groups)

some_words : (words : List (List ℕ)) → words ≢ [] → 0 < length words
some_words [] h = absurd (h refl)
some_words (w ∷ words) h = omega arith

-- ---- words are left, and no group

pub no_group : (form : Form) (line left : List ℕ) (reading : Reading) (groups : ℕ) → HasRead form line left reading groups → words_of left ≢ [] → length form.group ≡ 0
    → (fields : List Field) → SaysFields form line fields → ⊥
no_group form line left reading groups h some none fields says =
    let said : length (words_of line) ≡ length form.items + says.1.groups * length form.group = length_said form line fields says in
    let read : length (words_of line) ≡ length form.items + groups * length form.group + length (words_of left) = words_left form line left reading groups h in
    let nothing : says.1.groups * length form.group ≡ says.1.groups * 0 = ap (λ (k : ℕ). says.1.groups * k) none in
    omega (arith, some_words (words_of left) some)

-- ---- the next group is none

next_group : (form : Form) (line left : List ℕ) (reading : Reading) (groups n : ℕ) → HasRead form line left reading groups → groups < n
    → ((read : List Field) (rest : List (List ℕ)) → BeginsWith form.group (words_of left) read rest → ⊥)
    → (fields : List Field) → are_of (items_of form n) fields ≡ true → words_of line ≡ map field_word fields → ⊥
next_group form line left reading groups n h lt none fields each spelled =
    let k : ℕ = n - groups - 1 in
    let sum : n ≡ groups + suc k = omega arith in
    let behind : List Item = form.group ++ repeated k form.group in
    let items : items_of form n ≡ items_of form groups ++ behind =
    ap (items_of form) sum ∙ ap (λ (rest : List Item). form.items ++ rest) (repeated_add groups (suc k) form.group) ∙ sym (append_assoc form.items (repeated groups form.group) behind) in
    let s : Split (items_of form groups) behind fields = are_of-split (items_of form groups) behind fields (ap (λ (its : List Item). are_of its fields) (sym items) ∙ each) in
    let t : Split form.group (repeated k form.group) s.back = are_of-split form.group (repeated k form.group) s.back s.second in
    let whole : words_of line ≡ map field_word s.front ++ map field_word s.back = spelled ∙ ap (map field_word) s.whole ∙ map-append field_word s.front s.back in
    let same_length : length (map field_word h.read) ≡ length (map field_word s.front) =
    omega (arith, length-map h.read field_word, length-map s.front field_word, length-are_of (items_of form groups) h.read h.begins.each, length-are_of (items_of form groups) s.front s.first) in
    let left_is : words_of left ≡ map field_word s.back = (same_front (map field_word h.read) (map field_word s.front) (words_of left) (map field_word s.back) same_length (sym h.begins.spelled ∙ whole)).1 in
    none t.front (map field_word t.back) (record { each = t.first; spelled = left_is ∙ ap (map field_word) t.whole ∙ map-append field_word t.front t.back })

pub group_error : (form : Form) (line left : List ℕ) (old mid new : Reading) (groups : ℕ) (e : FieldError) → HasRead form line left old groups → words_of left ≢ []
    → TakesItems form.group left mid new (Err e) → Reads (SaysFields form line) (KeepsLimits form) (Err e)
group_error form line left old mid new groups errors.Form h some none = λ fields says.
    let lt : groups < says.1.groups = more_groups (length form.items) says.1.groups (length form.group) groups (length (words_of left))
    (sym (length_said form line fields says) ∙ words_left form line left old groups h) (some_words (words_of left) some) in
    next_group form line left old groups says.1.groups h lt none fields says.1.each says.0
group_error form line left old mid new groups errors.Limit h some never = absurd never
group_error form line left old mid new groups errors.NoMemory h some t = tt

-- ---- no word is left

all_said : (form : Form) (line left : List ℕ) (reading : Reading) (groups : ℕ) (h : HasRead form line left reading groups) → words_of left ≡ [] → words_of line ≡ map field_word h.read
all_said form line left reading groups h none = h.begins.spelled ∙ ap (λ (ws : List (List ℕ)). map field_word h.read ++ ws) none ∙ append-nil (map field_word h.read)

pub repeated_nothing : (m n : ℕ) (group : List Item) → length group ≡ 0 → repeated m group ≡ repeated n group
repeated_nothing m n [] e = nothing m ∙ sym (nothing n)
  where
    nothing : (n : ℕ) → repeated n [] ≡ []
    nothing zero = refl
    nothing (suc n) = nothing n
repeated_nothing m n (item ∷ group) e = absurd (omega arith)

has_form : (form : Form) (fields : List Field) (groups : ℕ) → are_of (items_of form groups) fields ≡ true → (groups < form.least → length form.group ≡ 0) → HasForm form fields
has_form form fields groups each enough = elim (cases_lt groups form.least) [
  | inl few ↦ record {
    groups = form.least;
    enough = omega arith;
    each = ap (λ (items : List Item). are_of (form.items ++ items) fields) (repeated_nothing form.least groups form.group (enough few)) ∙ each;
  }
  | inr le ↦ record { groups = groups; enough = le; each = each }
]

-- too few groups
pub not_enough : (form : Form) (line left : List ℕ) (reading : Reading) (groups : ℕ) → HasRead form line left reading groups → words_of left ≡ [] → groups < form.least → 0 < length form.group
    → (fields : List Field) → SaysFields form line fields → ⊥
not_enough form line left reading groups h none few some fields says =
    let said : length (words_of line) ≡ length form.items + says.1.groups * length form.group = length_said form line fields says in
    let read : length (words_of line) ≡ length form.items + groups * length form.group + length (words_of left) = words_left form line left reading groups h in
    let nothing : length (words_of left) ≡ 0 = ap length none in
    let less : groups * length form.group < says.1.groups * length form.group = mul-lt-mul_of_pos_right (omega (arith, says.1.enough)) some in
    omega arith

length_read : (form : Form) (line left : List ℕ) (reading : Reading) (groups : ℕ) (h : HasRead form line left reading groups) → length h.read ≡ length form.items + groups * length form.group
length_read form line left reading groups h = length-are_of (items_of form groups) h.read h.begins.each ∙ length_items form groups

-- a limit is passed
pub past_limits : (form : Form) (line left : List ℕ) (reading : Reading) (groups : ℕ) → HasRead form line left reading groups → words_of left ≡ [] → (groups < form.least → length form.group ≡ 0)
    → reading.passed ≡ true → (fields : List Field) × SaysFields form line fields × (KeepsLimits form fields → ⊥)
past_limits form line left reading groups h none enough e = (
  h.read,
  (all_said form line left reading groups h none, has_form form h.read groups h.begins.each enough),
  λ keeps. elim (h.lost e) [
    | inl long ↦ false≢true (sym long ∙ keeps.short)
    | inr many ↦
        let more : form.most * length form.group < groups * length form.group = mul-lt-mul_of_pos_right many (h.some (omega arith)) in
        omega (arith, keeps.few, length_read form line left reading groups h)
  ],
)

-- all is within its limits
pub within_limits : (form : Form) (line left : List ℕ) (reading : Reading) (groups : ℕ) → HasRead form line left reading groups → words_of left ≡ [] → (groups < form.least → length form.group ≡ 0)
    → reading.passed ≡ false → SaysFields form line reading.fields × KeepsLimits form reading.fields
within_limits form line left reading groups h none enough e =
    let few : groups * length form.group ≤ form.most * length form.group = mul-le-mul_right (length form.group) (h.few e) in
    let keeps : KeepsLimits form h.read = record { short = h.short e; few = omega (arith, length_read form line left reading groups h) } in
    let says : SaysFields form line h.read = (all_said form line left reading groups h none, has_form form h.read groups h.begins.each enough) in
    subst (λ (fields : List Field). SaysFields form line fields × KeepsLimits form fields) (sym (h.kept e)) (says, keeps)
