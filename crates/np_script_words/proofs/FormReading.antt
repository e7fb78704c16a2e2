-- What was read of a line, group by group.
use Rattle.std.proofs.Common.{◌≡◌, ℕ, zero, suc, ◌+◌, ◌*◌, ◌<◌, ◌≤◌, List, [], ◌++◌, length, map, Bool, true, false, not, ◌&&◌, ◌||◌, nat_lt, Err, refl, ap, sym, ◌∙◌, subst, arith, append_assoc, inl, inr, ◌⊎◌, mul-le-mul_right}
use Rattle.std.specs.List.{list_all}
use Rattle.std.proofs.lemmas.Bool.{and_from, cases_lt}
use Rattle.std.proofs.lemmas.Bool.Decides.{nat_tests}
use Rattle.std.proofs.lemmas.List.{length-append, length-map, map-append, append-nil}
use Rattle.std.proofs.lemmas.List.Folds.{list_all-append}
use Rattle.np_script_grammar.specs.declared.line.Item.{Item}
use Rattle.np_script_grammar.specs.declared.line.Field.{Field}
use Rattle.np_script_grammar.specs.Fields.{field_word, is_short}
use Rattle.np_script_grammar.specs.Words.{words_of}
use Rattle.np_script_grammar.specs.Forms.{Form, KeepsLimits, repeated}
use Rattle.np_script_words.specs.declared.error.FieldError.{FieldError}
use Rattle.np_script_words.specs.declared.error.FieldError.TheVariants as errors
use Rattle.np_script_words.specs.declared.fields.Reading.{Reading}
use Rattle.np_script_words.specs.Reads.{Reads}
use Rattle.np_script_words.specs.Lines.{BeginsWith, IsAfter, SaysFields, TakesItems}
use Rattle.np_script_words.proofs.FieldLists.{length-are_of, are_of-append, are_of-split, Split}

-- the items of a form with so many groups
abbrev pub items_of : Form → ℕ → List Item
items_of form n = form.items ++ repeated n form.group

-- so many groups were read, and what `reading` keeps of them
pub record HasRead (form : Form) (line left : List ℕ) (reading : Reading) (groups : ℕ) : Type 0 where
  pub read : List Field
  pub begins : BeginsWith (items_of form groups) (words_of line) read (words_of left)
  pub kept : reading.passed ≡ false → reading.fields ≡ read
  pub short : reading.passed ≡ false → list_all is_short read ≡ true
  pub few : reading.passed ≡ false → groups ≤ form.most
  pub lost : reading.passed ≡ true → (list_all is_short read ≡ false) ⊎ (form.most < groups)
  pub some : 0 < groups → 0 < length form.group
  pub within : groups + length left ≤ length line

-- ---- repeated groups

pub repeated_add : (m k : ℕ) (group : List Item) → repeated (m + k) group ≡ repeated m group ++ repeated k group
repeated_add zero k group = let e : 0 + k ≡ k = omega arith in ap (λ (n : ℕ). repeated n group) e
repeated_add (suc m) k group =
    let e : suc m + k ≡ suc (m + k) = omega arith in
    ap (λ (n : ℕ). repeated n group) e ∙ ap (λ (items : List Item). group ++ items) (repeated_add m k group) ∙ sym (append_assoc group (repeated m group) (repeated k group))

pub repeated_one : (group : List Item) → repeated 1 group ≡ group
repeated_one group = append-nil group

pub length-repeated : (n : ℕ) (group : List Item) → length (repeated n group) ≡ n * length group
length-repeated zero group = omega arith
length-repeated (suc n) group = grind (arith, length-append group (repeated n group), length-repeated n group)

-- ---- how many words there are

pub length_items : (form : Form) (n : ℕ) → length (items_of form n) ≡ length form.items + n * length form.group
length_items form n = length-append form.items (repeated n form.group) ∙ ap (λ (k : ℕ). length form.items + k) (length-repeated n form.group)

pub length_said : (form : Form) (line : List ℕ) (fields : List Field) (says : SaysFields form line fields) → length (words_of line) ≡ length form.items + says.1.groups * length form.group
length_said form line fields says =
    omega (arith, ap length says.0, length-map fields field_word, length-are_of (items_of form says.1.groups) fields says.1.each, length_items form says.1.groups)

pub more_groups : (a b c d e : ℕ) → a + b * c ≡ a + d * c + e → 0 < e → d < b
more_groups a b c d e same some = elim (cases_lt d b) [
  | inl lt ↦ lt
  | inr le ↦ absurd (omega (arith, mul-le-mul_right c le))
]

-- ---- the first items

pub first_error : (form : Form) (line : List ℕ) (old new : Reading) (e : FieldError) → TakesItems form.items line old new (Err e) → Reads (SaysFields form line) (KeepsLimits form) (Err e)
first_error form line old new errors.Form none = λ fields says.
    let s : Split form.items (repeated says.1.groups form.group) fields = are_of-split form.items (repeated says.1.groups form.group) fields says.1.each in
    none s.front (map field_word s.back) (record { each = s.first; spelled = says.0 ∙ ap (map field_word) s.whole ∙ map-append field_word s.front s.back })
first_error form line old new errors.Limit never = absurd never
first_error form line old new errors.NoMemory t = tt

short_from : (s : Bool) (p : Bool) → p ≡ (false || not s) → p ≡ false → s ≡ true
short_from true p e f = refl
short_from false p e f = absurd cc

long_from : (s : Bool) (p : Bool) → p ≡ (false || not s) → p ≡ true → s ≡ false
long_from true p e f = absurd cc
long_from false p e f = refl

pub first_read : (form : Form) (line left : List ℕ) (old new : Reading) (read : List Field) → BeginsWith form.items (words_of line) read (words_of left) → IsAfter old new read
    → old.passed ≡ false → old.fields ≡ [] → length left ≤ length line → HasRead form line left new 0
first_read form line left old new read b after fresh empty within =
    let passed : new.passed ≡ (false || not (list_all is_short read)) = after.passed ∙ ap (λ (p : Bool). p || not (list_all is_short read)) fresh in
    record {
      read = read;
      begins = subst (λ (items : List Item). BeginsWith items (words_of line) read (words_of left)) (sym (append-nil form.items)) b;
      kept = λ e. after.kept e ∙ ap (λ (fs : List Field). fs ++ read) empty;
      short = short_from (list_all is_short read) new.passed passed;
      few = λ e. omega arith;
      lost = λ e. inl (long_from (list_all is_short read) new.passed passed e);
      some = λ h. absurd (omega arith);
      within = omega arith;
    }

-- ---- one group more

group_behind : (form : Form) (groups : ℕ) → items_of form groups ++ form.group ≡ items_of form (groups + 1)
group_behind form groups =
    append_assoc form.items (repeated groups form.group) form.group
    ∙ ap (λ (rest : List Item). form.items ++ (repeated groups form.group ++ rest)) (sym (repeated_one form.group))
    ∙ ap (λ (rest : List Item). form.items ++ rest) (sym (repeated_add groups 1 form.group))

begins_append : (xs ys : List Item) (words behind rest : List (List ℕ)) (read more : List Field) → BeginsWith xs words read behind → BeginsWith ys behind more rest → BeginsWith (xs ++ ys) words (read ++ more) rest
begins_append xs ys words behind rest read more a b = record {
  each = are_of-append xs ys read more a.each b.each;
  spelled =
      a.spelled
      ∙ ap (λ (ws : List (List ℕ)). map field_word read ++ ws) b.spelled
      ∙ sym (append_assoc (map field_word read) (map field_word more) rest)
      ∙ ap (λ (ws : List (List ℕ)). ws ++ rest) (sym (map-append field_word read more));
}

or_false : (p q : Bool) → (p || q) ≡ false → (p ≡ false) × (q ≡ false)
or_false true q e = absurd cc
or_false false q e = (refl, e)

or_true : (p q : Bool) → (p || q) ≡ true → (p ≡ true) ⊎ (q ≡ true)
or_true true q e = inl refl
or_true false q e = inr e

long-append : (xs ys : List Field) → (list_all is_short xs ≡ false) ⊎ (list_all is_short ys ≡ false) → list_all is_short (xs ++ ys) ≡ false
long-append xs ys h = list_all-append is_short xs ys ∙ both_long (list_all is_short xs) (list_all is_short ys) h
  where
    both_long : (p q : Bool) → (p ≡ false) ⊎ (q ≡ false) → (p && q) ≡ false
    both_long true true (inl e) = e
    both_long true true (inr e) = e
    both_long true false h = refl
    both_long false q h = refl

pub group_read : (form : Form) (line left next : List ℕ) (old mid new : Reading) (groups : ℕ) (more : List Field) → HasRead form line left old groups
    → BeginsWith form.group (words_of left) more (words_of next) → mid.fields ≡ old.fields → mid.passed ≡ (old.passed || nat_lt form.most (groups + 1)) → IsAfter mid new more
    → 0 < length form.group → length next < length left → HasRead form line next new (groups + 1)
group_read form line left next old mid new groups more h b same marks after some shorter =
    let within : length next + 1 ≤ length left = omega arith in
    record {
      read = h.read ++ more;
      begins = subst (λ (items : List Item). BeginsWith items (words_of line) (h.read ++ more) (words_of next)) (group_behind form groups)
          (begins_append (items_of form groups) form.group (words_of line) (words_of left) (words_of next) h.read more h.begins b);
      kept = λ e.
          let parts = or_false mid.passed (not (list_all is_short more)) (sym after.passed ∙ e) in
          let before = or_false old.passed (nat_lt form.most (groups + 1)) (sym marks ∙ parts.0) in
          after.kept e ∙ ap (λ (fs : List Field). fs ++ more) (same ∙ h.kept before.0);
      short = λ e.
          let parts = or_false mid.passed (not (list_all is_short more)) (sym after.passed ∙ e) in
          let before = or_false old.passed (nat_lt form.most (groups + 1)) (sym marks ∙ parts.0) in
          list_all-append is_short h.read more ∙ and_from (list_all is_short h.read) (list_all is_short more) (h.short before.0) (not_false (list_all is_short more) parts.1);
      few = λ e.
          let parts = or_false mid.passed (not (list_all is_short more)) (sym after.passed ∙ e) in
          let before = or_false old.passed (nat_lt form.most (groups + 1)) (sym marks ∙ parts.0) in
          within_most form.most (groups + 1) before.1;
      lost = λ e. lost_more form old.passed (list_all is_short more) mid.passed groups h.read more marks refl h.lost (or_true mid.passed (not (list_all is_short more)) (sym after.passed ∙ e));
      some = λ lt. some;
      within = omega (arith, h.within);
    }
  where
    not_false : (p : Bool) → not p ≡ false → p ≡ true
    not_false true e = refl
    not_false false e = absurd cc

    within_most : (most n : ℕ) → nat_lt most n ≡ false → n ≤ most
    within_most most n e = grind (arith, nat_tests)

    beyond_most : (most n : ℕ) → nat_lt most n ≡ true → most < n
    beyond_most most n e = grind (arith, nat_tests)

    lost_more : (form : Form) (old short mid : Bool) (groups : ℕ) (read more : List Field) → mid ≡ (old || nat_lt form.most (groups + 1)) → list_all is_short more ≡ short
        → (old ≡ true → (list_all is_short read ≡ false) ⊎ (form.most < groups)) → (mid ≡ true) ⊎ (not short ≡ true) → (list_all is_short (read ++ more) ≡ false) ⊎ (form.most < groups + 1)
    lost_more form true short mid groups read more m s lost h = elim (lost refl) [
      | inl long ↦ inl (long-append read more (inl long))
      | inr many ↦ inr (omega arith)
    ]
    lost_more form false true mid groups read more m s lost (inl e) = inr (beyond_most form.most (groups + 1) (sym m ∙ e))
    lost_more form false true mid groups read more m s lost (inr e) = absurd cc
    lost_more form false false mid groups read more m s lost h = inl (long-append read more (inr s))
