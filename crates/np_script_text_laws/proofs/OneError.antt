-- A text is refused for one error, and is no script then.
use Rattle.std.proofs.Common.{◌≡◌, inl, inr, ℕ, ◌+◌, ◌≤◌, List, [], ◌∷◌, ◌++◌, length, true, false, Some, None, refl, ap, sym, ◌∙◌, subst, arith, append_assoc}
use Rattle.np_values.specs.declared.name.Side.{Side}
use Rattle.np_script_grammar.specs.declared.refusal.ScriptKind.{ScriptKind}
use Rattle.np_script_grammar.specs.declared.refusal.ScriptKind.TheVariants as kinds
use Rattle.np_script_grammar.specs.declared.refusal.ScriptError.{ScriptError}
use Rattle.np_script_grammar.specs.Words.{lines_of, is_line, words_of}
use Rattle.np_script_grammar.specs.Forms.{Form, Line, Table, form_of, line_words}
use Rattle.np_script_grammar.specs.Tables.{table_at}
use Rattle.np_script_grammar.specs.Order.{Standing, at_first}
use Rattle.np_script_grammar.specs.Grammar.{AreLinesOf}
use Rattle.np_script_grammar.specs.Refusals.{standing_behind, Begins, AreScript, HasFields, IsNoWord, PassesLimit, IsKind, IsRefusedLine, FirstError}
use Rattle.np_script_words.specs.Laws.{OneLine}
use Rattle.np_script_text_laws.proofs.OneSet.{one-set}
use Rattle.np_script_text_laws.proofs.Refused.{only-line, only-form}

-- ---- parts of texts

-- what begins a beginning begins
shorter : (side : Side) (text rest : List (List ℕ)) → Begins side (text ++ rest) → Begins side text
shorter side text rest b = record { more = rest ++ b.more; lines = b.lines; are_lines = subst (λ (t : List (List ℕ)). AreLinesOf side t b.lines) (append_assoc text rest b.more) b.are_lines; whole = b.whole }

script-begins : (side : Side) (text before behind : List (List ℕ)) (line : List ℕ) (lines : List Line) → text ≡ before ++ line ∷ behind → AreLinesOf side text lines → AreScript side lines → Begins side (before ++ line ∷ [])
script-begins side text before behind line lines e are whole =
    record { more = behind; lines = lines; are_lines = subst (λ (t : List (List ℕ)). AreLinesOf side t lines) (e ∙ sym (regrouped before line behind)) are; whole = whole }
  where
    regrouped : (xs : List (List ℕ)) (x : List ℕ) (ys : List (List ℕ)) → (xs ++ x ∷ []) ++ ys ≡ xs ++ x ∷ ys
    regrouped [] x ys = refl
    regrouped (y ∷ xs) x ys = ap (λ t. y ∷ t) (regrouped xs x ys)

-- two ways to part a text at a line: the same, or one of them is further on
data Parted (before : List (List ℕ)) (line : List ℕ) (other : List (List ℕ)) (at : List ℕ) : Type 0 where
  Same : before ≡ other → line ≡ at → Parted before line other at
  Further : (rest : List (List ℕ)) → other ≡ (before ++ line ∷ []) ++ rest → Parted before line other at
  Nearer : (rest : List (List ℕ)) → before ≡ (other ++ at ∷ []) ++ rest → Parted before line other at

part : (before : List (List ℕ)) (line : List ℕ) (behind other : List (List ℕ)) (at : List ℕ) (rest : List (List ℕ)) → before ++ line ∷ behind ≡ other ++ at ∷ rest → Parted before line other at
part [] line behind [] at rest e = Same refl cc
part [] line behind (x ∷ other) at rest e = Further other (ap (λ (l : List ℕ). l ∷ other) cc)
part (x ∷ before) line behind [] at rest e = Nearer before (ap (λ (l : List ℕ). l ∷ before) cc)
part (x ∷ before) line behind (y ∷ other) at rest e =
    let heads : x ≡ y = cc in
    let tails : before ++ line ∷ behind ≡ other ++ at ∷ rest = cc in
    more heads (part before line behind other at rest tails)
  where
    more : x ≡ y → Parted before line other at → Parted (x ∷ before) line (y ∷ other) at
    more h (Same a b) = Same (ap (λ t. x ∷ t) a ∙ ap (λ (l : List ℕ). l ∷ other) h) b
    more h (Further r a) = Further r (ap (λ t. y ∷ t) a ∙ ap (λ (l : List ℕ). l ∷ ((before ++ line ∷ []) ++ r)) (sym h))
    more h (Nearer r a) = Nearer r (ap (λ t. x ∷ t) a ∙ ap (λ (l : List ℕ). l ∷ ((other ++ at ∷ []) ++ r)) h)

-- ---- kinds exclude each other

apart : (next : List ℕ) → is_line next ≡ false → is_line next ≡ true → ⊥
apart next x y = cc

-- a word of which fields are spelled may stand there
fields-word : (table : Table) (words : List (List ℕ)) (form : Form) (l : Line) → HasFields table words form l → ¬ IsNoWord table words
fields-word table words form l has none =
    let same : none.word ≡ l.0 = heads (sym none.words_are ∙ has.spelled) in
    some-none (sym (ap (form_of table) same ∙ has.listed) ∙ none.unlisted)
  where
    heads : none.word ∷ none.rest ≡ line_words l → none.word ≡ l.0
    heads e = cc

    some-none : Some form ≡ None → ⊥
    some-none e = cc

-- of fields with a limit passed and fields with none passed
limits-apart : OneLine → (side : Side) (s : Standing) (next : List ℕ) (f g : Form) (l m : Line) → HasFields (table_at side s.place) (words_of next) f l → HasFields (table_at side s.place) (words_of next) g m
    → PassesLimit s f l → ¬ PassesLimit s g m → ⊥
limits-apart law side s next f g l m a b passes keeps =
    let lines : l ≡ m = only-line law side s next f g l m a b in
    let forms : f ≡ g = only-form (table_at side s.place) f g l m a.listed b.listed lines in
    keeps (subst (λ (x : Form). PassesLimit s x m) forms (subst (λ (x : Line). PassesLimit s f x) lines passes))

bytes-alone : (side : Side) (s : Standing) (next : List ℕ) (j : ScriptKind) → IsKind side s next kinds.Bytes → IsKind side s next j → kinds.Bytes ≡ j
bytes-alone side s next kinds.Size a b = absurd b
bytes-alone side s next kinds.Bytes a b = refl
bytes-alone side s next kinds.Word a b = absurd (apart next a b.0)
bytes-alone side s next kinds.Form a b = absurd (apart next a b.0)
bytes-alone side s next kinds.Limit a b = absurd (apart next a b.0)
bytes-alone side s next kinds.Twice a b = absurd (apart next a b.0)
bytes-alone side s next kinds.End a b = absurd b

word-alone : (side : Side) (s : Standing) (next : List ℕ) (j : ScriptKind) → IsKind side s next kinds.Word → IsKind side s next j → kinds.Word ≡ j
word-alone side s next kinds.Size a b = absurd b
word-alone side s next kinds.Bytes a b = absurd (apart next b a.0)
word-alone side s next kinds.Word a b = refl
word-alone side s next kinds.Form a b = absurd (b.1 a.1)
word-alone side s next kinds.Limit a b = absurd (fields-word (table_at side s.place) (words_of next) b.1.0 b.1.1 b.1.2 a.1)
word-alone side s next kinds.Twice a b = absurd (fields-word (table_at side s.place) (words_of next) b.1.0 b.1.1 b.1.2 a.1)
word-alone side s next kinds.End a b = absurd b

form-alone : (side : Side) (s : Standing) (next : List ℕ) (j : ScriptKind) → IsKind side s next kinds.Form → IsKind side s next j → kinds.Form ≡ j
form-alone side s next kinds.Size a b = absurd b
form-alone side s next kinds.Bytes a b = absurd (apart next b a.0)
form-alone side s next kinds.Word a b = absurd (a.1 b.1)
form-alone side s next kinds.Form a b = refl
form-alone side s next kinds.Limit a b = absurd (a.2 b.1.0 b.1.1 b.1.2)
form-alone side s next kinds.Twice a b = absurd (a.2 b.1.0 b.1.1 b.1.2)
form-alone side s next kinds.End a b = absurd b

limit-alone : OneLine → (side : Side) (s : Standing) (next : List ℕ) (j : ScriptKind) → IsKind side s next kinds.Limit → IsKind side s next j → kinds.Limit ≡ j
limit-alone law side s next kinds.Size a b = absurd b
limit-alone law side s next kinds.Bytes a b = absurd (apart next b a.0)
limit-alone law side s next kinds.Word a b = absurd (fields-word (table_at side s.place) (words_of next) a.1.0 a.1.1 a.1.2 b.1)
limit-alone law side s next kinds.Form a b = absurd (b.2 a.1.0 a.1.1 a.1.2)
limit-alone law side s next kinds.Limit a b = refl
limit-alone law side s next kinds.Twice a b = absurd (limits-apart law side s next a.1.0 b.1.0 a.1.1 b.1.1 a.1.2 b.1.2 a.1.3 b.1.3)
limit-alone law side s next kinds.End a b = absurd b

twice-alone : OneLine → (side : Side) (s : Standing) (next : List ℕ) (j : ScriptKind) → IsKind side s next kinds.Twice → IsKind side s next j → kinds.Twice ≡ j
twice-alone law side s next kinds.Size a b = absurd b
twice-alone law side s next kinds.Bytes a b = absurd (apart next b a.0)
twice-alone law side s next kinds.Word a b = absurd (fields-word (table_at side s.place) (words_of next) a.1.0 a.1.1 a.1.2 b.1)
twice-alone law side s next kinds.Form a b = absurd (b.2 a.1.0 a.1.1 a.1.2)
twice-alone law side s next kinds.Limit a b = absurd (limits-apart law side s next b.1.0 a.1.0 b.1.1 a.1.1 b.1.2 a.1.2 b.1.3 a.1.3)
twice-alone law side s next kinds.Twice a b = refl
twice-alone law side s next kinds.End a b = absurd b

exclusive : OneLine → (side : Side) (s : Standing) (next : List ℕ) (k j : ScriptKind) → IsKind side s next k → IsKind side s next j → k ≡ j
exclusive law side s next kinds.Size j a b = absurd a
exclusive law side s next kinds.Bytes j a b = bytes-alone side s next j a b
exclusive law side s next kinds.Word j a b = word-alone side s next j a b
exclusive law side s next kinds.Form j a b = form-alone side s next j a b
exclusive law side s next kinds.Limit j a b = limit-alone law side s next j a b
exclusive law side s next kinds.Twice j a b = twice-alone law side s next j a b
exclusive law side s next kinds.End j a b = absurd a

-- ---- one error

same-error : (e f : ScriptError) → e.line ≡ f.line → e.kind ≡ f.kind → e ≡ f
same-error e f a b =
    ap (λ (line : ℕ). made line e.kind) a ∙ ap (λ (kind : ScriptKind). made f.line kind) b
  where
    made : ℕ → ScriptKind → ScriptError
    made line kind = record { line = line; kind = kind }

same-lines : OneLine → (side : Side) (text : List (List ℕ)) (e f : ScriptError) (a : IsRefusedLine side text e) (b : IsRefusedLine side text f) → a.before ≡ b.before → a.line ≡ b.line → e ≡ f
same-lines law side text e f a b befores lines =
    let so_far : AreLinesOf side b.before a.lines = subst (λ (t : List (List ℕ)). AreLinesOf side t a.lines) befores a.so_far in
    let said : a.lines ≡ b.lines = one-set law side b.before a.lines b.lines so_far b.so_far in
    let kind : IsKind side (standing_behind at_first b.lines) b.line e.kind =
    subst (λ (t : List ℕ). IsKind side (standing_behind at_first b.lines) t e.kind) lines
    (subst (λ (ls : List Line). IsKind side (standing_behind at_first ls) a.line e.kind) said a.kind) in
    same-error e f (a.number ∙ ap (λ (t : List (List ℕ)). length t + 1) befores ∙ sym b.number)
    (exclusive law side (standing_behind at_first b.lines) b.line e.kind f.kind kind b.kind)

two-lines : OneLine → (side : Side) (text : List (List ℕ)) (e f : ScriptError) → IsRefusedLine side text e → IsRefusedLine side text f → e ≡ f
two-lines law side text e f a b = by_part (part a.before a.line a.behind b.before b.line b.behind (sym a.text_is ∙ b.text_is))
  where
    by_part : Parted a.before a.line b.before b.line → e ≡ f
    by_part (Same befores lines) = same-lines law side text e f a b befores lines
    by_part (Further rest is) = absurd (a.no_further (shorter side (a.before ++ a.line ∷ []) rest (subst (Begins side) is b.begins)))
    by_part (Nearer rest is) = absurd (b.no_further (shorter side (b.before ++ b.line ∷ []) rest (subst (Begins side) is a.begins)))

-- a text that some script begins with has no refused line
line-not-cut : (side : Side) (text : List (List ℕ)) (e : ScriptError) → IsRefusedLine side text e → Begins side text → ⊥
line-not-cut side text e a begins =
    a.no_further (shorter side (a.before ++ a.line ∷ []) a.behind (subst (Begins side) (a.text_is ∙ sym (regrouped a.before a.line a.behind)) begins))
  where
    regrouped : (xs : List (List ℕ)) (x : List ℕ) (ys : List (List ℕ)) → (xs ++ x ∷ []) ++ ys ≡ xs ++ x ∷ ys
    regrouped [] x ys = refl
    regrouped (y ∷ xs) x ys = ap (λ t. y ∷ t) (regrouped xs x ys)

pub one-error : OneLine → (side : Side) (bytes : List ℕ) (e f : ScriptError) → FirstError side bytes e → FirstError side bytes f → e ≡ f
one-error law side bytes e f (inl a) (inl b) = a.1 ∙ sym b.1
one-error law side bytes e f (inl a) (inr b) = absurd (omega (arith, a.0, b.0))
one-error law side bytes e f (inr a) (inl b) = absurd (omega (arith, a.0, b.0))
one-error law side bytes e f (inr (short, inl a)) (inr (again, inl b)) = two-lines law side (lines_of bytes) e f a b
one-error law side bytes e f (inr (short, inl a)) (inr (again, inr b)) = absurd (line-not-cut side (lines_of bytes) e a b.begins)
one-error law side bytes e f (inr (short, inr a)) (inr (again, inl b)) = absurd (line-not-cut side (lines_of bytes) f b a.begins)
one-error law side bytes e f (inr (short, inr a)) (inr (again, inr b)) = same-error e f (a.number ∙ sym b.number) (a.kind ∙ sym b.kind)

pub no-script : (side : Side) (bytes : List ℕ) (e : ScriptError) (lines : List Line) → FirstError side bytes e → length bytes ≤ 1048576 → AreLinesOf side (lines_of bytes) lines → ¬ AreScript side lines
no-script side bytes e lines (inl a) short are whole = absurd (omega (arith, a.0, short))
no-script side bytes e lines (inr (limit, inl a)) short are whole = a.no_further (script-begins side (lines_of bytes) a.before a.behind a.line lines a.text_is are whole)
no-script side bytes e lines (inr (limit, inr a)) short are whole = a.unfinished lines are whole
