-- Lists of outstanding calls.
use Rattle.std.proofs.Common.{◌≡◌, ◌+◌, ◌-◌, ◌<◌, ◌≤◌, ℕ, zero, suc, Bool, true, false, not, if◌then◌else◌, List, [], ◌∷◌, ◌++◌, length, take, drop, inl, inr, refl, ap, sym, ◌∙◌, subst, arith}
use Rattle.std.proofs.lemmas.List.{length-append, length-take-le}
use Rattle.std.proofs.lemmas.List.Elements.{filter-append}
use Rattle.np_message.specs.declared.depth.Depth.{Depth}
use Rattle.np_calls.specs.Calls.{last_level, unmarked, AreDeeper, AreOutstanding, MayBegin, is_task_alone}

-- ---- calls that no task made

-- the level of the last call, or this level where there is none
abbrev end_level : ℕ → List Depth → ℕ
end_level level [] = level
end_level level (d ∷ ds) = end_level d.level ds

end-last : (d : Depth) (ds : List Depth) → end_level d.level ds ≡ last_level (d ∷ ds)
end-last d [] = refl
end-last d (e ∷ ds) = let n : length (d ∷ e ∷ ds) - 1 ≡ suc (length (e ∷ ds) - 1) = omega arith in end-last e ds ∙ rw n refl

end-level : (ds : List Depth) → end_level 0 ds ≡ last_level ds
end-level [] = refl
end-level (d ∷ ds) = end-last d ds

deeper-length : (level : ℕ) (ds : List Depth) → AreDeeper level ds → level < 65 → length ds + level < 65
deeper-length level [] deeper low = omega (arith, low)
deeper-length level (d ∷ ds) deeper low = let n = deeper-length d.level ds deeper.3 deeper.2 in let m = deeper.1 in omega (arith, n, m)

deeper-append : (level : ℕ) (ds : List Depth) (d : Depth) → AreDeeper level ds → d.task ≡ false → end_level level ds < d.level → d.level < 65 → AreDeeper level (ds ++ d ∷ [])
deeper-append level [] d deeper plain low below = (plain, low, below, tt)
deeper-append level (e ∷ ds) d deeper plain low below = (deeper.0, deeper.1, deeper.2, deeper-append e.level ds d deeper.3 plain low below)

deeper-take : (level : ℕ) (n : ℕ) (ds : List Depth) → AreDeeper level ds → AreDeeper level (take n ds)
deeper-take level zero ds deeper = tt
deeper-take level (suc n) [] deeper = tt
deeper-take level (suc n) (d ∷ ds) deeper = (deeper.0, deeper.1, deeper.2, deeper-take d.level n ds deeper.3)

unmarked-plain : (d : Depth) (ds : List Depth) → d.task ≡ false → unmarked (d ∷ ds) ≡ d ∷ unmarked ds
unmarked-plain d ds plain = subst (λ (b : Bool). (if not b then d ∷ unmarked ds else unmarked ds) ≡ d ∷ unmarked ds) (sym plain) refl

unmarked-task : (d : Depth) (ds : List Depth) → d.task ≡ true → unmarked (d ∷ ds) ≡ unmarked ds
unmarked-task d ds task = subst (λ (b : Bool). (if not b then d ∷ unmarked ds else unmarked ds) ≡ unmarked ds) (sym task) refl

unmarked-deeper : (level : ℕ) (ds : List Depth) → AreDeeper level ds → unmarked ds ≡ ds
unmarked-deeper level [] deeper = refl
unmarked-deeper level (d ∷ ds) deeper = unmarked-plain d ds deeper.0 ∙ ap (λ (l : List Depth). d ∷ l) (unmarked-deeper d.level ds deeper.3)

-- ---- all calls

pub outstanding-length : (calls : List Depth) → AreOutstanding calls → length calls ≤ 65
outstanding-length calls (inl deeper) = let n = deeper-length 0 calls deeper (omega arith) in omega (arith, n)
outstanding-length calls (inr task) = let n = deeper-length 0 task.1 task.4 (omega arith) in let m = ap (λ (l : List Depth). length l) task.2 in omega (arith, n, m)

pub outstanding-take : (n : ℕ) (calls : List Depth) → AreOutstanding calls → AreOutstanding (take n calls)
outstanding-take n calls (inl deeper) = inl (deeper-take 0 n calls deeper)
outstanding-take zero calls (inr task) = inl tt
outstanding-take (suc n) calls (inr task) = inr (task.0, take n task.1, ap (λ (l : List Depth). take (suc n) l) task.2, task.3, deeper-take 0 n task.1 task.4)

begun-plain : (calls : List Depth) (d : Depth) → AreOutstanding calls → d.task ≡ false → last_level (unmarked calls) < d.level → d.level < 65 → AreOutstanding (calls ++ d ∷ [])
begun-plain calls d (inl deeper) plain low below =
    let same = end-level calls ∙ ap last_level (sym (unmarked-deeper 0 calls deeper)) in
    inl (deeper-append 0 calls d deeper plain (subst (λ (n : ℕ). n < d.level) (sym same) low) below)
begun-plain calls d (inr task) plain low below =
    let others : unmarked calls ≡ task.1 = ap (λ (l : List Depth). unmarked l) task.2 ∙ unmarked-task task.0 task.1 task.3.0 ∙ unmarked-deeper 0 task.1 task.4 in
    let same = end-level task.1 ∙ ap last_level (sym others) in
    inr (task.0, task.1 ++ d ∷ [], ap (λ (l : List Depth). l ++ d ∷ []) task.2, task.3, deeper-append 0 task.1 d task.4 plain (subst (λ (n : ℕ). n < d.level) (sym same) low) below)

begun-by : (b : Bool) (calls : List Depth) (d : Depth) → d.task ≡ b → AreOutstanding calls → MayBegin calls d → AreOutstanding (calls ++ d ∷ [])
begun-by false calls d plain out may = begun-plain calls d out plain may.deeper may.below
begun-by true calls d task out may =
    let low = may.deeper in
    subst (λ (l : List Depth). AreOutstanding (l ++ d ∷ [])) (sym (may.first task)) (inr (d, [], refl, (task, omega (arith, low), may.below), tt))

-- the calls with one more that may begin
pub begun : (calls : List Depth) (d : Depth) → AreOutstanding calls → MayBegin calls d → AreOutstanding (calls ++ d ∷ [])
begun calls d out may = begun-by d.task calls d refl out may

-- there is room for a call that may begin
pub room : (calls : List Depth) (d : Depth) → AreOutstanding calls → MayBegin calls d → length calls < 65
room calls d out may = let n = outstanding-length (calls ++ d ∷ []) (begun calls d out may) in let m = length-append calls (d ∷ []) in omega (arith, n, m)

-- there is room for it in the array
pub room-at : (n : ℕ) (depths calls : List Depth) (d : Depth) → calls ≡ take n depths → n ≤ length depths → AreOutstanding (take n depths) → MayBegin calls d → n < 65
room-at n depths calls d same within out may =
    let m = room calls d (subst (λ (l : List Depth). AreOutstanding l) (sym same) out) may in
    let k = ap (λ (l : List Depth). length l) same ∙ length-take-le n depths within in
    omega (arith, m, k)

take-shorter : (k n : ℕ) (calls : List Depth) → k ≤ n → take k (take n calls) ≡ take k calls
take-shorter zero n calls less = refl
take-shorter (suc k) zero calls less = absurd (omega (arith, less))
take-shorter (suc k) (suc n) [] less = refl
take-shorter (suc k) (suc n) (d ∷ ds) less = ap (λ (l : List Depth). d ∷ l) (take-shorter k n ds (omega (arith, less)))

-- ---- a task's call alone

second-plain : (d e : Depth) (ds : List Depth) → AreOutstanding (d ∷ e ∷ ds) → e.task ≡ false
second-plain d e ds (inl deeper) = deeper.3.0
second-plain d e ds (inr task) =
    let others : task.1 ≡ e ∷ ds = sym (ap (λ (l : List Depth). drop 1 l) task.2) in
    let deeper : AreDeeper 0 (e ∷ ds) = subst (λ (l : List Depth). AreDeeper 0 l) others task.4 in
    deeper.0

two-by : (b : Bool) (d e : Depth) (ds : List Depth) → d.task ≡ b → e.task ≡ false → false ≡ is_task_alone (d ∷ e ∷ ds)
two-by true d e ds task plain = let n = ap (λ (l : List Depth). length l) (unmarked-task d (e ∷ ds) task ∙ unmarked-plain e ds plain) in grind (arith, n)
two-by false d e ds first plain = let n = ap (λ (l : List Depth). length l) (unmarked-plain d (e ∷ ds) first) in grind (arith, n)

-- the calls without the last
pub outstanding-less : (n : ℕ) (calls : List Depth) → AreOutstanding (take n calls) → AreOutstanding (take (n - 1) calls)
outstanding-less n calls out = subst (λ (l : List Depth). AreOutstanding l) (take-shorter (n - 1) n calls (omega arith)) (outstanding-take (n - 1) (take n calls) out)

pub two-are-not-alone : (calls : List Depth) → AreOutstanding calls → 2 ≤ length calls → false ≡ is_task_alone calls
two-are-not-alone [] out two = refl
two-are-not-alone (d ∷ []) out two = absurd (omega (arith, two))
two-are-not-alone (d ∷ e ∷ ds) out two = two-by d.task d e ds refl (second-plain d e ds out)

-- ---- a call that was made

end-append : (level : ℕ) (ds : List Depth) (d : Depth) → end_level level (ds ++ d ∷ []) ≡ d.level
end-append level [] d = refl
end-append level (e ∷ ds) d = end-append e.level ds d

-- it is the last that no task made
pub last-begun : (calls : List Depth) (d : Depth) → d.task ≡ false → last_level (unmarked (calls ++ d ∷ [])) ≡ d.level
last-begun calls d plain =
    let parts : unmarked (calls ++ d ∷ []) ≡ unmarked calls ++ d ∷ [] = filter-append (λ (e : Depth). not e.task) calls (d ∷ []) ∙ ap (λ (l : List Depth). unmarked calls ++ l) (unmarked-plain d [] plain) in
    ap last_level parts ∙ sym (end-level (unmarked calls ++ d ∷ [])) ∙ end-append 0 (unmarked calls) d
