-- The outstanding calls of a side, and where a call of the other side stands among them. (This project's own.)
use Rattle.std.specs.Prelude.{◌≡◌, ◌≢◌, ◌==◌, ◌&&◌, ◌||◌, ◌⊎◌, ℕ, ◌-◌, ◌<◌, nat_lt, nat_le, List, [], ◌∷◌, ◌++◌, length, filter, slice_get, not, Bool, true, false, if◌then◌else◌, Option, Some, None}
use Rattle.np_values.specs.declared.name.Side.{Side}
use Rattle.np_values.specs.declared.name.Side.TheVariants.{Page, Plug}
use Rattle.np_message.specs.declared.depth.Depth.{Depth}
use Rattle.np_calls.specs.declared.place.Place.{Place}
use Rattle.np_calls.specs.declared.place.Place.TheVariants.{Nested, Crossed, Bad}

-- a side, and the calls that it made and that weren't answered yet, oldest first
pub record Outstanding : Type 0 where
  pub side : Side
  pub calls : List Depth

-- the call that was made last
abbrev pub last_call : List Depth → Option Depth
last_call calls = slice_get calls (length calls - 1)

-- the level of a call, 0 where there is none
abbrev pub level_of : Option Depth → ℕ
level_of (Some depth) = depth.level
level_of None = 0

-- the level of the last call, 0 where none is outstanding
abbrev pub last_level : List Depth → ℕ
last_level calls = level_of (last_call calls)

-- the calls that no task made
abbrev pub unmarked : List Depth → List Depth
unmarked calls = filter (λ depth. not depth.task) calls

-- ---- which calls are outstanding together

-- calls that no task made, to level 64, each deeper than the one before it, and the first than this level
abbrev pub AreDeeper : ℕ → List Depth → Type 0
AreDeeper level [] = Unit {0}
AreDeeper level (depth ∷ depths) = (depth.task ≡ false) × (level < depth.level) × (depth.level < 65) × AreDeeper depth.level depths

-- a task's call, of a level from 1 to 64
abbrev pub IsTaskCall : Depth → Type 0
IsTaskCall depth = (depth.task ≡ true) × (0 < depth.level) × (depth.level < 65)

-- perhaps a task's call, and then calls that no task made, each deeper than the one before it
abbrev pub AreOutstanding : List Depth → Type 0
AreOutstanding calls = AreDeeper 0 calls ⊎ ((first : Depth) × (others : List Depth) × (calls ≡ first ∷ others) × IsTaskCall first × AreDeeper 0 others)

-- a call may be made: its level is at most 64, it lies deeper than the last call that no task made, and a task's call is the first
pub record MayBegin (calls : List Depth) (depth : Depth) : Type 0 where
  pub below : depth.level < 65
  pub deeper : last_level (unmarked calls) < depth.level
  pub first : depth.task ≡ true → calls ≡ []

-- ---- where a call of the other side stands

-- at the page: a task's call crosses the page's call where this is the only one; another is nested in the page's last call where it lies deeper
abbrev pub page_place : List Depth → Depth → Place
page_place calls depth =
    if depth.task then (if length calls == 1 then Crossed else Bad)
    else (if nat_lt 0 (length calls) && nat_lt (last_level calls) depth.level then Nested else Bad)

-- whether a task's call alone is outstanding
abbrev pub is_task_alone : List Depth → Bool
is_task_alone calls = nat_lt 0 (length calls) && (length (unmarked calls) == 0)

-- at the plug-in: no call has a task's mark or, where the plug-in's last call is no task's, lies less deep than it or as deep;
-- it crosses a task's call that is the only one
abbrev pub plugin_place : List Depth → Depth → Place
plugin_place calls depth =
    if depth.task || (nat_lt 0 (length (unmarked calls)) && nat_le depth.level (last_level calls)) then Bad
    else (if is_task_alone calls then Crossed else Nested)

abbrev pub place_of : Outstanding → Depth → Place
place_of own depth = elim own.side [ Page ↦ page_place own.calls depth | Plug ↦ plugin_place own.calls depth ]

-- ---- replies

-- a reply of the last call's level and mark takes this call away; another changes nothing, and gives the level of the last call
abbrev pub Answers : Outstanding → Outstanding → Depth → Option ℕ → Type 0
Answers old new depth None = old ≡ record new { calls = new.calls ++ depth ∷ [] }
Answers old new depth (Some level) = (last_call old.calls ≢ Some depth) × (level ≡ last_level old.calls) × (new ≡ old)
