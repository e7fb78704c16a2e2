-- The calls of a side that wait for the other side's reply, as its frames show them. (This project's own.)
use Rattle.std.specs.Prelude.{Bool, List, None, Option, Some, [], false, if◌then◌else◌, not, true, ℕ, ◌&&◌, ◌+◌, ◌==◌, ◌||◌, ◌∷◌}
use Rattle.np_message.specs.declared.depth.Depth.{Depth}
use Rattle.np_machine.specs.declared.frame.Caller.TheVariants.{FrameBelow, HandlerCall, RemoteCall}
use Rattle.np_machine.specs.declared.frame.Caller.{Caller}
use Rattle.np_machine.specs.declared.frame.Continuation.{Continuation}
use Rattle.np_machine.specs.declared.frame.Frame.{Frame}
use Rattle.np_machine_plans.specs.PlanParts.{is_same_bool}

-- the frame waits for a result
abbrev pub awaits_result : Option Continuation → Bool
awaits_result None = false
awaits_result (Some continuation) = true

-- the frame was called by the one below it
abbrev pub is_frame_below : Caller → Bool
is_frame_below FrameBelow = true
is_frame_below other = false

-- The depths of the open calls that bodies made, the newest first. A frame that waits made one, unless the frame above it is what it waits for.
-- `task` says of the frames from a caller down whether its call has a task's mark, `called` that the frame above was called by this one.
abbrev pub open_depths : (List Frame → Bool) → Bool → List Frame → List Depth
open_depths task called [] = []
open_depths task called (a ∷ below) =
    if awaits_result a.progress.awaits && not called then
    (record { level = a.depth + 1; task = task (a ∷ below) } ∷ open_depths task (is_frame_below a.caller) below)
    else open_depths task (is_frame_below a.caller) below

-- the level of the newest open call, or 0
abbrev pub last_level : List Depth → ℕ
last_level [] = 0
last_level (d ∷ ds) = d.level

-- a reply has the depth of the newest open call, mark and level
abbrev pub is_depth_of_newest : Depth → List Depth → Bool
is_depth_of_newest depth [] = false
is_depth_of_newest depth (d ∷ ds) = depth.level == d.level && is_same_bool depth.task d.task

-- ---- calls that are served

-- a frame that the other side called, or one below it
abbrev pub is_served : Caller → Bool → Bool
is_served (RemoteCall depth) below = true
is_served (HandlerCall depth handler size) below = true
is_served other below = below

-- a body that the other side called is on the stack
abbrev pub serves_call : List Frame → Bool
serves_call [] = false
serves_call (a ∷ below) = is_served a.caller (serves_call below)

-- a frame that a task of the other side called, or one below it
abbrev pub is_task_served : Caller → Bool → Bool
is_task_served (RemoteCall depth) below = depth.task || below
is_task_served other below = below

-- a body that a task of the other side called is on the stack
abbrev pub serves_task : List Frame → Bool
serves_task [] = false
serves_task (a ∷ below) = is_task_served a.caller (serves_task below)
