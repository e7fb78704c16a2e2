-- One side of the machine: all that it is and did. (This project's own.)
-- A side's control is what its plans alone read: its commands or handlers, its tasks, its streams.
use Rattle.std.specs.Prelude.{ℕ, List, [], ◌++◌, Bool}
use Rattle.np_values.specs.declared.name.Side.{Side}
use Rattle.np_values.specs.declared.name.Side.TheVariants.{Page, Plug}
use Rattle.np_values.specs.declared.name.Name.{Name}
use Rattle.np_values.specs.declared.value.Value.{Value}
use Rattle.np_proxy_release.specs.declared.release.Release.{Release}
use Rattle.np_message.specs.Message.{Message}
use Rattle.np_journal.specs.declared.line.Line.{Line}
use Rattle.np_machine.specs.declared.instance.Instance.{Instance}
use Rattle.np_machine.specs.declared.object.Object.{Object}
use Rattle.np_machine.specs.declared.frame.Frame.{Frame}
use Rattle.np_machine.specs.declared.step.PutFile.{PutFile}
use Rattle.np_machine.specs.References.{references_to}
use Rattle.np_machine.specs.Values.{voids}
use Rattle.np_machine.specs.Instances.{phase_in, is_dead_phase, slot_values}
use Rattle.np_machine.specs.Objects.{object_values}
use Rattle.np_machine.specs.Frames.{frame_values}

pub record SideState (C : Type 0) : Type 0 where
  pub side : Side
  pub control : C
  pub registers : List Value  -- of the page's commands
  pub instances : List Instance  -- in the order in which they were begun
  pub objects : List Object  -- its own, in rising order of names
  pub frames : List Frame  -- the newest first
  pub in_flight : List Value  -- between two places, the next one first
  pub handed_over : List Value  -- to the message that is being made
  pub dealloc_queue : List Name  -- own objects that are to be deallocated, the next one first
  pub pending_releases : List Release  -- of the other side's objects, in rising order of names
  pub unreleased : List Name  -- objects of the other side whose references a teardown here never gives back
  pub sent : List Message  -- all messages that it sent
  pub examined : List Message  -- all messages of the other side that it examined
  pub undelivered : List Message  -- of these, those that are not delivered yet, the newest first
  pub delivered : List Message  -- and those that are, in the order of their delivery
  pub journal : List Line
  pub files : List PutFile  -- all files that it put

-- the values of all places, those in flight among them
abbrev pub place_values : {C : Type 0} → SideState C → List Value
place_values p = p.in_flight ++ (p.registers ++ (slot_values p.instances ++ (frame_values p.frames ++ object_values p.objects)))

-- The local reference count: how many places of this side refer to x. It is counted anew, and never stored.
abbrev pub local_count : {C : Type 0} → Name → SideState C → ℕ
local_count x p = references_to x (place_values p)

-- the instance was torn down on this side
abbrev pub is_dead : {C : Type 0} → SideState C → ℕ → Bool
is_dead p n = is_dead_phase (phase_in n p.instances)

-- the registers of a side's commands: the page has 16
abbrev pub registers_of_side : Side → List Value
registers_of_side Page = voids 16
registers_of_side Plug = []

-- a side before anything was done
abbrev pub at_start : {C : Type 0} → Side → C → SideState C
at_start side control = record {
  side = side;
  control = control;
  registers = registers_of_side side;
  instances = [];
  objects = [];
  frames = [];
  in_flight = [];
  handed_over = [];
  dealloc_queue = [];
  pending_releases = [];
  unreleased = [];
  sent = [];
  examined = [];
  undelivered = [];
  delivered = [];
  journal = [];
  files = [];
}
