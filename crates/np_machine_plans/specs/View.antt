-- What the plans of a side read of it, besides its control. They look at no message that was sent or delivered. (This project's own.)
use Rattle.std.specs.Prelude.{Bool, List, length, ℕ}
use Rattle.np_values.specs.declared.name.Side.{Side}
use Rattle.np_values.specs.declared.value.Value.{Value}
use Rattle.np_message.specs.Message.{Message}
use Rattle.np_machine.specs.declared.frame.Frame.{Frame}
use Rattle.np_machine.specs.declared.instance.Instance.{Instance}
use Rattle.np_machine.specs.declared.object.Object.{Object}
use Rattle.np_machine.specs.Instances.{is_dead_phase, phase_in}
use Rattle.np_machine.specs.Side.{SideState}

pub record SideView : Type 0 where
  pub side : Side
  pub registers : List Value  -- of the page's commands
  pub instances : List Instance  -- in the order in which they were begun
  pub objects : List Object  -- its own, in rising order of names
  pub frames : List Frame  -- the newest first
  pub undelivered : List Message  -- examined and not delivered yet
  pub examined : ℕ  -- how many messages of the other side it examined

-- what they read of this side
abbrev pub view : {C : Type 0} → SideState C → SideView
view p = record {
  side = p.side;
  registers = p.registers;
  instances = p.instances;
  objects = p.objects;
  frames = p.frames;
  undelivered = p.undelivered;
  examined = length p.examined;
}

-- the instance was torn down on this side
abbrev pub is_dead : SideView → ℕ → Bool
is_dead p n = is_dead_phase (phase_in n p.instances)
