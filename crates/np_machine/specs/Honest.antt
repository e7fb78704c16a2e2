-- Honest messages: of its receiver's objects a message names only what is out. (This project's own.)
use Rattle.std.specs.Prelude.{◌≡◌, ◌+◌, ◌<◌, ◌≤◌, true}
use Rattle.np_values.specs.declared.name.Name.{Name}
use Rattle.np_values.specs.Name.{is_same_side}
use Rattle.np_message.specs.Message.{Message}
use Rattle.np_machine.specs.References.{references_to, released_count, references_in, released_in}
use Rattle.np_machine.specs.Side.{SideState}
use Rattle.np_machine.specs.Turn.{out_count}

-- What holds of a message that p is about to examine, for each object of p.
pub record IsHonest {C : Type 0} (p : SideState C) (m : Message) : Type 0 where
  -- an object that it refers to is out
  pub out : (x : Name) → is_same_side x.side p.side ≡ true → 0 < references_to x (references_in p.side m.body) → 0 < out_count p x
  -- it gives back no more references than are out
  pub few : (x : Name) → is_same_side x.side p.side ≡ true → released_count x m.releases ≤ out_count p x
  -- nor do it and the messages that wait together
  pub few_waiting : (x : Name) → is_same_side x.side p.side ≡ true → released_in x p.undelivered + released_count x m.releases ≤ out_count p x
