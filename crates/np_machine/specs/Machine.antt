-- The machine of both sides in one process. (This project's own.)
use Rattle.std.specs.Prelude.{ℕ, zero, suc, List, [], ◌∷◌, take, Option, Some, None}
use Rattle.np_values.specs.declared.name.Side.{Side}
use Rattle.np_values.specs.declared.name.Side.TheVariants.{Page, Plug}
use Rattle.np_message.specs.Message.{Message}
use Rattle.np_machine.specs.Side.{SideState, at_start}
use Rattle.np_machine.specs.Plan.{Plans}
use Rattle.np_machine.specs.Turn.{is_remote_by_places, turn}

-- both sides of one process
pub record Machine (C D : Type 0) : Type 0 where
  pub page : SideState C
  pub plugin : SideState D

-- both sides before anything was done
abbrev pub both_start : {C D : Type 0} → C → D → Machine C D
both_start c d = record { page = at_start Page c; plugin = at_start Plug d }

-- the messages that come through a gate: all, or the first so many
abbrev pub through : Option ℕ → List Message → List Message
through None messages = messages
through (Some k) messages = take k messages

-- the page has a turn, and the plug-in stays as it is
abbrev pub page_turn : {C D : Type 0} → Plans C → Option ℕ → Machine C D → Machine C D
page_turn P k w = record { page = turn (is_remote_by_places w.plugin) P (through k w.plugin.sent) w.page; plugin = w.plugin }

-- the plug-in has a turn, and the page stays as it is
abbrev pub plugin_turn : {C D : Type 0} → Plans D → Option ℕ → Machine C D → Machine C D
plugin_turn Q j w = record { page = w.page; plugin = turn (is_remote_by_places w.page) Q (through j w.page.sent) w.plugin }

-- the sides take turns in this order
abbrev pub run : {C D : Type 0} → Plans C → Plans D → List Side → Machine C D → Machine C D
run P Q [] w = w
run P Q (Page ∷ order) w = run P Q order (page_turn P None w)
run P Q (Plug ∷ order) w = run P Q order (plugin_turn Q None w)

-- One process: in each round the page has a turn, and then the plug-in. Of the plug-in's messages the gate k lets through what reaches the page, and the gate j those of the page.
abbrev pub machine_run : {C D : Type 0} → Plans C → Plans D → Option ℕ → Option ℕ → ℕ → Machine C D → Machine C D
machine_run P Q k j zero w = w
machine_run P Q k j (suc n) w = plugin_turn Q j (page_turn P k (machine_run P Q k j n w))
