-- What a caller sees of a host end, and what it stands for once its plug-in is lost.
use Rattle.std.specs.Prelude.{◌≡◌, ℕ, List, [], ◌++◌, Bool}
use Rattle.np_model.specs.declared.script.Page.{Page}
use Rattle.np_message.specs.Encoding.{encodings}
use Rattle.np_model.specs.Side.{SideState}
use Rattle.np_model.specs.Run.{endpoint_run}
use Rattle.np_model.specs.PagePlan.{PageControl, page_plans, lose}
use Rattle.np_endpoint.specs.End.{EndState}
use Rattle.np_endpoint.specs.declared.halt.Halt.{Halt}
use Rattle.np_endpoint.specs.declared.halt.Halt.TheVariants.{Waiting, Finished, Refused}
use Rattle.np_host_end.specs.declared.host_core.Core.{Core}
use Rattle.np_host_end.specs.Core.{control_of}

-- what a caller sees of these fields
abbrev pub seen : Core → Halt → Bool → EndState Page PageControl
seen core state failed = record {
  script = core.page;
  control = control_of core;
  outgoing = core.outgoing.items;
  journal = core.journal.items;
  consumed = core.feed.consumed;
  unread = core.feed.left;
  state = state;
  failed = failed;
}

-- ---- the plug-in is lost

-- no message was refused
abbrev pub IsUnrefused : Halt → Type 0
IsUnrefused Waiting = Unit {0}
IsUnrefused Finished = Unit {0}
IsUnrefused (Refused r) = ⊥

-- The end of this page whose plug-in was lost when the page's side was p: that side continues without messages. Of its messages the bytes `sent` were cut off, and of its journal `printed`.
pub record StandsLost (page : Page) (p : SideState PageControl) (sent printed : List ℕ) (e : EndState Page PageControl) : Type 0 where
  pub same_script : e.script ≡ page
  pub side : SideState PageControl
  pub turns : ℕ
  pub comes : endpoint_run (page_plans page) [] turns (lose p) ≡ side
  pub control : e.control ≡ side.control
  pub unrefused : IsUnrefused e.state
  pub sent_is : encodings side.sent ≡ sent ++ e.outgoing
  pub printed_is : side.journal ≡ printed ++ e.journal

-- a call carries on what the end stands for whose plug-in is lost
abbrev pub KeepsLost : EndState Page PageControl → EndState Page PageControl → Type 0
KeepsLost old new = (page : Page) (p : SideState PageControl) (sent printed : List ℕ) → StandsLost page p sent printed old → StandsLost page p sent printed new
