-- How a page continues after its plug-in is lost, and what is printed of that. (This project's own.)
use Rattle.std.specs.Prelude.{◌≡◌, ℕ, List, ◌++◌, Option, Some}
use Rattle.np_model.specs.declared.script.Page.{Page}
use Rattle.np_model.specs.Side.{SideState}
use Rattle.np_model.specs.PagePlan.{PageControl}
use Rattle.np_model.specs.HostRun.{GoesOnLost, IsAwaiting}
use Rattle.np_model.specs.Alone.{page_role}
use Rattle.np_endpoint.specs.End.{EndState, StandsFor}
use Rattle.np_end_stops.specs.Causes.{BeginsWith}

-- the page went on alone to `last`, and the lines that it wrote then were printed
abbrev pub Loses : Option (List ℕ) → Option (List ℕ) → EndState Page PageControl → Type 0
Loses taken0 taken1 e =
    (page : Page) (got sent printed sink : List ℕ) → (s : StandsFor page_role page got sent printed e) → taken0 ≡ Some sink →
    (last : SideState PageControl) × (lines : List ℕ) × GoesOnLost page s.side last × (last.journal ≡ printed ++ lines) × (taken1 ≡ Some (sink ++ lines))

-- from `side` the page continues alone to `last`, and of the lines that it writes after those printed a part was printed
pub record PrintsAlone (page : Page) (side : SideState PageControl) (printed sink : List ℕ) (taken1 : Option (List ℕ)) : Type 0 where
  pub last : SideState PageControl
  pub lines : List ℕ
  pub part : List ℕ
  pub lost : GoesOnLost page side last
  pub lines_are : last.journal ≡ printed ++ lines
  pub lines_part : BeginsWith lines part
  pub taken_is : taken1 ≡ Some (sink ++ part)

-- the plug-in was lost, and the printing of the lines that the page wrote then was cut short
abbrev pub LosesPart : Option (List ℕ) → Option (List ℕ) → EndState Page PageControl → Type 0
LosesPart taken0 taken1 e =
    (page : Page) (got sent printed sink : List ℕ) → (s : StandsFor page_role page got sent printed e) → IsAwaiting s.side.control.stage → taken0 ≡ Some sink → PrintsAlone page s.side printed sink taken1
