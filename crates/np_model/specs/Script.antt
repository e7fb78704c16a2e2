-- What holds of each page that is served. (This project's own.)
use Rattle.std.specs.Prelude.{◌≡◌, ℕ, ◌+◌, ◌<◌, List, [], ◌∷◌, Bool, true, nat_le, ◌&&◌}
use Rattle.std.specs.List.{list_all}
use Rattle.np_values.specs.Text.{is_text}
use Rattle.np_model.specs.declared.script.Command.{Command}
use Rattle.np_model.specs.declared.script.Command.TheVariants.{Create, Turn}
use Rattle.np_model.specs.declared.script.Page.{Page}

-- the modes are 1 or 2, and there are few enough creates after those that were begun
abbrev pub commands_fit : ℕ → List Command → Bool
commands_fit begun [] = nat_le begun 255
commands_fit begun (Create mime mode ∷ cs) = nat_le 1 mode && (nat_le mode 2 && commands_fit (begun + 1) cs)
commands_fit begun (Turn ∷ cs) = commands_fit begun cs

-- a text value has at most 2,048 bytes of UTF-8
abbrev pub has_text : Command → Bool
has_text (Create mime mode) = is_text mime
has_text Turn = true

-- the numbers are bytes, the texts are text values, and the commands fit
pub record IsWellFormed (page : Page) : Type 0 where
  pub major : page.major < 256
  pub minor : page.minor < 256
  pub texts : list_all has_text page.commands ≡ true
  pub fits : commands_fit 0 page.commands ≡ true
