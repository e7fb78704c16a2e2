-- The order of names. (This project's own.)
use Rattle.std.specs.Prelude.{Bool, true, false, nat_lt, ◌==◌, ◌&&◌, ◌||◌}
use Rattle.np_values.specs.declared.name.Side.{Side}
use Rattle.np_values.specs.declared.name.Side.TheVariants.{Page, Plug}
use Rattle.np_values.specs.declared.name.Name.{Name}

-- the page stands before the plug-in
abbrev pub is_side_before : Side → Side → Bool
is_side_before Page Page = false
is_side_before Page Plug = true
is_side_before Plug Page = false
is_side_before Plug Plug = false

abbrev pub is_same_side : Side → Side → Bool
is_same_side Page Page = true
is_same_side Page Plug = false
is_same_side Plug Page = false
is_same_side Plug Plug = true

-- by side, then by instance, then by serial
abbrev pub is_before : Name → Name → Bool
is_before a b = is_side_before a.side b.side
    || (is_same_side a.side b.side && (nat_lt a.instance b.instance || (a.instance == b.instance && nat_lt a.serial b.serial)))
