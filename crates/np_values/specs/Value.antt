-- The printed forms of values and of names. (This project's own.)
use Rattle.std.specs.Prelude.{ℕ, List, [], ◌∷◌, ◌++◌, Bool, true, false, codes, if◌then◌else◌}
use Rattle.std.specs.Fmt.{decimal, signed_decimal}
use Rattle.std.specs.List.{flat_map}
use Rattle.np_values.specs.Quoted.{hex_byte, quoted}
use Rattle.np_values.specs.declared.name.Side.{Side}
use Rattle.np_values.specs.declared.name.Side.TheVariants.{Page, Plug}
use Rattle.np_values.specs.declared.name.Name.{Name}
use Rattle.np_values.specs.declared.value.Value.{Value}
use Rattle.np_values.specs.declared.value.Value.TheVariants.{Void, Null, Bool as TruthValue, Int, Double, Text, Object}

abbrev pub side_word : Side → List ℕ
side_word Page = codes "page:"
side_word Plug = codes "plug:"

-- a name: its side, its instance and its serial
abbrev pub printed_name : Name → List ℕ
printed_name name = side_word name.side ++ (decimal name.instance ++ (58 ∷ decimal name.serial))

-- a value; an object that is dead is said to be so
abbrev pub printed : Bool → Value → List ℕ
printed dead Void = codes "void"
printed dead Null = codes "null"
printed dead (TruthValue true) = codes "bool true"
printed dead (TruthValue false) = codes "bool false"
printed dead (Int number) = codes "int " ++ signed_decimal number
printed dead (Double bytes) = codes "double " ++ flat_map hex_byte bytes
printed dead (Text text) = codes "text " ++ quoted text
printed dead (Object name) = codes "object " ++ (printed_name name ++ (if dead then codes " dead" else []))
