-- Which words may stand at each place of a script, and what stands after them. (This project's own.)
use Rattle.std.specs.Prelude.{List, [], ◌∷◌, ◌++◌, codes}
use Rattle.np_values.specs.declared.name.Side.{Side}
use Rattle.np_values.specs.declared.name.Side.TheVariants as sides
use Rattle.np_script_grammar.specs.declared.line.Item.TheVariants.{Register, Operand, Integer, Number, Text, Identifier, Mode, HandlerWord}
use Rattle.np_script_grammar.specs.declared.place.Place.{Place}
use Rattle.np_script_grammar.specs.declared.place.Place.TheVariants as places
use Rattle.np_script_grammar.specs.declared.line.Item.{Item}
use Rattle.np_script_grammar.specs.Forms.{Form, Table, only}

-- ---- heads and declarations

-- the major and the minor number of a version
abbrev pub head_table : Side → Table
head_table sides.Page = (codes "page", only (Number 0 255 ∷ Number 0 255 ∷ [])) ∷ []
head_table sides.Plug = (codes "plugin", only (Number 0 255 ∷ Number 0 255 ∷ [])) ∷ []

-- A class has a name and a structure version; a resource its URL, its MIME type, and how often its piece comes.
abbrev pub top_table : Side → Table
top_table sides.Page =
    (codes "class", only (Text ∷ Number 1 3 ∷ []))
    ∷ (codes "resource", only (Text ∷ Text ∷ Number 0 16777216 ∷ Text ∷ []))
    ∷ (codes "do", only []) ∷ []
top_table sides.Plug =
    (codes "class", only (Text ∷ Number 1 3 ∷ []))
    ∷ (codes "handler", only (HandlerWord ∷ []))
    ∷ (codes "task", only (Text ∷ [])) ∷ []

abbrev pub class_table : Table
class_table =
    (codes "data", only [])
    ∷ (codes "method", only (Identifier ∷ []))
    ∷ (codes "default", only [])
    ∷ (codes "construct", only [])
    ∷ (codes "getter", only (Identifier ∷ []))
    ∷ (codes "setter", only (Identifier ∷ []))
    ∷ (codes "endclass", only []) ∷ []

-- ---- calls on objects, which are actions and commands

-- these items, and at most eight arguments
abbrev pub with_arguments : List Item → Form
with_arguments items = record { items = items; group = Operand ∷ []; least = 0; most = 8 }

abbrev pub call_table : Table
call_table =
    (codes "set", only (Register ∷ Operand ∷ []))
    ∷ (codes "drop", only (Register ∷ []))
    ∷ (codes "invoke", with_arguments (Register ∷ Operand ∷ Identifier ∷ []))
    ∷ (codes "calldef", with_arguments (Register ∷ Operand ∷ []))
    ∷ (codes "construct", with_arguments (Register ∷ Operand ∷ []))
    ∷ (codes "get", only (Register ∷ Operand ∷ Identifier ∷ []))
    ∷ (codes "put", only (Operand ∷ Identifier ∷ Operand ∷ []))
    ∷ (codes "remove", only (Operand ∷ Identifier ∷ []))
    ∷ (codes "hasm", only (Operand ∷ Identifier ∷ []))
    ∷ (codes "hasp", only (Operand ∷ Identifier ∷ []))
    ∷ (codes "enum", only (Register ∷ Operand ∷ []))
    ∷ (codes "note", only (Operand ∷ [])) ∷ []

-- ---- actions

-- the actions of both sides beside those
abbrev pub shared_action_table : Table
shared_action_table =
    (codes "add", only (Register ∷ Operand ∷ Operand ∷ []))
    ∷ (codes "fail", only [])
    ∷ (codes "return", only (Operand ∷ []))
    ∷ (codes "throw", only (Text ∷ []))
    ∷ (codes "new", only (Register ∷ Text ∷ []))
    ∷ (codes "slot", only (Number 0 7 ∷ Operand ∷ []))
    ∷ (codes "load", only (Register ∷ Number 0 7 ∷ []))
    ∷ (codes "self", only (Register ∷ []))
    ∷ (codes "ontrue", only (Number 1 255 ∷ []))
    ∷ (codes "onfalse", only (Number 1 255 ∷ []))
    ∷ (codes "oneq", only (Operand ∷ Operand ∷ Number 1 255 ∷ [])) ∷ []

-- the actions of one side
abbrev pub own_action_table : Side → Table
own_action_table sides.Page = (codes "destroy", only (Register ∷ Number 1 255 ∷ [])) ∷ []
own_action_table sides.Plug =
    (codes "window", only (Register ∷ []))
    ∷ (codes "geturl", only (Register ∷ Operand ∷ Integer ∷ []))
    ∷ (codes "reqread", record { items = Register ∷ Operand ∷ []; group = Integer ∷ Number 0 4294967295 ∷ []; least = 1; most = 4 })
    ∷ (codes "endstream", only (Register ∷ Operand ∷ Number 0 2 ∷ []))
    ∷ (codes "later", only (Text ∷ []))
    ∷ (codes "exit", only (Number 0 63 ∷ [])) ∷ []

abbrev pub action_table : Side → Table
action_table side = call_table ++ (shared_action_table ++ own_action_table side)

abbrev pub body_table : Side → Table
body_table side = (codes "end", only []) ∷ action_table side

-- ---- commands

abbrev pub command_table : Table
command_table = call_table ++ (
    (codes "create", record { items = Text ∷ Mode ∷ []; group = Text ∷ Text ∷ []; least = 0; most = 3 })
    ∷ (codes "destroy", only (Number 1 255 ∷ []))
    ∷ (codes "scriptable", only (Register ∷ Number 1 255 ∷ []))
    ∷ (codes "new", only (Register ∷ Number 1 255 ∷ Text ∷ []))
    ∷ (codes "turn", only [])
    ∷ (codes "open", only (Number 1 255 ∷ Text ∷ []))
    ∷ (codes "pump", only (Number 1 100000 ∷ [])) ∷ [])

-- what may stand at a place of a page's script, or of a plug-in's
abbrev pub table_at : Side → Place → Table
table_at side places.Head = head_table side
table_at side places.Top = top_table side
table_at side places.Class = class_table
table_at side places.MemberBody = body_table side
table_at side places.Body = body_table side
table_at side places.Commands = command_table
