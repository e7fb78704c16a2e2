-- Scripts worked out by hand from the rules, against the definitions.
use Rattle.std.proofs.Common.{◌≡◌, ℕ, pos, [], ◌∷◌, true, false, refl}
use Rattle.std.specs.Prelude.{codes, Some, None}
use Rattle.std.specs.Fmt.{digits}
use Rattle.np_values.specs.declared.value.Value.TheVariants.{Int}
use Rattle.np_values.specs.declared.handler.Handler.TheVariants as handlers
use Rattle.np_values.specs.declared.name.Side.TheVariants as sides
use Rattle.np_idents.specs.declared.key.IdKey.TheVariants as keys
use Rattle.np_script_grammar.specs.declared.action.Operand.TheVariants.{Reg, Const}
use Rattle.np_script_grammar.specs.declared.action.Action.TheVariants as actions
use Rattle.np_script_grammar.specs.declared.command.Command.TheVariants as commands
use Rattle.np_script_grammar.specs.declared.class.Member.TheVariants as members
use Rattle.np_script_grammar.specs.declared.class.ClassDef.{ClassDef}
use Rattle.np_script_grammar.specs.declared.plugin.Plugin.{Plugin}
use Rattle.np_script_grammar.specs.declared.page.Page.{Page}
use Rattle.np_script_grammar.specs.declared.page.Resource.{Resource}
use Rattle.np_script_grammar.specs.declared.line.Field.TheVariants as fields
use Rattle.np_script_grammar.specs.declared.line.Item.TheVariants.{Number, Text}
use Rattle.np_script_grammar.specs.declared.place.Place.TheVariants.{Head, Top, Class, MemberBody, Body, Commands}
use Rattle.np_script_grammar.specs.Forms.{only, form_of}
use Rattle.np_script_grammar.specs.Tables.{table_at}
use Rattle.np_script_grammar.specs.Rows.{text, number, key}
use Rattle.np_script_grammar.specs.Scripts.{alone, copies, place_after, place_behind, canonical_plugin_lines}
use Rattle.np_script_grammar.specs.Order.{Counts, no_counts, counts_after, are_few, is_among}
use Rattle.np_script_grammar.specs.Grammar.{canonical_page, canonical_plugin}

-- ---- canonical texts

calculator : ClassDef
calculator = record {
  name = codes "Calc";
  version = 3;
  stored = false;
  members = members.Method (keys.Str (codes "add")) (actions.Add 2 (Reg 0) (Reg 1) ∷ actions.Return (Reg 2) ∷ []) ∷ [];
}

script_a : Plugin
script_a = record {
  major = 0;
  minor = 27;
  classes = calculator ∷ [];
  handlers = record { which = handlers.New; body = actions.New 0 (codes "Calc") ∷ actions.Slot 0 (Reg 0) ∷ [] }
      ∷ record { which = handlers.Scriptable; body = actions.Load 0 0 ∷ actions.Return (Reg 0) ∷ [] } ∷ [];
  tasks = [];
}

script_a_text : canonical_plugin script_a
    ≡ codes "plugin 0 27\nclass \"Calc\" 3\nmethod \"add\"\nadd $2 $0 $1\nreturn $2\nend\nendclass\nhandler new\nnew $0 \"Calc\"\nslot 0 $0\nend\nhandler scriptable\nload $0 0\nreturn $0\nend\n"
unfolding digits calculator script_a
script_a_text = refl

bag : ClassDef
bag = record { name = codes "Bag"; version = 1; stored = true; members = members.Default [] ∷ [] }

digits_resource : Resource
digits_resource = record { url = codes "u"; mime = codes "t/p"; times = 2; piece = codes "0123"; content = codes "01230123" }

page_of_all : Page
page_of_all = record {
  major = 0;
  minor = 27;
  classes = bag ∷ [];
  resources = digits_resource ∷ [];
  commands = commands.Create (codes "t/x") 1 [] ∷ commands.Put (Reg 0) (keys.Int (pos 12)) (Const (Int (pos 2))) ∷ commands.Pump 20 ∷ commands.Turn ∷ [];
}

-- `data` stands first in its class, whatever members it has
page_text : canonical_page page_of_all
    ≡ codes "page 0 27\nclass \"Bag\" 1\ndata\ndefault\nend\nendclass\nresource \"u\" \"t/p\" 2 \"0123\"\ndo\ncreate \"t/x\" embed\nput $0 12 2\npump 20\nturn\n"
unfolding digits bag digits_resource page_of_all
page_text = refl

resource_content : copies 2 (codes "0123") ≡ codes "01230123"
resource_content = refl

-- a script leads to where it may end
script_a_place : place_behind Head (canonical_plugin_lines script_a) ≡ Top
unfolding calculator script_a
script_a_place = refl

-- ---- words and places

no_task_in_a_page : form_of (table_at sides.Page Top) (codes "task") ≡ None
no_task_in_a_page = refl

no_resource_in_a_plugin : form_of (table_at sides.Plug Top) (codes "resource") ≡ None
no_resource_in_a_plugin = refl

no_exit_in_a_page : form_of (table_at sides.Page MemberBody) (codes "exit") ≡ None
no_exit_in_a_page = refl

no_destroy_in_a_plugin : form_of (table_at sides.Plug Body) (codes "destroy") ≡ None
no_destroy_in_a_plugin = refl

class_versions : form_of (table_at sides.Plug Top) (codes "class") ≡ Some (only (Text ∷ Number 1 3 ∷ []))
class_versions = refl

end_of_a_member : place_after MemberBody (codes "end") ≡ Class
end_of_a_member = refl

end_of_a_task : place_after Body (codes "end") ≡ Top
end_of_a_task = refl

-- ---- limits: so many may be, and one more may not

abbrev classes : ℕ → Counts
classes n = record no_counts { classes = n }

last_class : are_few (counts_after Top (classes 63) (codes "class", text (codes "C") ∷ number 1 ∷ [])) ≡ true
last_class = refl

one_class_more : are_few (counts_after Top (classes 64) (codes "class", text (codes "C") ∷ number 1 ∷ [])) ≡ false
one_class_more = refl

last_member : are_few (counts_after Class (record no_counts { members = 63 }) (codes "getter", key (keys.Int (pos 1)) ∷ [])) ≡ true
last_member = refl

one_member_more : are_few (counts_after Class (record no_counts { members = 64 }) (alone (codes "default"))) ≡ false
one_member_more = refl

-- `data` isn't counted
data_is_no_member : are_few (counts_after Class (record no_counts { members = 64 }) (alone (codes "data"))) ≡ true
data_is_no_member = refl

last_action : are_few (counts_after Body (record no_counts { actions = 255 }) (alone (codes "fail"))) ≡ true
last_action = refl

one_action_more : are_few (counts_after Body (record no_counts { actions = 256 }) (alone (codes "fail"))) ≡ false
one_action_more = refl

one_task_more : are_few (counts_after Top (record no_counts { tasks = 32 }) (codes "task", text (codes "t") ∷ [])) ≡ false
one_task_more = refl

one_create_more : are_few (counts_after Commands (record no_counts { creates = 255 }) (codes "create", text (codes "t/x") ∷ fields.Mode 1 ∷ [])) ≡ false
one_create_more = refl

most_bytes : are_few (counts_after Top (record no_counts { bytes = 16777208 }) (codes "resource", text (codes "u") ∷ text (codes "t/p") ∷ number 2 ∷ text (codes "0123") ∷ [])) ≡ true
most_bytes = refl

too_many_bytes : are_few (counts_after Top (record no_counts { bytes = 16777209 }) (codes "resource", text (codes "u") ∷ text (codes "t/p") ∷ number 2 ∷ text (codes "0123") ∷ [])) ≡ false
too_many_bytes = refl

-- ---- what is there already

same_name : is_among (codes "class \"C\"" ∷ []) (codes "class", text (codes "C") ∷ number 2 ∷ []) ≡ true
unfolding digits
same_name = refl

other_kind : is_among (codes "getter 12" ∷ []) (codes "setter", key (keys.Int (pos 12)) ∷ []) ≡ false
unfolding digits
other_kind = refl

-- the string "12" and the integer 12 are two identifiers
string_and_integer : is_among (codes "getter 12" ∷ []) (codes "getter", key (keys.Str (codes "12")) ∷ []) ≡ false
string_and_integer = refl

second_data : is_among (codes "data" ∷ []) (alone (codes "data")) ≡ true
second_data = refl
