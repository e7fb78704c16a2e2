-- Pages that are served are well formed.
use Rattle.std.proofs.Common.{◌≡◌, ◌<◌, ℕ, zero, suc, ◌+◌, List, [], ◌∷◌, length, map, Bool, true, false, nat_le, ◌==◌, ◌&&◌, ◌||◌, Option, Some, None, codes, refl, ap, sym, ◌∙◌, subst, arith}
use Rattle.std.specs.List.{list_all}
use Rattle.std.specs.Str.{is_utf8}
use Rattle.std.proofs.lemmas.Bool.{and_parts}
use Rattle.np_values.specs.Text.{is_text}
use Rattle.np_values.specs.declared.name.Side.TheVariants as sides
use Rattle.np_script_grammar.specs.declared.class.ClassDef.{ClassDef}
use Rattle.np_script_grammar.specs.declared.page.Resource.{Resource}
use Rattle.np_script_grammar.specs.declared.page.Page.{Page as PageScript}
use Rattle.np_script_grammar.specs.declared.command.Command.{Command as ScriptCommand}
use Rattle.np_script_grammar.specs.declared.command.Command.TheVariants as commands
use Rattle.np_script_grammar.specs.declared.place.Place.TheVariants.{Commands}
use Rattle.np_script_grammar.specs.declared.line.Field.{Field}
use Rattle.np_script_grammar.specs.declared.line.Field.TheVariants as fields
use Rattle.np_script_grammar.specs.declared.line.Item.TheVariants as items
use Rattle.np_script_grammar.specs.Forms.{Form, IsOf, HasForm, form_of, are_of, repeated}
use Rattle.np_script_grammar.specs.Tables.{command_table, head_table}
use Rattle.np_script_grammar.specs.Rows.{number, command_line}
use Rattle.np_script_grammar.specs.Order.{Counts, Standing, are_few, AreInOrder}
use Rattle.np_script_grammar.specs.Grammar.{KeepsPageRules}
use Rattle.np_model.specs.declared.script.Command.{Command}
use Rattle.np_model.specs.declared.script.Command.TheVariants.{Create, Turn}
use Rattle.np_model.specs.declared.script.Page.{Page}
use Rattle.np_model.specs.Script.{commands_fit, has_text, IsWellFormed}
use Rattle.np_model_scripts.specs.Served.{◌>>=◌, served_command, served_commands, served_parts, served_page}

-- ---- a line of a known form

same-form : (f g : Form) → Some f ≡ Some g → f ≡ g
same-form f g e = cc

formed : (word : List ℕ) (form : Form) (all : List Field) (is : IsOf command_table (word, all)) → form_of command_table word ≡ Some form → HasForm form all
formed word form all is e = subst (λ (f : Form). HasForm f all) (same-form is.form form (sym is.listed ∙ e)) is.of_form

-- the fields of a `create` line without attributes
record IsCreate (mime : List ℕ) (mode : ℕ) : Type 0 where
  utf8 : is_utf8 mime ≡ true
  known : ((mode == 1) || (mode == 2)) ≡ true
  short : nat_le (length mime) 2048 ≡ true

create_form : Form
create_form = record { items = items.Text ∷ items.Mode ∷ []; group = items.Text ∷ items.Text ∷ []; least = 0; most = 3 }

create-fields : (mime : List ℕ) (mode : ℕ) → IsOf command_table (codes "create", fields.Text mime ∷ fields.Mode mode ∷ []) → IsCreate mime mode
unfolding create_form
create-fields mime mode is =
    let has : HasForm create_form (fields.Text mime ∷ fields.Mode mode ∷ []) = formed (codes "create") create_form _ is refl in
    let each = by_groups has.groups has.each in
    record { utf8 = each.0; known = each.1; short = (and_parts (nat_le (length mime) 2048) _ is.within.short).0 }
  where
    by_groups : (n : ℕ) → are_of (items.Text ∷ items.Mode ∷ repeated n (items.Text ∷ items.Text ∷ [])) (fields.Text mime ∷ fields.Mode mode ∷ []) ≡ true → (is_utf8 mime ≡ true) × (((mode == 1) || (mode == 2)) ≡ true)
    by_groups zero e =
        let both = and_parts (is_utf8 mime) _ e in
        (both.0, (and_parts ((mode == 1) || (mode == 2)) true both.1).0)
    by_groups (suc n) e =
        let both = and_parts (is_utf8 mime) _ e in
        absurd (never (and_parts ((mode == 1) || (mode == 2)) false both.1).1)
      where
        never : false ≡ true → ⊥
        never e = cc

known-mode : (mode : ℕ) → ((mode == 1) || (mode == 2)) ≡ true → (nat_le 1 mode ≡ true) × (nat_le mode 2 ≡ true)
known-mode mode e = by_test (mode == 1) (mode == 2) refl refl e
  where
    by_test : (s t : Bool) → mode == 1 ≡ s → mode == 2 ≡ t → (s || t) ≡ true → (nat_le 1 mode ≡ true) × (nat_le mode 2 ≡ true)
    by_test true t one two e = let is : mode ≡ 1 = grind arith in (ap (λ (n : ℕ). nat_le 1 n) is, ap (λ (n : ℕ). nat_le n 2) is)
    by_test false true one two e = let is : mode ≡ 2 = grind arith in (ap (λ (n : ℕ). nat_le 1 n) is, ap (λ (n : ℕ). nat_le n 2) is)
    by_test false false one two e = absurd cc

-- ---- commands

-- what is served of a command
data Which (command : ScriptCommand) (x : Command) : Type 0 where
  MakesInstance : (mime : List ℕ) (mode : ℕ) → command ≡ commands.Create mime mode [] → x ≡ Create mime mode → Which command x
  MakesTurn : command ≡ commands.Turn → x ≡ Turn → Which command x

which : (command : ScriptCommand) (x : Command) → served_command command ≡ Some x → Which command x
which (commands.Create mime mode []) x e = MakesInstance mime mode refl cc
which (commands.Create mime mode (a ∷ attributes)) x e = absurd cc
which (commands.Destroy n) x e = absurd cc
which (commands.Scriptable r n) x e = absurd cc
which (commands.New r n t) x e = absurd cc
which (commands.Set r v) x e = absurd cc
which (commands.Drop r) x e = absurd cc
which (commands.Invoke r v k vs) x e = absurd cc
which (commands.CallDefault r v vs) x e = absurd cc
which (commands.Construct r v vs) x e = absurd cc
which (commands.Get r v k) x e = absurd cc
which (commands.Put v k w) x e = absurd cc
which (commands.Remove v k) x e = absurd cc
which (commands.HasMethod v k) x e = absurd cc
which (commands.HasProperty v k) x e = absurd cc
which (commands.Enumerate r v) x e = absurd cc
which (commands.Note v) x e = absurd cc
which commands.Turn x e = MakesTurn refl cc
which (commands.OpenStream n t) x e = absurd cc
which (commands.Pump n) x e = absurd cc

abbrev behind : Counts → List (List ℕ) → List (List ℕ) → Standing
behind counts top members = record { place = Commands; counts = counts; at_top = top; in_class = members }

creates-few : (c : Counts) → are_few c ≡ true → nat_le c.creates 255 ≡ true
creates-few c few =
    let a = and_parts (nat_le c.classes 64) _ few in
    let b = and_parts (nat_le c.members 64) _ a.1 in
    let d = and_parts (nat_le c.actions 256) _ b.1 in
    let e = and_parts (nat_le c.tasks 32) _ d.1 in
    (and_parts (nat_le c.creates 255) _ e.1).0

record Fit (begun : ℕ) (cs : List Command) : Type 0 where
  texts : list_all has_text cs ≡ true
  fits : commands_fit begun cs ≡ true

create-fits : (begun : ℕ) (mime : List ℕ) (mode : ℕ) (cs : List Command) → IsCreate mime mode → Fit (begun + 1) cs → Fit begun (Create mime mode ∷ cs)
unfolding is_text
create-fits begun mime mode cs is rest =
    let modes = known-mode mode is.known in
    record { texts = rw (is.short, is.utf8, rest.texts) refl; fits = rw (modes.0, modes.1, rest.fits) refl }

-- the first and the others of what is served
parts : (o : Option Command) (p : Option (List Command)) (cs : List Command) → (o >>= (λ first. p >>= (λ others. Some (first ∷ others)))) ≡ Some cs
    → (x : Command) × (xs : List Command) × (o ≡ Some x) × (p ≡ Some xs) × (cs ≡ x ∷ xs)
parts None p cs e = absurd cc
parts (Some x) None cs e = absurd cc
parts (Some x) (Some xs) cs e = (x, xs, refl, refl, cc)

all-fit : (counts : Counts) (top members : List (List ℕ)) (script : List ScriptCommand) (cs : List Command) → nat_le counts.creates 255 ≡ true
    → AreInOrder sides.Page (behind counts top members) (map command_line script) → served_commands script ≡ Some cs → Fit counts.creates cs
all-fit counts top members [] cs few all e =
    let none : cs ≡ [] = cc in
    subst (Fit counts.creates) (sym none) (record { texts = refl; fits = few })
all-fit counts top members (command ∷ script) cs few all e =
    let p = parts (served_command command) (served_commands script) cs e in
    subst (Fit counts.creates) (sym p.4) (by_which (which command p.0 p.2) (λ c. all-fit c top members script p.1) p.3 all)
  where
    by_which : {x : Command} {xs : List Command} → Which command x
        → ((c : Counts) → nat_le c.creates 255 ≡ true → AreInOrder sides.Page (behind c top members) (map command_line script) → served_commands script ≡ Some xs → Fit c.creates xs)
        → served_commands script ≡ Some xs → AreInOrder sides.Page (behind counts top members) (command_line command ∷ map command_line script) → Fit counts.creates (x ∷ xs)
    by_which {x} {xs} (MakesInstance mime mode is x-is) again rest all =
        let here : AreInOrder sides.Page (behind counts top members) (command_line (commands.Create mime mode []) ∷ map command_line script) =
        subst (λ (c : ScriptCommand). AreInOrder sides.Page (behind counts top members) (command_line c ∷ map command_line script)) is all in
        let more : Counts = record counts { creates = counts.creates + 1 } in
        let fit : Fit (counts.creates + 1) xs = again more (creates-few more here.0.few) here.1 rest in
        subst (λ (y : Command). Fit counts.creates (y ∷ xs)) (sym x-is) (create-fits counts.creates mime mode xs (create-fields mime mode here.0.listed) fit)
    by_which {x} {xs} (MakesTurn is x-is) again rest all =
        let here : AreInOrder sides.Page (behind counts top members) (command_line commands.Turn ∷ map command_line script) =
        subst (λ (c : ScriptCommand). AreInOrder sides.Page (behind counts top members) (command_line c ∷ map command_line script)) is all in
        let fit : Fit counts.creates xs = again counts few here.1 rest in
        subst (λ (y : Command). Fit counts.creates (y ∷ xs)) (sym x-is) (record { texts = fit.texts; fits = fit.fits })

-- ---- pages

head-numbers : (major minor : ℕ) → IsOf (head_table sides.Page) (codes "page", number major ∷ number minor ∷ []) → (major < 256) × (minor < 256)
head-numbers major minor is =
    let form : Form = record { items = items.Number 0 255 ∷ items.Number 0 255 ∷ []; group = []; least = 0; most = 0 } in
    let has : HasForm form (number major ∷ number minor ∷ []) = subst (λ (f : Form). HasForm f (number major ∷ number minor ∷ [])) (same-form is.form form (sym is.listed)) is.of_form in
    let each = by_groups has.groups has.each in
    (grind (arith, each.0), grind (arith, each.1))
  where
    by_groups : (n : ℕ) → are_of (items.Number 0 255 ∷ items.Number 0 255 ∷ repeated n []) (number major ∷ number minor ∷ []) ≡ true → (nat_le major 255 ≡ true) × (nat_le minor 255 ≡ true)
    by_groups n e =
        let a = and_parts (nat_le 0 major && nat_le major 255) _ e in
        let b = and_parts (nat_le 0 minor && nat_le minor 255) _ a.1 in
        ((and_parts (nat_le 0 major) (nat_le major 255) a.0).1, (and_parts (nat_le 0 minor) (nat_le minor 255) b.0).1)

parts-fit : (major minor : ℕ) (classes : List ClassDef) (resources : List Resource) (script : List ScriptCommand) (cs : List Command)
    → KeepsPageRules (record { major = major; minor = minor; classes = classes; resources = resources; commands = script }) → served_parts classes resources script ≡ Some cs
    → IsWellFormed (record { major = major; minor = minor; commands = cs })
parts-fit major minor [] [] script cs keeps e =
    let numbers = head-numbers major minor keeps.in_order.0.listed in
    let fit : Fit 0 cs = all-fit _ _ _ script cs refl keeps.in_order.1.1 e in
    record { major = numbers.0; minor = numbers.1; texts = fit.texts; fits = fit.fits }
parts-fit major minor [] (r ∷ rs) script cs keeps e = absurd cc
parts-fit major minor (c ∷ classes) resources script cs keeps e = absurd cc

abbrev made : ℕ → ℕ → List Command → Page
made major minor cs = record { major = major; minor = minor; commands = cs }

whole : (o : Option (List Command)) (major minor : ℕ) (page : Page) → (o >>= (λ (cs : List Command). Some (made major minor cs))) ≡ Some page → (cs : List Command) × (o ≡ Some cs) × (made major minor cs ≡ page)
whole None major minor page e = absurd cc
whole (Some cs) major minor page e = (cs, refl, cc)

pub well-formed : (script : PageScript) (page : Page) → KeepsPageRules script → served_page script ≡ Some page → IsWellFormed page
well-formed script page keeps e =
    let w = whole (served_parts script.classes script.resources script.commands) script.major script.minor page e in
    subst IsWellFormed w.2 (parts-fit script.major script.minor script.classes script.resources script.commands w.0 keeps w.1)

-- as many commands as the script has
pub as-many : (script : List ScriptCommand) (cs : List Command) → served_commands script ≡ Some cs → length cs ≡ length script
as-many [] cs e = let none : cs ≡ [] = cc in ap length none
as-many (command ∷ script) cs e =
    let p = parts (served_command command) (served_commands script) cs e in
    ap length p.4 ∙ ap suc (as-many script p.1 p.3)

commands-of : (classes : List ClassDef) (resources : List Resource) (script : List ScriptCommand) (cs : List Command) → served_parts classes resources script ≡ Some cs → served_commands script ≡ Some cs
commands-of [] [] script cs e = e
commands-of [] (r ∷ rs) script cs e = absurd cc
commands-of (c ∷ classes) resources script cs e = absurd cc

pub as-many-of : (script : PageScript) (page : Page) → served_page script ≡ Some page → length page.commands ≡ length script.commands
as-many-of script page e =
    let w = whole (served_parts script.classes script.resources script.commands) script.major script.minor page e in
    ap (λ (p : Page). length p.commands) (sym w.2) ∙ as-many script.commands w.0 (commands-of script.classes script.resources script.commands w.0 w.1)
