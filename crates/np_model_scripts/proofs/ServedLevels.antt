-- Scripts are served exactly where their level isn't above 1.
use Rattle.std.proofs.Common.{◌≡◌, ◌⊎◌, inl, inr, ◌≤◌, ◌<◌, ◌↔◌, ℕ, ℤ, List, [], ◌∷◌, map, max, Bool, true, false, Option, Some, None, option_map, refl, ap, sym, subst, arith}
use Rattle.std.proofs.lemmas.Bool.{cases_lt}
use Rattle.np_values.specs.declared.name.Side.TheVariants as sides
use Rattle.np_values.specs.declared.value.Value.TheVariants as values
use Rattle.np_values.specs.declared.handler.Handler.{Handler}
use Rattle.np_values.specs.declared.handler.Handler.TheVariants as handlers
use Rattle.np_script_grammar.specs.declared.action.Operand.TheVariants.{Reg, Const}
use Rattle.np_script_grammar.specs.declared.action.Action.{Action}
use Rattle.np_script_grammar.specs.declared.action.Action.TheVariants as actions
use Rattle.np_script_grammar.specs.declared.class.ClassDef.{ClassDef}
use Rattle.np_script_grammar.specs.declared.page.Resource.{Resource}
use Rattle.np_script_grammar.specs.declared.page.Page.{Page}
use Rattle.np_script_grammar.specs.declared.plugin.HandlerDef.{HandlerDef}
use Rattle.np_script_grammar.specs.declared.plugin.TaskDef.{TaskDef}
use Rattle.np_script_grammar.specs.declared.plugin.Plugin.{Plugin}
use Rattle.np_script_grammar.specs.declared.command.Command.{Command}
use Rattle.np_script_grammar.specs.declared.command.Command.TheVariants as commands
use Rattle.np_script_grammar.specs.Grammar.{KeepsPluginRules}
use Rattle.np_model_scripts.specs.Levels.{greatest, new_level, which_level, handler_level, class_level, resource_level, task_level, command_level, page_level, plugin_level}
use Rattle.np_model_scripts.specs.Served.{◌>>=◌, served_command, served_commands, served_parts, served_page, returned_by, served_handler, served_handlers, served_declarations, served_plugin}

-- nothing is there exactly where the number is above 1
record Agrees {A : Type 0} (o : Option A) (n : ℕ) : Type 0 where
  above : o ≡ None → 1 < n
  none : 1 < n → o ≡ None

there : {A : Type 0} (x : A) (n : ℕ) → n ≤ 1 → Agrees (Some x) n
there x n low = record { above = λ e. absurd cc; none = λ high. absurd (omega (arith, low, high)) }

missing : {A : Type 0} (n : ℕ) → 1 < n → Agrees {A = A} None n
missing n high = record { above = λ e. high; none = λ h. refl }

-- ---- the greatest of two

max-left : (a b : ℕ) → 1 < a → 1 < max a b
max-left a b h = omega (arith, h)

max-right : (a b : ℕ) → 1 < b → 1 < max a b
max-right a b h = omega (arith, h)

max-low : (a b : ℕ) → a ≤ 1 → b ≤ 1 → max a b ≤ 1
max-low a b h k = omega (arith, h, k)

low-of : {A : Type 0} (x : A) (n : ℕ) → Agrees (Some x) n → n ≤ 1
low-of {A} x n agrees = by_order (cases_lt 1 n)
  where
    some-none : Some x ≡ None → ⊥
    some-none e = cc

    by_order : (1 < n) ⊎ (n ≤ 1) → n ≤ 1
    by_order (inl high) = absurd (some-none (agrees.none high))
    by_order (inr low) = low

-- ---- commands

command-agrees : (command : Command) → Agrees (served_command command) (command_level command)
command-agrees (commands.Create mime mode []) = there _ 1 (omega arith)
command-agrees (commands.Create mime mode (a ∷ attributes)) = missing 5 (omega arith)
command-agrees (commands.Destroy n) = missing 8 (omega arith)
command-agrees (commands.Scriptable r n) = missing 5 (omega arith)
command-agrees (commands.New r n t) = missing 5 (omega arith)
command-agrees (commands.Set r v) = missing 5 (omega arith)
command-agrees (commands.Drop r) = missing 5 (omega arith)
command-agrees (commands.Invoke r v k vs) = missing 5 (omega arith)
command-agrees (commands.CallDefault r v vs) = missing 5 (omega arith)
command-agrees (commands.Construct r v vs) = missing 5 (omega arith)
command-agrees (commands.Get r v k) = missing 5 (omega arith)
command-agrees (commands.Put v k w) = missing 5 (omega arith)
command-agrees (commands.Remove v k) = missing 5 (omega arith)
command-agrees (commands.HasMethod v k) = missing 5 (omega arith)
command-agrees (commands.HasProperty v k) = missing 5 (omega arith)
command-agrees (commands.Enumerate r v) = missing 5 (omega arith)
command-agrees (commands.Note v) = missing 5 (omega arith)
command-agrees commands.Turn = there _ 1 (omega arith)
command-agrees (commands.OpenStream n t) = missing 9 (omega arith)
command-agrees (commands.Pump n) = missing 9 (omega arith)

both-agree : {A B C : Type 0} (o : Option A) (p : Option B) (f : A → B → C) (m n : ℕ) → Agrees o m → Agrees p n → Agrees (o >>= (λ x. p >>= (λ y. Some (f x y)))) (max m n)
both-agree None p f m n a b = missing (max m n) (max-left m n (a.above refl))
both-agree (Some x) None f m n a b = missing (max m n) (max-right m n (b.above refl))
both-agree (Some x) (Some y) f m n a b = there (f x y) (max m n) (max-low m n (low-of x m a) (low-of y n b))

commands-agree : (cs : List Command) → Agrees (served_commands cs) (greatest (map command_level cs))
commands-agree [] = there [] 0 (omega arith)
commands-agree (c ∷ cs) = both-agree (served_command c) (served_commands cs) (λ x xs. x ∷ xs) (command_level c) (greatest (map command_level cs)) (command-agrees c) (commands-agree cs)

-- ---- pages

deeper : (a b : ℕ) → 1 < b → 1 < max 1 (max a b)
deeper a b h = omega (arith, h)

parts-agree : (classes : List ClassDef) (resources : List Resource) (cs : List Command)
    → Agrees (served_parts classes resources cs) (max 1 (max (greatest (map class_level classes)) (max (greatest (map resource_level resources)) (greatest (map command_level cs)))))
parts-agree [] [] cs = lifted (served_commands cs) (greatest (map command_level cs)) (commands-agree cs)
  where
    lifted : {A : Type 0} (o : Option A) (n : ℕ) → Agrees o n → Agrees o (max 1 (max 0 (max 0 n)))
    lifted None n a = missing _ (deeper 0 (max 0 n) (max-right 0 n (a.above refl)))
    lifted (Some x) n a = there x _ (max-low 1 (max 0 (max 0 n)) (omega arith) (max-low 0 (max 0 n) (omega arith) (max-low 0 n (omega arith) (low-of x n a))))
parts-agree [] (r ∷ resources) cs = missing _ (omega arith)
parts-agree (c ∷ classes) resources cs = missing _ (omega arith)

mapped : {A B : Type 0} (o : Option A) (f : A → B) (n : ℕ) → Agrees o n → Agrees (o >>= (λ x. Some (f x))) n
mapped None f n a = missing n (a.above refl)
mapped (Some x) f n a = there (f x) n (low-of x n a)

pub pages-above : (script : Page) → (served_page script ≡ None) ↔ (1 < page_level script)
pages-above script =
    let a = mapped (served_parts script.classes script.resources script.commands) _ (page_level script) (parts-agree script.classes script.resources script.commands) in
    (a.above, a.none)

-- ---- plug-ins

abbrev answer : ℤ → List Action
answer n = actions.Return (Const (values.Int n)) ∷ []

-- a body is served where it returns a number and does nothing else, and its level is 1 then
data Body (body : List Action) : Type 0 where
  Returns : (n : ℤ) → body ≡ answer n → Body body
  Other : returned_by body ≡ None → 1 < new_level body → Body body

body-of : (body : List Action) → Body body
body-of [] = Other refl (omega arith)
body-of (actions.Return (Const (values.Int n)) ∷ []) = Returns n refl
body-of (actions.Return (Const (values.Int n)) ∷ next ∷ body) = Other refl (omega arith)
body-of (actions.Return (Reg n) ∷ body) = Other refl (omega arith)
body-of (actions.Return (Const values.Void) ∷ body) = Other refl (omega arith)
body-of (actions.Return (Const values.Null) ∷ body) = Other refl (omega arith)
body-of (actions.Return (Const (values.Bool b)) ∷ body) = Other refl (omega arith)
body-of (actions.Return (Const (values.Double d)) ∷ body) = Other refl (omega arith)
body-of (actions.Return (Const (values.Text t)) ∷ body) = Other refl (omega arith)
body-of (actions.Return (Const (values.Object o)) ∷ body) = Other refl (omega arith)
body-of (actions.Set r v ∷ body) = Other refl (omega arith)
body-of (actions.Add r v w ∷ body) = Other refl (omega arith)
body-of (actions.Fail ∷ body) = Other refl (omega arith)
body-of (actions.Throw t ∷ body) = Other refl (omega arith)
body-of (actions.New r t ∷ body) = Other refl (omega arith)
body-of (actions.Drop r ∷ body) = Other refl (omega arith)
body-of (actions.Slot n v ∷ body) = Other refl (omega arith)
body-of (actions.Load r n ∷ body) = Other refl (omega arith)
body-of (actions.SelfTo r ∷ body) = Other refl (omega arith)
body-of (actions.Invoke r v k vs ∷ body) = Other refl (omega arith)
body-of (actions.CallDefault r v vs ∷ body) = Other refl (omega arith)
body-of (actions.Construct r v vs ∷ body) = Other refl (omega arith)
body-of (actions.Get r v k ∷ body) = Other refl (omega arith)
body-of (actions.Put v k w ∷ body) = Other refl (omega arith)
body-of (actions.Remove v k ∷ body) = Other refl (omega arith)
body-of (actions.HasMethod v k ∷ body) = Other refl (omega arith)
body-of (actions.HasProperty v k ∷ body) = Other refl (omega arith)
body-of (actions.Enumerate r v ∷ body) = Other refl (omega arith)
body-of (actions.Window r ∷ body) = Other refl (omega arith)
body-of (actions.GetUrl r v n ∷ body) = Other refl (omega arith)
body-of (actions.RequestRead r v rs ∷ body) = Other refl (omega arith)
body-of (actions.EndStream r v n ∷ body) = Other refl (omega arith)
body-of (actions.Later t ∷ body) = Other refl (omega arith)
body-of (actions.Note v ∷ body) = Other refl (omega arith)
body-of (actions.Destroy r n ∷ body) = Other refl (omega arith)
body-of (actions.OnTrue n ∷ body) = Other refl (omega arith)
body-of (actions.OnFalse n ∷ body) = Other refl (omega arith)
body-of (actions.OnEq v w n ∷ body) = Other refl (omega arith)
body-of (actions.Exit n ∷ body) = Other refl (omega arith)

returned-agrees : (body : List Action) → Agrees (returned_by body) (new_level body)
returned-agrees body = by_body (body-of body)
  where
    by_body : Body body → Agrees (returned_by body) (new_level body)
    by_body (Returns n is) = subst (λ (b : List Action). Agrees (returned_by b) (new_level b)) (sym is) (there n 1 (omega arith))
    by_body (Other none high) = record { above = λ e. high; none = λ h. none }

handler-agrees : (which : Handler) (body : List Action) → Agrees (served_handler (record { which = which; body = body })) (which_level which body)
handler-agrees handlers.New body = returned-agrees body
handler-agrees handlers.Destroy body = missing _ (omega arith)
handler-agrees handlers.Scriptable body = missing _ (omega arith)
handler-agrees handlers.NewStream body = missing _ (omega arith)
handler-agrees handlers.WriteReady body = missing _ (omega arith)
handler-agrees handlers.Write body = missing _ (omega arith)
handler-agrees handlers.AsFile body = missing _ (omega arith)
handler-agrees handlers.DestroyStream body = missing _ (omega arith)
handler-agrees handlers.UrlNotify body = missing _ (omega arith)

-- a handler of a low level is `new` and returns a number
record IsPlain (handler : HandlerDef) : Type 0 where
  number : ℤ
  is : handler ≡ record { which = handlers.New; body = answer number }

plain-body : (body : List Action) → new_level body ≤ 1 → IsPlain (record { which = handlers.New; body = body })
plain-body body low = by_body (body-of body)
  where
    by_body : Body body → IsPlain (record { which = handlers.New; body = body })
    by_body (Returns n is) = record { number = n; is = ap (λ (b : List Action). made b) is }
      where
        made : List Action → HandlerDef
        made b = record { which = handlers.New; body = b }
    by_body (Other none high) = absurd (omega (arith, low, high))

plain : (which : Handler) (body : List Action) → which_level which body ≤ 1 → IsPlain (record { which = which; body = body })
plain handlers.New body low = plain-body body low
plain handlers.Destroy body low = absurd (omega (arith, low))
plain handlers.Scriptable body low = absurd (omega (arith, low))
plain handlers.NewStream body low = absurd (omega (arith, low))
plain handlers.WriteReady body low = absurd (omega (arith, low))
plain handlers.Write body low = absurd (omega (arith, low))
plain handlers.AsFile body low = absurd (omega (arith, low))
plain handlers.DestroyStream body low = absurd (omega (arith, low))
plain handlers.UrlNotify body low = absurd (omega (arith, low))

abbrev plug : ℕ → ℕ → List HandlerDef → Plugin
plug major minor hs = record { major = major; minor = minor; classes = []; handlers = hs; tasks = [] }

-- no two of them stand in one plug-in
not-twice : (major minor : ℕ) (m n : ℤ) (hs : List HandlerDef) → KeepsPluginRules (plug major minor (record { which = handlers.New; body = answer m } ∷ record { which = handlers.New; body = answer n } ∷ hs)) → ⊥
not-twice major minor m n hs keeps = true-false keeps.in_order.1.1.1.1.0.new
  where
    true-false : true ≡ false → ⊥
    true-false e = cc

two-above : (major minor : ℕ) (h next : HandlerDef) (hs : List HandlerDef) → KeepsPluginRules (plug major minor (h ∷ next ∷ hs)) → 1 < max (handler_level h) (max (handler_level next) (greatest (map handler_level hs)))
two-above major minor h next hs keeps = by_order (cases_lt 1 (handler_level h)) (cases_lt 1 (handler_level next))
  where
    by_order : (1 < handler_level h) ⊎ (handler_level h ≤ 1) → (1 < handler_level next) ⊎ (handler_level next ≤ 1) → 1 < max (handler_level h) (max (handler_level next) (greatest (map handler_level hs)))
    by_order (inl high) other = max-left (handler_level h) _ high
    by_order (inr low) (inl high) = max-right (handler_level h) _ (max-left (handler_level next) _ high)
    by_order (inr low) (inr lower) =
        let a = plain h.which h.body low in
        let b = plain next.which next.body lower in
        absurd (not-twice major minor a.number b.number hs
        (subst (λ (x : HandlerDef). KeepsPluginRules (plug major minor (record { which = handlers.New; body = answer a.number } ∷ x ∷ hs))) b.is
        (subst (λ (x : HandlerDef). KeepsPluginRules (plug major minor (x ∷ next ∷ hs))) a.is keeps)))

handlers-agree : (major minor : ℕ) (hs : List HandlerDef) → KeepsPluginRules (plug major minor hs) → Agrees (served_handlers hs) (greatest (map handler_level hs))
handlers-agree major minor [] keeps = there None 0 (omega arith)
handlers-agree major minor (h ∷ []) keeps = lifted (served_handler h) (handler_level h) (handler-agrees h.which h.body)
  where
    lifted : (o : Option ℤ) (n : ℕ) → Agrees o n → Agrees (option_map (λ (x : ℤ). Some x) o) (max n 0)
    lifted None n a = missing (max n 0) (max-left n 0 (a.above refl))
    lifted (Some x) n a = there (Some x) (max n 0) (max-low n 0 (low-of x n a) (omega arith))
handlers-agree major minor (h ∷ next ∷ hs) keeps = missing _ (two-above major minor h next hs keeps)

declarations-agree : (major minor : ℕ) (classes : List ClassDef) (hs : List HandlerDef) (tasks : List TaskDef) → KeepsPluginRules (record { major = major; minor = minor; classes = classes; handlers = hs; tasks = tasks })
    → Agrees (served_declarations classes hs tasks) (max 1 (max (greatest (map class_level classes)) (max (greatest (map handler_level hs)) (greatest (map task_level tasks)))))
declarations-agree major minor [] hs [] keeps = lifted (served_handlers hs) (greatest (map handler_level hs)) (handlers-agree major minor hs keeps)
  where
    lifted : {A : Type 0} (o : Option A) (n : ℕ) → Agrees o n → Agrees o (max 1 (max 0 (max n 0)))
    lifted None n a = missing _ (deeper 0 (max n 0) (max-left n 0 (a.above refl)))
    lifted (Some x) n a = there x _ (max-low 1 (max 0 (max n 0)) (omega arith) (max-low 0 (max n 0) (omega arith) (max-low n 0 (low-of x n a) (omega arith))))
declarations-agree major minor [] hs (t ∷ tasks) keeps = missing _ (omega arith)
declarations-agree major minor (c ∷ classes) hs tasks keeps = missing _ (omega arith)

pub plugins-above : (script : Plugin) → KeepsPluginRules script → (served_plugin script ≡ None) ↔ (1 < plugin_level script)
plugins-above script keeps =
    let a = mapped (served_declarations script.classes script.handlers script.tasks) _ (plugin_level script) (declarations-agree script.major script.minor script.classes script.handlers script.tasks keeps) in
    (a.above, a.none)
