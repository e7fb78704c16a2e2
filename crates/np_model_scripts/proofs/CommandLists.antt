-- Commands are served one after another.
use Rattle.std.proofs.Common.{◌≡◌, ◌+◌, List, [], ◌∷◌, ◌++◌, Option, Some, None, refl, ap, sym, append_assoc}
use Rattle.np_script_grammar.specs.declared.command.Command.{Command as ScriptCommand}
use Rattle.np_model.specs.declared.script.Command.{Command}
use Rattle.np_model_scripts.specs.Served.{◌>>=◌, served_command, served_commands}

-- what was served before, and what is served of the rest
abbrev pub with_front : List Command → Option (List Command) → Option (List Command)
with_front front None = None
with_front front (Some rest) = Some (front ++ rest)

pub none_in_front : (front : List Command) (rest : Option (List Command)) → rest ≡ None → with_front front rest ≡ None
none_in_front front None e = refl
none_in_front front (Some rest) e = absurd cc

front_moves : (front : List Command) (x : Command) (rest : Option (List Command)) → with_front front (rest >>= (λ others. Some (x ∷ others))) ≡ with_front (front ++ x ∷ []) rest
front_moves front x None = refl
front_moves front x (Some rest) = ap (λ (l : List Command). Some l) (sym (append_assoc front (x ∷ []) rest))

pub one_served : (front : List Command) (c : ScriptCommand) (cs : List ScriptCommand) (x : Command) → served_command c ≡ Some x
    → with_front front (served_commands (c ∷ cs)) ≡ with_front (front ++ x ∷ []) (served_commands cs)
one_served front c cs x e = rw e (front_moves front x (served_commands cs))

pub one_unserved : (front : List Command) (c : ScriptCommand) (cs : List ScriptCommand) → served_command c ≡ None → with_front front (served_commands (c ∷ cs)) ≡ None
one_unserved front c cs e = rw e refl

pub no_front : (rest : Option (List Command)) → with_front [] rest ≡ rest
no_front None = refl
no_front (Some rest) = refl

nothing_behind : (l : List Command) → l ++ [] ≡ l
nothing_behind [] = refl
nothing_behind (x ∷ l) = ap (λ (t : List Command). x ∷ t) (nothing_behind l)

pub all_served : (front : List Command) → with_front front (served_commands []) ≡ Some front
all_served front = ap (λ (l : List Command). Some l) (nothing_behind front)
