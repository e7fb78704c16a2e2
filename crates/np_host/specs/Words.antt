-- The words of the host's command line. (This project's own.)
use Rattle.std.specs.Prelude.{◌≡◌, ◌≤◌, map, String, string_bytes, ℕ, List, [], ◌∷◌, length, Bool, ◌&&◌, nat_le, ◌==◌, slice_index, bytes_eq, codes, if◌then◌else◌, Option, Some, None, option_map}
use Rattle.std.specs.Global.{Vec, Global}
use Rattle.np_values.specs.declared.name.Side.{Side}
use Rattle.np_values.specs.declared.name.Side.TheVariants as sides
use Rattle.np_host.specs.declared.words.CommandWords.{CommandWords}
use Rattle.np_host.specs.declared.words.CommandWords.TheVariants as read

abbrev pub texts : List (String Global) → List (List ℕ)
texts words = map (λ w. string_bytes w) words

-- what `run` is given: the name of the page's file, and the program with its arguments
pub record RunWords : Type 0 where
  pub page : List ℕ
  pub program : List (List ℕ)

-- what the words tell to do: to run, to check the file of this name as a script of a side, or to show the wire bytes of the file of this name
pub data HostCommand : Type 0 where
  Run : RunWords → HostCommand
  Check : Side → List ℕ → HostCommand
  Show : List ℕ → HostCommand

-- two or more bytes of which the first is `-`
abbrev pub is_option : List ℕ → Bool
is_option word = nat_le 2 (length word) && slice_index word 0 == 45

-- the plain words: the first `--` is left out and all words after it are plain; before it no word is an option
abbrev pub plain_words : List (List ℕ) → Option (List (List ℕ))
plain_words [] = Some []
plain_words (word ∷ words) =
    if bytes_eq word (codes "--") then Some words
    else (if is_option word then None else option_map (λ plain. word ∷ plain) (plain_words words))

-- a page, a program and at most 16 arguments
abbrev pub run_of : List (List ℕ) → Option HostCommand
run_of [] = None
run_of (page ∷ []) = None
run_of (page ∷ program ∷ arguments) =
    if nat_le (length arguments) 16 then Some (Run (record { page = page; program = program ∷ arguments })) else None

-- the side whose scripts this word names
abbrev pub side_named : List ℕ → Option Side
side_named word = if bytes_eq word (codes "page") then Some sides.Page else if bytes_eq word (codes "plugin") then Some sides.Plug else None

-- `page` or `plugin`, and a file
abbrev pub check_of : List (List ℕ) → Option HostCommand
check_of [] = None
check_of (kind ∷ []) = None
check_of (kind ∷ file ∷ []) = option_map (λ side. Check side file) (side_named kind)
check_of (kind ∷ file ∷ word ∷ words) = None

-- a file
abbrev pub show_of : List (List ℕ) → Option HostCommand
show_of [] = None
show_of (file ∷ []) = Some (Show file)
show_of (file ∷ word ∷ words) = None

-- what the plain words of a command say
abbrev pub command_of : (List (List ℕ) → Option HostCommand) → Option (List (List ℕ)) → Option HostCommand
command_of says None = None
command_of says (Some words) = says words

-- `run PAGE PROGRAM ARG*`, `check page FILE`, `check plugin FILE` or `show FILE`; none where the words are of another form
abbrev pub host_command : List (List ℕ) → Option HostCommand
host_command [] = None
host_command (command ∷ words) =
    if bytes_eq command (codes "run") then command_of run_of (plain_words words)
    else if bytes_eq command (codes "check") then command_of check_of (plain_words words)
    else if bytes_eq command (codes "show") then command_of show_of (plain_words words)
    else None

-- ---- what the readers of the words give

abbrev pub GivesWords : Option (Vec (String Global)) → List (String Global) → Type 0
GivesWords None words = plain_words (texts words) ≡ None
GivesWords (Some plain) words = plain_words (texts words) ≡ Some (texts plain.items)

-- the command is to run these words: a page, a program and its arguments
pub record IsRun (plain : List (String Global)) (command : Option HostCommand) : Type 0 where
  pub some : 2 ≤ length plain
  pub run : command ≡ run_of (texts plain)
  pub few : length plain ≤ 18

abbrev pub GivesRun : Option (Vec (String Global)) → Option HostCommand → Type 0
GivesRun None command = command ≡ None
GivesRun (Some plain) command = IsRun plain.items command

-- the command is to check this file as a script of this side
abbrev pub GivesCheck : Option (Side × String Global) → Option HostCommand → Type 0
GivesCheck None command = command ≡ None
GivesCheck (Some check) command = command ≡ Some (Check check.0 (string_bytes check.1))

-- the command is to show this file
abbrev pub GivesShow : Option (String Global) → Option HostCommand → Type 0
GivesShow None command = command ≡ None
GivesShow (Some file) command = command ≡ Some (Show (string_bytes file))

abbrev pub GivesCommand : Option CommandWords → Option HostCommand → Type 0
GivesCommand None command = command ≡ None
GivesCommand (Some (read.Run plain)) command = IsRun plain.items command
GivesCommand (Some (read.Check side file)) command = command ≡ Some (Check side (string_bytes file))
GivesCommand (Some (read.Show file)) command = command ≡ Some (Show (string_bytes file))
