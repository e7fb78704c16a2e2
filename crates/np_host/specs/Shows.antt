-- What the host does where it is told to show a file of wire bytes. (This project's own.)
use Rattle.std.specs.Prelude.{ℕ, List, ◌⊎◌, Option}
use Rattle.np_ports.specs.Files.{Contents}
use Rattle.np_show.specs.Show.{ShowsAll, ShowsPart, ShowCut, IsShowStatus}
use Rattle.np_host.specs.Words.{host_command}
use Rattle.np_host.specs.Host.{OfShow, IsCutShort}

-- Statuses 0 and 7: all that there is to show of the named file was printed, and the status is this file's.
abbrev pub ShowsFile : List (List ℕ) → Option Contents → Option (List ℕ) → Option (List ℕ) → ℕ → Type 0
ShowsFile words files taken0 taken1 status = OfShow (host_command words) (λ name. ShowsAll name files taken0 taken1 status)

-- Status 4: the lines of the messages in the first bytes of the named file were printed, and the end line.
abbrev pub ShowsBeginning : List (List ℕ) → Option Contents → Option (List ℕ) → Option (List ℕ) → Type 0
ShowsBeginning words files taken0 taken1 = OfShow (host_command words) (λ name. ShowsPart name files taken0 taken1)

-- Statuses 8 and 10: a part of what was to be printed was printed, and not all.
abbrev pub ShowsCut : List (List ℕ) → Type 0 → Option Contents → Option (List ℕ) → Option (List ℕ) → Type 0
ShowsCut words file_failed files taken0 taken1 = OfShow (host_command words) (λ name. ShowCut name file_failed files taken0 taken1)

-- no other status comes
abbrev pub ShowsOnly : List (List ℕ) → ℕ → Type 0
ShowsOnly words status = OfShow (host_command words) (λ name. IsCutShort status ⊎ IsShowStatus status)
