-- The exit statuses of both programs. (This project's own.)
use Rattle.std.specs.Prelude.{◌≡◌, ℕ, ◌⊎◌}
use Rattle.np_end_stops.specs.declared.ending.Ending.{Ending}
use Rattle.np_end_stops.specs.declared.ending.Ending.TheVariants.{Done, Unsent, Ended, Failed, Refused}

-- the run came to its end
abbrev pub DONE : ℕ
DONE = 0

-- the command line isn't of any form that the program has
abbrev pub USAGE : ℕ
USAGE = 2

-- the script isn't valid, or has a line that the program doesn't support yet
abbrev pub BAD_SCRIPT : ℕ
BAD_SCRIPT = 3

-- a file couldn't be read
abbrev pub FILE_FAILED : ℕ
FILE_FAILED = 4

-- the other program ended before the run did
abbrev pub PEER_LOST : ℕ
PEER_LOST = 5

-- a read from the other program or a write to it failed
abbrev pub PIPE_FAILED : ℕ
PIPE_FAILED = 6

-- what the other program sent was refused
abbrev pub REFUSED : ℕ
REFUSED = 7

-- memory ran out
abbrev pub NO_MEMORY : ℕ
NO_MEMORY = 8

-- the output, or the file of the notes, couldn't be written
abbrev pub OUTPUT_FAILED : ℕ
OUTPUT_FAILED = 10

-- the plug-in program couldn't be started
abbrev pub NOT_STARTED : ℕ
NOT_STARTED = 11

-- the status of each ending
abbrev pub status_of : Ending → ℕ
status_of Done = DONE
status_of Unsent = PIPE_FAILED
status_of Ended = PEER_LOST
status_of Failed = PIPE_FAILED
status_of (Refused r) = REFUSED

-- a status of a script that ran
abbrev pub IsRunStatus : ℕ → Type 0
IsRunStatus status = (status ≡ DONE) ⊎ ((status ≡ PEER_LOST) ⊎ ((status ≡ PIPE_FAILED) ⊎ (status ≡ REFUSED)))
