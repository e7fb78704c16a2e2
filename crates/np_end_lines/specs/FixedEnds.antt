-- The ends whose line is the same in every run. (This project's own.)
use Rattle.std.specs.Prelude.{ℕ}
use Rattle.np_end_stops.specs.Status.{DONE, USAGE, FILE_FAILED, PEER_LOST, PIPE_FAILED, NOT_STARTED}
use Rattle.np_end_lines.specs.declared.fixed_end.FixedEnd.{FixedEnd}
use Rattle.np_end_lines.specs.declared.fixed_end.FixedEnd.TheVariants as ends

-- the status of each
abbrev pub fixed_status : FixedEnd → ℕ
fixed_status ends.Done = DONE
fixed_status ends.Usage = USAGE
fixed_status ends.FileFailed = FILE_FAILED
fixed_status ends.PeerLost = PEER_LOST
fixed_status ends.PipeFailed = PIPE_FAILED
fixed_status ends.NotStarted = NOT_STARTED
