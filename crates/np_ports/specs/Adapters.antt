-- What the adapters keep of the platform's calls. (This project's own.)
use Rattle.std.specs.Prelude.{◌≡◌, ℕ, List, Bool, is_some, Option, Some, None, Result, Ok, Err, IsOk}
use Rattle.std.specs.declared.io.Error.{Error}
use Rattle.std.specs.declared.io.ErrorKind.TheVariants.{NotConnected}
use Rattle.std.specs.IoError.{error_kind}
use Rattle.std.specs.Io.KnownBytes.{ReadConsumes, WriteAppends}
use Rattle.std.specs.Io.Seek.{SeekMoves}
use Rattle.std.specs.declared.io.SeekFrom.TheVariants.{Start}
use Rattle.np_ports.specs.declared.stdout_sink.StdoutSink.{StdoutSink}
use Rattle.np_ports.specs.declared.child_peer.ChildPeer.{ChildPeer}
use Rattle.np_ports.specs.declared.host_files.HostFiles.{HostFiles}
use Rattle.np_ports.specs.declared.std_peer.StdPeer.{StdPeer}
use Rattle.np_ports.specs.declared.file_sink.FileSink.{FileSink}

-- whether a start was done
abbrev pub child_started : {R S I O E F D : Type 0} → ChildPeer R S I O E F D → Bool
child_started p = p.started

-- whether its program was started and not closed
abbrev pub child_is_open : {R S I O E F D : Type 0} → ChildPeer R S I O E F D → Bool
child_is_open p = is_some p.child

-- there are no pipes, and this isn't out of memory
abbrev pub IsShut : Result ℕ Error → Type 0
IsShut (Ok n) = ⊥
IsShut (Err e) = error_kind e ≡ NotConnected

-- whether a read answered the end
abbrev pub child_ended : {R S I O E F D : Type 0} → ChildPeer R S I O E F D → Bool
child_ended p = p.ended

-- whether a read of its input answered the end
abbrev pub std_ended : {I O : Type 0} → StdPeer I O → Bool
std_ended p = p.ended

-- the counts of failures
abbrev pub child_start_faults : {R S I O E F D : Type 0} → ChildPeer R S I O E F D → ℕ
child_start_faults p = p.start_faults

-- the failures of its reads and writes
abbrev pub child_pipe_faults : {R S I O E F D : Type 0} → ChildPeer R S I O E F D → ℕ
child_pipe_faults p = p.pipe_faults

-- the failures of the platform's files
abbrev pub host_faults : {R F D : Type 0} → HostFiles R F D → ℕ
host_faults f = f.faults

-- the failures of standard output as a sink
abbrev pub stdout_faults : {W : Type 0} → StdoutSink W → ℕ
stdout_faults s = s.faults

-- its answers of out of memory
abbrev pub stdout_memory_faults : {W : Type 0} → StdoutSink W → ℕ
stdout_memory_faults s = s.memory_faults

-- the starts that were asked of a peer that is never started
abbrev pub std_start_faults : {I O : Type 0} → StdPeer I O → ℕ
std_start_faults p = p.start_faults

-- the failures of standard input and output as a peer
abbrev pub std_pipe_faults : {I O : Type 0} → StdPeer I O → ℕ
std_pipe_faults p = p.pipe_faults

-- whether the file was made, and is open
abbrev pub file_sink_is_open : {R F D : Type 0} → FileSink R F D → Bool
file_sink_is_open s = is_some s.open

-- the failures of a file as a sink
abbrev pub file_sink_faults : {R F D : Type 0} → FileSink R F D → ℕ
file_sink_faults s = s.faults

-- its answers of out of memory
abbrev pub file_sink_memory_faults : {R F D : Type 0} → FileSink R F D → ℕ
file_sink_memory_faults s = s.memory_faults

-- The file that is open afterwards took what the write answers. One that wasn't open before was made, or is none still where it couldn't be.
abbrev pub FileTook : {F E : Type 0} → (F → Option (List ℕ)) → Option F → Option F → Result ℕ E → List ℕ → Type 0
FileTook contents (Some before) (Some after) written bytes = WriteAppends (contents before) (contents after) written bytes
FileTook {F} contents None (Some after) written bytes = (before : F) × WriteAppends (contents before) (contents after) written bytes
FileTook contents (Some before) None written bytes = ⊥
FileTook contents None None (Ok n) bytes = ⊥
FileTook contents None None (Err e) bytes = Unit {0}

-- The file that is open afterwards was moved to the place, and gave n bytes from there.
abbrev pub ReadAt : {N F : Type 0} → (F → Option ℕ) → (F → Option (List ℕ)) → (F → Option (List ℕ)) → Option (N × F) → ℕ → ℕ → List ℕ → Type 0
ReadAt position whole remaining None at n buf = ⊥
ReadAt {N} {F} position whole remaining (Some named) at n buf =
    (before : F) × (there : F) × (moved : Result ℕ Error) × IsOk moved × SeekMoves (position before) (position there) (whole before) (Start at) moved
    × ReadConsumes {E = Error} (remaining there) (remaining named.1) (Ok n) buf
