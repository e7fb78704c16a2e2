-- What the forms in memory tell. (This project's own.)
use Rattle.std.specs.Prelude.{◌≡◌, Bool, true, false, ℕ, List, [], ◌∷◌, ◌++◌, length, map, min, take, drop, Option, Some, None, Result, Ok, Err, String, string_bytes, bytes_eq, if◌then◌else◌}
use Rattle.std.specs.Global.{Vec, Global}
use Rattle.np_ports.specs.declared.error.PortError.{PortError}
use Rattle.np_ports.specs.declared.error.PortError.TheVariants.{Failed, NoMemory}
use Rattle.np_ports.specs.declared.peer_memory.PeerMemory.{PeerMemory}
use Rattle.np_ports.specs.declared.file_call.FileCall.{FileCall}
use Rattle.np_ports.specs.declared.sure_peer.SurePeer.{SurePeer}
use Rattle.np_ports.specs.declared.scripted_peer.ScriptedPeer.{ScriptedPeer}
use Rattle.np_ports.specs.declared.sure_files.SureFiles.{SureFiles}
use Rattle.np_ports.specs.declared.mem_files.MemFiles.{MemFiles}
use Rattle.np_ports.specs.declared.sure_sink.SureSink.{SureSink}
use Rattle.np_ports.specs.declared.mem_sink.MemSink.{MemSink}
use Rattle.np_ports.specs.Peer.{Known}
use Rattle.np_ports.specs.Plan.{Plan, plan_of}

-- what a peer in memory tells
abbrev pub known_of : PeerMemory → Known
known_of p = record {
  starts = map (λ words. map (λ w. string_bytes w) words.items) p.starts.items;
  given = take p.given p.all.items;
  taken = p.taken.items;
  left = drop p.given p.all.items;
  reads = p.reads.items;
}

-- a peer that was not called yet
abbrev pub fresh : List ℕ → Known
fresh given = record { starts = []; given = []; taken = []; left = given; reads = [] }

-- the length of the next read into this many bytes, where it is done
abbrev pub next_count : Known → ℕ → ℕ → ℕ
next_count t piece room = min (length t.left) (min piece room)

abbrev pub sure_known : SurePeer → Known
sure_known p = known_of p.memory

abbrev pub sure_ended : SurePeer → Bool
sure_ended p = p.memory.ended

abbrev pub sure_piece : SurePeer → ℕ
sure_piece p = p.memory.piece

abbrev pub scripted_known : ScriptedPeer → Known
scripted_known p = known_of p.memory

abbrev pub scripted_ended : ScriptedPeer → Bool
scripted_ended p = p.memory.ended

abbrev pub scripted_piece : ScriptedPeer → ℕ
scripted_piece p = p.memory.piece

abbrev pub scripted_plan : ScriptedPeer → Plan
scripted_plan p = plan_of p.plan

abbrev pub scripted_start_faults : ScriptedPeer → ℕ
scripted_start_faults p = p.start_faults

abbrev pub scripted_pipe_faults : ScriptedPeer → ℕ
scripted_pipe_faults p = p.pipe_faults

-- an error can only be out of memory
abbrev pub NeverFails : {T : Type 0} → Result T PortError → Type 0
NeverFails (Ok x) = Unit {0}
NeverFails (Err Failed) = ⊥
NeverFails (Err NoMemory) = Unit {0}

-- the content of the last entry with this name, or this one where there is none
abbrev pub found_after : Option (List ℕ) → List (String Global × Vec ℕ) → List ℕ → Option (List ℕ)
found_after last [] name = last
found_after last (file ∷ files) name = found_after (if bytes_eq (string_bytes file.0) name then Some file.1.items else last) files name

-- the content of the last entry with this name
abbrev pub found : List (String Global × Vec ℕ) → List ℕ → Option (List ℕ)
found files name = found_after None files name

-- these bytes, or none
abbrev pub bytes_or_none : Option (List ℕ) → List ℕ
bytes_or_none (Some bytes) = bytes
bytes_or_none None = []

-- the content under a name, and an empty one where there is none
abbrev pub content_of : List (String Global × Vec ℕ) → List ℕ → List ℕ
content_of files name = bytes_or_none (found files name)

-- the entries with one more at the end
abbrev pub EndsWith : List (String Global × Vec ℕ) → List (String Global × Vec ℕ) → List ℕ → List ℕ → Type 0
EndsWith old new name bytes = (file : String Global × Vec ℕ) × (new ≡ old ++ file ∷ []) × (string_bytes file.0 ≡ name) × (file.1.items ≡ bytes)

-- whether there is none
abbrev pub is_missing : Option (List ℕ) → Bool
is_missing (Some bytes) = false
is_missing None = true

-- the names of the calls that failed, in order, each with whether it was a read or a put
abbrev pub failures_of : List (String Global × FileCall) → List (List ℕ × FileCall)
failures_of failures = map (λ failure. (string_bytes failure.0, failure.1)) failures

-- the entries, of which the last of a name counts
abbrev pub sure_entries : SureFiles → List (String Global × Vec ℕ)
sure_entries f = f.entries.items

abbrev pub mem_entries : MemFiles → List (String Global × Vec ℕ)
mem_entries f = f.entries.items

abbrev pub mem_failures : MemFiles → List (List ℕ × FileCall)
mem_failures f = failures_of f.failures.items

abbrev pub mem_files_plan : MemFiles → Plan
mem_files_plan f = plan_of f.plan

abbrev pub mem_files_faults : MemFiles → ℕ
mem_files_faults f = f.faults

-- the bytes that a sink took
abbrev pub sure_bytes : SureSink → List ℕ
sure_bytes s = s.bytes.items

abbrev pub mem_bytes : MemSink → List ℕ
mem_bytes s = s.bytes.items

abbrev pub mem_sink_plan : MemSink → Plan
mem_sink_plan s = plan_of s.plan

abbrev pub mem_sink_faults : MemSink → ℕ
mem_sink_faults s = s.faults

-- how often a sink answered out of memory
abbrev pub sure_memory_faults : SureSink → ℕ
sure_memory_faults s = s.memory_faults

abbrev pub mem_memory_faults : MemSink → ℕ
mem_memory_faults s = s.memory_faults
