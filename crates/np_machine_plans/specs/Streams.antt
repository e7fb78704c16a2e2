-- The streams of a page: which call a stream makes next, and what the reply makes of it.
-- (npfunctions.h, NPP_NewStream to NPP_URLNotify; how streams take turns is this project's own.)
use Rattle.std.specs.Prelude.{Bool, List, None, Option, Some, [], false, if◌then◌else◌, nat_le, nat_lt, negsuc, pos, true, ℕ, ℤ, ◌&&◌, ◌+◌, ◌-◌, ◌==◌, ◌∷◌}
use Rattle.np_values.specs.declared.reason.NpReason.TheVariants as reasons
use Rattle.np_values.specs.declared.reason.NpReason.{NpReason}
use Rattle.np_machine_plans.specs.declared.stream.Span.{Span}
use Rattle.np_machine_plans.specs.declared.stream.Stream.{Stream}
use Rattle.np_machine_plans.specs.declared.stream.StreamCall.TheVariants as stream_calls
use Rattle.np_machine_plans.specs.declared.stream.StreamCall.{StreamCall}
use Rattle.np_machine_plans.specs.declared.stream.StreamPhase.TheVariants as stream_phases
use Rattle.np_machine_plans.specs.declared.stream.StreamPhase.{StreamPhase}
use Rattle.np_machine_plans.specs.Calls.{call}

-- the modes of a stream that its rules name (npapi.h)
abbrev pub NP_NORMAL : ℕ
NP_NORMAL = 1

abbrev pub NP_SEEK : ℕ
NP_SEEK = 2

abbrev pub NP_ASFILEONLY : ℕ
NP_ASFILEONLY = 4

-- the lesser of two numbers
abbrev pub least : ℕ → ℕ → ℕ
least a b = if nat_le a b then a else b

-- the most bytes of one NPP_Write (this project's own)
abbrev pub max_write : ℕ
max_write = 8192

-- ---- the next call

-- a write of the first pending range, of at most so many bytes
abbrev pub write_range : ℕ → List Span → Option StreamCall
write_range n [] = None
write_range n (r ∷ rs) = Some (stream_calls.Write r.start (least (least n max_write) (r.end - r.start)))

-- NPP_WriteReady, where a range is pending
abbrev pub ready_for_range : List Span → Option StreamCall
ready_for_range [] = None
ready_for_range (r ∷ rs) = Some stream_calls.Ready

-- NPP_URLNotify, where a notification was asked for
abbrev pub notify_call : NpReason → Option ℤ → Option StreamCall
notify_call reason None = None
notify_call reason (Some word) = Some (stream_calls.Notify reason word)

-- The next call of a stream in this phase. In NP_SEEK it writes what was requested; in the others its content from the front (npapi.h).
abbrev pub call_in : Stream → StreamPhase → Option StreamCall
call_in s stream_phases.Begun = Some stream_calls.New
call_in s stream_phases.Flowing =
    if s.mode == NP_SEEK then ready_for_range s.ranges else if nat_lt s.taken s.length then Some stream_calls.Ready else Some stream_calls.File
call_in s (stream_phases.Offered n) =
    if s.mode == NP_SEEK then write_range n s.ranges else Some (stream_calls.Write s.taken (least (least n max_write) (s.length - s.taken)))
call_in s stream_phases.FileOnly = Some stream_calls.File
call_in s (stream_phases.Closing reason) = Some (stream_calls.Destroy reason)
call_in s (stream_phases.Destroyed reason) = notify_call reason s.notify

-- this stream's call, or else a later one's
abbrev pub call_or : Stream → Option StreamCall → Option (Stream × StreamCall) → Option (Stream × StreamCall)
call_or s None later = later
call_or s (Some call) later = Some (s, call)

-- the next call of the stream with the lowest number that has one; the streams stand in the order of their numbers
abbrev pub next_stream_call : List Stream → Option (Stream × StreamCall)
next_stream_call [] = None
next_stream_call (s ∷ ss) = call_or s (call_in s s.phase) (next_stream_call ss)

-- ---- after a reply

-- a stream of NP_NORMAL that the plug-in took whole closes at once
abbrev pub flowing : Stream → Stream
flowing s = if s.mode == NP_NORMAL && s.taken == s.length then record s { phase = stream_phases.Closing reasons.Done } else record s { phase = stream_phases.Flowing }

-- NPP_NewStream: 1 to 4 are NP_NORMAL, NP_SEEK, NP_ASFILE and NP_ASFILEONLY (npapi.h); 0 refuses the stream
abbrev pub after_new : Stream → ℕ → Stream
after_new s n =
    if n == 0 then record s { mode = n; phase = stream_phases.Destroyed reasons.NetworkErr }
    else if n == NP_ASFILEONLY then record s { mode = n; phase = stream_phases.FileOnly }
    else flowing (record s { mode = n })

-- NPP_WriteReady: 0 asks again later
abbrev pub after_ready : Stream → ℕ → Stream
after_ready s n = if n == 0 then record s { phase = stream_phases.Flowing } else record s { phase = stream_phases.Offered n }

-- so many bytes of the first pending range were taken; an empty range goes
abbrev pub after_range : ℕ → List Span → List Span
after_range n [] = []
after_range n (r ∷ rs) = if r.start + n == r.end then rs else (record r { start = r.start + n } ∷ rs)

-- NPP_Write: how many bytes were taken; below 0 the stream fails
abbrev pub after_write : Stream → ℤ → Stream
after_write s (pos n) =
    if s.mode == NP_SEEK then record s { ranges = after_range n s.ranges; phase = stream_phases.Flowing } else flowing (record s { taken = s.taken + n })
after_write s (negsuc n) = record s { phase = stream_phases.Closing reasons.NetworkErr }

-- the stream was closed
abbrev pub is_closing : StreamPhase → Bool
is_closing (stream_phases.Closing reason) = true
is_closing phase = false

-- a number that isn't below 0
abbrev pub natural : ℤ → ℕ
natural (pos n) = n
natural (negsuc n) = 0

-- The stream after the reply; none after a notification. A stream that was closed during the call stays closing.
abbrev pub stream_after : Stream → StreamCall → ℤ → Option Stream
stream_after s stream_calls.New n = Some (after_new s (natural n))
stream_after s stream_calls.Ready n = if is_closing s.phase then Some s else Some (after_ready s (natural n))
stream_after s (stream_calls.Write offset size) n = if is_closing s.phase then Some s else Some (after_write s n)
stream_after s stream_calls.File n = if is_closing s.phase then Some s else Some (record s { phase = stream_phases.Closing reasons.Done })
stream_after s (stream_calls.Destroy reason) n = Some (record s { phase = stream_phases.Destroyed reason })
stream_after s (stream_calls.Notify reason word) n = None

-- a destroyed stream that nobody asked to be notified of goes at once
abbrev pub unless_done : Stream → StreamPhase → Option ℤ → List Stream → List Stream
unless_done s (stream_phases.Destroyed reason) None ss = ss
unless_done s phase notify ss = s ∷ ss

-- the stream in its place, where it is still there
abbrev pub put_back : Option Stream → List Stream → List Stream
put_back None ss = ss
put_back (Some s) ss = unless_done s s.phase s.notify ss

-- the streams after the reply to a call of the stream with this number
abbrev pub streams_after : ℕ → StreamCall → ℤ → List Stream → List Stream
streams_after number call n [] = []
streams_after number call n (s ∷ ss) = if number == s.number then put_back (stream_after s call n) ss else (s ∷ streams_after number call n ss)

-- the stream of this number is there
abbrev pub has_stream : ℕ → List Stream → Bool
has_stream number [] = false
has_stream number (s ∷ ss) = if number == s.number then true else has_stream number ss

-- the streams of instances that aren't dead
abbrev pub live_streams : (ℕ → Bool) → List Stream → List Stream
live_streams dead [] = []
live_streams dead (s ∷ ss) = if dead s.instance then live_streams dead ss else (s ∷ live_streams dead ss)
