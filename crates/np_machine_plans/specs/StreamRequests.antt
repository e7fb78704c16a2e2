-- What is asked of streams: to begin one, to read ranges of it, to end it, and the codes of the requests.
-- (npfunctions.h, NPN_GetURLNotify, NPN_RequestRead and NPN_DestroyStream; the limits are this project's own.)
use Rattle.std.specs.Prelude.{Bool, List, None, Option, Some, [], false, if◌then◌else◌, length, nat_lt, negsuc, not, pos, suc, true, zero, ℕ, ℤ, ◌&&◌, ◌++◌, ◌+◌, ◌-◌, ◌==◌, ◌∷◌}
use Rattle.std.specs.Str.{bytes_eq}
use Rattle.np_values.specs.declared.error.NpError.TheVariants.{Generic, InvalidParam, InvalidUrl, NoError, StreamNotSeekable}
use Rattle.np_values.specs.declared.error.NpError.{NpError}
use Rattle.np_values.specs.declared.range.Range.{Range}
use Rattle.np_values.specs.declared.reason.NpReason.{NpReason}
use Rattle.np_script_grammar.specs.declared.page.Resource.{Resource}
use Rattle.np_machine_plans.specs.declared.stream.Span.{Span}
use Rattle.np_machine_plans.specs.declared.stream.Stream.{Stream}
use Rattle.np_machine_plans.specs.declared.stream.StreamPhase.TheVariants as stream_phases
use Rattle.np_machine_plans.specs.declared.stream.StreamPhase.{StreamPhase}
use Rattle.np_machine_plans.specs.Streams.{NP_SEEK, least}

-- ---- resources

-- the resource of this URL and its place among the page's, counted from the number
abbrev pub resource_place : List ℕ → ℕ → List Resource → Option (ℕ × Resource)
resource_place url n [] = None
resource_place url n (r ∷ rs) = if bytes_eq url r.url then Some (n, r) else resource_place url (n + 1) rs

-- the resource at this place
abbrev pub resource_at : ℕ → List Resource → Option Resource
resource_at n [] = None
resource_at zero (r ∷ rs) = Some r
resource_at (suc n) (r ∷ rs) = resource_at n rs

-- ---- to begin a stream

-- a page has at most 64 streams at a time
abbrev pub begin_code : List Stream → Option (ℕ × Resource) → NpError
begin_code ss None = InvalidUrl
begin_code ss (Some r) = if nat_lt (length ss) 64 then NoError else Generic

-- a stream before its first call
abbrev pub new_stream : ℕ → ℕ → Option ℤ → ℕ × Resource → Stream
new_stream number instance notify r = record {
  number = number;
  instance = instance;
  resource = r.0;
  length = length (r.1).content;
  notify = notify;
  mode = 0;
  taken = 0;
  ranges = [];
  phase = stream_phases.Begun;
}

-- the streams with the new one behind them, where it can begin
abbrev pub begun_streams : ℕ → ℕ → Option ℤ → List Stream → Option (ℕ × Resource) → List Stream
begun_streams number instance notify ss None = ss
begun_streams number instance notify ss (Some r) = if nat_lt (length ss) 64 then ss ++ new_stream number instance notify r ∷ [] else ss

-- ---- open streams

-- a stream is open from the reply to NPP_NewStream until it closes
abbrev pub is_open_phase : StreamPhase → Bool
is_open_phase stream_phases.Flowing = true
is_open_phase (stream_phases.Offered n) = true
is_open_phase stream_phases.FileOnly = true
is_open_phase phase = false

-- the open stream of this instance and number
abbrev pub open_stream : ℕ → ℕ → List Stream → Option Stream
open_stream instance number [] = None
open_stream instance number (s ∷ ss) =
    if number == s.number then (if is_open_phase s.phase && instance == s.instance then Some s else None) else open_stream instance number ss

-- ---- to read ranges

-- so many bytes from the start, cut at the end of the content
abbrev pub span_from : ℕ → ℕ → ℕ → Option Span
span_from size start count = if nat_lt start size && not (count == 0) then Some (record { start = start; end = least (start + count) size }) else None

-- A range of a content of this size, cut at its end; an offset below 0 counts from the end. (npapi.h, NPByteRange.)
-- It is bad where it is empty or begins outside of the content. (This project's own.)
abbrev pub span_of : ℕ → ℤ → ℕ → Option Span
span_of size (pos n) count = span_from size n count
span_of size (negsuc n) count = if nat_lt n size then span_from size (size - (n + 1)) count else None

-- one more range, where none is bad
abbrev pub with_span : Option Span → Option (List Span) → Option (List Span)
with_span None rest = None
with_span (Some r) None = None
with_span (Some r) (Some rs) = Some (r ∷ rs)

-- all ranges, where none is bad
abbrev pub spans : ℕ → List Range → Option (List Span)
spans size [] = Some []
spans size (r ∷ rs) = with_span (span_of size r.offset r.length) (spans size rs)

-- at most 64 ranges of a stream are pending
abbrev pub range_code : Stream → Option (List Span) → NpError
range_code s None = InvalidParam
range_code s (Some rs) = if nat_lt 64 (length s.ranges + length rs) then Generic else NoError

-- only a stream of NP_SEEK can be read in ranges
abbrev pub request_code : List Range → Option Stream → NpError
request_code ranges None = InvalidParam
request_code ranges (Some s) = if s.mode == NP_SEEK then range_code s (spans s.length ranges) else StreamNotSeekable

-- the ranges, or none where one is bad
abbrev pub spans_or_none : Option (List Span) → List Span
spans_or_none None = []
spans_or_none (Some rs) = rs

-- the streams with the ranges behind those that are pending
abbrev pub requested_streams : ℕ → List Range → List Stream → List Stream
requested_streams number ranges [] = []
requested_streams number ranges (s ∷ ss) =
    if number == s.number then (record s { ranges = s.ranges ++ spans_or_none (spans s.length ranges) } ∷ ss) else (s ∷ requested_streams number ranges ss)

-- ---- to end a stream

-- an open stream can be ended
abbrev pub close_code : Option Stream → NpError
close_code None = InvalidParam
close_code (Some s) = NoError

-- the streams with this one closing
abbrev pub closed_streams : ℕ → NpReason → List Stream → List Stream
closed_streams number reason [] = []
closed_streams number reason (s ∷ ss) =
    if number == s.number then (record s { phase = stream_phases.Closing reason } ∷ ss) else (s ∷ closed_streams number reason ss)
