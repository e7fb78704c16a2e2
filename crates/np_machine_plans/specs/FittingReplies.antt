-- Which replies answer a call. (This project's own; docs/WIRE.md lists the replies of each kind.)
use Rattle.std.specs.Prelude.{Bool, None, Option, Some, false, nat_le, negsuc, not, pos, true, ℤ, ◌==◌}
use Rattle.np_values.specs.declared.error.NpError.TheVariants.{NoError}
use Rattle.np_values.specs.declared.value.Value.TheVariants as values
use Rattle.np_values.specs.declared.value.Value.{Value}
use Rattle.np_message.specs.declared.payload.Payload.TheVariants as payloads
use Rattle.np_message.specs.declared.payload.Payload.{Payload}
use Rattle.np_machine.specs.declared.frame.Continuation.TheVariants.{Assign, AssignCode, AssignCount, AssignDestroyed, AssignObject, Discard}
use Rattle.np_machine.specs.declared.frame.Continuation.{Continuation}
use Rattle.np_machine_plans.specs.declared.stream.StreamCall.TheVariants as stream_calls
use Rattle.np_machine_plans.specs.declared.stream.StreamCall.{StreamCall}
use Rattle.np_machine_plans.specs.Calls.{call}

-- the value names an object
abbrev pub is_object : Value → Bool
is_object (values.Object name) = true
is_object v = false

-- a reply to a call whose result continues so
abbrev pub fits_continuation : Continuation → Payload → Bool
fits_continuation (Assign r) (payloads.True v) = true
fits_continuation (Assign r) payloads.False = true
fits_continuation (Assign r) (payloads.Threw text) = true
fits_continuation (AssignObject r) (payloads.True v) = is_object v
fits_continuation (AssignObject r) payloads.False = true
fits_continuation (AssignCount r) (payloads.Idents keys) = true
fits_continuation (AssignCount r) payloads.False = true
fits_continuation (AssignCount r) (payloads.Threw text) = true
fits_continuation (AssignCode r) (payloads.Code error) = true
fits_continuation (AssignDestroyed i r) (payloads.Code NoError) = true
fits_continuation Discard (payloads.True v) = true
fits_continuation Discard payloads.False = true
fits_continuation Discard (payloads.Threw text) = true
fits_continuation continuation body = false

-- a reply to a frame that awaits one
abbrev pub fits_awaited : Option Continuation → Payload → Bool
fits_awaited None body = false
fits_awaited (Some continuation) body = fits_continuation continuation body

-- the number that answers NPP_NewStream, NPP_WriteReady or NPP_Write
abbrev pub fits_number : StreamCall → ℤ → Bool
fits_number stream_calls.New (pos n) = nat_le n 4
fits_number stream_calls.Ready (pos n) = true
fits_number (stream_calls.Write offset size) (pos n) = nat_le n size
fits_number (stream_calls.Write offset size) (negsuc n) = n == 0
fits_number call n = false

-- the call is answered by a number, and not by Done
abbrev pub wants_number : StreamCall → Bool
wants_number stream_calls.New = true
wants_number stream_calls.Ready = true
wants_number (stream_calls.Write offset size) = true
wants_number call = false

-- a reply to a stream's call: a number, or Done
abbrev pub fits_stream_call : StreamCall → Payload → Bool
fits_stream_call call (payloads.Number n) = fits_number call n
fits_stream_call call payloads.Done = not (wants_number call)
fits_stream_call call body = false
