-- What a call results in, and what its caller does with it. (npruntime.h; the rest is this project's own.)
use Rattle.std.specs.Prelude.{Bool, List, [], false, length, pos, true, ℕ, ◌++◌, ◌∷◌}
use Rattle.np_values.specs.declared.error.NpError.TheVariants.{NoError}
use Rattle.np_values.specs.declared.error.NpError.{NpError}
use Rattle.np_values.specs.declared.value.Value.TheVariants as values
use Rattle.np_values.specs.declared.value.Value.{Value}
use Rattle.np_values.specs.NpError.{code_of}
use Rattle.np_idents.specs.declared.key.IdKey.{IdKey}
use Rattle.np_message.specs.declared.depth.Depth.{Depth}
use Rattle.np_message.specs.declared.payload.Payload.TheVariants as payloads
use Rattle.np_message.specs.declared.payload.Payload.{Payload}
use Rattle.np_machine.specs.declared.draft.Draft.TheVariants.{PlainDraft, ValueDraft}
use Rattle.np_machine.specs.declared.draft.Draft.{Draft}
use Rattle.np_machine.specs.declared.frame.Continuation.TheVariants.{Assign, AssignCode, AssignCount, AssignDestroyed, AssignObject, Discard}
use Rattle.np_machine.specs.declared.frame.Continuation.{Continuation}
use Rattle.np_machine.specs.declared.place.Place.{Place}
use Rattle.np_machine.specs.declared.step.Step.TheVariants.{Constant, DropEach, HandOver, Leave}
use Rattle.np_machine.specs.declared.step.Step.{Step}
use Rattle.np_machine.specs.Plan.{Plan}
use Rattle.np_machine_plans.specs.PlanParts.{assign, frame_value_count, sending}

-- The result of a call. The value of `Returned` is the next one in flight.
pub data CallResult : Type 0 where
  Returned : Value → CallResult  -- true with a value
  Failed : CallResult  -- false
  Threw : List ℕ → CallResult  -- an exception with this message (npruntime.h, NPN_SetException)
  Enumerated : List IdKey → CallResult  -- the identifiers of an object
  ReturnedCode : NpError → CallResult  -- the code of a request or of an instance's destruction

-- the result sets the caller's flag
abbrev pub is_success : CallResult → Bool
is_success (Returned v) = true
is_success Failed = false
is_success (Threw text) = false
is_success (Enumerated keys) = true
is_success (ReturnedCode NoError) = true
is_success (ReturnedCode error) = false

-- Steps after which one value is in flight for the result: Void for a failure, the number of identifiers, or the code. That of `Returned` is there already.
abbrev pub result_steps : CallResult → List Step
result_steps (Returned v) = []
result_steps Failed = Constant values.Void ∷ []
result_steps (Threw text) = Constant values.Void ∷ []
result_steps (Enumerated keys) = Constant (values.Int (pos (length keys))) ∷ []
result_steps (ReturnedCode error) = Constant (values.Int (pos (code_of error))) ∷ []

-- what the caller does with that value, where its registers are these places
abbrev pub continue_steps : (ℕ → Place) → Continuation → List Step
continue_steps register (Assign r) = assign (register r)
continue_steps register (AssignObject r) = assign (register r)
continue_steps register (AssignCount r) = assign (register r)
continue_steps register (AssignCode r) = assign (register r)
continue_steps register (AssignDestroyed i r) = assign (register r)
continue_steps register Discard = DropEach 1 ∷ []

-- how many values are in flight for a result
abbrev pub value_count : CallResult → ℕ
value_count (Returned v) = 1
value_count result = 0

-- ---- replies

-- what a reply says of a result
abbrev pub reply_draft : CallResult → Draft
reply_draft (Returned v) = ValueDraft
reply_draft Failed = PlainDraft payloads.False
reply_draft (Threw text) = PlainDraft (payloads.Threw text)
reply_draft (Enumerated keys) = PlainDraft (payloads.Idents keys)
reply_draft (ReturnedCode error) = PlainDraft (payloads.Code error)

-- the value of a returned result is handed over to the reply
abbrev pub hand_over_result : CallResult → List Step
hand_over_result (Returned v) = HandOver ∷ []
hand_over_result result = []

-- A reply: these steps, which drop the call's places, come first; then the value is handed over; then the message takes the pending releases.
abbrev pub reply : {C : Type 0} → C → List Step → Depth → CallResult → Plan C
reply c steps depth result = sending c (steps ++ hand_over_result result) depth (reply_draft result)

-- the reply of the newest frame: its places come in flight after the result's value, and are dropped before that is handed over
abbrev pub frame_reply : {C : Type 0} → C → Depth → CallResult → Plan C
frame_reply c depth result = reply c (Leave 0 ∷ (DropEach frame_value_count ∷ [])) depth result

-- the result that a reply carries; the value of a True is in flight
abbrev pub reply_result : Payload → CallResult
reply_result (payloads.True v) = Returned v
reply_result (payloads.Threw text) = Threw text
reply_result (payloads.Idents keys) = Enumerated keys
reply_result (payloads.Code error) = ReturnedCode error
reply_result body = Failed
