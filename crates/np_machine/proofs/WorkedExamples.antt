-- Worked examples of references: each is a side, the steps that it takes, and what they leave.
use Rattle.std.proofs.Common.{◌≡◌, ℕ, pos, List, [], ◌∷◌, refl, false, Some}
use Rattle.np_values.specs.declared.name.Side.TheVariants.{Page, Plug}
use Rattle.np_values.specs.declared.name.Name.{Name}
use Rattle.np_values.specs.declared.value.Value.TheVariants as values
use Rattle.np_idents.specs.declared.key.IdKey.TheVariants as keys
use Rattle.np_proxy_release.specs.declared.release.Release.{Release}
use Rattle.np_message.specs.declared.payload.Payload.TheVariants as payloads
use Rattle.np_message.specs.Message.{Message}
use Rattle.np_journal.specs.declared.line.Line.TheVariants.{Created, ProxyGone, Invalidated, Deallocated}
use Rattle.np_machine.specs.declared.draft.Draft.TheVariants.{ValueDraft}
use Rattle.np_machine.specs.declared.place.Place.TheVariants.{Slot, PropertyOf}
use Rattle.np_machine.specs.declared.step.Step.{Step}
use Rattle.np_machine.specs.declared.step.Step.TheVariants.{Copy, Put, Drop, Create, HandOver, Deliver, Sweep, Deallocate, Begin, TearDown}
use Rattle.np_machine.specs.Side.{SideState, at_start}
use Rattle.np_machine.specs.Messages.{examine, send_draft}
use Rattle.np_machine.specs.Steps.{run_steps}
use Rattle.np_machine.specs.Turn.{is_remote_by_messages, out_count}

-- two objects of the plug-in and two of the page, all of instance 1
abbrev own : ℕ → Name
own serial = record { side = Plug; instance = 1; serial = serial }

abbrev theirs : ℕ → Name
theirs serial = record { side = Page; instance = 1; serial = serial }

-- a reply to the plug-in with this object, which gives back these
abbrev reply : Name → List Release → Message
reply name releases = record { depth = record { level = 1; task = false }; releases = releases; body = payloads.True (values.Object name) }

-- the plug-in after these steps
abbrev after : List Step → SideState ℕ → SideState ℕ
after steps p = run_steps is_remote_by_messages steps p

abbrev start : SideState ℕ
start = after (Begin 1 ∷ []) (at_start Plug 0)

-- An object whose last reference is dropped is deallocated.
deallocated : (after (Create 1 0 ∷ Drop ∷ Deallocate ∷ []) start).journal ≡ Created (own 1) ∷ Deallocated (own 1) ∷ []
deallocated = refl

-- It isn't while a slot refers to it.
held : (after (Create 1 0 ∷ Copy (Slot 1 0) ∷ Drop ∷ Put (Slot 1 0) ∷ Drop ∷ Deallocate ∷ []) start).journal ≡ Created (own 1) ∷ []
held = refl

-- An object that refers to itself is never deallocated by counting.
refers_to_itself : (after (Create 1 0 ∷ Put (Slot 1 0) ∷ Drop ∷ Copy (Slot 1 0) ∷ Put (PropertyOf (own 1) (keys.Int (pos 0))) ∷ Drop ∷ Create 1 0 ∷ Put (Slot 1 0) ∷ Drop ∷ Deallocate ∷ []) start).journal ≡ Created (own 1) ∷ Created (own 2) ∷ []
refers_to_itself = refl

-- A deallocated object drops its properties, so what they alone refer to is deallocated after it.
in_turn : (after (Create 1 0 ∷ Create 1 0 ∷ Put (PropertyOf (own 1) (keys.Int (pos 0))) ∷ Drop ∷ Drop ∷ Deallocate ∷ []) start).journal ≡ Created (own 1) ∷ Created (own 2) ∷ Deallocated (own 1) ∷ Deallocated (own 2) ∷ []
in_turn = refl

-- an object that was handed over and sent
abbrev sent : SideState ℕ
sent = send_draft (Some (record { depth = record { level = 1; task = false }; draft = ValueDraft })) (after (Create 1 0 ∷ HandOver ∷ []) start)

-- It is out once, and stays though no place refers to it.
is_out : out_count sent (own 1) ≡ 1
is_out = refl

stays : (after (Sweep ∷ Deallocate ∷ []) sent).journal ≡ Created (own 1) ∷ []
stays = refl

-- When the other side gives the reference back, it is deallocated.
given_back : (after (Deliver ∷ Drop ∷ Sweep ∷ Deallocate ∷ []) (examine (reply (theirs 1) (record { instance = 1; serial = 1; times = 1 } ∷ [])) sent)).journal ≡ Created (own 1) ∷ Deallocated (own 1) ∷ []
given_back = refl

-- an object of the page that came twice
abbrev came_twice : SideState ℕ
came_twice = after (Deliver ∷ Deliver ∷ []) (examine (reply (theirs 1) []) (examine (reply (theirs 1) []) start))

-- Nothing is to be given back while a place refers to it.
waits : (after (Drop ∷ []) came_twice).pending_releases ≡ []
waits = refl

-- After the last one both references are.
released : (after (Drop ∷ Drop ∷ []) came_twice).pending_releases ≡ record { instance = 1; serial = 1; times = 2 } ∷ []
released = refl

-- A teardown invalidates the proxies first, in rising order and each once, and then the own objects. It deallocates these afterwards.
torn_down : (after (Create 1 0 ∷ TearDown 1 ∷ Deallocate ∷ []) (after (Deliver ∷ Deliver ∷ Deliver ∷ []) (examine (reply (theirs 1) []) (examine (reply (theirs 2) []) (examine (reply (theirs 1) []) start))))).journal ≡ Created (own 1) ∷ ProxyGone (theirs 1) ∷ ProxyGone (theirs 2) ∷ Invalidated (own 1) ∷ Deallocated (own 1) ∷ []
torn_down = refl

-- Nothing more is given back of a dead instance's objects.
nothing_more : (after (TearDown 1 ∷ Drop ∷ Drop ∷ []) came_twice).pending_releases ≡ []
nothing_more = refl
