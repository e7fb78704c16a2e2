-- Which refusal answers what stands at the front of the bytes. (This project's own.)
use Rattle.std.specs.Prelude.{◌≡◌, ℕ}
use Rattle.np_message.specs.Message.{Message}
use Rattle.np_model.specs.declared.refusal.Rule.{Rule}
use Rattle.np_model.specs.declared.refusal.Rule.TheVariants as rules
use Rattle.np_model.specs.declared.refusal.Refusal.{Refusal}
use Rattle.np_message.specs.declared.wire.WireKind.{WireKind}
use Rattle.np_message.specs.declared.wire.WireKind.TheVariants.{Length, Item, Rest}
use Rattle.np_message.specs.declared.wire.WireError.{WireError}
use Rattle.np_message.specs.Decoding.{Front, Partial, Whole, Bad}
use Rattle.np_model.specs.Run.{Meeting, Accepts, Refuses}

-- the rule that a fault of the wire format breaks
abbrev pub rule_of : WireKind → Rule
rule_of Length = rules.Length
rule_of Item = rules.Item
rule_of Rest = rules.Rest

-- the refusal of bytes that aren't a message
abbrev pub refusal_of : WireError → Refusal
refusal_of e = record { at = e.at; rule = rule_of e.kind; first = e.first; second = e.second }

-- the refusal of a message that begins at this place, where its plan refuses it
abbrev pub RefusedMeeting : {C : Type 0} → ℕ → Refusal → Meeting C → Type 0
RefusedMeeting at r (Accepts steps) = ⊥
RefusedMeeting at r (Refuses rule first second) = r ≡ record { at = at; rule = rule; first = first; second = second }

-- what stands at the front of bytes, the first of which is at this place, is refused so by a side that meets messages in this way
abbrev pub RefusedBy : {C : Type 0} → (Message → Meeting C) → ℕ → Refusal → Front → Type 0
RefusedBy meet at r Partial = ⊥
RefusedBy meet at r (Whole m rest) = RefusedMeeting at r (meet m)
RefusedBy meet at r (Bad e) = r ≡ refusal_of e
