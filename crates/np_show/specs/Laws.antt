-- What is shown of bytes that are messages, and of bytes that aren't. (This project's own.)
use Rattle.std.specs.Prelude.{◌≡◌, ℕ, ◌^◌, ◌<◌, ◌≤◌, List, ◌++◌, length, take}
use Rattle.np_message.specs.Message.{Message}
use Rattle.np_message.specs.declared.wire.WireError.{WireError}
use Rattle.np_message.specs.Encoding.{encodings}
use Rattle.np_message.specs.Rules.{AreMessages}
use Rattle.np_message.specs.Faults.{IsFirstFault}
use Rattle.np_model.specs.Refused.{refusal_of}
use Rattle.np_model.specs.Journal.{end_line, refused_line}
use Rattle.std.specs.List.{All}
use Rattle.np_wire_laws.specs.Laws.{IsCutShort}
use Rattle.np_show.specs.Listing.{message_lines, rest_line, shown_text, shown_status}
use Rattle.np_end_stops.specs.Status.{DONE, REFUSED}
use Rattle.np_model.specs.Alone.{too_many_bytes}

-- a file that is messages, or messages and a part of one, is shown by a line for each message, the rest, and the end line
abbrev pub ShowsMessages : List ℕ → List Message → List ℕ → Type 0
ShowsMessages content messages rest = AreMessages messages → IsCutShort rest → content ≡ encodings messages ++ rest → length content < 2 ^ 40
    → (shown_status content ≡ DONE) × (shown_text content ≡ message_lines 0 messages ++ rest_line (length rest) ++ end_line 0)

-- a file that begins with messages, after which bytes have a fault, is refused for it after the lines of the messages
abbrev pub ShowsFault : List ℕ → List Message → List ℕ → WireError → Type 0
ShowsFault content messages rest e = AreMessages messages → All (λ b. b < 256) rest → IsFirstFault (length (encodings messages)) rest e → take (2 ^ 40) content ≡ encodings messages ++ rest
    → (shown_status content ≡ REFUSED) × (shown_text content ≡ message_lines 0 messages ++ refused_line (refusal_of e))

-- a file of 2^40 bytes or more, the first 2^40 of which are messages, or messages and a part of one, is refused after these
abbrev pub ShowsTooLong : List ℕ → List Message → List ℕ → Type 0
ShowsTooLong content messages rest = AreMessages messages → IsCutShort rest → take (2 ^ 40) content ≡ encodings messages ++ rest → 2 ^ 40 ≤ length content
    → (shown_status content ≡ REFUSED) × (shown_text content ≡ message_lines 0 messages ++ refused_line too_many_bytes)
