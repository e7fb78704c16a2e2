-- Any calls of a feed, one after another. (This project's own.)
use Rattle.std.specs.Prelude.{◌≡◌, ℕ, ◌+◌, List, [], ◌∷◌, ◌++◌, length}
use Rattle.np_message.specs.Message.{Message}
use Rattle.np_message.specs.Encoding.{encodings}
use Rattle.np_wire.specs.Feed.{Fed, IsEncoded}

-- a call of a feed: bytes were pushed, a message was given, or nothing changed (more bytes have to come, they are refused, or memory ran out)
pub data FeedCall : Type 0 where
  Pushed : List ℕ → FeedCall
  Gave : Message → FeedCall
  Unchanged : FeedCall

-- these calls lead from one state of a feed to another, each as the clauses of `push` and `next` say
abbrev pub Leads : Fed → List FeedCall → Fed → Type 0
Leads old [] new = old ≡ new
Leads old (Pushed bytes ∷ calls) new = Leads (record old { left = old.left ++ bytes }) calls new
Leads old (Gave m ∷ calls) new = (next : Fed) × IsEncoded m old.left next.left × (next.consumed + length next.left ≡ old.consumed + length old.left) × Leads next calls new
Leads old (Unchanged ∷ calls) new = Leads old calls new

-- all bytes that were pushed
abbrev pub pushed : List FeedCall → List ℕ
pushed [] = []
pushed (Pushed bytes ∷ calls) = bytes ++ pushed calls
pushed (Gave m ∷ calls) = pushed calls
pushed (Unchanged ∷ calls) = pushed calls

-- all messages that were given
abbrev pub given : List FeedCall → List Message
given [] = []
given (Pushed bytes ∷ calls) = given calls
given (Gave m ∷ calls) = m ∷ given calls
given (Unchanged ∷ calls) = given calls

-- whatever the calls of a new feed are, the bytes pushed are those of the messages given, and then the bytes left; and that many are consumed
abbrev pub GivesWhatWasPushed : Type 0
GivesWhatWasPushed = (calls : List FeedCall) (new : Fed) → Leads (record { consumed = 0; left = [] }) calls new →
    (pushed calls ≡ encodings (given calls) ++ new.left) × (new.consumed ≡ length (encodings (given calls)))
