-- How a file is listed piece by piece. (This project's own.)
use Rattle.std.specs.Prelude.{◌≡◌, ℕ, List, ◌++◌, take, Option, Some, None}
use Rattle.np_message.specs.declared.wire.WireError.{WireError}
use Rattle.np_message.specs.Decoding.{Partial, Bad, front}
use Rattle.np_model.specs.Journal.{end_line, refused_line}
use Rattle.np_wire.specs.Feed.{Fed}
use Rattle.np_end_stops.specs.Causes.{Adds}
use Rattle.np_show.specs.declared.outcome.Outcome.{Outcome}
use Rattle.np_show.specs.declared.outcome.Outcome.TheVariants.{Ended, Refused, FileFailed}
use Rattle.np_show.specs.Listing.{Left, behind, listing, file_listing, rest_line}
use Rattle.np_show.specs.Listing as tails

-- whatever follows, the listing of the old bytes is that of the new ones after these lines
abbrev pub Lists : ℕ → List ℕ → List ℕ → ℕ → List ℕ → Type 0
Lists old_at old lines new_at new = (more : List ℕ) → listing old_at (old ++ more) ≡ behind lines (listing new_at (new ++ more))

-- the lines of whole messages were appended, which were taken off the feed
pub record TakesLines (old new : Fed) (lines0 lines1 : List ℕ) : Type 0 where
  pub added : List ℕ
  pub appended : lines1 ≡ lines0 ++ added
  pub lists : Lists old.consumed old.left added new.consumed new.left

-- no whole message stands at the front of the feed, or one that is refused
abbrev pub StandsAt : Fed → Option WireError → Type 0
StandsAt fed None = front fed.consumed fed.left ≡ Partial
StandsAt fed (Some e) = front fed.consumed fed.left ≡ Bad e

-- the lines of the whole messages were printed, which this piece completes
pub record PrintsPiece (piece : List ℕ) (old new : Fed) (taken0 taken1 : Option (List ℕ)) : Type 0 where
  pub added : List ℕ
  pub adds : Adds taken0 taken1 added
  pub lists : Lists old.consumed (old.left ++ piece) added new.consumed new.left

-- for a sink that records what it took, it took bytes with which these begin
abbrev pub AddsFront : Option (List ℕ) → Option (List ℕ) → List ℕ → Type 0
AddsFront taken0 taken1 bytes = (t : List ℕ) → taken0 ≡ Some t → (x : List ℕ) × (y : List ℕ) × (bytes ≡ x ++ y) × (taken1 ≡ Some (t ++ x))

-- of those lines, only a front was printed
pub record PrintsPieceFront (piece : List ℕ) (old : Fed) (taken0 taken1 : Option (List ℕ)) : Type 0 where
  pub added : List ℕ
  pub at : ℕ
  pub left : List ℕ
  pub adds : AddsFront taken0 taken1 added
  pub lists : Lists old.consumed (old.left ++ piece) added at left

-- the lines of the file's messages were printed, and it ended so; where a read failed, those of the messages in its first bytes
abbrev pub ComesTo : List ℕ → Option (List ℕ) → Option (List ℕ) → Outcome → Type 0
ComesTo content taken0 taken1 (Ended n) = ((file_listing content).tail ≡ Left n) × Adds taken0 taken1 (file_listing content).lines
ComesTo content taken0 taken1 (Refused r) = ((file_listing content).tail ≡ tails.Refused r) × Adds taken0 taken1 (file_listing content).lines
ComesTo content taken0 taken1 FileFailed =
    (count : ℕ) × (others : List ℕ) × ((file_listing content).lines ≡ (listing 0 (take count content)).lines ++ others) × Adds taken0 taken1 (listing 0 (take count content)).lines

-- the last lines, and the status
abbrev pub outcome_lines : Outcome → List ℕ
outcome_lines (Ended n) = rest_line n ++ end_line 0
outcome_lines (Refused r) = refused_line r
outcome_lines FileFailed = end_line 4

abbrev pub outcome_status : Outcome → ℕ
outcome_status (Ended n) = 0
outcome_status (Refused r) = 7
outcome_status FileFailed = 4

-- this holds where a read failed
abbrev pub FailedOnly : Outcome → Type 0 → Type 0
FailedOnly (Ended n) P = Unit {0}
FailedOnly (Refused r) P = Unit {0}
FailedOnly FileFailed P = P
