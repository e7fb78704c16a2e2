-- What there is to show of a file of wire bytes. (This project's own.)
use Rattle.std.specs.Prelude.{ℕ, zero, suc, ◌+◌, ◌^◌, nat_lt, List, [], ◌∷◌, ◌++◌, length, take, decimal, codes, if◌then◌else◌}
use Rattle.np_message.specs.Message.{Message}
use Rattle.np_model.specs.declared.refusal.Refusal.{Refusal}
use Rattle.np_message.specs.Encoding.{kind_of, depth_byte, body_of, encoding}
use Rattle.np_message.specs.Decoding.{Front, Partial, Whole, Bad, front}
use Rattle.np_model.specs.Refused.{refusal_of}
use Rattle.np_model.specs.Alone.{too_many_bytes}
use Rattle.np_model.specs.Journal.{end_line, refused_line}

-- ---- lines

-- how many names are released
abbrev pub release_count : Message → ℕ
release_count m = length m.releases

-- the line of a message: the place of its length field in the file, the bytes of its kind and of its depth, how many names it releases, and
-- the value of its length field
abbrev pub message_line : ℕ → Message → List ℕ
message_line at m =
    decimal at ++ codes " " ++ decimal (kind_of m.body) ++ codes " " ++ decimal (depth_byte m.depth) ++ codes " " ++ decimal (release_count m) ++ codes " " ++ decimal (length (body_of m)) ++ 10 ∷ []

-- the lines of messages, of which the first is at this place
abbrev pub message_lines : ℕ → List Message → List ℕ
message_lines at [] = []
message_lines at (m ∷ messages) = message_line at m ++ message_lines (at + length (encoding m)) messages

-- the line of this many bytes of an unfinished message; none where there are none
abbrev pub rest_line : ℕ → List ℕ
rest_line zero = []
rest_line (suc n) = codes "rest " ++ decimal (suc n) ++ 10 ∷ []

-- ---- the messages of bytes

-- what follows the whole messages: this many bytes of an unfinished one, or one that is refused
pub data Tail : Type 0 where
  Left : ℕ → Tail
  Refused : Refusal → Tail

-- the lines of the whole messages, and what follows these
pub record Listing : Type 0 where
  pub lines : List ℕ
  pub tail : Tail

-- with these lines before
abbrev pub behind : List ℕ → Listing → Listing
behind lines listing = record { lines = lines ++ listing.lines; tail = listing.tail }

-- by what stands at the front of bytes that begin at this place; what is after a message continues so
abbrev pub listing_of : (ℕ → List ℕ → Listing) → ℕ → List ℕ → Front → Listing
listing_of onward at bytes Partial = record { lines = []; tail = Left (length bytes) }
listing_of onward at bytes (Whole m rest) = behind (message_line at m) (onward (at + length (encoding m)) rest)
listing_of onward at bytes (Bad e) = record { lines = []; tail = Refused (refusal_of e) }

-- of at most this many messages
abbrev pub listing_within : ℕ → ℕ → List ℕ → Listing
listing_within zero at bytes = record { lines = []; tail = Left (length bytes) }
listing_within (suc n) at bytes = listing_of (listing_within n) at bytes (front at bytes)

-- of all, which are no more than there are bytes
unfoldable pub listing : ℕ → List ℕ → Listing
listing at bytes = listing_within (length bytes) at bytes

-- ---- a file

-- a file of 2^40 bytes or more is refused after them, unless a message was
abbrev pub tail_of : ℕ → Tail → Tail
tail_of size (Left n) = if nat_lt size (2 ^ 40) then Left n else Refused too_many_bytes
tail_of size (Refused r) = Refused r

-- of the first 2^40 bytes
unfoldable pub file_listing : List ℕ → Listing
file_listing content = record { lines = (listing 0 (take (2 ^ 40) content)).lines; tail = tail_of (length content) (listing 0 (take (2 ^ 40) content)).tail }

-- the last lines
abbrev pub tail_lines : Tail → List ℕ
tail_lines (Left n) = rest_line n ++ end_line 0
tail_lines (Refused r) = refused_line r

abbrev pub tail_status : Tail → ℕ
tail_status (Left n) = 0
tail_status (Refused r) = 7

-- all that is printed
abbrev pub shown_text : List ℕ → List ℕ
shown_text content = (file_listing content).lines ++ tail_lines (file_listing content).tail

abbrev pub shown_status : List ℕ → ℕ
shown_status content = tail_status (file_listing content).tail
