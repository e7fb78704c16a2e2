-- The messages that a format allows, and the first fault of bytes, as relations apart from any reading. (This project's own.)
use Rattle.std.specs.Prelude.{◌≡◌, ◌≢◌, ◌⊎◌, ℕ, ◌+◌, ◌<◌, ◌≤◌, List, [], ◌++◌, length}
use Rattle.std.specs.Int.{w32, from_be_bytes}
use Rattle.np_message.specs.declared.wire.WireKind.{WireKind}
use Rattle.np_message.specs.declared.wire.WireKind.TheVariants.{Length, Item as ItemRule, Rest}
use Rattle.np_message.specs.declared.wire.WireError.{WireError}
use Rattle.np_message.specs.Items.{Item, Holds, spelled, IsOf}
use Rattle.np_message.specs.Formats.{Format, Says, Then, message_format}

-- the bytes are an item of this form, which holds this, and then the rest
pub record Begins (item : Item) (bytes : List ℕ) (x : Holds item) (rest : List ℕ) : Type 0 where
  pub parts : bytes ≡ spelled item x ++ rest
  pub is_of : IsOf item x

-- no item of this form begins the bytes
abbrev pub NoneBegins : Item → List ℕ → Type 0
NoneBegins item bytes = (x : Holds item) (rest : List ℕ) → ¬ Begins item bytes x rest

-- the bytes are the items of the format and say this, and nothing follows
abbrev pub Encodes : {A : Type 0} → Format A → A → List ℕ → Type 0
Encodes (Says x) y bytes = (x ≡ y) × (bytes ≡ [])
Encodes (Then item next) y bytes = (x : Holds item) × (rest : List ℕ) × Begins item bytes x rest × Encodes (next x) y rest

-- an item is due at this place, after the items before it, and none of its form begins there
abbrev pub FaultAt : {A : Type 0} → Format A → List ℕ → ℕ → Type 0
FaultAt (Says x) bytes at = ⊥
FaultAt (Then item next) bytes at =
    (NoneBegins item bytes × (at ≡ 0))
    ⊎ ((x : Holds item) × (rest : List ℕ) × (further : ℕ) × Begins item bytes x rest × FaultAt (next x) rest further × (at ≡ length (spelled item x) + further))

-- at this place, after the last item, more bytes follow
pub record RestAt {A : Type 0} (format : Format A) (bytes : List ℕ) (at : ℕ) : Type 0 where
  pub items : List ℕ
  pub rest : List ℕ
  pub says : A
  pub parts : bytes ≡ items ++ rest
  pub encodes : Encodes format says items
  pub more : rest ≢ []
  pub place : at ≡ length items

-- ---- the first fault of a message

-- the bytes are the four of a length field with this value, and then those after it
pub record HasLength (bytes : List ℕ) (value : ℕ) (behind : List ℕ) : Type 0 where
  pub field : List ℕ
  pub parts : bytes ≡ field ++ behind
  pub four : length field ≡ 4
  pub value_is : from_be_bytes w32 field ≡ value

-- the length isn't 4 to 32,768
pub record IsLengthFault (at : ℕ) (bytes : List ℕ) (e : WireError) : Type 0 where
  pub value : ℕ
  pub behind : List ℕ
  pub begins : HasLength bytes value behind
  pub out : (value < 4) ⊎ (32768 < value)
  pub error : e ≡ record { at = at; kind = Length; first = value; second = 32768 }

-- a whole body breaks this rule at this place
abbrev pub BreaksAt : WireKind → List ℕ → ℕ → Type 0
BreaksAt Length body place = ⊥
BreaksAt ItemRule body place = FaultAt message_format body place
BreaksAt Rest body place = RestAt message_format body place

-- the message is whole, and its body breaks the format
pub record IsBodyFault (at : ℕ) (bytes : List ℕ) (e : WireError) : Type 0 where
  pub body : List ℕ
  pub behind : List ℕ
  pub begins : HasLength bytes (length body) (body ++ behind)
  pub least : 4 ≤ length body
  pub most : length body ≤ 32768
  pub kind : WireKind
  pub place : ℕ
  pub breaks : BreaksAt kind body place
  pub error : e ≡ record { at = at + 4 + place; kind = kind; first = at; second = length body }

-- the first fault of bytes, the first of which is the one at this place of the stream
abbrev pub IsFirstFault : ℕ → List ℕ → WireError → Type 0
IsFirstFault at bytes e = IsLengthFault at bytes e ⊎ IsBodyFault at bytes e
