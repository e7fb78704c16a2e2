-- The bytes of a message. Numbers have their high byte first. (This project's own.)
use Rattle.std.specs.Prelude.{ℕ, ℤ, ◌+◌, ◌/◌, List, [], ◌∷◌, ◌++◌, length, Bool, true, false, if◌then◌else◌}
use Rattle.std.specs.Int.{w16, w32, to_be_bytes, cast_unsigned}
use Rattle.std.specs.List.{flat_map}
use Rattle.np_values.specs.NpError.{code_of}
use Rattle.np_values.specs.NpReason.{reason_code}
use Rattle.np_values.specs.declared.name.Side.{Side}
use Rattle.np_values.specs.declared.name.Side.TheVariants.{Page, Plug}
use Rattle.np_values.specs.declared.name.Name.{Name}
use Rattle.np_values.specs.declared.range.Range.{Range}
use Rattle.np_values.specs.declared.value.Value.{Value}
use Rattle.np_values.specs.declared.value.Value.TheVariants as values
use Rattle.np_idents.specs.declared.key.IdKey.{IdKey}
use Rattle.np_idents.specs.declared.key.IdKey.TheVariants.{Str, Int}
use Rattle.np_idents.specs.declared.op.Op.{Op}
use Rattle.np_idents.specs.declared.op.Op.TheVariants as ops
use Rattle.np_proxy_release.specs.declared.release.Release.{Release}
use Rattle.np_message.specs.declared.payload.Payload.{Payload}
use Rattle.np_message.specs.declared.payload.Payload.TheVariants.{Hello, New, Destroy, Scriptable, Turn, NewStream, WriteReady, Write, AsFile, DestroyStream, Notify, Shutdown, Window, GetUrl, RequestRead, EndStream, Call, True, False, Threw, Idents, Code, Number, Done}
use Rattle.np_message.specs.declared.depth.Depth.{Depth}
use Rattle.np_message.specs.Message.{Message}

-- ---- items

-- a number below 2^32, in four bytes
abbrev pub number_item : ℕ → List ℕ
number_item n = to_be_bytes w32 n

-- an integer, in four bytes of two's complement
abbrev pub int_item : ℤ → List ℕ
int_item n = to_be_bytes w32 (cast_unsigned w32 n)

-- bytes with their number in two bytes before them: so are texts, and the bytes that NPP_Write hands over
abbrev pub counted_item : List ℕ → List ℕ
counted_item bytes = to_be_bytes w16 (length bytes) ++ bytes

-- an identifier: 0 and its text, or 1 and its integer
abbrev pub ident_item : IdKey → List ℕ
ident_item (Str text) = 0 ∷ counted_item text
ident_item (Int n) = 1 ∷ int_item n

abbrev pub side_byte : Side → ℕ
side_byte Page = 0
side_byte Plug = 1

-- a name: its side, its instance and its serial
abbrev pub name_item : Name → List ℕ
name_item name = side_byte name.side ∷ name.instance ∷ number_item name.serial

abbrev pub bool_byte : Bool → ℕ
bool_byte false = 0
bool_byte true = 1

-- a value: the byte of its type, and what it holds
abbrev pub value_item : Value → List ℕ
value_item values.Void = 0 ∷ []
value_item values.Null = 1 ∷ []
value_item (values.Bool truth) = 2 ∷ bool_byte truth ∷ []
value_item (values.Int n) = 3 ∷ int_item n
value_item (values.Double bytes) = 4 ∷ bytes
value_item (values.Text text) = 5 ∷ counted_item text
value_item (values.Object name) = 6 ∷ name_item name

-- a range of bytes: two items, its offset and its length
abbrev pub range_items : Range → List ℕ
range_items range = int_item range.offset ++ number_item range.length

-- references that are given back: the object's instance and serial, and how many
abbrev pub release_item : Release → List ℕ
release_item r = r.instance ∷ number_item r.serial ++ number_item r.times

-- ---- the items of each kind

-- the number of an operation on an object (npruntime.h, NPClass)
abbrev pub op_code : Op → ℕ
op_code (ops.Invoke key) = 1
op_code ops.Default = 2
op_code ops.Construct = 3
op_code (ops.Get key) = 4
op_code (ops.Put key) = 5
op_code (ops.Remove key) = 6
op_code (ops.HasMethod key) = 7
op_code (ops.HasProperty key) = 8
op_code ops.Enumerate = 9

-- arguments after their number
abbrev pub arguments_items : List Value → List ℕ
arguments_items arguments = length arguments ∷ flat_map value_item arguments

-- the identifier and the arguments of an operation; the one value of a Put isn't counted
abbrev pub op_items : Op → List Value → List ℕ
op_items (ops.Invoke key) arguments = ident_item key ++ arguments_items arguments
op_items ops.Default arguments = arguments_items arguments
op_items ops.Construct arguments = arguments_items arguments
op_items (ops.Get key) arguments = ident_item key
op_items (ops.Put key) arguments = ident_item key ++ flat_map value_item arguments
op_items (ops.Remove key) arguments = ident_item key
op_items (ops.HasMethod key) arguments = ident_item key
op_items (ops.HasProperty key) arguments = ident_item key
op_items ops.Enumerate arguments = []

-- the number of the kind
abbrev pub kind_of : Payload → ℕ
kind_of (Hello version major minor) = 1
kind_of (New instance mode mime attributes) = 2
kind_of (Destroy instance) = 3
kind_of (Scriptable instance) = 4
kind_of Turn = 5
kind_of (NewStream instance stream url mime size) = 6
kind_of (WriteReady instance stream) = 7
kind_of (Write instance stream offset bytes) = 8
kind_of (AsFile instance stream path) = 9
kind_of (DestroyStream instance stream reason) = 10
kind_of (Notify instance url reason word) = 11
kind_of Shutdown = 12
kind_of (Window instance) = 32
kind_of (GetUrl instance url word) = 33
kind_of (RequestRead instance stream ranges) = 34
kind_of (EndStream instance stream reason) = 35
kind_of (Call instance serial op arguments) = 64
kind_of (True value) = 65
kind_of False = 66
kind_of (Threw text) = 67
kind_of (Idents keys) = 68
kind_of (Code error) = 69
kind_of (Number n) = 70
kind_of Done = 71

-- the items of the kind; attributes are counted by name and value together
abbrev pub items_of : Payload → List ℕ
items_of (Hello version major minor) = version ∷ major ∷ minor ∷ []
items_of (New instance mode mime attributes) = instance ∷ mode ∷ counted_item mime ++ length attributes / 2 ∷ flat_map counted_item attributes
items_of (Destroy instance) = instance ∷ []
items_of (Scriptable instance) = instance ∷ []
items_of Turn = []
items_of (NewStream instance stream url mime size) = instance ∷ number_item stream ++ (counted_item url ++ (counted_item mime ++ number_item size))
items_of (WriteReady instance stream) = instance ∷ number_item stream
items_of (Write instance stream offset bytes) = instance ∷ number_item stream ++ (number_item offset ++ counted_item bytes)
items_of (AsFile instance stream path) = instance ∷ number_item stream ++ counted_item path
items_of (DestroyStream instance stream reason) = instance ∷ number_item stream ++ reason_code reason ∷ []
items_of (Notify instance url reason word) = instance ∷ counted_item url ++ reason_code reason ∷ int_item word
items_of Shutdown = []
items_of (Window instance) = instance ∷ []
items_of (GetUrl instance url word) = instance ∷ counted_item url ++ int_item word
items_of (RequestRead instance stream ranges) = instance ∷ number_item stream ++ length ranges ∷ flat_map range_items ranges
items_of (EndStream instance stream reason) = instance ∷ number_item stream ++ reason_code reason ∷ []
items_of (Call instance serial op arguments) = instance ∷ number_item serial ++ op_code op ∷ op_items op arguments
items_of (True value) = value_item value
items_of False = []
items_of (Threw text) = counted_item text
items_of (Idents keys) = length keys ∷ flat_map ident_item keys
items_of (Code error) = code_of error ∷ []
items_of (Number n) = int_item n
items_of Done = []

-- ---- the message

-- the level, and 128 more for a task's call and the reply to it
abbrev pub depth_byte : Depth → ℕ
depth_byte depth = if depth.task then depth.level + 128 else depth.level

-- the releases after their number in two bytes
abbrev pub releases_items : List Release → List ℕ
releases_items releases = to_be_bytes w16 (length releases) ++ flat_map release_item releases

-- kind, depth, releases, and the items of the kind
abbrev pub body_of : Message → List ℕ
body_of m = kind_of m.body ∷ depth_byte m.depth ∷ releases_items m.releases ++ items_of m.body

-- the number of bytes of the body in four bytes, and the body
unfoldable pub encoding : Message → List ℕ
encoding m = to_be_bytes w32 (length (body_of m)) ++ body_of m

-- the bytes of each message after those of the one before
abbrev pub encodings : List Message → List ℕ
encodings [] = []
encodings (m ∷ messages) = encoding m ++ encodings messages
