-- Which messages there are. (This project's own.)
use Rattle.std.specs.Prelude.{◌≡◌, ℕ, ◌+◌, ◌<◌, ◌≤◌, List, [], ◌∷◌, length, true, FitsSigned}
use Rattle.std.specs.Int.{w32}
use Rattle.np_values.specs.Text.{is_text}
use Rattle.np_values.specs.declared.name.Name.{Name}
use Rattle.np_values.specs.declared.range.Range.{Range}
use Rattle.np_values.specs.declared.value.Value.{Value}
use Rattle.np_values.specs.declared.value.Value.TheVariants as values
use Rattle.np_idents.specs.IdText.{is_id_text}
use Rattle.np_idents.specs.declared.key.IdKey.{IdKey}
use Rattle.np_idents.specs.declared.key.IdKey.TheVariants.{Str, Int}
use Rattle.np_idents.specs.declared.op.Op.{Op}
use Rattle.np_idents.specs.declared.op.Op.TheVariants as ops
use Rattle.np_proxy_release.specs.Release.{AreRising, AreTypedReleases}
use Rattle.np_message.specs.declared.payload.Payload.{Payload}
use Rattle.np_message.specs.declared.payload.Payload.TheVariants.{Hello, New, Destroy, Scriptable, Turn, NewStream, WriteReady, Write, AsFile, DestroyStream, Notify, Shutdown, Window, GetUrl, RequestRead, EndStream, Call, True, False, Threw, Idents, Code, Number, Done}
use Rattle.np_message.specs.Message.{Message}

-- each item of the list keeps this
abbrev pub Each : {A : Type 0} → (A → Type 0) → List A → Type 0
Each Keeps [] = Unit {0}
Each Keeps (x ∷ xs) = Keeps x × Each Keeps xs

-- ---- the rules of the format

-- the name of an object is counted from instance 1 and serial 1
abbrev pub KeepsValue : Value → Type 0
KeepsValue (values.Object name) = (0 < name.instance) × (0 < name.serial)
KeepsValue value = Unit {0}

-- calls have at most eight arguments, a Put has one value, and the others none
abbrev pub HasArguments : Op → ℕ → Type 0
HasArguments (ops.Invoke key) count = count ≤ 8
HasArguments ops.Default count = count ≤ 8
HasArguments ops.Construct count = count ≤ 8
HasArguments (ops.Put key) count = count ≡ 1
HasArguments op count = count ≡ 0

-- what each kind carries: instances, streams and serials are counted from 1
abbrev pub KeepsKind : Payload → Type 0
KeepsKind (Hello version major minor) = version ≡ 1
KeepsKind (New instance mode mime attributes) = (0 < instance) × (0 < mode) × (mode < 3) × ((pairs : ℕ) × (pairs < 4) × (length attributes ≡ pairs + pairs))
KeepsKind (Destroy instance) = 0 < instance
KeepsKind (Scriptable instance) = 0 < instance
KeepsKind Turn = Unit {0}
KeepsKind (NewStream instance stream url mime size) = (0 < instance) × (0 < stream)
KeepsKind (WriteReady instance stream) = (0 < instance) × (0 < stream)
KeepsKind (Write instance stream offset bytes) = (0 < instance) × (0 < stream) × (0 < length bytes) × (length bytes ≤ 8192)
KeepsKind (AsFile instance stream path) = (0 < instance) × (0 < stream)
KeepsKind (DestroyStream instance stream reason) = (0 < instance) × (0 < stream)
KeepsKind (Notify instance url reason word) = 0 < instance
KeepsKind Shutdown = Unit {0}
KeepsKind (Window instance) = 0 < instance
KeepsKind (GetUrl instance url word) = 0 < instance
KeepsKind (RequestRead instance stream ranges) = (0 < instance) × (0 < stream) × (0 < length ranges) × (length ranges ≤ 4)
KeepsKind (EndStream instance stream reason) = (0 < instance) × (0 < stream)
KeepsKind (Call instance serial op arguments) = (0 < instance) × (0 < serial) × HasArguments op (length arguments) × Each KeepsValue arguments
KeepsKind (True value) = KeepsValue value
KeepsKind False = Unit {0}
KeepsKind (Threw text) = Unit {0}
KeepsKind (Idents keys) = length keys ≤ 64
KeepsKind (Code error) = Unit {0}
KeepsKind (Number n) = Unit {0}
KeepsKind Done = Unit {0}

-- a message of the format: its level is 1 to 64, it gives back at most 1,024 names, which rise, and it keeps its kind's rules
pub record KeepsFormat (m : Message) : Type 0 where
  pub above : 0 < m.depth.level
  pub below : m.depth.level < 65
  pub few : length m.releases ≤ 1024
  pub rising : AreRising m.releases
  pub body : KeepsKind m.body

-- ---- what the types of the fields say

abbrev pub IsByte : ℕ → Type 0
IsByte n = n < 256

abbrev pub IsNumber : ℕ → Type 0
IsNumber n = n < 4294967296

abbrev pub IsText : List ℕ → Type 0
IsText text = is_text text ≡ true

abbrev pub IsTypedKey : IdKey → Type 0
IsTypedKey (Str text) = is_id_text text ≡ true
IsTypedKey (Int n) = FitsSigned w32 n

abbrev pub IsTypedName : Name → Type 0
IsTypedName name = IsByte name.instance × IsNumber name.serial

abbrev pub IsTypedValue : Value → Type 0
IsTypedValue values.Void = Unit {0}
IsTypedValue values.Null = Unit {0}
IsTypedValue (values.Bool truth) = Unit {0}
IsTypedValue (values.Int n) = FitsSigned w32 n
IsTypedValue (values.Double bytes) = (length bytes ≡ 8) × Each IsByte bytes
IsTypedValue (values.Text text) = IsText text
IsTypedValue (values.Object name) = IsTypedName name

abbrev pub IsTypedRange : Range → Type 0
IsTypedRange range = FitsSigned w32 range.offset × IsNumber range.length

abbrev pub IsTypedOp : Op → Type 0
IsTypedOp (ops.Invoke key) = IsTypedKey key
IsTypedOp ops.Default = Unit {0}
IsTypedOp ops.Construct = Unit {0}
IsTypedOp (ops.Get key) = IsTypedKey key
IsTypedOp (ops.Put key) = IsTypedKey key
IsTypedOp (ops.Remove key) = IsTypedKey key
IsTypedOp (ops.HasMethod key) = IsTypedKey key
IsTypedOp (ops.HasProperty key) = IsTypedKey key
IsTypedOp ops.Enumerate = Unit {0}

abbrev pub IsTypedBody : Payload → Type 0
IsTypedBody (Hello version major minor) = IsByte major × IsByte minor
IsTypedBody (New instance mode mime attributes) = IsByte instance × IsText mime × Each IsText attributes
IsTypedBody (Destroy instance) = IsByte instance
IsTypedBody (Scriptable instance) = IsByte instance
IsTypedBody Turn = Unit {0}
IsTypedBody (NewStream instance stream url mime size) = IsByte instance × IsNumber stream × IsText url × IsText mime × IsNumber size
IsTypedBody (WriteReady instance stream) = IsByte instance × IsNumber stream
IsTypedBody (Write instance stream offset bytes) = IsByte instance × IsNumber stream × IsNumber offset × Each IsByte bytes
IsTypedBody (AsFile instance stream path) = IsByte instance × IsNumber stream × IsText path
IsTypedBody (DestroyStream instance stream reason) = IsByte instance × IsNumber stream
IsTypedBody (Notify instance url reason word) = IsByte instance × IsText url × FitsSigned w32 word
IsTypedBody Shutdown = Unit {0}
IsTypedBody (Window instance) = IsByte instance
IsTypedBody (GetUrl instance url word) = IsByte instance × IsText url × FitsSigned w32 word
IsTypedBody (RequestRead instance stream ranges) = IsByte instance × IsNumber stream × Each IsTypedRange ranges
IsTypedBody (EndStream instance stream reason) = IsByte instance × IsNumber stream
IsTypedBody (Call instance serial op arguments) = IsByte instance × IsNumber serial × IsTypedOp op × Each IsTypedValue arguments
IsTypedBody (True value) = IsTypedValue value
IsTypedBody False = Unit {0}
IsTypedBody (Threw text) = IsText text
IsTypedBody (Idents keys) = Each IsTypedKey keys
IsTypedBody (Code error) = Unit {0}
IsTypedBody (Number n) = FitsSigned w32 n
IsTypedBody Done = Unit {0}

-- a message as the code can hold one
pub record IsTyped (m : Message) : Type 0 where
  pub releases : AreTypedReleases m.releases
  pub body : IsTypedBody m.body

-- each is a message of the format
abbrev pub AreMessages : List Message → Type 0
AreMessages messages = Each (λ m. KeepsFormat m × IsTyped m) messages
