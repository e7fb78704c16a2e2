-- The items of each kind of message, in their order. (This project's own; the calls are those of npfunctions.h, NPPluginFuncs and NPNetscapeFuncs, and of npruntime.h, NPClass.)
use Rattle.std.specs.Prelude.{ℕ, zero, suc, ◌+◌, ◌==◌, List, [], ◌∷◌, if◌then◌else◌, Option, Some, None}
use Rattle.np_values.specs.declared.range.Range.{Range}
use Rattle.np_values.specs.declared.value.Value.{Value}
use Rattle.np_idents.specs.declared.key.IdKey.{IdKey}
use Rattle.np_idents.specs.declared.op.Op.{Op}
use Rattle.np_idents.specs.declared.op.Op.TheVariants as ops
use Rattle.np_proxy_release.specs.declared.release.Release.{Release}
use Rattle.np_message.specs.declared.payload.Payload.{Payload}
use Rattle.np_message.specs.declared.payload.Payload.TheVariants.{Hello, New, Destroy, Scriptable, Turn, NewStream, WriteReady, Write, AsFile, DestroyStream, Notify, Shutdown, Window, GetUrl, RequestRead, EndStream, Call, True, False, Threw, Idents, Code, Number, Done}
use Rattle.np_message.specs.declared.depth.Depth.{Depth}
use Rattle.np_message.specs.Message.{Message}
use Rattle.np_message.specs.Items.{Item, KindItem, DepthItem, ByteItem, CountItem, NumberItem, IntItem, TextItem, BytesItem, IdentItem, ValueItem, CodeItem, ReasonItem, ReleaseItem, Holds}

-- the items that bytes are to have, and what they say: nothing is left to read, or an item comes, and what it holds determines the others
pub data Format (A : Type 0) : Type 0 where
  Says : A → Format A
  Then : (item : Item) → (Holds item → Format A) → Format A

-- this many items of a form
abbrev pub many : {A : Type 0} → (item : Item) → ℕ → (List (Holds item) → Format A) → Format A
many item zero next = next []
many item (suc n) next = Then item (λ x. many item n (λ xs. next (x ∷ xs)))

-- this many ranges, each of which is two items
abbrev pub many_ranges : {A : Type 0} → ℕ → (List Range → Format A) → Format A
many_ranges zero next = next []
many_ranges (suc n) next = Then IntItem (λ offset. Then (NumberItem 0) (λ size. many_ranges n (λ ranges. next (record { offset = offset; length = size } ∷ ranges))))

-- this many releases, each after the one before
abbrev pub many_releases : {A : Type 0} → Option Release → ℕ → (List Release → Format A) → Format A
many_releases before zero next = next []
many_releases before (suc n) next = Then (ReleaseItem before) (λ r. many_releases (Some r) n (λ releases. next (r ∷ releases)))

-- ---- calls of the page

-- instances, streams and serials are counted from 1
abbrev pub instance_item : Item
instance_item = ByteItem 1 255

abbrev pub stream_item : Item
stream_item = NumberItem 1

abbrev pub serial_item : Item
serial_item = NumberItem 1

-- the version of the wire format, major and minor
abbrev pub hello_format : Format Payload
hello_format = Then (ByteItem 1 1) (λ version. Then (ByteItem 0 255) (λ major. Then (ByteItem 0 255) (λ minor. Says (Hello version major minor))))

-- mode, MIME type, a count of attributes, and a name and a value for each
abbrev pub new_format : Format Payload
new_format = Then instance_item (λ instance. Then (ByteItem 1 2) (λ mode. Then TextItem (λ mime. Then (ByteItem 0 3) (λ pairs. many TextItem (pairs + pairs) (λ attributes. Says (New instance mode mime attributes))))))

abbrev pub destroy_format : Format Payload
destroy_format = Then instance_item (λ instance. Says (Destroy instance))

abbrev pub scriptable_format : Format Payload
scriptable_format = Then instance_item (λ instance. Says (Scriptable instance))

-- URL, MIME type and length
abbrev pub new_stream_format : Format Payload
new_stream_format = Then instance_item (λ instance. Then stream_item (λ stream. Then TextItem (λ url. Then TextItem (λ mime. Then (NumberItem 0) (λ size. Says (NewStream instance stream url mime size))))))

abbrev pub write_ready_format : Format Payload
write_ready_format = Then instance_item (λ instance. Then stream_item (λ stream. Says (WriteReady instance stream)))

-- offset and bytes
abbrev pub write_format : Format Payload
write_format = Then instance_item (λ instance. Then stream_item (λ stream. Then (NumberItem 0) (λ offset. Then BytesItem (λ bytes. Says (Write instance stream offset bytes)))))

-- the name of the file
abbrev pub as_file_format : Format Payload
as_file_format = Then instance_item (λ instance. Then stream_item (λ stream. Then TextItem (λ path. Says (AsFile instance stream path))))

abbrev pub destroy_stream_format : Format Payload
destroy_stream_format = Then instance_item (λ instance. Then stream_item (λ stream. Then ReasonItem (λ reason. Says (DestroyStream instance stream reason))))

-- URL, reason and the word of the request
abbrev pub notify_format : Format Payload
notify_format = Then instance_item (λ instance. Then TextItem (λ url. Then ReasonItem (λ reason. Then IntItem (λ word. Says (Notify instance url reason word)))))

-- ---- calls of the plug-in

abbrev pub window_format : Format Payload
window_format = Then instance_item (λ instance. Says (Window instance))

-- URL and a word that comes back in the notification
abbrev pub get_url_format : Format Payload
get_url_format = Then instance_item (λ instance. Then TextItem (λ url. Then IntItem (λ word. Says (GetUrl instance url word))))

-- a count of ranges, and an offset and a length for each
abbrev pub request_read_format : Format Payload
request_read_format = Then instance_item (λ instance. Then stream_item (λ stream. Then (ByteItem 1 4) (λ count. many_ranges count (λ ranges. Says (RequestRead instance stream ranges)))))

abbrev pub end_stream_format : Format Payload
end_stream_format = Then instance_item (λ instance. Then stream_item (λ stream. Then ReasonItem (λ reason. Says (EndStream instance stream reason))))

-- ---- calls of an object

-- a count of arguments, and each of them
abbrev pub arguments_format : (List Value → Payload) → Format Payload
arguments_format call = Then (ByteItem 0 8) (λ count. many ValueItem count (λ arguments. Says (call arguments)))

-- an identifier, and what follows it
abbrev pub key_then : (IdKey → Format Payload) → Format Payload
key_then next = Then IdentItem next

-- the identifier and the arguments of the operation with this number
unfoldable pub op_format : (Op → List Value → Payload) → ℕ → Format Payload
op_format call code =
    if code == 1 then key_then (λ key. arguments_format (call (ops.Invoke key)))
    else if code == 2 then arguments_format (call ops.Default)
    else if code == 3 then arguments_format (call ops.Construct)
    else if code == 4 then key_then (λ key. Says (call (ops.Get key) []))
    else if code == 5 then key_then (λ key. Then ValueItem (λ value. Says (call (ops.Put key) (value ∷ []))))
    else if code == 6 then key_then (λ key. Says (call (ops.Remove key) []))
    else if code == 7 then key_then (λ key. Says (call (ops.HasMethod key) []))
    else if code == 8 then key_then (λ key. Says (call (ops.HasProperty key) []))
    else Says (call ops.Enumerate [])

-- the object, the number of the operation, and its items
abbrev pub call_format : Format Payload
call_format = Then instance_item (λ instance. Then serial_item (λ serial. Then (ByteItem 1 9) (λ code. op_format (Call instance serial) code)))

-- ---- replies

abbrev pub true_format : Format Payload
true_format = Then ValueItem (λ value. Says (True value))

abbrev pub threw_format : Format Payload
threw_format = Then TextItem (λ text. Says (Threw text))

-- a count of identifiers, and each of them
abbrev pub idents_format : Format Payload
idents_format = Then (ByteItem 0 64) (λ count. many IdentItem count (λ keys. Says (Idents keys)))

abbrev pub code_format : Format Payload
code_format = Then CodeItem (λ error. Says (Code error))

abbrev pub number_format : Format Payload
number_format = Then IntItem (λ n. Says (Number n))

-- ---- by the number of the kind

-- the calls of the page, 1 to 12
unfoldable pub page_call_format : ℕ → Option (Format Payload) → Option (Format Payload)
page_call_format kind others =
    if kind == 1 then Some hello_format
    else if kind == 2 then Some new_format
    else if kind == 3 then Some destroy_format
    else if kind == 4 then Some scriptable_format
    else if kind == 5 then Some (Says Turn)
    else if kind == 6 then Some new_stream_format
    else if kind == 7 then Some write_ready_format
    else if kind == 8 then Some write_format
    else if kind == 9 then Some as_file_format
    else if kind == 10 then Some destroy_stream_format
    else if kind == 11 then Some notify_format
    else if kind == 12 then Some (Says Shutdown)
    else others

-- the calls of the plug-in, 32 to 35
unfoldable pub plugin_call_format : ℕ → Option (Format Payload) → Option (Format Payload)
plugin_call_format kind others =
    if kind == 32 then Some window_format
    else if kind == 33 then Some get_url_format
    else if kind == 34 then Some request_read_format
    else if kind == 35 then Some end_stream_format
    else others

-- the call of an object and the replies, 64 to 71
unfoldable pub shared_format : ℕ → Option (Format Payload)
shared_format kind =
    if kind == 64 then Some call_format
    else if kind == 65 then Some true_format
    else if kind == 66 then Some (Says False)
    else if kind == 67 then Some threw_format
    else if kind == 68 then Some idents_format
    else if kind == 69 then Some code_format
    else if kind == 70 then Some number_format
    else if kind == 71 then Some (Says Done)
    else None

-- the items of the kind with this number, if there is one
abbrev pub kind_format : ℕ → Option (Format Payload)
kind_format kind = page_call_format kind (plugin_call_format kind (shared_format kind))

-- ---- the message

-- what the kind says, with its depth and releases
abbrev pub carried : Depth → List Release → Format Payload → Format Message
carried depth releases (Says body) = Says (record { depth = depth; releases = releases; body = body })
carried depth releases (Then item next) = Then item (λ x. carried depth releases (next x))

-- a number that is no kind's says nothing, and its item isn't there
abbrev pub some_format : Option (Format Payload) → Format Payload
some_format (Some format) = format
some_format None = Says Done

-- kind, depth, a count of releases, each of them, and the items of the kind
abbrev pub message_format : Format Message
message_format = Then KindItem (λ kind. Then DepthItem (λ depth. Then (CountItem 1024) (λ count. many_releases None count (λ releases. carried depth releases (some_format (kind_format kind))))))
