-- Worked examples of the wire format, by computing: the bytes of each kind, and what stands at the front of bytes.
use Rattle.std.proofs.Common.{◌≡◌, ℕ, pos, negsuc, Bool, true, false, List, [], ◌∷◌, ◌++◌, refl}
use Rattle.std.specs.Prelude.{codes}
use Rattle.std.specs.Str.{is_utf8, chars}
use Rattle.std.specs.Char.{encode_utf8}
use Rattle.np_values.specs.Text.{is_text}
use Rattle.np_values.specs.declared.error.NpError.TheVariants.{StreamNotSeekable}
use Rattle.np_values.specs.declared.reason.NpReason.TheVariants.{NetworkErr, UserBreak}
use Rattle.np_values.specs.declared.name.Side.TheVariants as sides
use Rattle.np_values.specs.declared.value.Value.TheVariants as values
use Rattle.np_idents.specs.declared.key.IdKey.TheVariants.{Str, Int}
use Rattle.np_idents.specs.declared.op.Op.TheVariants as ops
use Rattle.np_message.specs.declared.payload.Payload.{Payload}
use Rattle.np_message.specs.declared.payload.Payload.TheVariants.{Hello, New, Destroy, Scriptable, Turn, NewStream, WriteReady, Write, AsFile, DestroyStream, Notify, Shutdown, Window, GetUrl, RequestRead, EndStream, Call, True, Threw, Idents, Code, Number, Done}
use Rattle.np_proxy_release.specs.declared.release.Release.{Release}
use Rattle.np_message.specs.Message.{Message}
use Rattle.np_message.specs.declared.wire.WireKind.{WireKind}
use Rattle.np_message.specs.declared.wire.WireKind.TheVariants.{Length, Item, Rest}
use Rattle.np_message.specs.Encoding.{encoding, encodings, items_of}
use Rattle.np_message.specs.Formats.{page_call_format, plugin_call_format, shared_format}
use Rattle.np_message.specs.Decoding.{Front, Partial, Whole, Bad, front, read_count, read_number, read_counted, read_entry}

-- a message of this level, with or without a task's mark, that gives nothing back
abbrev at_level : ℕ → Bool → Payload → Message
at_level level task body = record { depth = record { level = level; task = task }; releases = []; body = body }

abbrev bad : ℕ → WireKind → ℕ → ℕ → Front
bad at kind one two = Bad (record { at = at; kind = kind; first = one; second = two })

-- ---- the bytes of each kind

hello : List ℕ
hello = 0 ∷ 0 ∷ 0 ∷ 7 ∷ 1 ∷ 1 ∷ 0 ∷ 0 ∷ 1 ∷ 0 ∷ 27 ∷ []

new_one : List ℕ
new_one = 0 ∷ 0 ∷ 0 ∷ 19 ∷ 2 ∷ 1 ∷ 0 ∷ 0 ∷ 255 ∷ 2 ∷ 0 ∷ 3 ∷ codes "t/x" ++ 1 ∷ 0 ∷ 3 ∷ codes "src" ++ 0 ∷ 0 ∷ []

encoded-hello : encoding (at_level 1 false (Hello 1 0 27)) ≡ hello
unfolding encoding hello
encoded-hello = refl

encoded-new : encoding (at_level 1 false (New 255 2 (codes "t/x") (codes "src" ∷ [] ∷ []))) ≡ new_one
unfolding encoding new_one
encoded-new = refl

encoded-destroy : encoding (at_level 64 true (Destroy 7)) ≡ 0 ∷ 0 ∷ 0 ∷ 5 ∷ 3 ∷ 192 ∷ 0 ∷ 0 ∷ 7 ∷ []
unfolding encoding
encoded-destroy = refl

encoded-turn : encoding (at_level 2 false Turn) ≡ 0 ∷ 0 ∷ 0 ∷ 4 ∷ 5 ∷ 2 ∷ 0 ∷ 0 ∷ []
unfolding encoding
encoded-turn = refl

encoded-shutdown : encoding (at_level 1 false Shutdown) ≡ 0 ∷ 0 ∷ 0 ∷ 4 ∷ 12 ∷ 1 ∷ 0 ∷ 0 ∷ []
unfolding encoding
encoded-shutdown = refl

encoded-code : encoding (at_level 1 true (Code StreamNotSeekable)) ≡ 0 ∷ 0 ∷ 0 ∷ 5 ∷ 69 ∷ 129 ∷ 0 ∷ 0 ∷ 13 ∷ []
unfolding encoding
encoded-code = refl

encoded-two : encodings (at_level 1 false Done ∷ at_level 1 false Turn ∷ []) ≡ 0 ∷ 0 ∷ 0 ∷ 4 ∷ 71 ∷ 1 ∷ 0 ∷ 0 ∷ 0 ∷ 0 ∷ 0 ∷ 4 ∷ 5 ∷ 1 ∷ 0 ∷ 0 ∷ []
unfolding encoding
encoded-two = refl

-- ---- the items of the other kinds

items-scriptable : items_of (Scriptable 3) ≡ 3 ∷ []
items-scriptable = refl

items-new_stream : items_of (NewStream 3 258 (codes "u") (codes "t") 5) ≡ 3 ∷ 0 ∷ 0 ∷ 1 ∷ 2 ∷ 0 ∷ 1 ∷ 0x75 ∷ 0 ∷ 1 ∷ 0x74 ∷ 0 ∷ 0 ∷ 0 ∷ 5 ∷ []
items-new_stream = refl

items-write_ready : items_of (WriteReady 3 1) ≡ 3 ∷ 0 ∷ 0 ∷ 0 ∷ 1 ∷ []
items-write_ready = refl

items-write : items_of (Write 3 1 2 (7 ∷ 8 ∷ [])) ≡ 3 ∷ 0 ∷ 0 ∷ 0 ∷ 1 ∷ 0 ∷ 0 ∷ 0 ∷ 2 ∷ 0 ∷ 2 ∷ 7 ∷ 8 ∷ []
items-write = refl

items-as_file : items_of (AsFile 3 1 (codes "f")) ≡ 3 ∷ 0 ∷ 0 ∷ 0 ∷ 1 ∷ 0 ∷ 1 ∷ 0x66 ∷ []
items-as_file = refl

items-destroy_stream : items_of (DestroyStream 3 1 UserBreak) ≡ 3 ∷ 0 ∷ 0 ∷ 0 ∷ 1 ∷ 2 ∷ []
items-destroy_stream = refl

items-notify : items_of (Notify 3 (codes "u") NetworkErr (negsuc 0)) ≡ 3 ∷ 0 ∷ 1 ∷ 0x75 ∷ 1 ∷ 255 ∷ 255 ∷ 255 ∷ 255 ∷ []
items-notify = refl

items-window : items_of (Window 3) ≡ 3 ∷ []
items-window = refl

items-get_url : items_of (GetUrl 3 (codes "u") (pos 1)) ≡ 3 ∷ 0 ∷ 1 ∷ 0x75 ∷ 0 ∷ 0 ∷ 0 ∷ 1 ∷ []
items-get_url = refl

items-request_read : items_of (RequestRead 3 1 (record { offset = negsuc 1; length = 4 } ∷ [])) ≡ 3 ∷ 0 ∷ 0 ∷ 0 ∷ 1 ∷ 1 ∷ 255 ∷ 255 ∷ 255 ∷ 254 ∷ 0 ∷ 0 ∷ 0 ∷ 4 ∷ []
items-request_read = refl

items-end_stream : items_of (EndStream 3 1 UserBreak) ≡ 3 ∷ 0 ∷ 0 ∷ 0 ∷ 1 ∷ 2 ∷ []
items-end_stream = refl

items-invoke : items_of (Call 3 1 (ops.Invoke (Str (codes "go"))) (values.Bool true ∷ values.Null ∷ [])) ≡ 3 ∷ 0 ∷ 0 ∷ 0 ∷ 1 ∷ 1 ∷ 0 ∷ 0 ∷ 2 ∷ 0x67 ∷ 0x6f ∷ 2 ∷ 2 ∷ 1 ∷ 1 ∷ []
items-invoke = refl

-- the one value of a Put isn't counted
items-put : items_of (Call 3 1 (ops.Put (Int (pos 5))) (values.Void ∷ [])) ≡ 3 ∷ 0 ∷ 0 ∷ 0 ∷ 1 ∷ 5 ∷ 1 ∷ 0 ∷ 0 ∷ 0 ∷ 5 ∷ 0 ∷ []
items-put = refl

items-enumerate : items_of (Call 3 1 ops.Enumerate []) ≡ 3 ∷ 0 ∷ 0 ∷ 0 ∷ 1 ∷ 9 ∷ []
items-enumerate = refl

items-true : items_of (True (values.Object (record { side = sides.Plug; instance = 3; serial = 2 }))) ≡ 6 ∷ 1 ∷ 3 ∷ 0 ∷ 0 ∷ 0 ∷ 2 ∷ []
items-true = refl

items-threw : items_of (Threw (codes "no")) ≡ 0 ∷ 2 ∷ 0x6e ∷ 0x6f ∷ []
items-threw = refl

items-idents : items_of (Idents (Int (negsuc 0) ∷ Str [] ∷ [])) ≡ 2 ∷ 1 ∷ 255 ∷ 255 ∷ 255 ∷ 255 ∷ 0 ∷ 0 ∷ 0 ∷ []
items-idents = refl

items-number : items_of (Number (pos 8192)) ≡ 0 ∷ 0 ∷ 32 ∷ 0 ∷ []
items-number = refl

-- ---- releases

-- six references of one object and one of another
releases : List Release
releases = record { instance = 1; serial = 2; times = 6 } ∷ (record { instance = 3; serial = 1; times = 1 } ∷ [])

abbrev giving : List Release → Message
giving rs = record { depth = record { level = 1; task = false }; releases = rs; body = Done }

done_giving : List ℕ
done_giving = 0 ∷ 0 ∷ 0 ∷ 22 ∷ 71 ∷ 1 ∷ 0 ∷ 2 ∷ 1 ∷ 0 ∷ 0 ∷ 0 ∷ 2 ∷ 0 ∷ 0 ∷ 0 ∷ 6 ∷ 3 ∷ 0 ∷ 0 ∷ 0 ∷ 1 ∷ 0 ∷ 0 ∷ 0 ∷ 1 ∷ []

encoded-releases : encoding (giving releases) ≡ done_giving
unfolding encoding releases done_giving
encoded-releases = refl

front-releases : front 0 done_giving ≡ Whole (giving releases) []
unfolding front page_call_format plugin_call_format shared_format read_count read_number read_entry releases done_giving
front-releases = refl

-- the second name isn't behind the first; the item is the whole release
front-releases_fall : front 0 (0 ∷ 0 ∷ 0 ∷ 22 ∷ 71 ∷ 1 ∷ 0 ∷ 2 ∷ 1 ∷ 0 ∷ 0 ∷ 0 ∷ 1 ∷ 0 ∷ 0 ∷ 0 ∷ 1 ∷ 1 ∷ 0 ∷ 0 ∷ 0 ∷ 1 ∷ 0 ∷ 0 ∷ 0 ∷ 1 ∷ []) ≡ bad 17 Item 0 22
unfolding front page_call_format plugin_call_format shared_format read_count read_number read_entry
front-releases_fall = refl

-- ---- a message and the bytes behind it

front-hello : front 0 (hello ++ 9 ∷ []) ≡ Whole (at_level 1 false (Hello 1 0 27)) (9 ∷ [])
unfolding front page_call_format plugin_call_format shared_format read_count hello
front-hello = refl

front-new : front 40 new_one ≡ Whole (at_level 1 false (New 255 2 (codes "t/x") (codes "src" ∷ [] ∷ []))) []
unfolding front page_call_format plugin_call_format shared_format read_count read_counted is_text is_utf8 chars encode_utf8 new_one
front-new = refl

front-destroy : front 0 (0 ∷ 0 ∷ 0 ∷ 5 ∷ 3 ∷ 192 ∷ 0 ∷ 0 ∷ 7 ∷ []) ≡ Whole (at_level 64 true (Destroy 7)) []
unfolding front page_call_format plugin_call_format shared_format read_count
front-destroy = refl

front-code : front 0 (0 ∷ 0 ∷ 0 ∷ 5 ∷ 69 ∷ 129 ∷ 0 ∷ 0 ∷ 13 ∷ 0 ∷ []) ≡ Whole (at_level 1 true (Code StreamNotSeekable)) (0 ∷ [])
unfolding front page_call_format plugin_call_format shared_format read_count
front-code = refl

-- ---- a message that is cut short

front-nothing : front 0 [] ≡ Partial
unfolding front
front-nothing = refl

front-three : front 0 (0 ∷ 0 ∷ 0 ∷ []) ≡ Partial
unfolding front
front-three = refl

front-no_body : front 0 (0 ∷ 0 ∷ 0x80 ∷ 0 ∷ []) ≡ Partial
unfolding front
front-no_body = refl

-- what breaks the format is refused only once the message is whole
front-last_missing : front 0 (0 ∷ 0 ∷ 0 ∷ 5 ∷ 72 ∷ 0 ∷ 1 ∷ 1 ∷ []) ≡ Partial
unfolding front
front-last_missing = refl

-- ---- bytes that break the format

front-length_3 : front 100 (0 ∷ 0 ∷ 0 ∷ 3 ∷ []) ≡ bad 100 Length 3 32768
unfolding front
front-length_3 = refl

front-length_32769 : front 100 (0 ∷ 0 ∷ 0x80 ∷ 1 ∷ []) ≡ bad 100 Length 32769 32768
unfolding front
front-length_32769 = refl

front-kind_13 : front 100 (0 ∷ 0 ∷ 0 ∷ 4 ∷ 13 ∷ 1 ∷ 0 ∷ 0 ∷ []) ≡ bad 104 Item 100 4
unfolding front page_call_format plugin_call_format shared_format read_count
front-kind_13 = refl

front-level_0 : front 100 (0 ∷ 0 ∷ 0 ∷ 4 ∷ 71 ∷ 0 ∷ 0 ∷ 0 ∷ []) ≡ bad 105 Item 100 4
unfolding front page_call_format plugin_call_format shared_format read_count
front-level_0 = refl

front-level_65 : front 100 (0 ∷ 0 ∷ 0 ∷ 4 ∷ 71 ∷ 65 ∷ 0 ∷ 0 ∷ []) ≡ bad 105 Item 100 4
unfolding front page_call_format plugin_call_format shared_format read_count
front-level_65 = refl

front-task_of_level_0 : front 100 (0 ∷ 0 ∷ 0 ∷ 4 ∷ 71 ∷ 128 ∷ 0 ∷ 0 ∷ []) ≡ bad 105 Item 100 4
unfolding front page_call_format plugin_call_format shared_format read_count
front-task_of_level_0 = refl

front-task_of_level_65 : front 100 (0 ∷ 0 ∷ 0 ∷ 4 ∷ 71 ∷ 193 ∷ 0 ∷ 0 ∷ []) ≡ bad 105 Item 100 4
unfolding front page_call_format plugin_call_format shared_format read_count
front-task_of_level_65 = refl

-- the release that is counted isn't there
front-release : front 100 (0 ∷ 0 ∷ 0 ∷ 4 ∷ 71 ∷ 1 ∷ 0 ∷ 1 ∷ []) ≡ bad 108 Item 100 4
unfolding front page_call_format plugin_call_format shared_format read_count read_entry
front-release = refl

front-version_2 : front 100 (0 ∷ 0 ∷ 0 ∷ 7 ∷ 1 ∷ 1 ∷ 0 ∷ 0 ∷ 2 ∷ 0 ∷ 27 ∷ []) ≡ bad 108 Item 100 7
unfolding front page_call_format plugin_call_format shared_format read_count
front-version_2 = refl

front-no_minor : front 100 (0 ∷ 0 ∷ 0 ∷ 6 ∷ 1 ∷ 1 ∷ 0 ∷ 0 ∷ 1 ∷ 0 ∷ []) ≡ bad 110 Item 100 6
unfolding front page_call_format plugin_call_format shared_format read_count
front-no_minor = refl

front-instance_0 : front 100 (0 ∷ 0 ∷ 0 ∷ 5 ∷ 3 ∷ 1 ∷ 0 ∷ 0 ∷ 0 ∷ []) ≡ bad 108 Item 100 5
unfolding front page_call_format plugin_call_format shared_format read_count
front-instance_0 = refl

front-mode_3 : front 100 (0 ∷ 0 ∷ 0 ∷ 9 ∷ 2 ∷ 1 ∷ 0 ∷ 0 ∷ 1 ∷ 3 ∷ 0 ∷ 0 ∷ 0 ∷ []) ≡ bad 109 Item 100 9
unfolding front page_call_format plugin_call_format shared_format read_count
front-mode_3 = refl

-- a text begins at its length
front-text_cut : front 100 (0 ∷ 0 ∷ 0 ∷ 9 ∷ 2 ∷ 1 ∷ 0 ∷ 0 ∷ 1 ∷ 1 ∷ 0 ∷ 2 ∷ 0x74 ∷ []) ≡ bad 110 Item 100 9
unfolding front page_call_format plugin_call_format shared_format read_count read_counted
front-text_cut = refl

front-not_utf8 : front 100 (0 ∷ 0 ∷ 0 ∷ 10 ∷ 2 ∷ 1 ∷ 0 ∷ 0 ∷ 1 ∷ 1 ∷ 0 ∷ 1 ∷ 0xff ∷ 0 ∷ []) ≡ bad 110 Item 100 10
unfolding front page_call_format plugin_call_format shared_format read_count read_counted is_text is_utf8 chars encode_utf8
front-not_utf8 = refl

front-four_attributes : front 100 (0 ∷ 0 ∷ 0 ∷ 9 ∷ 2 ∷ 1 ∷ 0 ∷ 0 ∷ 1 ∷ 1 ∷ 0 ∷ 0 ∷ 4 ∷ []) ≡ bad 112 Item 100 9
unfolding front page_call_format plugin_call_format shared_format read_count read_counted is_text is_utf8 chars encode_utf8
front-four_attributes = refl

front-no_value : front 100 (0 ∷ 0 ∷ 0 ∷ 11 ∷ 2 ∷ 1 ∷ 0 ∷ 0 ∷ 1 ∷ 1 ∷ 0 ∷ 0 ∷ 1 ∷ 0 ∷ 0 ∷ []) ≡ bad 115 Item 100 11
unfolding front page_call_format plugin_call_format shared_format read_count read_counted is_text is_utf8 chars encode_utf8
front-no_value = refl

front-code_14 : front 100 (0 ∷ 0 ∷ 0 ∷ 5 ∷ 69 ∷ 1 ∷ 0 ∷ 0 ∷ 14 ∷ []) ≡ bad 108 Item 100 5
unfolding front page_call_format plugin_call_format shared_format read_count
front-code_14 = refl

front-rest : front 100 (0 ∷ 0 ∷ 0 ∷ 5 ∷ 71 ∷ 1 ∷ 0 ∷ 0 ∷ 0 ∷ []) ≡ bad 108 Rest 100 5
unfolding front page_call_format plugin_call_format shared_format read_count
front-rest = refl
