-- What the kinds of messages are for. (This project's own.)
use Rattle.std.specs.Prelude.{ℕ, Bool, true, false}
use Rattle.np_message.specs.declared.payload.Payload.{Payload}
use Rattle.np_message.specs.declared.payload.Payload.TheVariants.{Hello, New, Destroy, Scriptable, Turn, NewStream, WriteReady, Write, AsFile, DestroyStream, Notify, Shutdown, Window, GetUrl, RequestRead, EndStream, Call, True, False, Threw, Idents, Code, Number, Done}

-- the instance that a call names, a call of an object that of its object; 0 where none is named
abbrev pub instance_of : Payload → ℕ
instance_of (Hello version major minor) = 0
instance_of (New instance mode mime attributes) = instance
instance_of (Destroy instance) = instance
instance_of (Scriptable instance) = instance
instance_of Turn = 0
instance_of (NewStream instance stream url mime size) = instance
instance_of (WriteReady instance stream) = instance
instance_of (Write instance stream offset bytes) = instance
instance_of (AsFile instance stream path) = instance
instance_of (DestroyStream instance stream reason) = instance
instance_of (Notify instance url reason word) = instance
instance_of Shutdown = 0
instance_of (Window instance) = instance
instance_of (GetUrl instance url word) = instance
instance_of (RequestRead instance stream ranges) = instance
instance_of (EndStream instance stream reason) = instance
instance_of (Call instance serial op arguments) = instance
instance_of (True value) = 0
instance_of False = 0
instance_of (Threw text) = 0
instance_of (Idents keys) = 0
instance_of (Code error) = 0
instance_of (Number n) = 0
instance_of Done = 0

-- the kinds that answer a call
abbrev pub is_reply : Payload → Bool
is_reply (Hello version major minor) = false
is_reply (New instance mode mime attributes) = false
is_reply (Destroy instance) = false
is_reply (Scriptable instance) = false
is_reply Turn = false
is_reply (NewStream instance stream url mime size) = false
is_reply (WriteReady instance stream) = false
is_reply (Write instance stream offset bytes) = false
is_reply (AsFile instance stream path) = false
is_reply (DestroyStream instance stream reason) = false
is_reply (Notify instance url reason word) = false
is_reply Shutdown = false
is_reply (Window instance) = false
is_reply (GetUrl instance url word) = false
is_reply (RequestRead instance stream ranges) = false
is_reply (EndStream instance stream reason) = false
is_reply (Call instance serial op arguments) = false
is_reply (True value) = true
is_reply False = true
is_reply (Threw text) = true
is_reply (Idents keys) = true
is_reply (Code error) = true
is_reply (Number n) = true
is_reply Done = true
