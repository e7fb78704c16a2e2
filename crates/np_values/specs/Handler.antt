-- The words of handlers. (This project's own.)
use Rattle.std.specs.Prelude.{ℕ, List, [], ◌∷◌, Option, Some, None, if◌then◌else◌, codes}
use Rattle.std.specs.Str.{bytes_eq}
use Rattle.np_values.specs.declared.handler.Handler.{Handler}
use Rattle.np_values.specs.declared.handler.Handler.TheVariants.{New, Destroy, Scriptable, NewStream, WriteReady, Write, AsFile, DestroyStream, UrlNotify}

-- the word that names a handler
abbrev pub handler_word : Handler → List ℕ
handler_word New = codes "new"
handler_word Destroy = codes "destroy"
handler_word Scriptable = codes "scriptable"
handler_word NewStream = codes "newstream"
handler_word WriteReady = codes "writeready"
handler_word Write = codes "write"
handler_word AsFile = codes "asfile"
handler_word DestroyStream = codes "destroystream"
handler_word UrlNotify = codes "urlnotify"

abbrev pub handlers : List Handler
handlers =
    New ∷ Destroy ∷ Scriptable ∷ NewStream ∷ WriteReady ∷ Write ∷ AsFile ∷ DestroyStream ∷ UrlNotify ∷ []

abbrev pub handler_among : List Handler → List ℕ → Option Handler
handler_among [] word = None
handler_among (handler ∷ others) word = if bytes_eq (handler_word handler) word then Some handler else handler_among others word

-- the handler with this word, if there is one
abbrev pub handler_of : List ℕ → Option Handler
handler_of word = handler_among handlers word
