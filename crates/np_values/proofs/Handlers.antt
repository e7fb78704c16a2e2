-- The handler of a word is the one that has it.
use Rattle.std.proofs.Common.{◌≡◌, ◌≢◌, ℕ, List, [], ◌∷◌, Bool, true, false, Option, Some, None, refl, ap}
use Rattle.std.specs.Prelude.{◌↔◌, IfSome, if◌then◌else◌}
use Rattle.std.specs.Str.{bytes_eq}
use Rattle.std.proofs.lemmas.Slice.Eq.{bytes_eq-Decides}
use Rattle.np_values.specs.declared.handler.Handler.{Handler}
use Rattle.np_values.specs.declared.handler.Handler.TheVariants.{New, Destroy, Scriptable, NewStream, WriteReady, Write, AsFile, DestroyStream, UrlNotify}
use Rattle.np_values.specs.Handler.{handler_word, handlers, handler_among, handler_of}

pub among_inverse : (tried : List Handler) (word : List ℕ) → IfSome (handler_among tried word) (λ handler. handler_word handler ≡ word)
among_inverse [] word = tt
among_inverse (handler ∷ others) word = by (bytes_eq (handler_word handler) word) refl (among_inverse others word)
  where
    by : (b : Bool) → bytes_eq (handler_word handler) word ≡ b → IfSome (handler_among others word) (λ h. handler_word h ≡ word)
        → IfSome (if b then Some handler else handler_among others word) (λ h. handler_word h ≡ word)
    by true e rest = (bytes_eq-Decides (handler_word handler) word).0 e
    by false e rest = rest

word_is_read : (handler : Handler) → handler_of (handler_word handler) ≡ Some handler
word_is_read New = refl
word_is_read Destroy = refl
word_is_read Scriptable = refl
word_is_read NewStream = refl
word_is_read WriteReady = refl
word_is_read Write = refl
word_is_read AsFile = refl
word_is_read DestroyStream = refl
word_is_read UrlNotify = refl

-- no word has two handlers, and what has none is no handler's word
pub handler_of_none : (word : List ℕ) → (handler_of word ≡ None) ↔ ((handler : Handler) → handler_word handler ≢ word)
handler_of_none word = by (handler_of word) refl (among_inverse handlers word)
  where
    by : (found : Option Handler) → handler_of word ≡ found → IfSome found (λ h. handler_word h ≡ word)
        → (found ≡ None) ↔ ((handler : Handler) → handler_word handler ≢ word)
    by None e is = ((λ same handler here. cc (word_is_read handler, ap handler_of here, e)), (λ h. refl))
    by (Some handler) e is = ((λ same. cc same), (λ h. absurd (h handler is)))
