-- What is shown of messages.
use Rattle.std.proofs.Common.{◌≡◌, ◌+◌, ◌^◌, ℕ, List, [], ◌∷◌, ◌++◌, length, take, ap, ◌∙◌, append_assoc, append-nil, arith}
use Rattle.std.proofs.lemmas.List.{length-append, take_all}
use Rattle.np_message.specs.Message.{Message}
use Rattle.np_message.specs.declared.wire.WireError.{WireError}
use Rattle.np_message.specs.Encoding.{encoding, encodings}
use Rattle.np_message.specs.Rules.{KeepsFormat, IsTyped, AreMessages}
use Rattle.np_message.specs.Decoding.{Whole, front}
use Rattle.np_model.specs.Refused.{refusal_of}
use Rattle.np_wire_laws.specs.Laws.{WaitsExactly, RefusesEachFault}
use Rattle.np_show.specs.Listing.{Tail, Left, Refused, Listing, behind, listing, file_listing, tail_of, tail_lines, tail_status, message_line, message_lines, shown_text, shown_status}
use Rattle.np_show.specs.Laws.{ShowsMessages, ShowsFault, ShowsTooLong}
use Rattle.np_show.proofs.Listings.{partial-listing, whole-listing, bad-listing, behind-behind}
use Rattle.np_show.proofs.Pieces.{file-lines, file-tail, short-tail, long-tail}

-- what is encoded is read again
abbrev pub IsReadAgain : Type 0
IsReadAgain = (at : ℕ) (m : Message) (rest : List ℕ) → KeepsFormat m → IsTyped m → front at (encoding m ++ rest) ≡ Whole m rest

messages-listed : IsReadAgain → (at : ℕ) (messages : List Message) (rest : List ℕ) → AreMessages messages
    → listing at (encodings messages ++ rest) ≡ behind (message_lines at messages) (listing (at + length (encodings messages)) rest)
messages-listed again at [] rest are = let e : at ≡ at + 0 = omega arith in ap (λ (n : ℕ). listing n rest) e
messages-listed again at (m ∷ messages) rest are =
    let place : at + length (encoding m) + length (encodings messages) ≡ at + length (encoding m ++ encodings messages) = let n = length-append (encoding m) (encodings messages) in omega (arith, n) in
    ap (λ (l : List ℕ). listing at l) (append_assoc (encoding m) (encodings messages) rest)
    ∙ whole-listing at (encoding m ++ (encodings messages ++ rest)) m (encodings messages ++ rest) (again at m (encodings messages ++ rest) are.0.0 are.0.1)
    ∙ ap (λ (l : Listing). behind (message_line at m) l) (messages-listed again (at + length (encoding m)) messages rest are.1)
    ∙ behind-behind (message_line at m) (message_lines (at + length (encoding m)) messages) (listing (at + length (encoding m) + length (encodings messages)) rest)
    ∙ ap (λ (n : ℕ). behind (message_lines at (m ∷ messages)) (listing n rest)) place

-- the lines of messages, and what follows
shown-as : (content lines : List ℕ) (t : Tail) → listing 0 (take (2 ^ 40) content) ≡ behind lines (record { lines = []; tail = t })
    → (shown_status content ≡ tail_status (tail_of (length content) t)) × (shown_text content ≡ lines ++ tail_lines (tail_of (length content) t))
shown-as content lines t is =
    let all = file-lines content (behind lines (record { lines = []; tail = t })) is ∙ append-nil lines in
    let tail = file-tail content (behind lines (record { lines = []; tail = t })) is in
    (ap tail_status tail, ap (λ (l : List ℕ). l ++ tail_lines (file_listing content).tail) all ∙ ap (λ (x : Tail). lines ++ tail_lines x) tail)

listed-with : (again : IsReadAgain) (content : List ℕ) (messages : List Message) (rest : List ℕ) (t : Tail) → AreMessages messages → take (2 ^ 40) content ≡ encodings messages ++ rest
    → listing (length (encodings messages)) rest ≡ record { lines = []; tail = t } → listing 0 (take (2 ^ 40) content) ≡ behind (message_lines 0 messages) (record { lines = []; tail = t })
listed-with again content messages rest t are parts is =
    let e : 0 + length (encodings messages) ≡ length (encodings messages) = omega arith in
    ap (λ (l : List ℕ). listing 0 l) parts ∙ messages-listed again 0 messages rest are
    ∙ ap (λ (n : ℕ). behind (message_lines 0 messages) (listing n rest)) e ∙ ap (λ (l : Listing). behind (message_lines 0 messages) l) is

pub shows-messages : IsReadAgain → WaitsExactly → (content : List ℕ) (messages : List Message) (rest : List ℕ) → ShowsMessages content messages rest
shows-messages again exact content messages rest are cut parts few =
    let at = length (encodings messages) in
    let all : take (2 ^ 40) content ≡ encodings messages ++ rest = take_all (2 ^ 40) content (omega (arith, few)) ∙ parts in
    let shown = shown-as content (message_lines 0 messages) (Left (length rest)) (listed-with again content messages rest (Left (length rest)) are all (partial-listing at rest ((exact at rest).1 cut))) in
    let tail = short-tail (length content) (length rest) few in
    (shown.0 ∙ ap tail_status tail, shown.1 ∙ ap (λ (t : Tail). message_lines 0 messages ++ tail_lines t) tail ∙ simp append_assoc)

pub shows-fault : IsReadAgain → RefusesEachFault → (content : List ℕ) (messages : List Message) (rest : List ℕ) (e : WireError) → ShowsFault content messages rest e
shows-fault again each content messages rest e are bytes fault parts =
    let at = length (encodings messages) in
    shown-as content (message_lines 0 messages) (Refused (refusal_of e)) (listed-with again content messages rest (Refused (refusal_of e)) are parts (bad-listing at rest e (each at rest e bytes fault)))

pub shows-too-long : IsReadAgain → WaitsExactly → (content : List ℕ) (messages : List Message) (rest : List ℕ) → ShowsTooLong content messages rest
shows-too-long again exact content messages rest are cut parts long =
    let at = length (encodings messages) in
    let shown = shown-as content (message_lines 0 messages) (Left (length rest)) (listed-with again content messages rest (Left (length rest)) are parts (partial-listing at rest ((exact at rest).1 cut))) in
    let tail = long-tail (length content) (length rest) long in
    (shown.0 ∙ ap tail_status tail, shown.1 ∙ ap (λ (t : Tail). message_lines 0 messages ++ tail_lines t) tail)
