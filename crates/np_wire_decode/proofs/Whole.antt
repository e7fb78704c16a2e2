-- From the items of a body to the whole of it.
use Rattle.std.proofs.Common.{◌≡◌, ℕ, ◌<◌, true, ltb, List, length, get_or, Result, Ok, Err, refl, sym, ap, subst, ◌∙◌}
use Rattle.std.proofs.lemmas.Bool.{lt-ltb}
use Rattle.std.proofs.lemmas.List.Elements.{All-from_get_or}
use Rattle.np_message.specs.declared.wire.WireKind.{WireKind}
use Rattle.np_message.specs.declared.wire.WireKind.TheVariants.{Rest}
use Rattle.np_message.specs.Message.{Message}
use Rattle.np_message.specs.Rules.{KeepsFormat}
use Rattle.np_message.specs.Formats.{message_format}
use Rattle.np_message.specs.Decoding.{read, whole}
use Rattle.np_wire_laws.specs.Laws.{ReadBodiesAreMessages}
use Rattle.np_wire_decode.specs.Reading.{Fails, broken_by, BreaksAs, read_body}
use Rattle.np_wire_decode.specs.declared.unread.Unread.{Unread}
use Rattle.np_wire_decode.specs.declared.unread.Unread.TheVariants.{Fault, NoMemory}
use Rattle.np_wire_decode.specs.declared.unread.Broken.{Broken}
use Rattle.np_wire_decode.proofs.ReadLists.{body_read}

abbrev read_whole : Message → Result Message (WireKind × ℕ)
read_whole m = Ok m

pub whole_read : (bytes : List ℕ) (m n : Message) (rest : List ℕ) → read_body bytes ≡ Ok (m, rest) → length rest ≡ 0 → n ≡ m → whole (read message_format bytes) ≡ Ok n
whole_read bytes m n rest e none same = ap whole (body_read bytes ∙ e) ∙ rw none (ap read_whole (sym same))

pub rest_read : (bytes : List ℕ) (m : Message) (rest : List ℕ) → read_body bytes ≡ Ok (m, rest) → 0 < length rest → whole (read message_format bytes) ≡ Err (Rest, length rest)
rest_read bytes m rest e more = ap whole (body_read bytes ∙ e) ∙ (let t : ltb 0 (length rest) ≡ true = lt-ltb _ _ more in rw t refl)

items_read : (bytes : List ℕ) (e : Unread) → Fails e (read_body bytes) → BreaksAs (broken_by e) (whole (read message_format bytes))
items_read bytes (Fault left) e = ap whole (body_read bytes ∙ e)
items_read bytes NoMemory e = tt

pub item_read : (bytes : List ℕ) (e : Unread) (b : Broken) → b ≡ broken_by e → Fails e (read_body bytes) → BreaksAs b (whole (read message_format bytes))
item_read bytes e b is h = subst (λ (x : Broken). BreaksAs x (whole (read message_format bytes))) (sym is) (items_read bytes e h)

pub read_keeps : ReadBodiesAreMessages → (bytes : List ℕ) (m : Message) (rest : List ℕ) → ((i : ℕ) → get_or bytes i 0 < 256) → read_body bytes ≡ Ok (m, rest) → KeepsFormat m
read_keeps law bytes m rest fit e = (law bytes rest m (All-from_get_or (λ b. b < 256) bytes 0 (λ i h. fit i)) (body_read bytes ∙ e)).0
