-- What the format of a message encodes are the bodies of messages.
use Rattle.std.proofs.Common.{◌≡◌, ℕ, List, ◌∷◌, ◌++◌, length, None, sym, ap, subst, ◌∙◌, arith}
use Rattle.std.specs.Int.{w16, to_be_bytes}
use Rattle.std.specs.List.{flat_map}
use Rattle.np_proxy_release.specs.declared.release.Release.{Release}
use Rattle.np_message.specs.Message.{Message}
use Rattle.np_message.specs.Encoding.{kind_of, items_of, depth_byte, release_item, body_of}
use Rattle.np_message.specs.Rules.{KeepsFormat, IsTyped}
use Rattle.np_message.specs.Items.{DepthItem, CountItem, IsOf}
use Rattle.np_message.specs.Formats.{kind_format, some_format, carried, message_format}
use Rattle.np_message.specs.Faults.{Encodes}
use Rattle.np_wire_laws.proofs.Lists.{first, on, releases_of, releases_encode, carried_of, carried_encodes}
use Rattle.np_wire_laws.proofs.KindRows.{kind_row, is_known, payload_encodes}

-- the bytes are the body of the message, which is one of the format
record IsBody (bytes : List ℕ) (m : Message) : Type 0 where
  pub parts : bytes ≡ body_of m
  pub keeps : KeepsFormat m
  pub typed : IsTyped m

-- what is behind the depth
releases_parts : (releases : List Release) (bytes rest items : List ℕ) (count : ℕ) → bytes ≡ to_be_bytes w16 count ++ (flat_map release_item releases ++ rest) → length releases ≡ count → rest ≡ items → bytes ≡ to_be_bytes w16 (length releases) ++ (flat_map release_item releases ++ items)
releases_parts releases bytes rest items count p counted e =
    p ∙ ap (λ (n : ℕ). to_be_bytes w16 n ++ (flat_map release_item releases ++ rest)) (sym counted)
    ∙ ap (λ (l : List ℕ). to_be_bytes w16 (length releases) ++ (flat_map release_item releases ++ l)) e

pub encoding_is_body : (m : Message) (bytes : List ℕ) → Encodes message_format m bytes → (bytes ≡ body_of m) × KeepsFormat m × IsTyped m
encoding_is_body m bytes (kind, r, b, (depth, s, c, (count, t, d, h))) =
    let f = some_format (kind_format kind) in
    let given = releases_of None count (λ releases. carried depth releases f) m t h in
    let rest = carried_of depth given.releases f m given.rest given.encodes in
    let row = kind_row kind b.is_of rest.body given.rest rest.encodes in
    let made : Message = record { depth = depth; releases = given.releases; body = rest.body } in
    let behind = releases_parts given.releases s given.rest (items_of rest.body) count (on d given.parts) given.counted row.parts in
    let keeps : KeepsFormat made = record { above = c.is_of.0; below = c.is_of.1; few = omega (arith, given.counted, d.is_of.0); rising = given.rising; body = row.keeps } in
    let typed : IsTyped made = record { releases = given.typed; body = row.typed } in
    let parts : bytes ≡ body_of made = on b (on c behind) ∙ ap (λ (k : ℕ). k ∷ depth_byte depth ∷ (to_be_bytes w16 (length given.releases) ++ (flat_map release_item given.releases ++ items_of rest.body))) (sym row.kind_is) in
    let body = subst (λ (n : Message). IsBody bytes n) rest.message (record { parts = parts; keeps = keeps; typed = typed }) in
    (body.parts, body.keeps, body.typed)

pub body_is_encoding : (m : Message) → KeepsFormat m → IsTyped m → Encodes message_format m (body_of m)
body_is_encoding m keeps typed =
    let f = some_format (kind_format (kind_of m.body)) in
    let items = carried_encodes m.depth m.releases f m.body (items_of m.body) (payload_encodes m.body keeps.body typed.body) in
    let given = releases_encode None m.releases (λ releases. carried m.depth releases f) m (items_of m.body) keeps.rising typed.releases items in
    let depth : IsOf DepthItem m.depth = (keeps.above, keeps.below) in
    let count : IsOf (CountItem 1024) (length m.releases) = (keeps.few, omega (arith, keeps.few)) in
    (kind_of m.body, _, first (is_known m.body), (m.depth, _, first depth, (length m.releases, _, first count, given)))
