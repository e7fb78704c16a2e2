use Rattle.std.proofs.Common.{List, length, ap, arith}
use Rattle.std.specs.List.{flat_map}
use Rattle.std.proofs.lemmas.List.{length-append}
use Rattle.np_proxy_release.specs.declared.release.Release.{Release}
use Rattle.np_message.specs.declared.payload.Payload.{Payload}
use Rattle.np_message.specs.Encoding.{release_item, items_of}
use Rattle.np_wire_encode.proofs.Sizes.{releases_length}
use Rattle.np_wire_encode.proofs.messages.body_len.Goals as goal

pub returns : goal.returns
returns c =
    let m = c.args.message.now in
    let few = ap (λ (releases : List Release). length releases) c.releases.ensures.same in
    let items = ap (λ (body : Payload). length (items_of body)) c.body.ensures.same in
    record { value = omega (arith, few, items, releases_length m.releases, length-append (flat_map release_item m.releases) (items_of m.body), c.items_len.ensures.value, c.len.ensures.value) }
