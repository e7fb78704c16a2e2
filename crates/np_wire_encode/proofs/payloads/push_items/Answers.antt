use Rattle.std.proofs.Common.{ℕ, List, ◌++◌, sym, ap, ◌∙◌}
use Rattle.np_message.specs.declared.payload.Payload.{Payload}
use Rattle.np_message.specs.declared.payload.Payload.TheVariants.{Write}
use Rattle.np_message.specs.Encoding.{items_of}
use Rattle.np_wire_encode.proofs.payloads.push_items.Goals as goal

pub returns-in_ok-push_write-in-Write-clause-ok : goal.returns-in_ok-push_write-in-Write-clause-ok
returns-in_ok-push_write-in-Write-clause-ok c =
    c.in_ok-push_write-in-Write.ensures.ok
    ∙ ap (λ (bytes : List ℕ). c.args.out.now.items ++ items_of (Write c.in-Write.instance c.in-Write.stream c.in-Write.offset bytes)) c.as_slice-in-Write.ensures.same
    ∙ ap (λ (body : Payload). c.args.out.now.items ++ items_of body) (sym c.in-Write.is)
