use Rattle.std.proofs.Common.{◌≡◌, ◌-◌}
use Rattle.np_message.specs.Items.{IdentItem}
use Rattle.np_wire_decode.specs.Reading.{read_many, with_front}
use Rattle.np_wire_decode.proofs.lists.idents.Given as goal

abbrev pub invariant-loop : goal.invariant-loop
invariant-loop l = with_front l.read (read_many IdentItem (l.count - l.counter) l.rest) ≡ read_many IdentItem l.count l.bytes
