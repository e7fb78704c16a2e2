use Rattle.std.proofs.Common.{◌∷◌}
use Rattle.np_message.specs.Encoding.{number_item, counted_item}
use Rattle.np_wire_encode.proofs.Sizes.{appended}
use Rattle.np_wire_encode.proofs.payloads.push_write.Goals as goal

pub returns-clause-ok : goal.returns-clause-ok
returns-clause-ok c =
    appended c.args.out.now.items (c.args.instance ∷ number_item c.args.stream) (number_item c.args.offset) (counted_item c.args.bytes.now) _ _ _ c.in_ok-push_stream.ensures.ok c.in_ok-push_number.ensures.ok c.in_ok-push_counted.ensures.ok
