use Rattle.std.proofs.Common.{◌≡◌, ◌<◌}
use Rattle.np_message.specs.Encoding.{encoding}
use Rattle.np_wire_speed.proofs.work.encode_times.Given as goal

abbrev pub invariant-loop : goal.invariant-loop
invariant-loop l = 0 < l.counter → l.out.items ≡ encoding l.fn.message
