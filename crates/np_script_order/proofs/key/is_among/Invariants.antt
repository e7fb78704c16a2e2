use Rattle.std.proofs.Common.{◌≡◌, bytes_eq, drop}
use Rattle.std.specs.List.{list_any}
use Rattle.np_script_order.specs.Keys.{joined}
use Rattle.np_script_order.proofs.key.is_among.Given as goal

abbrev pub invariant-loop-key : goal.invariant-loop-key
invariant-loop-key l =
    list_any (bytes_eq (joined l.fn.word l.fn.name)) (drop l.key-index l.keys) ≡ list_any (bytes_eq (joined l.fn.word l.fn.name)) l.keys
