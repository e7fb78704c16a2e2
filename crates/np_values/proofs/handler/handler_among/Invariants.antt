use Rattle.std.proofs.Common.{◌≡◌, drop}
use Rattle.np_values.specs.Handler.{handler_among}
use Rattle.np_values.proofs.handler.handler_among.Given as goal

abbrev pub invariant-loop-handler : goal.invariant-loop-handler
invariant-loop-handler l = handler_among (drop l.handler-index l.handlers) l.word ≡ handler_among l.handlers l.word
