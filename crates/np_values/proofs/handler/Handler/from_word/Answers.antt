use Rattle.np_values.specs.Handler.{handlers}
use Rattle.np_values.proofs.Handlers.{among_inverse, handler_of_none}
use Rattle.np_values.proofs.handler.Handler.from_word.Goals as goal

pub returns-clause-inverse : goal.returns-clause-inverse
returns-clause-inverse c = rw c.handler_among.ensures.value (among_inverse handlers c.args.word.now)

pub returns-clause-none : goal.returns-clause-none
returns-clause-none c = rw c.handler_among.ensures.value (handler_of_none c.args.word.now)
