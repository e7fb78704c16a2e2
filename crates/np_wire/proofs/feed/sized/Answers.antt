use Rattle.std.proofs.Common.{ℕ, Option, Err, refl, arith}
use Rattle.np_message.specs.Message.{Message}
use Rattle.np_wire.specs.Feed.{IsWholeBody}
use Rattle.np_wire.proofs.Fronts.{sized_memory, wants_anyway}
use Rattle.np_wire.proofs.feed.sized.Goals as goal

pub returns-in-Err-clause-memory : goal.returns-in-Err-clause-memory
returns-in-Err-clause-memory c = sized_memory (Option (Message × ℕ)) c.args.at c.args.size c.args.rest.now _ c.in-Err.broken _ (omega arith) refl c.refused.ensures c.in-Err.ensures.memory

pub returns-in-Err-clause-memory_whole : goal.returns-in-Err-clause-memory_whole
returns-in-Err-clause-memory_whole c =
    let whole : IsWholeBody c.args.size c.args.rest.now = (omega arith, omega arith, omega arith) in
    wants_anyway {X = Option (Message × ℕ)} whole (Err c.refused.result)
