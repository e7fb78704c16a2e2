use Rattle.std.proofs.lemmas.Grind.{common_steps}
use Rattle.std.proofs.Common.{arith}
use Rattle.np_ports.proofs.file_memory.put.Goals as goal

pub returns-clause-ok : goal.returns-clause-ok
returns-clause-ok c = (_, c.in_ok-push.ensures.items, grind (arith, common_steps), grind (arith, common_steps))
