use Rattle.std.proofs.Common.{arith}
use Rattle.np_calls.proofs.Depths.{two-are-not-alone}
use Rattle.np_calls.proofs.place.is_task_alone.Goals as goal

pub returns-in_default-2 : goal.returns-in_default-2
returns-in_default-2 c = record { value = two-are-not-alone _ c.requires.calls (let n = c.in_default.len_at_least in omega (arith, n)) }
