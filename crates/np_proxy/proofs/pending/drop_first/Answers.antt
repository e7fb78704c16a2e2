use Rattle.std.proofs.Common.{◌∙◌, sym, arith}
use Rattle.std.proofs.Math.ListN.{drop_of_length-le}
use Rattle.np_proxy.proofs.pending.drop_first.Goals as goal

pub returns-then-len-le-MOST_CARRIED-clause-value : goal.returns-then-len-le-MOST_CARRIED-clause-value
returns-then-len-le-MOST_CARRIED-clause-value c = c.clear.ensures.items ∙ sym (drop_of_length-le c.args.releases.now.items {i = 1024} (omega arith))
