use Rattle.np_values.specs.Name.{is_before}
use Rattle.np_name_search.proofs.Halving.{Halved}
use Rattle.np_name_search.proofs.search.count_before.Given as goal

abbrev pub invariant-loop-size : goal.invariant-loop-size
invariant-loop-size g l = Halved (λ e. is_before (g.T.Named.name_of e) l.fn.name) l.entries l.base l.size

abbrev pub decreases-loop-size : goal.decreases-loop-size
decreases-loop-size g l = l.size
