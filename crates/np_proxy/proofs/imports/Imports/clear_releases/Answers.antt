use Rattle.np_proxy.proofs.CountedLemmas.{counted-dropped}
use Rattle.np_proxy.proofs.KeepingLemmas.{keeps-cleared}
use Rattle.std.specs.Vec.{vec_capacity}
use Rattle.np_proxy.specs.Imports.{Imported}
use Rattle.np_proxy.proofs.CallLemmas.{leaves-cleared}
use Rattle.np_proxy.proofs.imports.Imports.clear_releases.Goals as goal

pub invariant_of-self : goal.invariant_of-self
invariant_of-self c = rw (c.drop_first.ensures.value, c.drop_first.ensures.capacity) (record { keeps = keeps-cleared _ _ 1024 c.self.invariant.keeps; counted = counted-dropped 1024 _ _ c.self.invariant.counted })

pub returns-clause-carried : goal.returns-clause-carried
returns-clause-carried c =
    let before : Imported = record { side = c.self.inside.side; proxies = c.self.inside.proxies.items; releases = c.self.inside.releases.items; purged = c.self.inside.purged } in
    leaves-cleared before c.args.self.now c.drop_first.new.releases.items (vec_capacity c.self.inside.releases) c.self.view_is c.self.invariant.keeps c.drop_first.ensures.value
