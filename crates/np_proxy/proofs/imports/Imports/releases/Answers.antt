use Rattle.std.proofs.Common.{◌≡◌, subst, true}
use Rattle.std.specs.List.{list_all}
use Rattle.np_proxy_release.specs.Release.{AreTypedReleases}
use Rattle.np_proxy.specs.Named.{is_rising}
use Rattle.np_proxy.specs.Imports.{Imported, release_name, gives_back}
use Rattle.np_proxy.proofs.CountedLemmas.{are-typed}
use Rattle.np_proxy.proofs.CountedNames.{carries}
use Rattle.np_proxy.proofs.imports.Imports.releases.Goals as goal

pub returns-clause-typed : goal.returns-clause-typed
returns-clause-typed c = subst (λ (i : Imported). AreTypedReleases i.releases) c.self.view_is (are-typed c.self.inside.releases.items c.self.invariant.counted.typed)

pub returns-clause-message : goal.returns-clause-message
returns-clause-message c h =
    let rising = subst (λ (i : Imported). is_rising release_name i.releases ≡ true) c.self.view_is c.self.invariant.keeps.releases_rise in
    let given = subst (λ (i : Imported). list_all gives_back i.releases ≡ true) c.self.view_is c.self.invariant.counted.given in
    carries c.args.self.now h rising given
