use Rattle.std.proofs.Common.{sym, ap, ◌∙◌, Some}
use Rattle.np_proxy.proofs.Finding.{looked_up}
use Rattle.np_proxy.proofs.named.get.Goals as goal

pub returns-in-Some : goal.returns-in-Some
returns-in-Some g c =
    let at = c.in-Some.ensures.found in
    record { value = looked_up g.T.Named.name_of c.args.name c.args.entries.now c.in-Some.place c.index-entries-place.result c.requires.rising at.within (at.named c.index-entries-place.result) ∙ ap (λ e. Some e) (sym c.index-entries-place.is) }
