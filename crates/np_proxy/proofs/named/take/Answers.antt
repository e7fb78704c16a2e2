use Rattle.std.proofs.Common.{refl, sym, ◌∙◌}
use Rattle.np_proxy.proofs.Finding.{gone-is, hit-seen, gone-view, rising-remove, missed, kept}
use Rattle.np_proxy.proofs.named.take.Goals as goal

pub returns-in-Some-clause-value : goal.returns-in-Some-clause-value
returns-in-Some-clause-value g c =
    sym (hit-seen g.T.Named.name_of c.args.name c.args.entries.now.items c.as_slice.result.now _ c.in-Some.place c.remove.result refl c.requires.rising c.as_slice.ensures.value c.in-Some.ensures.found c.remove.ensures.value)

pub returns-in-Some-clause-rest : goal.returns-in-Some-clause-rest
returns-in-Some-clause-rest g c =
    c.remove.ensures.items ∙ gone-view g.T.Named.name_of c.args.name c.args.entries.now.items c.as_slice.result.now _ c.in-Some.place refl c.requires.rising c.as_slice.ensures.value c.in-Some.ensures.found c.remove.result

pub returns-in-Some-clause-gone : goal.returns-in-Some-clause-gone
returns-in-Some-clause-gone g c =
    rw c.remove.ensures.items (gone-is g.T.Named.name_of c.args.name c.args.entries.now.items c.as_slice.result.now c.in-Some.place c.requires.rising c.as_slice.ensures.value c.in-Some.ensures.found c.remove.result)

pub returns-in-Some-clause-rising : goal.returns-in-Some-clause-rising
returns-in-Some-clause-rising g c = rw c.remove.ensures.items (rising-remove g.T.Named.name_of c.args.entries.now.items c.in-Some.place c.requires.rising)

pub returns-in-None-clause-rest : goal.returns-in-None-clause-rest
returns-in-None-clause-rest g c = kept g.T.Named.name_of c.args.name c.args.entries.now.items (missed g.T.Named.name_of c.args.name c.args.entries.now.items c.as_slice.result.now _ refl c.as_slice.ensures.value c.in-None.ensures.found)
