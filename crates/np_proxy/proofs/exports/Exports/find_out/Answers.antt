use Rattle.std.proofs.Common.{ap, sym}
use Rattle.np_proxy.specs.Exports.{Exported, export_name, count_of}
use Rattle.np_proxy.proofs.Finding.{hit-seen}
use Rattle.np_proxy.proofs.exports.Exports.find_out.Goals as goal

pub returns-in-Some-clause-out : goal.returns-in-Some-clause-out
returns-in-Some-clause-out c =
    let seen = hit-seen export_name c.args.name c.self.inside.objects.items c.as_slice.result.now c.args.self.now.objects c.in-Some.place c.index.result.now (ap (λ (e : Exported). e.objects) c.self.view_is) c.self.invariant c.as_slice.ensures.value c.in-Some.ensures.found c.index.ensures in
    sym (ap count_of seen)
