use Rattle.std.proofs.Common.{◌≡◌, ap, ◌∙◌, sym, subst, refl, arith}
use Rattle.np_values.specs.declared.name.Side.{Side}
use Rattle.np_proxy.specs.Exports.{Exported, out_of, released, released_name}
use Rattle.np_proxy.proofs.ExportLemmas.{out-released, tells-last}
use Rattle.np_proxy.proofs.exports.Exports.release.Goals as goal

pub returns-clause-last : goal.returns-clause-last
returns-clause-last c lives =
    let side = ap (λ (e : Exported). e.side) c.self.view_is in
    let name = released_name c.args.self.now.side c.args.entry.now in
    let taken = subst (λ (s : Side). c.take_back.new.self ≡ released (released_name s c.args.entry.now) c.from-2.result c.args.self.now) side c.take_back.ensures.value in
    let out = subst (λ (s : Side). c.find_out-place.result.1 ≡ out_of c.args.self.now (released_name s c.args.entry.now)) side c.find_out-place.ensures.out in
    tells-last _ (out_of c.args.self.now name) c.from-2.result c.from-3.result c.find_out-place.result.1 (ap (λ (e : Exported). out_of e name) taken ∙ out-released name c.from-2.result c.args.self.now) out (c.from-3.ensures ∙ sym c.from-2.ensures) (omega (arith, c.if-from-out.false, c.from.ensures, c.from-2.ensures))

pub returns-then-out-eq0-clause-no_other : goal.returns-then-out-eq0-clause-no_other
returns-then-out-eq0-clause-no_other c =
    let side = ap (λ (e : Exported). e.side) c.self.view_is in
    let out = subst (λ (s : Side). c.find_out-place.result.1 ≡ out_of c.args.self.now (released_name s c.args.entry.now)) side c.find_out-place.ensures.out in
    (refl, refl, sym out ∙ c.if-out-eq0.true)

pub returns-then-from-out-clause-no_other : goal.returns-then-from-out-clause-no_other
returns-then-from-out-clause-no_other c =
    let side = ap (λ (e : Exported). e.side) c.self.view_is in
    let out = subst (λ (s : Side). c.find_out-place.result.1 ≡ out_of c.args.self.now (released_name s c.args.entry.now)) side c.find_out-place.ensures.out in
    (refl, out, omega (arith, c.if-out-eq0.false), omega (arith, c.if-from-out.true, c.from.ensures))
