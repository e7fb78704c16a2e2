use Rattle.std.proofs.Common.{arith, sym, ap, ◌∙◌}
use Rattle.np_values.specs.declared.name.Name.{Name}
use Rattle.np_values.specs.Name.{is_before}
use Rattle.np_proxy.proofs.Finding.{missing, not_there}
use Rattle.np_proxy.proofs.named.find.Goals as goal

pub returns-then-place-entries : goal.returns-then-place-entries
returns-then-place-entries g c = record { found = missing g.T.Named.name_of c.args.name c.args.entries.now c.place_of-place.result c.requires.rising c.place_of-place.ensures.parts.0 c.place_of-place.ensures.parts.1 (λ d l q. absurd (omega arith)) }

pub returns-then-before : goal.returns-then-before
returns-then-before g c = record { found = not_there g.T.Named.name_of c.args.name c.args.entries.now c.place_of-place.result c.index-entries-place.result c.requires.rising c.place_of-place.ensures.parts.0 c.place_of-place.ensures.parts.1 (omega arith) c.index-entries-place.is (sym c.if-before.true ∙ c.before-2.ensures.value ∙ ap (λ (n : Name). is_before c.args.name n) (c.name.ensures.value ∙ ap (λ e. g.T.Named.name_of e) c.index-entries-place.is)) }
