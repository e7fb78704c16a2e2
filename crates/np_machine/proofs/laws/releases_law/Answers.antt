use Rattle.np_machine.proofs.ReleaseRuns.{start-rises, step-rises, sends-rise, examine-rises, endpoint-rises}
use Rattle.np_machine.proofs.laws.releases_law.Goals as goal

pub returns : goal.returns
returns g c = record { law = ((λ side c. start-rises side c), (λ remote step p. step-rises remote step p), (λ sends p. sends-rise sends p), (λ m p. examine-rises m p), (λ P got turns side c. endpoint-rises P got turns side c)) }
