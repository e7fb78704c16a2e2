use Rattle.np_machine.proofs.Balances.{step-sound, sends-sound, examine-sound}
use Rattle.np_machine.proofs.SoundRuns.{start-sound, endpoint-sound}
use Rattle.np_machine.proofs.laws.sound_law.Goals as goal

pub returns : goal.returns
returns g c = record { law = ((λ side c. start-sound side c), (λ remote step p. step-sound remote step p), (λ sends p. sends-sound sends p), (λ m p. examine-sound m p), (λ P got turns side c. endpoint-sound P got turns side c)) }
