use Rattle.np_machine.proofs.Naming.{start-names, step-names, sends-names, turn-names, endpoint-names}
use Rattle.np_machine.specs.Turn.{is_remote_by_messages, endpoint_run}
use Rattle.np_machine.proofs.laws.names_law.Goals as goal

pub returns : goal.returns
returns g c = record { law = ((λ side c. start-names side c), (λ remote step p k. (step-names remote step p).keeps k), (λ sends p k. (sends-names sends p).keeps k), (λ remote step p n. (step-names remote step p).serials n), (λ P got turns side c. endpoint-names P got turns side c), (λ P got turns from n. (turn-names is_remote_by_messages P got (endpoint_run P got turns from)).serials n)) }
