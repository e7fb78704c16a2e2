use Rattle.np_proxy.proofs.SendingLemmas.{rise-as-message}
use Rattle.np_proxy.proofs.laws.releases_rise.Goals as goal

pub returns : goal.returns
returns c = record { law = rise-as-message }
