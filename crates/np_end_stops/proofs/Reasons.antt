-- Why an exchange came to its ending.
use Rattle.std.proofs.Common.{◌≡◌, ℕ, Bool, true, Ok}
use Rattle.np_ports.specs.Causes.{Rose}
use Rattle.np_end_stops.specs.declared.ending.Ending.{Ending}
use Rattle.np_end_stops.specs.declared.ending.Ending.TheVariants as endings
use Rattle.np_end_stops.specs.PeerCauses.{TalkFault, TalkEnded, HasReason}

pub ending-reason : (before now : ℕ) (ended : Bool) (ending : Ending) → TalkFault (Ok ending) (Rose before now) → TalkEnded ended (Ok ending) → HasReason (Rose before now) (ended ≡ true) ending
ending-reason before now ended endings.Done fault end = tt
ending-reason before now ended endings.Unsent fault end = fault
ending-reason before now ended endings.Ended fault end = end
ending-reason before now ended endings.Failed fault end = fault
ending-reason before now ended (endings.Refused r) fault end = tt
