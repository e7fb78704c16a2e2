-- What a side gives back keeps the wire format, where all that came keeps it. (This project's own.)
use Rattle.std.specs.Prelude.{◌≤◌, length}
use Rattle.np_proxy_release.specs.Release.{AreRising}
use Rattle.np_message.specs.Message.{Message}
use Rattle.np_message.specs.Rules.{Each, KeepsFormat}
use Rattle.np_machine.specs.Side.{SideState}

-- the message gives back at most 1,024 names, in rising order, and of each at least one reference
pub record HasRisingReleases (m : Message) : Type 0 where
  pub few : length m.releases ≤ 1024
  pub rising : AreRising m.releases

-- Pending releases rise, and so do those of each message that the side sent, where each message that it examined keeps the format.
pub record KeepsReleases {C : Type 0} (p : SideState C) : Type 0 where
  pub pending : AreRising p.pending_releases
  pub sent : Each HasRisingReleases p.sent
  pub waiting : Each KeepsFormat p.undelivered
  pub came : Each KeepsFormat p.delivered
