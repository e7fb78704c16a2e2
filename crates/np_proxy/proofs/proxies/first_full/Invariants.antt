use Rattle.std.proofs.Common.{◌≡◌, take, drop}
use Rattle.np_proxy.specs.Imports.{full_among, all_taken_up}
use Rattle.np_proxy.proofs.proxies.first_full.Given as goal

abbrev pub invariant-loop-place : goal.invariant-loop-place
invariant-loop-place l = full_among l.purged l.releases l.names l.proxies ≡ full_among l.purged l.releases (drop l.place l.names) (all_taken_up l.purged (take l.place l.names) l.proxies)
