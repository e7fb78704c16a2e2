use Rattle.std.proofs.Common.{◌≡◌, take, map}
use Rattle.std.specs.List.{filter}
use Rattle.np_proxy.specs.Imports.{import_name, is_held_in}
use Rattle.np_proxy.proofs.proxies.held_names.Given as goal

abbrev pub invariant-loop-proxy : goal.invariant-loop-proxy
invariant-loop-proxy l = l.names ≡ map import_name (filter (is_held_in l.instance) (take l.proxy-index l.proxies))
