use Rattle.std.proofs.Common.{refl, ap}
use Rattle.np_model.specs.Alone.{page_role}
use Rattle.np_wire.specs.Feed.{Fed}
use Rattle.np_endpoint.proofs.Stands.{stands-start}
use Rattle.np_host_end.proofs.host_end.HostEnd.new.Goals as goal

pub returns-clause-stands : goal.returns-clause-stands
returns-clause-stands c = stands-start page_role c.args.page _ c.new.ensures.page c.new.ensures.control c.new.ensures.outgoing c.new.ensures.journal refl (ap (λ (f : Fed). f.consumed) c.new.ensures.feed) (ap (λ (f : Fed). f.left) c.new.ensures.feed)
