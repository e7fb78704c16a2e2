use Rattle.std.proofs.Common.{sym, ap}
use Rattle.np_objects.specs.LiveObjects.{holds_of}
use Rattle.np_objects.proofs.Finding.{hit-seen}
use Rattle.np_objects.proofs.live.LiveObjects.holds_of.Goals as goal

pub returns-in-Some : goal.returns-in-Some
returns-in-Some c = record { value = sym (ap holds_of (hit-seen c.args.name c.self.inside.objects.items c.args.self.now _ c.in-Some.place c.index.result.now c.self.view_is c.self.invariant.rising (sym c.self.view_is) c.in-Some.ensures.found c.index.ensures)) }
