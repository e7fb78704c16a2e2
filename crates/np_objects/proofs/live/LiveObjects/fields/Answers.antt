use Rattle.std.proofs.Common.{sym, ap}
use Rattle.np_objects.specs.LiveObjects.{fields_of}
use Rattle.np_objects.proofs.Finding.{hit-seen}
use Rattle.np_objects.proofs.live.LiveObjects.fields.Goals as goal

pub returns : goal.returns
returns c = record { value = sym (ap fields_of (hit-seen c.args.name c.self.inside.objects.items c.args.self.now _ c.place_of-place.result c.index.result.now c.self.view_is c.self.invariant.rising (sym c.self.view_is) c.place_of-place.ensures.at c.index.ensures)) }
