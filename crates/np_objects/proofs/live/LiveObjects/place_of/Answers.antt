use Rattle.np_objects.proofs.Finding.{there_at}
use Rattle.np_objects.proofs.live.LiveObjects.place_of.Goals as goal

pub returns : goal.returns
returns c = record { at = there_at c.args.name c.args.self.now c.count_before.result c.count_before.ensures.rising c.requires.live c.count_before.ensures.parts.0 c.count_before.ensures.parts.1 }
