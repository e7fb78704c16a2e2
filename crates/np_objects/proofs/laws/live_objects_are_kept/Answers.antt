use Rattle.np_objects.proofs.Histories.{kept-one}
use Rattle.np_objects.proofs.laws.live_objects_are_kept.Goals as goal

pub returns : goal.returns
returns c = record { law = kept-one }
