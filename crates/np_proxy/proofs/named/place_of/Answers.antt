use Rattle.np_proxy.proofs.Finding.{parted}
use Rattle.np_proxy.proofs.named.place_of.Goals as goal

pub count_before-requires : goal.count_before-requires
count_before-requires g c = record { partitioned = λ i j d l m b. parted g.T.Named.name_of c.args.name c.args.entries.now i j d c.requires.rising l m b }
