use Rattle.std.proofs.Common.{ap, ◌∙◌}
use Rattle.std.specs.List.{remove}
use Rattle.np_objects.proofs.NamesBeside.{put-back}
use Rattle.np_objects.proofs.live.put_beside.Goals as goal

pub returns-clause-same_names : goal.returns-clause-same_names
returns-clause-same_names c =
    c.remove.ensures.items ∙ ap (λ ys. remove ys c.args.place) c.in_ok-insert.ensures.items ∙ put-back c.args.names.now.items c.args.place _ c.requires.names
