use Rattle.std.proofs.Common.{◌≡◌, subst, true}
use Rattle.np_objects.specs.LiveObjects.{names_in, are_rising}
use Rattle.np_objects.proofs.Keeping.{names-rise}
use Rattle.np_objects.proofs.live.LiveObjects.names_in.Goals as goal

pub returns-in_err-push-clause-rising : goal.returns-in_err-push-clause-rising
returns-in_err-push-clause-rising c =
    subst (λ os. are_rising (names_in c.args.instance os) ≡ true) c.self.view_is (names-rise c.args.instance c.self.inside.objects.items c.self.invariant.rising)

pub returns-clause-rising : goal.returns-clause-rising
returns-clause-rising c =
    subst (λ os. are_rising (names_in c.args.instance os) ≡ true) c.self.view_is (names-rise c.args.instance c.self.inside.objects.items c.self.invariant.rising)
