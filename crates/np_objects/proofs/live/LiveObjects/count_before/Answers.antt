use Rattle.std.proofs.Common.{◌≡◌, true, false, subst, sym, length, ◌≤◌}
use Rattle.std.specs.List.Sorted.{IsPartitionPoint, IsPartitionedBy}
use Rattle.np_values.specs.Name.{is_before}
use Rattle.np_name_search.specs.Names.{itself}
use Rattle.np_objects.proofs.NamesBeside.{are-parted, parts-of, count-within}
use Rattle.np_objects.proofs.live.LiveObjects.count_before.Goals as goal

pub count_before-requires : goal.count_before-requires
count_before-requires c =
    record { partitioned = subst (λ ys. IsPartitionedBy (λ y. is_before (itself y) c.args.name) ys) (sym c.as_slice.ensures.value) (are-parted c.args.name c.self.inside.names.items c.self.inside.objects.items c.self.invariant) }

pub returns-clause-within : goal.returns-clause-within
returns-clause-within c =
    count-within c.self.inside.names.items c.self.inside.objects.items c.args.self.now c.count_before.result c.self.view_is c.self.invariant (subst (λ ys. c.count_before.result ≤ length ys) c.as_slice.ensures.value c.count_before.ensures.within)

pub returns-clause-parts : goal.returns-clause-parts
returns-clause-parts c =
    parts-of c.args.name c.self.inside.names.items c.self.inside.objects.items c.args.self.now c.count_before.result c.self.view_is c.self.invariant (subst (λ ys. c.count_before.result ≤ length ys) c.as_slice.ensures.value c.count_before.ensures.within)
    (subst (λ ys. IsPartitionPoint (λ y. is_before (itself y) c.args.name ≡ true) (λ y. is_before (itself y) c.args.name ≡ false) ys c.count_before.result) c.as_slice.ensures.value c.count_before.ensures.parts)
