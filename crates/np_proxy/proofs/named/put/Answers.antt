use Rattle.std.proofs.Common.{refl, ◌≡◌, ◌∙◌, subst, true, false, get_or}
use Rattle.np_values.specs.declared.name.Name.{Name}
use Rattle.np_values.specs.Name.{is_before}
use Rattle.np_proxy.proofs.Finding.{put-view, put-rising}
use Rattle.np_proxy.proofs.named.put.Goals as goal

pub returns-clause-ok : goal.returns-clause-ok
returns-clause-ok g c =
    c.in_ok-insert.ensures.items ∙ put-view g.T.Named.name_of c.args.entries.now.items c.as_slice.result.now c.args.entries.now.items c.place_of-place.result c.args.entry refl c.requires.rising c.as_slice.ensures.value c.requires.absent
    (λ k d a b. subst (λ (n : Name). is_before (g.T.Named.name_of (get_or c.as_slice.result.now k d)) n ≡ true) c.name.ensures.value (c.place_of-place.ensures.parts.0 k d a b))
    (λ k d a b. subst (λ (n : Name). is_before (g.T.Named.name_of (get_or c.as_slice.result.now k d)) n ≡ false) c.name.ensures.value (c.place_of-place.ensures.parts.1 k d a b))
    c.place_of-place.ensures.within

pub returns-clause-rising : goal.returns-clause-rising
returns-clause-rising g c =
    rw c.in_ok-insert.ensures.items (put-rising g.T.Named.name_of c.args.entries.now.items c.as_slice.result.now c.args.entries.now.items c.place_of-place.result c.args.entry refl c.requires.rising c.as_slice.ensures.value c.requires.absent
    (λ k d a b. subst (λ (n : Name). is_before (g.T.Named.name_of (get_or c.as_slice.result.now k d)) n ≡ true) c.name.ensures.value (c.place_of-place.ensures.parts.0 k d a b))
    (λ k d a b. subst (λ (n : Name). is_before (g.T.Named.name_of (get_or c.as_slice.result.now k d)) n ≡ false) c.name.ensures.value (c.place_of-place.ensures.parts.1 k d a b))
    c.place_of-place.ensures.within)
