use Rattle.std.proofs.Common.{◌∙◌, ap, sym, refl, arith, subst}
use Rattle.np_values.specs.declared.name.Name.{Name}
use Rattle.np_proxy.specs.Named.{IsAt}
use Rattle.np_proxy.specs.Imports.{release_name, times_at, more_times}
use Rattle.np_proxy.proofs.Finding.{edit-view, edit-rising, hit-seen, hit-there-is}
use Rattle.np_proxy.proofs.PendingLemmas.{added-there}
use Rattle.np_proxy.proofs.CountedLemmas.{typed-at, typed-with, is-typed}
use Rattle.np_proxy.proofs.pending.add_release.Goals as goal

pub overflow_add-pending : goal.overflow_add-pending
overflow_add-pending c =
    let at = subst (λ (x : Name). IsAt release_name x c.as_slice.result.now c.in-Some.place) c.name.ensures.value c.in-Some.ensures.found in
    let seen = hit-seen release_name (release_name c.args.release) c.args.releases.now.items c.as_slice.result.now _ c.in-Some.place c.index_mut-pending.result.now refl c.requires.rising c.as_slice.ensures.value at c.index_mut-pending.ensures.value in
    let times = ap times_at seen in
    omega (arith, times, c.requires.fits)

pub returns-in-Some-clause-value : goal.returns-in-Some-clause-value
returns-in-Some-clause-value c =
    let at = subst (λ (x : Name). IsAt release_name x c.as_slice.result.now c.in-Some.place) c.name.ensures.value c.in-Some.ensures.found in
    let there = hit-there-is release_name c.args.release (release_name c.args.release) c.args.releases.now.items c.as_slice.result.now c.args.releases.now.items c.in-Some.place refl c.requires.rising c.as_slice.ensures.value at in
    let edited = edit-view release_name (release_name c.args.release) (more_times c.args.release.times) c.args.releases.now.items c.as_slice.result.now c.args.releases.now.items c.in-Some.place c.index_mut-pending.result.now _ refl c.requires.rising c.as_slice.ensures.value at c.index_mut-pending.ensures.value refl in
    edited ∙ sym (added-there c.args.release c.args.releases.now.items there)

pub returns-in-Some-clause-rising : goal.returns-in-Some-clause-rising
returns-in-Some-clause-rising c =
    edit-rising release_name c.name.result c.args.releases.now.items c.as_slice.result.now c.in-Some.place c.index_mut-pending.result.now _ c.requires.rising c.as_slice.ensures.value c.in-Some.ensures.found c.index_mut-pending.ensures.value refl

pub returns-in-Some-clause-typed : goal.returns-in-Some-clause-typed
returns-in-Some-clause-typed c typed =
    let at = subst (λ (x : Name). IsAt release_name x c.as_slice.result.now c.in-Some.place) c.name.ensures.value c.in-Some.ensures.found in
    let edited = edit-view release_name (release_name c.args.release) (more_times c.args.release.times) c.args.releases.now.items c.as_slice.result.now c.args.releases.now.items c.in-Some.place c.index_mut-pending.result.now _ refl c.requires.rising c.as_slice.ensures.value at c.index_mut-pending.ensures.value refl in
    rw edited (typed-at (release_name c.args.release) c.args.release.times c.args.releases.now.items (omega (arith, c.requires.fits)) typed)

pub returns-in-Ok-clause-typed : goal.returns-in-Ok-clause-typed
returns-in-Ok-clause-typed c typed =
    rw c.in-Ok.ensures.ok (typed-with c.args.release c.args.releases.now.items (is-typed c.args.release (omega arith) (omega arith) (omega arith)) typed)
