use Rattle.std.proofs.Common.{◌≡◌, ◌∙◌, ap, arith, length, suc, ◌+◌, ◌≤◌, ◌++◌, ◌∷◌, [], take}
use Rattle.std.proofs.lemmas.List.{take_all}
use Rattle.np_machine_plans.specs.Classes.{keys_of}
use Rattle.np_side_places.specs.StoredObjects.{properties_of_fields}
use Rattle.np_side_planner.proofs.StoredObjectLemmas.{keys-length, keys-more}
use Rattle.np_side_planner.proofs.objects.property_keys.Goals as goal

pub returns : goal.returns
returns c =
    let l : length c.fields-fields.result.now ≤ c.loop-place.place = omega (arith, c.loop-place-test.false, c.len-place-end.ensures.value) in
    let e = c.loop-place.invariant ∙ ap (λ fs. keys_of (properties_of_fields fs)) (take_all c.loop-place.place c.fields-fields.result.now l) in
    let n : length c.loop-place.keys ≡ length c.fields-fields.result.now = ap length e ∙ keys-length c.fields-fields.result.now in
    record { value = e ∙ ap (λ fs. keys_of (properties_of_fields fs)) c.fields-fields.ensures.value; few = omega (arith, n, c.len-place-end.ensures.few) }

pub loop-place-preserved : goal.loop-place-preserved
loop-place-preserved c =
    let m : suc c.loop-place.place ≡ c.loop-place.place + 1 = omega arith in
    c.in_ok-push-in-Some.ensures.ok
    ∙ ap (λ k. c.loop-place.keys ++ k ∷ []) c.in_ok-try_copy-in-Some.ensures.value
    ∙ ap (λ l. l ++ c.in-Some.key.now ∷ []) c.loop-place.invariant
    ∙ keys-more c.fields-fields.result.now c.loop-place.place c.in-Some.key.now _ c.in-Some.ensures.value
    ∙ ap (λ i. keys_of (properties_of_fields (take i c.fields-fields.result.now))) m
