-- What the map of fields does, in the words of lists.
use Rattle.std.proofs.Common.{◌≡◌, ◌<◌, List, [], ◌∷◌, ◌++◌, length, true, None, refl, sym, ap, ◌∙◌, subst, arith}
use Rattle.std.specs.Prelude.{nat_lt}
use Rattle.std.proofs.lemmas.Bool.Decides.{nat_tests}
use Rattle.np_values.specs.declared.value.Value.{Value}
use Rattle.np_idents.specs.declared.key.IdKey.{IdKey}
use Rattle.np_idents.specs.IdKey.{is_same_key}
use Rattle.indexmap.specs.IndexMap.{IndexMap, insert_entry}
use Rattle.indexmap.proofs.CallerLemmas.{insert_entry-new}
use Rattle.np_objects.specs.Fields.{field_at, fields_set}

-- a new field in the room that is left
added : (key : IdKey) (value : Value) (fs : List (IdKey × Value)) → field_at key fs ≡ None → length fs < 64 → fields_set key value fs ≡ fs ++ (key, value) ∷ []
added key value fs none room =
    let few : nat_lt (length fs) 64 ≡ true = grind (arith, nat_tests) in
    simp (none, few) refl

pub inserted : {S : Type 0} (m inside : IndexMap IdKey Value S) (fs new : List (IdKey × Value)) (key copy : IdKey) (value : Value)
    → m ≡ inside → inside.entries ≡ fs → field_at key fs ≡ None → length m.entries < 64 → copy ≡ key → new ≡ insert_entry is_same_key m.entries copy value → new ≡ fields_set key value fs
inserted {S} m inside fs new key copy value same_map view none room same put =
    let seen : m.entries ≡ fs = ap (λ (t : IndexMap IdKey Value S). t.entries) same_map ∙ view in
    let absent : field_at copy m.entries ≡ None = ap (λ k. field_at k m.entries) same ∙ ap (field_at key) seen ∙ none in
    let last = insert_entry-new is_same_key m copy value absent in
    let key_is = ap (λ k. m.entries ++ (k, value) ∷ []) same in
    put ∙ last ∙ key_is ∙ ap (λ l. l ++ (key, value) ∷ []) seen ∙ sym (added key value fs none (subst (λ l. length l < 64) seen room))
