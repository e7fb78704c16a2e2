-- What is built of the lines of a body.
use Rattle.std.proofs.Common.{◌≡◌, ℕ, List, [], ◌∷◌, ◌++◌, false, Some, refl, sym, subst, map, append_assoc, append-nil}
use Rattle.std.specs.Prelude.{codes, bytes_eq}
use Rattle.np_values.specs.declared.name.Side.{Side}
use Rattle.np_script_grammar.specs.declared.action.Action.{Action}
use Rattle.np_script_grammar.specs.declared.action.Action.TheVariants as actions
use Rattle.np_script_grammar.specs.declared.place.Place.{Place}
use Rattle.np_script_grammar.specs.declared.line.Field.{Field}
use Rattle.np_script_grammar.specs.Forms.{IsOf}
use Rattle.np_script_grammar.specs.Tables.{action_table, body_table, table_at}
use Rattle.np_script_grammar.specs.Rows.{action_line}
use Rattle.np_script_grammar.specs.Scripts.{place_after}
use Rattle.np_script_actions.specs.Actions.{action_of}
use Rattle.np_script_builder.proofs.RowLaws.{AreRead}
use Rattle.np_script_builder.specs.declared.state.Unfinished.{Unfinished}
use Rattle.np_script_builder.specs.declared.state.Building.{Building}
use Rattle.np_script_builder.specs.Building.{built_after}
use Rattle.np_script_builder.proofs.ByRows.{of_others}
use Rattle.np_script_builder.proofs.Parts.{AreListed, Leads, leads_by, leads_nowhere, both_lead}

-- an action's word isn't that of an end
pub no_end : (action : Action) → bytes_eq (action_line action).0 (codes "end") ≡ false
no_end (actions.Set r v) = refl
no_end (actions.Add r v w) = refl
no_end actions.Fail = refl
no_end (actions.Return v) = refl
no_end (actions.Throw t) = refl
no_end (actions.New r t) = refl
no_end (actions.Drop r) = refl
no_end (actions.Slot n v) = refl
no_end (actions.Load r n) = refl
no_end (actions.SelfTo r) = refl
no_end (actions.Invoke r v k all) = refl
no_end (actions.CallDefault r v all) = refl
no_end (actions.Construct r v all) = refl
no_end (actions.Get r v k) = refl
no_end (actions.Put v k w) = refl
no_end (actions.Remove v k) = refl
no_end (actions.HasMethod v k) = refl
no_end (actions.HasProperty v k) = refl
no_end (actions.Enumerate r v) = refl
no_end (actions.Window r) = refl
no_end (actions.GetUrl r v z) = refl
no_end (actions.RequestRead r v all) = refl
no_end (actions.EndStream r v reason) = refl
no_end (actions.Later t) = refl
no_end (actions.Note v) = refl
no_end (actions.Destroy r n) = refl
no_end (actions.OnTrue n) = refl
no_end (actions.OnFalse n) = refl
no_end (actions.OnEq v w n) = refl
no_end (actions.Exit n) = refl

-- A body that is open at a place: what is unfinished by its actions so far, and what its lines do there.
pub record IsBody (side : Side) (place : Place) (unfinished : List Action → Unfinished) : Type 0 where
  pub table_is : table_at side place ≡ body_table side
  pub stays : (word : List ℕ) → bytes_eq word (codes "end") ≡ false → place_after place word ≡ place
  pub grows : (b : Building) (body : List Action) (word : List ℕ) (fields : List Field) (action : Action) → bytes_eq word (codes "end") ≡ false → action_of word fields ≡ Some action
      → built_after place (record b { unfinished = unfinished body }) (word, fields) ≡ Some (record b { unfinished = unfinished (body ++ action ∷ []) })

-- one action
one_action : AreRead → (side : Side) (place : Place) (unfinished : List Action → Unfinished) → IsBody side place unfinished → (b : Building) (body : List Action) (action : Action) → AreListed side place (action_line action ∷ [])
    → Leads place (record b { unfinished = unfinished body }) (action_line action ∷ []) place (record b { unfinished = unfinished (body ++ action ∷ []) })
one_action laws side place unfinished is b body action all =
    let listed : IsOf (body_table side) (action_line action) = subst (λ t. IsOf t (action_line action)) is.table_is all.0 in
    let own : IsOf (action_table side) (action_line action) = of_others _ (action_table side) (action_line action).0 (action_line action).1 (no_end action) listed in
    let read : action_of (action_line action).0 (action_line action).1 ≡ Some action = laws.actions side action own in
    leads_by place _ (action_line action) place _ (is.stays (action_line action).0 (no_end action)) (is.grows b body (action_line action).0 (action_line action).1 action (no_end action) read)

-- all of them
pub actions_lead : AreRead → (side : Side) (place : Place) (unfinished : List Action → Unfinished) → IsBody side place unfinished → (b : Building) (body more : List Action) → AreListed side place (map action_line more)
    → Leads place (record b { unfinished = unfinished body }) (map action_line more) place (record b { unfinished = unfinished (body ++ more) })
actions_lead laws side place unfinished is b body [] all =
    subst (λ (l : List Action). Leads place (record b { unfinished = unfinished body }) [] place (record b { unfinished = unfinished l })) (sym (append-nil body)) (leads_nowhere place (record b { unfinished = unfinished body }))
actions_lead laws side place unfinished is b body (action ∷ more) all =
    let others = actions_lead laws side place unfinished is b (body ++ action ∷ []) more in
    let joined = both_lead side place (record b { unfinished = unfinished body }) (action_line action ∷ []) (map action_line more) place place (record b { unfinished = unfinished (body ++ action ∷ []) })
    (record b { unfinished = unfinished ((body ++ action ∷ []) ++ more) }) (one_action laws side place unfinished is b body action) others all in
    subst (λ (l : List Action). Leads place (record b { unfinished = unfinished body }) (action_line action ∷ map action_line more) place (record b { unfinished = unfinished l })) (append_assoc body (action ∷ []) more) joined
