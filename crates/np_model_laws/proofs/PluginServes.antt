-- The plug-in alone: it stands where the calls that it examined lead, and refuses no call that may come.
use Rattle.std.proofs.Common.{◌≡◌, ℕ, zero, suc, List, [], ◌∷◌, ◌++◌, map, Bool, true, false, not, refl, sym, ap, ◌∙◌, subst, Option, Some, None}
use Rattle.std.specs.Prelude.{if◌then◌else◌}
use Rattle.std.specs.List.{flat_map}
use Rattle.std.proofs.lemmas.List.{map-append, append-nil}
use Rattle.std.proofs.lemmas.Grind.{flat_map-append}
use Rattle.np_message.specs.Message.{Message}
use Rattle.np_model.specs.declared.refusal.Rule.TheVariants.{WrongKind, Place, Unmatched}
use Rattle.np_model.specs.declared.script.Plugin.{Plugin}
use Rattle.np_message.specs.Encoding.{kind_of, depth_byte}
use Rattle.np_model.specs.Side.{SideState, run_steps, examine, at_start}
use Rattle.np_model.specs.Run.{Pace, Acts, Awaits, HasEnded, Meeting, Accepts, Refuses, next_message, meets, listens, turn_at, turn, endpoint_run}
use Rattle.np_message.specs.Kinds.{instance_of, is_reply}
use Rattle.np_model.proofs.Settled.{settled-by, settled-bare}
use Rattle.np_model.specs.PluginPlan.{PluginControl, plugin_start, plugin_plans, plugin_pace, hear_plan, plugin_meet, serve_plan, may_come, control_after_call, lines_of_call, reply_message}
use Rattle.np_model_laws.specs.Laws.{RefusesNone, AreCallsInTurn, control_after_calls}
use Rattle.np_model_laws.proofs.Alone.{endpoint-examined, next-is}

-- ---- calls that may come

-- a call of level 1, without a task's mark, that may come there
abbrev pub IsCallAt : PluginControl → Message → Type 0
IsCallAt c m = (may_come c c.stage m.body ≡ true) × (is_reply m.body ≡ false) × (m.depth.level ≡ 1) × (m.depth.task ≡ false) × (m.releases ≡ [])

pub calls-lead-append : (plugin : Plugin) (c : PluginControl) (before later : List Message) → control_after_calls plugin c (before ++ later) ≡ control_after_calls plugin (control_after_calls plugin c before) later
calls-lead-append plugin c [] later = refl
calls-lead-append plugin c (m ∷ before) later = calls-lead-append plugin (control_after_call plugin c m.body) before later

pub one-more-in-turn : (plugin : Plugin) (c : PluginControl) (before : List Message) (m : Message) → AreCallsInTurn plugin c before → IsCallAt (control_after_calls plugin c before) m → AreCallsInTurn plugin c (before ++ m ∷ [])
one-more-in-turn plugin c [] m h call = (call, tt)
one-more-in-turn plugin c (x ∷ before) m h call = (h.0, one-more-in-turn plugin (control_after_call plugin c x.body) before m h.1 call)

next-in-turn : (plugin : Plugin) (c : PluginControl) (before later : List Message) (m : Message) → AreCallsInTurn plugin c (before ++ m ∷ later) → IsCallAt (control_after_calls plugin c before) m
next-in-turn plugin c [] later m h = h.0
next-in-turn plugin c (x ∷ before) later m h = next-in-turn plugin (control_after_call plugin c x.body) before later m h.1

-- ---- what the plug-in does with its messages

-- it stands where the calls that it examined lead, and did what each of them asks
pub record Serves (plugin : Plugin) (q : SideState PluginControl) : Type 0 where
  pub control : q.control ≡ control_after_calls plugin plugin_start q.examined
  pub sent : q.sent ≡ map (reply_message plugin) q.examined
  pub journal : q.journal ≡ flat_map (λ m. lines_of_call plugin m.body) q.examined

call-serves : (plugin : Plugin) (q : SideState PluginControl) (m : Message) → Serves plugin q → Serves plugin (run_steps (serve_plan plugin q.control m) (examine m q))
call-serves plugin q m h =
    let lines = λ (x : Message). lines_of_call plugin x.body in
    record {
      control = ap (λ c. control_after_call plugin c m.body) h.control ∙ sym (calls-lead-append plugin plugin_start q.examined (m ∷ []));
      sent = ap (λ l. l ++ reply_message plugin m ∷ []) h.sent ∙ sym (map-append (reply_message plugin) q.examined (m ∷ []));
      journal = ap (λ l. l ++ lines m) h.journal ∙ ap (λ l. flat_map lines q.examined ++ l) (sym (append-nil (lines m))) ∙ sym (flat_map-append lines q.examined (m ∷ []));
    }

if-serves : (plugin : Plugin) (q : SideState PluginControl) (m : Message) (b : Bool) (x y : Meeting PluginControl) → Serves plugin (meets q m x) → Serves plugin (meets q m y) → Serves plugin (meets q m (if b then x else y))
if-serves plugin q m true x y h g = h
if-serves plugin q m false x y h g = g

meet-serves : (plugin : Plugin) (q : SideState PluginControl) (m : Message) → Serves plugin q → Serves plugin (meets q m (plugin_meet plugin q.control m))
meet-serves plugin q m h =
    settled-by (λ (meeting : Meeting PluginControl). Serves plugin (meets q m meeting)) q.control.phases m (hear_plan plugin q.control m) (λ rule a b. h)
    (if-serves plugin q m (not (may_come q.control q.control.stage m.body)) (Refuses WrongKind (kind_of m.body) (instance_of m.body)) _ h
    (if-serves plugin q m (is_reply m.body) (Refuses Unmatched (depth_byte m.depth) 0) _ h
    (if-serves plugin q m m.depth.task (Refuses Place (depth_byte m.depth) 0) (Accepts (serve_plan plugin q.control m)) h (call-serves plugin q m h))))

turn-serves : (plugin : Plugin) (got : List Message) (q : SideState PluginControl) → Serves plugin q → Serves plugin (turn (plugin_plans plugin) got q)
turn-serves plugin got q h = at (plugin_pace q.control.stage)
  where
    heard : (o : Option Message) → Serves plugin (listens (plugin_plans plugin) q o)
    heard None = h
    heard (Some m) = meet-serves plugin q m h

    at : (pace : Pace) → Serves plugin (turn_at (plugin_plans plugin) got q pace)
    at Acts = h
    at Awaits = heard (next_message got q)
    at HasEnded = h

pub plugin-serves : (plugin : Plugin) (got : List Message) (n : ℕ) → Serves plugin (endpoint_run (plugin_plans plugin) got n (at_start plugin_start))
plugin-serves plugin got zero = record { control = refl; sent = refl; journal = refl }
plugin-serves plugin got (suc n) = turn-serves plugin got (endpoint_run (plugin_plans plugin) got n (at_start plugin_start)) (plugin-serves plugin got n)

-- ---- nothing is refused

picked : (bars replies tasks : Bool) (w x y z : Meeting PluginControl) → bars ≡ true → replies ≡ false → tasks ≡ false → (if not bars then w else if replies then x else if tasks then y else z) ≡ z
picked bars replies tasks w x y z e f g = simp (e, f, g)

call-accepted : (plugin : Plugin) (c : PluginControl) (m : Message) → IsCallAt c m → plugin_meet plugin c m ≡ Accepts (serve_plan plugin c m)
call-accepted plugin c m h = settled-bare c.phases m (hear_plan plugin c m) h.4 ∙ picked (may_come c c.stage m.body) (is_reply m.body) m.depth.task _ _ _ _ h.0 h.1 h.3

pub plugin-honest : (plugin : Plugin) (got : List Message) → AreCallsInTurn plugin plugin_start got → RefusesNone (plugin_plans plugin) got (at_start plugin_start)
plugin-honest plugin got h turns m rule a b awaits next refused =
    let q = endpoint_run (plugin_plans plugin) got turns (at_start plugin_start) in
    let behind = next-is q.examined got m (endpoint-examined (plugin_plans plugin) got turns plugin_start) next in
    let call = next-in-turn plugin plugin_start q.examined behind.0 m (subst (λ l. AreCallsInTurn plugin plugin_start l) behind.1 h) in
    let accepted = call-accepted plugin q.control m (subst (λ c. IsCallAt c m) (sym (plugin-serves plugin got turns).control) call) in
    let both : Refuses rule a b ≡ Accepts (serve_plan plugin q.control m) = sym refused ∙ accepted in
    cc
