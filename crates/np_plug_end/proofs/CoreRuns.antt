-- How the private calls of an end carry on what it stands for.
use Rattle.std.proofs.Common.{◌≡◌, false, Some, refl, ap, sym, ◌∙◌, subst, ◌⊎◌, inl, inr}
use Rattle.np_model.specs.declared.script.Plugin.{Plugin}
use Rattle.np_model.specs.declared.plugin.PluginStage.{PluginStage}
use Rattle.np_model.specs.declared.plugin.PluginStage.TheVariants.{Begin, Serving, Ended}
use Rattle.np_model.specs.Side.{at_start}
use Rattle.np_message.specs.Decoding.{front}
use Rattle.np_model.specs.Run.{Awaits, HasEnded}
use Rattle.np_model.specs.PluginPlan.{PluginControl, plugin_pace, plugin_meet, serve_plan}
use Rattle.np_model.specs.PluginRun.{IsListening}
use Rattle.np_model.specs.Alone.{plugin_role}
use Rattle.np_model.specs.Refused.{RefusedBy}
use Rattle.np_model_laws.specs.Laws.{PluginMoreMessagesLaw}
use Rattle.np_endpoint.specs.End.{Keeps, HasPace, RestsAs}
use Rattle.np_endpoint.specs.declared.halt.Halt.{Halt}
use Rattle.np_endpoint.specs.declared.halt.Halt.TheVariants.{Waiting, Finished, Refused}
use Rattle.np_endpoint.proofs.Stands.{EndListens, stands-met, stands-refused}
use Rattle.np_plug_end.specs.declared.plug_core.Core.{Core}
use Rattle.np_plug_end.specs.Core.{control_of, Listens, Listened}
use Rattle.np_plug_end.specs.PlugEnd.{seen}
use Rattle.np_model.proofs.Paces.{plugin-awaits, plugin-ended}

pub listening-at : (s : PluginStage) → (s ≡ Begin) ⊎ (s ≡ Serving) → IsListening s
listening-at s (inl e) = subst IsListening (sym e) tt
listening-at s (inr e) = subst IsListening (sym e) tt

-- ---- the pace of a plug-in

pub awaits : (plugin : Plugin) (c : PluginControl) → IsListening c.stage → HasPace (plugin_role plugin) c Awaits
awaits plugin c a p same = subst (λ (d : PluginControl). plugin_pace d.stage ≡ Awaits) (sym same) (plugin-awaits c.stage a)

pub has-ended : (plugin : Plugin) (c : PluginControl) → c.stage ≡ Ended → HasPace (plugin_role plugin) c HasEnded
has-ended plugin c e p same = subst (λ (d : PluginControl). plugin_pace d.stage ≡ HasEnded) (sym same) (ap plugin_pace e)

-- ---- a message

end-listens : (old new : Core) → IsListening old.stage → (l : Listens old new) → EndListens plugin_role (seen old Waiting false) (seen new Waiting false) l.message (serve_plan old.plugin (control_of old) l.message)
end-listens old new a l = record {
  awaits = awaits old.plugin (control_of old) a;
  plan = λ p same. ap (λ (c : PluginControl). plugin_meet old.plugin c l.message) same ∙ l.plan;
  moves = record { control = l.moves.control; outgoing = l.moves.outgoing; journal = l.moves.journal; script = l.moves.plugin; old_state = refl; new_state = refl };
  keeps = l.keeps;
  typed = l.typed;
  bytes = l.bytes;
  total = l.consumed;
}

pub listened-keeps : PluginMoreMessagesLaw → (old new : Core) → IsListening old.stage → Listens old new → Keeps plugin_role (seen old Waiting false) (seen new Waiting false)
listened-keeps more old new a l = λ plugin got sent printed s. stands-met more plugin_role plugin got sent printed _ _ l.message _ (end-listens old new a l) s

-- ---- an end that halts

pub record Halted (old new : Core) (s : Halt) : Type 0 where
  pub keeps : Keeps plugin_role (seen old Waiting false) (seen new s false)
  pub rests : RestsAs plugin_role (seen new s false) s

pub halted : (old new : Core) (s : Halt) → IsListening old.stage → Listened old new (Some s) → Halted old new s
halted old new Waiting a w = record {
  keeps = subst (λ (c : Core). Keeps plugin_role (seen old Waiting false) (seen c Waiting false)) (sym w.same) (λ plugin got sent printed s. s);
  rests = subst (λ (c : Core). RestsAs plugin_role (seen c Waiting false) Waiting) (sym w.same) (refl, awaits old.plugin (control_of old) a, w.partial);
}
halted old new Finished a w = absurd w
halted old new (Refused r) a w = record {
  keeps = λ plugin got sent printed s. stands-refused plugin_role plugin got sent printed (seen old Waiting false) (seen new (Refused r) false) r (record {
    control = w.control;
    outgoing = w.outgoing;
    journal = w.journal;
    script = w.plugin;
    old_state = refl;
    new_state = refl;
    awaits = awaits old.plugin (control_of old) a;
    refused = λ p same. subst (λ (c : PluginControl). RefusedBy (plugin_meet old.plugin c) old.feed.consumed r (front old.feed.consumed old.feed.left)) (sym same) w.refused;
  }) s;
  rests = refl;
}

-- it is finished only where the plug-in has ended
pub finished-ended : (core : Core) (s : Halt) → RestsAs plugin_role (seen core s false) s → s ≡ Finished → core.stage ≡ Ended
finished-ended core s rests e =
    let r = subst (λ (t : Halt). RestsAs plugin_role (seen core t false) t) e rests in
    plugin-ended core.stage (r.1 (at_start (control_of core)) refl)
