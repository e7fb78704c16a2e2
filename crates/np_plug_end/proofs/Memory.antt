-- Where an end was when memory ran out.
use Rattle.std.proofs.Common.{◌≡◌, refl, ap, sym, ◌∙◌, subst, arith, inl, inr}
use Rattle.np_message.specs.Message.{Message}
use Rattle.np_model.specs.declared.script.Plugin.{Plugin}
use Rattle.np_model.specs.Side.{SideState}
use Rattle.np_model.specs.Run.{Pace, Awaits, Accepts}
use Rattle.np_model.specs.PluginPlan.{PluginControl, plugin_pace, plugin_meet, serve_plan}
use Rattle.np_model.specs.PluginRun.{IsListening}
use Rattle.np_model.specs.Alone.{plugin_role}
use Rattle.np_model.proofs.Paces.{plugin-awaits}
use Rattle.np_model_laws.specs.Laws.{PluginMoreMessagesLaw}
use Rattle.np_endpoint.specs.Memory.{MakeSomething, CameTo, IsDue, RanOut}
use Rattle.np_endpoint.proofs.Memory.{came-nowhere, came-met, came-still}
use Rattle.np_plug_end.specs.declared.plug_core.Core.{Core}
use Rattle.np_plug_end.specs.Core.{control_of, Listens, RanOutListening}
use Rattle.np_plug_end.proofs.CoreRuns.{awaits}

-- wherever its side stood, the end came by its turns to what it is now
pub record Came (old new : Core) : Type 0 where
  pub plugin : new.plugin ≡ old.plugin
  pub came : (p : SideState PluginControl) → p.control ≡ control_of old → CameTo (plugin_role old.plugin) p old.feed.left (control_of new) new.feed.left

pub came-start : (e : Core) → Came e e
came-start e = record { plugin = refl; came = λ p same. came-nowhere (plugin_role e.plugin) p e.feed.left (control_of e) same }

-- what is served by one plug-in is served by the same
plan-of : (old mid : Core) (m : Message) → mid.plugin ≡ old.plugin → plugin_meet mid.plugin (control_of mid) m ≡ Accepts (serve_plan mid.plugin (control_of mid) m) → (q : SideState PluginControl) → q.control ≡ control_of mid → (plugin_role old.plugin).plans.meet q m ≡ Accepts (serve_plan mid.plugin (control_of mid) m)
plan-of old mid m same plan q is =
    ap (λ (d : PluginControl). plugin_meet old.plugin d m) is ∙ subst (λ (x : Plugin). plugin_meet x (control_of mid) m ≡ Accepts (serve_plan mid.plugin (control_of mid) m)) same plan

pub came-listening : PluginMoreMessagesLaw → (old mid new : Core) → IsListening mid.stage → Listens mid new → Came old mid → Came old new
came-listening more old mid new a l c = record {
  plugin = l.moves.plugin ∙ c.plugin;
  came = λ p same. came-met more (plugin_role old.plugin) p old.feed.left mid.feed.left new.feed.left (control_of mid) (control_of new) l.message (serve_plan mid.plugin (control_of mid) l.message) (awaits old.plugin (control_of mid) a) (plan-of old mid l.message c.plugin l.plan) l.keeps l.typed l.bytes l.moves.control (c.came p same);
}

-- each call that is served is answered
serving-makes : (plugin : Plugin) (c : PluginControl) (m : Message) → MakeSomething (serve_plan plugin c m)
serving-makes plugin c m = omega arith

pub ran-out-listening : (old mid new : Core) → IsListening mid.stage → RanOutListening mid new → Came old mid → (p : SideState PluginControl) → p.control ≡ control_of old → RanOut (plugin_role old.plugin) p old.feed.left (control_of new) new.feed.left
ran-out-listening old mid new a (inl r) c p same =
    let k = c.came p same in
    let pace : plugin_pace k.side.control.stage ≡ Awaits = ap (λ (d : PluginControl). plugin_pace d.stage) k.same ∙ plugin-awaits mid.stage a in
    record {
      left = mid.feed.left;
      came = came-still (plugin_role old.plugin) p old.feed.left mid.feed.left (control_of mid) (control_of new) r.control k;
      due = subst (λ (x : Pace). IsDue (plugin_role old.plugin) k.side mid.feed.left new.feed.left x) (sym pace) (inl (ap (λ f. f.left) r.feed, r.whole, r.needs));
    }
ran-out-listening old mid new a (inr r) c p same =
    let k = c.came p same in
    let pace : plugin_pace k.side.control.stage ≡ Awaits = ap (λ (d : PluginControl). plugin_pace d.stage) k.same ∙ plugin-awaits mid.stage a in
    record {
      left = mid.feed.left;
      came = came-still (plugin_role old.plugin) p old.feed.left mid.feed.left (control_of mid) (control_of new) r.control k;
      due = subst (λ (x : Pace). IsDue (plugin_role old.plugin) k.side mid.feed.left new.feed.left x) (sym pace) (inr (record {
        message = r.message;
        steps = serve_plan mid.plugin (control_of mid) r.message;
        bytes = r.bytes;
        keeps = r.keeps;
        typed = r.typed;
        accepts = plan-of old mid r.message c.plugin r.plan k.side k.same;
        makes = serving-makes mid.plugin (control_of mid) r.message;
      }));
    }
