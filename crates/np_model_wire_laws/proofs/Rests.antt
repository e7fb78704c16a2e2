-- The page comes to rest with the whole messages of a prefix of the plug-in's text.
use Rattle.std.proofs.Common.{◌≡◌, ℕ, ◌+◌, ◌-◌, ◌*◌, ◌<◌, ◌≤◌, List, [], ◌∷◌, length, take, refl, sym, ap, subst, ◌∙◌, arith}
use Rattle.std.proofs.Math.Seq.{take-append_seam}
use Rattle.std.proofs.lemmas.List.{length-append}
use Rattle.np_message.specs.Message.{Message}
use Rattle.np_model.specs.declared.script.Page.{Page}
use Rattle.np_model.specs.declared.script.Plugin.{Plugin}
use Rattle.np_model.specs.declared.page.Stage.{Stage}
use Rattle.np_model.specs.declared.page.Stage.TheVariants.{Begin, Ready, Awaiting, Unanswered, Ended}
use Rattle.np_message.specs.Encoding.{encodings}
use Rattle.np_model.specs.Side.{SideState, examine, at_start}
use Rattle.np_model.specs.Run.{Acts, Meeting, Accepts, RestsAt}
use Rattle.np_model.specs.PagePlan.{PageControl, page_plans, page_start, go_plan, pace_at}
use Rattle.np_model.specs.PluginPlan.{plugin_plans, plugin_start}
use Rattle.np_model.specs.HostRun.{HostRests, IsPluginText}
use Rattle.np_model.specs.Steps.{control_after}
use Rattle.np_model.specs.Alone.{page_role}
use Rattle.np_model.proofs.StepLemmas.{run-control, run-examined}
use Rattle.np_model_laws.specs.Laws.{RefusesNone, CutLaw, MoreMessagesLaw, HonestLaw, RepliesLaw}
use Rattle.np_model_laws.proofs.Weights.{control_weight, begin-lighter, ready-lighter, unanswered-lighter, Lighter, Light, light}
use Rattle.np_model_wire_laws.specs.Prefix.{IsWhole}
use Rattle.np_model_wire_laws.proofs.Streams.{Wire, Waiting}
use Rattle.np_model_wire_laws.proofs.Texts.{machine, replies-keep}
use Rattle.np_model_wire_laws.proofs.ComesToRest.{Lessens, next-within, whole-of, rests-with}

-- what is left to do with these messages
abbrev weight : List Message → SideState PageControl → ℕ
weight got p = control_weight p.control + 2 * (length got - length p.examined)

acts-lighter : (page : Page) (got : List Message) (p : SideState PageControl) (stage : Stage) → p.control.stage ≡ stage → pace_at stage ≡ Acts → Lighter p.control (go_plan page p.control stage)
acts-lighter page got p Begin e a = begin-lighter page p.control e
acts-lighter page got p Ready e a = ready-lighter page p.control e
acts-lighter page got p (Awaiting call) e a = cc
acts-lighter page got p (Unanswered call) e a = unanswered-lighter page p.control call e
acts-lighter page got p Ended e a = cc

lessens : (page : Page) (got : List Message) → Lessens (page_role page) got (weight got)
lessens page got = record {
  acts = λ p a.
      let steps = go_plan page p.control p.control.stage in
      let less : control_weight (control_after steps p.control) < control_weight p.control = acts-lighter page got p p.control.stage refl a in
      let c = ap control_weight (run-control steps p) in
      let e = ap length (run-examined steps p) in
      omega (arith, less, c, e);
  hears = λ p m steps a next plan.
      let few : Light p.control (Accepts steps) = subst (λ (x : Meeting PageControl). Light p.control x) plan (light p.control m) in
      let within = next-within (length p.examined) got m next in
      let c = ap control_weight (run-control steps (examine m p)) in
      let e = ap length (run-examined steps (examine m p)) in
      omega (arith, few, within, c, e, length-append p.examined (m ∷ []));
}

pub comes-to : Wire → Waiting → RepliesLaw → MoreMessagesLaw → HonestLaw → CutLaw → (page : Page) (plugin : Plugin) (given : List ℕ) → IsPluginText page plugin given → (n : ℕ) × (side : SideState PageControl) × IsWhole given n × HostRests page plugin n side
comes-to w v replies more_law honest cut page plugin given t =
    let sent = (machine page plugin t.rounds).plugin.sent in
    let start = at_start (page_start page) in
    let x = whole-of w v sent given t.rest (replies-keep sent (replies page plugin t.rounds).0) (sym t.text) in
    let rest = rests-with more_law (page_role page) x.few x.more (weight x.few) (lessens page x.few) (subst (λ l. RefusesNone (page_plans page) l start) x.is (honest page plugin t.rounds).0) in
    let n = length x.few in
    let same : take n sent ≡ x.few = ap (λ l. take n l) x.is ∙ take-append_seam x.few x.more in
    let lengths = ap length x.is in
    let enough : n ≤ length sent = omega (arith, lengths, length-append x.few x.more) in (
      n,
      rest.0,
      record { messages = x.few; rest = x.left; count = refl; keep = x.keep; parts = x.parts; partial = x.partial (length (encodings x.few)) },
      cut (page_plans page) (plugin_plans plugin) (page_start page) plugin_start t.rounds n rest.0 enough (subst (λ l. RestsAt (page_plans page) l start rest.0) (sym same) rest.1),
    )
