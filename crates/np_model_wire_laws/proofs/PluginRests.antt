-- The plug-in comes to rest with the whole messages of a prefix of the page's text.
use Rattle.std.proofs.Common.{◌≡◌, ℕ, ◌-◌, ◌≤◌, List, [], ◌∷◌, length, take, refl, sym, ap, subst, ◌∙◌, arith}
use Rattle.std.proofs.Math.Seq.{take-append_seam}
use Rattle.std.proofs.lemmas.List.{length-append}
use Rattle.np_message.specs.Message.{Message}
use Rattle.np_model.specs.declared.script.Page.{Page}
use Rattle.np_model.specs.declared.script.Plugin.{Plugin}
use Rattle.np_model.specs.declared.plugin.PluginStage.{PluginStage}
use Rattle.np_model.specs.declared.plugin.PluginStage.TheVariants.{Begin, Serving, Ended}
use Rattle.np_model.specs.Script.{IsWellFormed}
use Rattle.np_message.specs.Encoding.{encodings}
use Rattle.np_model.specs.Side.{SideState, examine, at_start}
use Rattle.np_model.specs.Run.{Acts, RestsAt}
use Rattle.np_model.specs.PagePlan.{page_plans, page_start}
use Rattle.np_model.specs.PluginPlan.{PluginControl, plugin_plans, plugin_start, plugin_pace}
use Rattle.np_model.specs.PluginRun.{PluginRestsIn, IsPageText}
use Rattle.np_model.specs.Alone.{plugin_role}
use Rattle.np_model.proofs.StepLemmas.{run-examined}
use Rattle.np_model_laws.specs.Laws.{RefusesNone, PluginCutLaw, PluginMoreMessagesLaw, HonestLaw, CallsLaw}
use Rattle.np_model_wire_laws.specs.Prefix.{IsWhole}
use Rattle.np_model_wire_laws.proofs.Streams.{Wire, Waiting}
use Rattle.np_model_wire_laws.proofs.Texts.{machine}
use Rattle.np_model_wire_laws.proofs.ComesToRest.{Lessens, next-within, whole-of, rests-with}

-- how many of these messages it has not examined
abbrev unexamined : List Message → SideState PluginControl → ℕ
unexamined got p = length got - length p.examined

never-acts : (stage : PluginStage) → plugin_pace stage ≡ Acts → ⊥
never-acts Begin e = cc
never-acts Serving e = cc
never-acts Ended e = cc

lessens : (plugin : Plugin) (got : List Message) → Lessens (plugin_role plugin) got (unexamined got)
lessens plugin got = record {
  acts = λ p a. absurd (never-acts p.control.stage a);
  hears = λ p m steps a next plan.
      let within = next-within (length p.examined) got m next in
      let examined = ap length (run-examined steps (examine m p)) in
      omega (arith, within, examined, length-append p.examined (m ∷ []));
}

pub plugin-comes-to : Wire → Waiting → CallsLaw → PluginMoreMessagesLaw → HonestLaw → PluginCutLaw → (page : Page) (plugin : Plugin) (given : List ℕ) → IsWellFormed page → IsPageText page plugin given → (n : ℕ) × (side : SideState PluginControl) × IsWhole given n × PluginRestsIn page plugin n side
plugin-comes-to w v calls more_law honest cut page plugin given formed t =
    let sent = (machine page plugin t.rounds).page.sent in
    let start = at_start plugin_start in
    let x = whole-of w v sent given t.rest ((calls page plugin t.rounds).1 formed) (sym t.text) in
    let rest = rests-with more_law (plugin_role plugin) x.few x.more (unexamined x.few) (lessens plugin x.few) (subst (λ l. RefusesNone (plugin_plans plugin) l start) x.is (honest page plugin t.rounds).1) in
    let n = length x.few in
    let same : take n sent ≡ x.few = ap (λ l. take n l) x.is ∙ take-append_seam x.few x.more in
    let lengths = ap length x.is in
    let enough : n ≤ length sent = omega (arith, lengths, length-append x.few x.more) in (
      n,
      rest.0,
      record { messages = x.few; rest = x.left; count = refl; keep = x.keep; parts = x.parts; partial = x.partial (length (encodings x.few)) },
      cut (page_plans page) (plugin_plans plugin) (page_start page) plugin_start t.rounds n rest.0 enough (subst (λ l. RestsAt (plugin_plans plugin) l start rest.0) (sym same) rest.1),
    )
