use Rattle.std.proofs.Common.{◌≡◌, ap, sym, subst, ◌++◌}
use Rattle.np_model.specs.declared.script.Plugin.{Plugin}
use Rattle.np_model.specs.PluginPlan.{PluginControl}
use Rattle.np_model.specs.Alone.{plugin_role}
use Rattle.np_wire.specs.Feed.{Fed}
use Rattle.np_endpoint.specs.End.{EndState, StandsFor}
use Rattle.np_endpoint.proofs.Stands.{stands-took}
use Rattle.np_plug_end.specs.PlugEnd.{seen}
use Rattle.np_plug_end.proofs.plug_end.PlugEnd.take.Goals as goal

pub returns-in-Ok-clause-stands : goal.returns-in-Ok-clause-stands
returns-in-Ok-clause-stands c = λ plugin got sent printed s.
    let inside : EndState Plugin PluginControl = seen c.self.inside.core c.self.inside.state c.self.inside.failed in
    let old : inside ≡ c.args.self.now = c.self.view_is in
    subst (λ (e : EndState Plugin PluginControl). StandsFor plugin_role plugin (got ++ c.args.bytes.now) sent printed e)
    (sym (ap (λ (f : Fed). let e : EndState Plugin PluginControl = record inside { consumed = f.consumed; unread = f.left } in e) c.in-Ok.ensures.ok))
    (stands-took plugin_role plugin got sent printed c.args.bytes.now inside (subst (λ (e : EndState Plugin PluginControl). StandsFor plugin_role plugin got sent printed e) (sym old) s))
