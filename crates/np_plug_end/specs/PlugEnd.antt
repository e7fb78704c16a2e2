-- What a caller sees of a plug-in end.
use Rattle.std.specs.Prelude.{Bool}
use Rattle.np_model.specs.declared.script.Plugin.{Plugin}
use Rattle.np_model.specs.PluginPlan.{PluginControl}
use Rattle.np_endpoint.specs.End.{EndState}
use Rattle.np_endpoint.specs.declared.halt.Halt.{Halt}
use Rattle.np_plug_end.specs.declared.plug_core.Core.{Core}
use Rattle.np_plug_end.specs.Core.{control_of}

-- what a caller sees of these fields
abbrev pub seen : Core → Halt → Bool → EndState Plugin PluginControl
seen core state failed = record {
  script = core.plugin;
  control = control_of core;
  outgoing = core.outgoing.items;
  journal = core.journal.items;
  consumed = core.feed.consumed;
  unread = core.feed.left;
  state = state;
  failed = failed;
}
