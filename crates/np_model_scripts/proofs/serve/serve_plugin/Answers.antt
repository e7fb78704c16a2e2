use Rattle.np_model_scripts.proofs.Scripts.{plugin-read, plugin-refused_only, plugin-unbuilt_only}
use Rattle.np_model_scripts.proofs.serve.serve_plugin.Goals as goal

pub returns-clause-read : goal.returns-clause-read
returns-clause-read c = plugin-read c.one_plugin.ensures.law c.no_plugin_is_refused.ensures.law c.args.bytes.now c.read_plugin.result c.read_plugin.ensures.plugin

pub returns-clause-refused_only : goal.returns-clause-refused_only
returns-clause-refused_only c = plugin-refused_only c.no_plugin_is_refused.ensures.law c.one_refusal.ensures.law c.args.bytes.now c.read_plugin.result c.read_plugin.ensures.plugin

pub returns-clause-unbuilt_only : goal.returns-clause-unbuilt_only
returns-clause-unbuilt_only c = plugin-unbuilt_only c.one_plugin.ensures.law c.no_plugin_is_refused.ensures.law c.args.bytes.now c.read_plugin.result c.read_plugin.ensures.plugin
