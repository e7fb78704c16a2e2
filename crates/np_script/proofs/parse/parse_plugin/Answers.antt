use Rattle.std.proofs.Common.{inl, Ok, ap, ◌∙◌}
use Rattle.np_values.specs.declared.name.Side.TheVariants as sides
use Rattle.np_script.proofs.WholeTexts.{plugin-given, only-error, ran-out}
use Rattle.np_script.proofs.parse.parse_plugin.Goals as goal

pub new-requires : goal.new-requires
new-requires c =
    record { rules = (plugin-given c.built_plugins.ensures.law c.canonical_plugins_are_in_order.ensures.law c.args.bytes.now c.read_script.new.reader c.plugin.result c.in-Ok.ensures.script c.plugin.ensures.value).1 }

pub returns-in-Ok-clause-ok : goal.returns-in-Ok-clause-ok
returns-in-Ok-clause-ok c =
    (plugin-given c.built_plugins.ensures.law c.canonical_plugins_are_in_order.ensures.law c.args.bytes.now c.read_script.new.reader c.new.result c.in-Ok.ensures.script (c.new.ensures.same ∙ c.plugin.ensures.value)).0

pub returns-in-Ok-clause-read : goal.returns-in-Ok-clause-read
returns-in-Ok-clause-read c = λ value is.
    let own = (plugin-given c.built_plugins.ensures.law c.canonical_plugins_are_in_order.ensures.law c.args.bytes.now c.read_script.new.reader c.new.result c.in-Ok.ensures.script (c.new.ensures.same ∙ c.plugin.ensures.value)).0 in
    inl (ap Ok (c.one_plugin.ensures.law c.args.bytes.now c.new.result value own is))

pub returns-in-Ok-clause-refused_only : goal.returns-in-Ok-clause-refused_only
returns-in-Ok-clause-refused_only c = λ e error.
    let own = (plugin-given c.built_plugins.ensures.law c.canonical_plugins_are_in_order.ensures.law c.args.bytes.now c.read_script.new.reader c.new.result c.in-Ok.ensures.script (c.new.ensures.same ∙ c.plugin.ensures.value)).0 in
    absurd (c.no_plugin_is_refused.ensures.law c.args.bytes.now c.new.result e own error)

pub returns-in-Err-clause-refused_only : goal.returns-in-Err-clause-refused_only
returns-in-Err-clause-refused_only c = only-error c.one_refusal.ensures.law sides.Plug c.args.bytes.now c.read_script.new.reader c.in-Err.error c.in-Err.ensures.script

pub returns-in-Err-clause-memory : goal.returns-in-Err-clause-memory
returns-in-Err-clause-memory c = ran-out sides.Plug c.args.bytes.now c.read_script.new.reader c.in-Err.error c.in-Err.ensures.script
