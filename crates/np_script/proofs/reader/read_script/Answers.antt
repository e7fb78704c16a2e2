use Rattle.std.proofs.Common.{◌≡◌, ◌≤◌, length, refl, rules}
use Rattle.np_script_line_laws.specs.Laws.{last_place}
use Rattle.np_script.proofs.WholeTexts.{Builds, cut-off}
use Rattle.np_script.proofs.reader.read_script.Goals as goal

pub returns-then-not-may_end : goal.returns-then-not-may_end
returns-then-not-may_end c =
    let laws : Builds = record { in_order = c.lines_in_order_are_built.ensures.law; pages = c.built_pages.ensures.law; plugins = c.built_plugins.ensures.law } in
    let short : length c.args.bytes.now ≤ 1048576 = search rules in
    let last : c.read_lines.new.reader.order.place ≡ last_place c.args.side → ⊥ = search rules in
    record { script = cut-off laws c.pages_are_built.ensures.law c.plugins_are_built.ensures.law c.texts_can_be_completed.ensures.law c.one_say.ensures.law c.args.side c.args.bytes.now c.read_lines.new.reader _ short c.in-Ok.ensures.all last refl }
