use Rattle.np_script.proofs.Deciding.{pages_decided}
use Rattle.np_script.proofs.laws.pages_are_decided.Goals as goal

pub returns : goal.returns
returns c = record {
  law = pages_decided (record {
    builds = record { in_order = c.lines_in_order_are_built.ensures.law; pages = c.built_pages.ensures.law; plugins = c.built_plugins.ensures.law };
    pages = c.pages_are_built.ensures.law;
    plugins = c.plugins_are_built.ensures.law;
    complete = c.texts_can_be_completed.ensures.law;
    one = c.one_say.ensures.law;
    judged = c.lines_are_judged.ensures.law;
    go_on = c.lines_go_on.ensures.law;
    skip = c.skipped_lines_go_on.ensures.law;
    end = c.refused_lines_end.ensures.law;
  });
}
