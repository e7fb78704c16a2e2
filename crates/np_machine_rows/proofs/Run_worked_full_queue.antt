-- Made by tools/vector-theorems of tests/vectors/worked-full-queue.
use Rattle.std.proofs.Common.{◌≡◌, [], ◌∷◌, refl, true}
use Rattle.std.specs.Prelude.{codes}
use Rattle.std.specs.Char.{encode_utf8}
use Rattle.std.specs.Fmt.{digits}
use Rattle.std.specs.Str.{is_utf8, chars}
use Rattle.np_values.specs.declared.error.NpError.TheVariants.{NoError}
use Rattle.np_values.specs.declared.handler.Handler.TheVariants as handlers
use Rattle.np_values.specs.declared.name.Side.TheVariants as sides
use Rattle.np_values.specs.Text.{is_text}
use Rattle.np_script_grammar.specs.declared.action.Action.TheVariants as actions
use Rattle.np_script_grammar.specs.declared.command.Command.TheVariants as commands
use Rattle.np_script_grammar.specs.declared.page.Page.{Page}
use Rattle.np_script_grammar.specs.declared.plugin.Plugin.{Plugin}
use Rattle.np_message.specs.Encoding.{encoding}
use Rattle.np_journal.specs.declared.line.Line.TheVariants.{HandlerRun, TaskBegun, QueueFull, CommandResult}
use Rattle.np_journal.specs.declared.printed.Printed.TheVariants as results
use Rattle.np_machine_plans.specs.AtOnce.{orderly_along}
use Rattle.np_machine_plans.specs.Outcomes.{outcome, direct_outcome}

abbrev page : Page
page = record {
  major = 0;
  minor = 27;
  classes = [];
  resources = [];
  commands = (
      commands.Create (codes "t/x") 1 [] ∷ []);
}

abbrev plugin : Plugin
plugin = record {
  major = 0;
  minor = 27;
  classes = [];
  handlers = (
      (record { which = handlers.New; body = (actions.Later (codes "t") ∷ actions.Later (codes "t") ∷ actions.Later (codes "t") ∷ actions.Later (codes "t") ∷ actions.Later (codes "t") ∷ actions.Later (codes "t") ∷ actions.Later (codes "t") ∷ actions.Later (codes "t") ∷ actions.Later (codes "t") ∷ actions.Later (codes "t") ∷ actions.Later (codes "t") ∷ actions.Later (codes "t") ∷ actions.Later (codes "t") ∷ actions.Later (codes "t") ∷ actions.Later (codes "t") ∷ actions.Later (codes "t") ∷ actions.Later (codes "t") ∷ actions.Later (codes "t") ∷ actions.Later (codes "t") ∷ actions.Later (codes "t") ∷ actions.Later (codes "t") ∷ actions.Later (codes "t") ∷ actions.Later (codes "t") ∷ actions.Later (codes "t") ∷ actions.Later (codes "t") ∷ actions.Later (codes "t") ∷ actions.Later (codes "t") ∷ actions.Later (codes "t") ∷ actions.Later (codes "t") ∷ actions.Later (codes "t") ∷ actions.Later (codes "t") ∷ actions.Later (codes "t") ∷ actions.Later (codes "t") ∷ actions.Later (codes "t") ∷ actions.Later (codes "t") ∷ actions.Later (codes "t") ∷ actions.Later (codes "t") ∷ actions.Later (codes "t") ∷ actions.Later (codes "t") ∷ actions.Later (codes "t") ∷ actions.Later (codes "t") ∷ actions.Later (codes "t") ∷ actions.Later (codes "t") ∷ actions.Later (codes "t") ∷ actions.Later (codes "t") ∷ actions.Later (codes "t") ∷ actions.Later (codes "t") ∷ actions.Later (codes "t") ∷ actions.Later (codes "t") ∷ actions.Later (codes "t") ∷ actions.Later (codes "t") ∷ actions.Later (codes "t") ∷ actions.Later (codes "t") ∷ actions.Later (codes "t") ∷ actions.Later (codes "t") ∷ actions.Later (codes "t") ∷ actions.Later (codes "t") ∷ actions.Later (codes "t") ∷ actions.Later (codes "t") ∷ actions.Later (codes "t") ∷ actions.Later (codes "t") ∷ actions.Later (codes "t") ∷ actions.Later (codes "t") ∷ actions.Later (codes "t") ∷ actions.Later (codes "t") ∷ []) }) ∷ []);
  tasks = (
      (record { name = codes "t"; body = [] }) ∷ []);
}

-- the run of both
both-end : outcome 1500 page plugin ≡ record {
  page = (
      CommandResult 1 (results.Code NoError) ∷ []);
  plugin = (
      HandlerRun 1 handlers.New ∷
      QueueFull 1 (codes "t") ∷
      TaskBegun 1 (codes "t") ∷
      TaskBegun 1 (codes "t") ∷
      TaskBegun 1 (codes "t") ∷
      TaskBegun 1 (codes "t") ∷
      TaskBegun 1 (codes "t") ∷
      TaskBegun 1 (codes "t") ∷
      TaskBegun 1 (codes "t") ∷
      TaskBegun 1 (codes "t") ∷
      TaskBegun 1 (codes "t") ∷
      TaskBegun 1 (codes "t") ∷
      TaskBegun 1 (codes "t") ∷
      TaskBegun 1 (codes "t") ∷
      TaskBegun 1 (codes "t") ∷
      TaskBegun 1 (codes "t") ∷
      TaskBegun 1 (codes "t") ∷
      TaskBegun 1 (codes "t") ∷
      TaskBegun 1 (codes "t") ∷
      TaskBegun 1 (codes "t") ∷
      TaskBegun 1 (codes "t") ∷
      TaskBegun 1 (codes "t") ∷
      TaskBegun 1 (codes "t") ∷
      TaskBegun 1 (codes "t") ∷
      TaskBegun 1 (codes "t") ∷
      TaskBegun 1 (codes "t") ∷
      TaskBegun 1 (codes "t") ∷
      TaskBegun 1 (codes "t") ∷
      TaskBegun 1 (codes "t") ∷
      TaskBegun 1 (codes "t") ∷
      TaskBegun 1 (codes "t") ∷
      TaskBegun 1 (codes "t") ∷
      TaskBegun 1 (codes "t") ∷
      TaskBegun 1 (codes "t") ∷
      TaskBegun 1 (codes "t") ∷
      TaskBegun 1 (codes "t") ∷
      TaskBegun 1 (codes "t") ∷
      TaskBegun 1 (codes "t") ∷
      TaskBegun 1 (codes "t") ∷
      TaskBegun 1 (codes "t") ∷
      TaskBegun 1 (codes "t") ∷
      TaskBegun 1 (codes "t") ∷
      TaskBegun 1 (codes "t") ∷
      TaskBegun 1 (codes "t") ∷
      TaskBegun 1 (codes "t") ∷
      TaskBegun 1 (codes "t") ∷
      TaskBegun 1 (codes "t") ∷
      TaskBegun 1 (codes "t") ∷
      TaskBegun 1 (codes "t") ∷
      TaskBegun 1 (codes "t") ∷
      TaskBegun 1 (codes "t") ∷
      TaskBegun 1 (codes "t") ∷
      TaskBegun 1 (codes "t") ∷
      TaskBegun 1 (codes "t") ∷
      TaskBegun 1 (codes "t") ∷
      TaskBegun 1 (codes "t") ∷
      TaskBegun 1 (codes "t") ∷
      TaskBegun 1 (codes "t") ∷
      TaskBegun 1 (codes "t") ∷
      TaskBegun 1 (codes "t") ∷
      TaskBegun 1 (codes "t") ∷
      TaskBegun 1 (codes "t") ∷
      TaskBegun 1 (codes "t") ∷
      TaskBegun 1 (codes "t") ∷
      TaskBegun 1 (codes "t") ∷
      TaskBegun 1 (codes "t") ∷ []);
  files = [];
  rests = true;
}
unfolding encoding digits is_text is_utf8 chars encode_utf8
both-end = refl

-- the direct run
direct-run : direct_outcome 3000 page plugin ≡ record {
  page = (
      CommandResult 1 (results.Code NoError) ∷ []);
  plugin = (
      HandlerRun 1 handlers.New ∷
      QueueFull 1 (codes "t") ∷
      TaskBegun 1 (codes "t") ∷
      TaskBegun 1 (codes "t") ∷
      TaskBegun 1 (codes "t") ∷
      TaskBegun 1 (codes "t") ∷
      TaskBegun 1 (codes "t") ∷
      TaskBegun 1 (codes "t") ∷
      TaskBegun 1 (codes "t") ∷
      TaskBegun 1 (codes "t") ∷
      TaskBegun 1 (codes "t") ∷
      TaskBegun 1 (codes "t") ∷
      TaskBegun 1 (codes "t") ∷
      TaskBegun 1 (codes "t") ∷
      TaskBegun 1 (codes "t") ∷
      TaskBegun 1 (codes "t") ∷
      TaskBegun 1 (codes "t") ∷
      TaskBegun 1 (codes "t") ∷
      TaskBegun 1 (codes "t") ∷
      TaskBegun 1 (codes "t") ∷
      TaskBegun 1 (codes "t") ∷
      TaskBegun 1 (codes "t") ∷
      TaskBegun 1 (codes "t") ∷
      TaskBegun 1 (codes "t") ∷
      TaskBegun 1 (codes "t") ∷
      TaskBegun 1 (codes "t") ∷
      TaskBegun 1 (codes "t") ∷
      TaskBegun 1 (codes "t") ∷
      TaskBegun 1 (codes "t") ∷
      TaskBegun 1 (codes "t") ∷
      TaskBegun 1 (codes "t") ∷
      TaskBegun 1 (codes "t") ∷
      TaskBegun 1 (codes "t") ∷
      TaskBegun 1 (codes "t") ∷
      TaskBegun 1 (codes "t") ∷
      TaskBegun 1 (codes "t") ∷
      TaskBegun 1 (codes "t") ∷
      TaskBegun 1 (codes "t") ∷
      TaskBegun 1 (codes "t") ∷
      TaskBegun 1 (codes "t") ∷
      TaskBegun 1 (codes "t") ∷
      TaskBegun 1 (codes "t") ∷
      TaskBegun 1 (codes "t") ∷
      TaskBegun 1 (codes "t") ∷
      TaskBegun 1 (codes "t") ∷
      TaskBegun 1 (codes "t") ∷
      TaskBegun 1 (codes "t") ∷
      TaskBegun 1 (codes "t") ∷
      TaskBegun 1 (codes "t") ∷
      TaskBegun 1 (codes "t") ∷
      TaskBegun 1 (codes "t") ∷
      TaskBegun 1 (codes "t") ∷
      TaskBegun 1 (codes "t") ∷
      TaskBegun 1 (codes "t") ∷
      TaskBegun 1 (codes "t") ∷
      TaskBegun 1 (codes "t") ∷
      TaskBegun 1 (codes "t") ∷
      TaskBegun 1 (codes "t") ∷
      TaskBegun 1 (codes "t") ∷
      TaskBegun 1 (codes "t") ∷
      TaskBegun 1 (codes "t") ∷
      TaskBegun 1 (codes "t") ∷
      TaskBegun 1 (codes "t") ∷
      TaskBegun 1 (codes "t") ∷
      TaskBegun 1 (codes "t") ∷
      TaskBegun 1 (codes "t") ∷ []);
  files = [];
  rests = true;
}
unfolding encoding digits is_text is_utf8 chars encode_utf8
direct-run = refl

-- each message is delivered at once, and none is refused
orderly-in-rounds : orderly_along (sides.Page ∷ sides.Plug ∷ []) 700 page plugin ≡ true
unfolding encoding digits is_text is_utf8 chars encode_utf8
orderly-in-rounds = refl

-- each message is delivered at once, and none is refused
orderly-page-ahead : orderly_along (sides.Page ∷ sides.Page ∷ sides.Page ∷ sides.Page ∷ sides.Page ∷ sides.Page ∷ sides.Plug ∷ []) 200 page plugin ≡ true
unfolding encoding digits is_text is_utf8 chars encode_utf8
orderly-page-ahead = refl

-- each message is delivered at once, and none is refused
orderly-plugin-ahead : orderly_along (sides.Page ∷ sides.Plug ∷ sides.Plug ∷ sides.Plug ∷ sides.Plug ∷ sides.Plug ∷ sides.Plug ∷ []) 200 page plugin ≡ true
unfolding encoding digits is_text is_utf8 chars encode_utf8
orderly-plugin-ahead = refl
