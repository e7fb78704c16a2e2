use Rattle.std.proofs.Common.{◌≡◌, length, false}
use Rattle.np_endpoint.specs.declared.halt.Halt.TheVariants.{Waiting}
use Rattle.np_model.specs.Alone.{plugin_role}
use Rattle.np_endpoint.specs.End.{Keeps, total_of}
use Rattle.np_plug_end.specs.PlugEnd.{seen}
use Rattle.np_plug_end.proofs.Memory.{Came}
use Rattle.np_plug_end.proofs.plug_core.Core.run.Given as goal

abbrev pub invariant-loop-self : goal.invariant-loop-self
invariant-loop-self l = record {
  keeps : Keeps plugin_role (seen l.initial.self Waiting false) (seen l.self Waiting false);
  total : total_of (seen l.self Waiting false) ≡ total_of (seen l.initial.self Waiting false);
  came : Came l.initial.self l.self;
}

abbrev pub decreases-loop-self : goal.decreases-loop-self
decreases-loop-self l = length l.self.feed.left
