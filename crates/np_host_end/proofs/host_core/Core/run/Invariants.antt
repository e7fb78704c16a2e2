use Rattle.std.proofs.Common.{◌≡◌, false}
use Rattle.np_endpoint.specs.declared.halt.Halt.TheVariants.{Waiting}
use Rattle.np_host_end.specs.Core.{control_of}
use Rattle.np_endpoint.specs.End.{total_of}
use Rattle.np_host_end.specs.HostEnd.{seen}
use Rattle.np_host_end.proofs.CoreRuns.{KeepsBoth}
use Rattle.np_host_end.proofs.Measures.{weight}
use Rattle.np_host_end.proofs.Memory.{Came}
use Rattle.np_host_end.proofs.host_core.Core.run.Given as goal

abbrev pub invariant-loop-self : goal.invariant-loop-self
invariant-loop-self l = record {
  keeps : KeepsBoth (seen l.initial.self Waiting false) (seen l.self Waiting false);
  total : total_of (seen l.self Waiting false) ≡ total_of (seen l.initial.self Waiting false);
  came : Came l.initial.self l.self;
}

abbrev pub decreases-loop-self : goal.decreases-loop-self
decreases-loop-self l = weight (control_of l.self) l.self.feed.left
