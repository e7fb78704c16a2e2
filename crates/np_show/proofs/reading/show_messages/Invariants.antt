use Rattle.std.proofs.Common.{◌≡◌, ◌+◌, ◌-◌, ◌^◌, ◌≤◌, ℕ, List, length, Some}
use Rattle.np_message.specs.Decoding.{Partial, front}
use Rattle.np_ports.specs.Files.{Contents}
use Rattle.np_ports.specs.declared.file_call.FileCall.{FileCall}
use Rattle.np_show.proofs.Pieces.{Stands}
use Rattle.np_show.proofs.reading.show_messages.Given as goal

abbrev pub invariant-loop-total : goal.invariant-loop-total
invariant-loop-total g l = record {
  count : l.feed.consumed + length l.feed.left ≡ l.total;
  limit : l.total ≤ 2 ^ 40;
  waits : front l.feed.consumed l.feed.left ≡ Partial;
  files : (f : Contents) → g.F.Files.contents l.initial.files ≡ Some f → g.F.Files.contents l.files ≡ Some f;
  stands : (f : Contents) → g.F.Files.contents l.initial.files ≡ Some f → Stands (f l.name) l.total l.feed (g.O.Sink.taken l.initial.out) (g.O.Sink.taken l.out);
  faults : g.F.Files.faults l.files ≡ g.F.Files.faults l.initial.files;
  failed : (x : List (List ℕ × FileCall)) → g.F.Files.failed_calls l.initial.files ≡ Some x → g.F.Files.failed_calls l.files ≡ Some x;
  sink : g.O.Sink.faults l.out ≡ g.O.Sink.faults l.initial.out;
  memory : g.O.Sink.memory_faults l.out ≡ g.O.Sink.memory_faults l.initial.out;
}

abbrev pub decreases-loop-total : goal.decreases-loop-total
decreases-loop-total g l = 2 ^ 40 - l.total
