use Rattle.std.proofs.Common.{◌≡◌, ◌-◌, ◌≤◌, ℕ, List, length, take, Some}
use Rattle.np_ports.specs.Files.{Contents}
use Rattle.np_ports.specs.declared.file_call.FileCall.{FileCall}
use Rattle.np_ports.proofs.reading.read_script.Given as goal

abbrev pub invariant-loop-buf : goal.invariant-loop-buf
invariant-loop-buf g l = record {
  faults : g.F.Files.faults l.files ≡ g.F.Files.faults l.initial.files;
  short : length l.bytes.items ≤ 1048577;
  failed : (x : List (List ℕ × FileCall)) → g.F.Files.failed_calls l.initial.files ≡ Some x → g.F.Files.failed_calls l.files ≡ Some x;
  known : (f : Contents) → g.F.Files.contents l.initial.files ≡ Some f → (g.F.Files.contents l.files ≡ Some f) × (l.bytes.items ≡ take (length l.bytes.items) (f l.name));
}

abbrev pub decreases-loop-buf : goal.decreases-loop-buf
decreases-loop-buf g l = 1048577 - length l.bytes.items
