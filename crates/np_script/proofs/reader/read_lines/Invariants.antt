use Rattle.std.proofs.Common.{length}
use Rattle.np_script.proofs.WholeTexts.{ReadSoFar}
use Rattle.np_script.proofs.reader.read_lines.Given as goal

abbrev pub invariant-loop-left : goal.invariant-loop-left
invariant-loop-left l = ReadSoFar l.side l.bytes l.left l.reader.order l.reader.builder l.reader.lines

abbrev pub decreases-loop-left : goal.decreases-loop-left
decreases-loop-left l = length l.left
