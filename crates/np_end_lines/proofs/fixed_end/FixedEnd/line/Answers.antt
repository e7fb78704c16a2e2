use Rattle.std.proofs.Common.{ap, sym}
use Rattle.std.specs.Fmt.{digits}
use Rattle.np_model.specs.Journal.{end_line}
use Rattle.np_end_lines.specs.declared.fixed_end.FixedEnd.{FixedEnd}
use Rattle.np_end_lines.specs.FixedEnds.{fixed_status}
use Rattle.np_end_lines.proofs.fixed_end.FixedEnd.line.Goals as goal

pub returns-in-Done : goal.returns-in-Done
unfolding digits
returns-in-Done c = record { value = ap (λ (e : FixedEnd). end_line (fixed_status e)) (sym c.in-Done.is) }

pub returns-in-Usage : goal.returns-in-Usage
unfolding digits
returns-in-Usage c = record { value = ap (λ (e : FixedEnd). end_line (fixed_status e)) (sym c.in-Usage.is) }

pub returns-in-FileFailed : goal.returns-in-FileFailed
unfolding digits
returns-in-FileFailed c = record { value = ap (λ (e : FixedEnd). end_line (fixed_status e)) (sym c.in-FileFailed.is) }

pub returns-in-PeerLost : goal.returns-in-PeerLost
unfolding digits
returns-in-PeerLost c = record { value = ap (λ (e : FixedEnd). end_line (fixed_status e)) (sym c.in-PeerLost.is) }

pub returns-in-PipeFailed : goal.returns-in-PipeFailed
unfolding digits
returns-in-PipeFailed c = record { value = ap (λ (e : FixedEnd). end_line (fixed_status e)) (sym c.in-PipeFailed.is) }

pub returns-in-NotStarted : goal.returns-in-NotStarted
unfolding digits
returns-in-NotStarted c = record { value = ap (λ (e : FixedEnd). end_line (fixed_status e)) (sym c.in-NotStarted.is) }
