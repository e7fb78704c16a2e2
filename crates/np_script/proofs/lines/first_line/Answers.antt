use Rattle.std.proofs.Common.{arith}
use Rattle.std.proofs.lemmas.Grind.{common_steps}
use Rattle.np_script.proofs.FirstLine.{lines_cut, lines_none}
use Rattle.np_script.proofs.lines.first_line.Goals as goal

pub returns-in-Some-clause-lines : goal.returns-in-Some-clause-lines
returns-in-Some-clause-lines c = grind (arith, common_steps, lines_cut c.args.bytes.now, c.in-Some.ensures.value)

pub returns-in-None-clause-lines : goal.returns-in-None-clause-lines
returns-in-None-clause-lines c = lines_none c.args.bytes.now c.requires.some c.in-None.ensures.value
