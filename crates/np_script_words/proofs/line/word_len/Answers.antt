use Rattle.std.proofs.Common.{arith, rules}
use Rattle.np_script_words.proofs.WordLemmas.{word_done, word_more, word_last}
use Rattle.np_script_words.proofs.line.word_len.Goals as goal

pub returns-then-parts_words-clause-words : goal.returns-then-parts_words-clause-words
returns-then-parts_words-clause-words c = word_done _ c.loop-i.i c.loop-i.spot (omega arith) c.loop-i.invariant (search rules)

pub loop-i-preserved : goal.loop-i-preserved
loop-i-preserved c = word_more _ c.loop-i.i c.loop-i.spot _ (omega arith) c.loop-i.invariant (search rules) (search rules)

pub returns-clause-words : goal.returns-clause-words
returns-clause-words c = grind (arith, word_last c.args.line.now c.loop-i.i c.loop-i.spot (omega arith) c.loop-i.invariant)
