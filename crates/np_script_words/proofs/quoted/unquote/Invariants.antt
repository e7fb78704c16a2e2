use Rattle.np_script_words.proofs.Unquoting.{HasRead}
use Rattle.np_script_words.proofs.quoted.unquote.Given as goal

abbrev pub invariant-loop-i : goal.invariant-loop-i
invariant-loop-i l = HasRead l.limit l.word l.text.items l.passed l.state l.i
