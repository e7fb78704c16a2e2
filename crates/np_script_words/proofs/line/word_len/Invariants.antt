use Rattle.std.proofs.Common.{◌≡◌, take, drop}
use Rattle.np_script_grammar.specs.Words.{InWord, words_from}
use Rattle.np_script_words.specs.Spots.{spot_of}
use Rattle.np_script_words.proofs.WordLemmas.{onto_words}
use Rattle.np_script_words.proofs.line.word_len.Given as goal

abbrev pub invariant-loop-i : goal.invariant-loop-i
invariant-loop-i l = words_from InWord l.line ≡ onto_words (take l.i l.line) (words_from (spot_of l.spot) (drop l.i l.line))
