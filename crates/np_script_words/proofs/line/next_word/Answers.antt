use Rattle.std.proofs.Common.{◌≡◌, ◌<◌, length, arith}
use Rattle.std.proofs.lemmas.Bool.Decides.{nat_tests}
use Rattle.np_script_grammar.specs.Words.{InWord, words_from, words_of}
use Rattle.np_script_words.proofs.WordLemmas.{first_word}
use Rattle.np_script_words.proofs.line.next_word.Goals as goal

pub returns-clause-words : goal.returns-clause-words
returns-clause-words c =
    let some : 0 < length c.skip_spaces-line.result.now = grind (arith, nat_tests) in
    let first : words_of c.skip_spaces-line.result.now ≡ words_from InWord c.skip_spaces-line.result.now = first_word c.skip_spaces-line.result.now some (c.skip_spaces-line.ensures.first some) in
    cc
