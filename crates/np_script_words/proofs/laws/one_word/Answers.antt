use Rattle.np_script_words.proofs.WordLaws.{one_word_lem}
use Rattle.np_script_words.proofs.laws.one_word.Goals as goal

pub returns : goal.returns
returns c = record { law = one_word_lem }
