use Rattle.np_script_words.proofs.WordLaws.{plain_word_lem}
use Rattle.np_script_words.proofs.laws.plain_word.Goals as goal

pub returns : goal.returns
returns c = record { law = plain_word_lem }
