use Rattle.np_script_words.proofs.SpacedLines.{spaced_words_lem}
use Rattle.np_script_words.proofs.laws.spaced_words.Goals as goal

pub returns : goal.returns
returns c = record { law = spaced_words_lem }
