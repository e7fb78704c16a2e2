use Rattle.np_script_words.proofs.OneReading.{one_reading_lem}
use Rattle.np_script_words.proofs.laws.one_reading.Goals as goal

pub returns : goal.returns
returns c = record { law = one_reading_lem }
