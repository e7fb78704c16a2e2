use Rattle.np_script_words.proofs.Deciding.{fields_decided}
use Rattle.np_script_words.proofs.laws.fields_are_decided.Goals as goal

pub returns : goal.returns
returns c = record { law = fields_decided }
