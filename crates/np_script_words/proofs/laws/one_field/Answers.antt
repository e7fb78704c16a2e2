use Rattle.np_script_words.proofs.OneField.{one_field_lem}
use Rattle.np_script_words.proofs.laws.one_field.Goals as goal

pub returns : goal.returns
returns c = record { law = one_field_lem }
