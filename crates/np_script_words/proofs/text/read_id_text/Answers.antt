use Rattle.std.proofs.Common.{subst, sym}
use Rattle.std.specs.Str.{IsUtf8}
use Rattle.std.proofs.lemmas.Str.{IsUtf8-from_is_utf8}
use Rattle.np_script_words.proofs.text.read_id_text.Goals as goal

pub returns-in_default : goal.returns-in_default
returns-in_default c = record { value = λ text says. c.in_default.ensures.cases.0 (subst IsUtf8 (sym c.deref.ensures.value) (IsUtf8-from_is_utf8 c.in_ok-bytes.bytes.items c.in_ok-bytes.ensures.value.0.1)) }
