use Rattle.std.proofs.Common.{◌≡◌, Ok, ◌∙◌}
use Rattle.np_script_words.proofs.Numbers.{signed_is_utf8, signed_parses}
use Rattle.np_script_words.proofs.number.parsed_int.Goals as goal

pub returns-in-Ok : goal.returns-in-Ok
returns-in-Ok c = record {
  value = λ n small e.
      let parsed : c.parse.result ≡ Ok n = signed_parses c.in-Ok.text.now n c.parse.result small (c.in-Ok.ensures.cases.0 ∙ e) c.parse.ensures.value.0 in
      cc;
}

pub returns-in-Err : goal.returns-in-Err
returns-in-Err c = record { value = λ n small e. absurd (c.in-Err.ensures.cases.0 (signed_is_utf8 c.args.word.now n small e)) }
