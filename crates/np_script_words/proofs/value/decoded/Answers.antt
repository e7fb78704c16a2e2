use Rattle.std.proofs.Common.{◌≡◌, Ok, ◌∙◌}
use Rattle.np_script_words.proofs.Doubles.{decodes}
use Rattle.np_script_words.proofs.value.decoded.Goals as goal

pub returns : goal.returns
returns c = record {
  value = λ bytes eight are e.
      let decoded : c.from_hex.result ≡ Ok bytes = c.from_hex.ensures ∙ decodes c.args.digits.now bytes eight are e in
      cc;
}
