use Rattle.std.proofs.Common.{◌++◌, ◌∷◌, List, ℕ, arith, sym, ◌∙◌, ap}
use Rattle.std.proofs.lemmas.Result.{on_ok_weaker}
use Rattle.np_script_words.proofs.Doubles.{are_bytes, hexadecimal_is}
use Rattle.np_script_words.proofs.print.push_digits.Goals as goal

pub returns-in-Ok-clause-ok : goal.returns-in-Ok-clause-ok
returns-in-Ok-clause-ok c =
    let digits = hexadecimal_is c.args.bytes.now (are_bytes c.args.bytes.now (λ i. omega (arith, c.type_inv.bytes i))) in
    on_ok_weaker c.push_both.result (λ e. e ∙ ap (λ (ds : List ℕ). c.args.out.now.items ++ 100 ∷ 58 ∷ ds) (c.in-Ok.ensures.written ∙ sym digits)) c.push_both.ensures.ok
