use Rattle.std.proofs.Common.{◌≡◌, ◌+◌, ◌/◌, ◌%◌, ◌++◌, ◌∷◌, [], List, ℕ, ap, sym, ◌∙◌, append_assoc, arith, decimal}
use Rattle.std.proofs.lemmas.Fmt.{decimal_step}
use Rattle.np_plug_end.proofs.lines.+push_decimal.Goals as goal

pub returns : goal.returns
returns t c =
    let n = c.args.number in
    let old = c.args.out.now.items in
    let last : List ℕ = (48 + n % 10) ∷ [] in
    let step : decimal n ≡ decimal (n / 10) ++ last = decimal_step n (omega arith) (omega arith) in
    record {
      appended = c.in_ok-push-2.ensures.items ∙ ap (λ (l : List ℕ). l ++ last) c.in_ok-push_decimal.ensures.appended ∙ append_assoc old (decimal (n / 10)) last ∙ ap (λ (l : List ℕ). old ++ l) (sym step);
    }
