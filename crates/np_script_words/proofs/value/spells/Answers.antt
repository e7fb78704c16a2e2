use Rattle.std.proofs.Common.{◌≡◌, true, arith, sym, ◌∙◌}
use Rattle.std.specs.List.{list_all}
use Rattle.std.proofs.lemmas.Bool.{false≢true}
use Rattle.std.proofs.lemmas.Bool.Decides.{Decides-eqb}
use Rattle.std.proofs.lemmas.Slice.Eq.{slice_eq-Decides}
use Rattle.np_script_words.specs.Reads.{is_byte}
use Rattle.np_script_words.proofs.Doubles.{are_bytes, hexadecimal_is}
use Rattle.np_script_words.proofs.value.spells.Goals as goal

pub returns-in-Ok-clause-bytes : goal.returns-in-Ok-clause-bytes
returns-in-Ok-clause-bytes c = are_bytes c.args.bytes.now (λ i. omega (arith, c.type_inv.bytes i))

pub returns-in-Err-clause-bytes : goal.returns-in-Err-clause-bytes
returns-in-Err-clause-bytes c = are_bytes c.args.bytes.now (λ i. omega (arith, c.type_inv.bytes i))

pub returns-in-Ok-clause-yes : goal.returns-in-Ok-clause-yes
returns-in-Ok-clause-yes c = λ e.
    let are : list_all is_byte c.args.bytes.now ≡ true = are_bytes c.args.bytes.now (λ i. omega (arith, c.type_inv.bytes i)) in
    let same = (slice_eq-Decides Decides-eqb _ _ _ c.eq.ensures).0 e in
    sym same ∙ c.as_slice.ensures ∙ c.in-Ok.ensures.written ∙ sym (hexadecimal_is c.args.bytes.now are)

pub returns-in-Ok-clause-no : goal.returns-in-Ok-clause-no
returns-in-Ok-clause-no c = λ e spelled.
    let are : list_all is_byte c.args.bytes.now ≡ true = are_bytes c.args.bytes.now (λ i. omega (arith, c.type_inv.bytes i)) in
    let same = c.as_slice.ensures ∙ c.in-Ok.ensures.written ∙ sym (hexadecimal_is c.args.bytes.now are) ∙ sym spelled in
    false≢true (sym e ∙ (slice_eq-Decides Decides-eqb _ _ _ c.eq.ensures).1 same)
