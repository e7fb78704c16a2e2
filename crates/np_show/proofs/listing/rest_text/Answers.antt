use Rattle.std.proofs.Common.{◌≡◌, ◌++◌, [], ◌∷◌, sym, ◌∙◌}
use Rattle.std.specs.Prelude.{decimal, codes, string_bytes}
use Rattle.np_model.specs.Journal.{end_line}
use Rattle.np_show.proofs.Endings.{rest-end, regrouped}
use Rattle.np_show.proofs.listing.rest_text.Goals as goal

pub returns : goal.returns
returns c = record {
  text =
      let text : string_bytes c.in_ok-format.field-0 ≡ codes "rest " ++ (decimal c.args.left ++ ((10 ∷ codes "end ") ++ (decimal 0 ++ 10 ∷ []))) = c.in_ok-format.ensures.ok in
      let same : (codes "rest " ++ decimal c.args.left ++ 10 ∷ []) ++ end_line 0 ≡ codes "rest " ++ (decimal c.args.left ++ ((10 ∷ codes "end ") ++ (decimal 0 ++ 10 ∷ []))) = regrouped (codes "rest ") (decimal c.args.left) (codes "end ") (decimal 0) (10 ∷ []) in
      text ∙ sym same ∙ sym (rest-end c.args.left c.requires.some);
}
