-- Ranges and releases have so many bytes each.
use Rattle.std.proofs.Common.{◌≡◌, ℕ, ◌*◌, List, [], ◌∷◌, ◌++◌, length, refl, ap, ◌∙◌, append_assoc, arith}
use Rattle.std.specs.List.{flat_map}
use Rattle.std.proofs.lemmas.List.{length-append}
use Rattle.np_values.specs.declared.range.Range.{Range}
use Rattle.np_proxy_release.specs.declared.release.Release.{Release}
use Rattle.np_message.specs.Encoding.{range_items, release_item}

pub ranges_length : (ranges : List Range) → length (flat_map range_items ranges) ≡ 8 * length ranges
ranges_length [] = refl
ranges_length (range ∷ ranges) = omega (arith, ranges_length ranges, length-append (range_items range) (flat_map range_items ranges))

pub releases_length : (releases : List Release) → length (flat_map release_item releases) ≡ 9 * length releases
releases_length [] = refl
releases_length (r ∷ releases) = omega (arith, releases_length releases, length-append (release_item r) (flat_map release_item releases))

-- what was appended three times
pub appended : (out a b c x y z : List ℕ) → x ≡ out ++ a → y ≡ x ++ b → z ≡ y ++ c → z ≡ out ++ (a ++ (b ++ c))
appended out a b c x y z p q r = r ∙ ap (λ (l : List ℕ). l ++ c) (q ∙ ap (λ (l : List ℕ). l ++ b) p) ∙ append_assoc (out ++ a) b c ∙ append_assoc out a (b ++ c)
