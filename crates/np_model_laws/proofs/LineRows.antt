-- Worked examples of the printed lines, by computing.
use Rattle.std.proofs.Common.{◌≡◌, ℕ, List, [], ◌∷◌, ◌++◌, ap, ◌∙◌, lit<}
use Rattle.std.proofs.lemmas.Fmt.{decimal_digit}
use Rattle.std.specs.Prelude.{codes, decimal}
use Rattle.np_model.specs.declared.refusal.Rule.TheVariants.{Bytes, Length, Item, Rest, WrongKind, Place, Held, Unmatched, Unknown, TooMany, CountFull}
use Rattle.np_model.specs.Journal.{end_line, refused_line}

-- ---- end lines

line-end : (status n : ℕ) → decimal status ≡ n ∷ [] → end_line status ≡ codes "end " ++ n ∷ 10 ∷ []
line-end status n a = simp a

end_0 : end_line 0 ≡ codes "end 0" ++ 10 ∷ []
end_0 = line-end 0 48 (decimal_digit 0 (lit< tt))

end_6 : end_line 6 ≡ codes "end 6" ++ 10 ∷ []
end_6 = line-end 6 54 (decimal_digit 6 (lit< tt))

-- ---- the end line of each rule, of a message at byte 9 with the numbers 5 and 0

-- the line with these numbers, spelled so
abbrev spelled : List ℕ → List ℕ → List ℕ → List ℕ → List ℕ
spelled name at one two = codes "end 7 at " ++ at ++ codes " " ++ name ++ codes " " ++ one ++ codes " " ++ two ++ 10 ∷ []

numbers : (name : List ℕ) → spelled name (decimal 9) (decimal 5) (decimal 0) ≡ spelled name (57 ∷ []) (53 ∷ []) (48 ∷ [])
numbers name =
    ap (λ (at : List ℕ). spelled name at (decimal 5) (decimal 0)) (decimal_digit 9 (lit< tt))
    ∙ ap (λ (one : List ℕ). spelled name (57 ∷ []) one (decimal 0)) (decimal_digit 5 (lit< tt))
    ∙ ap (spelled name (57 ∷ []) (53 ∷ [])) (decimal_digit 0 (lit< tt))

refused-bytes : refused_line (record { at = 9; rule = Bytes; first = 5; second = 0 }) ≡ codes "end 7 at 9 bytes 5 0" ++ 10 ∷ []
refused-bytes = numbers (codes "bytes")

refused-length : refused_line (record { at = 9; rule = Length; first = 5; second = 0 }) ≡ codes "end 7 at 9 length 5 0" ++ 10 ∷ []
refused-length = numbers (codes "length")

refused-item : refused_line (record { at = 9; rule = Item; first = 5; second = 0 }) ≡ codes "end 7 at 9 item 5 0" ++ 10 ∷ []
refused-item = numbers (codes "item")

refused-rest : refused_line (record { at = 9; rule = Rest; first = 5; second = 0 }) ≡ codes "end 7 at 9 rest 5 0" ++ 10 ∷ []
refused-rest = numbers (codes "rest")

refused-wrong_kind : refused_line (record { at = 9; rule = WrongKind; first = 5; second = 0 }) ≡ codes "end 7 at 9 wrong-kind 5 0" ++ 10 ∷ []
refused-wrong_kind = numbers (codes "wrong-kind")

refused-place : refused_line (record { at = 9; rule = Place; first = 5; second = 0 }) ≡ codes "end 7 at 9 place 5 0" ++ 10 ∷ []
refused-place = numbers (codes "place")

refused-held : refused_line (record { at = 9; rule = Held; first = 5; second = 0 }) ≡ codes "end 7 at 9 held 5 0" ++ 10 ∷ []
refused-held = numbers (codes "held")

refused-unmatched : refused_line (record { at = 9; rule = Unmatched; first = 5; second = 0 }) ≡ codes "end 7 at 9 unmatched 5 0" ++ 10 ∷ []
refused-unmatched = numbers (codes "unmatched")

refused-unknown : refused_line (record { at = 9; rule = Unknown; first = 5; second = 0 }) ≡ codes "end 7 at 9 unknown 5 0" ++ 10 ∷ []
refused-unknown = numbers (codes "unknown")

refused-too_many : refused_line (record { at = 9; rule = TooMany; first = 5; second = 0 }) ≡ codes "end 7 at 9 too-many 5 0" ++ 10 ∷ []
refused-too_many = numbers (codes "too-many")

refused-count_full : refused_line (record { at = 9; rule = CountFull; first = 5; second = 0 }) ≡ codes "end 7 at 9 count-full 5 0" ++ 10 ∷ []
refused-count_full = numbers (codes "count-full")
