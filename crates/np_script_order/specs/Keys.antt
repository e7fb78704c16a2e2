-- What a line declares, by its words as they stand in the script.
use Rattle.std.specs.Prelude.{ℕ, List, ◌∷◌, ◌++◌, take, Bool, bytes_eq, Option, Some, None}
use Rattle.std.specs.Borrow.{Bor}
use Rattle.std.specs.List.{list_any}
use Rattle.np_script_grammar.specs.Words.{words_of}
use Rattle.np_script_grammar.specs.Forms.{spaced}

-- a word, and after a space a second one, if there is one
abbrev pub joined : List ℕ → Option (Bor (List ℕ)) → List ℕ
joined word None = word
joined word (Some name) = word ++ 32 ∷ name.now

-- what a line declares, by its first word and the words of its rest
abbrev pub key_of : List ℕ → List ℕ → List ℕ
key_of word rest = spaced (take 2 (word ∷ words_of rest))

-- a line of this word and this rest declares one of these again
abbrev pub has_key : List (List ℕ) → List ℕ → List ℕ → Bool
has_key declared word rest = list_any (bytes_eq (key_of word rest)) declared
