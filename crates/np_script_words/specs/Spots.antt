-- Where a byte of a word stands.
use Rattle.np_script_grammar.specs.Words.{Spot as GrammarSpot, InWord, InQuotes, Escaped}
use Rattle.np_script_words.specs.declared.line.Spot.{Spot}
use Rattle.np_script_words.specs.declared.line.Spot.TheVariants as spots

-- the grammar's name of it
abbrev pub spot_of : Spot → GrammarSpot
spot_of spots.InWord = InWord
spot_of spots.InQuotes = InQuotes
spot_of spots.Escaped = Escaped
