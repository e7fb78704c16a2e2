use Rattle.std.proofs.Common.{rules, arith}
use Rattle.np_script_words.proofs.QuotedWords.{broken_says_nothing, behind_quote}
use Rattle.np_script_words.proofs.quoted.read_quoted.Goals as goal

pub returns-then-not-has_utf8 : goal.returns-then-not-has_utf8
returns-then-not-has_utf8 c = record { value = broken_says_nothing c.args.word.now (search rules) }

pub returns-in-34 : goal.returns-in-34
returns-in-34 c = record { value = behind_quote c.args.limit c.args.word.now c.unquote.result (omega arith) (search rules) (search rules) c.unquote.ensures.value }
