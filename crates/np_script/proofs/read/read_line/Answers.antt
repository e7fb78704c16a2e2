use Rattle.std.proofs.Common.{◌≡◌, true, false, ◌==◌, slice_index_or, rules}
use Rattle.np_script_grammar.specs.Words.{is_line}
use Rattle.np_script.proofs.LineKinds.{line-is-read}
use Rattle.np_script.proofs.read.read_line.Goals as goal

pub returns : goal.returns
returns c =
    let plain : is_line c.args.line.now ≡ true = search rules in
    let other : slice_index_or c.in-Some.word.now 0 0 == 35 ≡ false = search rules in
    record { line = line-is-read c.lines_go_on.ensures.law c.built_goes_on.ensures.law c.args.side c.args.order.now c.args.builder.now c.args.line.now c.in-Some.word.now _ _ _ _ plain c.in-Some.ensures.words c.in-Some.ensures.not_empty other c.read_words.ensures.words }
