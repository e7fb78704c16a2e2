use Rattle.std.proofs.Common.{◌∙◌}
use Rattle.np_script_builder.proofs.Contents.{copies_of_nothing}
use Rattle.np_script_builder.proofs.tops.content.Goals as goal

pub returns-then-is_empty : goal.returns-then-is_empty
returns-then-is_empty c = record { value = c.new-bytes.ensures.value ∙ copies_of_nothing c.args.times c.args.piece.now c.if-is_empty.ensures }
