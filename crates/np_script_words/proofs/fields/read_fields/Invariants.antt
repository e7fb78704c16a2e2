use Rattle.std.proofs.Common.{length}
use Rattle.np_script_words.specs.Forms.{form_value}
use Rattle.np_script_words.proofs.FormReading.{HasRead}
use Rattle.np_script_words.proofs.fields.read_fields.Given as goal

abbrev pub invariant-loop-left : goal.invariant-loop-left
invariant-loop-left l = HasRead (form_value l.form) l.rest l.left l.reading l.groups

abbrev pub decreases-loop-left : goal.decreases-loop-left
decreases-loop-left l = length l.left
