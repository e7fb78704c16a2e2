use Rattle.std.proofs.Common.{rules, arith}
use Rattle.np_script_words.proofs.Unquoting.{has_moved, has_kept, has_passed}
use Rattle.np_script_words.proofs.quoted.unquote.Goals as goal
use Rattle.np_script_words.proofs.quoted.unquote.Goals.{in-Moved, in-Byte+then-len-limit+in_ok-push-in-Byte, in-Byte+else-len-limit}

pub loop-i-preserved : goal.loop-i-preserved
loop-i-preserved c =
    let kept = c.loop-i.text.items in
    elim c.match-take_byte.branch [
      | in-Moved w ↦ rw (w.text-is, w.passed-is, w.state-is) (has_moved c.args.limit c.args.word.now kept c.loop-i.passed c.loop-i.state _ c.loop-i.i c.loop-i.invariant (omega arith) (search rules))
      | in-Byte+then-len-limit+in_ok-push-in-Byte w ↦ rw (w.text-is, w.passed-is, w.state-is, w.in_ok-push-in-Byte.ensures.items) (has_kept c.args.limit c.args.word.now kept c.loop-i.passed c.loop-i.state c.loop-i.i _ c.loop-i.invariant (omega arith) (search rules) (omega (arith, c.loop-i.text.ok.0)))
      | in-Byte+else-len-limit w ↦ rw (w.text-is, w.passed-is, w.state-is) (has_passed c.args.limit c.args.word.now kept c.loop-i.passed c.loop-i.state c.loop-i.i w.in-Byte.byte c.loop-i.invariant (omega arith) (search rules) (omega (arith, c.loop-i.text.ok.0)))
    ]
