use Rattle.std.proofs.Common.{sym, ◌∙◌, arith}
use Rattle.web_heads.proofs.FieldLemmas.{without_trailing_ows-stop, without_trailing_ows-none}
use Rattle.web_heads.proofs.fields.trimmed_end.Goals as goal
use Rattle.web_heads.proofs.fields.trimmed_end.Goals.{then-loop-stop-test+else-is_white_space, else-loop-stop-test}

pub returns : goal.returns
returns c = elim c.loop-stop-test.branch [
  | then-loop-stop-test+else-is_white_space w ↦
      without_trailing_ows-stop c.args.text.now c.loop-stop.stop 0 (omega arith) c.loop-stop.invariant.within
      (sym w.is_white_space.ensures ∙ w.if-is_white_space.false) c.loop-stop.invariant.same
  | else-loop-stop-test w ↦
      without_trailing_ows-none c.args.text.now c.loop-stop.stop (omega arith) c.loop-stop.invariant.same
]
