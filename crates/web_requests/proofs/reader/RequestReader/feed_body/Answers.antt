use Rattle.std.proofs.Common.{inl, inr, sym, ◌∙◌}
use Rattle.std.proofs.lemmas.List.{take_rest}
use Rattle.web_requests.proofs.Pieces.{taken_none, taken_more, refuses_later, ended}
use Rattle.web_requests.proofs.reader.RequestReader.feed_body.Goals as goal
use Rattle.web_requests.proofs.reader.RequestReader.feed_body.Goals.{then-loop-taken-test+else-is_within, else-loop-taken-test}

pub loop-taken-init : goal.loop-taken-init
loop-taken-init c = taken_none c.args.self.now c.args.piece.now

pub loop-taken-preserved : goal.loop-taken-preserved
loop-taken-preserved c =
    taken_more c.args.self.now c.args.piece.now c.loop-taken.self c.take_some.new.self c.loop-taken.taken c.in-Ok.count c.loop-taken.invariant
    (rw take_rest at c.in-Ok.ensures)

pub returns-in-Err : goal.returns-in-Err
returns-in-Err c =
    refuses_later c.args.self.now c.args.piece.now c.loop-taken.self c.loop-taken.taken c.in-Err.fault c.take_some.new.self c.loop-taken.invariant
    (sym c.is_within.ensures ∙ c.if-is_within.true)
    (rw take_rest at c.in-Err.ensures)

pub returns : goal.returns
returns c = elim c.loop-taken-test.branch [
  | then-loop-taken-test+else-is_within w ↦
      ended c.args.self.now c.args.piece.now c.loop-taken.self c.loop-taken.taken c.answer.result c.requires c.loop-taken.invariant (inl (sym w.is_within.ensures ∙ w.if-is_within.false)) c.answer.ensures
  | else-loop-taken-test w ↦
      ended c.args.self.now c.args.piece.now c.loop-taken.self c.loop-taken.taken c.answer.result c.requires c.loop-taken.invariant (inr w.loop-taken-test.false) c.answer.ensures
]
