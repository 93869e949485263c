use Rattle.std.proofs.Common.{refl, arith}
use Rattle.relation_eval.proofs.BucketFacts.{placed_next}
use Rattle.relation_eval.proofs.buckets.placed_rows.Goals as goal

pub loop-place-preserved : goal.loop-place-preserved
loop-place-preserved c =
    let items = c.in_ok-push.ensures.items in
    placed_next c.loop-place.placed.items c.push.new.self.items _ c.args.rows.now c.loop-place.place items c.loop-place.invariant.0 c.loop-place.invariant.1 (omega arith) c.index-rows-place.is refl
