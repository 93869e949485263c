use Rattle.std.proofs.Common.{◌∙◌}
use Rattle.response_buffer.proofs.WindowLemmas.{drop-one_more}
use Rattle.response_buffer.proofs.queue.drop_count.Goals as goal

pub loop-preserved : goal.loop-preserved
loop-preserved c = record {
  dropped = c.drop_oldest-after_oldest.ensures.responses
      ∙ drop-one_more c.loop.responses.items c.args.responses.now.items c.loop.counter c.loop.invariant.dropped;
  weighed = c.drop_oldest-after_oldest.ensures.weight;
}
