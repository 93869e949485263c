use Rattle.std.proofs.Common.{◌∙◌}
use Rattle.response_buffer.proofs.WindowLemmas.{drop-one_more, drop_surplus-step}
use Rattle.response_buffer.proofs.queue.drop_surplus.Goals as goal

pub loop-after_oldest-preserved : goal.loop-after_oldest-preserved
loop-after_oldest-preserved c =
    let loop = c.loop-after_oldest in
    let step =
    drop_surplus-step loop.responses.items c.args.responses.now.items loop.dropped c.args.buffer loop.after_oldest loop.invariant.kept
    loop.invariant.weighed c.loop-after_oldest-test.true c.requires.buffer loop.invariant.surplus in
    record {
      kept = c.drop_oldest-after_oldest.ensures.responses
          ∙ drop-one_more loop.responses.items c.args.responses.now.items loop.dropped loop.invariant.kept;
      weighed = c.drop_oldest-after_oldest.ensures.weight;
      within = step.0;
      surplus = step.1;
    }
