use Rattle.std.proofs.Common.{arith, ◌∙◌}
use Rattle.std.proofs.lemmas.Grind.{common_steps}
use Rattle.cn_base.specs.OutsideLaws.{Consumes-append}
use Rattle.connect_replay.proofs.Written.{take-put_mid_part}
use Rattle.connect_replay.proofs.reading.read_start.Goals as goal

pub loop-count-preserved : goal.loop-count-preserved
loop-count-preserved g c =
    let buffer = c.loop-count.buffer in
    let into = c.read.new.into in
    record {
      room = grind (arith, common_steps);
      read = rw (take-put_mid_part c.loop-count.count _ c.in_ok-more.more buffer into (omega arith) c.in_ok-more.ensures.count.0) (Consumes-append _ _ _ _ _ c.loop-count.invariant.read c.in_ok-more.ensures.told.0);
      faultless = c.in_ok-more.ensures.cause.kept ∙ c.loop-count.invariant.faultless;
    }
