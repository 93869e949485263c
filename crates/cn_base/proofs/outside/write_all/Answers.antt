use Rattle.std.proofs.Common.{◌∙◌, arith}
use Rattle.std.proofs.Math.Seq.{take-add}
use Rattle.std.proofs.lemmas.List.{take_rest}
use Rattle.cn_base.specs.OutsideLaws.{Adds-append}
use Rattle.cn_base.proofs.outside.write_all.Goals as goal

pub loop-at-preserved : goal.loop-at-preserved
loop-at-preserved g c = (
  omega (arith, c.in_ok-at.ensures.count.1),
  let told = rw take_rest at c.in_ok-at.ensures.told in rw take-add (Adds-append _ _ _ _ _ c.loop-at.invariant.1 told),
  c.in_ok-at.ensures.cause.kept ∙ c.loop-at.invariant.2,
)
