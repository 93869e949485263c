use Rattle.std.proofs.Common.{subst, refl}
use Rattle.std.specs.List.{All}
use Rattle.std.proofs.lemmas.List.{take_all}
use Rattle.std.proofs.lemmas.List.Elements.{All-more}
use Rattle.cn_types.specs.Fit.{Fits}
use Rattle.arrow_ipc.proofs.fit.all_fit.Goals as goal

pub loop-row-preserved : goal.loop-row-preserved
loop-row-preserved c =
    All-more (Fits c.args.schema.now) c.args.rows.now c.loop-row.row-index c.row-item.result c.loop-row-test.true c.loop-row.invariant
    (subst (Fits c.args.schema.now) c.row-item.is (c.fits.ensures.0 c.if-not-fits.false))

pub returns : goal.returns
returns c = (λ h. subst (All (Fits c.args.schema.now)) (take_all c.loop-row.row-index c.args.rows.now c.loop-row-test.false) c.loop-row.invariant, λ h. refl)
