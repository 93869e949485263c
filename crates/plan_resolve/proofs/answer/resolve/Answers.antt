use Rattle.plan_resolve.proofs.SoundPlans.{formed_result, safe_result}
use Rattle.plan_resolve.proofs.answer.resolve.Goals as goal

pub returns-clause-well_formed : goal.returns-clause-well_formed
returns-clause-well_formed c = formed_result c.args.plan.now c.args.tables.now c.args.settings.now c.resolved.result c.resolved.ensures.ok

pub returns-clause-nulls : goal.returns-clause-nulls
returns-clause-nulls c = safe_result c.args.plan.now c.args.tables.now c.args.settings.now c.resolved.result c.resolved.ensures.ok
