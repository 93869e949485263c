use Rattle.plan_model.proofs.Fitting.{rows_have_the_types, rows_fit_the_schema}
use Rattle.plan_model.proofs.plan_laws.rows_fit.Goals as goal

pub returns : goal.returns
returns c = record { relation = rows_have_the_types; plan = rows_fit_the_schema }
