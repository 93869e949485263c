-- What a relation gives, as its outcome.
use Rattle.std.specs.Prelude.{List, Ok, Err}
use Rattle.cn_types.specs.declared.row.Row.{Row}
use Rattle.plan_model.specs.Outcomes.{Evaluated, PlanError}
use Rattle.relation_eval.specs.declared.given.Given.{Given}
use Rattle.relation_eval.specs.declared.given.HeldRows.{HeldRows}

-- rows that are shared or owned
abbrev pub rows_of : HeldRows → List Row
rows_of (HeldRows.Shared rows) = rows
rows_of (HeldRows.Owned rows) = rows.items

abbrev pub outcome_of : Given → Evaluated
outcome_of (Given.Rows rows) = Ok (rows_of rows)
outcome_of Given.TooManyRows = Err PlanError.TooManyRows
outcome_of Given.RowTooLarge = Err PlanError.RowTooLarge
