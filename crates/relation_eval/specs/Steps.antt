-- What follows from an input's outcome.
use Rattle.std.specs.Prelude.{◌≡◌, List, All, Ok, Err}
use Rattle.cn_types.specs.declared.row.Row.{Row}
use Rattle.plan_model.specs.Outcomes.{Evaluated, Allowed}
use Rattle.expr_eval.specs.Dated.{HasDatesInRange}

-- the input's error; or what follows from its rows
abbrev pub Then : Evaluated → (List Row → Allowed) → Allowed
Then (Ok rows) Next outcome = Next rows outcome
Then (Err error) Next outcome = outcome ≡ Err error

-- the dates of the outcome's rows are in range
abbrev pub AreDated : Evaluated → Type 0
AreDated (Ok rows) = All HasDatesInRange rows
AreDated (Err error) = Unit {0}
