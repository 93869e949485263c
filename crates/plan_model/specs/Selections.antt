-- Relations that keep the order of their input: projections, filters and slices.
use Rattle.std.specs.Prelude.{ℕ, List, map, filter, take, drop, Option, None, Some}
use Rattle.cn_types.specs.declared.row.Row.{Row}
use Rattle.plan_model.specs.declared.expression.TypedExpr.{TypedExpr}
use Rattle.plan_model.specs.Truth.{is_true}
use Rattle.plan_model.specs.Val.{val}

-- the values of the items over a row, as a row
abbrev pub image : List TypedExpr → Row → Row
image items row = record { 0 = map (λ item. val item row) items }

-- the images of the rows, in order
abbrev pub projected : List TypedExpr → List Row → List Row
projected items rows = map (image items) rows

-- the rows of which the condition is true, in order
abbrev pub selected : TypedExpr → List Row → List Row
selected condition rows = filter (λ row. is_true (val condition row)) rows

-- the rows without the first ones that are skipped, and of the rest at most so many as are taken
abbrev pub sliced : ℕ → Option ℕ → List Row → List Row
sliced skip None rows = drop skip rows
sliced skip (Some most) rows = take most (drop skip rows)
