-- Rows of a set operation, each so often as both inputs say.
use Rattle.std.specs.Prelude.{ℕ, Bool, if◌then◌else◌, List, replicate}
use Rattle.std.specs.List.{flat_map}
use Rattle.cn_types.specs.declared.row.Row.{Row}
use Rattle.cn_types.specs.Order.{count}
use Rattle.plan_model.specs.declared.node.SetKind.{SetKind}
use Rattle.plan_model.specs.SetOperations.{copies}

-- the row so often as it stands in the result
abbrev pub repeated : SetKind → Bool → List Row → List Row → Row → List Row
repeated kind all a b row = replicate (copies kind all (count a row) (count b row)) row

abbrev pub all_repeated : SetKind → Bool → List Row → List Row → List Row → List Row
all_repeated kind all a b rows = flat_map (repeated kind all a b) rows

-- the number where there is a reason, else none
abbrev pub number_where : Bool → ℕ → ℕ
number_where reason number = if reason then number else 0
