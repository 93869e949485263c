-- The order of rows by keys whose values are found already.
use Rattle.std.specs.Prelude.{ℕ, suc, List, [], ◌∷◌, map, All}
use Rattle.std.specs.declared.cmp.Ordering.{Ordering}
use Rattle.std.specs.declared.cmp.Ordering.TheVariants.{Equal}
use Rattle.std.specs.Ordering.{ordering_then}
use Rattle.cn_types.specs.Fit.{value_at}
use Rattle.cn_types.specs.declared.row.Row.{Row}
use Rattle.cn_types.specs.declared.value.Value.{Value}
use Rattle.plan_model.specs.declared.expression.TypedExpr.{TypedExpr}
use Rattle.plan_model.specs.declared.node.SortKey.{SortKey}
use Rattle.plan_model.specs.Sorting.{nulls_order, values_order}
use Rattle.expr_eval.specs.Dated.{HasLiteralsInRange}

-- two values by a key
abbrev pub value_order : SortKey → Value → Value → Ordering
value_order key a b = ordering_then (nulls_order key.nulls_last a b) (values_order key.descending a b)

-- two rows of values by the first key in which they differ, from this place on
abbrev pub found_order : List SortKey → ℕ → Row → Row → Ordering
found_order [] place a b = Equal
found_order (key ∷ keys) place a b = ordering_then (value_order key (value_at place a) (value_at place b)) (found_order keys (suc place) a b)

abbrev pub key_exprs : List SortKey → List TypedExpr
key_exprs keys = map (λ key. key.expr) keys

-- the literals of each key are in range
abbrev pub HaveLiteralsInRange : List SortKey → Type 0
HaveLiteralsInRange keys = All (λ key. HasLiteralsInRange key.expr) keys
