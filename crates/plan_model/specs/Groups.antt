-- Groups of rows with the same values: GROUP BY, and DISTINCT on columns. Null is the same as null.
use Rattle.std.specs.Prelude.{◌≡◌, ℕ, ◌<◌, List, [], ◌∷◌, ◌++◌, map, filter}
use Rattle.cn_types.specs.declared.row.Row.{Row}
use Rattle.cn_types.specs.Fit.{value_at}
use Rattle.cn_types.specs.Order.{count, row_eq}
use Rattle.plan_model.specs.declared.expression.TypedExpr.{TypedExpr}
use Rattle.plan_model.specs.declared.node.AggregateCall.{AggregateCall}
use Rattle.plan_model.specs.Aggregates.{call_value}
use Rattle.plan_model.specs.Counts.{HasEachOnce}
use Rattle.plan_model.specs.Selections.{image}

-- the key values of the rows; one key without values where there are no keys
abbrev pub key_values : List TypedExpr → List Row → List Row
key_values [] rows = record { 0 = [] } ∷ []
key_values (key ∷ keys) rows = map (image (key ∷ keys)) rows

-- the rows with a key value, in order
abbrev pub group : List TypedExpr → List Row → Row → List Row
group keys rows key = filter (λ row. row_eq key (image keys row)) rows

-- the key's values, and behind them the calls' values over its group
abbrev pub key_and_calls : List TypedExpr → List AggregateCall → List Row → Row → Row
key_and_calls keys calls rows key = record { 0 = key.0 ++ map (λ c. call_value c (group keys rows key)) calls }

-- the row of a key: the items over these values
abbrev pub aggregated : List TypedExpr → List AggregateCall → List TypedExpr → List Row → Row → Row
aggregated keys calls items rows key = image items (key_and_calls keys calls rows key)

-- one row for each different key value, in any order
pub record IsAggregate (keys : List TypedExpr) (calls : List AggregateCall) (items : List TypedExpr) (rows list : List Row) : Type 0 where
  pub different : List Row
  pub each_once : HasEachOnce different (key_values keys rows)
  pub is : list ≡ map (aggregated keys calls items rows) different

-- the row's values in these columns
abbrev pub columns_of : List ℕ → Row → Row
columns_of columns row = record { 0 = map (λ column. value_at column row) columns }

-- one of the rows for each different value of the columns, in any order
pub record IsDistinctOn (columns : List ℕ) (rows list : List Row) : Type 0 where
  pub among : (row : Row) → 0 < count list row → 0 < count rows row
  pub each_once : HasEachOnce (map (columns_of columns) list) (map (columns_of columns) rows)
