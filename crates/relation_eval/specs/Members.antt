-- The rows of a group by their places.
use Rattle.std.specs.Prelude.{ℕ, None, List, [], ◌∷◌, ◌++◌, map, slice_index_or}
use Rattle.cn_types.specs.declared.row.Row.{Row}
use Rattle.cn_types.specs.declared.value.Value.{Value}
use Rattle.plan_model.specs.declared.expression.TypedExpr.{TypedExpr}
use Rattle.plan_model.specs.declared.node.AggregateCall.{AggregateCall}
use Rattle.plan_model.specs.Aggregates.{call_value}
use Rattle.plan_model.specs.Groups.{key_and_calls}
use Rattle.plan_model.specs.Selections.{projected}
use Rattle.plan_model.specs.Val.{val}
use Rattle.relation_eval.specs.Firsts.{firsts}
use Rattle.relation_eval.specs.Places.{places_of}

-- the row without values
abbrev pub empty_row : Row
empty_row = record { 0 = [] }

-- the row at a place, and the rows at several
abbrev pub row_at : List Row → ℕ → Row
row_at rows place = slice_index_or rows place empty_row

abbrev pub rows_at : List Row → List ℕ → List Row
rows_at rows places = map (row_at rows) places

-- an expression's values over the rows at these places
abbrev pub values_at : TypedExpr → List Row → List ℕ → List Value
values_at expr rows places = map (λ row. val expr row) (rows_at rows places)

-- the key's values, and behind them the calls' values over the rows at these places
abbrev pub group_at : List AggregateCall → List Row → List ℕ → Row → Row
group_at calls rows places key = record { 0 = key.0 ++ map (λ c. call_value c (rows_at rows places)) calls }

-- the same over the rows with this key, where each row's key stands at its place
abbrev pub group_of : List AggregateCall → List Row → List Row → Row → Row
group_of calls rows keys key = group_at calls rows (places_of None key keys) key

-- the different keys, in the order of their first rows; without keys there is the one without values
abbrev pub different_keys : List TypedExpr → List Row → List Row
different_keys [] rows = empty_row ∷ []
different_keys (key ∷ keys) rows = firsts None (projected (key ∷ keys) rows)

-- the rows of an aggregate, in the order of the first rows of their groups
abbrev pub grouped : List TypedExpr → List AggregateCall → List TypedExpr → List Row → List Row
grouped keys calls items rows = projected items (map (key_and_calls keys calls rows) (different_keys keys rows))
