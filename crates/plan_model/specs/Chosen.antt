-- One outcome that a well-formed plan allows, by plain functions on lists that choose an order: a range goes from its start on, and a set
-- operation, a group or a sort takes the rows as they come.
use Rattle.std.specs.Prelude.{ℕ, zero, suc, ℤ, pos, ◌+ℤ◌, ◌-ℤ◌, int_lt, unsigned_abs, if◌then◌else◌, List, [], ◌∷◌, ◌++◌, map, replicate, Ok, Err}
use Rattle.std.specs.List.{list_any, flat_map}
use Rattle.std.specs.Ordering.{is_lt}
use Rattle.cn_types.specs.declared.row.Row.{Row}
use Rattle.cn_types.specs.Order.{count, row_eq}
use Rattle.plan_model.specs.declared.node.Node.{Node}
use Rattle.plan_model.specs.declared.node.Node.TheOpen.{Node-F}
use Rattle.plan_model.specs.declared.node.Node.TheFolds.{para-Node}
use Rattle.plan_model.specs.declared.node.SortKey.{SortKey}
use Rattle.plan_model.specs.Allows.{joining_of}
use Rattle.plan_model.specs.Groups.{key_values, aggregated, columns_of}
use Rattle.plan_model.specs.Joins.{joined}
use Rattle.plan_model.specs.Outcomes.{Evaluated, limited}
use Rattle.plan_model.specs.Ranges.{row_of}
use Rattle.plan_model.specs.Selections.{projected, selected, sliced}
use Rattle.plan_model.specs.SetOperations.{copies}
use Rattle.plan_model.specs.Sorting.{rows_order}

-- the rows of at most so many numbers, from this one on
abbrev pub rows_from : ℕ → ℤ → ℤ → ℤ → List Row
rows_from zero number end step = []
rows_from (suc most) number end step =
    if (if int_lt (pos 0) step then int_lt number end else int_lt end number) then row_of number ∷ rows_from most (number +ℤ step) end step else []

-- a range has at most as many numbers as lie between its ends
abbrev pub range_rows : ℤ → ℤ → ℤ → List Row
range_rows start end step = rows_from (unsigned_abs (end -ℤ start)) start end step

-- the last row for each key
abbrev pub each_once_by : (Row → Row) → List Row → List Row
each_once_by key [] = []
each_once_by key (row ∷ rows) = if list_any (λ other. row_eq (key row) (key other)) rows then each_once_by key rows else row ∷ each_once_by key rows

-- each row so often as a function says of it
abbrev pub with_copies : (Row → ℕ) → List Row → List Row
with_copies number rows = flat_map (λ row. replicate (number row) row) (each_once_by (λ row. row) rows)

-- before the first row that is not smaller
abbrev pub insert_in_order : List SortKey → Row → List Row → List Row
insert_in_order keys row [] = row ∷ []
insert_in_order keys row (first ∷ rows) = if is_lt (rows_order keys first row) then first ∷ insert_in_order keys row rows else row ∷ first ∷ rows

abbrev pub in_order : List SortKey → List Row → List Row
in_order keys [] = []
in_order keys (row ∷ rows) = insert_in_order keys row (in_order keys rows)

-- what follows from the rows of an input, or its error
abbrev pub after : Evaluated → (List Row → Evaluated) → Evaluated
after (Ok rows) next = next rows
after (Err error) next = Err error

-- one relation, with each input and its outcome in its place
abbrev pub chosen_step : Node-F (Node × Evaluated) → Evaluated
chosen_step (Node-F.Rows schema rows) = limited rows
chosen_step (Node-F.Range start end step) = limited (range_rows start end step)
chosen_step (Node-F.Project input items) = after input.1 (λ a. limited (projected items a))
chosen_step (Node-F.Filter input condition) = after input.1 (λ a. limited (selected condition a))
chosen_step (Node-F.Join left right kind condition) = after left.1 (λ a. after right.1 (λ b. limited (joined kind (joining_of condition left.0 right.0) a b)))
chosen_step (Node-F.SetOp left right kind all) = after left.1 (λ a. after right.1 (λ b. limited (with_copies (λ row. copies kind all (count a row) (count b row)) (a ++ b))))
chosen_step (Node-F.Aggregate input keys calls items) = after input.1 (λ a. limited (map (aggregated keys calls items a) (each_once_by (λ key. key) (key_values keys a))))
chosen_step (Node-F.DistinctOn input columns) = after input.1 (λ a. limited (each_once_by (columns_of columns) a))
chosen_step (Node-F.Sort input keys) = after input.1 (λ a. limited (in_order keys a))
chosen_step (Node-F.Slice input skip most) = after input.1 (λ a. limited (sliced skip most a))

-- one outcome of a relation
unfoldable pub chosen : Node → Evaluated
chosen = para-Node Evaluated chosen_step
