-- Values that are computed are values of a program again: numbers have the bits of their types, and texts are UTF-8.
use Rattle.std.specs.Prelude.{◌<◌, ◌^◌, List, length, All, IfSome, Ok}
use Rattle.cn_types.specs.declared.row.Row.{Row}
use Rattle.cn_types.specs.declared.value.DataType.{DataType}
use Rattle.cn_types.specs.Fit.{IsLong, IsValue, FitsTypes}
use Rattle.plan_model.specs.declared.expression.TypedExpr.{TypedExpr}
use Rattle.plan_model.specs.declared.expression.TypedExpr.TheOpen.{TypedExpr-F}
use Rattle.plan_model.specs.declared.expression.TypedExpr.TheFolds.{every-TypedExpr}
use Rattle.plan_model.specs.declared.node.AggregateCall.{AggregateCall}
use Rattle.plan_model.specs.declared.node.Node.{Node}
use Rattle.plan_model.specs.declared.node.Node.TheOpen.{Node-F}
use Rattle.plan_model.specs.declared.node.Node.TheFolds.{every-Node}
use Rattle.plan_model.specs.Aggregates.{call_value}
use Rattle.plan_model.specs.Allows.{Allows}
use Rattle.plan_model.specs.Val.{val}
use Rattle.plan_model.specs.WellFormed.{IsOver, IsCallOver, IsWellFormed}

-- every value of the row is one of a program
abbrev pub HasValuesInRange : Row → Type 0
HasValuesInRange row = All IsValue row.0

-- the literals of an expression are values of a program, as the type of expressions holds no others
abbrev pub IsFormInRange : TypedExpr-F TypedExpr → Type 0
IsFormInRange (TypedExpr-F.Literal value kind) = IsValue value
IsFormInRange other = Unit {0}

abbrev pub HasLiteralsInRange : TypedExpr → Type 0
HasLiteralsInRange = every-TypedExpr IsFormInRange

-- the value of a well-formed expression over a row that fits and is in range
abbrev pub ValuesAreInRange : Type 0
ValuesAreInRange = (columns : List DataType) (expr : TypedExpr) (row : Row) → IsOver columns expr → HasLiteralsInRange expr → FitsTypes columns row → HasValuesInRange row → IsValue (val expr row)

-- the value of a well-formed aggregate call over rows that fit and are in range, where they are fewer than 2^63
abbrev pub CallsAreInRange : Type 0
CallsAreInRange =
    (columns : List DataType) (call : AggregateCall) (kind : DataType) (rows : List Row) → IsCallOver columns call kind → IfSome call.argument HasLiteralsInRange
    → All (FitsTypes columns) rows → All HasValuesInRange rows → length rows < 2 ^ 63 → IsValue (call_value call rows)

-- the rows, the numbers and the literals that a relation itself has are in range
abbrev pub IsNodeInRange : Node-F Node → Type 0
IsNodeInRange (Node-F.Rows schema rows) = All HasValuesInRange rows
IsNodeInRange (Node-F.Range start end step) = IsLong start × IsLong end
IsNodeInRange (Node-F.Project input items) = All HasLiteralsInRange items
IsNodeInRange (Node-F.Aggregate input keys calls items) = All HasLiteralsInRange keys × All (λ call. IfSome call.argument HasLiteralsInRange) calls × All HasLiteralsInRange items
IsNodeInRange other = Unit {0}

-- and those of all of its inputs
abbrev pub HasContentInRange : Node → Type 0
HasContentInRange = every-Node IsNodeInRange

-- the rows that a well-formed relation allows are in range
abbrev pub RowsAreInRange : Type 0
RowsAreInRange = (node : Node) → IsWellFormed node → HasContentInRange node → (rows : List Row) → Allows node (Ok rows) → All HasValuesInRange rows
