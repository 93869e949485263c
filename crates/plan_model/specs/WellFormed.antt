-- Which expressions, relations and plans are well formed: what the evaluation of one asks for.
use Rattle.std.specs.Prelude.{◌≡◌, ◌≢◌, ◌<◌, pos, IsTrue, List, ◌++◌, length, slice_get, All, Some, IfSome, option_map}
use Rattle.std.specs.List.{AllZip}
use Rattle.cn_types.specs.declared.value.DataType.{DataType}
use Rattle.cn_types.specs.Fit.{HasType, Fits}
use Rattle.plan_model.specs.declared.expression.TypedExpr.{TypedExpr}
use Rattle.plan_model.specs.declared.expression.TypedExpr.TheOpen.{TypedExpr-F}
use Rattle.plan_model.specs.declared.expression.TypedExpr.TheFolds.{every-TypedExpr}
use Rattle.plan_model.specs.declared.node.AggregateCall.{AggregateCall}
use Rattle.plan_model.specs.declared.node.Node.{Node}
use Rattle.plan_model.specs.declared.node.Node.TheOpen.{Node-F}
use Rattle.plan_model.specs.declared.node.Node.TheFolds.{every-Node}
use Rattle.plan_model.specs.declared.plan.Resolved.{Resolved}
use Rattle.plan_model.specs.FunctionTypes.{call_type, aggregate_type, can_cast}
use Rattle.plan_model.specs.NodeTypes.{kind_of, kinds_of, schema_types, types}

-- one form of expression over columns of these types: the column is there and has its type; the literal is null or of its type, a date in
-- range; the function takes the arguments and gives the type; there is such a cast
abbrev pub IsFormOver : List DataType → TypedExpr-F TypedExpr → Type 0
IsFormOver columns (TypedExpr-F.Column place kind) = slice_get columns place ≡ Some kind
IsFormOver columns (TypedExpr-F.Literal value kind) = HasType kind value
IsFormOver columns (TypedExpr-F.Call function arguments kind) = call_type function (kinds_of arguments) ≡ Some kind
IsFormOver columns (TypedExpr-F.Cast child kind) = IsTrue (can_cast (kind_of child) kind)

-- an expression over columns of these types, with all of its parts
abbrev pub IsOver : List DataType → TypedExpr → Type 0
IsOver columns = every-TypedExpr (IsFormOver columns)

-- a condition: an expression that is boolean
pub record IsCondition (columns : List DataType) (expr : TypedExpr) : Type 0 where
  pub over : IsOver columns expr
  pub boolean : kind_of expr ≡ DataType.Boolean

-- an aggregate call of this type: its argument is well formed, and the function takes it
pub record IsCallOver (columns : List DataType) (call : AggregateCall) (kind : DataType) : Type 0 where
  pub argument : IfSome call.argument (IsOver columns)
  pub taken : aggregate_type call.function call.distinct (option_map kind_of call.argument) ≡ Some kind

-- an aggregate's keys, calls and items, which are over the keys' and then the calls' values
pub record IsAggregation (columns : List DataType) (keys : List TypedExpr) (calls : List AggregateCall) (items : List TypedExpr) : Type 0 where
  pub keys_over : All (IsOver columns) keys
  pub call_types : List DataType
  pub calls_over : AllZip (IsCallOver columns) calls call_types
  pub items_over : All (IsOver (kinds_of keys ++ call_types)) items

-- one relation: rows fit their schema, a step is not 0, expressions are well formed over the columns that they see, conditions are boolean,
-- both inputs of a set operation have the same types, and columns are there
abbrev pub IsSound : Node-F Node → Type 0
IsSound (Node-F.Rows schema rows) = All (Fits schema) rows
IsSound (Node-F.Range start end step) = step ≢ pos 0
IsSound (Node-F.Project input items) = All (IsOver (types input)) items
IsSound (Node-F.Filter input condition) = IsCondition (types input) condition
IsSound (Node-F.Join left right kind condition) = IfSome condition (IsCondition (types left ++ types right))
IsSound (Node-F.SetOp left right kind all) = types left ≡ types right
IsSound (Node-F.Aggregate input keys calls items) = IsAggregation (types input) keys calls items
IsSound (Node-F.DistinctOn input columns) = All (λ column. column < length (types input)) columns
IsSound (Node-F.Sort input keys) = All (λ key. IsOver (types input) key.expr) keys
IsSound (Node-F.Slice input skip most) = Unit {0}

-- a relation with all of its inputs
abbrev pub IsWellFormed : Node → Type 0
IsWellFormed = every-Node IsSound

-- a plan: a relation that is well formed, under a schema with the types of its columns
pub record IsWellFormedPlan (plan : Resolved) : Type 0 where
  pub node : IsWellFormed plan.node
  pub columns : types plan.node ≡ schema_types plan.schema
