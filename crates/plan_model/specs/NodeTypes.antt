-- The types of expressions, and of the columns of relations.
use Rattle.std.specs.Prelude.{List, [], ◌∷◌, ◌++◌, map}
use Rattle.cn_types.specs.declared.schema.Schema.{Schema}
use Rattle.cn_types.specs.declared.value.DataType.{DataType}
use Rattle.plan_model.specs.declared.expression.TypedExpr.{TypedExpr}
use Rattle.plan_model.specs.declared.expression.TypedExpr.TheOpen.{TypedExpr-F}
use Rattle.plan_model.specs.declared.expression.TypedExpr.TheViews.{out-TypedExpr}
use Rattle.plan_model.specs.declared.node.JoinKind.{JoinKind}
use Rattle.plan_model.specs.declared.node.Node.{Node}
use Rattle.plan_model.specs.declared.node.Node.TheOpen.{Node-F}
use Rattle.plan_model.specs.declared.node.Node.TheFolds.{fold-Node}

-- the type that an expression says of itself
abbrev pub kind_in : {E : Type 0} → TypedExpr-F E → DataType
kind_in (TypedExpr-F.Column place kind) = kind
kind_in (TypedExpr-F.Literal value kind) = kind
kind_in (TypedExpr-F.Call function arguments kind) = kind
kind_in (TypedExpr-F.Cast child kind) = kind

abbrev pub kind_of : TypedExpr → DataType
kind_of expr = kind_in (out-TypedExpr expr)

abbrev pub kinds_of : List TypedExpr → List DataType
kinds_of exprs = map kind_of exprs

-- the types of a schema's columns
abbrev pub schema_types : Schema → List DataType
schema_types schema = map (λ field. field.kind) schema.0

-- the columns of a join of these: semi and anti joins have the left ones alone
abbrev pub join_types : JoinKind → List DataType → List DataType → List DataType
join_types JoinKind.Semi left right = left
join_types JoinKind.Anti left right = left
join_types kind left right = left ++ right

-- the types of one relation, with those of each input in its place
abbrev pub types_step : Node-F (List DataType) → List DataType
types_step (Node-F.Rows schema rows) = schema_types schema
types_step (Node-F.Range start end step) = DataType.Long ∷ []
types_step (Node-F.Project input items) = kinds_of items
types_step (Node-F.Filter input condition) = input
types_step (Node-F.Join left right kind condition) = join_types kind left right
types_step (Node-F.SetOp left right kind all) = left
types_step (Node-F.Aggregate input keys calls items) = kinds_of items
types_step (Node-F.DistinctOn input columns) = input
types_step (Node-F.Sort input keys) = input
types_step (Node-F.Slice input skip most) = input

-- the types of a relation's columns
unfoldable pub types : Node → List DataType
types = fold-Node (List DataType) types_step
