-- The types of each kind of relation.
use Rattle.std.proofs.Common.{◌≡◌, ℕ, ℤ, Bool, Option, List, [], ◌∷◌, sym, ap, ◌∙◌}
use Rattle.cn_types.specs.declared.row.Row.{Row}
use Rattle.cn_types.specs.declared.schema.Schema.{Schema}
use Rattle.cn_types.specs.declared.value.DataType.{DataType}
use Rattle.plan_model.specs.declared.expression.TypedExpr.{TypedExpr}
use Rattle.plan_model.specs.declared.node.AggregateCall.{AggregateCall}
use Rattle.plan_model.specs.declared.node.JoinKind.{JoinKind}
use Rattle.plan_model.specs.declared.node.Node.{Node}
use Rattle.plan_model.specs.declared.node.Node.TheFolds.{map-Node, fold-roll-Node}
use Rattle.plan_model.specs.declared.node.Node.TheOpen as O
use Rattle.plan_model.specs.declared.node.Node.TheOpen.{Node-F}
use Rattle.plan_model.specs.declared.node.Node.TheVariants as V
use Rattle.plan_model.specs.declared.node.Node.TheViews.{roll-Node}
use Rattle.plan_model.specs.declared.node.SetKind.{SetKind}
use Rattle.plan_model.specs.declared.node.SortKey.{SortKey}
use Rattle.plan_model.specs.NodeTypes.{kinds_of, schema_types, join_types, types_step, types}

types_roll : (x : Node-F Node) → types (roll-Node x) ≡ types_step (map-Node Node (List DataType) types x)
unfolding types
types_roll = fold-roll-Node (List DataType) types_step

pub types-Rows : (schema : Schema) (rows : List Row) → types (V.Rows schema rows) ≡ schema_types schema
types-Rows schema rows = ap types (sym (V.rolls-Rows schema rows)) ∙ types_roll (O.Rows schema rows)

pub types-Range : (start end step : ℤ) → types (V.Range start end step) ≡ DataType.Long ∷ []
types-Range start end step = ap types (sym (V.rolls-Range start end step)) ∙ types_roll (O.Range start end step)

pub types-Project : (input : Node) (items : List TypedExpr) → types (V.Project input items) ≡ kinds_of items
types-Project input items = ap types (sym (V.rolls-Project input items)) ∙ types_roll (O.Project input items)

pub types-Filter : (input : Node) (condition : TypedExpr) → types (V.Filter input condition) ≡ types input
types-Filter input condition = ap types (sym (V.rolls-Filter input condition)) ∙ types_roll (O.Filter input condition)

pub types-Join : (left right : Node) (kind : JoinKind) (condition : Option TypedExpr) → types (V.Join left right kind condition) ≡ join_types kind (types left) (types right)
types-Join left right kind condition = ap types (sym (V.rolls-Join left right kind condition)) ∙ types_roll (O.Join left right kind condition)

pub types-SetOp : (left right : Node) (kind : SetKind) (all : Bool) → types (V.SetOp left right kind all) ≡ types left
types-SetOp left right kind all = ap types (sym (V.rolls-SetOp left right kind all)) ∙ types_roll (O.SetOp left right kind all)

pub types-Aggregate : (input : Node) (keys : List TypedExpr) (calls : List AggregateCall) (items : List TypedExpr) → types (V.Aggregate input keys calls items) ≡ kinds_of items
types-Aggregate input keys calls items = ap types (sym (V.rolls-Aggregate input keys calls items)) ∙ types_roll (O.Aggregate input keys calls items)

pub types-DistinctOn : (input : Node) (columns : List ℕ) → types (V.DistinctOn input columns) ≡ types input
types-DistinctOn input columns = ap types (sym (V.rolls-DistinctOn input columns)) ∙ types_roll (O.DistinctOn input columns)

pub types-Sort : (input : Node) (keys : List SortKey) → types (V.Sort input keys) ≡ types input
types-Sort input keys = ap types (sym (V.rolls-Sort input keys)) ∙ types_roll (O.Sort input keys)

pub types-Slice : (input : Node) (skip : ℕ) (most : Option ℕ) → types (V.Slice input skip most) ≡ types input
types-Slice input skip most = ap types (sym (V.rolls-Slice input skip most)) ∙ types_roll (O.Slice input skip most)
