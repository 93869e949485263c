-- The rows that an aggregate and a join give in a certain order are ones that are allowed in any order.
use Rattle.std.specs.Prelude.{List}
use Rattle.cn_types.specs.declared.row.Row.{Row}
use Rattle.plan_model.specs.declared.expression.TypedExpr.{TypedExpr}
use Rattle.plan_model.specs.declared.node.AggregateCall.{AggregateCall}
use Rattle.plan_model.specs.declared.node.JoinKind.{JoinKind}
use Rattle.plan_model.specs.Groups.{IsAggregate}
use Rattle.plan_model.specs.Joins.{Joining, IsJoin, joined}
use Rattle.relation_eval.specs.Members.{grouped}

abbrev pub GroupedIsAnAggregate : Type 0
GroupedIsAnAggregate =
    (keys : List TypedExpr) (calls : List AggregateCall) (items : List TypedExpr) (rows : List Row)
    → IsAggregate keys calls items rows (grouped keys calls items rows)

abbrev pub JoinedIsAJoin : Type 0
JoinedIsAJoin = (kind : JoinKind) (joining : Joining) (a b : List Row) → IsJoin kind joining a b (joined kind joining a b)
