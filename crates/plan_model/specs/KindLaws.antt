-- What each kind of relation and each form of expression means, by its inputs or parts.
use Rattle.std.specs.Prelude.{◌≡◌, ◌≢◌, ◌↔◌, ◌<◌, ℕ, ℤ, pos, Bool, IsTrue, Option, Some, List, [], ◌∷◌, ◌++◌, length, slice_get, All, IfSome}
use Rattle.cn_types.specs.declared.row.Row.{Row}
use Rattle.cn_types.specs.declared.schema.Schema.{Schema}
use Rattle.cn_types.specs.declared.value.DataType.{DataType}
use Rattle.cn_types.specs.declared.value.Value.{Value}
use Rattle.cn_types.specs.Fit.{HasType, Fits}
use Rattle.plan_model.specs.declared.expression.TypedExpr.{TypedExpr}
use Rattle.plan_model.specs.declared.expression.TypedExpr.TheVariants.{Column, Literal, Call, Cast}
use Rattle.plan_model.specs.declared.function.Function.{Function}
use Rattle.plan_model.specs.declared.node.AggregateCall.{AggregateCall}
use Rattle.plan_model.specs.declared.node.JoinKind.{JoinKind}
use Rattle.plan_model.specs.declared.node.Node.{Node}
use Rattle.plan_model.specs.declared.node.Node.TheVariants.{Rows, Range, Project, Filter, Join, SetOp, Aggregate, DistinctOn, Sort, Slice}
use Rattle.plan_model.specs.declared.node.SetKind.{SetKind}
use Rattle.plan_model.specs.declared.node.SortKey.{SortKey}
use Rattle.plan_model.specs.Allows.{Allows, joining_of}
use Rattle.plan_model.specs.Counts.{SameCounts}
use Rattle.plan_model.specs.FunctionTypes.{call_type, can_cast}
use Rattle.plan_model.specs.Groups.{IsAggregate, IsDistinctOn}
use Rattle.plan_model.specs.Joins.{IsJoin}
use Rattle.plan_model.specs.NodeTypes.{kind_of, kinds_of, schema_types, join_types, types}
use Rattle.plan_model.specs.Outcomes.{Evaluated, Allowed, Bounded, After}
use Rattle.plan_model.specs.Ranges.{IsRange}
use Rattle.plan_model.specs.Selections.{projected, selected, sliced}
use Rattle.plan_model.specs.SetOperations.{IsSetOperation}
use Rattle.plan_model.specs.Sorting.{IsSort}
use Rattle.plan_model.specs.WellFormed.{IsOver, IsCondition, IsAggregation, IsWellFormed}

-- two conditions on an outcome are the same
abbrev pub AllowsAs : Allowed → Allowed → Type 0
AllowsAs P Q = (outcome : Evaluated) → P outcome ↔ Q outcome

-- the outcomes of each kind of relation, by those of its inputs
pub record OutcomesOfKinds : Type 0 where
  pub rows : (schema : Schema) (rows : List Row) → AllowsAs (Allows (Rows schema rows)) (Bounded (λ list. SameCounts list rows))
  pub range : (start end step : ℤ) → AllowsAs (Allows (Range start end step)) (Bounded (IsRange start end step))
  pub project : (input : Node) (items : List TypedExpr) → AllowsAs (Allows (Project input items)) (After (Allows input) (λ a. Bounded (λ list. list ≡ projected items a)))
  pub filter : (input : Node) (condition : TypedExpr) → AllowsAs (Allows (Filter input condition)) (After (Allows input) (λ a. Bounded (λ list. list ≡ selected condition a)))
  pub join : (left right : Node) (kind : JoinKind) (condition : Option TypedExpr)
      → AllowsAs (Allows (Join left right kind condition)) (After (Allows left) (λ a. After (Allows right) (λ b. Bounded (IsJoin kind (joining_of condition left right) a b))))
  pub set_op : (left right : Node) (kind : SetKind) (all : Bool)
      → AllowsAs (Allows (SetOp left right kind all)) (After (Allows left) (λ a. After (Allows right) (λ b. Bounded (IsSetOperation kind all a b))))
  pub aggregate : (input : Node) (keys : List TypedExpr) (calls : List AggregateCall) (items : List TypedExpr)
      → AllowsAs (Allows (Aggregate input keys calls items)) (After (Allows input) (λ a. Bounded (IsAggregate keys calls items a)))
  pub distinct_on : (input : Node) (columns : List ℕ) → AllowsAs (Allows (DistinctOn input columns)) (After (Allows input) (λ a. Bounded (IsDistinctOn columns a)))
  pub sort : (input : Node) (keys : List SortKey) → AllowsAs (Allows (Sort input keys)) (After (Allows input) (λ a. Bounded (IsSort keys a)))
  pub slice : (input : Node) (skip : ℕ) (most : Option ℕ) → AllowsAs (Allows (Slice input skip most)) (After (Allows input) (λ a. Bounded (λ list. list ≡ sliced skip most a)))

-- the types of each kind of relation, by those of its inputs
pub record TypesOfKinds : Type 0 where
  pub rows : (schema : Schema) (rows : List Row) → types (Rows schema rows) ≡ schema_types schema
  pub range : (start end step : ℤ) → types (Range start end step) ≡ DataType.Long ∷ []
  pub project : (input : Node) (items : List TypedExpr) → types (Project input items) ≡ kinds_of items
  pub filter : (input : Node) (condition : TypedExpr) → types (Filter input condition) ≡ types input
  pub join : (left right : Node) (kind : JoinKind) (condition : Option TypedExpr) → types (Join left right kind condition) ≡ join_types kind (types left) (types right)
  pub set_op : (left right : Node) (kind : SetKind) (all : Bool) → types (SetOp left right kind all) ≡ types left
  pub aggregate : (input : Node) (keys : List TypedExpr) (calls : List AggregateCall) (items : List TypedExpr) → types (Aggregate input keys calls items) ≡ kinds_of items
  pub distinct_on : (input : Node) (columns : List ℕ) → types (DistinctOn input columns) ≡ types input
  pub sort : (input : Node) (keys : List SortKey) → types (Sort input keys) ≡ types input
  pub slice : (input : Node) (skip : ℕ) (most : Option ℕ) → types (Slice input skip most) ≡ types input

-- a relation is well formed exactly where it meets its kind's condition and its inputs are well formed
pub record ConditionsOfKinds : Type 0 where
  pub rows : (schema : Schema) (rows : List Row) → IsWellFormed (Rows schema rows) ↔ All (Fits schema) rows
  pub range : (start end step : ℤ) → IsWellFormed (Range start end step) ↔ (step ≢ pos 0)
  pub project : (input : Node) (items : List TypedExpr) → IsWellFormed (Project input items) ↔ (All (IsOver (types input)) items × IsWellFormed input)
  pub filter : (input : Node) (condition : TypedExpr) → IsWellFormed (Filter input condition) ↔ (IsCondition (types input) condition × IsWellFormed input)
  pub join : (left right : Node) (kind : JoinKind) (condition : Option TypedExpr)
      → IsWellFormed (Join left right kind condition) ↔ (IfSome condition (IsCondition (types left ++ types right)) × IsWellFormed left × IsWellFormed right)
  pub set_op : (left right : Node) (kind : SetKind) (all : Bool) → IsWellFormed (SetOp left right kind all) ↔ ((types left ≡ types right) × IsWellFormed left × IsWellFormed right)
  pub aggregate : (input : Node) (keys : List TypedExpr) (calls : List AggregateCall) (items : List TypedExpr)
      → IsWellFormed (Aggregate input keys calls items) ↔ (IsAggregation (types input) keys calls items × IsWellFormed input)
  pub distinct_on : (input : Node) (columns : List ℕ) → IsWellFormed (DistinctOn input columns) ↔ (All (λ column. column < length (types input)) columns × IsWellFormed input)
  pub sort : (input : Node) (keys : List SortKey) → IsWellFormed (Sort input keys) ↔ (All (λ key. IsOver (types input) key.expr) keys × IsWellFormed input)
  pub slice : (input : Node) (skip : ℕ) (most : Option ℕ) → IsWellFormed (Slice input skip most) ↔ IsWellFormed input

-- an expression is well formed exactly where it meets its form's condition and its parts are well formed
pub record ConditionsOfForms : Type 0 where
  pub column : (columns : List DataType) (place : ℕ) (kind : DataType) → IsOver columns (Column place kind) ↔ (slice_get columns place ≡ Some kind)
  pub literal : (columns : List DataType) (value : Value) (kind : DataType) → IsOver columns (Literal value kind) ↔ HasType kind value
  pub call_form : (columns : List DataType) (function : Function) (arguments : List TypedExpr) (kind : DataType)
      → IsOver columns (Call function arguments kind) ↔ ((call_type function (kinds_of arguments) ≡ Some kind) × All (IsOver columns) arguments)
  pub cast : (columns : List DataType) (child : TypedExpr) (kind : DataType) → IsOver columns (Cast child kind) ↔ (IsTrue (can_cast (kind_of child) kind) × IsOver columns child)
