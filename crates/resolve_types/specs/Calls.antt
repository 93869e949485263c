-- What is checked of a call before its arguments, and an aggregate call with its type.
use Rattle.std.specs.Prelude.{ℕ, ◌&&◌, not, Bool, true, false, List, Option, Some, None, Ok, codes}
use Rattle.cn_types.specs.declared.value.DataType.{DataType}
use Rattle.plan_model.specs.declared.expression.TypedExpr.{TypedExpr}
use Rattle.plan_model.specs.declared.function.Function.{Function}
use Rattle.plan_model.specs.FunctionTypes.{aggregate_type}
use Rattle.plan_model.specs.NodeTypes.{kind_of}
use Rattle.resolve_names.specs.declared.error.ErrorName.TheVariants.{InvalidAggregate, UnresolvedRoutine, Unsupported, WrongNumArgs}
use Rattle.resolve_names.specs.Checks.{Checked, ◌>>=◌, or_refused, refused}
use Rattle.resolve_names.specs.Refusals.{Refusal, refusal}
use Rattle.resolve_functions.specs.Arguments.{is_aggregate, mismatch, takes, untyped}
use Rattle.resolve_functions.specs.FunctionNames.{function_named}

-- a test that must not hold
abbrev pub unless : Bool → Refusal → Checked (Unit {0})
unless true why = refused why
unless false why = Ok tt

abbrev pub is_count : Function → Bool
is_count Function.Count = true
is_count function = false

-- only `count` of values takes each different value once
abbrev pub may_be_distinct : Function → Bool → Bool
may_be_distinct function starred = is_count function && not starred

-- the function of a call, whose name is told in lower case: the name is that of a function; an aggregate stands where one is allowed; it may be
-- distinct where it is; the number of arguments is one that it takes
unfoldable pub called : List ℕ → Bool → Bool → Bool → ℕ → Checked Function
called name allowed distinct starred count = do
  function ← or_refused (refusal UnresolvedRoutine name) (function_named name)
  aggregate ← unless (is_aggregate function && not allowed) (refusal InvalidAggregate name)
  once ← unless (distinct && not (may_be_distinct function starred)) (refusal Unsupported (codes "option 0"))
  number ← unless (not (takes function count)) (refusal WrongNumArgs name)
  Ok function

-- the type of an aggregate of a typed argument
unfoldable pub aggregate_of : List ℕ → Function → Bool → Option TypedExpr → Checked DataType
aggregate_of name function distinct None = refused untyped
aggregate_of name function distinct (Some expr) = or_refused (mismatch name) (aggregate_type function distinct (Some (kind_of expr)))
