-- The grammar of steps, a line a production.
use Rattle.std.specs.Prelude.{if◌then◌else◌, [], ◌∷◌, Option, None}
use Rattle.plan_tokens.specs.declared.keyword.Keyword.TheVariants as word
use Rattle.plan_tokens.specs.declared.token.Sign.TheVariants as sign
use Rattle.plan_tokens.specs.declared.token.Token.{Token}
use Rattle.plan_grammar.specs.declared.symbol.Action.TheVariants as action
use Rattle.plan_grammar.specs.declared.symbol.Use.TheVariants as uses
use Rattle.plan_grammar.specs.declared.symbol.Part.TheVariants as parts
use Rattle.plan_grammar.specs.declared.symbol.Choice.TheVariants as choices
use Rattle.plan_grammar.specs.declared.symbol.StepAction.TheVariants as stepactions
use Rattle.plan_grammar.specs.declared.symbol.Test.TheVariants as test
use Rattle.plan_grammar.specs.declared.symbol.PipelineSymbol.TheVariants as pipelines
use Rattle.plan_grammar.specs.declared.symbol.StepSymbol.{StepSymbol}
use Rattle.plan_grammar.specs.declared.symbol.StepSymbol.TheVariants as steps
use Rattle.plan_grammar.specs.declared.symbol.ExpressionSymbol.TheVariants as expressions
use Rattle.plan_grammar.specs.Tests.{passes}
use Rattle.plan_grammar.specs.Productions.{Production, takes, goes, or_else, does, need, pipeline, step, expression}

-- the steps of columns
abbrev pub column_step_rule : Token → Option Production
column_step_rule token =
    if passes (test.Word word.Select) token then takes uses.Nothing (expression expressions.Item ∷ expression expressions.Items ∷ does (action.Step stepactions.Project) ∷ [])
    else (if passes (test.Word word.With) token then takes uses.Nothing (step steps.Assignment ∷ step steps.Assignments ∷ does (action.Step stepactions.WithColumns) ∷ [])
    else (if passes (test.Word word.Drop) token then takes uses.Nothing (pipeline pipelines.Name ∷ pipeline pipelines.Names ∷ does (action.Step stepactions.Drop) ∷ [])
    else (if passes (test.Word word.Rename) token then takes uses.Nothing (step steps.Renaming ∷ step steps.Renamings ∷ does (action.Step stepactions.Rename) ∷ [])
    else (if passes (test.Word word.Names) token then takes uses.Nothing (pipeline pipelines.Name ∷ pipeline pipelines.Names ∷ does (action.Step stepactions.ToDf) ∷ [])
    else None))))

-- the steps of rows, and names of relations
abbrev pub row_step_rule : Token → Option Production
row_step_rule token =
    if passes (test.Word word.Where) token then takes uses.Nothing (expression expressions.Expr ∷ does (action.Step stepactions.Filter) ∷ [])
    else (if passes (test.Word word.Sort) token then takes uses.Nothing (step steps.Key ∷ step steps.Keys ∷ does (action.Step stepactions.Sort) ∷ [])
    else (if passes (test.Word word.Limit) token then takes uses.Nothing (pipeline pipelines.Integer ∷ does (action.Step stepactions.Limit) ∷ [])
    else (if passes (test.Word word.Offset) token then takes uses.Nothing (pipeline pipelines.Integer ∷ does (action.Step stepactions.Offset) ∷ [])
    else (if passes (test.Word word.Distinct) token then takes uses.Nothing (step steps.DistinctNames ∷ [])
    else (if passes (test.Word word.Alias) token then takes uses.Nothing (pipeline pipelines.Name ∷ does (action.Step stepactions.SubqueryAlias) ∷ [])
    else (if passes (test.Word word.Id) token then takes uses.Nothing (pipeline pipelines.Long ∷ does (action.Step stepactions.PlanId) ∷ [])
    else None))))))

-- groups and joins
abbrev pub joining_step_rule : Token → Option Production
joining_step_rule token =
    if passes (test.Word word.Group) token then takes uses.Nothing (step steps.GroupKeys ∷ need (test.Word word.Agg) ∷ does (action.Part parts.GroupKeys) ∷ expression expressions.Item ∷ expression expressions.Items ∷ does (action.Step stepactions.Aggregate) ∷ [])
    else (if passes (test.Word word.Join) token then takes uses.Nothing (step steps.JoinKind ∷ pipeline pipelines.Nested ∷ step steps.JoinEnd ∷ [])
    else None)

-- the steps of sets
abbrev pub set_step_rule : Token → Option Production
set_step_rule token =
    if passes (test.Word word.Union) token then takes uses.Nothing (does (action.Choice choices.Union) ∷ step steps.All ∷ pipeline pipelines.Nested ∷ does (action.Step stepactions.SetOperation) ∷ [])
    else (if passes (test.Word word.Intersect) token then takes uses.Nothing (does (action.Choice choices.Intersect) ∷ step steps.All ∷ pipeline pipelines.Nested ∷ does (action.Step stepactions.SetOperation) ∷ [])
    else (if passes (test.Word word.Except) token then takes uses.Nothing (does (action.Choice choices.Except) ∷ step steps.All ∷ pipeline pipelines.Nested ∷ does (action.Step stepactions.SetOperation) ∷ [])
    else None))

-- the steps
abbrev pub any_step_rule : Token → Option Production
any_step_rule token = or_else (column_step_rule token) (or_else (row_step_rule token) (or_else (joining_step_rule token) (set_step_rule token)))

-- { "," name "=" expr }
abbrev pub assignments_rule : Token → Option Production
assignments_rule token =
    if passes (test.Sign sign.Comma) token then takes uses.Nothing (step steps.Assignment ∷ step steps.Assignments ∷ [])
    else goes []

-- { "," name "as" name }
abbrev pub renamings_rule : Token → Option Production
renamings_rule token =
    if passes (test.Sign sign.Comma) token then takes uses.Nothing (step steps.Renaming ∷ step steps.Renamings ∷ [])
    else goes []

-- { "," key }
abbrev pub keys_rule : Token → Option Production
keys_rule token =
    if passes (test.Sign sign.Comma) token then takes uses.Nothing (step steps.Key ∷ step steps.Keys ∷ [])
    else goes []

-- [ "asc" | "desc" ]
abbrev pub direction_rule : Token → Option Production
direction_rule token =
    if passes (test.Word word.Asc) token then takes uses.Nothing (does (action.Choice choices.Ascending) ∷ [])
    else (if passes (test.Word word.Desc) token then takes uses.Nothing (does (action.Choice choices.Descending) ∷ [])
    else goes (does (action.Choice choices.Ascending) ∷ []))

-- [ "nulls" ("first" | "last") ]
abbrev pub null_order_rule : Token → Option Production
null_order_rule token =
    if passes (test.Word word.Nulls) token then takes uses.Nothing (step steps.NullPlace ∷ [])
    else goes (does (action.Choice choices.NullsByDirection) ∷ [])

-- "first" | "last"
abbrev pub null_place_rule : Token → Option Production
null_place_rule token =
    if passes (test.Word word.First) token then takes uses.Nothing (does (action.Choice choices.NullsFirst) ∷ [])
    else (if passes (test.Word word.Last) token then takes uses.Nothing (does (action.Choice choices.NullsLast) ∷ [])
    else None)

-- [ "on" names ]
abbrev pub distinct_names_rule : Token → Option Production
distinct_names_rule token =
    if passes (test.Word word.On) token then takes uses.Nothing (pipeline pipelines.Name ∷ pipeline pipelines.Names ∷ does (action.Step stepactions.DeduplicateOn) ∷ [])
    else goes (does (action.Step stepactions.Deduplicate) ∷ [])

-- [ expr { "," expr } ], before "agg"
abbrev pub group_keys_rule : Token → Option Production
group_keys_rule token =
    if passes (test.Word word.Agg) token then goes []
    else goes (expression expressions.Expr ∷ expression expressions.Exprs ∷ [])

-- kind of a join
abbrev pub join_kind_rule : Token → Option Production
join_kind_rule token =
    if passes (test.Word word.Inner) token then takes uses.Nothing (does (action.Choice choices.InnerJoin) ∷ [])
    else (if passes (test.Word word.Full) token then takes uses.Nothing (does (action.Choice choices.FullJoin) ∷ [])
    else (if passes (test.Word word.Left) token then takes uses.Nothing (does (action.Choice choices.LeftJoin) ∷ [])
    else (if passes (test.Word word.Right) token then takes uses.Nothing (does (action.Choice choices.RightJoin) ∷ [])
    else (if passes (test.Word word.Anti) token then takes uses.Nothing (does (action.Choice choices.AntiJoin) ∷ [])
    else (if passes (test.Word word.Semi) token then takes uses.Nothing (does (action.Choice choices.SemiJoin) ∷ [])
    else (if passes (test.Word word.Cross) token then takes uses.Nothing (does (action.Choice choices.CrossJoin) ∷ [])
    else None))))))

-- [ "on" expr | "using" names ]
abbrev pub join_end_rule : Token → Option Production
join_end_rule token =
    if passes (test.Word word.On) token then takes uses.Nothing (expression expressions.Expr ∷ does (action.Step stepactions.JoinOn) ∷ [])
    else (if passes (test.Word word.Using) token then takes uses.Nothing (pipeline pipelines.Name ∷ pipeline pipelines.Names ∷ does (action.Step stepactions.JoinUsing) ∷ [])
    else goes (does (action.Step stepactions.JoinAll) ∷ []))

-- [ "all" ]
abbrev pub all_rule : Token → Option Production
all_rule token =
    if passes (test.Word word.All) token then takes uses.Nothing (does (action.Choice choices.All) ∷ [])
    else goes (does (action.Choice choices.NotAll) ∷ [])

abbrev pub step_rule : StepSymbol → Token → Option Production
step_rule steps.Step token = any_step_rule token
-- name "=" expr
step_rule steps.Assignment token = goes (pipeline pipelines.Name ∷ need (test.Sign sign.Equal) ∷ expression expressions.Expr ∷ does (action.Part parts.Assign) ∷ [])
step_rule steps.Assignments token = assignments_rule token
-- name "as" name
step_rule steps.Renaming token = goes (pipeline pipelines.Name ∷ need (test.Word word.As) ∷ pipeline pipelines.Name ∷ does (action.Part parts.Renaming) ∷ [])
step_rule steps.Renamings token = renamings_rule token
-- expr [ "asc" | "desc" ] [ "nulls" ("first" | "last") ]
step_rule steps.Key token = goes (expression expressions.Expr ∷ step steps.Direction ∷ step steps.NullOrder ∷ does (action.Part parts.Order) ∷ [])
step_rule steps.Keys token = keys_rule token
step_rule steps.Direction token = direction_rule token
step_rule steps.NullOrder token = null_order_rule token
step_rule steps.NullPlace token = null_place_rule token
step_rule steps.DistinctNames token = distinct_names_rule token
step_rule steps.GroupKeys token = group_keys_rule token
step_rule steps.JoinKind token = join_kind_rule token
step_rule steps.JoinEnd token = join_end_rule token
step_rule steps.All token = all_rule token
