-- How deep messages are nested in what is built: a line an action. A height is a number of 32 bits; the last one stands for those above it.
use Rattle.std.specs.Prelude.{ℕ, ◌+◌, max, true, false, if◌then◌else◌, List, [], ◌∷◌, map, reverse, is_some}
use Rattle.expression_messages.specs.declared.expression.Expr.{Expr}
use Rattle.expression_messages.specs.Depths.{largest, told, expr_depth, alias_depth, sort_order_depth}
use Rattle.plain_relations.specs.RenameMaps.{rename_map_of}
use Rattle.plain_relations.specs.Depths.{entries_depth}
use Rattle.relation_messages.specs.declared.relation.Relation.{Relation}
use Rattle.relation_messages.specs.Depths.{relation_depth}
use Rattle.plan_grammar.specs.declared.symbol.Action.{Action}
use Rattle.plan_grammar.specs.declared.symbol.Action.TheVariants as action
use Rattle.plan_grammar.specs.declared.symbol.UnitAction.{UnitAction}
use Rattle.plan_grammar.specs.declared.symbol.UnitAction.TheVariants as unit
use Rattle.plan_grammar.specs.declared.symbol.Part.{Part}
use Rattle.plan_grammar.specs.declared.symbol.Part.TheVariants as part
use Rattle.plan_grammar.specs.declared.symbol.StepAction.{StepAction}
use Rattle.plan_grammar.specs.declared.symbol.StepAction.TheVariants as step
use Rattle.plan_grammar.specs.declared.symbol.Use.{Use}
use Rattle.plan_grammar.specs.declared.symbol.Use.TheVariants as uses
use Rattle.plan_grammar.specs.declared.symbol.Deed.{Deed}
use Rattle.plan_grammar.specs.declared.symbol.Deed.TheVariants as deed
use Rattle.plan_text.specs.declared.draft.Draft.{Draft}
use Rattle.plan_text.specs.declared.heights.Heights.{Heights}
use Rattle.plan_text.specs.Piles.{top, rest}

-- ---- what a draft measures

abbrev pub expr_height : Expr → ℕ
expr_height one = told (expr_depth one)

abbrev pub relation_height : Relation → ℕ
relation_height one = told (relation_depth one)

abbrev pub heights_of : Draft → Heights
heights_of draft =
    record {
      expressions = map expr_height draft.expressions;
      outer = map (λ (before : List Expr). map expr_height before) draft.outer;
      keys = told (largest (map expr_depth draft.keys));
      aliases = told (largest (map alias_depth draft.aliases));
      orders = told (largest (map sort_order_depth draft.orders));
      renames = entries_depth (rename_map_of draft.renames).entries;
      relations = map relation_height draft.relations;
      written = is_some draft.write;
    }

-- ---- expressions

abbrev pub no_heights : Heights
no_heights = record { expressions = []; outer = []; keys = 0; aliases = 0; orders = 0; renames = 0; relations = []; written = false }

-- a message in which others are nested, and the message that holds it
abbrev pub above : ℕ → ℕ
above height = told (2 + height)

abbrev pub with_height : ℕ → Heights → Heights
with_height height heights = record heights { expressions = height ∷ heights.expressions }

-- the last expression, 2 where there is none
abbrev pub last_height : Heights → ℕ
last_height heights = top 2 heights.expressions

abbrev pub without_last : Heights → Heights
without_last heights = record heights { expressions = rest heights.expressions }

abbrev pub largest_height : Heights → ℕ
largest_height heights = largest (reverse heights.expressions)

abbrev pub without_all : Heights → Heights
without_all heights = record heights { expressions = [] }

abbrev pub over_last : Heights → Heights
over_last heights = with_height (above (last_height heights)) (without_last heights)

abbrev pub over_last_two : Heights → Heights
over_last_two heights = with_height (above (max (last_height (without_last heights)) (last_height heights))) (without_last (without_last heights))

-- a call's arguments are all expressions since its mark
abbrev pub over_all : Heights → Heights
over_all heights = record heights { expressions = above (largest_height heights) ∷ reverse (top [] heights.outer); outer = rest heights.outer }

abbrev pub unit_height : UnitAction → Heights → Heights
unit_height unit.True heights = with_height 2 heights
unit_height unit.False heights = with_height 2 heights
unit_height unit.Null heights = with_height 4 heights
unit_height unit.Cast heights = with_height (above (max (last_height heights) 2)) (without_last heights)
unit_height unit.Identifier heights = heights
unit_height unit.Attribute heights = with_height 2 heights
unit_height unit.AttributeOfPlan heights = with_height 2 heights
unit_height unit.Mark heights = record heights { outer = reverse heights.expressions ∷ heights.outer; expressions = [] }
unit_height unit.Call heights = over_all heights
unit_height unit.CallDistinct heights = over_all heights
unit_height unit.Star heights = with_height 2 heights
unit_height unit.StarOf heights = with_height 2 heights
unit_height unit.Alias heights = over_last heights

-- ---- parts of steps

abbrev pub part_height : Part → Heights → Heights
part_height part.Assign heights = record heights { aliases = max heights.aliases (told (1 + last_height heights)); expressions = rest heights.expressions }
part_height part.Order heights = record heights { orders = max heights.orders (told (1 + last_height heights)); expressions = rest heights.expressions }
part_height part.Renaming heights = record heights { renames = 1 }
part_height part.GroupKeys heights = record heights { keys = largest_height heights; expressions = [] }

-- ---- relations

abbrev pub with_relation_height : ℕ → Heights → Heights
with_relation_height height heights = record heights { relations = height ∷ heights.relations }

-- the relation so far becomes the input of a step, in which a message is nested besides
abbrev pub over_input : ℕ → Heights → Heights
over_input other heights = record heights { relations = above (max (top 2 heights.relations) other) ∷ rest heights.relations }

-- the last two relations become the inputs of a step
abbrev pub over_inputs : ℕ → Heights → Heights
over_inputs other heights =
    record heights { relations = above (max (max (top 2 (rest heights.relations)) (top 2 heights.relations)) other) ∷ rest (rest heights.relations) }

abbrev pub step_height : StepAction → Heights → Heights
step_height step.Range heights = with_relation_height 2 heights
step_height step.Read heights = with_relation_height 3 heights
step_height step.Values heights = with_relation_height 2 heights
step_height step.Filter heights = over_input (last_height heights) (without_last heights)
step_height step.Project heights = over_input (largest_height heights) (without_all heights)
step_height step.WithColumns heights = over_input heights.aliases (record heights { aliases = 0 })
step_height step.Drop heights = over_input 0 heights
step_height step.Rename heights = over_input heights.renames (record heights { renames = 0 })
step_height step.ToDf heights = over_input 0 heights
step_height step.SubqueryAlias heights = over_input 0 heights
step_height step.Sort heights = over_input heights.orders (record heights { orders = 0 })
step_height step.Limit heights = over_input 0 heights
step_height step.Offset heights = over_input 0 heights
step_height step.Aggregate heights = over_input (max heights.keys (largest_height heights)) (record heights { keys = 0; expressions = [] })
step_height step.SetOperation heights = over_inputs 0 heights
-- the message that holds a plan id is nested beside that of the relation
step_height step.PlanId heights = record heights { relations = max 2 (top 2 heights.relations) ∷ rest heights.relations }
step_height step.DeduplicateOn heights = over_input 0 heights
step_height step.Deduplicate heights = over_input 0 heights
step_height step.JoinOn heights = over_inputs (last_height heights) (without_last heights)
step_height step.JoinUsing heights = over_inputs 0 heights
step_height step.JoinAll heights = over_inputs 0 heights
step_height step.Write heights = record heights { written = true }
step_height step.Insert heights = record heights { written = true }

abbrev pub action_height : Action → Heights → Heights
action_height (action.Binary one) heights = over_last_two heights
action_height (action.Unary one) heights = over_last heights
action_height (action.Unit one) heights = unit_height one heights
action_height (action.Part one) heights = part_height one heights
action_height (action.Choice one) heights = heights
action_height (action.Step one) heights = step_height one heights
action_height (action.Kind one) heights = heights

-- ---- deeds

abbrev pub taken_height : Use → Heights → Heights
taken_height uses.IntegerLiteral heights = with_height 2 heights
taken_height uses.LongLiteral heights = with_height 2 heights
taken_height uses.NegativeIntegerLiteral heights = with_height 2 heights
taken_height uses.NegativeLongLiteral heights = with_height 2 heights
taken_height uses.Text heights = with_height 2 heights
taken_height uses.Date heights = with_height 2 heights
taken_height other heights = heights

abbrev pub deed_height : Deed → Heights → Heights
deed_height (deed.Take used token) heights = taken_height used heights
deed_height (deed.Act action) heights = action_height action heights
deed_height (deed.Column kind) heights = heights
deed_height deed.Row heights = heights

-- all deeds in their order
abbrev pub all_heights : List Deed → Heights → Heights
all_heights [] heights = heights
all_heights (one ∷ deeds) heights = all_heights deeds (deed_height one heights)

-- the plan, its own message among those that are nested
abbrev pub plan_height : Heights → ℕ
plan_height heights = if heights.written then told (3 + max (top 2 heights.relations) 1) else told (1 + top 2 heights.relations)
