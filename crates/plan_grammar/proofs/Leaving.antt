-- Symbols that may stand for nothing leave a token that ends them.
use Rattle.std.proofs.Common.{◌≡◌, true, [], ◌∷◌, refl}
use Rattle.cn_types.specs.declared.value.DataType.{DataType}
use Rattle.plan_grammar.specs.declared.symbol.Action.TheVariants as action
use Rattle.plan_grammar.specs.declared.symbol.Choice.TheVariants as choices
use Rattle.plan_grammar.specs.declared.symbol.UnitAction.TheVariants as unitactions
use Rattle.plan_grammar.specs.declared.symbol.StepAction.TheVariants as stepactions
use Rattle.plan_grammar.specs.declared.symbol.Symbol.TheVariants as symbol
use Rattle.plan_grammar.specs.declared.symbol.PipelineSymbol.TheVariants as pipelines
use Rattle.plan_grammar.specs.declared.symbol.StepSymbol.TheVariants as steps
use Rattle.plan_grammar.specs.declared.symbol.ExpressionSymbol.TheVariants as expressions
use Rattle.plan_grammar.specs.declared.symbol.UnitSymbol.TheVariants as units
use Rattle.plan_grammar.specs.declared.symbol.ValuesSymbol.TheVariants as valuess
use Rattle.plan_grammar.specs.Tests.{passes, is_same_word}
use Rattle.plan_grammar.specs.Productions.{does, expression}
use Rattle.plan_grammar.proofs.Stacks.{AtEnd, AtClose, AtAgg, AtAs}
use Rattle.plan_grammar.proofs.Ended.{Leaves, never}

pub leaves_finish : Leaves (symbol.Pipeline pipelines.Finish) []
unfolding passes is_same_word
leaves_finish wanted AtEnd needed = refl
leaves_finish wanted AtClose needed = refl
leaves_finish wanted AtAgg needed = refl
leaves_finish wanted AtAs needed = never needed

pub leaves_steps : Leaves (symbol.Pipeline pipelines.Steps) []
unfolding passes is_same_word
leaves_steps wanted AtEnd needed = refl
leaves_steps wanted AtClose needed = refl
leaves_steps wanted AtAgg needed = refl
leaves_steps wanted AtAs needed = never needed

pub leaves_names : Leaves (symbol.Pipeline pipelines.Names) []
unfolding passes is_same_word
leaves_names wanted AtEnd needed = refl
leaves_names wanted AtClose needed = refl
leaves_names wanted AtAgg needed = refl
leaves_names wanted AtAs needed = refl

pub leaves_assignments : Leaves (symbol.Step steps.Assignments) []
unfolding passes is_same_word
leaves_assignments wanted AtEnd needed = refl
leaves_assignments wanted AtClose needed = refl
leaves_assignments wanted AtAgg needed = refl
leaves_assignments wanted AtAs needed = refl

pub leaves_renamings : Leaves (symbol.Step steps.Renamings) []
unfolding passes is_same_word
leaves_renamings wanted AtEnd needed = refl
leaves_renamings wanted AtClose needed = refl
leaves_renamings wanted AtAgg needed = refl
leaves_renamings wanted AtAs needed = refl

pub leaves_keys : Leaves (symbol.Step steps.Keys) []
unfolding passes is_same_word
leaves_keys wanted AtEnd needed = refl
leaves_keys wanted AtClose needed = refl
leaves_keys wanted AtAgg needed = refl
leaves_keys wanted AtAs needed = refl

pub leaves_direction : Leaves (symbol.Step steps.Direction) (does (action.Choice choices.Ascending) ∷ [])
unfolding passes is_same_word
leaves_direction wanted AtEnd needed = refl
leaves_direction wanted AtClose needed = refl
leaves_direction wanted AtAgg needed = refl
leaves_direction wanted AtAs needed = refl

pub leaves_null_order : Leaves (symbol.Step steps.NullOrder) (does (action.Choice choices.NullsByDirection) ∷ [])
unfolding passes is_same_word
leaves_null_order wanted AtEnd needed = refl
leaves_null_order wanted AtClose needed = refl
leaves_null_order wanted AtAgg needed = refl
leaves_null_order wanted AtAs needed = refl

pub leaves_distinct_names : Leaves (symbol.Step steps.DistinctNames) (does (action.Step stepactions.Deduplicate) ∷ [])
unfolding passes is_same_word
leaves_distinct_names wanted AtEnd needed = refl
leaves_distinct_names wanted AtClose needed = refl
leaves_distinct_names wanted AtAgg needed = refl
leaves_distinct_names wanted AtAs needed = refl

pub leaves_join_end : Leaves (symbol.Step steps.JoinEnd) (does (action.Step stepactions.JoinAll) ∷ [])
unfolding passes is_same_word
leaves_join_end wanted AtEnd needed = refl
leaves_join_end wanted AtClose needed = refl
leaves_join_end wanted AtAgg needed = refl
leaves_join_end wanted AtAs needed = refl

pub leaves_group_keys : Leaves (symbol.Step steps.GroupKeys) []
unfolding passes is_same_word
leaves_group_keys wanted AtEnd needed = never needed
leaves_group_keys wanted AtClose needed = never needed
leaves_group_keys wanted AtAgg needed = refl
leaves_group_keys wanted AtAs needed = never needed

pub leaves_items : Leaves (symbol.Expression expressions.Items) []
unfolding passes is_same_word
leaves_items wanted AtEnd needed = refl
leaves_items wanted AtClose needed = refl
leaves_items wanted AtAgg needed = refl
leaves_items wanted AtAs needed = never needed

pub leaves_as : Leaves (symbol.Expression expressions.As) []
unfolding passes is_same_word
leaves_as wanted AtEnd needed = refl
leaves_as wanted AtClose needed = refl
leaves_as wanted AtAgg needed = refl
leaves_as wanted AtAs needed = never needed

pub leaves_ors : Leaves (symbol.Expression expressions.Ors) []
unfolding passes is_same_word
leaves_ors wanted AtEnd needed = refl
leaves_ors wanted AtClose needed = refl
leaves_ors wanted AtAgg needed = refl
leaves_ors wanted AtAs needed = refl

pub leaves_ands : Leaves (symbol.Expression expressions.Ands) []
unfolding passes is_same_word
leaves_ands wanted AtEnd needed = refl
leaves_ands wanted AtClose needed = refl
leaves_ands wanted AtAgg needed = refl
leaves_ands wanted AtAs needed = refl

pub leaves_comparison : Leaves (symbol.Expression expressions.Comparison) []
unfolding passes is_same_word
leaves_comparison wanted AtEnd needed = refl
leaves_comparison wanted AtClose needed = refl
leaves_comparison wanted AtAgg needed = refl
leaves_comparison wanted AtAs needed = refl

pub leaves_sums : Leaves (symbol.Expression expressions.Sums) []
unfolding passes is_same_word
leaves_sums wanted AtEnd needed = refl
leaves_sums wanted AtClose needed = refl
leaves_sums wanted AtAgg needed = refl
leaves_sums wanted AtAs needed = refl

pub leaves_products : Leaves (symbol.Expression expressions.Products) []
unfolding passes is_same_word
leaves_products wanted AtEnd needed = refl
leaves_products wanted AtClose needed = refl
leaves_products wanted AtAgg needed = refl
leaves_products wanted AtAs needed = refl

pub leaves_exprs : Leaves (symbol.Expression expressions.Exprs) []
unfolding passes is_same_word
leaves_exprs wanted AtEnd needed = refl
leaves_exprs wanted AtClose needed = refl
leaves_exprs wanted AtAgg needed = refl
leaves_exprs wanted AtAs needed = refl

pub leaves_item_name : Leaves (symbol.Expression expressions.ItemName) (does (action.Unit unitactions.Identifier) ∷ does (action.Unit unitactions.Attribute) ∷ expression expressions.Operators ∷ expression expressions.As ∷ [])
unfolding passes is_same_word
leaves_item_name wanted AtEnd needed = refl
leaves_item_name wanted AtClose needed = refl
leaves_item_name wanted AtAgg needed = refl
leaves_item_name wanted AtAs needed = never needed

pub leaves_unit_name : Leaves (symbol.Unit units.UnitName) (does (action.Unit unitactions.Identifier) ∷ does (action.Unit unitactions.Attribute) ∷ [])
unfolding passes is_same_word
leaves_unit_name wanted AtEnd needed = refl
leaves_unit_name wanted AtClose needed = refl
leaves_unit_name wanted AtAgg needed = refl
leaves_unit_name wanted AtAs needed = refl

pub leaves_parts : Leaves (symbol.Unit units.Parts) []
unfolding passes is_same_word
leaves_parts wanted AtEnd needed = refl
leaves_parts wanted AtClose needed = refl
leaves_parts wanted AtAgg needed = refl
leaves_parts wanted AtAs needed = refl

pub leaves_argument_list : Leaves (symbol.Unit units.ArgumentList) []
unfolding passes is_same_word
leaves_argument_list wanted AtEnd needed = never needed
leaves_argument_list wanted AtClose needed = refl
leaves_argument_list wanted AtAgg needed = never needed
leaves_argument_list wanted AtAs needed = never needed

pub leaves_values_columns : Leaves (symbol.Values valuess.Columns) []
unfolding passes is_same_word
leaves_values_columns wanted AtEnd needed = refl
leaves_values_columns wanted AtClose needed = refl
leaves_values_columns wanted AtAgg needed = refl
leaves_values_columns wanted AtAs needed = refl

pub leaves_values_rows : Leaves (symbol.Values valuess.Rows) []
unfolding passes is_same_word
leaves_values_rows wanted AtEnd needed = refl
leaves_values_rows wanted AtClose needed = refl
leaves_values_rows wanted AtAgg needed = refl
leaves_values_rows wanted AtAs needed = refl
