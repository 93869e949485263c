-- Plans that tests build are well formed.
use Rattle.std.proofs.Common.{◌≡◌, List, [], ◌∷◌, refl, sym, ap, ◌∙◌, subst}
use Rattle.std.specs.Prelude.{◌++◌, All, true, false, None, Some}
use Rattle.std.proofs.lemmas.List.Elements.{All-nil, All-cons}
use Rattle.cn_types.specs.declared.row.Row.{Row}
use Rattle.cn_types.specs.declared.schema.Schema.{Schema}
use Rattle.cn_types.specs.declared.value.DataType.{DataType}
use Rattle.cn_types.specs.Fit.{FitsTypes}
use Rattle.plan_model.specs.declared.expression.TypedExpr.{TypedExpr}
use Rattle.plan_model.specs.declared.expression.TypedExpr.TheVariants.{Column, Call}
use Rattle.plan_model.specs.declared.function.Function.{Function}
use Rattle.plan_model.specs.declared.node.AggregateCall.{AggregateCall}
use Rattle.plan_model.specs.declared.node.JoinKind.{JoinKind}
use Rattle.plan_model.specs.declared.node.Node.{Node}
use Rattle.plan_model.specs.declared.node.Node.TheVariants as V
use Rattle.plan_model.specs.declared.node.SetKind.{SetKind}
use Rattle.plan_model.specs.FunctionTypes.{call_type}
use Rattle.plan_model.specs.NodeTypes.{kinds_of, schema_types, types}
use Rattle.plan_model.specs.WellFormed.{IsFormOver, IsOver, IsCondition, IsAggregation, IsSound, IsWellFormed}
use Rattle.plan_model.proofs.ExpressionFacts.{made-Column, made-Call, kind_of-Column, kind_of-Call}
use Rattle.plan_model.proofs.NodeFacts.{made-Rows, made-Join, made-SetOp, made-Aggregate}
use Rattle.plan_model.proofs.TypesFacts.{types-Rows, types-Join, types-SetOp, types-Aggregate}

abbrev one : List DataType
one = DataType.Long ∷ []

abbrev two : List DataType
two = DataType.Long ∷ DataType.Long ∷ []

abbrev first : TypedExpr
first = Column 0 DataType.Long

abbrev second : TypedExpr
second = Column 1 DataType.Long

-- rows of one long under such a schema
pub rows_well_formed : (schema : Schema) (rows : List Row) → schema_types schema ≡ DataType.Long ∷ []
    → All (FitsTypes (DataType.Long ∷ [])) rows → IsWellFormed (V.Rows schema rows)
rows_well_formed schema rows kinds fit =
    made-Rows IsSound schema rows (subst (λ (ks : List DataType). All (FitsTypes ks) rows) (sym kinds) fit)

pub rows_kinds : (schema : Schema) (rows : List Row) → schema_types schema ≡ DataType.Long ∷ []
    → types (V.Rows schema rows) ≡ DataType.Long ∷ []
rows_kinds schema rows kinds = types-Rows schema rows ∙ kinds

-- the equality of two longs
pub equality_is_condition : IsCondition (DataType.Long ∷ DataType.Long ∷ [])
    (Call Function.EqualTo (Column 0 DataType.Long ∷ Column 1 DataType.Long ∷ []) DataType.Boolean)
unfolding call_type
equality_is_condition =
    let kinds : kinds_of (first ∷ second ∷ []) ≡ two = rw (kind_of-Column 0 DataType.Long, kind_of-Column 1 DataType.Long) refl in
    let here : call_type Function.EqualTo (kinds_of (first ∷ second ∷ [])) ≡ Some DataType.Boolean
    = ap (call_type Function.EqualTo) kinds in
    record {
      over = made-Call (IsFormOver two) Function.EqualTo (first ∷ second ∷ []) DataType.Boolean here
          (made-Column (IsFormOver two) 0 DataType.Long refl, (made-Column (IsFormOver two) 1 DataType.Long refl, tt));
      boolean = kind_of-Call Function.EqualTo (first ∷ second ∷ []) DataType.Boolean;
    }

pub join_well_formed : (left right : Node) (condition : TypedExpr) → types left ≡ DataType.Long ∷ [] → types right ≡ DataType.Long ∷ []
    → IsCondition (DataType.Long ∷ DataType.Long ∷ []) condition
    → IsWellFormed left → IsWellFormed right → IsWellFormed (V.Join left right JoinKind.Full (Some condition))
join_well_formed left right condition of_left of_right holds in_left in_right =
    let kinds : types left ++ types right ≡ two = rw (of_left, of_right) refl in
    made-Join IsSound left right JoinKind.Full (Some condition)
    (subst (λ (ks : List DataType). IsCondition ks condition) (sym kinds) holds) in_left in_right

pub join_kinds : (left right : Node) (condition : TypedExpr) → types left ≡ DataType.Long ∷ [] → types right ≡ DataType.Long ∷ []
    → types (V.Join left right JoinKind.Full (Some condition)) ≡ DataType.Long ∷ DataType.Long ∷ []
join_kinds left right condition of_left of_right =
    let kinds : types left ++ types right ≡ two = rw (of_left, of_right) refl in
    types-Join left right JoinKind.Full (Some condition) ∙ kinds

pub set_well_formed : (left right : Node) → types left ≡ DataType.Long ∷ [] → types right ≡ DataType.Long ∷ [] → IsWellFormed left
    → IsWellFormed right → IsWellFormed (V.SetOp left right SetKind.Except true)
set_well_formed left right of_left of_right in_left in_right =
    made-SetOp IsSound left right SetKind.Except true (of_left ∙ sym of_right) in_left in_right

pub set_kinds : (left right : Node) → types left ≡ DataType.Long ∷ [] → types (V.SetOp left right SetKind.Except true) ≡ DataType.Long ∷ []
set_kinds left right of_left = types-SetOp left right SetKind.Except true ∙ of_left

-- the rows of each value, counted
abbrev counted : AggregateCall
counted = record { function = Function.Count; argument = None; distinct = false }

aggregation : IsAggregation one (first ∷ []) (counted ∷ []) (first ∷ second ∷ [])
aggregation =
    let at_first : IsOver one first = made-Column (IsFormOver one) 0 DataType.Long refl in
    let kinds : kinds_of (first ∷ []) ++ one ≡ two = rw (kind_of-Column 0 DataType.Long) refl in
    let item : IsOver two first = made-Column (IsFormOver two) 0 DataType.Long refl in
    let other : IsOver two second = made-Column (IsFormOver two) 1 DataType.Long refl in
    record {
      keys_over = All-cons (IsOver one) first [] at_first (All-nil (IsOver one));
      call_types = one;
      calls_over = (record { argument = tt; taken = refl }, tt);
      items_over = subst (λ (ks : List DataType). All (IsOver ks) (first ∷ second ∷ [])) (sym kinds)
          (All-cons (IsOver two) first (second ∷ []) item (All-cons (IsOver two) second [] other (All-nil (IsOver two))));
    }

pub aggregate_well_formed : (input : Node) → types input ≡ DataType.Long ∷ [] → IsWellFormed input
    → IsWellFormed (V.Aggregate input (Column 0 DataType.Long ∷ [])
    (record { function = Function.Count; argument = None; distinct = false } ∷ [])
    (Column 0 DataType.Long ∷ Column 1 DataType.Long ∷ []))
aggregate_well_formed input of_input in_input =
    made-Aggregate IsSound input (first ∷ []) (counted ∷ []) (first ∷ second ∷ [])
    (subst (λ (ks : List DataType). IsAggregation ks (first ∷ []) (counted ∷ []) (first ∷ second ∷ [])) (sym of_input) aggregation)
    in_input

pub aggregate_kinds : (input : Node) (keys : List TypedExpr) (calls : List AggregateCall)
    → types (V.Aggregate input keys calls (Column 0 DataType.Long ∷ Column 1 DataType.Long ∷ [])) ≡ DataType.Long ∷ DataType.Long ∷ []
aggregate_kinds input keys calls =
    let kinds : kinds_of (first ∷ second ∷ []) ≡ two = rw (kind_of-Column 0 DataType.Long, kind_of-Column 1 DataType.Long) refl in
    types-Aggregate input keys calls (first ∷ second ∷ []) ∙ kinds
