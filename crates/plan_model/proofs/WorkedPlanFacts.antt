-- The outcomes of small plans.
use Rattle.std.proofs.Common.{◌≡◌, ◌+◌, min, ℕ, pos, negsuc, Bool, true, false, cond, Some, Ok, Err, List, [], ◌∷◌, map, filter, replicate, refl, sym, ap, ◌∙◌, subst, inr}
use Rattle.cn_types.specs.declared.row.Row.{Row}
use Rattle.cn_types.specs.declared.schema.Schema.{Schema}
use Rattle.cn_types.specs.declared.value.DataType.{DataType}
use Rattle.cn_types.specs.declared.value.Value.{Value}
use Rattle.cn_types.specs.declared.value.Value.TheVariants.{Null, Long}
use Rattle.cn_types.specs.Fit.{value_at}
use Rattle.cn_types.specs.Order.{count, row_eq}
use Rattle.plan_model.specs.declared.expression.TypedExpr.{TypedExpr}
use Rattle.plan_model.specs.declared.expression.TypedExpr.TheVariants.{Call}
use Rattle.plan_model.specs.declared.function.Function.{Function}
use Rattle.plan_model.specs.declared.node.AggregateCall.{AggregateCall}
use Rattle.plan_model.specs.declared.node.JoinKind.{JoinKind}
use Rattle.plan_model.specs.declared.node.Node.{Node}
use Rattle.plan_model.specs.declared.node.Node.TheVariants as V
use Rattle.plan_model.specs.declared.node.SetKind.{SetKind}
use Rattle.plan_model.specs.Aggregates.{aggregate_of, call_value}
use Rattle.plan_model.specs.Allows.{Allows, joining_of}
use Rattle.plan_model.specs.Counts.{SameCounts}
use Rattle.plan_model.specs.Functions.{call}
use Rattle.plan_model.specs.Groups.{aggregated, IsAggregate}
use Rattle.plan_model.specs.Joins.{Joining, beside, nulls, matches, joined, IsJoin}
use Rattle.plan_model.specs.OutcomeLaws.{AreAlike, IsNoChoice, IsDetermined}
use Rattle.plan_model.specs.NodeTypes.{types}
use Rattle.plan_model.specs.Outcomes.{Evaluated, Allowed, Bounded, After, limited, row_limit, weight_limit}
use Rattle.plan_model.specs.Selections.{image, projected}
use Rattle.plan_model.specs.SetOperations.{IsSetOperation}
use Rattle.plan_model.specs.Truth.{is_true}
use Rattle.plan_model.specs.Val.{val}
use Rattle.plan_model.specs.WorkedPlans.{row_with, key_field, given, seven, one, two, null, first, second, whole, sum_call, distinct_call, full_join, InAnyOrder, InThisOrder}
use Rattle.plan_model.proofs.AllowsFacts.{Allows-Rows, Allows-Project, Allows-Join, Allows-SetOp, Allows-Aggregate}
use Rattle.plan_model.proofs.Determined.{determined_outcomes_alike}
use Rattle.plan_model.proofs.NodeFacts.{made-Rows, made-Project, made-Join, made-SetOp, made-Aggregate}
use Rattle.plan_model.proofs.OutcomeFacts.{limited-SameCounts}
use Rattle.plan_model.proofs.RelationFacts.{no_values, all_pass, once_or_none}
use Rattle.plan_model.proofs.RowCounts.{copies_alone, map-order}
use Rattle.plan_model.proofs.ValueFacts.{values_of_forms}
use Rattle.plan_model.proofs.TypesFacts.{types-Rows}
use Rattle.plan_model.proofs.WorkedFacts.{worked_aggregates}

abbrev pub key_schema : Schema
key_schema = record { 0 = key_field ∷ [] }

pub given_allowed : (rows : List Row) → limited rows ≡ Ok rows → Allows (given rows) (Ok rows)
given_allowed rows e = subst (λ (Q : Allowed). Q (Ok rows)) (sym (Allows-Rows key_schema rows)) (rows, (λ row. refl), sym e)

pub given_determined : (rows : List Row) → IsDetermined (given rows)
given_determined rows = made-Rows IsNoChoice key_schema rows tt

-- ---- the only outcome

alike_rows : (rows : List Row) (outcome : Evaluated) → AreAlike outcome (Ok rows) → (list : List Row) × SameCounts list rows × (outcome ≡ Ok list)
alike_rows rows (Ok list) h = (list, h, refl)
alike_rows rows (Err error) h = absurd h

-- the rows of any allowed outcome, where one is known
rows_of : (node : Node) → IsDetermined node → (rows : List Row) → Allows node (Ok rows) → (outcome : Evaluated) → Allows node outcome → (list : List Row) × SameCounts list rows × (outcome ≡ Ok list)
rows_of node fixed rows known outcome h = alike_rows rows outcome (determined_outcomes_alike node fixed outcome (Ok rows) h known)

-- the outcomes are the rows in any order, where the relation allows these orders
pub in_any_order : (node : Node) (rows : List Row) → IsDetermined node → ((list : List Row) → SameCounts list rows → Allows node (Ok list)) → InAnyOrder node rows
in_any_order node rows fixed all outcome = (
  (λ h. rows_of node fixed rows (all rows (λ row. refl)) outcome h),
  λ t. subst (Allows node) (sym t.2) (all t.0 t.1),
)

-- copies of one row are the only outcome
only_copies : (node : Node) → IsDetermined node → (n : ℕ) (x : Row) → Allows node (Ok (replicate n x)) → InThisOrder node (replicate n x)
only_copies node fixed n x known outcome = (
  (λ h. let t = rows_of node fixed (replicate n x) known outcome h in t.2 ∙ ap (λ (list : List Row). Ok list) (copies_alone n x t.0 t.1)),
  λ e. subst (Allows node) (sym e) known,
)

-- ---- set operations

two_of_three : (b : Bool) → ◌≡◌ {A = ℕ} (0 + cond b 1 0 + cond b 1 0) (min (0 + cond b 1 0 + cond b 1 0 + cond b 1 0) (0 + cond b 1 0 + cond b 1 0))
two_of_three true = refl
two_of_three false = refl

one_of_two : (b : Bool) → ◌≡◌ {A = ℕ} (0 + cond b 1 0) (min ((0 + cond b 1 0) + (0 + cond b 1 0)) 1)
one_of_two true = refl
one_of_two false = refl

set_operation_allowed : (a b rows : List Row) (kind : SetKind) (all : Bool) → limited a ≡ Ok a → limited b ≡ Ok b → limited rows ≡ Ok rows → IsSetOperation kind all a b rows → Allows (V.SetOp (given a) (given b) kind all) (Ok rows)
set_operation_allowed a b rows kind all d e f is =
    let right : After (Allows (given b)) (λ bs. Bounded (IsSetOperation kind all a bs)) (Ok rows) = inr (b, given_allowed b e, (rows, is, sym f)) in
    let both : After (Allows (given a)) (λ as'. After (Allows (given b)) (λ bs. Bounded (IsSetOperation kind all as' bs))) (Ok rows) = inr (a, given_allowed a d, right) in
    subst (λ (Q : Allowed). Q (Ok rows)) (sym (Allows-SetOp (given a) (given b) kind all)) both

set_operation_determined : (a b : List Row) (kind : SetKind) (all : Bool) → IsDetermined (V.SetOp (given a) (given b) kind all)
set_operation_determined a b kind all = made-SetOp IsNoChoice (given a) (given b) kind all tt (given_determined a) (given_determined b)

pub intersect_all : InThisOrder (V.SetOp (given (seven ∷ seven ∷ seven ∷ [])) (given (seven ∷ seven ∷ [])) SetKind.Intersect true) (seven ∷ seven ∷ [])
unfolding row_limit weight_limit
intersect_all =
    only_copies (V.SetOp (given (seven ∷ seven ∷ seven ∷ [])) (given (seven ∷ seven ∷ [])) SetKind.Intersect true)
    (set_operation_determined (seven ∷ seven ∷ seven ∷ []) (seven ∷ seven ∷ []) SetKind.Intersect true) 2 seven
    (set_operation_allowed (seven ∷ seven ∷ seven ∷ []) (seven ∷ seven ∷ []) (seven ∷ seven ∷ []) SetKind.Intersect true refl refl refl (λ row. two_of_three (row_eq row seven)))

pub union_of_nulls : InThisOrder (V.SetOp (given (null ∷ [])) (given (null ∷ [])) SetKind.Union false) (null ∷ [])
unfolding row_limit weight_limit
union_of_nulls =
    only_copies (V.SetOp (given (null ∷ [])) (given (null ∷ [])) SetKind.Union false) (set_operation_determined (null ∷ []) (null ∷ []) SetKind.Union false) 1 null
    (set_operation_allowed (null ∷ []) (null ∷ []) (null ∷ []) SetKind.Union false refl refl refl (λ row. one_of_two (row_eq row null)))

-- ---- aggregates of a whole column

firsts : (values : List Value) → map (λ row. val first row) (map row_with values) ≡ values
firsts [] = refl
firsts (value ∷ values) = ap (λ v. v ∷ map (λ row. val first row) (map row_with values)) (values_of_forms.column 0 DataType.Long (row_with value)) ∙ ap (λ vs. value ∷ vs) (firsts values)

whole_group : (rows : List Row) → filter (λ row. row_eq no_values (image [] row)) rows ≡ rows
whole_group rows = all_pass (λ row. row_eq no_values (image [] row)) rows (λ row. refl)

whole_row : (c : AggregateCall) (rows : List Row) (value : Value) → call_value c rows ≡ value → aggregated [] (c ∷ []) (first ∷ []) rows no_values ≡ row_with value
whole_row c rows value e =
    ap row_with (values_of_forms.column 0 DataType.Long (row_with (call_value c (filter (λ row. row_eq no_values (image [] row)) rows))) ∙ ap (call_value c) (whole_group rows) ∙ e)

whole_allowed : (c : AggregateCall) (rows : List Row) (value : Value) → limited rows ≡ Ok rows → limited (row_with value ∷ []) ≡ Ok (row_with value ∷ []) → call_value c rows ≡ value → Allows (whole c rows) (Ok (row_with value ∷ []))
whole_allowed c rows value d e f =
    let is : IsAggregate [] (c ∷ []) (first ∷ []) rows (row_with value ∷ []) = record {
      different = no_values ∷ [];
      each_once = λ row. sym (once_or_none (row_eq row no_values));
      is = ap (λ (row : Row). row ∷ []) (sym (whole_row c rows value f));
    } in
    let all : After (Allows (given rows)) (λ a. Bounded (IsAggregate [] (c ∷ []) (first ∷ []) a)) (Ok (row_with value ∷ [])) = inr (rows, given_allowed rows d, (row_with value ∷ [], is, sym e)) in
    subst (λ (Q : Allowed). Q (Ok (row_with value ∷ []))) (sym (Allows-Aggregate (given rows) [] (c ∷ []) (first ∷ []))) all

only_whole : (c : AggregateCall) (rows : List Row) (value : Value) → limited rows ≡ Ok rows → limited (row_with value ∷ []) ≡ Ok (row_with value ∷ []) → call_value c rows ≡ value
    → InThisOrder (whole c rows) (row_with value ∷ [])
only_whole c rows value d e f =
    only_copies (whole c rows) (made-Aggregate IsNoChoice (given rows) [] (c ∷ []) (first ∷ []) tt (given_determined rows)) 1 (row_with value) (whole_allowed c rows value d e f)

pub wrapping_sum : InThisOrder (whole sum_call (row_with (Long (pos 9223372036854775807)) ∷ one ∷ [])) (row_with (Long (negsuc 9223372036854775807)) ∷ [])
unfolding row_limit weight_limit
wrapping_sum =
    only_whole sum_call (row_with (Long (pos 9223372036854775807)) ∷ one ∷ []) (Long (negsuc 9223372036854775807)) refl refl
    (ap (aggregate_of Function.Sum false) (firsts (Long (pos 9223372036854775807) ∷ Long (pos 1) ∷ [])) ∙ worked_aggregates.sum_of_longs_wraps)

two_copies : aggregate_of Function.Count true (Long (pos 1) ∷ Long (pos 1) ∷ Null ∷ []) ≡ Long (pos 1)
unfolding aggregate_of
two_copies = refl

pub distinct_count : InThisOrder (whole distinct_call (one ∷ one ∷ null ∷ [])) (one ∷ [])
unfolding row_limit weight_limit
distinct_count =
    only_whole distinct_call (one ∷ one ∷ null ∷ []) (Long (pos 1)) refl refl (ap (aggregate_of Function.Count true) (firsts (Long (pos 1) ∷ Long (pos 1) ∷ Null ∷ [])) ∙ two_copies)

-- ---- the full join

abbrev coalesced : TypedExpr
coalesced = Call Function.Coalesce (first ∷ second ∷ []) DataType.Long

abbrev same_keys : TypedExpr
same_keys = Call Function.EqualTo (first ∷ second ∷ []) DataType.Boolean

-- a function of both columns
pub val_pair : (function : Function) (kind : DataType) (row : Row) → val (Call function (first ∷ second ∷ []) kind) row ≡ call function kind (value_at 0 row ∷ value_at 1 row ∷ [])
val_pair function kind row =
    values_of_forms.call_form function (first ∷ second ∷ []) kind row
    ∙ ap (λ (v : Value). call function kind (v ∷ val second row ∷ [])) (values_of_forms.column 0 DataType.Long row)
    ∙ ap (λ (v : Value). call function kind (value_at 0 row ∷ v ∷ [])) (values_of_forms.column 1 DataType.Long row)

full_of_none : (matching : Row → Row → Bool) (left_nulls right_nulls a c b d : Row) → matching a b ≡ false → matching a d ≡ false → matching c b ≡ false → matching c d ≡ false
    → joined JoinKind.Full (record { matching = matching; left_nulls = left_nulls; right_nulls = right_nulls }) (a ∷ c ∷ []) (b ∷ d ∷ [])
    ≡ beside a right_nulls ∷ beside c right_nulls ∷ beside left_nulls b ∷ beside left_nulls d ∷ []
full_of_none matching left_nulls right_nulls a c b d e f g h = rw (e, f, g, h)

abbrev left_rows : List Row
left_rows = one ∷ null ∷ []

abbrev right_rows : List Row
right_rows = null ∷ two ∷ []

abbrev joined_rows : List Row
joined_rows = beside one null ∷ beside null null ∷ beside null null ∷ beside null two ∷ []

abbrev key_rows : List Row
key_rows = one ∷ null ∷ null ∷ two ∷ []

abbrev by_key : Joining
by_key = joining_of (Some same_keys) (given left_rows) (given right_rows)

abbrev join_node : Node
join_node = V.Join (given left_rows) (given right_rows) JoinKind.Full (Some same_keys)

pub nulls_of : (rows : List Row) → nulls (types (given rows)) ≡ null
nulls_of rows = ap nulls (types-Rows key_schema rows)

matched : (left right : Row) → matches (Some same_keys) left right ≡ is_true (call Function.EqualTo DataType.Boolean (value_at 0 (beside left right) ∷ value_at 1 (beside left right) ∷ []))
matched left right = ap is_true (val_pair Function.EqualTo DataType.Boolean (beside left right))

joined_is : joined JoinKind.Full by_key left_rows right_rows ≡ joined_rows
unfolding call
joined_is =
    full_of_none (matches (Some same_keys)) (nulls (types (given left_rows))) (nulls (types (given right_rows))) one null null two
    (matched one null) (matched one two) (matched null null) (matched null two)
    ∙ ap (λ (nothing : Row). beside one nothing ∷ beside null nothing ∷ beside (nulls (types (given left_rows))) null ∷ beside (nulls (types (given left_rows))) two ∷ []) (nulls_of right_rows)
    ∙ ap (λ (nothing : Row). beside one null ∷ beside null null ∷ beside nothing null ∷ beside nothing two ∷ []) (nulls_of left_rows)

image_is : (row : Row) (value : Value) → call Function.Coalesce DataType.Long (value_at 0 row ∷ value_at 1 row ∷ []) ≡ value → image (coalesced ∷ []) row ≡ row_with value
image_is row value e = ap row_with (val_pair Function.Coalesce DataType.Long row ∙ e)

images_are : projected (coalesced ∷ []) joined_rows ≡ key_rows
unfolding call
images_are = λ i.
    image_is (beside one null) (Long (pos 1)) refl i ∷ image_is (beside null null) Null refl i ∷ image_is (beside null null) Null refl i ∷ image_is (beside null two) (Long (pos 2)) refl i ∷ []

join_allowed : (rows : List Row) → SameCounts rows joined_rows → Allows join_node (Ok rows)
unfolding row_limit weight_limit
join_allowed rows h =
    let is : IsJoin JoinKind.Full by_key left_rows right_rows rows = λ row. h row ∙ ap (λ (list : List Row). count list row) (sym joined_is) in
    let right : After (Allows (given right_rows)) (λ b. Bounded (IsJoin JoinKind.Full by_key left_rows b)) (Ok rows) = inr (right_rows, given_allowed right_rows refl, (rows, is, sym (limited-SameCounts rows joined_rows h refl))) in
    let both : After (Allows (given left_rows)) (λ a. After (Allows (given right_rows)) (λ b. Bounded (IsJoin JoinKind.Full by_key a b))) (Ok rows) = inr (left_rows, given_allowed left_rows refl, right) in
    subst (λ (Q : Allowed). Q (Ok rows)) (sym (Allows-Join (given left_rows) (given right_rows) JoinKind.Full (Some same_keys))) both

keys_allowed : (rows : List Row) → SameCounts rows key_rows → Allows (full_join left_rows right_rows) (Ok rows)
unfolding row_limit weight_limit
keys_allowed rows h =
    let order = map-order (image (coalesced ∷ [])) joined_rows rows (λ row. h row ∙ ap (λ (list : List Row). count list row) (sym images_are)) in
    let all : After (Allows join_node) (λ a. Bounded (λ list. list ≡ projected (coalesced ∷ []) a)) (Ok rows) =
    inr (order.0, join_allowed order.0 order.1, (rows, sym order.2, sym (limited-SameCounts rows key_rows h refl))) in
    subst (λ (Q : Allowed). Q (Ok rows)) (sym (Allows-Project join_node (coalesced ∷ []))) all

full_determined : IsDetermined (full_join left_rows right_rows)
full_determined =
    made-Project IsNoChoice join_node (coalesced ∷ []) tt
    (made-Join IsNoChoice (given left_rows) (given right_rows) JoinKind.Full (Some same_keys) tt (given_determined left_rows) (given_determined right_rows))

pub full_keys : InAnyOrder (full_join left_rows right_rows) key_rows
full_keys = in_any_order (full_join left_rows right_rows) key_rows full_determined keys_allowed
