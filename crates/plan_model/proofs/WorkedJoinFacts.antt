-- The outcomes of small joins.
use Rattle.std.proofs.Common.{◌≡◌, Bool, true, false, Option, None, Some, Ok, List, [], ◌∷◌, refl, sym, ap, ◌∙◌, subst, inr}
use Rattle.cn_types.specs.declared.row.Row.{Row}
use Rattle.cn_types.specs.declared.value.DataType.{DataType}
use Rattle.cn_types.specs.Fit.{value_at}
use Rattle.cn_types.specs.Order.{count}
use Rattle.plan_model.specs.declared.expression.TypedExpr.{TypedExpr}
use Rattle.plan_model.specs.declared.expression.TypedExpr.TheVariants.{Call}
use Rattle.plan_model.specs.declared.function.Function.{Function}
use Rattle.plan_model.specs.declared.node.JoinKind.{JoinKind}
use Rattle.plan_model.specs.Allows.{Allows, joining_of}
use Rattle.plan_model.specs.Functions.{call}
use Rattle.plan_model.specs.Joins.{Joining, beside, nulls, matches, joined, IsJoin}
use Rattle.plan_model.specs.NodeTypes.{types}
use Rattle.plan_model.specs.OutcomeLaws.{IsNoChoice}
use Rattle.plan_model.specs.Outcomes.{Allowed, Bounded, After, limited, row_limit, weight_limit}
use Rattle.plan_model.specs.Truth.{is_true}
use Rattle.plan_model.specs.WorkedPlans.{given, one, two, null, first, second, InAnyOrder}
use Rattle.plan_model.specs.WorkedRelations.{equal, less, join_of, one_two, two_two, one_null, null_two, null_null, WorkedJoins}
use Rattle.plan_model.proofs.AllowsFacts.{Allows-Join}
use Rattle.plan_model.proofs.NodeFacts.{made-Join}
use Rattle.plan_model.proofs.OutcomeFacts.{limited-SameCounts}
use Rattle.plan_model.proofs.WorkedPlanFacts.{given_allowed, given_determined, in_any_order, val_pair, nulls_of}

-- a join of given rows has the rows of the definition in any order, and no other outcome
only_joined : (kind : JoinKind) (condition : Option TypedExpr) (left right rows : List Row) → limited left ≡ Ok left → limited right ≡ Ok right → limited rows ≡ Ok rows
    → joined kind (joining_of condition (given left) (given right)) left right ≡ rows → InAnyOrder (join_of kind condition left right) rows
only_joined kind condition left right rows d e f is =
    in_any_order (join_of kind condition left right) rows
    (made-Join IsNoChoice (given left) (given right) kind condition tt (given_determined left) (given_determined right))
    (λ list h.
    let joining = joining_of condition (given left) (given right) in
    let joins : IsJoin kind joining left right list = λ row. h row ∙ ap (λ (rs : List Row). count rs row) (sym is) in
    let behind : After (Allows (given right)) (λ b. Bounded (IsJoin kind joining left b)) (Ok list) = inr (right, given_allowed right e, (list, joins, sym (limited-SameCounts list rows h f))) in
    let both : After (Allows (given left)) (λ a. After (Allows (given right)) (λ b. Bounded (IsJoin kind joining a b))) (Ok list) = inr (left, given_allowed left d, behind) in
    subst (λ (Q : Allowed). Q (Ok list)) (sym (Allows-Join (given left) (given right) kind condition)) both)

-- a comparison of both columns, of two rows of one value
tested : (function : Function) (left right : Row)
    → matches (Some (Call function (first ∷ second ∷ []) DataType.Boolean)) left right ≡ is_true (call function DataType.Boolean (value_at 0 (beside left right) ∷ value_at 1 (beside left right) ∷ []))
tested function left right = ap is_true (val_pair function DataType.Boolean (beside left right))

module _ (m : Row → Row → Bool) (ln rn : Row) where
  by : Joining
  by = record { matching = m; left_nulls = ln; right_nulls = rn }

  left_rows : (a b c x y : Row) → m a x ≡ false → m a y ≡ false → m b x ≡ true → m b y ≡ true → m c x ≡ false → m c y ≡ false
      → joined JoinKind.Left by (a ∷ b ∷ c ∷ []) (x ∷ y ∷ []) ≡ beside b x ∷ beside b y ∷ beside a rn ∷ beside c rn ∷ []
  unfolding by
  left_rows a b c x y e f g h i j = rw (e, f, g, h, i, j)

  right_rows : (a x y : Row) → m a x ≡ true → m a y ≡ false → joined JoinKind.Right by (a ∷ []) (x ∷ y ∷ []) ≡ beside a x ∷ beside ln y ∷ []
  unfolding by
  right_rows a x y e f = rw (e, f)

  cross_rows : (a b x y : Row) → m a x ≡ false → m a y ≡ true → m b x ≡ false → m b y ≡ false → joined JoinKind.Cross by (a ∷ b ∷ []) (x ∷ y ∷ []) ≡ beside a y ∷ []
  unfolding by
  cross_rows a b x y e f g h = rw (e, f, g, h)

  semi_rows : (a b x y : Row) → m a x ≡ false → m a y ≡ false → m b x ≡ true → joined JoinKind.Semi by (a ∷ b ∷ []) (x ∷ y ∷ []) ≡ b ∷ []
  unfolding by
  semi_rows a b x y e f g = rw (e, f, g)

  anti_rows : (a b x y : Row) → m a x ≡ false → m a y ≡ false → m b x ≡ true → joined JoinKind.Anti by (a ∷ b ∷ []) (x ∷ y ∷ []) ≡ a ∷ []
  unfolding by
  anti_rows a b x y e f g = rw (e, f, g)

pub worked_joins : WorkedJoins
unfolding row_limit weight_limit call by
worked_joins = record {
  left = only_joined JoinKind.Left (Some equal) (one ∷ two ∷ null ∷ []) (two ∷ two ∷ []) (two_two ∷ two_two ∷ one_null ∷ null_null ∷ []) refl refl refl
      (left_rows (matches (Some equal)) (nulls (types (given (one ∷ two ∷ null ∷ [])))) (nulls (types (given (two ∷ two ∷ [])))) one two null two two
      (tested Function.EqualTo one two) (tested Function.EqualTo one two) (tested Function.EqualTo two two) (tested Function.EqualTo two two) (tested Function.EqualTo null two) (tested Function.EqualTo null two)
      ∙ ap (λ (nothing : Row). two_two ∷ two_two ∷ beside one nothing ∷ beside null nothing ∷ []) (nulls_of (two ∷ two ∷ [])));
  right = only_joined JoinKind.Right (Some less) (one ∷ []) (two ∷ one ∷ []) (one_two ∷ beside null one ∷ []) refl refl refl
      (right_rows (matches (Some less)) (nulls (types (given (one ∷ [])))) (nulls (types (given (two ∷ one ∷ [])))) one two one (tested Function.LessThan one two) (tested Function.LessThan one one)
      ∙ ap (λ (nothing : Row). one_two ∷ beside nothing one ∷ []) (nulls_of (one ∷ [])));
  each_pair = only_joined JoinKind.Inner None (one ∷ null ∷ []) (two ∷ []) (one_two ∷ null_two ∷ []) refl refl refl refl;
  cross = only_joined JoinKind.Cross (Some less) (one ∷ two ∷ []) (one ∷ two ∷ []) (one_two ∷ []) refl refl refl
      (cross_rows (matches (Some less)) (nulls (types (given (one ∷ two ∷ [])))) (nulls (types (given (one ∷ two ∷ [])))) one two one two
      (tested Function.LessThan one one) (tested Function.LessThan one two) (tested Function.LessThan two one) (tested Function.LessThan two two));
  semi = only_joined JoinKind.Semi (Some equal) (one ∷ two ∷ []) (two ∷ two ∷ []) (two ∷ []) refl refl refl
      (semi_rows (matches (Some equal)) (nulls (types (given (one ∷ two ∷ [])))) (nulls (types (given (two ∷ two ∷ [])))) one two two two
      (tested Function.EqualTo one two) (tested Function.EqualTo one two) (tested Function.EqualTo two two));
  anti = only_joined JoinKind.Anti (Some equal) (one ∷ two ∷ []) (two ∷ two ∷ []) (one ∷ []) refl refl refl
      (anti_rows (matches (Some equal)) (nulls (types (given (one ∷ two ∷ [])))) (nulls (types (given (two ∷ two ∷ [])))) one two two two
      (tested Function.EqualTo one two) (tested Function.EqualTo one two) (tested Function.EqualTo two two));
}
