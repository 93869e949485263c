-- The limits, both ways, and which error comes first.
use Rattle.std.proofs.Common.{◌≡◌, ◌↔◌, ◌<◌, ◌≤◌, ◌+◌, ◌-◌, ◌^◌, min, ℕ, Bool, true, false, nat_lt, if◌then◌else◌, Option, List, [], ◌∷◌, ◌++◌, length, replicate, Ok, Err, refl, sym, ap, ◌∙◌, subst, inl, inr, lit<, arith}
use Rattle.std.specs.List.{AllByRecursion, list_any}
use Rattle.std.proofs.lemmas.Bool.{lt-ltb, ltb-true, ltb-false, false_from_ne_true, or_from}
use Rattle.std.proofs.lemmas.List.{length-append, length-replicate}
use Rattle.std.proofs.lemmas.List.Elements.{All-from_recursion, recursion_from_All}
use Rattle.std.proofs.lemmas.List.Sums.{sum_by-cons}
use Rattle.cn_types.specs.declared.row.Row.{Row}
use Rattle.cn_types.specs.declared.value.Value.TheVariants.{Text}
use Rattle.cn_types.specs.Order.{count}
use Rattle.cn_types.specs.Weight.{weight_of, row_weight}
use Rattle.plan_model.specs.declared.expression.TypedExpr.{TypedExpr}
use Rattle.plan_model.specs.declared.node.JoinKind.{JoinKind}
use Rattle.plan_model.specs.declared.node.Node.{Node}
use Rattle.plan_model.specs.declared.node.Node.TheVariants as V
use Rattle.plan_model.specs.Allows.{Allows, joining_of}
use Rattle.plan_model.specs.Joins.{IsJoin}
use Rattle.plan_model.specs.LimitLaws.{RowsAreLimited, PlansAreLimited, FirstErrorsAreOfTheLeft}
use Rattle.plan_model.specs.OutcomeLaws.{IsDetermined}
use Rattle.plan_model.specs.Outcomes.{PlanError, Evaluated, Allowed, Bounded, After, limited, is_too_large, row_limit, weight_limit}
use Rattle.plan_model.specs.WorkedPlans.{given, one}
use Rattle.plan_model.proofs.AllowsFacts.{Allows-Rows, Allows-Join}
use Rattle.plan_model.proofs.Determined.{determined_outcomes_alike}
use Rattle.plan_model.proofs.JoinFacts.{in_first, some_of, some_from}
use Rattle.plan_model.proofs.OutcomeFacts.{limited_rows, within_limits}
use Rattle.plan_model.proofs.WorkedPlanFacts.{key_schema, given_determined}

-- ---- each answer of the limits

not_less : (a b : ℕ) → b ≤ a → nat_lt a b ≡ false
not_less a b h = false_from_ne_true (nat_lt a b) (λ e. absurd (omega (arith, ltb-true a b e)))

choice : Bool → Bool → List Row → Evaluated
choice many large rows = if many then Err PlanError.TooManyRows else if large then Err PlanError.RowTooLarge else Ok rows

many_where : (many large : Bool) (rows : List Row) → choice many large rows ≡ Err PlanError.TooManyRows → many ≡ true
unfolding choice
many_where true large rows e = refl
many_where false true rows e = cc
many_where false false rows e = cc

large_where : (many large : Bool) (rows : List Row) → choice many large rows ≡ Err PlanError.RowTooLarge → (many ≡ false) × (large ≡ true)
unfolding choice
large_where true large rows e = cc
large_where false true rows e = (refl, refl)
large_where false false rows e = cc

none_large : (rows : List Row) → AllByRecursion (λ row. row_weight row ≤ weight_limit) rows → list_any is_too_large rows ≡ false
none_large [] all = refl
none_large (row ∷ rows) all = or_from (is_too_large row) (list_any is_too_large rows) (not_less weight_limit (row_weight row) all.0) (none_large rows all.1)

module _ (rows : List Row) where
  is_within : length rows ≤ row_limit → AllByRecursion (λ row. row_weight row ≤ weight_limit) rows → limited rows ≡ Ok rows
  unfolding choice
  is_within few light = λ i. choice (not_less row_limit (length rows) few i) (none_large rows light i) rows

  is_many : row_limit < length rows → limited rows ≡ Err PlanError.TooManyRows
  unfolding choice
  is_many many = ap (λ (b : Bool). choice b (list_any is_too_large rows) rows) (lt-ltb row_limit (length rows) many)

  is_large : length rows ≤ row_limit → (row : Row) → 0 < count rows row → weight_limit < row_weight row → limited rows ≡ Err PlanError.RowTooLarge
  unfolding choice
  is_large few row among heavy = λ i. choice (not_less row_limit (length rows) few i) (some_from is_too_large rows row among (lt-ltb weight_limit (row_weight row) heavy) i) rows

  many_from : limited rows ≡ Err PlanError.TooManyRows → row_limit < length rows
  unfolding choice
  many_from e = ltb-true row_limit (length rows) (many_where (nat_lt row_limit (length rows)) (list_any is_too_large rows) rows e)

  large_from : limited rows ≡ Err PlanError.RowTooLarge → (length rows ≤ row_limit) × ((row : Row) × (0 < count rows row) × (weight_limit < row_weight row))
  unfolding choice
  large_from e =
      let parts = large_where (nat_lt row_limit (length rows)) (list_any is_too_large rows) rows e in
      let some = some_of is_too_large rows parts.1 in
      (ltb-false row_limit (length rows) parts.0, (some.0, some.1, ltb-true weight_limit (row_weight some.0) some.2))

pub rows_are_limited : RowsAreLimited
unfolding row_limit weight_limit
rows_are_limited = record {
  within = λ rows list. (
    (λ e.
        let same = limited_rows list rows (sym e) in
        let parts = within_limits rows (e ∙ ap (λ (rs : List Row). Ok rs) same) in
        (same, parts.0, All-from_recursion (λ row. row_weight row ≤ weight_limit) rows parts.1)),
    λ h. is_within rows h.1 (recursion_from_All (λ row. row_weight row ≤ weight_limit) rows h.2) ∙ ap (λ (rs : List Row). Ok rs) (sym h.0),
  );
  too_many = λ rows. (many_from rows, is_many rows);
  too_large = λ rows. (large_from rows, λ h. is_large rows h.0 h.1.0 h.1.1 h.1.2);
  too_many_so_far = λ front back many. is_many (front ++ back) (omega (arith, length-append front back));
}

pub plans_are_limited : PlansAreLimited
unfolding row_limit weight_limit
plans_are_limited = record {
  rows = λ plan schema rows. ((λ h. h), λ h. h);
  too_many = λ plan limit. ((λ h. h), λ h. h);
  too_large = λ plan limit. ((λ h. h), λ h. h);
}

-- ---- the first error

given_error : (rows : List Row) (error : PlanError) → limited rows ≡ Err error → Allows (given rows) (Err error)
given_error rows error e = subst (λ (Q : Allowed). Q (Err error)) (sym (Allows-Rows key_schema rows)) (rows, (λ row. refl), sym e)

only_error : (input : Node) (error : PlanError) → IsDetermined input → Allows input (Err error) → (Next : List Row → Allowed) (outcome : Evaluated) → After (Allows input) Next outcome → outcome ≡ Err error
only_error input error fixed known Next outcome (inl h) = h.2 ∙ ap (λ (e : PlanError). Err e) (determined_outcomes_alike input fixed (Err h.0) (Err error) h.1 known)
only_error input error fixed known Next outcome (inr h) = absurd (determined_outcomes_alike input fixed (Ok h.0) (Err error) h.1 known)

-- a join of which the left input fails
left_fails : (left right : List Row) (kind : JoinKind) (condition : Option TypedExpr) (error : PlanError) → limited left ≡ Err error
    → (outcome : Evaluated) → Allows (V.Join (given left) (given right) kind condition) outcome ↔ (outcome ≡ Err error)
left_fails left right kind condition error e outcome =
    let Next = λ (a : List Row). After (Allows (given right)) (λ b. Bounded (IsJoin kind (joining_of condition (given left) (given right)) a b)) in
    let is = Allows-Join (given left) (given right) kind condition in (
      (λ h. only_error (given left) error (given_determined left) (given_error left error e) Next outcome (subst (λ (Q : Allowed). Q outcome) is h)),
      λ f. subst (λ (Q : Allowed). Q outcome) (sym is) (inl (error, given_error left error e, f)),
    )

heavy_alone : (heavy : Row) → weight_limit < row_weight heavy → limited (heavy ∷ []) ≡ Err PlanError.RowTooLarge
unfolding row_limit
heavy_alone heavy h = is_large (heavy ∷ []) (omega arith) heavy (in_first heavy []) h

many_rows : ℕ → List Row
many_rows n = replicate n one

length-many_rows : (n : ℕ) → length (many_rows n) ≡ n
unfolding many_rows
length-many_rows n = length-replicate n one

heavy_row : ℕ → Row
heavy_row n = record { 0 = Text (replicate n 97) ∷ [] }

below_min : (m n k : ℕ) → k < m → k < n → k < min m n
below_min m n k p q = omega arith

heavy_row-weight : (n : ℕ) → row_weight (heavy_row n) ≡ min (4 + n + 0) (2 ^ 64 - 1)
unfolding heavy_row
heavy_row-weight n =
    ap (λ k. min k (2 ^ 64 - 1)) (sum_by-cons weight_of (Text (replicate n 97)) [])
    ∙ ap (λ k. min (4 + k + 0) (2 ^ 64 - 1)) (length-replicate n 97)

pub first_errors_are_of_the_left : FirstErrorsAreOfTheLeft
unfolding row_limit weight_limit
first_errors_are_of_the_left = record {
  many_first = λ kind condition many heavy h. left_fails many (heavy ∷ []) kind condition PlanError.TooManyRows (is_many many h.too_many);
  large_first = λ kind condition many heavy h. left_fails (heavy ∷ []) many kind condition PlanError.RowTooLarge (heavy_alone heavy h.too_large);
  there_are = (
    many_rows 4194305,
    heavy_row 8388605,
    record {
      too_many = subst (λ n. 4194304 < n) (sym (length-many_rows 4194305)) (lit< tt);
      too_large = subst (λ n. 8388608 < n) (sym (heavy_row-weight 8388605)) (lit< tt);
    },
  );
}
