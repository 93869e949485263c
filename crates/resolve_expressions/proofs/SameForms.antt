-- When an expression of each form is the same as another.
use Rattle.std.proofs.Common.{◌≡◌, ℕ, ◌+◌, ◌<◌, ◌≤◌, Bool, true, false, List, [], ◌∷◌, map, length, get_or, drop, refl, sym, ap, ◌∙◌, arith}
use Rattle.std.specs.Prelude.{◌&&◌}
use Rattle.std.proofs.Math.ListN.{drop_of_length-le}
use Rattle.cn_types.specs.declared.value.DataType.{DataType}
use Rattle.cn_types.specs.declared.value.Value.{Value}
use Rattle.plan_model.specs.declared.expression.TypedExpr.{TypedExpr}
use Rattle.plan_model.specs.declared.expression.TypedExpr.TheFolds.{fold-roll-TypedExpr}
use Rattle.plan_model.specs.declared.expression.TypedExpr.TheOpen as O
use Rattle.plan_model.specs.declared.expression.TypedExpr.TheVariants as V
use Rattle.plan_model.specs.declared.expression.TypedExpr.TheViews.{out-TypedExpr}
use Rattle.plan_model.specs.declared.function.Function.{Function}
use Rattle.resolve_expressions.specs.Same.{all_same, same_call, same_cast, same_column, same_expr, same_literal, same_step}
use Rattle.resolve_expressions.proofs.Gathering.{drop_next}

abbrev Test : Type 0
Test = TypedExpr → Bool

abbrev at_other : TypedExpr → Test → Bool
at_other other test = test other

module _ (other : TypedExpr) where
  pub same-Column : (place : ℕ) (kind : DataType) → same_expr (V.Column place kind) other ≡ same_column place kind (out-TypedExpr other)
  unfolding same_expr
  same-Column place kind =
      ap (λ e. same_expr e other) (sym (V.rolls-Column place kind)) ∙ ap (at_other other) (fold-roll-TypedExpr Test same_step (O.Column place kind))

  pub same-Literal : (value : Value) (kind : DataType) → same_expr (V.Literal value kind) other ≡ same_literal value kind (out-TypedExpr other)
  unfolding same_expr
  same-Literal value kind =
      ap (λ e. same_expr e other) (sym (V.rolls-Literal value kind)) ∙ ap (at_other other) (fold-roll-TypedExpr Test same_step (O.Literal value kind))

  pub same-Call : (function : Function) (arguments : List TypedExpr) (kind : DataType) →
      same_expr (V.Call function arguments kind) other ≡ same_call function (map same_expr arguments) kind (out-TypedExpr other)
  unfolding same_expr
  same-Call function arguments kind =
      ap (λ e. same_expr e other) (sym (V.rolls-Call function arguments kind)) ∙ ap (at_other other) (fold-roll-TypedExpr Test same_step (O.Call function arguments kind))

  pub same-Cast : (child : TypedExpr) (kind : DataType) → same_expr (V.Cast child kind) other ≡ same_cast (same_expr child) kind (out-TypedExpr other)
  unfolding same_expr
  same-Cast child kind =
      ap (λ e. same_expr e other) (sym (V.rolls-Cast child kind)) ∙ ap (at_other other) (fold-roll-TypedExpr Test same_step (O.Cast child kind))

pub ruleset same_forms = (same-Column, same-Literal, same-Call, same-Cast)

-- ---- lists, item by item

some_left : (zs : List TypedExpr) (n : ℕ) → n < length zs → all_same [] (drop n zs) ≡ false
some_left [] n more = absurd (omega arith)
some_left (z ∷ zs) n more = ap (all_same []) (drop_next (z ∷ zs) n z more)

module _ (xs ys : List TypedExpr) (at : ℕ) where
  abbrev same_from : ℕ → Bool
  same_from from = all_same (map same_expr (drop from xs)) (drop from ys)

  same-next : (x y : TypedExpr) → at < length xs → at < length ys → x ≡ get_or xs at x → y ≡ get_or ys at y →
      same_from at ≡ (same_expr x y && same_from (at + 1))
  same-next x y within inside is has =
      ap (λ (l : List TypedExpr). all_same (map same_expr l) (drop at ys)) (drop_next xs at x within)
      ∙ ap (all_same (same_expr (get_or xs at x) ∷ map same_expr (drop (at + 1) xs))) (drop_next ys at y inside)
      ∙ ap (λ (e : TypedExpr). same_expr e (get_or ys at y) && same_from (at + 1)) (sym is)
      ∙ ap (λ (e : TypedExpr). same_expr x e && same_from (at + 1)) (sym has)

  pub same_more : (x y : TypedExpr) → at < length xs → at < length ys → x ≡ get_or xs at x → y ≡ get_or ys at y → same_expr x y ≡ true →
      same_from (at + 1) ≡ same_from at
  same_more x y within inside is has one = sym (same-next x y within inside is has ∙ ap (λ (b : Bool). b && same_from (at + 1)) one)

  pub same_not : (x y : TypedExpr) → at < length xs → at < length ys → x ≡ get_or xs at x → y ≡ get_or ys at y → same_expr x y ≡ false → same_from at ≡ false
  same_not x y within inside is has other = same-next x y within inside is has ∙ ap (λ (b : Bool). b && same_from (at + 1)) other

  pub same_short : (x : TypedExpr) → at < length xs → length ys ≤ at → same_from at ≡ false
  same_short x within past =
      ap (λ (l : List TypedExpr). all_same (map same_expr l) (drop at ys)) (drop_next xs at x within)
      ∙ ap (all_same (same_expr (get_or xs at x) ∷ map same_expr (drop (at + 1) xs))) (drop_of_length-le ys past)

  pub same_end : length xs ≤ at → length ys ≤ at → same_from at ≡ true
  same_end past ends =
      ap (λ (l : List TypedExpr). all_same (map same_expr l) (drop at ys)) (drop_of_length-le xs past)
      ∙ ap (all_same []) (drop_of_length-le ys ends)

  pub same_long : length xs ≤ at → at < length ys → same_from at ≡ false
  same_long past more =
      ap (λ (l : List TypedExpr). all_same (map same_expr l) (drop at ys)) (drop_of_length-le xs past) ∙ some_left ys at more

pub ruleset same_steps = (same_more, same_not, same_short, same_end, same_long)
