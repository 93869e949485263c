-- Whether values are a side's own columns, found by a walk.
use Rattle.std.proofs.Common.{◌≡◌, ℕ, suc, ◌+◌, ◌<◌, ◌≤◌, List, [], ◌∷◌, map, length, get_or, drop, sym, ap, ◌∙◌, add-one}
use Rattle.std.specs.Prelude.{◌&&◌, Bool, true, false}
use Rattle.std.proofs.Math.ListN.{drop_of_length-le}
use Rattle.plan_model.specs.declared.expression.TypedExpr.{TypedExpr}
use Rattle.resolve_names.specs.declared.scope.ColumnOf.{ColumnOf}
use Rattle.resolve_expressions.specs.Same.{all_same, same_expr}
use Rattle.resolve_expressions.proofs.Gathering.{drop_next}
use Rattle.resolve_relations.specs.Columns.{numbered_from}
use Rattle.resolve_sets.specs.Sets.{own_value}

module _ {I : Type 0} (values : List TypedExpr) (columns : List (ColumnOf I)) (at : ℕ) where
  abbrev whole_from : ℕ → Bool
  whole_from from = all_same (map same_expr (drop from values)) (numbered_from own_value from (drop from columns))

  -- the first of those that are left
  abbrev own_then : ColumnOf I → ℕ → List TypedExpr
  own_then column next = own_value at column ∷ numbered_from own_value next (drop (at + 1) columns)

  own-next : (column : ColumnOf I) → at < length columns → column ≡ get_or columns at column →
      numbered_from own_value at (drop at columns) ≡ own_then column (at + 1)
  own-next column inside has =
      ap (numbered_from own_value at) (drop_next columns at column inside)
      ∙ ap (λ (c : ColumnOf I). own_then c (suc at)) (sym has)
      ∙ ap (own_then column) (sym (add-one at))

  values-next : (value : TypedExpr) → at < length values → value ≡ get_or values at value →
      map same_expr (drop at values) ≡ same_expr value ∷ map same_expr (drop (at + 1) values)
  values-next value within is =
      ap (map same_expr) (drop_next values at value within)
      ∙ ap (λ (v : TypedExpr). same_expr v ∷ map same_expr (drop (at + 1) values)) (sym is)

  whole-next : (value : TypedExpr) (column : ColumnOf I) → at < length values → at < length columns → value ≡ get_or values at value →
      column ≡ get_or columns at column → whole_from at ≡ (same_expr value (own_value at column) && whole_from (at + 1))
  whole-next value column within inside is has =
      ap (λ tests. all_same tests (numbered_from own_value at (drop at columns))) (values-next value within is)
      ∙ ap (all_same (same_expr value ∷ map same_expr (drop (at + 1) values))) (own-next column inside has)

  pub whole_more : (value : TypedExpr) (column : ColumnOf I) → at < length values → at < length columns → value ≡ get_or values at value →
      column ≡ get_or columns at column → same_expr value (own_value at column) ≡ true → whole_from (at + 1) ≡ whole_from at
  whole_more value column within inside is has one =
      sym (whole-next value column within inside is has ∙ ap (λ (b : Bool). b && whole_from (at + 1)) one)

  pub whole_not : (value : TypedExpr) (column : ColumnOf I) → at < length values → at < length columns → value ≡ get_or values at value →
      column ≡ get_or columns at column → same_expr value (own_value at column) ≡ false → whole_from at ≡ false
  whole_not value column within inside is has other =
      whole-next value column within inside is has ∙ ap (λ (b : Bool). b && whole_from (at + 1)) other

  pub whole_short : (value : TypedExpr) → at < length values → value ≡ get_or values at value → length columns ≤ at → whole_from at ≡ false
  whole_short value within is past =
      ap (λ tests. all_same tests (numbered_from own_value at (drop at columns))) (values-next value within is)
      ∙ ap (λ (l : List (ColumnOf I)). all_same (same_expr value ∷ map same_expr (drop (at + 1) values)) (numbered_from own_value at l))
      (drop_of_length-le columns past)

  abbrev no_values : length values ≤ at → whole_from at ≡ all_same [] (numbered_from own_value at (drop at columns))
  no_values past =
      ap (λ (l : List TypedExpr). all_same (map same_expr l) (numbered_from own_value at (drop at columns))) (drop_of_length-le values past)

  pub whole_end : length values ≤ at → length columns ≤ at → whole_from at ≡ true
  whole_end past ends =
      no_values past ∙ ap (λ (l : List (ColumnOf I)). all_same [] (numbered_from own_value at l)) (drop_of_length-le columns ends)

  pub whole_long : (column : ColumnOf I) → length values ≤ at → at < length columns → whole_from at ≡ false
  whole_long column past more =
      no_values past ∙ ap (λ (l : List (ColumnOf I)). all_same [] (numbered_from own_value at l)) (drop_next columns at column more)

pub ruleset whole_steps = (whole_more, whole_not, whole_short, whole_end, whole_long)
