-- Columns that pass a test, as expressions and as ids, one by one.
use Rattle.std.proofs.Common.{◌≡◌, ℕ, suc, ◌+◌, ◌<◌, ◌≤◌, List, [], ◌∷◌, ◌++◌, map, length, get_or, drop, sym, ap, ◌∙◌, append_assoc, add-one}
use Rattle.std.proofs.Math.ListN.{drop_of_length-le}
use Rattle.std.proofs.lemmas.List.{append-nil}
use Rattle.std.specs.Prelude.{Bool, true, false, cond, filter}
use Rattle.plan_model.specs.declared.expression.TypedExpr.{TypedExpr}
use Rattle.plan_model.specs.declared.expression.TypedExpr.TheVariants as typed
use Rattle.resolve_names.specs.declared.scope.ColumnOf.{ColumnOf}
use Rattle.resolve_names.specs.Scopes.{is_named}
use Rattle.resolve_expressions.specs.Stars.{item_where, items_where}
use Rattle.resolve_expressions.proofs.Gathering.{drop_next}
use Rattle.resolve_relations.specs.Columns.{exprs_of}
use Rattle.resolve_relations.specs.Making.{ids_named}

module _ {I : Type 0} (passes : ColumnOf I → Bool) (columns : List (ColumnOf I)) (at : ℕ) (front : List TypedExpr) where
  abbrev from : ℕ → List TypedExpr
  from n = exprs_of (items_where passes n (drop n columns))

  abbrev headed : ColumnOf I → Bool → List TypedExpr
  headed column test = exprs_of (item_where test at column ++ items_where passes (at + 1) (drop (at + 1) columns))

  from-next : (column : ColumnOf I) → at < length columns → column ≡ get_or columns at column → from at ≡ headed column (passes column)
  from-next column within is =
      ap (λ (l : List (ColumnOf I)). exprs_of (items_where passes at l)) (drop_next columns at column within)
      ∙ ap (λ (c : ColumnOf I). exprs_of (item_where (passes c) at c ++ items_where passes (suc at) (drop (at + 1) columns))) (sym is)
      ∙ ap (λ (n : ℕ). exprs_of (item_where (passes column) at column ++ items_where passes n (drop (at + 1) columns))) (sym (add-one at))

  pub kept_one : (column : ColumnOf I) → at < length columns → column ≡ get_or columns at column → passes column ≡ true →
      (front ++ typed.Column at column.kind ∷ []) ++ from (at + 1) ≡ front ++ from at
  kept_one column within is passed =
      append_assoc front (typed.Column at column.kind ∷ []) (from (at + 1))
      ∙ ap (λ (l : List TypedExpr). front ++ l) (sym (from-next column within is ∙ ap (headed column) passed))

  pub left_one : (column : ColumnOf I) → at < length columns → column ≡ get_or columns at column → passes column ≡ false →
      front ++ from (at + 1) ≡ front ++ from at
  left_one column within is failed = ap (λ (l : List TypedExpr). front ++ l) (sym (from-next column within is ∙ ap (headed column) failed))

  pub kept_end : length columns ≤ at → front ++ from at ≡ front
  kept_end past = ap (λ (l : List (ColumnOf I)). front ++ exprs_of (items_where passes at l)) (drop_of_length-le columns past)
      ∙ append-nil front

pub ruleset kept_steps = (kept_one, left_one, kept_end)

-- ---- the ids of those that parts name

module _ {I : Type 0} (exact : Bool) (parts : List (List ℕ)) (columns : List (ColumnOf I)) (at : ℕ) (front : List I) where
  abbrev ids : ℕ → List I
  ids n = ids_named exact parts (drop n columns)

  abbrev with_one : ColumnOf I → Bool → List I
  with_one column test = map (λ c. c.id) (cond test (column ∷ filter (is_named exact parts) (drop (at + 1) columns))
      (filter (is_named exact parts) (drop (at + 1) columns)))

  ids-next : (column : ColumnOf I) → at < length columns → column ≡ get_or columns at column →
      ids at ≡ with_one column (is_named exact parts column)
  ids-next column within is =
      ap (ids_named exact parts) (drop_next columns at column within)
      ∙ ap (λ (c : ColumnOf I). with_one c (is_named exact parts c)) (sym is)

  pub id_named : (column : ColumnOf I) → at < length columns → column ≡ get_or columns at column → is_named exact parts column ≡ true →
      (front ++ column.id ∷ []) ++ ids (at + 1) ≡ front ++ ids at
  id_named column within is passed =
      append_assoc front (column.id ∷ []) (ids (at + 1))
      ∙ ap (λ (l : List I). front ++ l) (sym (ids-next column within is ∙ ap (with_one column) passed))

  pub id_left : (column : ColumnOf I) → at < length columns → column ≡ get_or columns at column → is_named exact parts column ≡ false →
      front ++ ids (at + 1) ≡ front ++ ids at
  id_left column within is failed = ap (λ (l : List I). front ++ l) (sym (ids-next column within is ∙ ap (with_one column) failed))

  pub id_end : length columns ≤ at → front ++ ids at ≡ front
  id_end past = ap (λ (l : List (ColumnOf I)). front ++ ids_named exact parts l) (drop_of_length-le columns past) ∙ append-nil front

pub ruleset id_steps = (id_named, id_left, id_end)
