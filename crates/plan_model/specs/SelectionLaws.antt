-- What projections, filters, slices, set operations and sorts hold of their rows.
use Rattle.std.specs.Prelude.{◌≡◌, ◌≢◌, ◌↔◌, ◌⊎◌, ℕ, ◌≤◌, ◌<◌, ◌+◌, min, true, false, None, Some, option_map, List, [], ◌∷◌, ◌++◌, slice_get}
use Rattle.std.specs.declared.cmp.Ordering.TheVariants.{Less, Equal, Greater}
use Rattle.cn_types.specs.declared.row.Row.{Row}
use Rattle.cn_types.specs.declared.value.Value.TheVariants.{Null, Boolean}
use Rattle.cn_types.specs.Order.{count, value_cmp}
use Rattle.plan_model.specs.declared.expression.TypedExpr.{TypedExpr}
use Rattle.plan_model.specs.declared.node.SetKind.{SetKind}
use Rattle.plan_model.specs.declared.node.SortKey.{SortKey}
use Rattle.plan_model.specs.Selections.{image, projected, selected, sliced}
use Rattle.plan_model.specs.SetOperations.{IsSetOperation}
use Rattle.plan_model.specs.Sorting.{key_order, rows_order}
use Rattle.plan_model.specs.Val.{val}

-- a filter has all copies of the rows of which the condition is true, in their order; a projection has each row's image in its place, with each
-- item's value in the item's place; a slice has the rows behind those that it skips, each in its place, up to those that it takes
pub record SelectionsKeepPlaces : Type 0 where
  pub filtered : (condition : TypedExpr) (rows : List Row) (row : Row) → val condition row ≡ Boolean true → count (selected condition rows) row ≡ count rows row
  pub left_out : (condition : TypedExpr) (rows : List Row) (row : Row) → val condition row ≢ Boolean true → count (selected condition rows) row ≡ 0
  pub in_order : (condition : TypedExpr) (xs ys : List Row) → selected condition (xs ++ ys) ≡ selected condition xs ++ selected condition ys
  pub projected_at : (items : List TypedExpr) (rows : List Row) (place : ℕ) → slice_get (projected items rows) place ≡ option_map (image items) (slice_get rows place)
  pub image_at : (items : List TypedExpr) (row : Row) (place : ℕ) → slice_get (image items row).0 place ≡ option_map (λ item. val item row) (slice_get items place)
  pub skipped_at : (skip : ℕ) (rows : List Row) (place : ℕ) → slice_get (sliced skip None rows) place ≡ slice_get rows (skip + place)
  pub taken_at : (skip most : ℕ) (rows : List Row) (place : ℕ) → place < most → slice_get (sliced skip (Some most) rows) place ≡ slice_get rows (skip + place)
  pub not_taken : (skip most : ℕ) (rows : List Row) (place : ℕ) → most ≤ place → slice_get (sliced skip (Some most) rows) place ≡ None

-- without ALL a row is in a union where it is in one of both, in an intersection where it is in both, and in an EXCEPT where it is in the left
-- alone; with ALL an intersection has the smaller number of copies, and an EXCEPT the copies of the left beyond those
pub record SetOperationsHoldTheirRows : Type 0 where
  pub union : (a b rows : List Row) → IsSetOperation SetKind.Union false a b rows → (row : Row) → (0 < count rows row) ↔ ((0 < count a row) ⊎ (0 < count b row))
  pub intersect : (a b rows : List Row) → IsSetOperation SetKind.Intersect false a b rows → (row : Row) → (0 < count rows row) ↔ ((0 < count a row) × (0 < count b row))
  pub except : (a b rows : List Row) → IsSetOperation SetKind.Except false a b rows → (row : Row) → (0 < count rows row) ↔ ((0 < count a row) × (count b row ≡ 0))
  pub intersect_all : (a b rows : List Row) → IsSetOperation SetKind.Intersect true a b rows → (row : Row) → count rows row ≡ min (count a row) (count b row)
  pub except_all : (a b rows : List Row) → IsSetOperation SetKind.Except true a b rows → (row : Row) → (count rows row + min (count a row) (count b row)) ≡ count a row

-- the first key in which two rows differ alone decides how they stand; a key puts nulls where it says, whether it descends or not, and other
-- values in their order or the other way round
pub record SortsGoByTheFirstKey : Type 0 where
  pub first_key : (key : SortKey) (keys : List SortKey) (x y : Row) → key_order key x y ≢ Equal → rows_order (key ∷ keys) x y ≡ key_order key x y
  pub next_keys : (key : SortKey) (keys : List SortKey) (x y : Row) → key_order key x y ≡ Equal → rows_order (key ∷ keys) x y ≡ rows_order keys x y
  pub no_key : (x y : Row) → rows_order [] x y ≡ Equal
  pub ascending : (key : SortKey) (x y : Row) → key.descending ≡ false → val key.expr x ≢ Null → val key.expr y ≢ Null → key_order key x y ≡ value_cmp (val key.expr x) (val key.expr y)
  pub descending : (key : SortKey) (x y : Row) → key.descending ≡ true → val key.expr x ≢ Null → val key.expr y ≢ Null → key_order key x y ≡ value_cmp (val key.expr y) (val key.expr x)
  pub null_before : (key : SortKey) (x y : Row) → key.nulls_last ≡ false → val key.expr x ≡ Null → val key.expr y ≢ Null → (key_order key x y ≡ Less) × (key_order key y x ≡ Greater)
  pub null_behind : (key : SortKey) (x y : Row) → key.nulls_last ≡ true → val key.expr x ≡ Null → val key.expr y ≢ Null → (key_order key x y ≡ Greater) × (key_order key y x ≡ Less)
  pub both_null : (key : SortKey) (x y : Row) → val key.expr x ≡ Null → val key.expr y ≡ Null → key_order key x y ≡ Equal
