-- ORDER BY: rows in the order of the keys, where rows with the same keys stand in any order.
use Rattle.std.specs.Prelude.{◌≡◌, Bool, false, if◌then◌else◌, List, [], ◌∷◌, AllPairs, IsPermutation}
use Rattle.std.specs.declared.cmp.Ordering.{Ordering}
use Rattle.std.specs.declared.cmp.Ordering.TheVariants.{Equal}
use Rattle.std.specs.Ordering.{is_lt, bool_cmp, ordering_then}
use Rattle.cn_types.specs.declared.row.Row.{Row}
use Rattle.cn_types.specs.declared.value.Value.{Value}
use Rattle.cn_types.specs.Order.{value_cmp}
use Rattle.plan_model.specs.declared.node.SortKey.{SortKey}
use Rattle.plan_model.specs.Truth.{is_present}
use Rattle.plan_model.specs.Val.{val}

-- nulls behind all other values, or before them
abbrev pub nulls_order : Bool → Value → Value → Ordering
nulls_order nulls_last a b = if nulls_last then bool_cmp (is_present b) (is_present a) else bool_cmp (is_present a) (is_present b)

-- the order of values, or the other way round
abbrev pub values_order : Bool → Value → Value → Ordering
values_order descending a b = if descending then value_cmp b a else value_cmp a b

-- two rows by one key
abbrev pub key_order : SortKey → Row → Row → Ordering
key_order key a b =
    ordering_then (nulls_order key.nulls_last (val key.expr a) (val key.expr b)) (values_order key.descending (val key.expr a) (val key.expr b))

-- two rows by the first key in which they differ
abbrev pub rows_order : List SortKey → Row → Row → Ordering
rows_order [] a b = Equal
rows_order (key ∷ keys) a b = ordering_then (key_order key a b) (rows_order keys a b)

-- no row stands before one with a smaller key
abbrev pub IsInOrder : List SortKey → List Row → Type 0
IsInOrder keys rows = AllPairs (λ earlier later. is_lt (rows_order keys later earlier) ≡ false) rows

-- a permutation of the rows that is in order
pub record IsSort (keys : List SortKey) (rows list : List Row) : Type 0 where
  pub permuted : IsPermutation rows list
  pub ordered : IsInOrder keys list
