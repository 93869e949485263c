-- Rows in the order of their values in columns, each with its place.
use Rattle.std.specs.Prelude.{◌≡◌, ℕ, zero, suc, Bool, List, [], ◌∷◌, map, filter}
use Rattle.std.specs.List.Sorted.{IsSortedBy}
use Rattle.std.specs.Ordering.{is_lt, is_le}
use Rattle.cn_types.specs.declared.row.Row.{Row}
use Rattle.cn_types.specs.Order.{row_cmp}
use Rattle.relation_eval.specs.declared.buckets.Buckets.{Buckets}
use Rattle.relation_eval.specs.declared.buckets.Placed.{Placed}
use Rattle.relation_eval.specs.Places.{Columns, key_by, has_key, places_of}

abbrev pub row_of_placed : Placed → Row
row_of_placed placed = placed.row.now

abbrev pub place_of : Placed → ℕ
place_of placed = placed.place

abbrev pub key_of : Columns → Placed → Row
key_of columns placed = key_by columns placed.row.now

-- the first stands before the second by its values
abbrev pub key_before : Columns → Placed → Placed → Bool
key_before columns a b = is_lt (row_cmp (key_of columns a) (key_of columns b))

-- the row's values stand before the key, or not behind it
abbrev pub is_below : Columns → Row → Placed → Bool
is_below columns key placed = is_lt (row_cmp (key_of columns placed) key)

abbrev pub is_not_above : Columns → Row → Placed → Bool
is_not_above columns key placed = is_le (row_cmp (key_of columns placed) key)

-- so many numbers from this one on
abbrev pub count_from : ℕ → ℕ → List ℕ
count_from first zero = []
count_from first (suc count) = first ∷ count_from (suc first) count

-- the entry has the key
abbrev pub is_entry_of : Columns → Row → Placed → Bool
is_entry_of columns key placed = has_key columns key placed.row.now

-- the entries are in the order of their values, and those of each key have the places of its rows, in order
pub record IsGrouped (buckets : Buckets) : Type 0 where
  pub placed : buckets.places.items ≡ map place_of buckets.entries.items
  pub sorted : IsSortedBy (key_before buckets.columns) buckets.entries.items
  pub grouped : (key : Row) → map place_of (filter (is_entry_of buckets.columns key) buckets.entries.items) ≡ places_of buckets.columns key buckets.rows.now
