-- Lists of rows as multisets: how often each row stands in them.
use Rattle.std.specs.Prelude.{◌≡◌, ℕ, min, List}
use Rattle.cn_types.specs.declared.row.Row.{Row}
use Rattle.cn_types.specs.Order.{count}

-- the lists have each row equally often
abbrev pub SameCounts : List Row → List Row → Type 0
SameCounts xs ys = (row : Row) → count xs row ≡ count ys row

-- once where it is there at all
abbrev pub once : ℕ → ℕ
once copies = min copies 1

-- the first list has each row of the second once, and no other
abbrev pub HasEachOnce : List Row → List Row → Type 0
HasEachOnce different rows = (row : Row) → count different row ≡ once (count rows row)
