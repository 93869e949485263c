-- How the rows of an answer are cut into batches. Rows stand by their weights here, and a batch by the index that follows its last row.
use Rattle.std.specs.Prelude.{ℕ, zero, suc, ◌+◌, ◌^◌, ◌<◌, ◌≤◌, ◌≡◌, ◌⊎◌, Bool, not, ◌==◌, ◌&&◌, ◌||◌, nat_lt, nat_le, if◌then◌else◌, max, List, [], ◌∷◌, length, take, drop, sum, slice_range}
use Rattle.std.specs.List.{position_or_len, range_with_len}

-- rows that a batch may hold: at most `max_rows` where that isn't 0, which weigh at most 1 MiB
pub record FitsBatch (max_rows : ℕ) (weights : List ℕ) : Type 0 where
  pub count : 0 < max_rows → length weights ≤ max_rows
  pub weight : sum weights ≤ 2 ^ 20

-- the batch that begins at `start`: the longest prefix of the remaining rows that a batch may hold, and at least one row
pub record IsBatch (max_rows : ℕ) (weights : List ℕ) (start end : ℕ) : Type 0 where
  pub some : start < end
  pub within : end ≤ length weights
  pub fits : (end ≡ start + 1) ⊎ FitsBatch max_rows (slice_range weights start end)
  pub longest : (longer : ℕ) → end < longer → longer ≤ length weights → FitsBatch max_rows (slice_range weights start longer) → ⊥

-- batches that follow one another, from `start` to the last row
abbrev pub AreBatches : ℕ → List ℕ → ℕ → List ℕ → Type 0
AreBatches max_rows weights start [] = start ≡ length weights
AreBatches max_rows weights start (end ∷ ends) = IsBatch max_rows weights start end × AreBatches max_rows weights end ends

-- the ends of the batches of all rows; no row gives one empty batch
abbrev pub IsCutting : ℕ → List ℕ → List ℕ → Type 0
IsCutting max_rows [] ends = ends ≡ 0 ∷ []
IsCutting max_rows (weight ∷ weights) ends = AreBatches max_rows (weight ∷ weights) 0 ends

-- whether a batch may hold these rows
abbrev pub fits_batch : ℕ → List ℕ → Bool
fits_batch max_rows weights = (max_rows == 0 || nat_le (length weights) max_rows) && nat_le (sum weights) (2 ^ 20)

-- how many rows the next batch has: those of the longest prefix that it may hold, and at least one
unfoldable pub batch_len : ℕ → List ℕ → ℕ
batch_len max_rows weights = max 1 (position_or_len (λ n. not (fits_batch max_rows (take n weights))) (range_with_len 1 (length weights)))

-- the ends of at most `count` batches from `start` on
abbrev pub ends_from : ℕ → List ℕ → ℕ → ℕ → List ℕ
ends_from max_rows weights start zero = []
ends_from max_rows weights start (suc count) =
    let end = start + batch_len max_rows (drop start weights) in
    if nat_lt start (length weights) then end ∷ ends_from max_rows weights end count else []

-- the one cutting of rows, as a function
unfoldable pub batch_ends : ℕ → List ℕ → List ℕ
batch_ends max_rows [] = 0 ∷ []
batch_ends max_rows (weight ∷ weights) = ends_from max_rows (weight ∷ weights) 0 (length (weight ∷ weights))

-- it is a cutting, and no other list of ends is one
abbrev pub BatchEndsAreTheCutting : Type 0
BatchEndsAreTheCutting = (max_rows : ℕ) (weights : List ℕ)
    → IsCutting max_rows weights (batch_ends max_rows weights)
    × ((ends : List ℕ) → IsCutting max_rows weights ends → ends ≡ batch_ends max_rows weights)
