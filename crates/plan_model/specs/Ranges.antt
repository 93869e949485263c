-- The rows of a range: each number from its start by its step before its end.
use Rattle.std.specs.Prelude.{◌≡◌, ℕ, zero, suc, ◌<◌, ℤ, pos, ◌+ℤ◌, ◌<ℤ◌, List, ◌∷◌, []}
use Rattle.cn_types.specs.declared.row.Row.{Row}
use Rattle.cn_types.specs.declared.value.Value.TheVariants.{Long}
use Rattle.cn_types.specs.Order.{count}

-- the number at a place: the start, and one step more at each place
abbrev pub number_at : ℤ → ℤ → ℕ → ℤ
number_at start step zero = start
number_at start step (suc place) = number_at start step place +ℤ step

-- before the end of a range that goes up where its step is above 0, and down where it is below
pub record IsBefore (step number end : ℤ) : Type 0 where
  pub rising : pos 0 <ℤ step → number <ℤ end
  pub falling : step <ℤ pos 0 → end <ℤ number

-- one of the range's numbers
pub record IsNumberOf (start end step number : ℤ) : Type 0 where
  pub place : ℕ
  pub is : number_at start step place ≡ number
  pub before : IsBefore step number end

-- the row of a number
abbrev pub row_of : ℤ → Row
row_of number = record { 0 = Long number ∷ [] }

-- a list that has the row of each number of the range once, and no other row
pub record IsRange (start end step : ℤ) (rows : List Row) : Type 0 where
  pub each : (number : ℤ) → IsNumberOf start end step number → count rows (row_of number) ≡ 1
  pub no_other : (row : Row) → 0 < count rows row → (number : ℤ) × IsNumberOf start end step number × (row ≡ row_of number)
