-- The numbers of a range, from its start by its step before its end.
use Rattle.std.specs.Prelude.{◌≡◌, ℕ, zero, suc, ◌<◌, ℤ, pos, ◌+ℤ◌, ◌<ℤ◌, List, ◌∷◌, [], count_by}
use Rattle.std.specs.Ordering.{int_eq}
use Rattle.cn_types.specs.declared.row.Row.{Row}
use Rattle.cn_types.specs.declared.value.Value.TheVariants.{Long}

-- the number at a place: the start, and one step more at each place
abbrev pub number_at : ℤ → ℤ → ℕ → ℤ
number_at start step zero = start
number_at start step (suc place) = number_at start step place +ℤ step

-- before the end of a range that goes up where its step is above 0, and down where it is below
pub record IsBefore (step number end : ℤ) : Type 0 where
  pub rising : pos 0 <ℤ step → number <ℤ end
  pub falling : step <ℤ pos 0 → end <ℤ number

-- one of the range's numbers
pub record IsNumberOf (start end step number : ℤ) : Type 0 where
  pub place : ℕ
  pub is : number_at start step place ≡ number
  pub before : IsBefore step number end

-- how often a number stands in a list
abbrev pub count_of : ℤ → List ℤ → ℕ
count_of number numbers = count_by (λ other. int_eq other number) numbers

-- a list, in any order, that has each number of the range once and no other
pub record IsRange (start end step : ℤ) (numbers : List ℤ) : Type 0 where
  pub each : (number : ℤ) → IsNumberOf start end step number → count_of number numbers ≡ 1
  pub no_other : (number : ℤ) → 0 < count_of number numbers → IsNumberOf start end step number

-- the row of a number
abbrev pub row_of : ℤ → Row
row_of number = record { 0 = Long number ∷ [] }
