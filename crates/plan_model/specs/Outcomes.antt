-- What an evaluation ends in: rows, or the first error. A node has at most 4,194,304 rows, of which each weighs at most 8 MiB.
use Rattle.std.specs.Prelude.{◌≡◌, ℕ, nat_lt, Bool, if◌then◌else◌, List, length, Result, Ok, Err, ◌⊎◌}
use Rattle.std.specs.List.{list_any}
use Rattle.cn_types.specs.declared.row.Row.{Row}
use Rattle.cn_types.specs.Weight.{row_weight}

-- why there are no rows
pub data PlanError : Type 0 where
  TooManyRows RowTooLarge : PlanError

abbrev pub Evaluated : Type 0
Evaluated = Result (List Row) PlanError

-- which outcomes are allowed
abbrev pub Allowed : Type 1
Allowed = Evaluated → Type 0

-- the greatest number of rows, and the greatest weight of one in bytes
unfoldable pub row_limit : ℕ
row_limit = 4194304

unfoldable pub weight_limit : ℕ
weight_limit = 8388608

abbrev pub is_too_large : Row → Bool
is_too_large row = nat_lt weight_limit (row_weight row)

-- the rows, unless they are too many, or else one of them is too large
abbrev pub limited : List Row → Evaluated
limited rows = if nat_lt row_limit (length rows) then Err PlanError.TooManyRows else if list_any is_too_large rows then Err PlanError.RowTooLarge else Ok rows

-- of a node that has such a list: any of them, within the limits
abbrev pub Bounded : (List Row → Type 0) → Allowed
Bounded IsList outcome = (rows : List Row) × IsList rows × (outcome ≡ limited rows)

-- an error of the input; or what follows from one list that the input allows
abbrev pub After : Allowed → (List Row → Allowed) → Allowed
After input Next outcome = ((error : PlanError) × input (Err error) × (outcome ≡ Err error)) ⊎ ((rows : List Row) × input (Ok rows) × Next rows outcome)
