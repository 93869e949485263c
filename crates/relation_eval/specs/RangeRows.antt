-- Whether a range goes on at a number.
use Rattle.std.specs.Prelude.{ℤ, pos, int_lt, Bool, if◌then◌else◌}

-- the number is before the end
abbrev pub goes_on : ℤ → ℤ → ℤ → Bool
goes_on step number end = if int_lt (pos 0) step then int_lt number end else int_lt end number
