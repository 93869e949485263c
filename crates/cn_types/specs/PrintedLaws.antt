-- What printed lines hold.
use Rattle.std.specs.Prelude.{◌≡◌, All}
use Rattle.cn_types.specs.declared.row.Row.{Row}
use Rattle.cn_types.specs.declared.schema.Schema.{Schema}
use Rattle.cn_types.specs.Fit.{Fits, HasBits}
use Rattle.cn_types.specs.Printed.{row_line}

-- two rows of one schema that are printed alike are the same
abbrev pub LinesTellRowsApart : Type 0
LinesTellRowsApart =
    (schema : Schema) (a b : Row) → Fits schema a → Fits schema b → All HasBits a.0 → All HasBits b.0
    → row_line a ≡ row_line b → a ≡ b
