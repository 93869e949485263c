-- What the order of values and the sameness of rows hold.
use Rattle.std.specs.Prelude.{◌≡◌, ◌↔◌, IsTrue}
use Rattle.std.specs.declared.cmp.Ordering.TheVariants.{Equal}
use Rattle.std.specs.Cmp.{IsTotalOrder}
use Rattle.cn_types.specs.declared.value.Value.{Value}
use Rattle.cn_types.specs.declared.row.Row.{Row}
use Rattle.cn_types.specs.Order.{value_cmp, row_cmp, row_eq}

-- the order of values is total
abbrev pub ValuesAreOrdered : Type 0
ValuesAreOrdered = IsTotalOrder value_cmp

-- values are equal in the order exactly where they are the same
abbrev pub EqualValuesAreTheSame : Type 0
EqualValuesAreTheSame = (a b : Value) → (value_cmp a b ≡ Equal) ↔ (a ≡ b)

-- the order of rows is total
abbrev pub RowsAreOrdered : Type 0
RowsAreOrdered = IsTotalOrder row_cmp

-- a row is counted exactly where it is the same row
abbrev pub EqualRowsAreTheSame : Type 0
EqualRowsAreTheSame = (a b : Row) → IsTrue (row_eq a b) ↔ (a ≡ b)
