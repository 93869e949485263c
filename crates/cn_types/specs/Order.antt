-- The order of values: null first, false before true, numbers by size, texts by their UTF-8 bytes.
use Rattle.std.specs.Prelude.{ℕ, Bool, List, count_by}
use Rattle.std.specs.declared.cmp.Ordering.{Ordering}
use Rattle.std.specs.Ordering.{nat_cmp, int_cmp, bool_cmp, is_eq}
use Rattle.std.specs.Cmp.Lexicographic.{slice_cmp}
use Rattle.cn_types.specs.declared.value.Value.{Value}
use Rattle.cn_types.specs.declared.value.Value.TheVariants.{Null, Boolean, Integer, Long, Text, Date}
use Rattle.cn_types.specs.declared.row.Row.{Row}

-- where a value's type stands: null comes first
abbrev pub class_of : Value → ℕ
class_of Null = 0
class_of (Boolean value) = 1
class_of (Integer value) = 2
class_of (Long value) = 3
class_of (Text value) = 4
class_of (Date value) = 5

-- the order of two values of one type, and of null and any other
abbrev pub value_cmp : Value → Value → Ordering
value_cmp (Boolean a) (Boolean b) = bool_cmp a b
value_cmp (Integer a) (Integer b) = int_cmp a b
value_cmp (Long a) (Long b) = int_cmp a b
value_cmp (Text a) (Text b) = slice_cmp nat_cmp a b
value_cmp (Date a) (Date b) = int_cmp a b
value_cmp a b = nat_cmp (class_of a) (class_of b)

-- rows by their first two values that differ
abbrev pub row_cmp : Row → Row → Ordering
row_cmp a b = slice_cmp value_cmp a.0 b.0

-- two values are the same, and null is the same as null
abbrev pub value_eq : Value → Value → Bool
value_eq a b = is_eq (value_cmp a b)

-- two rows are the same where all values are
abbrev pub row_eq : Row → Row → Bool
row_eq a b = is_eq (row_cmp a b)

-- how often a row stands in a list of rows
abbrev pub count : List Row → Row → ℕ
count rows row = count_by (row_eq row) rows
