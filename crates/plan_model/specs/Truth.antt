-- The three-valued logic of SQL: true, false, and null for what is not known.
use Rattle.std.specs.Prelude.{Bool, true, false, not}
use Rattle.cn_types.specs.declared.value.Value.{Value}
use Rattle.cn_types.specs.declared.value.Value.TheVariants.{Null, Boolean}

-- `and`: false where one is false, true where both are true, else null
abbrev pub and_value : Value → Value → Value
and_value (Boolean false) b = Boolean false
and_value a (Boolean false) = Boolean false
and_value (Boolean true) (Boolean true) = Boolean true
and_value a b = Null

-- `or`: true where one is true, false where both are false, else null
abbrev pub or_value : Value → Value → Value
or_value (Boolean true) b = Boolean true
or_value a (Boolean true) = Boolean true
or_value (Boolean false) (Boolean false) = Boolean false
or_value a b = Null

-- `not`: null of null
abbrev pub not_value : Value → Value
not_value (Boolean b) = Boolean (not b)
not_value other = Null

-- the value is true, as the condition of a filter, a join or a `when` has to be
abbrev pub is_true : Value → Bool
is_true (Boolean b) = b
is_true other = false

-- the value is not null
abbrev pub is_present : Value → Bool
is_present Null = false
is_present other = true

-- `isnull` and `isnotnull`
abbrev pub is_null : Value → Value
is_null value = Boolean (not (is_present value))

abbrev pub is_not_null : Value → Value
is_not_null value = Boolean (is_present value)
