-- What the three-valued logic of SQL and its comparisons hold.
use Rattle.std.specs.Prelude.{◌≡◌, ◌≢◌, ◌↔◌, ℕ, ◌-◌, min, max, true, false}
use Rattle.cn_types.specs.declared.value.DataType.{DataType}
use Rattle.cn_types.specs.declared.value.Value.{Value}
use Rattle.cn_types.specs.declared.value.Value.TheVariants.{Null, Boolean}
use Rattle.cn_types.specs.Fit.{HasType}
use Rattle.cn_types.specs.Order.{value_eq}
use Rattle.plan_model.specs.Truth.{and_value, or_value, not_value}
use Rattle.plan_model.specs.Comparisons.{equal_to, equal_null_safe}

-- how true a value is: false, then not known, then true
abbrev pub truth : Value → ℕ
truth (Boolean false) = 0
truth (Boolean true) = 2
truth other = 1

-- the tables of `and`, `or` and `not` are Kleene's: the lesser truth, the greater, and the opposite
pub record TruthTables : Type 0 where
  pub and_least : (a b : Value) → truth (and_value a b) ≡ min (truth a) (truth b)
  pub or_greatest : (a b : Value) → truth (or_value a b) ≡ max (truth a) (truth b)
  pub not_opposite : (a : Value) → truth (not_value a) ≡ 2 - truth a

-- `and` and `or` are commutative
pub record TruthCommutes : Type 0 where
  pub and_commutes : (a b : Value) → and_value a b ≡ and_value b a
  pub or_commutes : (a b : Value) → or_value a b ≡ or_value b a

-- De Morgan's laws
pub record DeMorgan : Type 0 where
  pub not_and : (a b : Value) → not_value (and_value a b) ≡ or_value (not_value a) (not_value b)
  pub not_or : (a b : Value) → not_value (or_value a b) ≡ and_value (not_value a) (not_value b)

-- `=` is null where one side is null, and else, within a type, tells whether both are the same value
pub record EqualityTellsSameness : Type 0 where
  pub null_left : (b : Value) → equal_to Null b ≡ Null
  pub null_right : (a : Value) → equal_to a Null ≡ Null
  pub by_order : (kind : DataType) (a b : Value) → HasType kind a → HasType kind b → a ≢ Null → b ≢ Null → equal_to a b ≡ Boolean (value_eq a b)
  pub same : (kind : DataType) (a b : Value) → HasType kind a → HasType kind b → a ≢ Null → b ≢ Null → (equal_to a b ≡ Boolean true) ↔ (a ≡ b)

-- `<=>` is never null, and tells within a type whether both are the same value, null being the same as null
pub record NullSafeEqualityTellsSameness : Type 0 where
  pub never_null : (a b : Value) → equal_null_safe a b ≢ Null
  pub by_order : (kind : DataType) (a b : Value) → HasType kind a → HasType kind b → equal_null_safe a b ≡ Boolean (value_eq a b)
  pub same : (kind : DataType) (a b : Value) → HasType kind a → HasType kind b → (equal_null_safe a b ≡ Boolean true) ↔ (a ≡ b)
