-- A comparison of two values of one type is the order of values.
use Rattle.std.proofs.Common.{◌≡◌, ◌≢◌, ◌↔◌, ℕ, Bool, true, false, Some, refl, sym, ap, ◌∙◌, arith}
use Rattle.std.specs.declared.cmp.Ordering.{Ordering}
use Rattle.std.specs.declared.cmp.Ordering.TheVariants.{Less, Equal, Greater}
use Rattle.std.specs.Ordering.{is_eq, is_some_and}
use Rattle.cn_types.specs.declared.value.DataType.{DataType}
use Rattle.cn_types.specs.declared.value.Value.{Value}
use Rattle.cn_types.specs.declared.value.Value.TheVariants.{Null, Boolean, Integer, Long, Text, Date}
use Rattle.cn_types.specs.Fit.{HasType}
use Rattle.cn_types.specs.Order.{class_of, value_cmp, value_eq}
use Rattle.cn_types.specs.OrderLaws.{EqualValuesAreTheSame}
use Rattle.plan_model.specs.Comparisons.{comparison, judged, equal_to, is_not_distinct, equal_null_safe}
use Rattle.plan_model.specs.LogicLaws.{EqualityTellsSameness, NullSafeEqualityTellsSameness}

-- where the values of a type stand in the order
abbrev kind_class : DataType → ℕ
kind_class DataType.Boolean = 1
kind_class DataType.Integer = 2
kind_class DataType.Long = 3
kind_class DataType.Text = 4
kind_class DataType.Date = 5

class_of-kind : (kind : DataType) (v : Value) → HasType kind v → v ≢ Null → class_of v ≡ kind_class kind
class_of-kind kind Null h present = absurd (present refl)
class_of-kind DataType.Boolean (Boolean b) h present = refl
class_of-kind DataType.Integer (Integer n) h present = refl
class_of-kind DataType.Long (Long n) h present = refl
class_of-kind DataType.Text (Text t) h present = refl
class_of-kind DataType.Date (Date d) h present = refl
class_of-kind kind v h present = absurd h

by_class : (a b : Value) → class_of a ≡ class_of b → a ≢ Null → comparison a b ≡ Some (value_cmp a b)
by_class Null b e present = absurd (present refl)
by_class (Boolean a) (Boolean b) e present = refl
by_class (Integer a) (Integer b) e present = refl
by_class (Long a) (Long b) e present = refl
by_class (Text a) (Text b) e present = refl
by_class (Date a) (Date b) e present = refl
by_class a b e present = absurd (omega (arith, e))

pub comparison_in_type : (kind : DataType) (a b : Value) → HasType kind a → HasType kind b → a ≢ Null → b ≢ Null → comparison a b ≡ Some (value_cmp a b)
comparison_in_type kind a b p q m n = by_class a b (class_of-kind kind a p m ∙ sym (class_of-kind kind b q n)) m

pub is_eq-Equal : (o : Ordering) → is_eq o ≡ true → o ≡ Equal
is_eq-Equal Less e = cc
is_eq-Equal Equal e = refl
is_eq-Equal Greater e = cc

pub Boolean-true : (b : Bool) → Boolean b ≡ Boolean true → b ≡ true
Boolean-true true e = refl
Boolean-true false e = cc

-- a value that says whether two values are the same is true exactly where they are
tells : EqualValuesAreTheSame → (a b : Value) (told : Value) → told ≡ Boolean (value_eq a b) → (told ≡ Boolean true) ↔ (a ≡ b)
tells same a b told e = (
  (λ (h : told ≡ Boolean true). (same a b).0 (is_eq-Equal (value_cmp a b) (Boolean-true (value_eq a b) (sym e ∙ h)))),
  λ (h : a ≡ b). e ∙ ap (λ (o : Ordering). Boolean (is_eq o)) ((same a b).1 h),
)

pub equal_in_type : (kind : DataType) (a b : Value) → HasType kind a → HasType kind b → a ≢ Null → b ≢ Null → equal_to a b ≡ Boolean (value_eq a b)
equal_in_type kind a b p q m n = ap (judged is_eq) (comparison_in_type kind a b p q m n)

pub null_right : (a : Value) → equal_to a Null ≡ Null
null_right Null = refl
null_right (Boolean a) = refl
null_right (Integer a) = refl
null_right (Long a) = refl
null_right (Text a) = refl
null_right (Date a) = refl

pub equality : EqualValuesAreTheSame → EqualityTellsSameness
equality same = record {
  null_left = λ b. refl;
  null_right = null_right;
  by_order = equal_in_type;
  same = λ kind a b p q m n. tells same a b (equal_to a b) (equal_in_type kind a b p q m n);
}

pub not_distinct_in_type : (kind : DataType) (a b : Value) → HasType kind a → HasType kind b → is_not_distinct a b ≡ value_eq a b
not_distinct_in_type kind Null Null p q = refl
not_distinct_in_type kind Null (Boolean b) p q = refl
not_distinct_in_type kind Null (Integer b) p q = refl
not_distinct_in_type kind Null (Long b) p q = refl
not_distinct_in_type kind Null (Text b) p q = refl
not_distinct_in_type kind Null (Date b) p q = refl
not_distinct_in_type kind (Boolean a) Null p q = refl
not_distinct_in_type kind (Integer a) Null p q = refl
not_distinct_in_type kind (Long a) Null p q = refl
not_distinct_in_type kind (Text a) Null p q = refl
not_distinct_in_type kind (Date a) Null p q = refl
not_distinct_in_type kind a b p q = ap (is_some_and is_eq) (comparison_in_type kind a b p q (λ (e : a ≡ Null). cc) (λ (e : b ≡ Null). cc))

pub null_safe_equality : EqualValuesAreTheSame → NullSafeEqualityTellsSameness
null_safe_equality same = record {
  never_null = λ a b (e : equal_null_safe a b ≡ Null). cc;
  by_order = λ kind a b p q. ap Boolean (not_distinct_in_type kind a b p q);
  same = λ kind a b p q. tells same a b (equal_null_safe a b) (ap Boolean (not_distinct_in_type kind a b p q));
}
