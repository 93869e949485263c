-- What calls of functions hold, in the words of SQL.
use Rattle.std.specs.Prelude.{◌≡◌, ◌≢◌, ◌↔◌, ◌<◌, ℕ, ℤ, pos, neg_ℤ, ◌+ℤ◌, ◌-ℤ◌, ◌*ℤ◌, ◌≤ℤ◌, unsigned_abs, Bool, true, false, Some, List, [], ◌∷◌, ◌++◌, length, map, flat_map, replicate}
use Rattle.std.specs.declared.cmp.Ordering.{Ordering}
use Rattle.std.specs.List.{AllByRecursion}
use Rattle.std.specs.Ordering.{is_eq, is_ne, is_lt, is_le, is_gt, is_ge}
use Rattle.std.specs.Str.{all_scalars, encode_utf8_all}
use Rattle.cn_types.specs.declared.value.DataType.{DataType}
use Rattle.cn_types.specs.declared.value.Value.{Value}
use Rattle.cn_types.specs.declared.value.Value.TheVariants.{Null, Boolean, Integer, Text, Date}
use Rattle.cn_types.specs.Fit.{HasType, HaveTypes, IsDay}
use Rattle.cn_types.specs.Order.{value_cmp, value_eq}
use Rattle.plan_model.specs.declared.function.Function.{Function}
use Rattle.plan_model.specs.AggregateLaws.{IsOneOf}
use Rattle.plan_model.specs.Arithmetic.{number, wrapped_integer, wrapped_long}
use Rattle.plan_model.specs.Conditionals.{widened}
use Rattle.plan_model.specs.Functions.{call}
use Rattle.plan_model.specs.FunctionTypes.{common, call_type}
use Rattle.plan_model.specs.Truth.{is_true}

-- a call that the table of functions allows, over values of these types
pub record IsAllowedCall (function : Function) (kind : DataType) (values : List Value) : Type 0 where
  pub kinds : List DataType
  pub allowed : call_type function kinds ≡ Some kind
  pub typed : HaveTypes kinds values

-- ---- comparisons

-- the call tests how two values that are not null stand in the one order of values, an integer beside a long as that long
abbrev pub ComparesBy : Function → (Ordering → Bool) → Type 0
ComparesBy function test =
    (left right kind : DataType) (a b : Value) → common left right ≡ Some kind → HasType left a → HasType right b → a ≢ Null → b ≢ Null
    → call function DataType.Boolean (a ∷ b ∷ []) ≡ Boolean (test (value_cmp (widened kind a) (widened kind b)))

-- each comparison by its test; `<=>` tells whether both are the same value, null being the same as null
pub record ComparisonsFollowTheOrder : Type 0 where
  pub equal : ComparesBy Function.EqualTo is_eq
  pub not_equal : ComparesBy Function.NotEqualTo is_ne
  pub less : ComparesBy Function.LessThan is_lt
  pub at_most : ComparesBy Function.LessThanOrEqual is_le
  pub greater : ComparesBy Function.GreaterThan is_gt
  pub at_least : ComparesBy Function.GreaterThanOrEqual is_ge
  pub null_safe : (left right kind : DataType) (a b : Value) → common left right ≡ Some kind → HasType left a → HasType right b
      → call Function.EqualNullSafe DataType.Boolean (a ∷ b ∷ []) ≡ Boolean (value_eq (widened kind a) (widened kind b))

-- ---- numbers

-- a number in a type of numbers: it keeps its low 32, or 64, bits
abbrev pub wrapped_to : DataType → ℤ → Value
wrapped_to DataType.Integer n = wrapped_integer n
wrapped_to DataType.Long n = wrapped_long n
wrapped_to kind n = Null

-- two numbers in a call that the table allows
pub record AreNumbers (function : Function) (kind : DataType) (a b : Value) (m n : ℤ) : Type 0 where
  pub left : DataType
  pub right : DataType
  pub allowed : call_type function (left ∷ right ∷ []) ≡ Some kind
  pub left_typed : HasType left a
  pub right_typed : HasType right b
  pub left_is : number a ≡ Some m
  pub right_is : number b ≡ Some n

-- one number in such a call
pub record IsNumber (function : Function) (kind : DataType) (a : Value) (n : ℤ) : Type 0 where
  pub of_type : DataType
  pub allowed : call_type function (of_type ∷ []) ≡ Some kind
  pub typed : HasType of_type a
  pub is : number a ≡ Some n

-- the call gives the exact result of an operation on two numbers, wrapped to the type of the call
abbrev pub Computes : Function → (ℤ → ℤ → ℤ) → Type 0
Computes function operation =
    (kind : DataType) (a b : Value) (m n : ℤ) → AreNumbers function kind a b m n → call function kind (a ∷ b ∷ []) ≡ wrapped_to kind (operation m n)

-- the quotient and the rest of a division towards zero: the rest is smaller than the divisor, and on no other side of zero than the dividend
pub record IsDivision (dividend divisor quotient rest : ℤ) : Type 0 where
  pub adds_up : (quotient *ℤ divisor +ℤ rest) ≡ dividend
  pub small : unsigned_abs rest < unsigned_abs divisor
  pub not_below : pos 0 ≤ℤ dividend → pos 0 ≤ℤ rest
  pub not_above : dividend ≤ℤ pos 0 → rest ≤ℤ pos 0

pub record ArithmeticWraps : Type 0 where
  pub add : Computes Function.Add ◌+ℤ◌
  pub subtract : Computes Function.Subtract ◌-ℤ◌
  pub multiply : Computes Function.Multiply ◌*ℤ◌
  pub divide : (kind : DataType) (a b : Value) (m n : ℤ) → AreNumbers Function.IntegralDivide kind a b m n → n ≢ pos 0
      → (quotient rest : ℤ) × IsDivision m n quotient rest × (call Function.IntegralDivide kind (a ∷ b ∷ []) ≡ wrapped_to kind quotient)
  pub remainder : (kind : DataType) (a b : Value) (m n : ℤ) → AreNumbers Function.Remainder kind a b m n → n ≢ pos 0
      → (quotient rest : ℤ) × IsDivision m n quotient rest × (call Function.Remainder kind (a ∷ b ∷ []) ≡ wrapped_to kind rest)
  pub negative : (kind : DataType) (a : Value) (n : ℤ) → IsNumber Function.Negative kind a n → call Function.Negative kind (a ∷ []) ≡ wrapped_to kind (neg_ℤ n)
  pub absolute : (kind : DataType) (a : Value) (n : ℤ) → IsNumber Function.Abs kind a n → call Function.Abs kind (a ∷ []) ≡ wrapped_to kind (pos (unsigned_abs n))

-- ---- conditions and choices

-- conditions and values in turn
abbrev pub branches_of : List (Value × Value) → List Value
branches_of branches = flat_map (λ branch. branch.0 ∷ branch.1 ∷ []) branches

-- no condition is true
abbrev pub AreNotTrue : List (Value × Value) → Type 0
AreNotTrue branches = AllByRecursion (λ branch. is_true branch.0 ≡ false) branches

-- `when` gives the value behind the first true condition; where none is true the last value without a condition, else null
pub record WhenTakesTheFirst : Type 0 where
  pub first_true : (kind : DataType) (before : List (Value × Value)) (value : Value) (after : List Value) → AreNotTrue before
      → call Function.When kind (branches_of before ++ (Boolean true ∷ value ∷ after)) ≡ widened kind value
  pub otherwise : (kind : DataType) (branches : List (Value × Value)) (value : Value) → AreNotTrue branches → call Function.When kind (branches_of branches ++ (value ∷ [])) ≡ widened kind value
  pub nothing : (kind : DataType) (branches : List (Value × Value)) → AreNotTrue branches → call Function.When kind (branches_of branches) ≡ Null

-- `coalesce` gives the first value that is not null, and null where all are
pub record CoalesceTakesTheFirst : Type 0 where
  pub first_present : (kind : DataType) (nulls : ℕ) (value : Value) (after : List Value) → value ≢ Null → call Function.Coalesce kind (replicate nulls Null ++ (value ∷ after)) ≡ widened kind value
  pub nothing : (kind : DataType) (nulls : ℕ) → call Function.Coalesce kind (replicate nulls Null) ≡ Null

-- how two values compare by `=`
abbrev pub equals : Value → Value → Value
equals a b = call Function.EqualTo DataType.Boolean (a ∷ b ∷ [])

-- `in` is true where the value equals some of the others, false where it equals none of them, each time not null, and else null
pub record InTellsMembers : Type 0 where
  pub some : (value : Value) (others : List Value) → (call Function.In DataType.Boolean (value ∷ others) ≡ Boolean true) ↔ ((other : Value) × IsOneOf other others × (equals value other ≡ Boolean true))
  pub none : (value : Value) (others : List Value) → (call Function.In DataType.Boolean (value ∷ others) ≡ Boolean false) ↔ AllByRecursion (λ other. equals value other ≡ Boolean false) others
  pub otherwise : (value : Value) (others : List Value)
      → call Function.In DataType.Boolean (value ∷ others) ≢ Boolean true → call Function.In DataType.Boolean (value ∷ others) ≢ Boolean false → call Function.In DataType.Boolean (value ∷ others) ≡ Null

-- ---- texts and dates

-- `concat` is the texts one behind the other; `length` the number of characters that a text encodes, wrapped to an integer; `startswith`,
-- `endswith` and `contains` tell whether a text is made of the part and what stands behind it, before it, or around it
pub record TextsAreMadeOfParts : Type 0 where
  pub joined : (texts : List (List ℕ)) → call Function.Concat DataType.Text (map Text texts) ≡ Text (flat_map (λ text. text) texts)
  pub characters : (scalars : List ℕ) → all_scalars scalars ≡ true → call Function.Length DataType.Integer (Text (encode_utf8_all scalars) ∷ []) ≡ wrapped_integer (pos (length scalars))
  pub starts : (text part : List ℕ) → (call Function.StartsWith DataType.Boolean (Text text ∷ Text part ∷ []) ≡ Boolean true) ↔ ((after : List ℕ) × (text ≡ part ++ after))
  pub ends : (text part : List ℕ) → (call Function.EndsWith DataType.Boolean (Text text ∷ Text part ∷ []) ≡ Boolean true) ↔ ((before : List ℕ) × (text ≡ before ++ part))
  pub contains : (text part : List ℕ)
      → (call Function.Contains DataType.Boolean (Text text ∷ Text part ∷ []) ≡ Boolean true) ↔ ((before : List ℕ) × (after : List ℕ) × (text ≡ before ++ (part ++ after)))

-- a day that is in range moves by days to a day that is; `datediff` is the days from the second date to the first
pub record DaysMove : Type 0 where
  pub later : (day days : ℤ) → IsDay (day +ℤ days) → call Function.DateAdd DataType.Date (Date day ∷ Integer days ∷ []) ≡ Date (day +ℤ days)
  pub earlier : (day days : ℤ) → IsDay (day -ℤ days) → call Function.DateSub DataType.Date (Date day ∷ Integer days ∷ []) ≡ Date (day -ℤ days)
  pub between : (later earlier : ℤ) → call Function.DateDiff DataType.Integer (Date later ∷ Date earlier ∷ []) ≡ Integer (later -ℤ earlier)

-- ---- nulls

-- the functions of which a call may say something although an argument is null
abbrev pub treats_null : Function → Bool
treats_null Function.EqualNullSafe = true
treats_null Function.And = true
treats_null Function.Or = true
treats_null Function.IsNull = true
treats_null Function.IsNotNull = true
treats_null Function.Coalesce = true
treats_null Function.When = true
treats_null Function.In = true
treats_null other = false

-- why a call without a null argument is null: a division by zero, a day out of range, or a `when` of which no condition is true and that has
-- no last value
pub data IsNullFor : Function → List Value → Type 0 where
  rest_by_zero : (a b : Value) → number b ≡ Some (pos 0) → IsNullFor Function.Remainder (a ∷ b ∷ [])
  quotient_by_zero : (a b : Value) → number b ≡ Some (pos 0) → IsNullFor Function.IntegralDivide (a ∷ b ∷ [])
  no_later_day : (day days : ℤ) → (IsDay (day +ℤ days) → ⊥) → IsNullFor Function.DateAdd (Date day ∷ Integer days ∷ [])
  no_earlier_day : (day days : ℤ) → (IsDay (day -ℤ days) → ⊥) → IsNullFor Function.DateSub (Date day ∷ Integer days ∷ [])
  no_condition : (branches : List (Value × Value)) → AreNotTrue branches → IsNullFor Function.When (branches_of branches)

-- a null argument makes a call null, but for the functions that treat null, each of which has a call with a null argument that is not null;
-- without a null argument a call is null for these reasons alone
pub record NullsAreTold : Type 0 where
  pub null_for_null : (function : Function) (kind : DataType) (values : List Value) → treats_null function ≡ false → IsOneOf Null values → call function kind values ≡ Null
  pub treated : (function : Function) → treats_null function ≡ true → (kind : DataType) × (values : List Value) × IsAllowedCall function kind values × IsOneOf Null values × (call function kind values ≢ Null)
  pub null_for_reasons : (function : Function) (kind : DataType) (values : List Value) → IsAllowedCall function kind values → (IsOneOf Null values → ⊥)
      → (call function kind values ≡ Null) ↔ IsNullFor function values
