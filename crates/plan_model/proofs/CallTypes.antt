-- The value of a call that the table of functions allows has the call's type.
use Rattle.std.proofs.Common.{◌≡◌, ℕ, ℤ, pos, ◌+ℤ◌, ◌-ℤ◌, ◌*ℤ◌, Bool, true, false, if◌then◌else◌, Option, None, Some, option_map, option_and_then, unwrap_or, List, [], ◌∷◌, map, refl, subst}
use Rattle.std.specs.Prelude.{find, int_rem}
use Rattle.std.specs.List.{AllByRecursion, list_all}
use Rattle.std.specs.Cmp.Lexicographic.{pointwise}
use Rattle.std.specs.Ordering.{is_eq, is_ne, is_lt, is_le, is_gt, is_ge, int_eq}
use Rattle.std.specs.declared.cmp.Ordering.{Ordering}
use Rattle.cn_types.specs.declared.value.DataType.{DataType}
use Rattle.cn_types.specs.declared.value.DataType.TheVariants as K
use Rattle.cn_types.specs.declared.value.Value.{Value}
use Rattle.cn_types.specs.declared.value.Value.TheVariants.{Null, Boolean, Integer, Long, Text, Date}
use Rattle.cn_types.specs.Dates.{year_of, month_of, month_day_of}
use Rattle.cn_types.specs.Fit.{HasType, HaveTypes}
use Rattle.plan_model.specs.declared.function.Function.{Function}
use Rattle.plan_model.specs.Arithmetic.{arithmetic, unless_by_zero, remainder, number, quotient, integral_divide, negative, absolute}
use Rattle.plan_model.specs.Comparisons.{judged, comparison, compared, equal_null_safe, or_all, equal_to, member_of}
use Rattle.plan_model.specs.Conditionals.{widened, coalesce, when}
use Rattle.plan_model.specs.DateFunctions.{is_day, date_moved, date_difference, date_part}
use Rattle.plan_model.specs.Functions.{of_one, of_two, of_first, call}
use Rattle.plan_model.specs.FunctionTypes.{wider, common, common_of, exactly, by_one, by_two, always, when_values, when_type, in_type, concat_type, call_type, same_kind}
use Rattle.plan_model.specs.Texts.{joined, concat, text_length, has_start, has_end, has_part, text_test}
use Rattle.plan_model.specs.Truth.{and_value, or_value, not_value, is_null, is_not_null, is_true, is_present}
use Rattle.plan_model.proofs.CastFacts.{days_tested}

pub HasType-Null : (kind : DataType) → HasType kind Null
HasType-Null K.Boolean = tt
HasType-Null K.Integer = tt
HasType-Null K.Long = tt
HasType-Null K.Text = tt
HasType-Null K.Date = tt

pub Some-is : (a b : DataType) → Some a ≡ Some b → a ≡ b
Some-is a b e = cc

-- ---- results of one type, whatever the arguments are

pub judged_typed : (test : Ordering → Bool) (o : Option Ordering) → HasType K.Boolean (judged test o)
judged_typed test None = tt
judged_typed test (Some o) = tt

pub and_typed : (a b : Value) → HasType K.Boolean (and_value a b)
and_typed Null (Boolean false) = tt
and_typed Null (Boolean true) = tt
and_typed Null b = tt
and_typed (Boolean false) (Boolean false) = tt
and_typed (Boolean false) (Boolean true) = tt
and_typed (Boolean false) b = tt
and_typed (Boolean true) (Boolean false) = tt
and_typed (Boolean true) (Boolean true) = tt
and_typed (Boolean true) b = tt
and_typed (Integer a) (Boolean false) = tt
and_typed (Integer a) (Boolean true) = tt
and_typed (Integer a) b = tt
and_typed (Long a) (Boolean false) = tt
and_typed (Long a) (Boolean true) = tt
and_typed (Long a) b = tt
and_typed (Text a) (Boolean false) = tt
and_typed (Text a) (Boolean true) = tt
and_typed (Text a) b = tt
and_typed (Date a) (Boolean false) = tt
and_typed (Date a) (Boolean true) = tt
and_typed (Date a) b = tt

pub or_typed : (a b : Value) → HasType K.Boolean (or_value a b)
or_typed Null (Boolean false) = tt
or_typed Null (Boolean true) = tt
or_typed Null b = tt
or_typed (Boolean false) (Boolean false) = tt
or_typed (Boolean false) (Boolean true) = tt
or_typed (Boolean false) b = tt
or_typed (Boolean true) (Boolean false) = tt
or_typed (Boolean true) (Boolean true) = tt
or_typed (Boolean true) b = tt
or_typed (Integer a) (Boolean false) = tt
or_typed (Integer a) (Boolean true) = tt
or_typed (Integer a) b = tt
or_typed (Long a) (Boolean false) = tt
or_typed (Long a) (Boolean true) = tt
or_typed (Long a) b = tt
or_typed (Text a) (Boolean false) = tt
or_typed (Text a) (Boolean true) = tt
or_typed (Text a) b = tt
or_typed (Date a) (Boolean false) = tt
or_typed (Date a) (Boolean true) = tt
or_typed (Date a) b = tt

pub not_typed : (a : Value) → HasType K.Boolean (not_value a)
not_typed (Boolean b) = tt
not_typed a = tt

pub or_all_typed : (values : List Value) → HasType K.Boolean (or_all values)
or_all_typed [] = tt
or_all_typed (value ∷ values) = or_typed value (or_all values)

joined_typed : (a b : Value) → HasType K.Text (joined a b)
joined_typed (Text a) (Text b) = tt
joined_typed a b = tt

concat_typed : (values : List Value) → HasType K.Text (concat values)
concat_typed [] = tt
concat_typed (value ∷ values) = joined_typed value (concat values)

length_typed : (a : Value) → HasType K.Integer (text_length a)
length_typed (Text a) = tt
length_typed a = tt

pub text_test_typed : (test : List ℕ → List ℕ → Bool) (a b : Value) → HasType K.Boolean (text_test test a b)
text_test_typed test (Text a) (Text b) = tt
text_test_typed test a b = tt

date_part_typed : (part : ℤ → ℕ) (a : Value) → HasType K.Integer (date_part part a)
date_part_typed part (Date day) = tt
date_part_typed part a = tt

day_typed : (day : ℤ) (b : Bool) → is_day day ≡ b → HasType K.Date (if b then Date day else Null)
day_typed day true e = (days_tested day).0 e
day_typed day false e = tt

pub date_moved_typed : (move : ℤ → ℤ → ℤ) (a b : Value) → HasType K.Date (date_moved move a b)
date_moved_typed move (Date day) (Integer days) = day_typed (move day days) (is_day (move day days)) refl
date_moved_typed move a b = tt

date_difference_typed : (a b : Value) → HasType K.Integer (date_difference a b)
date_difference_typed (Date a) (Date b) = tt
date_difference_typed a b = tt

quotient_typed : (a b : Option ℤ) → HasType K.Long (quotient a b)
quotient_typed (Some a) (Some b) = tt
quotient_typed a b = tt

null_or : (kind : DataType) (b : Bool) (value : Value) → HasType kind value → HasType kind (if b then Null else value)
null_or kind true value h = HasType-Null kind
null_or kind false value h = h

unless_typed : (kind : DataType) (divisor : Option ℤ) (value : Value) → HasType kind value → HasType kind (unless_by_zero divisor value)
unless_typed kind None value h = HasType-Null kind
unless_typed kind (Some d) value h = null_or kind (int_eq d (pos 0)) value h

-- ---- numbers, whose type is the wider one

integers : (op : ℤ → ℤ → ℤ) (x y : Value) → HasType K.Integer x → HasType K.Integer y → HasType K.Integer (arithmetic op x y)
integers op (Integer m) (Integer n) p q = tt
integers op (Integer m) (Long n) p q = absurd q
integers op (Long m) (Integer n) p q = absurd p
integers op (Long m) (Long n) p q = absurd p
integers op x y p q = tt

longs : (op : ℤ → ℤ → ℤ) (x y : Value) → HasType K.Long x → HasType K.Long y → HasType K.Long (arithmetic op x y)
longs op (Integer m) (Integer n) p q = absurd p
longs op (Integer m) (Long n) p q = absurd p
longs op (Long m) (Integer n) p q = absurd q
longs op (Long m) (Long n) p q = tt
longs op x y p q = tt

integer_long : (op : ℤ → ℤ → ℤ) (x y : Value) → HasType K.Integer x → HasType K.Long y → HasType K.Long (arithmetic op x y)
integer_long op (Integer m) (Integer n) p q = absurd q
integer_long op (Integer m) (Long n) p q = tt
integer_long op (Long m) (Integer n) p q = absurd p
integer_long op (Long m) (Long n) p q = absurd p
integer_long op x y p q = tt

long_integer : (op : ℤ → ℤ → ℤ) (x y : Value) → HasType K.Long x → HasType K.Integer y → HasType K.Long (arithmetic op x y)
long_integer op (Integer m) (Integer n) p q = absurd p
long_integer op (Integer m) (Long n) p q = absurd p
long_integer op (Long m) (Integer n) p q = tt
long_integer op (Long m) (Long n) p q = absurd q
long_integer op x y p q = tt

-- a value of the first type, where that is the second
pub of_kind : (a b : DataType) (value : Value) → Some a ≡ Some b → HasType a value → HasType b value
of_kind a b value e h = subst (λ k. HasType k value) (Some-is a b e) h

arithmetic_typed : (op : ℤ → ℤ → ℤ) (kind a b : DataType) (x y : Value) → wider a b ≡ Some kind → HasType a x → HasType b y → HasType kind (arithmetic op x y)
arithmetic_typed op kind K.Integer K.Integer x y e p q = of_kind K.Integer kind (arithmetic op x y) e (integers op x y p q)
arithmetic_typed op kind K.Integer K.Long x y e p q = of_kind K.Long kind (arithmetic op x y) e (integer_long op x y p q)
arithmetic_typed op kind K.Long K.Integer x y e p q = of_kind K.Long kind (arithmetic op x y) e (long_integer op x y p q)
arithmetic_typed op kind K.Long K.Long x y e p q = of_kind K.Long kind (arithmetic op x y) e (longs op x y p q)
arithmetic_typed op kind a b x y e p q = cc

negative_typed : (kind a : DataType) (x : Value) → wider a a ≡ Some kind → HasType a x → HasType kind (negative x)
negative_typed kind K.Integer Null e p = HasType-Null kind
negative_typed kind K.Integer (Integer n) e p = of_kind K.Integer kind (negative (Integer n)) e tt
negative_typed kind K.Long Null e p = HasType-Null kind
negative_typed kind K.Long (Long n) e p = of_kind K.Long kind (negative (Long n)) e tt
negative_typed kind K.Integer x e p = absurd p
negative_typed kind K.Long x e p = absurd p
negative_typed kind a x e p = cc

absolute_typed : (kind a : DataType) (x : Value) → wider a a ≡ Some kind → HasType a x → HasType kind (absolute x)
absolute_typed kind K.Integer Null e p = HasType-Null kind
absolute_typed kind K.Integer (Integer n) e p = of_kind K.Integer kind (absolute (Integer n)) e tt
absolute_typed kind K.Long Null e p = HasType-Null kind
absolute_typed kind K.Long (Long n) e p = of_kind K.Long kind (absolute (Long n)) e tt
absolute_typed kind K.Integer x e p = absurd p
absolute_typed kind K.Long x e p = absurd p
absolute_typed kind a x e p = cc

-- ---- values that take the type that they have together

-- a value that has the type once it is widened to it
abbrev pub Widens : DataType → Value → Type 0
Widens kind value = HasType kind (widened kind value)

pub widens_own : (kind : DataType) (value : Value) → HasType kind value → Widens kind value
widens_own K.Boolean value h = h
widens_own K.Integer value h = h
widens_own K.Long Null h = h
widens_own K.Long (Long n) h = h
widens_own K.Long (Integer n) h = tt
widens_own K.Long value h = absurd h
widens_own K.Text value h = h
widens_own K.Date value h = h

-- an integer among longs
widens_to_long : (value : Value) → HasType K.Integer value → Widens K.Long value
widens_to_long Null h = tt
widens_to_long (Integer n) h = tt
widens_to_long value h = absurd h

widens_kind : (a b : DataType) (value : Value) → Some a ≡ Some b → Widens a value → Widens b value
widens_kind a b value e h = subst (λ k. Widens k value) (Some-is a b e) h

pub common_left : (kind a b : DataType) (value : Value) → common a b ≡ Some kind → HasType a value → Widens kind value
common_left kind K.Boolean K.Boolean value e h = widens_kind K.Boolean kind value e h
common_left kind K.Text K.Text value e h = widens_kind K.Text kind value e h
common_left kind K.Date K.Date value e h = widens_kind K.Date kind value e h
common_left kind K.Integer K.Integer value e h = widens_kind K.Integer kind value e h
common_left kind K.Integer K.Long value e h = widens_kind K.Long kind value e (widens_to_long value h)
common_left kind K.Long K.Integer value e h = widens_kind K.Long kind value e (widens_own K.Long value h)
common_left kind K.Long K.Long value e h = widens_kind K.Long kind value e (widens_own K.Long value h)
common_left kind a b value e h = cc

pub common_right : (kind a b : DataType) (value : Value) → common a b ≡ Some kind → Widens b value → Widens kind value
common_right kind K.Boolean K.Boolean value e h = widens_kind K.Boolean kind value e h
common_right kind K.Text K.Text value e h = widens_kind K.Text kind value e h
common_right kind K.Date K.Date value e h = widens_kind K.Date kind value e h
common_right kind K.Integer K.Integer value e h = widens_kind K.Integer kind value e h
common_right kind K.Integer K.Long value e h = widens_kind K.Long kind value e h
common_right kind K.Long K.Integer value e h = widens_kind K.Long kind value e (widens_to_long value h)
common_right kind K.Long K.Long value e h = widens_kind K.Long kind value e h
common_right kind a b value e h = cc

all_wider : (kind a b : DataType) (values : List Value) → common a b ≡ Some kind → AllByRecursion (Widens b) values → AllByRecursion (Widens kind) values
all_wider kind a b [] e h = tt
all_wider kind a b (value ∷ values) e h = (common_right kind a b value e h.0, all_wider kind a b values e h.1)

common_then : (kind a : DataType) (rest : Option DataType) (value : Value) (values : List Value) → option_and_then (common a) rest ≡ Some kind
    → HasType a value → ((b : DataType) → rest ≡ Some b → AllByRecursion (Widens b) values) → AllByRecursion (Widens kind) (value ∷ values)
common_then kind a None value values e h all = cc
common_then kind a (Some b) value values e h all = (common_left kind a b value e h, all_wider kind a b values e (all b refl))

-- values of types that have one together
pub common_widens : (kind : DataType) (kinds : List DataType) (values : List Value) → common_of kinds ≡ Some kind → HaveTypes kinds values → AllByRecursion (Widens kind) values
common_widens kind [] values e h = cc
common_widens kind (a ∷ kinds) [] e h = absurd h
common_widens kind (a ∷ []) (value ∷ []) e h = (widens_kind a kind value e (widens_own a value h.0), tt)
common_widens kind (a ∷ []) (value ∷ other ∷ values) e h = absurd h.1
common_widens kind (a ∷ b ∷ kinds) (value ∷ values) e h =
    common_then kind a (common_of (b ∷ kinds)) value values e h.0 (λ r f. common_widens r (b ∷ kinds) values f h.1)

-- ---- shapes of argument lists

typed_by_two : (f : Value → Value → Value) (result : DataType → DataType → Option DataType) (kind : DataType)
    → ((a b : DataType) (x y : Value) → result a b ≡ Some kind → HasType a x → HasType b y → HasType kind (f x y))
    → (kinds : List DataType) (values : List Value) → by_two result kinds ≡ Some kind → HaveTypes kinds values → HasType kind (of_two f values)
typed_by_two f result kind typed (a ∷ b ∷ []) (x ∷ y ∷ []) e h = typed a b x y e h.0 h.1.0
typed_by_two f result kind typed (a ∷ b ∷ []) (x ∷ []) e h = absurd h.1
typed_by_two f result kind typed (a ∷ b ∷ []) [] e h = absurd h
typed_by_two f result kind typed (a ∷ b ∷ []) (x ∷ y ∷ z ∷ values) e h = absurd h.1.1
typed_by_two f result kind typed kinds values e h = cc

typed_by_one : (f : Value → Value) (result : DataType → Option DataType) (kind : DataType)
    → ((a : DataType) (x : Value) → result a ≡ Some kind → HasType a x → HasType kind (f x))
    → (kinds : List DataType) (values : List Value) → by_one result kinds ≡ Some kind → HaveTypes kinds values → HasType kind (of_one f values)
typed_by_one f result kind typed (a ∷ []) (x ∷ []) e h = typed a x e h.0
typed_by_one f result kind typed (a ∷ []) [] e h = absurd h
typed_by_one f result kind typed (a ∷ []) (x ∷ y ∷ values) e h = absurd h.1
typed_by_one f result kind typed kinds values e h = cc

-- a function of which every result has the type
of_two_typed : (f : Value → Value → Value) (kind : DataType) → ((a b : Value) → HasType kind (f a b)) → (values : List Value) → HasType kind (of_two f values)
of_two_typed f kind typed (a ∷ b ∷ []) = typed a b
of_two_typed f kind typed values = HasType-Null kind

of_one_typed : (f : Value → Value) (kind : DataType) → ((a : Value) → HasType kind (f a)) → (values : List Value) → HasType kind (of_one f values)
of_one_typed f kind typed (a ∷ []) = typed a
of_one_typed f kind typed values = HasType-Null kind

of_first_typed : (f : Value → List Value → Value) (kind : DataType) → ((a : Value) (others : List Value) → HasType kind (f a others)) → (values : List Value) → HasType kind (of_first f values)
of_first_typed f kind typed (a ∷ others) = typed a others
of_first_typed f kind typed [] = HasType-Null kind

-- the one type of a result
pub chosen_kind : (b : Bool) (result kind : DataType) → (if b then Some result else None) ≡ Some kind → result ≡ kind
chosen_kind true result kind e = Some-is result kind e
chosen_kind false result kind e = cc

pub always_kind : (result kind : DataType) (other : Option DataType) → always result other ≡ Some kind → result ≡ kind
always_kind result kind None e = cc
always_kind result kind (Some found) e = Some-is result kind e

pub by_two_kind : (result kind : DataType) (other : DataType → DataType → Option DataType) (kinds : List DataType) → by_two (λ a b. always result (other a b)) kinds ≡ Some kind → result ≡ kind
by_two_kind result kind other (a ∷ b ∷ []) e = always_kind result kind (other a b) e
by_two_kind result kind other kinds e = cc

by_one_kind : (result kind : DataType) (kinds : List DataType) → by_one (λ a. Some result) kinds ≡ Some kind → result ≡ kind
by_one_kind result kind (a ∷ []) e = Some-is result kind e
by_one_kind result kind kinds e = cc

pub in_kind : (kind : DataType) (kinds : List DataType) → in_type kinds ≡ Some kind → K.Boolean ≡ kind
in_kind kind (a ∷ b ∷ kinds) e = always_kind K.Boolean kind (common_of (a ∷ b ∷ kinds)) e
in_kind kind kinds e = cc

pub concat_kind : (kind : DataType) (kinds : List DataType) → concat_type kinds ≡ Some kind → K.Text ≡ kind
concat_kind kind [] e = cc
concat_kind kind (a ∷ kinds) e = chosen_kind (list_all (same_kind K.Text) (a ∷ kinds)) K.Text kind e

-- ---- `coalesce` and `when`

widens_null : (kind : DataType) → Widens kind Null
widens_null K.Boolean = tt
widens_null K.Integer = tt
widens_null K.Long = tt
widens_null K.Text = tt
widens_null K.Date = tt

first_widens : (kind : DataType) (b : Bool) (value : Value) (rest : Option Value) → Widens kind value → Widens kind (unwrap_or rest Null) → Widens kind (unwrap_or (if b then Some value else rest) Null)
first_widens kind true value rest h later = h
first_widens kind false value rest h later = later

coalesce_typed : (kind : DataType) (values : List Value) → AllByRecursion (Widens kind) values → Widens kind (coalesce values)
coalesce_typed kind [] all = widens_null kind
coalesce_typed kind (value ∷ values) all = first_widens kind (is_present value) value (find is_present values) all.0 (coalesce_typed kind values all.1)

-- the values of a `when` without its conditions: they have the values' types, and what widens all of them widens the result
abbrev Parts : DataType → List DataType → List Value → Type 0
Parts kind kinds values = (parts : List Value) × HaveTypes kinds parts × (AllByRecursion (Widens kind) parts → Widens kind (when values))

lists_same : (xs ys : List DataType) → Some xs ≡ Some ys → xs ≡ ys
lists_same xs ys e = cc

either_widens : (kind : DataType) (b : Bool) (x y : Value) → Widens kind x → Widens kind y → Widens kind (if b then x else y)
either_widens kind true x y g h = g
either_widens kind false x y g h = h

when_step : (kind a : DataType) (rest : Option (List DataType)) (all : List DataType) (condition value : Value) (values : List Value)
    → option_map (λ kinds. a ∷ kinds) rest ≡ Some all → HasType a value → ((kinds : List DataType) → rest ≡ Some kinds → Parts kind kinds values) → Parts kind all (condition ∷ value ∷ values)
when_step kind a None all condition value values e h later = cc
when_step kind a (Some kinds) all condition value values e h later =
    let t = later kinds refl in
    let typed : HaveTypes (a ∷ kinds) (value ∷ t.0) = (h, t.1) in (
      value ∷ t.0,
      subst (λ (l : List DataType). HaveTypes l (value ∷ t.0)) (lists_same (a ∷ kinds) all e) typed,
      λ each. either_widens kind (is_true condition) value (when values) each.0 (t.2 each.1),
    )

when_parts : (kind : DataType) (kinds all : List DataType) (values : List Value) → when_values kinds ≡ Some all → HaveTypes kinds values → Parts kind all values
when_parts kind [] all [] e h = ([], subst (λ (l : List DataType). HaveTypes l []) (lists_same [] all e) tt, λ each. widens_null kind)
when_parts kind [] all (v ∷ values) e h = absurd h
when_parts kind (a ∷ []) all [] e h = absurd h
when_parts kind (a ∷ []) all (v ∷ []) e h = (v ∷ [], subst (λ (l : List DataType). HaveTypes l (v ∷ [])) (lists_same (a ∷ []) all e) h, λ each. each.0)
when_parts kind (a ∷ []) all (v ∷ w ∷ values) e h = absurd h.1
when_parts kind (a ∷ b ∷ kinds) all [] e h = absurd h
when_parts kind (a ∷ b ∷ kinds) all (v ∷ []) e h = absurd h.1
when_parts kind (K.Boolean ∷ b ∷ kinds) all (v ∷ w ∷ values) e h =
    when_step kind b (when_values kinds) all v w values e h.1.0 (λ rest f. when_parts kind kinds rest values f h.1.1)
when_parts kind (a ∷ b ∷ kinds) all (v ∷ w ∷ values) e h = cc

when_then : (kind : DataType) (rest : Option (List DataType)) (values : List Value) → option_and_then common_of rest ≡ Some kind
    → ((kinds : List DataType) → rest ≡ Some kinds → Parts kind kinds values) → Widens kind (when values)
when_then kind None values e parts = cc
when_then kind (Some kinds) values e parts = let t = parts kinds refl in t.2 (common_widens kind kinds t.0 e t.1)

when_typed : (kind : DataType) (kinds : List DataType) (values : List Value) → when_type kinds ≡ Some kind → HaveTypes kinds values → Widens kind (when values)
when_typed kind (a ∷ b ∷ kinds) values e h = when_then kind (when_values (a ∷ b ∷ kinds)) values e (λ all f. when_parts kind (a ∷ b ∷ kinds) all values f h)
when_typed kind kinds values e h = cc

-- ---- all functions

remainder_typed : (kind a b : DataType) (x y : Value) → wider a b ≡ Some kind → HasType a x → HasType b y → HasType kind (remainder x y)
remainder_typed kind a b x y e g h = unless_typed kind (number y) (arithmetic int_rem x y) (arithmetic_typed int_rem kind a b x y e g h)

-- a result of one type
of_type : (result kind : DataType) (value : Value) → result ≡ kind → HasType result value → HasType kind value
of_type result kind value e h = subst (λ k. HasType k value) e h

compared_typed : (test : Ordering → Bool) (kind : DataType) (kinds : List DataType) (values : List Value) → by_two (λ a b. always K.Boolean (common a b)) kinds ≡ Some kind → HasType kind (of_two (compared test) values)
compared_typed test kind kinds values e =
    of_type K.Boolean kind (of_two (compared test) values) (by_two_kind K.Boolean kind common kinds e) (of_two_typed (compared test) K.Boolean (λ a b. judged_typed test (comparison a b)) values)

exactly_typed : (taken : List DataType) (result kind : DataType) (kinds : List DataType) (value : Value) → exactly taken result kinds ≡ Some kind → HasType result value → HasType kind value
exactly_typed taken result kind kinds value e h = of_type result kind value (chosen_kind (pointwise same_kind taken kinds) result kind e) h

-- the value of a call has the type that the table of functions gives it
pub call_typed : (function : Function) (kind : DataType) (kinds : List DataType) (values : List Value) → call_type function kinds ≡ Some kind → HaveTypes kinds values → HasType kind (call function kind values)
unfolding call call_type
call_typed Function.Add kind kinds values e h = typed_by_two (arithmetic ◌+ℤ◌) wider kind (arithmetic_typed ◌+ℤ◌ kind) kinds values e h
call_typed Function.Subtract kind kinds values e h = typed_by_two (arithmetic ◌-ℤ◌) wider kind (arithmetic_typed ◌-ℤ◌ kind) kinds values e h
call_typed Function.Multiply kind kinds values e h = typed_by_two (arithmetic ◌*ℤ◌) wider kind (arithmetic_typed ◌*ℤ◌ kind) kinds values e h
call_typed Function.Remainder kind kinds values e h = typed_by_two remainder wider kind (remainder_typed kind) kinds values e h
call_typed Function.IntegralDivide kind kinds values e h =
    of_type K.Long kind (of_two integral_divide values) (by_two_kind K.Long kind wider kinds e)
    (of_two_typed integral_divide K.Long (λ a b. unless_typed K.Long (number b) (quotient (number a) (number b)) (quotient_typed (number a) (number b))) values)
call_typed Function.Negative kind kinds values e h = typed_by_one negative (λ a. wider a a) kind (negative_typed kind) kinds values e h
call_typed Function.Abs kind kinds values e h = typed_by_one absolute (λ a. wider a a) kind (absolute_typed kind) kinds values e h
call_typed Function.EqualTo kind kinds values e h = compared_typed is_eq kind kinds values e
call_typed Function.NotEqualTo kind kinds values e h = compared_typed is_ne kind kinds values e
call_typed Function.LessThan kind kinds values e h = compared_typed is_lt kind kinds values e
call_typed Function.LessThanOrEqual kind kinds values e h = compared_typed is_le kind kinds values e
call_typed Function.GreaterThan kind kinds values e h = compared_typed is_gt kind kinds values e
call_typed Function.GreaterThanOrEqual kind kinds values e h = compared_typed is_ge kind kinds values e
call_typed Function.EqualNullSafe kind kinds values e h =
    of_type K.Boolean kind (of_two equal_null_safe values) (by_two_kind K.Boolean kind common kinds e) (of_two_typed equal_null_safe K.Boolean (λ a b. tt) values)
call_typed Function.And kind kinds values e h = exactly_typed (K.Boolean ∷ K.Boolean ∷ []) K.Boolean kind kinds (of_two and_value values) e (of_two_typed and_value K.Boolean and_typed values)
call_typed Function.Or kind kinds values e h = exactly_typed (K.Boolean ∷ K.Boolean ∷ []) K.Boolean kind kinds (of_two or_value values) e (of_two_typed or_value K.Boolean or_typed values)
call_typed Function.Not kind kinds values e h = exactly_typed (K.Boolean ∷ []) K.Boolean kind kinds (of_one not_value values) e (of_one_typed not_value K.Boolean not_typed values)
call_typed Function.IsNull kind kinds values e h = of_type K.Boolean kind (of_one is_null values) (by_one_kind K.Boolean kind kinds e) (of_one_typed is_null K.Boolean (λ a. tt) values)
call_typed Function.IsNotNull kind kinds values e h = of_type K.Boolean kind (of_one is_not_null values) (by_one_kind K.Boolean kind kinds e) (of_one_typed is_not_null K.Boolean (λ a. tt) values)
call_typed Function.Coalesce kind kinds values e h = coalesce_typed kind values (common_widens kind kinds values e h)
call_typed Function.When kind kinds values e h = when_typed kind kinds values e h
call_typed Function.In kind kinds values e h =
    of_type K.Boolean kind (of_first member_of values) (in_kind kind kinds e)
    (of_first_typed member_of K.Boolean (λ a others. or_all_typed (map (λ other. equal_to a other) others)) values)
call_typed Function.Concat kind kinds values e h = of_type K.Text kind (concat values) (concat_kind kind kinds e) (concat_typed values)
call_typed Function.Length kind kinds values e h = exactly_typed (K.Text ∷ []) K.Integer kind kinds (of_one text_length values) e (of_one_typed text_length K.Integer length_typed values)
call_typed Function.StartsWith kind kinds values e h =
    exactly_typed (K.Text ∷ K.Text ∷ []) K.Boolean kind kinds (of_two (text_test has_start) values) e (of_two_typed (text_test has_start) K.Boolean (text_test_typed has_start) values)
call_typed Function.EndsWith kind kinds values e h =
    exactly_typed (K.Text ∷ K.Text ∷ []) K.Boolean kind kinds (of_two (text_test has_end) values) e (of_two_typed (text_test has_end) K.Boolean (text_test_typed has_end) values)
call_typed Function.Contains kind kinds values e h =
    exactly_typed (K.Text ∷ K.Text ∷ []) K.Boolean kind kinds (of_two (text_test has_part) values) e (of_two_typed (text_test has_part) K.Boolean (text_test_typed has_part) values)
call_typed Function.Year kind kinds values e h = exactly_typed (K.Date ∷ []) K.Integer kind kinds (of_one (date_part year_of) values) e (of_one_typed (date_part year_of) K.Integer (date_part_typed year_of) values)
call_typed Function.Month kind kinds values e h = exactly_typed (K.Date ∷ []) K.Integer kind kinds (of_one (date_part month_of) values) e (of_one_typed (date_part month_of) K.Integer (date_part_typed month_of) values)
call_typed Function.DayOfMonth kind kinds values e h =
    exactly_typed (K.Date ∷ []) K.Integer kind kinds (of_one (date_part month_day_of) values) e (of_one_typed (date_part month_day_of) K.Integer (date_part_typed month_day_of) values)
call_typed Function.DateAdd kind kinds values e h =
    exactly_typed (K.Date ∷ K.Integer ∷ []) K.Date kind kinds (of_two (date_moved ◌+ℤ◌) values) e (of_two_typed (date_moved ◌+ℤ◌) K.Date (date_moved_typed ◌+ℤ◌) values)
call_typed Function.DateSub kind kinds values e h =
    exactly_typed (K.Date ∷ K.Integer ∷ []) K.Date kind kinds (of_two (date_moved ◌-ℤ◌) values) e (of_two_typed (date_moved ◌-ℤ◌) K.Date (date_moved_typed ◌-ℤ◌) values)
call_typed Function.DateDiff kind kinds values e h =
    exactly_typed (K.Date ∷ K.Date ∷ []) K.Integer kind kinds (of_two date_difference values) e (of_two_typed date_difference K.Integer date_difference_typed values)
call_typed other kind kinds values e h = cc
