-- Values that are computed are values of a program.
use Rattle.std.proofs.Common.{◌≡◌, ◌<◌, ◌≤◌, ◌+◌, ◌/◌, ◌%◌, ◌^◌, ℕ, zero, suc, ℤ, pos, negsuc, ◌+ℤ◌, ◌-ℤ◌, ◌*ℤ◌, ◌==◌, ◌||◌, Bool, true, false, if◌then◌else◌, cond, Option, None, Some, unwrap_or, List, [], ◌∷◌, map, filter, length, slice_get, refl, sym, subst, arith}
use lib.Utf8.{encode}
use Rattle.std.specs.Prelude.{IfSome, IsUtf8, IsAscii, find, int_rem, ◌≤ℤ◌}
use Rattle.std.specs.Fmt.{signed_decimal}
use Rattle.std.specs.Int.{w32, w64}
use Rattle.std.specs.List.{AllByRecursion, list_any}
use Rattle.std.specs.Ordering.{is_eq, is_ne, is_lt, is_le, is_gt, is_ge, int_eq}
use Rattle.std.proofs.lemmas.Fmt.{IsAscii-signed}
use Rattle.std.proofs.lemmas.Int.{ints, SFits-int_wrap}
use Rattle.std.proofs.lemmas.List.{length-map}
use Rattle.std.proofs.lemmas.List.Elements.{recursion_from_All}
use Rattle.std.proofs.lemmas.Str.{IsUtf8-append, IsUtf8-from_ascii, IsUtf8-nil}
use Rattle.jiff_core.specs.Calendar.{days_in_month, is_leap_year}
use Rattle.cn_types.proofs.DateFacts.{dates_of_the_calendar, year_is}
use Rattle.cn_types.specs.Dates.{year_of, month_of, month_day_of, date_text}
use Rattle.cn_types.specs.declared.row.Row.{Row}
use Rattle.cn_types.specs.declared.value.DataType.{DataType}
use Rattle.cn_types.specs.declared.value.DataType.TheVariants as K
use Rattle.cn_types.specs.declared.value.Value.{Value}
use Rattle.cn_types.specs.declared.value.Value.TheVariants.{Null, Boolean, Integer, Long, Text, Date}
use Rattle.cn_types.specs.Fit.{HasType, HasDateInRange, HaveTypes, FitsTypes, IsDay, IsInteger, IsLong, IsValue}
use Rattle.cn_types.specs.Order.{value_eq}
use Rattle.cn_types.specs.Printed.{boolean_text}
use Rattle.plan_model.specs.declared.expression.TypedExpr.{TypedExpr}
use Rattle.plan_model.specs.declared.expression.TypedExpr.TheOpen as O
use Rattle.plan_model.specs.declared.expression.TypedExpr.TheVariants as V
use Rattle.plan_model.specs.declared.function.Function.{Function}
use Rattle.plan_model.specs.Aggregates.{present, different, total, unless_empty, count_of, aggregate_of, rows_aggregate_of, called_over}
use Rattle.plan_model.specs.Arithmetic.{arithmetic, number, unless_by_zero, remainder, quotient, integral_divide, negative, absolute, wrapped_long}
use Rattle.plan_model.specs.Casts.{bit, cast_to}
use Rattle.plan_model.specs.Comparisons.{comparison, compared, equal_null_safe, equal_to, member_of}
use Rattle.plan_model.specs.Conditionals.{widened, coalesce, when}
use Rattle.plan_model.specs.DateFunctions.{date_moved, date_difference, date_part}
use Rattle.plan_model.specs.Functions.{of_one, of_two, of_first, call}
use Rattle.plan_model.specs.FunctionTypes.{call_type}
use Rattle.plan_model.specs.NodeTypes.{kind_of, kinds_of}
use Rattle.plan_model.specs.Texts.{joined, concat, text_length, has_start, has_end, has_part, text_test}
use Rattle.plan_model.specs.Truth.{and_value, or_value, not_value, is_null, is_not_null, is_true, is_present}
use Rattle.plan_model.specs.Val.{val}
use Rattle.plan_model.specs.ValueRanges.{HasValuesInRange, IsFormInRange, HasLiteralsInRange, ValuesAreInRange, CallsAreInRange}
use Rattle.plan_model.specs.WellFormed.{IsFormOver, IsOver}
use Rattle.plan_model.proofs.CallTypes.{judged_typed, and_typed, or_typed, not_typed, or_all_typed, text_test_typed, date_moved_typed}
use Rattle.plan_model.proofs.ExpressionFacts.{Forms, induct, every_part, every_here}
use Rattle.plan_model.proofs.Fitting.{images_typed}
use Rattle.plan_model.proofs.NullFacts.{exact_typed, pair_shape, single_shape}
use Rattle.plan_model.proofs.TypedValues.{date_in_range, least_is, greatest_is, values_typed}
use Rattle.plan_model.proofs.ValueFacts.{values_of_forms}

abbrev AreValues : List Value → Type 0
AreValues values = AllByRecursion IsValue values

-- ---- numbers and texts

boolean_value : (v : Value) → HasType K.Boolean v → IsValue v
boolean_value Null h = tt
boolean_value (Boolean b) h = tt
boolean_value v h = absurd h

-- numbers of up to seven digits
small_bits : (z : ℤ) → negsuc 9999999 ≤ℤ z → z ≤ℤ pos 9999999 → IsInteger z
small_bits (pos n) low high = record { sfits = omega (arith, ints) }
small_bits (negsuc n) low high = record { sfits = omega (arith, ints) }

day_bits : (day : ℤ) → IsDay day → IsInteger day
day_bits day h = small_bits day (omega (arith, ints, h.0, h.1)) (omega (arith, ints, h.0, h.1))

date_value : (v : Value) → HasType K.Date v → IsValue v
date_value Null h = tt
date_value (Date day) h = day_bits day h
date_value v h = absurd h

integer_bits : (n : ℕ) → n < 10000 → IsInteger (pos n)
integer_bits n h = record { sfits = omega arith }

long_bits : (n : ℤ) → IsInteger n → IsLong n
long_bits n h = record { sfits = omega (arith, h.sfits) }

bit_integer : (b : Bool) → IsInteger (bit b)
bit_integer true = integer_bits 1 (omega arith)
bit_integer false = integer_bits 0 (omega arith)

two_digits : (n : ℕ) → n < 100 → IsUtf8 ((48 + n / 10) ∷ (48 + n % 10) ∷ [])
two_digits n h = IsUtf8-from_ascii ((48 + n / 10) ∷ (48 + n % 10) ∷ []) (ascii (48 + n / 10) (48 + n % 10) (omega arith) (omega arith))
  where
    ascii : (a b : ℕ) → a < 128 → b < 128 → IsAscii (a ∷ b ∷ [])
    ascii a b p q zero = p
    ascii a b p q (suc zero) = q
    ascii a b p q (suc (suc i)) = omega arith

dash : IsUtf8 (45 ∷ [])
unfolding encode
dash = (45 ∷ [], (refl, refl))

number_utf8 : (n : ℤ) → IsLong n → IsUtf8 (signed_decimal n)
number_utf8 n h = IsUtf8-from_ascii (signed_decimal n) (IsAscii-signed n h.sfits)

days-le : (leap a b : Bool) → (if a then (if leap then 29 else 28) else (if b then 30 else 31)) ≤ 31
days-le true true b = omega arith
days-le false true b = omega arith
days-le leap false true = omega arith
days-le leap false false = omega arith

month_day-le : (day : ℤ) → IsDay day → month_day_of day < 100
month_day-le day h =
    let civil = (dates_of_the_calendar day h).civil in
    let most : days_in_month (pos (year_of day)) (month_of day) ≤ 31 =
    days-le (is_leap_year (pos (year_of day))) (month_of day == 2) ((month_of day == 4) || (month_of day == 6) || (month_of day == 9) || (month_of day == 11)) in
    omega (arith, civil.2.1, most)

date_utf8 : (day : ℤ) → IsDay day → IsUtf8 (date_text day)
unfolding date_text
date_utf8 day h =
    let year : year_of day ≤ 9999 = (year_is day h).high in
    let month : month_of day < 100 = omega (arith, (dates_of_the_calendar day h).civil.1.1) in
    IsUtf8-append _ _ (IsUtf8-append _ _ (IsUtf8-append _ _ (IsUtf8-append _ _ (IsUtf8-append _ _ (two_digits (year_of day / 100) (omega arith)) (two_digits (year_of day % 100) (omega arith))) dash) (two_digits (month_of day) month)) dash) (two_digits (month_day_of day) (month_day-le day h))

boolean_utf8 : (b : Bool) → IsUtf8 (boolean_text b)
unfolding encode
boolean_utf8 true = (116 ∷ 114 ∷ 117 ∷ 101 ∷ [], (refl, refl))
boolean_utf8 false = (102 ∷ 97 ∷ 108 ∷ 115 ∷ 101 ∷ [], (refl, refl))

-- ---- functions

arithmetic_value : (op : ℤ → ℤ → ℤ) (a b : Value) → IsValue (arithmetic op a b)
arithmetic_value op (Integer a) (Integer b) = SFits-int_wrap w32 (op a b)
arithmetic_value op (Integer a) (Long b) = SFits-int_wrap w64 (op a b)
arithmetic_value op (Long a) (Integer b) = SFits-int_wrap w64 (op a b)
arithmetic_value op (Long a) (Long b) = SFits-int_wrap w64 (op a b)
arithmetic_value op a b = tt

null_or : (b : Bool) (v : Value) → IsValue v → IsValue (if b then Null else v)
null_or true v h = tt
null_or false v h = h

unless_value : (divisor : Option ℤ) (v : Value) → IsValue v → IsValue (unless_by_zero divisor v)
unless_value None v h = tt
unless_value (Some d) v h = null_or (int_eq d (pos 0)) v h

quotient_value : (a b : Option ℤ) → IsValue (quotient a b)
quotient_value (Some a) (Some b) = SFits-int_wrap w64 _
quotient_value a b = tt

negative_value : (a : Value) → IsValue (negative a)
negative_value (Integer n) = SFits-int_wrap w32 _
negative_value (Long n) = SFits-int_wrap w64 _
negative_value a = tt

absolute_value : (a : Value) → IsValue (absolute a)
absolute_value (Integer n) = SFits-int_wrap w32 _
absolute_value (Long n) = SFits-int_wrap w64 _
absolute_value a = tt

widened_value : (kind : DataType) (v : Value) → IsValue v → IsValue (widened kind v)
widened_value K.Long (Integer n) h = long_bits n h
widened_value kind v h = h

either_value : (b : Bool) (v w : Value) → IsValue v → IsValue w → IsValue (if b then v else w)
either_value true v w g h = g
either_value false v w g h = h

found_value : (b : Bool) (v : Value) (rest : Option Value) → IsValue v → IsValue (unwrap_or rest Null) → IsValue (unwrap_or (if b then Some v else rest) Null)
found_value true v rest g h = g
found_value false v rest g h = h

coalesce_value : (values : List Value) → AreValues values → IsValue (coalesce values)
coalesce_value [] all = tt
coalesce_value (v ∷ values) all = found_value (is_present v) v (find is_present values) all.0 (coalesce_value values all.1)

when_value : (values : List Value) → AreValues values → IsValue (when values)
when_value [] all = tt
when_value (v ∷ []) all = all.0
when_value (c ∷ v ∷ values) all = either_value (is_true c) v (when values) all.1.0 (when_value values all.1.1)

joined_value : (a b : Value) → IsValue a → IsValue b → IsValue (joined a b)
joined_value (Text a) (Text b) g h = IsUtf8-append a b g h
joined_value a b g h = tt

concat_value : (values : List Value) → AreValues values → IsValue (concat values)
concat_value [] all = IsUtf8-nil
concat_value (v ∷ values) all = joined_value v (concat values) all.0 (concat_value values all.1)

length_value : (a : Value) → IsValue (text_length a)
length_value (Text t) = SFits-int_wrap w32 _
length_value a = tt

part_value : (part : ℤ → ℕ) → ((day : ℤ) → IsDay day → part day < 10000) → (v : Value) → HasType K.Date v → IsValue (date_part part v)
part_value part below (Date day) h = integer_bits (part day) (below day h)
part_value part below v h = tt

year-lt : (day : ℤ) → IsDay day → year_of day < 10000
year-lt day h = omega (arith, (year_is day h).high)

month-lt : (day : ℤ) → IsDay day → month_of day < 10000
month-lt day h = omega (arith, (dates_of_the_calendar day h).civil.1.1)

month_day-lt : (day : ℤ) → IsDay day → month_day_of day < 10000
month_day-lt day h = omega (arith, month_day-le day h)

difference_value : (a b : Value) → HasType K.Date a → HasType K.Date b → IsValue (date_difference a b)
difference_value (Date x) (Date y) g h = small_bits (x -ℤ y) (omega (arith, ints, g.0, g.1, h.0, h.1)) (omega (arith, ints, g.0, g.1, h.0, h.1))
difference_value a b g h = tt

two_value : (f : Value → Value → Value) → ((a b : Value) → IsValue (f a b)) → (values : List Value) → IsValue (of_two f values)
two_value f h (a ∷ b ∷ []) = h a b
two_value f h values = tt

one_value : (f : Value → Value) → ((a : Value) → IsValue (f a)) → (values : List Value) → IsValue (of_one f values)
one_value f h (a ∷ []) = h a
one_value f h values = tt

first_value : (f : Value → List Value → Value) → ((a : Value) (others : List Value) → IsValue (f a others)) → (values : List Value) → IsValue (of_first f values)
first_value f h (a ∷ others) = h a others
first_value f h [] = tt

comparison_value : (test : _) (a b : Value) → IsValue (compared test a b)
comparison_value test a b = boolean_value (compared test a b) (judged_typed test (comparison a b))

part_of_one : (part : ℤ → ℕ) → ((day : ℤ) → IsDay day → part day < 10000) → (values : List Value) → HaveTypes (K.Date ∷ []) values → IsValue (of_one (date_part part) values)
part_of_one part below values h = single_shape (λ vs. IsValue (of_one (date_part part) vs)) K.Date values h (λ x p. part_value part below x p)

difference_of_two : (values : List Value) → HaveTypes (K.Date ∷ K.Date ∷ []) values → IsValue (of_two date_difference values)
difference_of_two values h = pair_shape (λ vs. IsValue (of_two date_difference vs)) K.Date K.Date values h (λ x y p q. difference_value x y p q)

-- the value of a call that the table allows, over values of a program
call_value : (function : Function) (kind : DataType) (kinds : List DataType) (values : List Value) → call_type function kinds ≡ Some kind → HaveTypes kinds values → AreValues values → IsValue (call function kind values)
unfolding call call_type
call_value Function.Add kind kinds values e h all = two_value (arithmetic ◌+ℤ◌) (arithmetic_value ◌+ℤ◌) values
call_value Function.Subtract kind kinds values e h all = two_value (arithmetic ◌-ℤ◌) (arithmetic_value ◌-ℤ◌) values
call_value Function.Multiply kind kinds values e h all = two_value (arithmetic ◌*ℤ◌) (arithmetic_value ◌*ℤ◌) values
call_value Function.Remainder kind kinds values e h all = two_value remainder (λ a b. unless_value (number b) (arithmetic int_rem a b) (arithmetic_value int_rem a b)) values
call_value Function.IntegralDivide kind kinds values e h all = two_value integral_divide (λ a b. unless_value (number b) (quotient (number a) (number b)) (quotient_value (number a) (number b))) values
call_value Function.Negative kind kinds values e h all = one_value negative negative_value values
call_value Function.Abs kind kinds values e h all = one_value absolute absolute_value values
call_value Function.EqualTo kind kinds values e h all = two_value (compared is_eq) (comparison_value is_eq) values
call_value Function.NotEqualTo kind kinds values e h all = two_value (compared is_ne) (comparison_value is_ne) values
call_value Function.LessThan kind kinds values e h all = two_value (compared is_lt) (comparison_value is_lt) values
call_value Function.LessThanOrEqual kind kinds values e h all = two_value (compared is_le) (comparison_value is_le) values
call_value Function.GreaterThan kind kinds values e h all = two_value (compared is_gt) (comparison_value is_gt) values
call_value Function.GreaterThanOrEqual kind kinds values e h all = two_value (compared is_ge) (comparison_value is_ge) values
call_value Function.EqualNullSafe kind kinds values e h all = two_value equal_null_safe (λ a b. tt) values
call_value Function.And kind kinds values e h all = two_value and_value (λ a b. boolean_value (and_value a b) (and_typed a b)) values
call_value Function.Or kind kinds values e h all = two_value or_value (λ a b. boolean_value (or_value a b) (or_typed a b)) values
call_value Function.Not kind kinds values e h all = one_value not_value (λ a. boolean_value (not_value a) (not_typed a)) values
call_value Function.IsNull kind kinds values e h all = one_value is_null (λ a. tt) values
call_value Function.IsNotNull kind kinds values e h all = one_value is_not_null (λ a. tt) values
call_value Function.Coalesce kind kinds values e h all = widened_value kind (coalesce values) (coalesce_value values all)
call_value Function.When kind kinds values e h all = widened_value kind (when values) (when_value values all)
call_value Function.In kind kinds values e h all = first_value member_of (λ a others. boolean_value (member_of a others) (or_all_typed (map (λ other. equal_to a other) others))) values
call_value Function.Concat kind kinds values e h all = concat_value values all
call_value Function.Length kind kinds values e h all = one_value text_length length_value values
call_value Function.StartsWith kind kinds values e h all = two_value (text_test has_start) (λ a b. boolean_value (text_test has_start a b) (text_test_typed has_start a b)) values
call_value Function.EndsWith kind kinds values e h all = two_value (text_test has_end) (λ a b. boolean_value (text_test has_end a b) (text_test_typed has_end a b)) values
call_value Function.Contains kind kinds values e h all = two_value (text_test has_part) (λ a b. boolean_value (text_test has_part a b) (text_test_typed has_part a b)) values
call_value Function.Year kind kinds values e h all = part_of_one year_of year-lt values (exact_typed (K.Date ∷ []) K.Integer kind kinds values e h)
call_value Function.Month kind kinds values e h all = part_of_one month_of month-lt values (exact_typed (K.Date ∷ []) K.Integer kind kinds values e h)
call_value Function.DayOfMonth kind kinds values e h all = part_of_one month_day_of month_day-lt values (exact_typed (K.Date ∷ []) K.Integer kind kinds values e h)
call_value Function.DateAdd kind kinds values e h all = two_value (date_moved ◌+ℤ◌) (λ a b. date_value (date_moved ◌+ℤ◌ a b) (date_moved_typed ◌+ℤ◌ a b)) values
call_value Function.DateSub kind kinds values e h all = two_value (date_moved ◌-ℤ◌) (λ a b. date_value (date_moved ◌-ℤ◌ a b) (date_moved_typed ◌-ℤ◌ a b)) values
call_value Function.DateDiff kind kinds values e h all = difference_of_two values (exact_typed (K.Date ∷ K.Date ∷ []) K.Integer kind kinds values e h)
call_value other kind kinds values e h all = tt

cast_value : (kind : DataType) (v : Value) → IsValue v → HasDateInRange v → IsValue (cast_to kind v)
cast_value K.Boolean (Boolean b) h d = tt
cast_value K.Boolean (Integer n) h d = tt
cast_value K.Boolean (Long n) h d = tt
cast_value K.Integer (Boolean b) h d = bit_integer b
cast_value K.Integer (Integer n) h d = h
cast_value K.Integer (Long n) h d = SFits-int_wrap w32 n
cast_value K.Long (Boolean b) h d = long_bits (bit b) (bit_integer b)
cast_value K.Long (Integer n) h d = long_bits n h
cast_value K.Long (Long n) h d = h
cast_value K.Text (Boolean b) h d = boolean_utf8 b
cast_value K.Text (Integer n) h d = number_utf8 n (long_bits n h)
cast_value K.Text (Long n) h d = number_utf8 n h
cast_value K.Text (Text t) h d = h
cast_value K.Text (Date day) h d = date_utf8 day d
cast_value K.Date (Date day) h d = h
cast_value kind v h d = tt

-- ---- expressions

value_of_row : (values : List Value) (place : ℕ) → AreValues values → IsValue (unwrap_or (slice_get values place) Null)
value_of_row [] place all = tt
value_of_row (v ∷ values) zero all = all.0
value_of_row (v ∷ values) (suc place) all = value_of_row values place all.1

module _ (columns : List DataType) where
  abbrev IsOneOfProgram : TypedExpr → Type 0
  IsOneOfProgram expr = IsOver columns expr → HasLiteralsInRange expr → (row : Row) → FitsTypes columns row → AreValues row.0 → IsValue (val expr row)

  arguments_values : (arguments : List TypedExpr) → AllByRecursion IsOneOfProgram arguments → AllByRecursion (IsOver columns) arguments → AllByRecursion HasLiteralsInRange arguments
      → (row : Row) → FitsTypes columns row → AreValues row.0 → AreValues (map (λ argument. val argument row) arguments)
  arguments_values [] all over literals row fits values = tt
  arguments_values (argument ∷ arguments) all over literals row fits values = (all.0 over.0 literals.0 row fits values, arguments_values arguments all.1 over.1 literals.1 row fits values)

  forms : Forms IsOneOfProgram
  forms = record {
    column = λ place kind over literals row fits values. subst IsValue (sym (values_of_forms.column place kind row)) (value_of_row row.0 place values);
    literal = λ value kind over literals row fits values.
        subst IsValue (sym (values_of_forms.literal value kind row)) (every_here IsFormInRange (V.Literal value kind) (O.Literal value kind) (V.outs-Literal value kind) literals);
    call_form = λ function arguments kind all over literals row fits values.
        let parts = every_part (IsFormOver columns) (V.Call function arguments kind) (O.Call function arguments kind) (V.outs-Call function arguments kind) over in
        let inside = every_part IsFormInRange (V.Call function arguments kind) (O.Call function arguments kind) (V.outs-Call function arguments kind) literals in
        subst IsValue (sym (values_of_forms.call_form function arguments kind row))
        (call_value function kind (kinds_of arguments) (map (λ argument. val argument row) arguments)
        (every_here (IsFormOver columns) (V.Call function arguments kind) (O.Call function arguments kind) (V.outs-Call function arguments kind) over)
        (images_typed columns arguments row parts fits) (arguments_values arguments all parts inside row fits values));
    cast = λ child kind all over literals row fits values.
        let part = (every_part (IsFormOver columns) (V.Cast child kind) (O.Cast child kind) (V.outs-Cast child kind) over).0 in
        let inside = (every_part IsFormInRange (V.Cast child kind) (O.Cast child kind) (V.outs-Cast child kind) literals).0 in
        subst IsValue (sym (values_of_forms.cast child kind row))
        (cast_value kind (val child row) (all part inside row fits values) (date_in_range (kind_of child) (val child row) (values_typed columns child row part fits)));
  }

pub value_in_range : (columns : List DataType) (expr : TypedExpr) (row : Row) → IsOver columns expr → HasLiteralsInRange expr → FitsTypes columns row → AreValues row.0 → IsValue (val expr row)
value_in_range columns expr row over literals fits values = induct (IsOneOfProgram columns) (forms columns) expr over literals row fits values

pub values_are_in_range : ValuesAreInRange
values_are_in_range columns expr row over literals fits values = value_in_range columns expr row over literals fits (recursion_from_All IsValue row.0 values)

-- ---- aggregates

pub filter-le : {X : Type 0} (p : X → Bool) (xs : List X) → length (filter p xs) ≤ length xs
filter-le p [] = omega arith
filter-le p (x ∷ xs) = kept (p x) (filter-le p xs)
  where
    kept : (b : Bool) → length (filter p xs) ≤ length xs → length (cond b (x ∷ filter p xs) (filter p xs)) ≤ length (x ∷ xs)
    kept true h = omega arith
    kept false h = omega arith

different-le : (values : List Value) → length (different values) ≤ length values
different-le [] = omega arith
different-le (v ∷ values) = kept (list_any (value_eq v) values) (different-le values)
  where
    kept : (b : Bool) → length (different values) ≤ length values → length (if b then different values else v ∷ different values) ≤ length (v ∷ values)
    kept true h = omega arith
    kept false h = omega arith

long_count : (n : ℕ) → n < 2 ^ 63 → IsLong (pos n)
long_count n h = record { sfits = h }

count_value : (distinct : Bool) (values : List Value) → length values < 2 ^ 63 → IsValue (count_of distinct values)
count_value true values h = long_count (length (different (present values))) (below (length (different (present values))) (length (present values)) (length values) (different-le (present values)) (filter-le is_present values) h)
  where
    below : (a b c : ℕ) → a ≤ b → b ≤ c → c < 2 ^ 63 → a < 2 ^ 63
    below a b c p q r = omega arith
count_value false values h = long_count (length (present values)) (below (length (present values)) (length values) (filter-le is_present values) h)
  where
    below : (b c : ℕ) → b ≤ c → c < 2 ^ 63 → b < 2 ^ 63
    below b c q r = omega arith

sum_value : (here : List Value) (n : ℤ) → IsValue (unless_empty here (wrapped_long n))
sum_value [] n = tt
sum_value (v ∷ here) n = SFits-int_wrap w64 n

aggregate_value : (function : Function) (distinct : Bool) (values : List Value) → AreValues values → length values < 2 ^ 63 → IsValue (aggregate_of function distinct values)
unfolding aggregate_of
aggregate_value Function.Count distinct values all few = count_value distinct values few
aggregate_value Function.Sum distinct values all few = sum_value (present values) (total (present values))
aggregate_value Function.Min distinct values all few = least_is IsValue tt values (present values) refl all
aggregate_value Function.Max distinct values all few = greatest_is IsValue tt values (present values) refl all
aggregate_value other distinct values all few = tt

rows_aggregate_value : (function : Function) (rows : List Row) → length rows < 2 ^ 63 → IsValue (rows_aggregate_of function rows)
unfolding rows_aggregate_of
rows_aggregate_value Function.Count rows few = long_count (length rows) few
rows_aggregate_value other rows few = tt

values_over_rows : (columns : List DataType) (argument : TypedExpr) (rows : List Row) → IsOver columns argument → HasLiteralsInRange argument → AllByRecursion (FitsTypes columns) rows → AllByRecursion (λ row. AreValues row.0) rows
    → AreValues (map (λ row. val argument row) rows)
values_over_rows columns argument [] over literals fits values = tt
values_over_rows columns argument (row ∷ rows) over literals fits values =
    (value_in_range columns argument row over literals fits.0 values.0, values_over_rows columns argument rows over literals fits.1 values.1)

pub called_in_range : (columns : List DataType) (function : Function) (distinct : Bool) (argument : Option TypedExpr) (rows : List Row) → IfSome argument (IsOver columns) → IfSome argument HasLiteralsInRange
    → AllByRecursion (FitsTypes columns) rows → AllByRecursion (λ row. AreValues row.0) rows → length rows < 2 ^ 63 → IsValue (called_over function distinct argument rows)
called_in_range columns function distinct None rows over literals fits values few = rows_aggregate_value function rows few
called_in_range columns function distinct (Some argument) rows over literals fits values few =
    aggregate_value function distinct (map (λ row. val argument row) rows) (values_over_rows columns argument rows over literals fits values)
    (subst (λ n. n < 2 ^ 63) (sym (length-map rows (λ row. val argument row))) few)

each_in_range : (rows : List Row) → AllByRecursion HasValuesInRange rows → AllByRecursion (λ row. AreValues row.0) rows
each_in_range [] all = tt
each_in_range (row ∷ rows) all = (recursion_from_All IsValue row.0 all.0, each_in_range rows all.1)

pub calls_are_in_range : CallsAreInRange
calls_are_in_range columns call kind rows over literals fits values few =
    called_in_range columns call.function call.distinct call.argument rows over.argument literals (recursion_from_All (FitsTypes columns) rows fits)
    (each_in_range rows (recursion_from_All HasValuesInRange rows values)) few
