-- Values of calls, casts and aggregates, written out.
use Rattle.std.specs.Prelude.{◌≡◌, pos, negsuc, true, false, [], ◌∷◌}
use Rattle.cn_types.specs.declared.value.DataType.{DataType}
use Rattle.cn_types.specs.declared.value.Value.TheVariants.{Null, Boolean, Integer, Long, Text, Date}
use Rattle.plan_model.specs.declared.function.Function.{Function}
use Rattle.plan_model.specs.Aggregates.{aggregate_of}
use Rattle.plan_model.specs.Casts.{cast_to}
use Rattle.plan_model.specs.Functions.{call}

-- numbers wrap, divisions go towards zero and give null by zero
pub record WorkedNumbers : Type 0 where
  pub sum_wraps : call Function.Add DataType.Integer (Integer (pos 2147483647) ∷ Integer (pos 1) ∷ []) ≡ Integer (negsuc 2147483647)
  pub sum_widens : call Function.Add DataType.Long (Integer (pos 2147483647) ∷ Long (pos 1) ∷ []) ≡ Long (pos 2147483648)
  pub remainder_has_the_left_sign : call Function.Remainder DataType.Integer (Integer (negsuc 6) ∷ Integer (pos 3) ∷ []) ≡ Integer (negsuc 0)
  pub remainder_by_zero : call Function.Remainder DataType.Integer (Integer (pos 7) ∷ Integer (pos 0) ∷ []) ≡ Null
  pub quotient_is_towards_zero : call Function.IntegralDivide DataType.Long (Integer (negsuc 6) ∷ Integer (pos 2) ∷ []) ≡ Long (negsuc 2)
  pub quotient_wraps : call Function.IntegralDivide DataType.Long (Long (negsuc 9223372036854775807) ∷ Long (negsuc 0) ∷ []) ≡ Long (negsuc 9223372036854775807)
  pub quotient_by_zero : call Function.IntegralDivide DataType.Long (Long (pos 1) ∷ Integer (pos 0) ∷ []) ≡ Null
  pub least_integer_has_no_opposite : call Function.Negative DataType.Integer (Integer (negsuc 2147483647) ∷ []) ≡ Integer (negsuc 2147483647)
  pub absolute_value : call Function.Abs DataType.Long (Long (negsuc 4) ∷ []) ≡ Long (pos 5)
  pub difference : call Function.Subtract DataType.Integer (Integer (pos 5) ∷ Integer (pos 7) ∷ []) ≡ Integer (negsuc 1)
  pub difference_of_longs_wraps : call Function.Subtract DataType.Long (Long (negsuc 9223372036854775807) ∷ Integer (pos 1) ∷ []) ≡ Long (pos 9223372036854775807)
  pub product_wraps : call Function.Multiply DataType.Integer (Integer (pos 65536) ∷ Integer (pos 65537) ∷ []) ≡ Integer (pos 65536)
  pub product_of_longs_wraps : call Function.Multiply DataType.Long (Long (pos 3037000500) ∷ Long (pos 3037000500) ∷ []) ≡ Long (negsuc 9223372036709301615)
  pub sum_of_longs_wraps : call Function.Add DataType.Long (Long (pos 9223372036854775807) ∷ Long (pos 1) ∷ []) ≡ Long (negsuc 9223372036854775807)
  pub long_first : call Function.Subtract DataType.Long (Long (pos 1) ∷ Integer (pos 3) ∷ []) ≡ Long (negsuc 1)
  pub remainder_by_a_negative : call Function.Remainder DataType.Integer (Integer (pos 7) ∷ Integer (negsuc 2) ∷ []) ≡ Integer (pos 1)
  pub quotient_of_integers_is_long : call Function.IntegralDivide DataType.Long (Integer (negsuc 2147483647) ∷ Integer (negsuc 0) ∷ []) ≡ Long (pos 2147483648)
  pub opposite : call Function.Negative DataType.Integer (Integer (pos 5) ∷ []) ≡ Integer (negsuc 4)
  pub opposite_of_a_long : call Function.Negative DataType.Long (Long (pos 5) ∷ []) ≡ Long (negsuc 4)
  pub least_long_has_no_opposite : call Function.Negative DataType.Long (Long (negsuc 9223372036854775807) ∷ []) ≡ Long (negsuc 9223372036854775807)
  pub absolute_integer : call Function.Abs DataType.Integer (Integer (negsuc 4) ∷ []) ≡ Integer (pos 5)
  pub positive_stays : call Function.Abs DataType.Long (Long (pos 5) ∷ []) ≡ Long (pos 5)
  pub least_integer_stays : call Function.Abs DataType.Integer (Integer (negsuc 2147483647) ∷ []) ≡ Integer (negsuc 2147483647)

-- a null answers only where nothing else decides
pub record WorkedTruths : Type 0 where
  pub member_not_known : call Function.In DataType.Boolean (Integer (pos 1) ∷ Integer (pos 2) ∷ Null ∷ []) ≡ Null
  pub member_found : call Function.In DataType.Boolean (Integer (pos 1) ∷ Null ∷ Long (pos 1) ∷ []) ≡ Boolean true
  pub member_missing : call Function.In DataType.Boolean (Integer (pos 1) ∷ Integer (pos 2) ∷ []) ≡ Boolean false
  pub null_and_false : call Function.And DataType.Boolean (Null ∷ Boolean false ∷ []) ≡ Boolean false
  pub null_or_false : call Function.Or DataType.Boolean (Null ∷ Boolean false ∷ []) ≡ Null
  pub null_is_null : call Function.EqualNullSafe DataType.Boolean (Null ∷ Null ∷ []) ≡ Boolean true
  pub null_is_below_nothing : call Function.LessThan DataType.Boolean (Null ∷ Integer (pos 1) ∷ []) ≡ Null
  pub first_present_widens : call Function.Coalesce DataType.Long (Null ∷ Integer (pos 1) ∷ Long (pos 2) ∷ []) ≡ Long (pos 1)
  pub no_condition_is_true : call Function.When DataType.Integer (Null ∷ Integer (pos 1) ∷ []) ≡ Null
  pub otherwise_is_last : call Function.When DataType.Integer (Boolean false ∷ Integer (pos 1) ∷ Integer (pos 2) ∷ []) ≡ Integer (pos 2)
  pub not_true : call Function.Not DataType.Boolean (Boolean true ∷ []) ≡ Boolean false
  pub not_null : call Function.Not DataType.Boolean (Null ∷ []) ≡ Null
  pub null_is_there : call Function.IsNull DataType.Boolean (Null ∷ []) ≡ Boolean true
  pub one_is_not_null : call Function.IsNull DataType.Boolean (Integer (pos 1) ∷ []) ≡ Boolean false
  pub null_is_not_there : call Function.IsNotNull DataType.Boolean (Null ∷ []) ≡ Boolean false
  pub one_is_there : call Function.IsNotNull DataType.Boolean (Integer (pos 1) ∷ []) ≡ Boolean true
  pub null_among : call Function.In DataType.Boolean (Null ∷ Integer (pos 1) ∷ []) ≡ Null
  pub first_true_condition : call Function.When DataType.Integer (Null ∷ Integer (pos 1) ∷ Boolean true ∷ Integer (pos 2) ∷ Boolean true ∷ Integer (pos 3) ∷ Integer (pos 4) ∷ []) ≡ Integer (pos 2)
  pub value_widens : call Function.When DataType.Long (Boolean true ∷ Integer (pos 1) ∷ Long (pos 2) ∷ []) ≡ Long (pos 1)

-- an integer beside a long is compared as that long, texts by their bytes, false before true, and dates by their days
pub record WorkedComparisons : Type 0 where
  pub equal_before : call Function.EqualTo DataType.Boolean (Integer (pos 1) ∷ Long (pos 2) ∷ []) ≡ Boolean false
  pub equal_same : call Function.EqualTo DataType.Boolean (Integer (pos 2) ∷ Long (pos 2) ∷ []) ≡ Boolean true
  pub equal_behind : call Function.EqualTo DataType.Boolean (Integer (pos 2) ∷ Long (pos 1) ∷ []) ≡ Boolean false
  pub not_equal_before : call Function.NotEqualTo DataType.Boolean (Integer (pos 1) ∷ Long (pos 2) ∷ []) ≡ Boolean true
  pub not_equal_same : call Function.NotEqualTo DataType.Boolean (Integer (pos 2) ∷ Long (pos 2) ∷ []) ≡ Boolean false
  pub not_equal_behind : call Function.NotEqualTo DataType.Boolean (Integer (pos 2) ∷ Long (pos 1) ∷ []) ≡ Boolean true
  pub less_before : call Function.LessThan DataType.Boolean (Integer (pos 1) ∷ Long (pos 2) ∷ []) ≡ Boolean true
  pub less_same : call Function.LessThan DataType.Boolean (Integer (pos 2) ∷ Long (pos 2) ∷ []) ≡ Boolean false
  pub less_behind : call Function.LessThan DataType.Boolean (Integer (pos 2) ∷ Long (pos 1) ∷ []) ≡ Boolean false
  pub at_most_before : call Function.LessThanOrEqual DataType.Boolean (Integer (pos 1) ∷ Long (pos 2) ∷ []) ≡ Boolean true
  pub at_most_same : call Function.LessThanOrEqual DataType.Boolean (Integer (pos 2) ∷ Long (pos 2) ∷ []) ≡ Boolean true
  pub at_most_behind : call Function.LessThanOrEqual DataType.Boolean (Integer (pos 2) ∷ Long (pos 1) ∷ []) ≡ Boolean false
  pub greater_before : call Function.GreaterThan DataType.Boolean (Integer (pos 1) ∷ Long (pos 2) ∷ []) ≡ Boolean false
  pub greater_same : call Function.GreaterThan DataType.Boolean (Integer (pos 2) ∷ Long (pos 2) ∷ []) ≡ Boolean false
  pub greater_behind : call Function.GreaterThan DataType.Boolean (Integer (pos 2) ∷ Long (pos 1) ∷ []) ≡ Boolean true
  pub at_least_before : call Function.GreaterThanOrEqual DataType.Boolean (Integer (pos 1) ∷ Long (pos 2) ∷ []) ≡ Boolean false
  pub at_least_same : call Function.GreaterThanOrEqual DataType.Boolean (Integer (pos 2) ∷ Long (pos 2) ∷ []) ≡ Boolean true
  pub at_least_behind : call Function.GreaterThanOrEqual DataType.Boolean (Integer (pos 2) ∷ Long (pos 1) ∷ []) ≡ Boolean true
  pub texts_by_bytes : call Function.LessThan DataType.Boolean (Text (97 ∷ 98 ∷ []) ∷ Text (98 ∷ []) ∷ []) ≡ Boolean true
  pub texts_turned : call Function.LessThan DataType.Boolean (Text (98 ∷ []) ∷ Text (97 ∷ 98 ∷ []) ∷ []) ≡ Boolean false
  pub a_beginning_is_less : call Function.LessThan DataType.Boolean (Text (97 ∷ []) ∷ Text (97 ∷ 98 ∷ []) ∷ []) ≡ Boolean true
  pub accents_come_last : call Function.LessThan DataType.Boolean (Text (122 ∷ []) ∷ Text (195 ∷ 169 ∷ []) ∷ []) ≡ Boolean true
  pub false_is_less : call Function.LessThan DataType.Boolean (Boolean false ∷ Boolean true ∷ []) ≡ Boolean true
  pub true_is_not : call Function.LessThan DataType.Boolean (Boolean true ∷ Boolean false ∷ []) ≡ Boolean false
  pub earlier_is_less : call Function.LessThan DataType.Boolean (Date (negsuc 0) ∷ Date (pos 0) ∷ []) ≡ Boolean true
  pub long_beside_integer : call Function.LessThan DataType.Boolean (Long (pos 1) ∷ Integer (pos 2) ∷ []) ≡ Boolean true
  pub later_is_not : call Function.LessThan DataType.Boolean (Long (pos 2) ∷ Integer (pos 1) ∷ []) ≡ Boolean false
  pub integer_is_the_long : call Function.EqualNullSafe DataType.Boolean (Integer (pos 1) ∷ Long (pos 1) ∷ []) ≡ Boolean true
  pub null_is_no_number : call Function.EqualNullSafe DataType.Boolean (Null ∷ Integer (pos 1) ∷ []) ≡ Boolean false

-- texts are counted by characters, and dates stay in range
pub record WorkedTextsAndDates : Type 0 where
  pub one_character_of_two_bytes : call Function.Length DataType.Integer (Text (195 ∷ 169 ∷ []) ∷ []) ≡ Integer (pos 1)
  pub joined_with_null : call Function.Concat DataType.Text (Text (97 ∷ []) ∷ Null ∷ []) ≡ Null
  pub part_within : call Function.Contains DataType.Boolean (Text (97 ∷ 98 ∷ 99 ∷ []) ∷ Text (98 ∷ []) ∷ []) ≡ Boolean true
  pub end_missing : call Function.EndsWith DataType.Boolean (Text (97 ∷ 98 ∷ []) ∷ Text (97 ∷ []) ∷ []) ≡ Boolean false
  pub day_after_the_last : call Function.DateAdd DataType.Date (Date (pos 2932896) ∷ Integer (pos 1) ∷ []) ≡ Null
  pub day_before_the_last : call Function.DateSub DataType.Date (Date (pos 2932896) ∷ Integer (pos 1) ∷ []) ≡ Date (pos 2932895)
  pub days_between : call Function.DateDiff DataType.Integer (Date (pos 1) ∷ Date (negsuc 0) ∷ []) ≡ Integer (pos 2)
  pub joined_in_order : call Function.Concat DataType.Text (Text (97 ∷ []) ∷ Text (98 ∷ 99 ∷ []) ∷ Text [] ∷ []) ≡ Text (97 ∷ 98 ∷ 99 ∷ [])
  pub one_character_of_four_bytes : call Function.Length DataType.Integer (Text (240 ∷ 159 ∷ 152 ∷ 128 ∷ []) ∷ []) ≡ Integer (pos 1)
  pub start_found : call Function.StartsWith DataType.Boolean (Text (97 ∷ 98 ∷ []) ∷ Text (97 ∷ []) ∷ []) ≡ Boolean true
  pub start_missing : call Function.StartsWith DataType.Boolean (Text (97 ∷ 98 ∷ []) ∷ Text (98 ∷ []) ∷ []) ≡ Boolean false
  pub end_found : call Function.EndsWith DataType.Boolean (Text (97 ∷ 98 ∷ []) ∷ Text (98 ∷ []) ∷ []) ≡ Boolean true
  pub no_part : call Function.Contains DataType.Boolean (Text (97 ∷ 98 ∷ []) ∷ Text (98 ∷ 97 ∷ []) ∷ []) ≡ Boolean false
  pub day_moved : call Function.DateAdd DataType.Date (Date (pos 19782) ∷ Integer (negsuc 364) ∷ []) ≡ Date (pos 19417)
  pub day_before_the_first : call Function.DateSub DataType.Date (Date (negsuc 719161) ∷ Integer (pos 1) ∷ []) ≡ Null

-- a cast to fewer bits keeps the low ones, and one to a text prints
pub record WorkedCasts : Type 0 where
  pub long_to_integer : cast_to DataType.Integer (Long (pos 4294967297)) ≡ Integer (pos 1)
  pub integer_to_long : cast_to DataType.Long (Integer (negsuc 0)) ≡ Long (negsuc 0)
  pub integer_to_text : cast_to DataType.Text (Integer (negsuc 11)) ≡ Text (45 ∷ 49 ∷ 50 ∷ [])
  pub boolean_to_text : cast_to DataType.Text (Boolean true) ≡ Text (116 ∷ 114 ∷ 117 ∷ 101 ∷ [])
  pub boolean_to_integer : cast_to DataType.Integer (Boolean true) ≡ Integer (pos 1)
  pub long_to_boolean : cast_to DataType.Boolean (Long (pos 0)) ≡ Boolean false
  pub null_to_text : cast_to DataType.Text Null ≡ Null
  pub integer_to_boolean : cast_to DataType.Boolean (Integer (pos 2)) ≡ Boolean true
  pub zero_to_boolean : cast_to DataType.Boolean (Integer (pos 0)) ≡ Boolean false
  pub negative_long_to_boolean : cast_to DataType.Boolean (Long (negsuc 0)) ≡ Boolean true
  pub false_to_integer : cast_to DataType.Integer (Boolean false) ≡ Integer (pos 0)
  pub true_to_long : cast_to DataType.Long (Boolean true) ≡ Long (pos 1)
  pub false_to_text : cast_to DataType.Text (Boolean false) ≡ Text (102 ∷ 97 ∷ 108 ∷ 115 ∷ 101 ∷ [])
  pub long_to_text : cast_to DataType.Text (Long (pos 4294967296)) ≡ Text (52 ∷ 50 ∷ 57 ∷ 52 ∷ 57 ∷ 54 ∷ 55 ∷ 50 ∷ 57 ∷ 54 ∷ [])
  pub text_stays : cast_to DataType.Text (Text (97 ∷ 92 ∷ 98 ∷ [])) ≡ Text (97 ∷ 92 ∷ 98 ∷ [])
  pub date_to_text : cast_to DataType.Text (Date (pos 19782)) ≡ Text (50 ∷ 48 ∷ 50 ∷ 52 ∷ 45 ∷ 48 ∷ 50 ∷ 45 ∷ 50 ∷ 57 ∷ [])

-- a sum wraps, equal values count once where it is distinct, and nulls never count
pub record WorkedAggregates : Type 0 where
  pub sum_of_longs_wraps : aggregate_of Function.Sum false (Long (pos 9223372036854775807) ∷ Long (pos 1) ∷ []) ≡ Long (negsuc 9223372036854775807)
  pub sum_of_integers_is_long : aggregate_of Function.Sum false (Integer (pos 2147483647) ∷ Null ∷ Integer (pos 1) ∷ []) ≡ Long (pos 2147483648)
  pub sum_of_nulls : aggregate_of Function.Sum false (Null ∷ Null ∷ []) ≡ Null
  pub different_values : aggregate_of Function.Count true (Integer (pos 1) ∷ Integer (pos 1) ∷ Null ∷ []) ≡ Long (pos 1)
  pub present_values : aggregate_of Function.Count false (Integer (pos 1) ∷ Integer (pos 1) ∷ Null ∷ []) ≡ Long (pos 2)
  pub least_of_none : aggregate_of Function.Min false (Null ∷ []) ≡ Null
  pub greatest_of_none : aggregate_of Function.Max false [] ≡ Null
  pub least_value : aggregate_of Function.Min false (Integer (pos 2) ∷ Null ∷ Integer (negsuc 0) ∷ []) ≡ Integer (negsuc 0)
  pub greatest_text : aggregate_of Function.Max false (Text (97 ∷ []) ∷ Text (97 ∷ 98 ∷ []) ∷ []) ≡ Text (97 ∷ 98 ∷ [])
