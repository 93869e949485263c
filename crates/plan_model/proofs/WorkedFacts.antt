-- The worked rows compute.
use Rattle.std.proofs.Common.{refl, ap}
use Rattle.std.specs.Fmt.{digits}
use Rattle.std.specs.Int.{int_wrap}
use Rattle.std.specs.Str.{chars}
use Rattle.cn_types.specs.declared.value.Value.TheVariants.{Text}
use Rattle.plan_model.specs.Aggregates.{aggregate_of}
use Rattle.plan_model.specs.Functions.{call}
use Rattle.plan_model.specs.FunctionTypes.{call_type}
use Rattle.plan_model.specs.WorkedRows.{WorkedNumbers, WorkedTruths, WorkedComparisons, WorkedTextsAndDates, WorkedCasts, WorkedAggregates}
use Rattle.plan_model.specs.WorkedTypes.{WorkedCallTypes, WorkedAggregateTypes, CastsOfTypes}
use Rattle.plan_model.proofs.FunctionFacts.{leap_day_text}

pub worked_numbers : WorkedNumbers
unfolding call int_wrap
worked_numbers = record {
  sum_wraps = refl;
  sum_widens = refl;
  remainder_has_the_left_sign = refl;
  remainder_by_zero = refl;
  quotient_is_towards_zero = refl;
  quotient_wraps = refl;
  quotient_by_zero = refl;
  least_integer_has_no_opposite = refl;
  absolute_value = refl;
  difference = refl;
  difference_of_longs_wraps = refl;
  product_wraps = refl;
  product_of_longs_wraps = refl;
  sum_of_longs_wraps = refl;
  long_first = refl;
  remainder_by_a_negative = refl;
  quotient_of_integers_is_long = refl;
  opposite = refl;
  opposite_of_a_long = refl;
  least_long_has_no_opposite = refl;
  absolute_integer = refl;
  positive_stays = refl;
  least_integer_stays = refl;
}

pub worked_truths : WorkedTruths
unfolding call
worked_truths = record {
  member_not_known = refl;
  member_found = refl;
  member_missing = refl;
  null_and_false = refl;
  null_or_false = refl;
  null_is_null = refl;
  null_is_below_nothing = refl;
  first_present_widens = refl;
  no_condition_is_true = refl;
  otherwise_is_last = refl;
  not_true = refl;
  not_null = refl;
  null_is_there = refl;
  one_is_not_null = refl;
  null_is_not_there = refl;
  one_is_there = refl;
  null_among = refl;
  first_true_condition = refl;
  value_widens = refl;
}

pub worked_texts_and_dates : WorkedTextsAndDates
unfolding call int_wrap chars
worked_texts_and_dates = record {
  one_character_of_two_bytes = refl;
  joined_with_null = refl;
  part_within = refl;
  end_missing = refl;
  day_after_the_last = refl;
  day_before_the_last = refl;
  days_between = refl;
  joined_in_order = refl;
  one_character_of_four_bytes = refl;
  start_found = refl;
  start_missing = refl;
  end_found = refl;
  no_part = refl;
  day_moved = refl;
  day_before_the_first = refl;
}

pub worked_casts : WorkedCasts
unfolding int_wrap digits
worked_casts = record {
  long_to_integer = refl;
  integer_to_long = refl;
  integer_to_text = refl;
  boolean_to_text = refl;
  boolean_to_integer = refl;
  long_to_boolean = refl;
  null_to_text = refl;
  integer_to_boolean = refl;
  zero_to_boolean = refl;
  negative_long_to_boolean = refl;
  false_to_integer = refl;
  true_to_long = refl;
  false_to_text = refl;
  long_to_text = refl;
  text_stays = refl;
  date_to_text = ap Text leap_day_text;
}

pub worked_aggregates : WorkedAggregates
unfolding aggregate_of int_wrap
worked_aggregates = record {
  sum_of_longs_wraps = refl;
  sum_of_integers_is_long = refl;
  sum_of_nulls = refl;
  different_values = refl;
  present_values = refl;
  least_of_none = refl;
  greatest_of_none = refl;
  least_value = refl;
  greatest_text = refl;
}

pub worked_comparisons : WorkedComparisons
unfolding call
worked_comparisons = record {
  equal_before = refl;
  equal_same = refl;
  equal_behind = refl;
  not_equal_before = refl;
  not_equal_same = refl;
  not_equal_behind = refl;
  less_before = refl;
  less_same = refl;
  less_behind = refl;
  at_most_before = refl;
  at_most_same = refl;
  at_most_behind = refl;
  greater_before = refl;
  greater_same = refl;
  greater_behind = refl;
  at_least_before = refl;
  at_least_same = refl;
  at_least_behind = refl;
  texts_by_bytes = refl;
  texts_turned = refl;
  a_beginning_is_less = refl;
  accents_come_last = refl;
  false_is_less = refl;
  true_is_not = refl;
  earlier_is_less = refl;
  long_beside_integer = refl;
  later_is_not = refl;
  integer_is_the_long = refl;
  null_is_no_number = refl;
}

pub worked_call_types : WorkedCallTypes
unfolding call_type
worked_call_types = record {
  sum_of_numbers = refl;
  no_sum_of_texts = refl;
  quotient = refl;
  dates_compare = refl;
  integer_beside_long = refl;
  no_text_beside_number = refl;
  negated = refl;
  no_number_negated = refl;
  coalesce_one = refl;
  coalesce_none = refl;
  coalesce_wide = refl;
  when_two = refl;
  when_otherwise = refl;
  when_one = refl;
  when_number = refl;
  in_two = refl;
  in_one = refl;
  concat_none = refl;
  concat_two = refl;
  concat_number = refl;
  length_of_text = refl;
  length_of_date = refl;
  year_of_date = refl;
  days_added = refl;
  no_longs_added = refl;
  days_between = refl;
  no_aggregate = refl;
}

pub worked_aggregate_types : WorkedAggregateTypes
worked_aggregate_types = record {
  count_rows = refl;
  count_rows_distinct = refl;
  count_distinct = refl;
  sum_integers = refl;
  sum_texts = refl;
  sum_distinct = refl;
  least_boolean = refl;
}

pub casts_of_types : CastsOfTypes
casts_of_types = record {
  boolean_to_boolean = refl;
  boolean_to_integer = refl;
  boolean_to_long = refl;
  boolean_to_text = refl;
  boolean_to_date = refl;
  integer_to_boolean = refl;
  integer_to_integer = refl;
  integer_to_long = refl;
  integer_to_text = refl;
  integer_to_date = refl;
  long_to_boolean = refl;
  long_to_integer = refl;
  long_to_long = refl;
  long_to_text = refl;
  long_to_date = refl;
  text_to_boolean = refl;
  text_to_integer = refl;
  text_to_long = refl;
  text_to_text = refl;
  text_to_date = refl;
  date_to_boolean = refl;
  date_to_integer = refl;
  date_to_long = refl;
  date_to_text = refl;
  date_to_date = refl;
}
