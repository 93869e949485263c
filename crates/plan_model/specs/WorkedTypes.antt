-- Types of calls and of aggregates, and the casts that there are, written out.
use Rattle.std.specs.Prelude.{◌≡◌, true, false, Some, None, [], ◌∷◌}
use Rattle.cn_types.specs.declared.value.DataType.TheVariants.{Boolean, Integer, Long, Text, Date}
use Rattle.plan_model.specs.declared.function.Function.{Function}
use Rattle.plan_model.specs.FunctionTypes.{call_type, aggregate_type, can_cast}

-- two numbers are as wide as the wider one, and a type stands beside itself; a call that a line of the table doesn't allow has no type
pub record WorkedCallTypes : Type 0 where
  pub sum_of_numbers : call_type Function.Add (Integer ∷ Long ∷ []) ≡ Some Long
  pub no_sum_of_texts : call_type Function.Add (Text ∷ Integer ∷ []) ≡ None
  pub quotient : call_type Function.IntegralDivide (Integer ∷ Integer ∷ []) ≡ Some Long
  pub dates_compare : call_type Function.LessThan (Date ∷ Date ∷ []) ≡ Some Boolean
  pub integer_beside_long : call_type Function.EqualTo (Long ∷ Integer ∷ []) ≡ Some Boolean
  pub no_text_beside_number : call_type Function.EqualTo (Text ∷ Integer ∷ []) ≡ None
  pub negated : call_type Function.Not (Boolean ∷ []) ≡ Some Boolean
  pub no_number_negated : call_type Function.Not (Integer ∷ []) ≡ None
  pub coalesce_one : call_type Function.Coalesce (Text ∷ []) ≡ Some Text
  pub coalesce_none : call_type Function.Coalesce [] ≡ None
  pub coalesce_wide : call_type Function.Coalesce (Integer ∷ Long ∷ Integer ∷ []) ≡ Some Long
  pub when_two : call_type Function.When (Boolean ∷ Integer ∷ []) ≡ Some Integer
  pub when_otherwise : call_type Function.When (Boolean ∷ Integer ∷ Long ∷ []) ≡ Some Long
  pub when_one : call_type Function.When (Integer ∷ []) ≡ None
  pub when_number : call_type Function.When (Integer ∷ Integer ∷ Integer ∷ []) ≡ None
  pub in_two : call_type Function.In (Integer ∷ Integer ∷ []) ≡ Some Boolean
  pub in_one : call_type Function.In (Integer ∷ []) ≡ None
  pub concat_none : call_type Function.Concat [] ≡ None
  pub concat_two : call_type Function.Concat (Text ∷ Text ∷ []) ≡ Some Text
  pub concat_number : call_type Function.Concat (Text ∷ Integer ∷ []) ≡ None
  pub length_of_text : call_type Function.Length (Text ∷ []) ≡ Some Integer
  pub length_of_date : call_type Function.Length (Date ∷ []) ≡ None
  pub year_of_date : call_type Function.Year (Date ∷ []) ≡ Some Integer
  pub days_added : call_type Function.DateAdd (Date ∷ Integer ∷ []) ≡ Some Date
  pub no_longs_added : call_type Function.DateAdd (Date ∷ Long ∷ []) ≡ None
  pub days_between : call_type Function.DateDiff (Date ∷ Date ∷ []) ≡ Some Integer
  pub no_aggregate : call_type Function.Count (Integer ∷ []) ≡ None

-- rows are counted without `distinct`; of values `count` alone may be distinct, and `sum` takes numbers
pub record WorkedAggregateTypes : Type 0 where
  pub count_rows : aggregate_type Function.Count false None ≡ Some Long
  pub count_rows_distinct : aggregate_type Function.Count true None ≡ None
  pub count_distinct : aggregate_type Function.Count true (Some Text) ≡ Some Long
  pub sum_integers : aggregate_type Function.Sum false (Some Integer) ≡ Some Long
  pub sum_texts : aggregate_type Function.Sum false (Some Text) ≡ None
  pub sum_distinct : aggregate_type Function.Sum true (Some Integer) ≡ None
  pub least_boolean : aggregate_type Function.Min false (Some Boolean) ≡ Some Boolean

-- which of the five types may be cast to which
pub record CastsOfTypes : Type 0 where
  pub boolean_to_boolean : can_cast Boolean Boolean ≡ true
  pub boolean_to_integer : can_cast Boolean Integer ≡ true
  pub boolean_to_long : can_cast Boolean Long ≡ true
  pub boolean_to_text : can_cast Boolean Text ≡ true
  pub boolean_to_date : can_cast Boolean Date ≡ false
  pub integer_to_boolean : can_cast Integer Boolean ≡ true
  pub integer_to_integer : can_cast Integer Integer ≡ true
  pub integer_to_long : can_cast Integer Long ≡ true
  pub integer_to_text : can_cast Integer Text ≡ true
  pub integer_to_date : can_cast Integer Date ≡ false
  pub long_to_boolean : can_cast Long Boolean ≡ true
  pub long_to_integer : can_cast Long Integer ≡ true
  pub long_to_long : can_cast Long Long ≡ true
  pub long_to_text : can_cast Long Text ≡ true
  pub long_to_date : can_cast Long Date ≡ false
  pub text_to_boolean : can_cast Text Boolean ≡ false
  pub text_to_integer : can_cast Text Integer ≡ false
  pub text_to_long : can_cast Text Long ≡ false
  pub text_to_text : can_cast Text Text ≡ true
  pub text_to_date : can_cast Text Date ≡ false
  pub date_to_boolean : can_cast Date Boolean ≡ false
  pub date_to_integer : can_cast Date Integer ≡ false
  pub date_to_long : can_cast Date Long ≡ false
  pub date_to_text : can_cast Date Text ≡ true
  pub date_to_date : can_cast Date Date ≡ true
