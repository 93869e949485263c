-- When calls are null.
use Rattle.std.proofs.Common.{◌≡◌, ◌≢◌, ℕ, ℤ, pos, ◌+ℤ◌, ◌-ℤ◌, ◌*ℤ◌, Bool, true, false, not, ◌||◌, if◌then◌else◌, Option, None, Some, unwrap_or, List, [], ◌∷◌, ◌++◌, refl, sym, ap, ◌∙◌, subst, inl, inr, ◌⊎◌}
use Rattle.std.specs.Prelude.{find, int_rem, int_div, neg_ℤ, unsigned_abs}
use Rattle.std.specs.Cmp.Lexicographic.{pointwise}
use Rattle.std.specs.declared.cmp.Ordering.{Ordering}
use Rattle.std.specs.List.{AllByRecursion, list_all}
use Rattle.std.specs.Ordering.{is_eq, is_ne, is_lt, is_le, is_gt, is_ge, int_eq}
use Rattle.std.proofs.lemmas.Bool.{false≢true, false_from_ne_true, and_parts}
use Rattle.std.proofs.lemmas.Bool.Decides.{Decides-int_eq}
use Rattle.cn_types.specs.Dates.{year_of, month_of, month_day_of}
use Rattle.cn_types.specs.declared.value.DataType.{DataType}
use Rattle.cn_types.specs.declared.value.DataType.TheVariants as K
use Rattle.cn_types.specs.declared.value.Value.{Value}
use Rattle.cn_types.specs.declared.value.Value.TheVariants.{Null, Boolean, Integer, Long, Text, Date}
use Rattle.cn_types.specs.Fit.{HasType, HaveTypes, IsDay}
use Rattle.cn_types.specs.Order.{value_cmp}
use Rattle.plan_model.specs.declared.function.Function.{Function}
use Rattle.plan_model.specs.AggregateLaws.{IsOneOf}
use Rattle.plan_model.specs.Arithmetic.{arithmetic, number, unless_by_zero, remainder, quotient, integral_divide, negative, absolute}
use Rattle.plan_model.specs.CallLaws.{IsAllowedCall, wrapped_to, branches_of, AreNotTrue, treats_null, IsNullFor, NullsAreTold}
use Rattle.plan_model.specs.Comparisons.{judged, compared, equal_null_safe, member_of}
use Rattle.plan_model.specs.Conditionals.{widened, coalesce, when}
use Rattle.plan_model.specs.DateFunctions.{is_day, date_in_range, date_moved, date_difference, date_part}
use Rattle.plan_model.specs.Functions.{of_one, of_two, of_first, call}
use Rattle.plan_model.specs.FunctionTypes.{same_kind, wider, common, common_of, exactly, by_one, by_two, always, in_type, concat_type, call_type}
use Rattle.plan_model.specs.Texts.{joined, concat, text_length, has_start, has_end, has_part, text_test}
use Rattle.plan_model.specs.Truth.{and_value, or_value, not_value, is_null, is_not_null, is_true, is_present}
use Rattle.plan_model.proofs.CallFacts.{compares, compared_in, computed, negated, made_absolute, quotient_is, remainder_is, present-is, when-nothing, widened-Null, in_range}
use Rattle.plan_model.proofs.CallTypes.{Widens, common_widens}
use Rattle.plan_model.proofs.CastFacts.{days_tested}

-- ---- a null argument

module _ (f : Value → Value → Value) (left : (b : Value) → f Null b ≡ Null) (right : (a : Value) → f a Null ≡ Null) where
  null_of_two : (values : List Value) → IsOneOf Null values → of_two f values ≡ Null
  null_of_two [] one = refl
  null_of_two (a ∷ []) one = refl
  null_of_two (a ∷ b ∷ []) (inl e) = ap (λ v. f v b) (sym e) ∙ left b
  null_of_two (a ∷ b ∷ []) (inr (inl e)) = ap (f a) (sym e) ∙ right a
  null_of_two (a ∷ b ∷ []) (inr (inr one)) = absurd one
  null_of_two (a ∷ b ∷ c ∷ values) one = refl

null_of_one : (f : Value → Value) → f Null ≡ Null → (values : List Value) → IsOneOf Null values → of_one f values ≡ Null
null_of_one f null [] one = refl
null_of_one f null (a ∷ []) (inl e) = ap f (sym e) ∙ null
null_of_one f null (a ∷ []) (inr one) = absurd one
null_of_one f null (a ∷ b ∷ values) one = refl

arithmetic-right : (op : ℤ → ℤ → ℤ) (a : Value) → arithmetic op a Null ≡ Null
arithmetic-right op (Integer a) = refl
arithmetic-right op (Long a) = refl
arithmetic-right op a = refl

null_or_null : (b : Bool) → ◌≡◌ {A = Value} (if b then Null else Null) Null
null_or_null true = refl
null_or_null false = refl

unless-null : (divisor : Option ℤ) → unless_by_zero divisor Null ≡ Null
unless-null None = refl
unless-null (Some d) = null_or_null (int_eq d (pos 0))

compared-right : (test : Ordering → Bool) (a : Value) → compared test a Null ≡ Null
compared-right test Null = refl
compared-right test (Boolean a) = refl
compared-right test (Integer a) = refl
compared-right test (Long a) = refl
compared-right test (Text a) = refl
compared-right test (Date a) = refl

joined-right : (a : Value) → joined a Null ≡ Null
joined-right (Text a) = refl
joined-right a = refl

null_of_concat : (values : List Value) → IsOneOf Null values → concat values ≡ Null
null_of_concat [] one = absurd one
null_of_concat (v ∷ values) (inl e) = ap (λ u. joined u (concat values)) (sym e)
null_of_concat (v ∷ values) (inr one) = ap (joined v) (null_of_concat values one) ∙ joined-right v

tested-right : (test : List ℕ → List ℕ → Bool) (a : Value) → text_test test a Null ≡ Null
tested-right test (Text a) = refl
tested-right test a = refl

moved-right : (move : ℤ → ℤ → ℤ) (a : Value) → date_moved move a Null ≡ Null
moved-right move (Date a) = refl
moved-right move a = refl

difference-right : (a : Value) → date_difference a Null ≡ Null
difference-right (Date a) = refl
difference-right a = refl

null_for_null : (function : Function) (kind : DataType) (values : List Value) → treats_null function ≡ false → IsOneOf Null values → call function kind values ≡ Null
unfolding call
null_for_null Function.Add kind values e one = null_of_two (arithmetic ◌+ℤ◌) (λ b. refl) (arithmetic-right ◌+ℤ◌) values one
null_for_null Function.Subtract kind values e one = null_of_two (arithmetic ◌-ℤ◌) (λ b. refl) (arithmetic-right ◌-ℤ◌) values one
null_for_null Function.Multiply kind values e one = null_of_two (arithmetic ◌*ℤ◌) (λ b. refl) (arithmetic-right ◌*ℤ◌) values one
null_for_null Function.Remainder kind values e one = null_of_two remainder (λ b. unless-null (number b)) (λ a. refl) values one
null_for_null Function.IntegralDivide kind values e one = null_of_two integral_divide (λ b. unless-null (number b)) (λ a. refl) values one
null_for_null Function.Negative kind values e one = null_of_one negative refl values one
null_for_null Function.Abs kind values e one = null_of_one absolute refl values one
null_for_null Function.EqualTo kind values e one = null_of_two (compared is_eq) (λ b. refl) (compared-right is_eq) values one
null_for_null Function.NotEqualTo kind values e one = null_of_two (compared is_ne) (λ b. refl) (compared-right is_ne) values one
null_for_null Function.LessThan kind values e one = null_of_two (compared is_lt) (λ b. refl) (compared-right is_lt) values one
null_for_null Function.LessThanOrEqual kind values e one = null_of_two (compared is_le) (λ b. refl) (compared-right is_le) values one
null_for_null Function.GreaterThan kind values e one = null_of_two (compared is_gt) (λ b. refl) (compared-right is_gt) values one
null_for_null Function.GreaterThanOrEqual kind values e one = null_of_two (compared is_ge) (λ b. refl) (compared-right is_ge) values one
null_for_null Function.EqualNullSafe kind values e one = cc
null_for_null Function.And kind values e one = cc
null_for_null Function.Or kind values e one = cc
null_for_null Function.Not kind values e one = null_of_one not_value refl values one
null_for_null Function.IsNull kind values e one = cc
null_for_null Function.IsNotNull kind values e one = cc
null_for_null Function.Coalesce kind values e one = cc
null_for_null Function.When kind values e one = cc
null_for_null Function.In kind values e one = cc
null_for_null Function.Concat kind values e one = null_of_concat values one
null_for_null Function.Length kind values e one = null_of_one text_length refl values one
null_for_null Function.StartsWith kind values e one = null_of_two (text_test has_start) (λ b. refl) (tested-right has_start) values one
null_for_null Function.EndsWith kind values e one = null_of_two (text_test has_end) (λ b. refl) (tested-right has_end) values one
null_for_null Function.Contains kind values e one = null_of_two (text_test has_part) (λ b. refl) (tested-right has_part) values one
null_for_null Function.Year kind values e one = null_of_one (date_part year_of) refl values one
null_for_null Function.Month kind values e one = null_of_one (date_part month_of) refl values one
null_for_null Function.DayOfMonth kind values e one = null_of_one (date_part month_day_of) refl values one
null_for_null Function.DateAdd kind values e one = null_of_two (date_moved ◌+ℤ◌) (λ b. refl) (moved-right ◌+ℤ◌) values one
null_for_null Function.DateSub kind values e one = null_of_two (date_moved ◌-ℤ◌) (λ b. refl) (moved-right ◌-ℤ◌) values one
null_for_null Function.DateDiff kind values e one = null_of_two date_difference (λ b. refl) difference-right values one
null_for_null other kind values e one = refl

-- ---- the functions that treat null

abbrev Treats : Function → Type 0
Treats function = (kind : DataType) × (values : List Value) × IsAllowedCall function kind values × IsOneOf Null values × (call function kind values ≢ Null)

treated : (function : Function) → treats_null function ≡ true → Treats function
unfolding call call_type
treated Function.EqualNullSafe e = (
  K.Boolean,
  Null ∷ Null ∷ [],
  record { kinds = K.Integer ∷ K.Integer ∷ []; allowed = refl; typed = (tt, (tt, tt)) },
  inl refl,
  λ (e : Boolean true ≡ Null). cc,
)
treated Function.And e = (
  K.Boolean,
  Null ∷ Boolean false ∷ [],
  record { kinds = K.Boolean ∷ K.Boolean ∷ []; allowed = refl; typed = (tt, (tt, tt)) },
  inl refl,
  λ (e : Boolean false ≡ Null). cc,
)
treated Function.Or e = (
  K.Boolean,
  Null ∷ Boolean true ∷ [],
  record { kinds = K.Boolean ∷ K.Boolean ∷ []; allowed = refl; typed = (tt, (tt, tt)) },
  inl refl,
  λ (e : Boolean true ≡ Null). cc,
)
treated Function.IsNull e = (K.Boolean, Null ∷ [], record { kinds = K.Integer ∷ []; allowed = refl; typed = (tt, tt) }, inl refl, λ (e : Boolean true ≡ Null). cc)
treated Function.IsNotNull e = (K.Boolean, Null ∷ [], record { kinds = K.Integer ∷ []; allowed = refl; typed = (tt, tt) }, inl refl, λ (e : Boolean false ≡ Null). cc)
treated Function.Coalesce e = (
  K.Integer,
  Null ∷ Integer (pos 1) ∷ [],
  record { kinds = K.Integer ∷ K.Integer ∷ []; allowed = refl; typed = (tt, (tt, tt)) },
  inl refl,
  λ (e : Integer (pos 1) ≡ Null). cc,
)
treated Function.When e = (
  K.Integer,
  Null ∷ Integer (pos 1) ∷ Integer (pos 2) ∷ [],
  record { kinds = K.Boolean ∷ K.Integer ∷ K.Integer ∷ []; allowed = refl; typed = (tt, (tt, (tt, tt))) },
  inl refl,
  λ (e : Integer (pos 2) ≡ Null). cc,
)
treated Function.In e = (
  K.Boolean,
  Integer (pos 1) ∷ Null ∷ Integer (pos 1) ∷ [],
  record { kinds = K.Integer ∷ K.Integer ∷ K.Integer ∷ []; allowed = refl; typed = (tt, (tt, (tt, tt))) },
  inr (inl refl),
  λ (e : Boolean true ≡ Null). cc,
)
treated other e = cc

-- ---- shapes of arguments

HasNone : List Value → Type 0
HasNone values = IsOneOf Null values → ⊥

pub same_kind-is : (a b : DataType) → same_kind a b ≡ true → a ≡ b
same_kind-is K.Boolean K.Boolean e = refl
same_kind-is K.Integer K.Integer e = refl
same_kind-is K.Long K.Long e = refl
same_kind-is K.Text K.Text e = refl
same_kind-is K.Date K.Date e = refl
same_kind-is a b e = cc

same_kinds : (taken kinds : List DataType) → pointwise same_kind taken kinds ≡ true → taken ≡ kinds
same_kinds [] [] e = refl
same_kinds [] (b ∷ kinds) e = cc
same_kinds (a ∷ taken) [] e = cc
same_kinds (a ∷ taken) (b ∷ kinds) e =
    let parts = and_parts (same_kind a b) (pointwise same_kind taken kinds) e in
    ap (λ k. k ∷ taken) (same_kind-is a b parts.0) ∙ ap (λ ks. b ∷ ks) (same_kinds taken kinds parts.1)

pub exact_kinds : (taken : List DataType) (result kind : DataType) (kinds : List DataType) → exactly taken result kinds ≡ Some kind → taken ≡ kinds
exact_kinds taken result kind kinds e = same_kinds taken kinds (was_true (pointwise same_kind taken kinds) result kind e)
  where
    was_true : (b : Bool) (result kind : DataType) → (if b then Some result else None) ≡ Some kind → b ≡ true
    was_true true result kind e = refl
    was_true false result kind e = cc

-- the values of a function that takes exactly these types
pub exact_typed : (taken : List DataType) (result kind : DataType) (kinds : List DataType) (values : List Value) → exactly taken result kinds ≡ Some kind → HaveTypes kinds values → HaveTypes taken values
exact_typed taken result kind kinds values e h = subst (λ (ks : List DataType). HaveTypes ks values) (sym (exact_kinds taken result kind kinds e)) h

pub pair_shape : (P : List Value → Type 0) (a b : DataType) (values : List Value) → HaveTypes (a ∷ b ∷ []) values → ((x y : Value) → HasType a x → HasType b y → P (x ∷ y ∷ [])) → P values
pair_shape P a b [] h f = absurd h
pair_shape P a b (x ∷ []) h f = absurd h.1
pair_shape P a b (x ∷ y ∷ []) h f = f x y h.0 h.1.0
pair_shape P a b (x ∷ y ∷ z ∷ values) h f = absurd h.1.1

pub single_shape : (P : List Value → Type 0) (a : DataType) (values : List Value) → HaveTypes (a ∷ []) values → ((x : Value) → HasType a x → P (x ∷ [])) → P values
single_shape P a [] h f = absurd h
single_shape P a (x ∷ []) h f = f x h.0
single_shape P a (x ∷ y ∷ values) h f = absurd h.1

by_two_shape : (P : List Value → Type 0) (result : DataType → DataType → Option DataType) (kind : DataType) (kinds : List DataType) (values : List Value) → by_two result kinds ≡ Some kind → HaveTypes kinds values
    → ((a b : DataType) (x y : Value) → result a b ≡ Some kind → HasType a x → HasType b y → P (x ∷ y ∷ [])) → P values
by_two_shape P result kind (a ∷ b ∷ []) values e h f = pair_shape P a b values h (λ x y p q. f a b x y e p q)
by_two_shape P result kind kinds values e h f = cc

by_one_shape : (P : List Value → Type 0) (result : DataType → Option DataType) (kind : DataType) (kinds : List DataType) (values : List Value) → by_one result kinds ≡ Some kind → HaveTypes kinds values
    → ((a : DataType) (x : Value) → result a ≡ Some kind → HasType a x → P (x ∷ [])) → P values
by_one_shape P result kind (a ∷ []) values e h f = single_shape P a values h (λ x p. f a x e p)
by_one_shape P result kind kinds values e h f = cc

-- values that are not null are of their type
of_boolean : (P : Value → Type 0) (v : Value) → HasType K.Boolean v → v ≢ Null → ((b : Bool) → P (Boolean b)) → P v
of_boolean P Null h n f = absurd (n refl)
of_boolean P (Boolean b) h n f = f b
of_boolean P v h n f = absurd h

of_integer : (P : Value → Type 0) (v : Value) → HasType K.Integer v → v ≢ Null → ((n : ℤ) → P (Integer n)) → P v
of_integer P Null h n f = absurd (n refl)
of_integer P (Integer x) h n f = f x
of_integer P v h n f = absurd h

of_text : (P : Value → Type 0) (v : Value) → HasType K.Text v → v ≢ Null → ((t : List ℕ) → P (Text t)) → P v
of_text P Null h n f = absurd (n refl)
of_text P (Text t) h n f = f t
of_text P v h n f = absurd h

of_date : (P : Value → Type 0) (v : Value) → HasType K.Date v → v ≢ Null → ((d : ℤ) → P (Date d)) → P v
of_date P Null h n f = absurd (n refl)
of_date P (Date d) h n f = f d
of_date P v h n f = absurd h

left_number : (kind a b : DataType) (x : Value) → wider a b ≡ Some kind → HasType a x → x ≢ Null → (m : ℤ) × (number x ≡ Some m)
left_number kind K.Integer b (Integer m) e p n = (m, refl)
left_number kind K.Long b (Long m) e p n = (m, refl)
left_number kind K.Integer b Null e p n = absurd (n refl)
left_number kind K.Long b Null e p n = absurd (n refl)
left_number kind K.Integer b x e p n = absurd p
left_number kind K.Long b x e p n = absurd p
left_number kind a b x e p n = cc

right_number : (kind a b : DataType) (y : Value) → wider a b ≡ Some kind → HasType b y → y ≢ Null → (m : ℤ) × (number y ≡ Some m)
right_number kind a K.Integer (Integer m) e p n = (m, refl)
right_number kind a K.Long (Long m) e p n = (m, refl)
right_number kind a K.Integer Null e p n = absurd (n refl)
right_number kind a K.Long Null e p n = absurd (n refl)
right_number kind a K.Integer y e p n = absurd p
right_number kind a K.Long y e p n = absurd p
right_number kind K.Integer b y e p n = cc
right_number kind K.Long b y e p n = cc
right_number kind a b y e p n = cc

wrapped-present : (kind a b : DataType) (n : ℤ) → wider a b ≡ Some kind → wrapped_to kind n ≢ Null
wrapped-present K.Integer a b n e = λ f. cc
wrapped-present K.Long a b n e = λ f. cc
wrapped-present kind K.Integer K.Integer n e = cc
wrapped-present kind K.Integer K.Long n e = cc
wrapped-present kind K.Long K.Integer n e = cc
wrapped-present kind K.Long K.Long n e = cc
wrapped-present kind a b n e = cc

first_there : (x : Value) (rest : List Value) → HasNone (x ∷ rest) → x ≢ Null
unfolding HasNone
first_there x rest h e = h (inl (sym e))

later_there : (x : Value) (rest : List Value) → HasNone (x ∷ rest) → HasNone rest
unfolding HasNone
later_there x rest h one = h (inr one)

-- ---- functions that are never null of values that are not

-- of such values
abbrev Never : (List Value → Value) → List Value → Type 0
Never f values = HasNone values → f values ≢ Null

computes_never : (op : ℤ → ℤ → ℤ) (kind : DataType) (kinds : List DataType) (values : List Value) → by_two wider kinds ≡ Some kind → HaveTypes kinds values → Never (of_two (arithmetic op)) values
computes_never op kind kinds values e h =
    by_two_shape (Never (of_two (arithmetic op))) wider kind kinds values e h (λ a b x y f p q none null.
    let m = left_number kind a b x f p (first_there x (y ∷ []) none) in
    let n = right_number kind a b y f q (first_there y [] (later_there x (y ∷ []) none)) in
    wrapped-present kind a b (op m.0 n.0) f (sym (computed op kind a b x y m.0 n.0 f p q m.1 n.1) ∙ null))

negative_never : (kind : DataType) (kinds : List DataType) (values : List Value) → by_one (λ a. wider a a) kinds ≡ Some kind → HaveTypes kinds values → Never (of_one negative) values
negative_never kind kinds values e h =
    by_one_shape (Never (of_one negative)) (λ a. wider a a) kind kinds values e h (λ a x f p none null.
    let m = left_number kind a a x f p (first_there x [] none) in
    wrapped-present kind a a (neg_ℤ m.0) f (sym (negated kind a x m.0 f p m.1) ∙ null))

absolute_never : (kind : DataType) (kinds : List DataType) (values : List Value) → by_one (λ a. wider a a) kinds ≡ Some kind → HaveTypes kinds values → Never (of_one absolute) values
absolute_never kind kinds values e h =
    by_one_shape (Never (of_one absolute)) (λ a. wider a a) kind kinds values e h (λ a x f p none null.
    let m = left_number kind a a x f p (first_there x [] none) in
    wrapped-present kind a a (pos (unsigned_abs m.0)) f (sym (made_absolute kind a x m.0 f p m.1) ∙ null))

pub some_common : (result kind : DataType) (o : Option DataType) → always result o ≡ Some kind → (c : DataType) × (o ≡ Some c)
some_common result kind None e = cc
some_common result kind (Some c) e = (c, refl)

boolean-present : (b : Bool) (v : Value) → v ≡ Boolean b → v ≢ Null
boolean-present b v e f = let g : Boolean b ≡ Null = sym e ∙ f in cc

compares_never : (test : Ordering → Bool) (kind : DataType) (kinds : List DataType) (values : List Value) → by_two (λ a b. always K.Boolean (common a b)) kinds ≡ Some kind → HaveTypes kinds values
    → Never (of_two (compared test)) values
compares_never test kind kinds values e h =
    by_two_shape (Never (of_two (compared test))) (λ a b. always K.Boolean (common a b)) kind kinds values e h (λ a b x y f p q none.
    let c = some_common K.Boolean kind (common a b) f in
    boolean-present (test (value_cmp (widened c.0 x) (widened c.0 y))) (compared test x y)
    (compares test a b c.0 x y c.1 p q (first_there x (y ∷ []) none) (first_there y [] (later_there x (y ∷ []) none))))

null_safe_never : (kind : DataType) (kinds : List DataType) (values : List Value) → by_two (λ a b. always K.Boolean (common a b)) kinds ≡ Some kind → HaveTypes kinds values → Never (of_two equal_null_safe) values
null_safe_never kind kinds values e h =
    by_two_shape (Never (of_two equal_null_safe)) (λ a b. always K.Boolean (common a b)) kind kinds values e h (λ a b x y f p q none (null : equal_null_safe x y ≡ Null). cc)

tested_never : (f : Value → Value) (test : Value → Bool) → ((x : Value) → f x ≡ Boolean (test x)) → (kind : DataType) (kinds : List DataType) (values : List Value) → by_one (λ a. Some K.Boolean) kinds ≡ Some kind → HaveTypes kinds values
    → Never (of_one f) values
tested_never f test is kind kinds values e h = by_one_shape (Never (of_one f)) (λ a. Some K.Boolean) kind kinds values e h (λ a x g p none. boolean-present (test x) (f x) (is x))

both_booleans : (f : Value → Value → Value) → ((a b : Bool) → f (Boolean a) (Boolean b) ≢ Null) → (values : List Value) → HaveTypes (K.Boolean ∷ K.Boolean ∷ []) values → Never (of_two f) values
both_booleans f never values h =
    pair_shape (Never (of_two f)) K.Boolean K.Boolean values h (λ x y p q none.
    of_boolean (λ v. f v y ≢ Null) x p (first_there x (y ∷ []) none) (λ a.
    of_boolean (λ v. f (Boolean a) v ≢ Null) y q (first_there y [] (later_there x (y ∷ []) none)) (never a)))

and-present : (a b : Bool) → and_value (Boolean a) (Boolean b) ≢ Null
and-present true true = λ (e : Boolean true ≡ Null). cc
and-present true false = λ (e : Boolean false ≡ Null). cc
and-present false b = λ (e : Boolean false ≡ Null). cc

or_two : (a b : Bool) → or_value (Boolean a) (Boolean b) ≡ Boolean (a || b)
or_two true b = refl
or_two false true = refl
or_two false false = refl

both_texts : (test : List ℕ → List ℕ → Bool) (values : List Value) → HaveTypes (K.Text ∷ K.Text ∷ []) values → Never (of_two (text_test test)) values
both_texts test values h =
    pair_shape (Never (of_two (text_test test))) K.Text K.Text values h (λ x y p q none.
    of_text (λ v. text_test test v y ≢ Null) x p (first_there x (y ∷ []) none) (λ t.
    of_text (λ v. text_test test (Text t) v ≢ Null) y q (first_there y [] (later_there x (y ∷ []) none)) (λ u. boolean-present (test t u) (Boolean (test t u)) refl)))

not_never : (values : List Value) → HaveTypes (K.Boolean ∷ []) values → Never (of_one not_value) values
not_never values h =
    single_shape (Never (of_one not_value)) K.Boolean values h (λ x p none. of_boolean (λ v. not_value v ≢ Null) x p (first_there x [] none) (λ b (e : not_value (Boolean b) ≡ Null). cc))

length_never : (values : List Value) → HaveTypes (K.Text ∷ []) values → Never (of_one text_length) values
length_never values h =
    single_shape (Never (of_one text_length)) K.Text values h (λ x p none. of_text (λ v. text_length v ≢ Null) x p (first_there x [] none) (λ t (e : text_length (Text t) ≡ Null). cc))

part_never : (part : ℤ → ℕ) (values : List Value) → HaveTypes (K.Date ∷ []) values → Never (of_one (date_part part)) values
part_never part values h =
    single_shape (Never (of_one (date_part part))) K.Date values h (λ x p none. of_date (λ v. date_part part v ≢ Null) x p (first_there x [] none) (λ d (e : date_part part (Date d) ≡ Null). cc))

difference_never : (values : List Value) → HaveTypes (K.Date ∷ K.Date ∷ []) values → Never (of_two date_difference) values
difference_never values h =
    pair_shape (Never (of_two date_difference)) K.Date K.Date values h (λ x y p q none.
    of_date (λ v. date_difference v y ≢ Null) x p (first_there x (y ∷ []) none) (λ d.
    of_date (λ v. date_difference (Date d) v ≢ Null) y q (first_there y [] (later_there x (y ∷ []) none)) (λ k (e : date_difference (Date d) (Date k) ≡ Null). cc)))

text_first : (kind : DataType) (kinds : List DataType) → list_all (same_kind K.Text) (kind ∷ kinds) ≡ true → (K.Text ≡ kind) × (list_all (same_kind K.Text) kinds ≡ true)
text_first kind kinds e = let parts = and_parts (same_kind K.Text kind) (list_all (same_kind K.Text) kinds) e in (same_kind-is K.Text kind parts.0, parts.1)

concat_text : (kinds : List DataType) (values : List Value) → list_all (same_kind K.Text) kinds ≡ true → HaveTypes kinds values → HasNone values → (t : List ℕ) × (concat values ≡ Text t)
concat_text [] [] e h none = ([], refl)
concat_text [] (v ∷ values) e h none = absurd h
concat_text (k ∷ kinds) [] e h none = absurd h
concat_text (k ∷ kinds) (v ∷ values) e h none =
    let parts = text_first k kinds e in
    let rest = concat_text kinds values parts.1 h.1 (later_there v values none) in
    let typed : HasType K.Text v = subst (λ a. HasType a v) (sym parts.0) h.0 in
    of_text (λ u. (t : List ℕ) × (joined u (concat values) ≡ Text t)) v typed (first_there v values none) (λ t. (t ++ rest.0, ap (joined (Text t)) rest.1))

concat_never : (kind : DataType) (kinds : List DataType) (values : List Value) → concat_type kinds ≡ Some kind → HaveTypes kinds values → Never concat values
concat_never kind [] values e h none null = cc
concat_never kind (k ∷ kinds) values e h none null = joined_texts (list_all (same_kind K.Text) (k ∷ kinds)) refl e
  where
    joined_texts : (b : Bool) → list_all (same_kind K.Text) (k ∷ kinds) ≡ b → (if b then Some K.Text else None) ≡ Some kind → ⊥
    joined_texts true f g =
        let t = concat_text (k ∷ kinds) values f h none in
        let same : Text t.0 ≡ Null = sym t.1 ∙ null in cc
    joined_texts false f g = cc

-- ---- `in`, `coalesce` and `when`

abbrev IsTold : Value → Type 0
IsTold v = (b : Bool) × (v ≡ Boolean b)

member_told : (c : DataType) (value : Value) (others : List Value) → Widens c value → value ≢ Null → AllByRecursion (Widens c) others → HasNone others → IsTold (member_of value others)
member_told c value [] typed there all none = (false, refl)
member_told c value (other ∷ others) typed there all none =
    let here = ap (judged is_eq) (compared_in c value other typed all.0 there (first_there other others none)) in
    let rest = member_told c value others typed there all.1 (later_there other others none) in
    let b = is_eq (value_cmp (widened c value) (widened c other)) in
    (b || rest.0, ap (λ v. or_value v (member_of value others)) here ∙ ap (or_value (Boolean b)) rest.1 ∙ or_two b rest.0)

member_never : (kind : DataType) (kinds : List DataType) (values : List Value) → in_type kinds ≡ Some kind → HaveTypes kinds values → Never (of_first member_of) values
member_never kind (a ∷ b ∷ kinds) [] e h none null = absurd h
member_never kind (a ∷ b ∷ kinds) (v ∷ others) e h none null =
    let c = some_common K.Boolean kind (common_of (a ∷ b ∷ kinds)) e in
    let all = common_widens c.0 (a ∷ b ∷ kinds) (v ∷ others) c.1 h in
    let told = member_told c.0 v others all.0 (first_there v others none) all.1 (later_there v others none) in
    boolean-present told.0 (member_of v others) told.1 null
member_never kind kinds values e h none null = cc

unwidened : (kind : DataType) (v : Value) → widened kind v ≡ Null → v ≡ Null
unwidened K.Long (Integer n) e = cc
unwidened kind v e = e

coalesce_never : (kind : DataType) (kinds : List DataType) (values : List Value) → common_of kinds ≡ Some kind → HaveTypes kinds values → Never (λ vs. widened kind (coalesce vs)) values
coalesce_never kind [] values e h none null = cc
coalesce_never kind (k ∷ kinds) [] e h none null = absurd h
coalesce_never kind (k ∷ kinds) (v ∷ values) e h none null =
    let there = first_there v values none in
    there (sym (ap (λ (b : Bool). unwrap_or (if b then Some v else find is_present values) Null) (present-is v there)) ∙ unwidened kind (coalesce (v ∷ values)) null)

abbrev NoneTrue : List Value → Type 0
NoneTrue values = (branches : List (Value × Value)) × AreNotTrue branches × (values ≡ branches_of branches)

none_later : (condition value : Value) (rest : List Value) → is_true condition ≡ false → NoneTrue rest → NoneTrue (condition ∷ value ∷ rest)
none_later condition value rest e h = ((condition, value) ∷ h.0, (e, h.1), ap (λ vs. condition ∷ value ∷ vs) h.2)

none_where : (condition value : Value) (rest : List Value) (b : Bool) → is_true condition ≡ b → (if b then value else when rest) ≡ Null → value ≢ Null → (when rest ≡ Null → NoneTrue rest) → NoneTrue (condition ∷ value ∷ rest)
none_where condition value rest true f e there later = absurd (there e)
none_where condition value rest false f e there later = none_later condition value rest f (later e)

none_true : (values : List Value) → HasNone values → when values ≡ Null → NoneTrue values
none_true [] none e = ([], tt, refl)
none_true (v ∷ []) none e = absurd (first_there v [] none e)
none_true (c ∷ v ∷ rest) none e =
    let others = later_there c (v ∷ rest) none in
    none_where c v rest (is_true c) refl e (first_there v rest others) (λ f. none_true rest (later_there v rest others) f)

-- ---- the reasons

abbrev IsZero : ℤ → Type 0
IsZero n = (n ≡ pos 0) ⊎ (n ≢ pos 0)

zero_where : (n : ℤ) (b : Bool) → int_eq n (pos 0) ≡ b → IsZero n
zero_where n true e = inl ((Decides-int_eq n (pos 0)).0 e)
zero_where n false e = inr (λ z. false≢true (sym e ∙ (Decides-int_eq n (pos 0)).1 z))

is_zero : (n : ℤ) → IsZero n
is_zero n = zero_where n (int_eq n (pos 0)) refl

-- a call that is null for a reason
abbrev Reasons : Function → (List Value → Value) → List Value → Type 0
Reasons function f values = HasNone values → f values ≡ Null → IsNullFor function values

rest_reason : (kind : DataType) (kinds : List DataType) (values : List Value) → by_two wider kinds ≡ Some kind → HaveTypes kinds values → Reasons Function.Remainder (of_two remainder) values
rest_reason kind kinds values e h =
    by_two_shape (Reasons Function.Remainder (of_two remainder)) wider kind kinds values e h (λ a b x y f p q none null.
    let m = left_number kind a b x f p (first_there x (y ∷ []) none) in
    let n = right_number kind a b y f q (first_there y [] (later_there x (y ∷ []) none)) in
    elim (is_zero n.0) [
      | inl z ↦ IsNullFor.rest_by_zero x y (n.1 ∙ ap (λ k. Some k) z)
      | inr some ↦ absurd (wrapped-present kind a b (int_rem m.0 n.0) f (sym (remainder_is x y n.0 n.1 some ∙ computed int_rem kind a b x y m.0 n.0 f p q m.1 n.1) ∙ null))
    ])

quotient_reason : (kind : DataType) (kinds : List DataType) (values : List Value) → by_two (λ a b. always K.Long (wider a b)) kinds ≡ Some kind → HaveTypes kinds values
    → Reasons Function.IntegralDivide (of_two integral_divide) values
quotient_reason kind kinds values e h =
    by_two_shape (Reasons Function.IntegralDivide (of_two integral_divide)) (λ a b. always K.Long (wider a b)) kind kinds values e h (λ a b x y f p q none null.
    let c = some_common K.Long kind (wider a b) f in
    let m = left_number c.0 a b x c.1 p (first_there x (y ∷ []) none) in
    let n = right_number c.0 a b y c.1 q (first_there y [] (later_there x (y ∷ []) none)) in
    elim (is_zero n.0) [
      | inl z ↦ IsNullFor.quotient_by_zero x y (n.1 ∙ ap (λ k. Some k) z)
      | inr some ↦ absurd (wrapped-present K.Long K.Long K.Long (int_div m.0 n.0) refl (sym (quotient_is x y m.0 n.0 m.1 n.1 some) ∙ null))
    ])

no_day : (day : ℤ) → date_in_range day ≡ Null → IsDay day → ⊥
no_day day e is = let f : Date day ≡ Null = sym (in_range day is) ∙ e in cc

moved_reason : (function : Function) (move : ℤ → ℤ → ℤ) → ((day days : ℤ) → (IsDay (move day days) → ⊥) → IsNullFor function (Date day ∷ Integer days ∷ []))
    → (values : List Value) → HaveTypes (K.Date ∷ K.Integer ∷ []) values → Reasons function (of_two (date_moved move)) values
moved_reason function move reason values h =
    pair_shape (Reasons function (of_two (date_moved move))) K.Date K.Integer values h (λ x y p q none.
    of_date (λ v. date_moved move v y ≡ Null → IsNullFor function (v ∷ y ∷ [])) x p (first_there x (y ∷ []) none) (λ d.
    of_integer (λ v. date_moved move (Date d) v ≡ Null → IsNullFor function (Date d ∷ v ∷ [])) y q (first_there y [] (later_there x (y ∷ []) none)) (λ k null.
    reason d k (no_day (move d k) null))))

when_reason : (kind : DataType) (values : List Value) → Reasons Function.When (λ vs. widened kind (when vs)) values
when_reason kind values none null =
    let t = none_true values none (unwidened kind (when values) null) in
    subst (IsNullFor Function.When) (sym t.2) (IsNullFor.no_condition t.0 t.1)

-- a value that is not null is none for any reason
never : (function : Function) (f : List Value → Value) (values : List Value) → Never f values → Reasons function f values
never function f values h none null = absurd (h none null)

reasons : (function : Function) (kind : DataType) (kinds : List DataType) (values : List Value) → call_type function kinds ≡ Some kind → HaveTypes kinds values → Reasons function (call function kind) values
unfolding call call_type
reasons Function.Add kind kinds values e h = never Function.Add (of_two (arithmetic ◌+ℤ◌)) values (computes_never ◌+ℤ◌ kind kinds values e h)
reasons Function.Subtract kind kinds values e h = never Function.Subtract (of_two (arithmetic ◌-ℤ◌)) values (computes_never ◌-ℤ◌ kind kinds values e h)
reasons Function.Multiply kind kinds values e h = never Function.Multiply (of_two (arithmetic ◌*ℤ◌)) values (computes_never ◌*ℤ◌ kind kinds values e h)
reasons Function.Remainder kind kinds values e h = rest_reason kind kinds values e h
reasons Function.IntegralDivide kind kinds values e h = quotient_reason kind kinds values e h
reasons Function.Negative kind kinds values e h = never Function.Negative (of_one negative) values (negative_never kind kinds values e h)
reasons Function.Abs kind kinds values e h = never Function.Abs (of_one absolute) values (absolute_never kind kinds values e h)
reasons Function.EqualTo kind kinds values e h = never Function.EqualTo (of_two (compared is_eq)) values (compares_never is_eq kind kinds values e h)
reasons Function.NotEqualTo kind kinds values e h = never Function.NotEqualTo (of_two (compared is_ne)) values (compares_never is_ne kind kinds values e h)
reasons Function.LessThan kind kinds values e h = never Function.LessThan (of_two (compared is_lt)) values (compares_never is_lt kind kinds values e h)
reasons Function.LessThanOrEqual kind kinds values e h = never Function.LessThanOrEqual (of_two (compared is_le)) values (compares_never is_le kind kinds values e h)
reasons Function.GreaterThan kind kinds values e h = never Function.GreaterThan (of_two (compared is_gt)) values (compares_never is_gt kind kinds values e h)
reasons Function.GreaterThanOrEqual kind kinds values e h = never Function.GreaterThanOrEqual (of_two (compared is_ge)) values (compares_never is_ge kind kinds values e h)
reasons Function.EqualNullSafe kind kinds values e h = never Function.EqualNullSafe (of_two equal_null_safe) values (null_safe_never kind kinds values e h)
reasons Function.And kind kinds values e h =
    never Function.And (of_two and_value) values (both_booleans and_value and-present values (exact_typed (K.Boolean ∷ K.Boolean ∷ []) K.Boolean kind kinds values e h))
reasons Function.Or kind kinds values e h =
    never Function.Or (of_two or_value) values
    (both_booleans or_value (λ a b. boolean-present (a || b) (or_value (Boolean a) (Boolean b)) (or_two a b)) values (exact_typed (K.Boolean ∷ K.Boolean ∷ []) K.Boolean kind kinds values e h))
reasons Function.Not kind kinds values e h = never Function.Not (of_one not_value) values (not_never values (exact_typed (K.Boolean ∷ []) K.Boolean kind kinds values e h))
reasons Function.IsNull kind kinds values e h = never Function.IsNull (of_one is_null) values (tested_never is_null (λ v. not (is_present v)) (λ v. refl) kind kinds values e h)
reasons Function.IsNotNull kind kinds values e h = never Function.IsNotNull (of_one is_not_null) values (tested_never is_not_null is_present (λ v. refl) kind kinds values e h)
reasons Function.Coalesce kind kinds values e h = never Function.Coalesce (λ vs. widened kind (coalesce vs)) values (coalesce_never kind kinds values e h)
reasons Function.When kind kinds values e h = when_reason kind values
reasons Function.In kind kinds values e h = never Function.In (of_first member_of) values (member_never kind kinds values e h)
reasons Function.Concat kind kinds values e h = never Function.Concat concat values (concat_never kind kinds values e h)
reasons Function.Length kind kinds values e h = never Function.Length (of_one text_length) values (length_never values (exact_typed (K.Text ∷ []) K.Integer kind kinds values e h))
reasons Function.StartsWith kind kinds values e h =
    never Function.StartsWith (of_two (text_test has_start)) values (both_texts has_start values (exact_typed (K.Text ∷ K.Text ∷ []) K.Boolean kind kinds values e h))
reasons Function.EndsWith kind kinds values e h =
    never Function.EndsWith (of_two (text_test has_end)) values (both_texts has_end values (exact_typed (K.Text ∷ K.Text ∷ []) K.Boolean kind kinds values e h))
reasons Function.Contains kind kinds values e h =
    never Function.Contains (of_two (text_test has_part)) values (both_texts has_part values (exact_typed (K.Text ∷ K.Text ∷ []) K.Boolean kind kinds values e h))
reasons Function.Year kind kinds values e h = never Function.Year (of_one (date_part year_of)) values (part_never year_of values (exact_typed (K.Date ∷ []) K.Integer kind kinds values e h))
reasons Function.Month kind kinds values e h = never Function.Month (of_one (date_part month_of)) values (part_never month_of values (exact_typed (K.Date ∷ []) K.Integer kind kinds values e h))
reasons Function.DayOfMonth kind kinds values e h = never Function.DayOfMonth (of_one (date_part month_day_of)) values (part_never month_day_of values (exact_typed (K.Date ∷ []) K.Integer kind kinds values e h))
reasons Function.DateAdd kind kinds values e h = moved_reason Function.DateAdd ◌+ℤ◌ IsNullFor.no_later_day values (exact_typed (K.Date ∷ K.Integer ∷ []) K.Date kind kinds values e h)
reasons Function.DateSub kind kinds values e h = moved_reason Function.DateSub ◌-ℤ◌ IsNullFor.no_earlier_day values (exact_typed (K.Date ∷ K.Integer ∷ []) K.Date kind kinds values e h)
reasons Function.DateDiff kind kinds values e h = never Function.DateDiff (of_two date_difference) values (difference_never values (exact_typed (K.Date ∷ K.Date ∷ []) K.Integer kind kinds values e h))
reasons other kind kinds values e h = cc

out_of_range : (day : ℤ) → (IsDay day → ⊥) → date_in_range day ≡ Null
out_of_range day h = ap (λ (b : Bool). if b then Date day else Null) (false_from_ne_true (is_day day) (λ e. h ((days_tested day).0 e)))

null_for : {function : Function} {values : List Value} → IsNullFor function values → (kind : DataType) → call function kind values ≡ Null
unfolding call
null_for (IsNullFor.rest_by_zero a b e) kind = ap (λ (o : Option ℤ). unless_by_zero o (arithmetic int_rem a b)) e
null_for (IsNullFor.quotient_by_zero a b e) kind = ap (λ (o : Option ℤ). unless_by_zero o (quotient (number a) (number b))) e
null_for (IsNullFor.no_later_day day days h) kind = out_of_range (day +ℤ days) h
null_for (IsNullFor.no_earlier_day day days h) kind = out_of_range (day -ℤ days) h
null_for (IsNullFor.no_condition branches h) kind = ap (widened kind) (when-nothing branches h) ∙ widened-Null kind

pub nulls_are_told : NullsAreTold
unfolding HasNone
nulls_are_told = record {
  null_for_null = null_for_null;
  treated = treated;
  null_for_reasons = λ function kind values h none. (reasons function kind h.kinds values h.allowed h.typed none, λ reason. null_for reason kind);
}
