-- The types of calls and aggregates are those of the table.
use Rattle.std.proofs.Common.{◌≡◌, ◌≢◌, ◌⊎◌, ℕ, zero, suc, Bool, true, false, if◌then◌else◌, Option, None, Some, option_map, option_and_then, List, [], ◌∷◌, ◌++◌, length, replicate, refl, sym, ap, ◌∙◌, subst, inl, inr}
use mathlib.Core.Path.{subst₂}
use Rattle.std.specs.Cmp.Lexicographic.{pointwise}
use Rattle.std.specs.List.{AllByRecursion, list_all}
use Rattle.std.proofs.lemmas.Bool.{and_parts}
use Rattle.cn_types.specs.declared.value.DataType.{DataType}
use Rattle.cn_types.specs.declared.value.DataType.TheVariants.{Boolean, Integer, Long, Text, Date}
use Rattle.plan_model.specs.declared.function.Function.{Function}
use Rattle.plan_model.specs.FunctionTypes.{same_kind, wider, common, common_of, exactly, by_one, by_two, always, when_values, when_type, call_type, aggregate_type}
use Rattle.plan_model.specs.TypingLaws.{IsNumeric, AreNumeric, HasLong, AreSame, branch_types, IsInTable, CallsAreOfTheTable, IsAggregateOf, AggregatesAreOfTheTable}
use Rattle.plan_model.proofs.CallTypes.{Some-is, always_kind, chosen_kind}
use Rattle.plan_model.proofs.NullFacts.{same_kind-is, exact_kinds, some_common}

-- ---- two numbers

numeric_of : (a b kind : DataType) → wider a b ≡ Some kind → AreNumeric a b kind
numeric_of Integer Integer kind e = subst (AreNumeric Integer Integer) (Some-is Integer kind e) AreNumeric.integers
numeric_of Integer Long kind e = subst (AreNumeric Integer Long) (Some-is Long kind e) AreNumeric.integer_and_long
numeric_of Long Integer kind e = subst (AreNumeric Long Integer) (Some-is Long kind e) AreNumeric.long_and_integer
numeric_of Long Long kind e = subst (AreNumeric Long Long) (Some-is Long kind e) AreNumeric.longs
numeric_of a b kind e = cc

wider_of : {a b kind : DataType} → AreNumeric a b kind → wider a b ≡ Some kind
wider_of AreNumeric.integers = refl
wider_of AreNumeric.integer_and_long = refl
wider_of AreNumeric.long_and_integer = refl
wider_of AreNumeric.longs = refl

-- one number
one_numeric : (P : DataType → DataType → Type 0) → ((kind : DataType) → IsNumeric kind → P kind kind) → (a kind : DataType) → wider a a ≡ Some kind → P a kind
one_numeric P f Integer kind e = subst (P Integer) (Some-is Integer kind e) (f Integer IsNumeric.integer)
one_numeric P f Long kind e = subst (P Long) (Some-is Long kind e) (f Long IsNumeric.long)
one_numeric P f a kind e = cc

wider_self : {kind : DataType} → IsNumeric kind → wider kind kind ≡ Some kind
wider_self IsNumeric.integer = refl
wider_self IsNumeric.long = refl

-- ---- types that are the same

common_self : (kind : DataType) → common kind kind ≡ Some kind
common_self Boolean = refl
common_self Integer = refl
common_self Long = refl
common_self Text = refl
common_self Date = refl

all_one : {kinds : List DataType} {kind : DataType} → AreSame kinds kind → kind ≢ Long → AllByRecursion (λ other. other ≡ kind) kinds
all_one (AreSame.one_type kind kinds some all) other = all
all_one (AreSame.numbers kinds all long) other = absurd (other refl)

all_as_numbers : (kind : DataType) (kinds : List DataType) → IsNumeric kind → AllByRecursion (λ other. other ≡ kind) kinds → AllByRecursion IsNumeric kinds
all_as_numbers kind [] n all = tt
all_as_numbers kind (a ∷ kinds) n all = (subst IsNumeric (sym all.0) n, all_as_numbers kind kinds n all.1)

all_numbers : {kinds : List DataType} {kind : DataType} → AreSame kinds kind → IsNumeric kind → AllByRecursion IsNumeric kinds
all_numbers (AreSame.one_type kind kinds some all) n = all_as_numbers kind kinds n all
all_numbers (AreSame.numbers kinds all long) n = all

first_is : (kind : DataType) (kinds : List DataType) → kinds ≢ [] → AllByRecursion (λ other. other ≡ kind) kinds → kind ≡ Long → HasLong kinds
first_is kind [] some all e = absurd (some refl)
first_is kind (a ∷ kinds) some all e = inl (all.0 ∙ e)

has_long : {kinds : List DataType} {kind : DataType} → AreSame kinds kind → kind ≡ Long → HasLong kinds
has_long (AreSame.one_type kind kinds some all) e = first_is kind kinds some all e
has_long (AreSame.numbers kinds all long) e = long

some_first : (a : DataType) (kinds : List DataType) → (a ∷ kinds) ≢ []
some_first a kinds e = cc

-- one more type before others that are the same
same_step : (a c kind : DataType) (kinds : List DataType) → common a c ≡ Some kind → AreSame kinds c → AreSame (a ∷ kinds) kind
same_step Boolean Boolean kind kinds e h = subst (AreSame (Boolean ∷ kinds)) (Some-is Boolean kind e) (AreSame.one_type Boolean (Boolean ∷ kinds) (some_first Boolean kinds) (refl, all_one h (λ (f : Boolean ≡ Long). cc)))
same_step Text Text kind kinds e h = subst (AreSame (Text ∷ kinds)) (Some-is Text kind e) (AreSame.one_type Text (Text ∷ kinds) (some_first Text kinds) (refl, all_one h (λ (f : Text ≡ Long). cc)))
same_step Date Date kind kinds e h = subst (AreSame (Date ∷ kinds)) (Some-is Date kind e) (AreSame.one_type Date (Date ∷ kinds) (some_first Date kinds) (refl, all_one h (λ (f : Date ≡ Long). cc)))
same_step Integer Integer kind kinds e h = subst (AreSame (Integer ∷ kinds)) (Some-is Integer kind e) (AreSame.one_type Integer (Integer ∷ kinds) (some_first Integer kinds) (refl, all_one h (λ (f : Integer ≡ Long). cc)))
same_step Integer Long kind kinds e h = subst (AreSame (Integer ∷ kinds)) (Some-is Long kind e) (AreSame.numbers (Integer ∷ kinds) (IsNumeric.integer, all_numbers h IsNumeric.long) (inr (has_long h refl)))
same_step Long Integer kind kinds e h = subst (AreSame (Long ∷ kinds)) (Some-is Long kind e) (AreSame.numbers (Long ∷ kinds) (IsNumeric.long, all_numbers h IsNumeric.integer) (inl refl))
same_step Long Long kind kinds e h = subst (AreSame (Long ∷ kinds)) (Some-is Long kind e) (AreSame.numbers (Long ∷ kinds) (IsNumeric.long, all_numbers h IsNumeric.long) (inl refl))
same_step a c kind kinds e h = cc

same_then : (a kind : DataType) (kinds : List DataType) (rest : Option DataType) → rest ≡ common_of kinds → option_and_then (common a) rest ≡ Some kind → ((c : DataType) → common_of kinds ≡ Some c → AreSame kinds c) → AreSame (a ∷ kinds) kind
same_then a kind kinds None d e later = cc
same_then a kind kinds (Some c) d e later = same_step a c kind kinds e (later c (sym d))

pub same_of : (kinds : List DataType) (kind : DataType) → common_of kinds ≡ Some kind → AreSame kinds kind
same_of [] kind e = cc
same_of (a ∷ []) kind e = AreSame.one_type kind (a ∷ []) (some_first a []) (Some-is a kind e, tt)
same_of (a ∷ b ∷ kinds) kind e = same_then a kind (b ∷ kinds) (common_of (b ∷ kinds)) refl e (λ c f. same_of (b ∷ kinds) c f)

one_common : (kind : DataType) (kinds : List DataType) → kinds ≢ [] → AllByRecursion (λ other. other ≡ kind) kinds → common_of kinds ≡ Some kind
one_common kind [] some all = absurd (some refl)
one_common kind (a ∷ []) some all = ap (λ k. Some k) all.0
one_common kind (a ∷ b ∷ kinds) some all =
    ap (option_and_then (common a)) (one_common kind (b ∷ kinds) (some_first b kinds) all.1) ∙ ap (λ k. common k kind) all.0 ∙ common_self kind

abbrev IsOneOfNumbers : Option DataType → Type 0
IsOneOfNumbers o = (o ≡ Some Integer) ⊎ (o ≡ Some Long)

number_step : (a : DataType) (rest : Option DataType) → IsNumeric a → IsOneOfNumbers rest → IsOneOfNumbers (option_and_then (common a) rest)
number_step Integer rest n (inl e) = inl (ap (option_and_then (common Integer)) e)
number_step Integer rest n (inr e) = inr (ap (option_and_then (common Integer)) e)
number_step Long rest n (inl e) = inr (ap (option_and_then (common Long)) e)
number_step Long rest n (inr e) = inr (ap (option_and_then (common Long)) e)
number_step Boolean rest n h = elim n [ ]
number_step Text rest n h = elim n [ ]
number_step Date rest n h = elim n [ ]

number_first : (a : DataType) → IsNumeric a → IsOneOfNumbers (Some a)
number_first Integer n = inl refl
number_first Long n = inr refl
number_first Boolean n = elim n [ ]
number_first Text n = elim n [ ]
number_first Date n = elim n [ ]

numbers_common : (a : DataType) (kinds : List DataType) → IsNumeric a → AllByRecursion IsNumeric kinds → IsOneOfNumbers (common_of (a ∷ kinds))
numbers_common a [] n all = number_first a n
numbers_common a (b ∷ kinds) n all = number_step a (common_of (b ∷ kinds)) n (numbers_common b kinds all.0 all.1)

long_step : (rest : Option DataType) → IsOneOfNumbers rest → option_and_then (common Long) rest ≡ Some Long
long_step rest (inl e) = ap (option_and_then (common Long)) e
long_step rest (inr e) = ap (option_and_then (common Long)) e

long_common : (kinds : List DataType) → AllByRecursion IsNumeric kinds → common_of (Long ∷ kinds) ≡ Some Long
long_common [] all = refl
long_common (b ∷ kinds) all = long_step (common_of (b ∷ kinds)) (numbers_common b kinds all.0 all.1)

before_long : {a : DataType} → IsNumeric a → common a Long ≡ Some Long
before_long IsNumeric.integer = refl
before_long IsNumeric.long = refl

with_long : (kinds : List DataType) → AllByRecursion IsNumeric kinds → HasLong kinds → common_of kinds ≡ Some Long
with_long [] all long = absurd long
with_long (a ∷ kinds) all (inl e) = ap (λ k. common_of (k ∷ kinds)) e ∙ long_common kinds all.1
with_long (a ∷ []) all (inr later) = absurd later
with_long (a ∷ b ∷ kinds) all (inr later) = ap (option_and_then (common a)) (with_long (b ∷ kinds) all.1 later) ∙ before_long all.0

pub common_from : {kinds : List DataType} {kind : DataType} → AreSame kinds kind → common_of kinds ≡ Some kind
common_from (AreSame.one_type kind kinds some all) = one_common kind kinds some all
common_from (AreSame.numbers kinds all long) = with_long kinds all long

none_long : (kinds : List DataType) → HasLong kinds → kinds ≢ []
none_long [] long e = long
none_long (a ∷ kinds) long e = cc

same_some : {kinds : List DataType} {kind : DataType} → AreSame kinds kind → kinds ≢ []
same_some (AreSame.one_type kind kinds some all) = some
same_some (AreSame.numbers kinds all long) = none_long kinds long

-- ---- `when`

abbrev WhenShape : List DataType → List DataType → Type 0
WhenShape kinds all =
    ((values : List DataType) × (kinds ≡ branch_types values) × (all ≡ values))
    ⊎ ((values : List DataType) × (otherwise : DataType) × (kinds ≡ branch_types values ++ (otherwise ∷ [])) × (all ≡ values ++ (otherwise ∷ [])))

lists_same : (xs ys : List DataType) → Some xs ≡ Some ys → xs ≡ ys
lists_same xs ys e = cc

shape_step : (v : DataType) (rest r : List DataType) → WhenShape rest r → WhenShape (Boolean ∷ v ∷ rest) (v ∷ r)
shape_step v rest r (inl h) = inl (v ∷ h.0, ap (λ ks. Boolean ∷ v ∷ ks) h.1, ap (λ ks. v ∷ ks) h.2)
shape_step v rest r (inr h) = inr (v ∷ h.0, h.1, ap (λ ks. Boolean ∷ v ∷ ks) h.2, ap (λ ks. v ∷ ks) h.3)

shape_then : (v : DataType) (rest all : List DataType) (o : Option (List DataType)) → option_map (λ values. v ∷ values) o ≡ Some all → ((r : List DataType) → o ≡ Some r → WhenShape rest r) → WhenShape (Boolean ∷ v ∷ rest) all
shape_then v rest all None e later = cc
shape_then v rest all (Some r) e later = subst (WhenShape (Boolean ∷ v ∷ rest)) (lists_same (v ∷ r) all e) (shape_step v rest r (later r refl))

when_shape : (kinds all : List DataType) → when_values kinds ≡ Some all → WhenShape kinds all
when_shape [] all e = inl ([], refl, sym (lists_same [] all e))
when_shape (o ∷ []) all e = inr ([], o, refl, sym (lists_same (o ∷ []) all e))
when_shape (Boolean ∷ v ∷ rest) all e = shape_then v rest all (when_values rest) e (λ r f. when_shape rest r f)
when_shape (c ∷ v ∷ rest) all e = cc

abbrev WhenParts : DataType → Option (List DataType) → Type 0
WhenParts kind o = (values : List DataType) × (o ≡ Some values) × (common_of values ≡ Some kind)

when_parts : (kind : DataType) (o : Option (List DataType)) → option_and_then common_of o ≡ Some kind → WhenParts kind o
when_parts kind None e = cc
when_parts kind (Some values) e = (values, refl, e)

in_when : (a b kind : DataType) (rest all : List DataType) → WhenShape (a ∷ b ∷ rest) all → AreSame all kind → IsInTable Function.When (a ∷ b ∷ rest) kind
in_when a b kind rest all (inl h) same =
    subst (λ (ks : List DataType). IsInTable Function.When ks kind) (sym h.1) (IsInTable.when h.0 kind (subst (λ (ks : List DataType). AreSame ks kind) h.2 same))
in_when a b kind rest all (inr h) same =
    subst (λ (ks : List DataType). IsInTable Function.When ks kind) (sym h.2)
    (IsInTable.when_otherwise h.0 h.1 kind (λ none. two_are_not_one (h.2 ∙ ap (λ (values : List DataType). branch_types values ++ (h.1 ∷ [])) none)) (subst (λ (ks : List DataType). AreSame ks kind) h.3 same))
  where
    two_are_not_one : {c : DataType} → (a ∷ b ∷ rest) ≡ (c ∷ []) → ⊥
    two_are_not_one e = cc

values-branches : (values : List DataType) → when_values (branch_types values) ≡ Some values
values-branches [] = refl
values-branches (v ∷ values) = ap (option_map (λ vs. v ∷ vs)) (values-branches values)

values-otherwise : (values : List DataType) (otherwise : DataType) → when_values (branch_types values ++ (otherwise ∷ [])) ≡ Some (values ++ (otherwise ∷ []))
values-otherwise [] otherwise = refl
values-otherwise (v ∷ values) otherwise = ap (option_map (λ vs. v ∷ vs)) (values-otherwise values otherwise)

when_from : (values : List DataType) (kind : DataType) → AreSame values kind → when_type (branch_types values) ≡ Some kind
when_from [] kind same = absurd (same_some same refl)
when_from (v ∷ values) kind same = ap (option_and_then common_of) (values-branches (v ∷ values)) ∙ common_from same

otherwise_from : (values : List DataType) (otherwise kind : DataType) → values ≢ [] → AreSame (values ++ (otherwise ∷ [])) kind → when_type (branch_types values ++ (otherwise ∷ [])) ≡ Some kind
otherwise_from [] otherwise kind some same = absurd (some refl)
otherwise_from (v ∷ values) otherwise kind some same = ap (option_and_then common_of) (values-otherwise (v ∷ values) otherwise) ∙ common_from same

-- ---- `concat`

texts_of : (kinds : List DataType) → list_all (same_kind Text) kinds ≡ true → kinds ≡ replicate (length kinds) Text
texts_of [] e = refl
texts_of (a ∷ kinds) e =
    let parts = and_parts (same_kind Text a) (list_all (same_kind Text) kinds) e in
    ap (λ k. k ∷ kinds) (sym (same_kind-is Text a parts.0)) ∙ ap (λ ks. Text ∷ ks) (texts_of kinds parts.1)

all_texts : (n : ℕ) → list_all (same_kind Text) (replicate n Text) ≡ true
all_texts zero = refl
all_texts (suc n) = all_texts n

concat_where : (a kind : DataType) (kinds : List DataType) (b : Bool) → list_all (same_kind Text) (a ∷ kinds) ≡ b → (if b then Some Text else None) ≡ Some kind → IsInTable Function.Concat (a ∷ kinds) kind
concat_where a kind kinds true f e =
    let parts = and_parts (same_kind Text a) (list_all (same_kind Text) kinds) f in
    subst₂ (IsInTable Function.Concat) (ap (λ k. k ∷ replicate (length kinds) Text) (same_kind-is Text a parts.0) ∙ ap (λ ks. a ∷ ks) (sym (texts_of kinds parts.1))) (Some-is Text kind e) (IsInTable.concat (length kinds))
concat_where a kind kinds false f e = cc

-- ---- the table

module _ (function : Function) where
  in_pair : (result : DataType → DataType → Option DataType) → ((a b kind : DataType) → result a b ≡ Some kind → IsInTable function (a ∷ b ∷ []) kind)
      → (kinds : List DataType) (kind : DataType) → by_two result kinds ≡ Some kind → IsInTable function kinds kind
  in_pair result f (a ∷ b ∷ []) kind e = f a b kind e
  in_pair result f kinds kind e = cc

  in_single : (result : DataType → Option DataType) → ((a kind : DataType) → result a ≡ Some kind → IsInTable function (a ∷ []) kind)
      → (kinds : List DataType) (kind : DataType) → by_one result kinds ≡ Some kind → IsInTable function kinds kind
  in_single result f (a ∷ []) kind e = f a kind e
  in_single result f kinds kind e = cc

  in_exactly : (taken : List DataType) (result : DataType) → IsInTable function taken result → (kinds : List DataType) (kind : DataType) → exactly taken result kinds ≡ Some kind → IsInTable function kinds kind
  in_exactly taken result h kinds kind e = subst₂ (IsInTable function) (exact_kinds taken result kind kinds e) (chosen_kind (pointwise same_kind taken kinds) result kind e) h

  in_comparison : ((a b kind : DataType) → AreSame (a ∷ b ∷ []) kind → IsInTable function (a ∷ b ∷ []) Boolean)
      → (kinds : List DataType) (kind : DataType) → by_two (λ a b. always Boolean (common a b)) kinds ≡ Some kind → IsInTable function kinds kind
  in_comparison f = in_pair (λ a b. always Boolean (common a b)) (λ a b kind e.
      let c = some_common Boolean kind (common a b) e in
      subst (IsInTable function (a ∷ b ∷ [])) (always_kind Boolean kind (common a b) e) (f a b c.0 (same_of (a ∷ b ∷ []) c.0 c.1)))

in_table : (function : Function) (kinds : List DataType) (kind : DataType) → call_type function kinds ≡ Some kind → IsInTable function kinds kind
unfolding call_type
in_table Function.Add kinds kind e = in_pair Function.Add wider (λ a b k f. IsInTable.add a b k (numeric_of a b k f)) kinds kind e
in_table Function.Subtract kinds kind e = in_pair Function.Subtract wider (λ a b k f. IsInTable.subtract a b k (numeric_of a b k f)) kinds kind e
in_table Function.Multiply kinds kind e = in_pair Function.Multiply wider (λ a b k f. IsInTable.multiply a b k (numeric_of a b k f)) kinds kind e
in_table Function.Remainder kinds kind e = in_pair Function.Remainder wider (λ a b k f. IsInTable.remainder a b k (numeric_of a b k f)) kinds kind e
in_table Function.IntegralDivide kinds kind e =
    in_pair Function.IntegralDivide (λ a b. always Long (wider a b)) (λ a b k f.
    let c = some_common Long k (wider a b) f in
    subst (IsInTable Function.IntegralDivide (a ∷ b ∷ [])) (always_kind Long k (wider a b) f) (IsInTable.divide a b c.0 (numeric_of a b c.0 c.1))) kinds kind e
in_table Function.Negative kinds kind e = in_single Function.Negative (λ a. wider a a) (one_numeric (λ a k. IsInTable Function.Negative (a ∷ []) k) IsInTable.negative) kinds kind e
in_table Function.Abs kinds kind e = in_single Function.Abs (λ a. wider a a) (one_numeric (λ a k. IsInTable Function.Abs (a ∷ []) k) IsInTable.absolute) kinds kind e
in_table Function.EqualTo kinds kind e = in_comparison Function.EqualTo IsInTable.equal kinds kind e
in_table Function.NotEqualTo kinds kind e = in_comparison Function.NotEqualTo IsInTable.not_equal kinds kind e
in_table Function.LessThan kinds kind e = in_comparison Function.LessThan IsInTable.less kinds kind e
in_table Function.LessThanOrEqual kinds kind e = in_comparison Function.LessThanOrEqual IsInTable.at_most kinds kind e
in_table Function.GreaterThan kinds kind e = in_comparison Function.GreaterThan IsInTable.greater kinds kind e
in_table Function.GreaterThanOrEqual kinds kind e = in_comparison Function.GreaterThanOrEqual IsInTable.at_least kinds kind e
in_table Function.EqualNullSafe kinds kind e = in_comparison Function.EqualNullSafe IsInTable.null_safe kinds kind e
in_table Function.And kinds kind e = in_exactly Function.And (Boolean ∷ Boolean ∷ []) Boolean IsInTable.and_both kinds kind e
in_table Function.Or kinds kind e = in_exactly Function.Or (Boolean ∷ Boolean ∷ []) Boolean IsInTable.or_either kinds kind e
in_table Function.Not kinds kind e = in_exactly Function.Not (Boolean ∷ []) Boolean IsInTable.not_one kinds kind e
in_table Function.IsNull kinds kind e = in_single Function.IsNull (λ a. Some Boolean) (λ a k f. subst (IsInTable Function.IsNull (a ∷ [])) (Some-is Boolean k f) (IsInTable.is_null a)) kinds kind e
in_table Function.IsNotNull kinds kind e = in_single Function.IsNotNull (λ a. Some Boolean) (λ a k f. subst (IsInTable Function.IsNotNull (a ∷ [])) (Some-is Boolean k f) (IsInTable.is_not_null a)) kinds kind e
in_table Function.Coalesce kinds kind e = IsInTable.coalesce kinds kind (same_of kinds kind e)
in_table Function.When (a ∷ b ∷ kinds) kind e =
    let parts = when_parts kind (when_values (a ∷ b ∷ kinds)) e in
    in_when a b kind kinds parts.0 (when_shape (a ∷ b ∷ kinds) parts.0 parts.1) (same_of parts.0 kind parts.2)
in_table Function.When kinds kind e = cc
in_table Function.In (a ∷ b ∷ kinds) kind e =
    let c = some_common Boolean kind (common_of (a ∷ b ∷ kinds)) e in
    subst (IsInTable Function.In (a ∷ b ∷ kinds)) (always_kind Boolean kind (common_of (a ∷ b ∷ kinds)) e) (IsInTable.is_in a b kinds c.0 (same_of (a ∷ b ∷ kinds) c.0 c.1))
in_table Function.In kinds kind e = cc
in_table Function.Concat [] kind e = cc
in_table Function.Concat (a ∷ kinds) kind e = concat_where a kind kinds (list_all (same_kind Text) (a ∷ kinds)) refl e
in_table Function.Length kinds kind e = in_exactly Function.Length (Text ∷ []) Integer IsInTable.length kinds kind e
in_table Function.StartsWith kinds kind e = in_exactly Function.StartsWith (Text ∷ Text ∷ []) Boolean IsInTable.starts_with kinds kind e
in_table Function.EndsWith kinds kind e = in_exactly Function.EndsWith (Text ∷ Text ∷ []) Boolean IsInTable.ends_with kinds kind e
in_table Function.Contains kinds kind e = in_exactly Function.Contains (Text ∷ Text ∷ []) Boolean IsInTable.contains kinds kind e
in_table Function.Year kinds kind e = in_exactly Function.Year (Date ∷ []) Integer IsInTable.year kinds kind e
in_table Function.Month kinds kind e = in_exactly Function.Month (Date ∷ []) Integer IsInTable.month kinds kind e
in_table Function.DayOfMonth kinds kind e = in_exactly Function.DayOfMonth (Date ∷ []) Integer IsInTable.day_of_month kinds kind e
in_table Function.DateAdd kinds kind e = in_exactly Function.DateAdd (Date ∷ Integer ∷ []) Date IsInTable.date_add kinds kind e
in_table Function.DateSub kinds kind e = in_exactly Function.DateSub (Date ∷ Integer ∷ []) Date IsInTable.date_sub kinds kind e
in_table Function.DateDiff kinds kind e = in_exactly Function.DateDiff (Date ∷ Date ∷ []) Integer IsInTable.date_diff kinds kind e
in_table other kinds kind e = cc

from_table : {function : Function} {kinds : List DataType} {kind : DataType} → IsInTable function kinds kind → call_type function kinds ≡ Some kind
unfolding call_type
from_table (IsInTable.add a b kind h) = wider_of h
from_table (IsInTable.subtract a b kind h) = wider_of h
from_table (IsInTable.multiply a b kind h) = wider_of h
from_table (IsInTable.remainder a b kind h) = wider_of h
from_table (IsInTable.divide a b kind h) = ap (always Long) (wider_of h)
from_table (IsInTable.negative kind h) = wider_self h
from_table (IsInTable.absolute kind h) = wider_self h
from_table (IsInTable.equal a b kind h) = ap (always Boolean) (common_from h)
from_table (IsInTable.not_equal a b kind h) = ap (always Boolean) (common_from h)
from_table (IsInTable.less a b kind h) = ap (always Boolean) (common_from h)
from_table (IsInTable.at_most a b kind h) = ap (always Boolean) (common_from h)
from_table (IsInTable.greater a b kind h) = ap (always Boolean) (common_from h)
from_table (IsInTable.at_least a b kind h) = ap (always Boolean) (common_from h)
from_table (IsInTable.null_safe a b kind h) = ap (always Boolean) (common_from h)
from_table IsInTable.and_both = refl
from_table IsInTable.or_either = refl
from_table IsInTable.not_one = refl
from_table (IsInTable.is_null a) = refl
from_table (IsInTable.is_not_null a) = refl
from_table (IsInTable.coalesce kinds kind h) = common_from h
from_table (IsInTable.when values kind h) = when_from values kind h
from_table (IsInTable.when_otherwise values otherwise kind some h) = otherwise_from values otherwise kind some h
from_table (IsInTable.is_in value other others kind h) = ap (always Boolean) (common_from h)
from_table (IsInTable.concat more) = ap (λ (b : Bool). if b then Some Text else None) (all_texts more)
from_table IsInTable.length = refl
from_table IsInTable.starts_with = refl
from_table IsInTable.ends_with = refl
from_table IsInTable.contains = refl
from_table IsInTable.year = refl
from_table IsInTable.month = refl
from_table IsInTable.day_of_month = refl
from_table IsInTable.date_add = refl
from_table IsInTable.date_sub = refl
from_table IsInTable.date_diff = refl

pub calls_are_of_the_table : CallsAreOfTheTable
calls_are_of_the_table function kinds kind = (in_table function kinds kind, from_table)

-- ---- aggregates

aggregate_in : (function : Function) (distinct : Bool) (argument : Option DataType) (kind : DataType) → aggregate_type function distinct argument ≡ Some kind → IsAggregateOf function distinct argument kind
aggregate_in Function.Count false None kind e = subst (IsAggregateOf Function.Count false None) (Some-is Long kind e) IsAggregateOf.count_rows
aggregate_in Function.Count true None kind e = cc
aggregate_in Function.Count true (Some a) kind e = subst (IsAggregateOf Function.Count true (Some a)) (Some-is Long kind e) (IsAggregateOf.count true a)
aggregate_in Function.Count false (Some a) kind e = subst (IsAggregateOf Function.Count false (Some a)) (Some-is Long kind e) (IsAggregateOf.count false a)
aggregate_in Function.Sum false (Some a) kind e =
    let c = some_common Long kind (wider a a) e in
    subst (IsAggregateOf Function.Sum false (Some a)) (always_kind Long kind (wider a a) e) (one_numeric (λ b k. IsAggregateOf Function.Sum false (Some b) Long) IsAggregateOf.sum a c.0 c.1)
aggregate_in Function.Min false (Some a) kind e = subst (IsAggregateOf Function.Min false (Some a)) (Some-is a kind e) (IsAggregateOf.least a)
aggregate_in Function.Max false (Some a) kind e = subst (IsAggregateOf Function.Max false (Some a)) (Some-is a kind e) (IsAggregateOf.greatest a)
aggregate_in function distinct argument kind e = cc

aggregate_from : {function : Function} {distinct : Bool} {argument : Option DataType} {kind : DataType} → IsAggregateOf function distinct argument kind → aggregate_type function distinct argument ≡ Some kind
aggregate_from IsAggregateOf.count_rows = refl
aggregate_from (IsAggregateOf.count true kind) = refl
aggregate_from (IsAggregateOf.count false kind) = refl
aggregate_from (IsAggregateOf.sum kind h) = ap (always Long) (wider_self h)
aggregate_from (IsAggregateOf.least kind) = refl
aggregate_from (IsAggregateOf.greatest kind) = refl

pub aggregates_are_of_the_table : AggregatesAreOfTheTable
aggregates_are_of_the_table function distinct argument kind = (aggregate_in function distinct argument kind, aggregate_from)
