-- What calls of functions hold.
use Rattle.std.proofs.Common.{◌≡◌, ◌≢◌, ◌↔◌, ◌<◌, ◌%◌, ℕ, zero, suc, ℤ, pos, negsuc, ◌+ℤ◌, ◌-ℤ◌, ◌*ℤ◌, Bool, true, false, if◌then◌else◌, Option, Some, unwrap_or, List, [], ◌∷◌, ◌++◌, map, replicate, length, refl, sym, ap, ◌∙◌, subst, inl, inr, ◌⊎◌, arith}
use Rattle.std.specs.Prelude.{◌≤ℤ◌, neg_ℤ, find, int_div, int_rem, unsigned_abs}
use Rattle.std.specs.declared.cmp.Ordering.{Ordering}
use Rattle.std.specs.List.{AllByRecursion, flat_map}
use Rattle.std.specs.Ordering.{is_eq, is_ne, is_lt, is_le, is_gt, is_ge, int_eq}
use Rattle.std.proofs.lemmas.Bool.{false_from_ne_true}
use Rattle.std.proofs.Math.Nat.{mod-eq_of_lt}
use Rattle.std.proofs.lemmas.Bool.Decides.{Decides-int_eq}
use Rattle.std.proofs.lemmas.Int.{ints, quot-rem, rem_below}
use Rattle.std.proofs.lemmas.Str.{chars-encodes}
use Rattle.cn_types.specs.declared.value.DataType.{DataType}
use Rattle.cn_types.specs.declared.value.DataType.TheVariants as K
use Rattle.cn_types.specs.declared.value.Value.{Value}
use Rattle.cn_types.specs.declared.value.Value.TheVariants.{Null, Boolean, Integer, Long, Text, Date}
use Rattle.cn_types.specs.Fit.{HasType, IsDay}
use Rattle.cn_types.specs.Order.{value_cmp, value_eq}
use Rattle.plan_model.specs.AggregateLaws.{IsOneOf}
use Rattle.plan_model.specs.Arithmetic.{arithmetic, number, wrapped_integer, wrapped_long, unless_by_zero, remainder, quotient, integral_divide, negative, absolute}
use Rattle.plan_model.specs.CallLaws.{ComparisonsFollowTheOrder, wrapped_to, IsDivision, ArithmeticWraps, branches_of, AreNotTrue, WhenTakesTheFirst, CoalesceTakesTheFirst, InTellsMembers, TextsAreMadeOfParts, DaysMove}
use Rattle.plan_model.specs.Comparisons.{comparison, judged, is_not_distinct, equal_to, member_of}
use Rattle.plan_model.specs.Conditionals.{widened, coalesce, when}
use Rattle.plan_model.specs.DateFunctions.{date_in_range}
use Rattle.plan_model.specs.Functions.{call}
use Rattle.plan_model.specs.FunctionTypes.{wider, common, call_type}
use Rattle.plan_model.specs.Texts.{joined, concat, has_start, has_end, has_part}
use Rattle.plan_model.specs.Truth.{or_value, is_true, is_present}
use Rattle.plan_model.proofs.CallTypes.{Some-is, Widens, widens_own, common_left, common_right, always_kind, or_all_typed}
use Rattle.plan_model.proofs.CastFacts.{days_tested}
use Rattle.plan_model.proofs.ComparisonFacts.{comparison_in_type, not_distinct_in_type, Boolean-true}
use Rattle.plan_model.proofs.FunctionFacts.{texts_start_and_end}
use Rattle.plan_model.proofs.Parts.{parts_within}

-- ---- comparisons

-- values compare as they do in a type that holds both
pub comparison-widened : (kind : DataType) (a b : Value) → comparison a b ≡ comparison (widened kind a) (widened kind b)
comparison-widened K.Long Null (Integer n) = refl
comparison-widened K.Long (Boolean x) (Integer n) = refl
comparison-widened K.Long (Integer m) (Integer n) = refl
comparison-widened K.Long (Integer m) (Long n) = refl
comparison-widened K.Long (Long m) (Integer n) = refl
comparison-widened K.Long (Text t) (Integer n) = refl
comparison-widened K.Long (Date d) (Integer n) = refl
comparison-widened kind a b = refl

distinct-widened : (kind : DataType) (a b : Value) → is_not_distinct a b ≡ is_not_distinct (widened kind a) (widened kind b)
distinct-widened K.Long Null (Integer n) = refl
distinct-widened K.Long (Boolean x) (Integer n) = refl
distinct-widened K.Long (Integer m) (Integer n) = refl
distinct-widened K.Long (Integer m) (Long n) = refl
distinct-widened K.Long (Long m) (Integer n) = refl
distinct-widened K.Long (Text t) (Integer n) = refl
distinct-widened K.Long (Date d) (Integer n) = refl
distinct-widened kind a b = refl

pub widened-present : (kind : DataType) (a : Value) → a ≢ Null → widened kind a ≢ Null
widened-present K.Long (Integer n) present = λ (e : Long n ≡ Null). cc
widened-present kind a present = present

-- two values that widen to one type stand in its order
pub compared_in : (kind : DataType) (a b : Value) → Widens kind a → Widens kind b → a ≢ Null → b ≢ Null → comparison a b ≡ Some (value_cmp (widened kind a) (widened kind b))
compared_in kind a b p q m n =
    comparison-widened kind a b ∙ comparison_in_type kind (widened kind a) (widened kind b) p q (widened-present kind a m) (widened-present kind b n)

compared_by_order : (left right kind : DataType) (a b : Value) → common left right ≡ Some kind → HasType left a → HasType right b → a ≢ Null → b ≢ Null
    → comparison a b ≡ Some (value_cmp (widened kind a) (widened kind b))
compared_by_order left right kind a b e p q m n = compared_in kind a b (common_left kind left right a e p) (common_right kind left right b e (widens_own right b q)) m n

pub compares : (test : Ordering → Bool) (left right kind : DataType) (a b : Value) → common left right ≡ Some kind → HasType left a → HasType right b → a ≢ Null → b ≢ Null
    → judged test (comparison a b) ≡ Boolean (test (value_cmp (widened kind a) (widened kind b)))
compares test left right kind a b e p q m n = ap (judged test) (compared_by_order left right kind a b e p q m n)

null_safe : (left right kind : DataType) (a b : Value) → common left right ≡ Some kind → HasType left a → HasType right b → is_not_distinct a b ≡ value_eq (widened kind a) (widened kind b)
null_safe left right kind a b e p q =
    distinct-widened kind a b ∙ not_distinct_in_type kind (widened kind a) (widened kind b) (common_left kind left right a e p) (common_right kind left right b e (widens_own right b q))

pub comparisons_follow_the_order : ComparisonsFollowTheOrder
unfolding call
comparisons_follow_the_order = record {
  equal = compares is_eq;
  not_equal = compares is_ne;
  less = compares is_lt;
  at_most = compares is_le;
  greater = compares is_gt;
  at_least = compares is_ge;
  null_safe = λ left right kind a b e p q. ap Boolean (null_safe left right kind a b e p q);
}

-- ---- numbers

is_number : (m n : ℤ) → Some m ≡ Some n → m ≡ n
is_number m n e = cc

in_type : (kind other : DataType) (n : ℤ) (value : Value) → Some other ≡ Some kind → value ≡ wrapped_to other n → value ≡ wrapped_to kind n
in_type kind other n value e f = subst (λ k. value ≡ wrapped_to k n) (Some-is other kind e) f

operands : (operation : ℤ → ℤ → ℤ) (wrap : ℤ → Value) (x y m n : ℤ) → Some x ≡ Some m → Some y ≡ Some n → wrap (operation x y) ≡ wrap (operation m n)
operands operation wrap x y m n e f = ap (λ z. wrap (operation z y)) (is_number x m e) ∙ ap (λ z. wrap (operation m z)) (is_number y n f)

pub computed : (operation : ℤ → ℤ → ℤ) (kind left right : DataType) (a b : Value) (m n : ℤ) → wider left right ≡ Some kind → HasType left a → HasType right b → number a ≡ Some m → number b ≡ Some n
    → arithmetic operation a b ≡ wrapped_to kind (operation m n)
computed operation kind K.Integer K.Integer (Integer x) (Integer y) m n e p q f g = in_type kind K.Integer (operation m n) (wrapped_integer (operation x y)) e (operands operation wrapped_integer x y m n f g)
computed operation kind K.Integer K.Long (Integer x) (Long y) m n e p q f g = in_type kind K.Long (operation m n) (wrapped_long (operation x y)) e (operands operation wrapped_long x y m n f g)
computed operation kind K.Long K.Integer (Long x) (Integer y) m n e p q f g = in_type kind K.Long (operation m n) (wrapped_long (operation x y)) e (operands operation wrapped_long x y m n f g)
computed operation kind K.Long K.Long (Long x) (Long y) m n e p q f g = in_type kind K.Long (operation m n) (wrapped_long (operation x y)) e (operands operation wrapped_long x y m n f g)
computed operation kind K.Boolean right a b m n e p q f g = cc
computed operation kind K.Text right a b m n e p q f g = cc
computed operation kind K.Date right a b m n e p q f g = cc
computed operation kind K.Integer K.Boolean a b m n e p q f g = cc
computed operation kind K.Integer K.Text a b m n e p q f g = cc
computed operation kind K.Integer K.Date a b m n e p q f g = cc
computed operation kind K.Long K.Boolean a b m n e p q f g = cc
computed operation kind K.Long K.Text a b m n e p q f g = cc
computed operation kind K.Long K.Date a b m n e p q f g = cc
computed operation kind left right Null b m n e p q f g = cc
computed operation kind left right (Boolean x) b m n e p q f g = cc
computed operation kind left right (Text x) b m n e p q f g = cc
computed operation kind left right (Date x) b m n e p q f g = cc
computed operation kind left right a Null m n e p q f g = cc
computed operation kind left right a (Boolean x) m n e p q f g = cc
computed operation kind left right a (Text x) m n e p q f g = cc
computed operation kind left right a (Date x) m n e p q f g = cc
computed operation kind K.Integer right (Long x) b m n e p q f g = absurd p
computed operation kind K.Long right (Integer x) b m n e p q f g = absurd p
computed operation kind left K.Integer a (Long x) m n e p q f g = absurd q
computed operation kind left K.Long a (Integer x) m n e p q f g = absurd q

-- a divisor that is not zero
not_zero : (n : ℤ) → n ≢ pos 0 → 0 < unsigned_abs n
not_zero (pos zero) h = absurd (h refl)
not_zero (pos (suc n)) h = omega arith
not_zero (negsuc n) h = omega arith

at_least_zero : (k : ℕ) → pos 0 ≤ℤ pos k
at_least_zero k = omega (arith, ints)

at_most_zero : (k : ℕ) → neg_ℤ (pos k) ≤ℤ pos 0
at_most_zero k = omega (arith, ints)

rest_not_below : (m n : ℤ) → pos 0 ≤ℤ m → pos 0 ≤ℤ int_rem m n
rest_not_below (pos a) n h = at_least_zero (a % unsigned_abs n)
rest_not_below (negsuc a) n h = absurd h.le

rest_not_above : (m n : ℤ) → m ≤ℤ pos 0 → 0 < unsigned_abs n → int_rem m n ≤ℤ pos 0
rest_not_above (pos a) n h some =
    let none : a ≡ 0 = omega (arith, ints) in
    let rest : a % unsigned_abs n ≡ 0 = ap (λ k. k % unsigned_abs n) none ∙ mod-eq_of_lt some in
    subst (λ k. pos k ≤ℤ pos 0) (sym rest) (at_most_zero 0)
rest_not_above (negsuc a) n h some = at_most_zero (suc a % unsigned_abs n)

division : (m n : ℤ) → n ≢ pos 0 → IsDivision m n (int_div m n) (int_rem m n)
division m n h = record {
  adds_up = quot-rem m n;
  small = rem_below m n (not_zero n h);
  not_below = rest_not_below m n;
  not_above = λ below. rest_not_above m n below (not_zero n h);
}

pub different_numbers : (m n : ℤ) → m ≢ n → int_eq m n ≡ false
different_numbers m n h = false_from_ne_true (int_eq m n) (λ e. h ((Decides-int_eq m n).0 e))

pub unless_zero : (n : ℤ) (value : Value) → n ≢ pos 0 → (if int_eq n (pos 0) then Null else value) ≡ value
unless_zero n value h = ap (λ (b : Bool). if b then Null else value) (different_numbers n (pos 0) h)

pub quotient_is : (a b : Value) (m n : ℤ) → number a ≡ Some m → number b ≡ Some n → n ≢ pos 0 → integral_divide a b ≡ wrapped_long (int_div m n)
quotient_is a b m n p q h =
    let divided : integral_divide a b ≡ (if int_eq n (pos 0) then Null else wrapped_long (int_div m n)) = λ i. unless_by_zero (q i) (quotient (p i) (q i)) in
    divided ∙ unless_zero n (wrapped_long (int_div m n)) h

pub remainder_is : (a b : Value) (n : ℤ) → number b ≡ Some n → n ≢ pos 0 → remainder a b ≡ arithmetic int_rem a b
remainder_is a b n q h = ap (λ (o : Option ℤ). unless_by_zero o (arithmetic int_rem a b)) q ∙ unless_zero n (arithmetic int_rem a b) h

pub negated : (kind of_type : DataType) (a : Value) (n : ℤ) → wider of_type of_type ≡ Some kind → HasType of_type a → number a ≡ Some n → negative a ≡ wrapped_to kind (neg_ℤ n)
negated kind K.Integer (Integer x) n e p g = in_type kind K.Integer (neg_ℤ n) (wrapped_integer (neg_ℤ x)) e (ap (λ z. wrapped_integer (neg_ℤ z)) (is_number x n g))
negated kind K.Long (Long x) n e p g = in_type kind K.Long (neg_ℤ n) (wrapped_long (neg_ℤ x)) e (ap (λ z. wrapped_long (neg_ℤ z)) (is_number x n g))
negated kind K.Integer Null n e p g = cc
negated kind K.Long Null n e p g = cc
negated kind K.Integer a n e p g = absurd p
negated kind K.Long a n e p g = absurd p
negated kind of_type a n e p g = cc

pub made_absolute : (kind of_type : DataType) (a : Value) (n : ℤ) → wider of_type of_type ≡ Some kind → HasType of_type a → number a ≡ Some n → absolute a ≡ wrapped_to kind (pos (unsigned_abs n))
made_absolute kind K.Integer (Integer x) n e p g = in_type kind K.Integer (pos (unsigned_abs n)) (wrapped_integer (pos (unsigned_abs x))) e (ap (λ z. wrapped_integer (pos (unsigned_abs z))) (is_number x n g))
made_absolute kind K.Long (Long x) n e p g = in_type kind K.Long (pos (unsigned_abs n)) (wrapped_long (pos (unsigned_abs x))) e (ap (λ z. wrapped_long (pos (unsigned_abs z))) (is_number x n g))
made_absolute kind K.Integer Null n e p g = cc
made_absolute kind K.Long Null n e p g = cc
made_absolute kind K.Integer a n e p g = absurd p
made_absolute kind K.Long a n e p g = absurd p
made_absolute kind of_type a n e p g = cc

pub arithmetic_wraps : ArithmeticWraps
unfolding call call_type
arithmetic_wraps = record {
  add = λ kind a b m n h. computed ◌+ℤ◌ kind h.left h.right a b m n h.allowed h.left_typed h.right_typed h.left_is h.right_is;
  subtract = λ kind a b m n h. computed ◌-ℤ◌ kind h.left h.right a b m n h.allowed h.left_typed h.right_typed h.left_is h.right_is;
  multiply = λ kind a b m n h. computed ◌*ℤ◌ kind h.left h.right a b m n h.allowed h.left_typed h.right_typed h.left_is h.right_is;
  divide = λ kind a b m n h some. (
    int_div m n,
    int_rem m n,
    division m n some,
    subst (λ k. integral_divide a b ≡ wrapped_to k (int_div m n)) (always_kind K.Long kind (wider h.left h.right) h.allowed) (quotient_is a b m n h.left_is h.right_is some),
  );
  remainder = λ kind a b m n h some. (
    int_div m n,
    int_rem m n,
    division m n some,
    remainder_is a b n h.right_is some ∙ computed int_rem kind h.left h.right a b m n h.allowed h.left_typed h.right_typed h.left_is h.right_is,
  );
  negative = λ kind a n h. negated kind h.of_type a n h.allowed h.typed h.is;
  absolute = λ kind a n h. made_absolute kind h.of_type a n h.allowed h.typed h.is;
}

-- ---- conditions and choices

abbrev Branches : Type 0
Branches = List (Value × Value)

pub widened-Null : (kind : DataType) → widened kind Null ≡ Null
widened-Null K.Boolean = refl
widened-Null K.Integer = refl
widened-Null K.Long = refl
widened-Null K.Text = refl
widened-Null K.Date = refl

-- a first condition that is not true is passed over
passed : (condition value other : Value) → is_true condition ≡ false → (if is_true condition then value else other) ≡ other
passed condition value other e = ap (λ (b : Bool). if b then value else other) e

when-first : (before : Branches) (value : Value) (after : List Value) → AreNotTrue before → when (branches_of before ++ (Boolean true ∷ value ∷ after)) ≡ value
when-first [] value after h = refl
when-first (b ∷ before) value after h = passed b.0 b.1 (when (branches_of before ++ (Boolean true ∷ value ∷ after))) h.0 ∙ when-first before value after h.1

when-otherwise : (branches : Branches) (value : Value) → AreNotTrue branches → when (branches_of branches ++ (value ∷ [])) ≡ value
when-otherwise [] value h = refl
when-otherwise (b ∷ branches) value h = passed b.0 b.1 (when (branches_of branches ++ (value ∷ []))) h.0 ∙ when-otherwise branches value h.1

pub when-nothing : (branches : Branches) → AreNotTrue branches → when (branches_of branches) ≡ Null
when-nothing [] h = refl
when-nothing (b ∷ branches) h = passed b.0 b.1 (when (branches_of branches)) h.0 ∙ when-nothing branches h.1

pub when_takes_the_first : WhenTakesTheFirst
unfolding call
when_takes_the_first = record {
  first_true = λ kind before value after h. ap (widened kind) (when-first before value after h);
  otherwise = λ kind branches value h. ap (widened kind) (when-otherwise branches value h);
  nothing = λ kind branches h. ap (widened kind) (when-nothing branches h) ∙ widened-Null kind;
}

pub present-is : (value : Value) → value ≢ Null → is_present value ≡ true
present-is Null h = absurd (h refl)
present-is (Boolean b) h = refl
present-is (Integer n) h = refl
present-is (Long n) h = refl
present-is (Text t) h = refl
present-is (Date d) h = refl

coalesce-first : (nulls : ℕ) (value : Value) (after : List Value) → value ≢ Null → coalesce (replicate nulls Null ++ (value ∷ after)) ≡ value
coalesce-first zero value after h = ap (λ (b : Bool). unwrap_or (if b then Some value else find is_present after) Null) (present-is value h)
coalesce-first (suc nulls) value after h = coalesce-first nulls value after h

coalesce-nothing : (nulls : ℕ) → coalesce (replicate nulls Null) ≡ Null
coalesce-nothing zero = refl
coalesce-nothing (suc nulls) = coalesce-nothing nulls

pub coalesce_takes_the_first : CoalesceTakesTheFirst
unfolding call
coalesce_takes_the_first = record {
  first_present = λ kind nulls value after h. ap (widened kind) (coalesce-first nulls value after h);
  nothing = λ kind nulls. ap (widened kind) (coalesce-nothing nulls) ∙ widened-Null kind;
}

or-true : (x r : Value) → or_value x r ≡ Boolean true → (x ≡ Boolean true) ⊎ (r ≡ Boolean true)
or-true (Boolean true) r e = inl refl
or-true x (Boolean true) e = inr refl
or-true (Boolean false) (Boolean false) e = cc
or-true x r e = cc

or-right : (x : Value) → or_value x (Boolean true) ≡ Boolean true
or-right Null = refl
or-right (Boolean true) = refl
or-right (Boolean false) = refl
or-right (Integer n) = refl
or-right (Long n) = refl
or-right (Text t) = refl
or-right (Date d) = refl

or-false : (x r : Value) → or_value x r ≡ Boolean false → (x ≡ Boolean false) × (r ≡ Boolean false)
or-false (Boolean true) r e = cc
or-false x (Boolean true) e = let f : Boolean true ≡ Boolean false = sym (or-right x) ∙ e in cc
or-false (Boolean false) (Boolean false) e = (refl, refl)
or-false x r e = cc

abbrev Equal : Value → List Value → Type 0
Equal value others = (other : Value) × IsOneOf other others × (equal_to value other ≡ Boolean true)

equal_later : (value first : Value) (others : List Value) → Equal value others → Equal value (first ∷ others)
equal_later value first others h = (h.0, inr h.1, h.2)

some_equal : (value : Value) (others : List Value) → member_of value others ≡ Boolean true → Equal value others
some_equal value [] e = cc
some_equal value (other ∷ others) e = elim (or-true (equal_to value other) (member_of value others) e) [
  | inl here ↦ (other, inl refl, here)
  | inr later ↦ equal_later value other others (some_equal value others later)
]

equal_some : (value : Value) (others : List Value) (other : Value) → IsOneOf other others → equal_to value other ≡ Boolean true → member_of value others ≡ Boolean true
equal_some value [] other one e = absurd one
equal_some value (first ∷ others) other (inl same) e = ap (λ v. or_value (equal_to value v) (member_of value others)) (sym same) ∙ ap (λ v. or_value v (member_of value others)) e
equal_some value (first ∷ others) other (inr one) e = ap (or_value (equal_to value first)) (equal_some value others other one e) ∙ or-right (equal_to value first)

none_equal : (value : Value) (others : List Value) → member_of value others ≡ Boolean false → AllByRecursion (λ other. equal_to value other ≡ Boolean false) others
none_equal value [] e = tt
none_equal value (other ∷ others) e = let parts = or-false (equal_to value other) (member_of value others) e in (parts.0, none_equal value others parts.1)

equal_none : (value : Value) (others : List Value) → AllByRecursion (λ other. equal_to value other ≡ Boolean false) others → member_of value others ≡ Boolean false
equal_none value [] all = refl
equal_none value (other ∷ others) all = ap (λ v. or_value v (member_of value others)) all.0 ∙ ap (or_value (Boolean false)) (equal_none value others all.1)

boolean_or_null : (v : Value) → HasType K.Boolean v → v ≢ Boolean true → v ≢ Boolean false → v ≡ Null
boolean_or_null Null h p q = refl
boolean_or_null (Boolean true) h p q = absurd (p refl)
boolean_or_null (Boolean false) h p q = absurd (q refl)
boolean_or_null v h p q = absurd h

pub in_tells_members : InTellsMembers
unfolding call
in_tells_members = record {
  some = λ value others. (some_equal value others, λ h. equal_some value others h.0 h.1 h.2);
  none = λ value others. (none_equal value others, equal_none value others);
  otherwise = λ value others. boolean_or_null (member_of value others) (or_all_typed (map (λ other. equal_to value other) others));
}

-- ---- texts and dates

concat-joined : (texts : List (List ℕ)) → concat (map Text texts) ≡ Text (flat_map (λ text. text) texts)
concat-joined [] = refl
concat-joined (text ∷ texts) = ap (joined (Text text)) (concat-joined texts)

-- a value that is true where a test is
abbrev IsTold : Bool → Type 0 → Type 0
IsTold b P = (Boolean b ≡ Boolean true) ↔ P

told : (b : Bool) (P : Type 0) → (b ≡ true) ↔ P → IsTold b P
told b P h = ((λ e. h.0 (Boolean-true b e)), λ p. ap Boolean (h.1 p))

pub texts_are_made_of_parts : TextsAreMadeOfParts
unfolding call
texts_are_made_of_parts = record {
  joined = concat-joined;
  characters = λ scalars h. ap (λ cs. wrapped_integer (pos (length cs))) (chars-encodes scalars h);
  starts = λ text part. told (has_start text part) ((after : List ℕ) × (text ≡ part ++ after)) (texts_start_and_end.starts text part);
  ends = λ text part. told (has_end text part) ((before : List ℕ) × (text ≡ before ++ part)) (texts_start_and_end.ends text part);
  contains = λ text part. told (has_part text part) ((before : List ℕ) × (after : List ℕ) × (text ≡ before ++ (part ++ after))) (parts_within text part);
}

pub in_range : (day : ℤ) → IsDay day → date_in_range day ≡ Date day
in_range day h = ap (λ (b : Bool). if b then Date day else Null) ((days_tested day).1 h)

pub days_move : DaysMove
unfolding call
days_move = record {
  later = λ day days h. in_range (day +ℤ days) h;
  earlier = λ day days h. in_range (day -ℤ days) h;
  between = λ later earlier. refl;
}
