-- Sums of lists, and the least and the greatest of one.
use Rattle.std.proofs.Common.{◌≡◌, ◌≢◌, ◌⊎◌, Bool, true, false, cond, List, [], ◌∷◌, refl, ap, ◌∙◌, inl, inr, arith}
use Rattle.std.proofs.lemmas.Int.{ints}
use Rattle.std.proofs.lemmas.Cmp.{upto, tied_itself}
use Rattle.std.specs.Prelude.{fold, unwrap_or}
use Rattle.std.specs.declared.cmp.Ordering.{Ordering}
use Rattle.std.specs.declared.cmp.Ordering.TheVariants.{Less, Equal, Greater}
use Rattle.std.specs.List.{AllByRecursion, reduce}
use Rattle.std.specs.Ordering.{is_gt, is_lt, ordering_reverse, ord_min, ord_max}
use Rattle.cn_types.specs.declared.value.Value.{Value}
use Rattle.cn_types.specs.declared.value.Value.TheVariants.{Null}
use Rattle.cn_types.specs.Order.{value_cmp}
use Rattle.cn_types.specs.OrderLaws.{ValuesAreOrdered}
use Rattle.cn_types.proofs.OrderFacts.{values_ordered}
use Rattle.plan_model.specs.Aggregates.{present}
use Rattle.plan_model.specs.AggregateLaws.{TotalsAddUp, IsOneOf, IsAtMost, IsAtLeast, ExtremesAreReached}

pub total-append : TotalsAddUp
total-append [] ys = omega (arith, ints)
total-append (x ∷ xs) ys = omega (arith, ints, total-append xs ys)

pub is_gt-reverse : (o : Ordering) → is_gt (ordering_reverse o) ≡ is_lt o
is_gt-reverse Less = refl
is_gt-reverse Equal = refl
is_gt-reverse Greater = refl

is_gt-Less : (o : Ordering) → is_lt o ≡ true → is_gt o ≡ false
is_gt-Less Less e = refl
is_gt-Less Equal e = cc
is_gt-Less Greater e = cc

-- a value that one of two was chosen as
chosen : (m a x : Value) (rest : List Value) (b : Bool) → (m ≡ cond b x a) ⊎ IsOneOf m rest → IsOneOf m (a ∷ x ∷ rest)
chosen m a x rest true (inl e) = inr (inl e)
chosen m a x rest false (inl e) = inl e
chosen m a x rest b (inr r) = inr (inr r)

placed : (m a x : Value) (rest : List Value) (b : Bool) → (m ≡ cond b a x) ⊎ IsOneOf m rest → IsOneOf m (a ∷ x ∷ rest)
placed m a x rest true (inl e) = inl e
placed m a x rest false (inl e) = inr (inl e)
placed m a x rest b (inr r) = inr (inr r)

low : Value → List Value → Value
low a xs = fold (ord_min value_cmp) a xs

high : Value → List Value → Value
high a xs = fold (ord_max value_cmp) a xs

module _ (o : ValuesAreOrdered) where
  at_most_itself : (x : Value) → IsAtMost x x
  at_most_itself x = ap is_gt (tied_itself o x)

  not_below : (a x : Value) → is_lt (value_cmp x a) ≡ false → IsAtMost a x
  not_below a x e = ap is_gt (o.antisymm a x) ∙ is_gt-reverse (value_cmp x a) ∙ e

  min_left : (a x : Value) (b : Bool) → is_lt (value_cmp x a) ≡ b → IsAtMost (cond b x a) a
  min_left a x true e = is_gt-Less (value_cmp x a) e
  min_left a x false e = at_most_itself a

  min_right : (a x : Value) (b : Bool) → is_lt (value_cmp x a) ≡ b → IsAtMost (cond b x a) x
  min_right a x true e = at_most_itself x
  min_right a x false e = not_below a x e

  max_left : (a x : Value) (b : Bool) → is_lt (value_cmp x a) ≡ b → IsAtMost a (cond b a x)
  max_left a x true e = at_most_itself a
  max_left a x false e = not_below a x e

  max_right : (a x : Value) (b : Bool) → is_lt (value_cmp x a) ≡ b → IsAtMost x (cond b a x)
  max_right a x true e = is_gt-Less (value_cmp x a) e
  max_right a x false e = at_most_itself x

  low_first : (xs : List Value) (a : Value) → IsAtMost (low a xs) a
  unfolding low
  low_first [] a = at_most_itself a
  low_first (x ∷ xs) a =
      upto o (low (ord_min value_cmp a x) xs) (ord_min value_cmp a x) a (low_first xs (ord_min value_cmp a x)) (min_left a x (is_lt (value_cmp x a)) refl)

  low_rest : (xs : List Value) (a : Value) → AllByRecursion (IsAtMost (low a xs)) xs
  unfolding low
  low_rest [] a = tt
  low_rest (x ∷ xs) a = (
    upto o (low (ord_min value_cmp a x) xs) (ord_min value_cmp a x) x (low_first xs (ord_min value_cmp a x)) (min_right a x (is_lt (value_cmp x a)) refl),
    low_rest xs (ord_min value_cmp a x),
  )

  low_among : (xs : List Value) (a : Value) → IsOneOf (low a xs) (a ∷ xs)
  unfolding low
  low_among [] a = inl refl
  low_among (x ∷ xs) a = chosen (low (ord_min value_cmp a x) xs) a x xs (is_lt (value_cmp x a)) (low_among xs (ord_min value_cmp a x))

  high_first : (xs : List Value) (a : Value) → IsAtMost a (high a xs)
  unfolding high
  high_first [] a = at_most_itself a
  high_first (x ∷ xs) a =
      upto o a (ord_max value_cmp a x) (high (ord_max value_cmp a x) xs) (max_left a x (is_lt (value_cmp x a)) refl) (high_first xs (ord_max value_cmp a x))

  high_rest : (xs : List Value) (a : Value) → AllByRecursion (IsAtLeast (high a xs)) xs
  unfolding high
  high_rest [] a = tt
  high_rest (x ∷ xs) a = (
    upto o x (ord_max value_cmp a x) (high (ord_max value_cmp a x) xs) (max_right a x (is_lt (value_cmp x a)) refl) (high_first xs (ord_max value_cmp a x)),
    high_rest xs (ord_max value_cmp a x),
  )

  high_among : (xs : List Value) (a : Value) → IsOneOf (high a xs) (a ∷ xs)
  unfolding high
  high_among [] a = inl refl
  high_among (x ∷ xs) a = placed (high (ord_max value_cmp a x) xs) a x xs (is_lt (value_cmp x a)) (high_among xs (ord_max value_cmp a x))

  least_all : (xs : List Value) → AllByRecursion (IsAtMost (unwrap_or (reduce (ord_min value_cmp) xs) Null)) xs
  unfolding low
  least_all [] = tt
  least_all (a ∷ xs) = (low_first xs a, low_rest xs a)

  least_one : (xs : List Value) → xs ≢ [] → IsOneOf (unwrap_or (reduce (ord_min value_cmp) xs) Null) xs
  unfolding low
  least_one [] some = some refl
  least_one (a ∷ xs) some = low_among xs a

  greatest_all : (xs : List Value) → AllByRecursion (IsAtLeast (unwrap_or (reduce (ord_max value_cmp) xs) Null)) xs
  unfolding high
  greatest_all [] = tt
  greatest_all (a ∷ xs) = (high_first xs a, high_rest xs a)

  greatest_one : (xs : List Value) → xs ≢ [] → IsOneOf (unwrap_or (reduce (ord_max value_cmp) xs) Null) xs
  unfolding high
  greatest_one [] some = some refl
  greatest_one (a ∷ xs) some = high_among xs a

  pub extremes_reached : ExtremesAreReached
  extremes_reached = record {
    least_bounds = λ values. least_all (present values);
    least_reached = λ values. least_one (present values);
    greatest_bounds = λ values. greatest_all (present values);
    greatest_reached = λ values. greatest_one (present values);
  }

pub extremes : ExtremesAreReached
extremes = extremes_reached values_ordered
