-- Functions of several values, by the value that comes next.
use Rattle.std.proofs.Common.{◌≡◌, ℕ, Bool, true, false, List, [], ◌∷◌, ◌++◌, append_assoc, refl, sym, ap}
use Rattle.cn_types.specs.declared.value.Value.{Value}
use Rattle.cn_types.specs.declared.value.Value.TheVariants.{Null, Boolean, Integer, Long, Text, Date}
use Rattle.plan_model.specs.Comparisons.{or_all}
use Rattle.plan_model.specs.Texts.{joined, concat}
use Rattle.plan_model.specs.Truth.{or_value}

pub joined-next : (j t : List ℕ) (rest : Value) → joined (Text j) (joined (Text t) rest) ≡ joined (Text (j ++ t)) rest
joined-next j t Null = refl
joined-next j t (Boolean b) = refl
joined-next j t (Integer n) = refl
joined-next j t (Long n) = refl
joined-next j t (Text u) = ap Text (sym (append_assoc j t u))
joined-next j t (Date d) = refl

-- the `or` of values of which none was true, and perhaps one was null
abbrev pub so_far : Bool → Value
so_far true = Null
so_far false = Boolean false

pub or-true : (unknown : Bool) (rest : Value) → or_value (so_far unknown) (or_value (Boolean true) rest) ≡ Boolean true
or-true true rest = refl
or-true false rest = refl

pub or-false : (unknown : Bool) (rest : Value) → or_value (so_far unknown) (or_value (Boolean false) rest) ≡ or_value (so_far unknown) rest
or-false true Null = refl
or-false true (Boolean true) = refl
or-false true (Boolean false) = refl
or-false true (Integer n) = refl
or-false true (Long n) = refl
or-false true (Text u) = refl
or-false true (Date d) = refl
or-false false Null = refl
or-false false (Boolean true) = refl
or-false false (Boolean false) = refl
or-false false (Integer n) = refl
or-false false (Long n) = refl
or-false false (Text u) = refl
or-false false (Date d) = refl

pub or-null : (unknown : Bool) (rest : Value) → or_value (so_far unknown) (or_value Null rest) ≡ or_value Null rest
or-null true Null = refl
or-null true (Boolean true) = refl
or-null true (Boolean false) = refl
or-null true (Integer n) = refl
or-null true (Long n) = refl
or-null true (Text u) = refl
or-null true (Date d) = refl
or-null false Null = refl
or-null false (Boolean true) = refl
or-null false (Boolean false) = refl
or-null false (Integer n) = refl
or-null false (Long n) = refl
or-null false (Text u) = refl
or-null false (Date d) = refl

-- nothing in front of a joined text changes it
joined-nothing : (a b : Value) → joined (Text []) (joined a b) ≡ joined a b
joined-nothing (Text x) (Text y) = refl
joined-nothing a b = refl

pub concat-nothing : (values : List Value) → concat values ≡ joined (Text []) (concat values)
concat-nothing [] = refl
concat-nothing (value ∷ values) = sym (joined-nothing value (concat values))

or-nothing : (a b : Value) → or_value (Boolean false) (or_value a b) ≡ or_value a b
or-nothing (Boolean true) b = refl
or-nothing a (Boolean true) = refl
or-nothing (Boolean false) (Boolean false) = refl
or-nothing a b = refl

pub or_all-nothing : (values : List Value) → or_all values ≡ or_value (Boolean false) (or_all values)
or_all-nothing [] = refl
or_all-nothing (value ∷ values) = sym (or-nothing value (or_all values))
