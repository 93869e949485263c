-- The order of values is total, and tells all values apart.
use Rattle.std.proofs.Common.{◌≡◌, ℕ, ℤ, pos, List, [], ◌∷◌, true, false, refl, sym, ap, subst}
use Rattle.std.specs.Prelude.{IsTrue}
use Rattle.std.specs.declared.cmp.Ordering.{Ordering}
use Rattle.std.specs.declared.cmp.Ordering.TheVariants.{Less, Equal, Greater}
use Rattle.std.specs.Ordering.{nat_cmp, int_cmp, ordering_then, is_eq, on, then_cmp}
use Rattle.std.specs.Cmp.{IsTotalOrder}
use Rattle.std.specs.Cmp.Lexicographic.{slice_cmp}
use Rattle.std.proofs.lemmas.Cmp.{on_total, then_total, nat_cmp_total, int_cmp_total, nat_list_cmp_total, lists_total, tied_itself}
use Rattle.std.proofs.lemmas.Map.Lookups.{exact_signed, exact_bytes}
use Rattle.cn_types.specs.declared.value.Value.{Value}
use Rattle.cn_types.specs.declared.value.Value.TheVariants.{Null, Boolean, Integer, Long, Text, Date}
use Rattle.cn_types.specs.declared.row.Row.{Row}
use Rattle.cn_types.specs.Order.{class_of, value_cmp, row_cmp, row_eq}
use Rattle.cn_types.specs.OrderLaws.{ValuesAreOrdered, EqualValuesAreTheSame, RowsAreOrdered, EqualRowsAreTheSame}

-- the number of a value that has one
abbrev number_of : Value → ℤ
number_of Null = pos 0
number_of (Boolean false) = pos 0
number_of (Boolean true) = pos 1
number_of (Integer n) = n
number_of (Long n) = n
number_of (Text t) = pos 0
number_of (Date n) = n

-- the bytes of a text
abbrev bytes_of : Value → List ℕ
bytes_of Null = []
bytes_of (Boolean b) = []
bytes_of (Integer n) = []
bytes_of (Long n) = []
bytes_of (Text t) = t
bytes_of (Date n) = []

abbrev keys_cmp : Value → Value → Ordering
keys_cmp = then_cmp (on class_of nat_cmp) (then_cmp (on number_of int_cmp) (on bytes_of (slice_cmp nat_cmp)))

keys_total : IsTotalOrder keys_cmp
keys_total = then_total (on_total class_of nat_cmp_total) (then_total (on_total number_of int_cmp_total) (on_total bytes_of nat_list_cmp_total))

then-Equal : (o : Ordering) → ordering_then o Equal ≡ o
then-Equal Less = refl
then-Equal Equal = refl
then-Equal Greater = refl

-- the order by cases is the order by the type, the number and the bytes
value_cmp-keys : (a b : Value) → keys_cmp a b ≡ value_cmp a b
value_cmp-keys Null Null = refl
value_cmp-keys Null (Boolean b) = refl
value_cmp-keys Null (Integer b) = refl
value_cmp-keys Null (Long b) = refl
value_cmp-keys Null (Text b) = refl
value_cmp-keys Null (Date b) = refl
value_cmp-keys (Boolean a) Null = refl
value_cmp-keys (Boolean true) (Boolean true) = refl
value_cmp-keys (Boolean true) (Boolean false) = refl
value_cmp-keys (Boolean false) (Boolean true) = refl
value_cmp-keys (Boolean false) (Boolean false) = refl
value_cmp-keys (Boolean a) (Integer b) = refl
value_cmp-keys (Boolean a) (Long b) = refl
value_cmp-keys (Boolean a) (Text b) = refl
value_cmp-keys (Boolean a) (Date b) = refl
value_cmp-keys (Integer a) Null = refl
value_cmp-keys (Integer a) (Boolean b) = refl
value_cmp-keys (Integer a) (Integer b) = then-Equal (int_cmp a b)
value_cmp-keys (Integer a) (Long b) = refl
value_cmp-keys (Integer a) (Text b) = refl
value_cmp-keys (Integer a) (Date b) = refl
value_cmp-keys (Long a) Null = refl
value_cmp-keys (Long a) (Boolean b) = refl
value_cmp-keys (Long a) (Integer b) = refl
value_cmp-keys (Long a) (Long b) = then-Equal (int_cmp a b)
value_cmp-keys (Long a) (Text b) = refl
value_cmp-keys (Long a) (Date b) = refl
value_cmp-keys (Text a) Null = refl
value_cmp-keys (Text a) (Boolean b) = refl
value_cmp-keys (Text a) (Integer b) = refl
value_cmp-keys (Text a) (Long b) = refl
value_cmp-keys (Text a) (Text b) = refl
value_cmp-keys (Text a) (Date b) = refl
value_cmp-keys (Date a) Null = refl
value_cmp-keys (Date a) (Boolean b) = refl
value_cmp-keys (Date a) (Integer b) = refl
value_cmp-keys (Date a) (Long b) = refl
value_cmp-keys (Date a) (Text b) = refl
value_cmp-keys (Date a) (Date b) = then-Equal (int_cmp a b)

pub values_ordered : ValuesAreOrdered
values_ordered = subst IsTotalOrder (λ i x y. value_cmp-keys x y i) keys_total

ordinal : Ordering → ℕ
ordinal Less = 0
ordinal Equal = 1
ordinal Greater = 2

-- values that the order does not tell apart are the same
value_exact : (a b : Value) → value_cmp a b ≡ Equal → a ≡ b
value_exact Null Null e = refl
value_exact Null (Boolean b) e = cc
value_exact Null (Integer b) e = cc
value_exact Null (Long b) e = cc
value_exact Null (Text b) e = cc
value_exact Null (Date b) e = cc
value_exact (Boolean a) Null e = cc
value_exact (Boolean true) (Boolean true) e = refl
value_exact (Boolean true) (Boolean false) e = cc
value_exact (Boolean false) (Boolean true) e = cc
value_exact (Boolean false) (Boolean false) e = refl
value_exact (Boolean a) (Integer b) e = cc
value_exact (Boolean a) (Long b) e = cc
value_exact (Boolean a) (Text b) e = cc
value_exact (Boolean a) (Date b) e = cc
value_exact (Integer a) Null e = cc
value_exact (Integer a) (Boolean b) e = cc
value_exact (Integer a) (Integer b) e = ap Integer (exact_signed a b e)
value_exact (Integer a) (Long b) e = cc
value_exact (Integer a) (Text b) e = cc
value_exact (Integer a) (Date b) e = cc
value_exact (Long a) Null e = cc
value_exact (Long a) (Boolean b) e = cc
value_exact (Long a) (Integer b) e = cc
value_exact (Long a) (Long b) e = ap Long (exact_signed a b e)
value_exact (Long a) (Text b) e = cc
value_exact (Long a) (Date b) e = cc
value_exact (Text a) Null e = cc
value_exact (Text a) (Boolean b) e = cc
value_exact (Text a) (Integer b) e = cc
value_exact (Text a) (Long b) e = cc
value_exact (Text a) (Text b) e = ap Text (exact_bytes a b e)
value_exact (Text a) (Date b) e = cc
value_exact (Date a) Null e = cc
value_exact (Date a) (Boolean b) e = cc
value_exact (Date a) (Integer b) e = cc
value_exact (Date a) (Long b) e = cc
value_exact (Date a) (Text b) e = cc
value_exact (Date a) (Date b) e = ap Date (exact_signed a b e)

pub values_exact : EqualValuesAreTheSame
values_exact a b = (value_exact a b, λ (e : a ≡ b). subst (λ (v : Value). value_cmp a v ≡ Equal) e (tied_itself values_ordered a))

pub rows_ordered : RowsAreOrdered
rows_ordered = on_total (λ (row : Row). row.0) (lists_total values_ordered)

split-Equal : (o p : Ordering) → ordering_then o p ≡ Equal → (o ≡ Equal) × (p ≡ Equal)
split-Equal Less p e = cc
split-Equal Equal p e = (refl, e)
split-Equal Greater p e = cc

list_exact : (a b : List Value) → slice_cmp value_cmp a b ≡ Equal → a ≡ b
list_exact [] [] e = refl
list_exact [] (y ∷ ys) e = cc
list_exact (x ∷ xs) [] e = cc
list_exact (x ∷ xs) (y ∷ ys) e =
    let parts = split-Equal (value_cmp x y) (slice_cmp value_cmp xs ys) e in
    let first = value_exact x y parts.0 in
    let rest = list_exact xs ys parts.1 in
    cc

is_eq-Equal : (o : Ordering) → IsTrue (is_eq o) → o ≡ Equal
is_eq-Equal Less e = cc
is_eq-Equal Equal e = refl
is_eq-Equal Greater e = cc

pub rows_exact : EqualRowsAreTheSame
rows_exact a b = (
  (λ (e : IsTrue (row_eq a b)). ap (λ (values : List Value). let row : Row = record { 0 = values } in row) (list_exact a.0 b.0 (is_eq-Equal (row_cmp a b) e))),
  λ (e : a ≡ b). subst (λ (row : Row). IsTrue (row_eq a row)) e (subst (λ (o : Ordering). IsTrue (is_eq o)) (sym (tied_itself rows_ordered a)) refl),
)
