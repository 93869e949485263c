-- Set operations by the first occurrence of each row.
use Rattle.std.proofs.Common.{◌≡◌, ◌≢◌, ◌<◌, ℕ, zero, suc, ◌+◌, ◌*◌, Bool, true, false, cond, List, [], ◌∷◌, ◌++◌, append_assoc, append-nil, map, length, take, drop, get_or, refl, sym, ap, ◌∙◌, arith}
use Rattle.std.specs.Prelude.{not, None, replicate, sum_by, count_by, min, ◌==◌, ◌-◌, Ok, Err}
use Rattle.std.specs.List.{list_any}
use Rattle.std.proofs.lemmas.Bool.Decides.{nat_tests}
use Rattle.std.proofs.lemmas.Bool.{lt-ltb}
use Rattle.std.proofs.lemmas.List.Sums.{sum_by-cons}
use Rattle.cn_types.specs.declared.row.Row.{Row}
use Rattle.cn_types.specs.Order.{row_eq, count}
use Rattle.plan_model.specs.declared.node.SetKind.{SetKind}
use Rattle.plan_model.specs.Counts.{once, HasEachOnce}
use Rattle.plan_model.specs.Outcomes.{limited, is_too_large, PlanError, row_limit}
use Rattle.plan_model.specs.SetOperations.{IsSetOperation, copies}
use Rattle.plan_model.proofs.Multisets.{count_by-flat_map, count_of_rest}
use Rattle.plan_model.proofs.RowCounts.{row_exact, count-append}
use Rattle.relation_eval.specs.Copies.{repeated, all_repeated, number_where}
use Rattle.relation_eval.specs.Firsts.{is_among, flags_after, flagged, firsts}
use Rattle.relation_eval.specs.Places.{key_by, places_from}
use Rattle.relation_eval.proofs.FirstFacts.{firsts_once, flagged_next}

-- ---- counts

none : (n : ℕ) → 0 + n ≡ n
none n = omega arith

places_where : (place : ℕ) (places : List ℕ) (n : ℕ) (b : Bool) → length places ≡ n → length (cond b (place ∷ places) places) ≡ cond b 1 0 + n
places_where place places n true e = omega (arith, e)
places_where place places n false e = omega (arith, e)

-- a row has as many places as it is counted
pub length-places : (test : Row → Bool) (place : ℕ) (rows : List Row) → length (places_from test place rows) ≡ count_by test rows
length-places test place [] = refl
length-places test place (row ∷ rows) =
    places_where place (places_from test (suc place) rows) (count_by test rows) (test row) (length-places test (suc place) rows) ∙ sym (sum_by-cons (λ r. cond (test r) 1 0) row rows)

count-cons : (x : Row) (rows : List Row) (row : Row) (b : Bool) → row_eq row x ≡ b → count (x ∷ rows) row ≡ cond b 1 0 + count rows row
count-cons x rows row b e = count_of_rest row_eq row_exact x rows row b e

count-replicate : (n : ℕ) (x row : Row) (b : Bool) → row_eq row x ≡ b → count (replicate n x) row ≡ cond b n 0
count-replicate zero x row true e = refl
count-replicate zero x row false e = refl
count-replicate (suc n) x row true e = count-cons x (replicate n x) row true e ∙ ap (λ m. 1 + m) (count-replicate n x row true e) ∙ one_more n
  where
    one_more : (n : ℕ) → 1 + n ≡ suc n
    one_more n = omega arith
count-replicate (suc n) x row false e = count-cons x (replicate n x) row false e ∙ none (count (replicate n x) row) ∙ count-replicate n x row false e

times : (n m : ℕ) → n + m * n ≡ (1 + m) * n
times n m = grind arith

zero_times : (n : ℕ) → 0 * n ≡ 0
zero_times n = grind arith

sum_where : (number : Row → ℕ) (x row : Row) (rows : List Row) (b : Bool) → row_eq row x ≡ b → cond b (number x) 0 + count rows row * number row ≡ count (x ∷ rows) row * number row
sum_where number x row rows true e =
    let same : row ≡ x = (row_exact row x).0 e in
    ap (λ y. number y + count rows row * number row) (sym same) ∙ times (number row) (count rows row) ∙ ap (λ m. m * number row) (sym (count-cons x rows row true e))
sum_where number x row rows false e = none (count rows row * number row) ∙ ap (λ m. m * number row) (sym (count-cons x rows row false e ∙ none (count rows row)))

sum-numbers : (number : Row → ℕ) (rows : List Row) (row : Row) → sum_by (λ x. count (replicate (number x) x) row) rows ≡ count rows row * number row
sum-numbers number [] row = sym (zero_times (number row))
sum-numbers number (x ∷ rows) row =
    sum_by-cons (λ y. count (replicate (number y) y) row) x rows
    ∙ ap (λ n. n + sum_by (λ y. count (replicate (number y) y) row) rows) (count-replicate (number x) x row (row_eq row x) refl)
    ∙ ap (λ n. cond (row_eq row x) (number x) 0 + n) (sum-numbers number rows row)
    ∙ sum_where number x row rows (row_eq row x) refl

own : (rows : List Row) → map (key_by None) rows ≡ rows
own [] = refl
own (row ∷ rows) = ap (λ (xs : List Row). row ∷ xs) (own rows)

pub rows_once : (rows : List Row) → HasEachOnce (firsts None rows) rows
rows_once rows row =
    ap (λ (xs : List Row). count xs row) (sym (own (firsts None rows))) ∙ firsts_once None rows row ∙ ap (λ (xs : List Row). once (count xs row)) (own rows)

once-some : (m : ℕ) → once (suc m) ≡ 1
once-some m = grind (arith, nat_tests)

one_time : (n : ℕ) → 1 * n ≡ n
one_time n = omega arith

so_often : (kind : SetKind) (all : Bool) (m n : ℕ) → kind ≢ SetKind.Union → once m * copies kind all m n ≡ copies kind all m n
so_often SetKind.Union all m n h = absurd (h refl)
so_often SetKind.Intersect true zero n h = zero_times (copies SetKind.Intersect true 0 n) ∙ sym (least n)
  where
    least : (n : ℕ) → min 0 n ≡ 0
    least n = omega arith
so_often SetKind.Intersect false zero n h = zero_times (copies SetKind.Intersect false 0 n) ∙ sym (least n)
  where
    least : (n : ℕ) → once (min 0 n) ≡ 0
    least n = omega arith
so_often SetKind.Except true zero n h = zero_times (copies SetKind.Except true 0 n) ∙ sym (least n)
  where
    least : (n : ℕ) → 0 - n ≡ 0
    least n = omega arith
so_often SetKind.Except false zero n h = zero_times (copies SetKind.Except false 0 n) ∙ both (n == 0)
  where
    both : (b : Bool) → 0 ≡ cond b (once 0) 0
    both true = refl
    both false = refl
so_often kind all (suc m) n h = ap (λ k. k * copies kind all (suc m) n) (once-some m) ∙ one_time (copies kind all (suc m) n)

pub repeated_is : (kind : SetKind) (all : Bool) (a b : List Row) → kind ≢ SetKind.Union → IsSetOperation kind all a b (all_repeated kind all a b (firsts None a))
repeated_is kind all a b h row =
    count_by-flat_map (row_eq row) (repeated kind all a b) (firsts None a)
    ∙ sum-numbers (λ x. copies kind all (count a x) (count b x)) (firsts None a) row
    ∙ ap (λ m. m * copies kind all (count a row) (count b row)) (rows_once a row)
    ∙ so_often kind all (count a row) (count b row) h

pub union_distinct_is : (a b : List Row) → IsSetOperation SetKind.Union false a b (firsts None (a ++ b))
union_distinct_is a b row = rows_once (a ++ b) row ∙ ap once (count-append a b row)

pub union_all_is : (a b : List Row) → IsSetOperation SetKind.Union true a b (a ++ b)
union_all_is a b row = count-append a b row

-- ---- too many rows

pub limited-many : (rows : List Row) → row_limit < length rows → limited rows ≡ Err PlanError.TooManyRows
limited-many rows h = ap (λ (b : Bool). cond b (Err PlanError.TooManyRows) (cond (list_any is_too_large rows) (Err PlanError.RowTooLarge) (Ok rows))) (lt-ltb row_limit (length rows) h)

-- ---- one row more

pub replicate-more : {X : Type 0} (n : ℕ) (x : X) (xs all : List X) → all ≡ xs ++ replicate n x → all ++ x ∷ [] ≡ xs ++ replicate (n + 1) x
replicate-more {X} n x xs all e =
    ap (λ (ys : List X). ys ++ x ∷ []) e ∙ append_assoc xs (replicate n x) (x ∷ []) ∙ ap (λ (ys : List X). xs ++ ys) (at_end n)
    ∙ ap (λ k. xs ++ replicate k x) one_more
  where
    at_end : (n : ℕ) → replicate n x ++ x ∷ [] ≡ replicate (suc n) x
    at_end zero = refl
    at_end (suc n) = ap (λ (ys : List X). x ∷ ys) (at_end n)

    one_more : suc n ≡ n + 1
    one_more = omega arith

repeated_where : (kind : SetKind) (all : Bool) (a b : List Row) (row : Row) (rest list : List Row) (flag : Bool)
    → list ++ all_repeated kind all a b (cond flag (row ∷ rest) rest) ≡ (list ++ replicate (number_where flag (copies kind all (count a row) (count b row))) row) ++ all_repeated kind all a b rest
repeated_where kind all a b row rest list true = sym (append_assoc list (repeated kind all a b row) (all_repeated kind all a b rest))
repeated_where kind all a b row rest list false = ap (λ (xs : List Row). xs ++ all_repeated kind all a b rest) (sym (append-nil list))

pub repeated_next : (kind : SetKind) (all : Bool) (a b list more whole : List Row) (row : Row) (place number : ℕ) → place < length a → row ≡ get_or a place row
    → number ≡ number_where (not (is_among None (take place a) row)) (copies kind all (count a row) (count b row)) → more ≡ list ++ replicate number row
    → whole ≡ list ++ all_repeated kind all a b (flagged (flags_after None (take place a) (drop place a)) (drop place a))
    → whole ≡ more ++ all_repeated kind all a b (flagged (flags_after None (take (place + 1) a) (drop (place + 1) a)) (drop (place + 1) a))
repeated_next kind all a b list more whole row place number h e n m so_far =
    let flag = not (is_among None (take place a) row) in
    let rest = flagged (flags_after None (take (place + 1) a) (drop (place + 1) a)) (drop (place + 1) a) in
    so_far
    ∙ ap (λ (xs : List Row). list ++ all_repeated kind all a b xs) (flagged_next a row place flag h e refl)
    ∙ repeated_where kind all a b row rest list flag
    ∙ ap (λ k. (list ++ replicate k row) ++ all_repeated kind all a b rest) (sym n)
    ∙ ap (λ (xs : List Row). xs ++ all_repeated kind all a b rest) (sym m)
