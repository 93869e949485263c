-- The first row with each key.
use Rattle.std.proofs.Common.{◌≡◌, ◌<◌, ◌≤◌, ℕ, zero, suc, ◌+◌, Bool, true, false, cond, List, [], ◌∷◌, ◌++◌, append_assoc, map, length, take, drop, get_or, refl, sym, ap, ◌∙◌, subst, arith, eqb, length-append, length-take-le}
use Rattle.std.specs.Prelude.{not, ◌||◌, None, Some, reverse}
use Rattle.std.specs.Borrow.{Bor}
use Rattle.std.specs.List.{list_any}
use Rattle.std.proofs.lemmas.Bool.Decides.{nat_tests}
use Rattle.std.proofs.lemmas.List.{at_drop_more, take_more, take-take, reverse-append, get_or-take}
use Rattle.std.proofs.Math.Seq.{take-append_seam, get_or-append_seam}
use Rattle.cn_types.specs.declared.row.Row.{Row}
use Rattle.cn_types.specs.Order.{row_eq, count}
use Rattle.plan_model.specs.Counts.{once, HasEachOnce}
use Rattle.plan_model.specs.Groups.{IsDistinctOn, columns_of}
use Rattle.plan_model.proofs.Multisets.{count_of_rest}
use Rattle.plan_model.proofs.RowCounts.{row_exact}
use Rattle.relation_eval.specs.Firsts.{is_among, flags_after, flagged, firsts}
use Rattle.relation_eval.specs.Places.{Columns, key_by, has_key, places_from, places_of, head_is}

or-false : (b : Bool) → (b || false) ≡ b
or-false true = refl
or-false false = refl

or_assoc : (a b c : Bool) → ((a || b) || c) ≡ (a || (b || c))
or_assoc true b c = refl
or_assoc false b c = refl

-- ---- the first place of a key

apart : (n k : ℕ) → eqb n (n + suc k) ≡ false
apart n k = grind (arith, nat_tests)

here : (n : ℕ) → eqb n (n + 0) ≡ true
here n = grind (arith, nat_tests)

head_where : (test : Row → Bool) (n k : ℕ) (row : Row) (rows : List Row) (b : Bool) → test row ≡ b → head_is (places_from test (suc n) rows) (suc n + k) ≡ not (list_any test (take k rows))
    → head_is (cond b (n ∷ places_from test (suc n) rows) (places_from test (suc n) rows)) (n + suc k) ≡ not (b || list_any test (take k rows))
head_where test n k row rows true e later = apart n k
head_where test n k row rows false e later = let same : n + suc k ≡ suc n + k = omega arith in ap (λ m. head_is (places_from test (suc n) rows) m) same ∙ later

pub head_is-places : (test : Row → Bool) (n : ℕ) (rows : List Row) (k : ℕ) (d : Row) → k < length rows → test (get_or rows k d) ≡ true → head_is (places_from test n rows) (n + k) ≡ not (list_any test (take k rows))
head_is-places test n [] k d h e = absurd (omega arith)
head_is-places test n (row ∷ rows) zero d h e = ap (λ (b : Bool). head_is (cond b (n ∷ places_from test (suc n) rows) (places_from test (suc n) rows)) (n + 0)) e ∙ here n
head_is-places test n (row ∷ rows) (suc k) d h e = head_where test n k row rows (test row) refl (head_is-places test (suc n) rows k d (omega arith) e)

pub own_key : (columns : Columns) (row : Row) → has_key columns (key_by columns row) row ≡ true
own_key columns row = (row_exact (key_by columns row) (key_by columns row)).1 refl

pub first_of_places : (columns : Columns) (rows : List Row) (row : Row) (place : ℕ) → place < length rows → row ≡ get_or rows place row
    → head_is (places_of columns (key_by columns row) rows) place ≡ not (is_among columns (take place rows) row)
first_of_places columns rows row place h e =
    let z : 0 + place ≡ place = omega arith in
    ap (λ n. head_is (places_of columns (key_by columns row) rows) n) (sym z)
    ∙ head_is-places (has_key columns (key_by columns row)) 0 rows place row h (ap (λ r. has_key columns (key_by columns row) r) (sym e) ∙ own_key columns row)

-- ---- one flag more

pub flags_next : (columns : Columns) (rows : List Row) (flags : List Bool) (row : Row) (place : ℕ) → place < length rows → row ≡ get_or rows place row
    → flags_after columns [] rows ≡ flags ++ flags_after columns (take place rows) (drop place rows)
    → flags_after columns [] rows ≡ (flags ++ not (is_among columns (take place rows) row) ∷ []) ++ flags_after columns (take (place + 1) rows) (drop (place + 1) rows)
flags_next columns rows flags row place h e so_far =
    let flag = not (is_among columns (take place rows) row) in
    let rest = flags_after columns (take (place + 1) rows) (drop (place + 1) rows) in
    so_far
    ∙ ap (λ (fs : List Bool). flags ++ fs) (at_drop_more (λ rs. flags_after columns (take place rows) rs) rows place row h)
    ∙ ap (λ r. flags ++ (not (is_among columns (take place rows) r) ∷ flags_after columns (take place rows ++ r ∷ []) (drop (place + 1) rows))) (sym e)
    ∙ ap (λ (seen : List Row). flags ++ (flag ∷ flags_after columns seen (drop (place + 1) rows))) (ap (λ r. take place rows ++ r ∷ []) e ∙ sym (take_more rows place row h))
    ∙ sym (append_assoc flags (flag ∷ []) rest)

-- ---- each key once

any-push : (test : Row → Bool) (seen : List Row) (row : Row) → list_any test (seen ++ row ∷ []) ≡ (list_any test seen || test row)
any-push test [] row = or-false (test row)
any-push test (x ∷ seen) row = ap (λ b. test x || b) (any-push test seen row) ∙ sym (or_assoc (test x) (list_any test seen) (test row))

count-map-cons : (f : Row → Row) (row : Row) (rows : List Row) (k : Row) (b : Bool) → row_eq k (f row) ≡ b → count (map f (row ∷ rows)) k ≡ cond b 1 0 + count (map f rows) k
count-map-cons f row rows k b e = count_of_rest row_eq row_exact (f row) (map f rows) k b e

once-one : (m : ℕ) → once (1 + m) ≡ 1
once-one m = grind (arith, nat_tests)

-- one row, where it has the key or not, the key was seen or not
each_where : (f : Row → Row) (row k : Row) (kept rows : List Row) (has was : Bool) → row_eq k (f row) ≡ has → count (map f kept) k ≡ cond (was || has) 0 (once (count (map f rows) k))
    → count (map f (cond (not was) (row ∷ kept) kept)) k ≡ cond was 0 (once (count (map f (row ∷ rows)) k))
each_where f row k kept rows true true e later = later
each_where f row k kept rows true false e later =
    count-map-cons f row kept k true e ∙ ap (λ n. 1 + n) later ∙ sym (ap once (count-map-cons f row rows k true e) ∙ once-one (count (map f rows) k))
each_where f row k kept rows false true e later = later
each_where f row k kept rows false false e later =
    let none : (n : ℕ) → 0 + n ≡ n = λ n. omega arith in
    count-map-cons f row kept k false e ∙ none (count (map f kept) k) ∙ later ∙ ap once (sym (count-map-cons f row rows k false e ∙ none (count (map f rows) k)))

other_where : (f : Row → Row) (row k : Row) (kept rows : List Row) (flag was : Bool) → row_eq k (f row) ≡ false → count (map f kept) k ≡ cond (was || false) 0 (once (count (map f rows) k))
    → count (map f (cond flag (row ∷ kept) kept)) k ≡ cond was 0 (once (count (map f (row ∷ rows)) k))
other_where f row k kept rows flag was e later =
    let none : (n : ℕ) → 0 + n ≡ n = λ n. omega arith in
    either_way flag ∙ later ∙ ap (λ b. cond b 0 (once (count (map f rows) k))) (or-false was) ∙ ap (λ n. cond was 0 (once n)) (sym (count-map-cons f row rows k false e ∙ none (count (map f rows) k)))
  where
    either_way : (b : Bool) → count (map f (cond b (row ∷ kept) kept)) k ≡ count (map f kept) k
    either_way true = let none : 0 + count (map f kept) k ≡ count (map f kept) k = omega arith in count-map-cons f row kept k false e ∙ none
    either_way false = refl

module _ (columns : Columns) where
  one_where : (row k : Row) (seen kept rows : List Row) (has : Bool) → row_eq k (key_by columns row) ≡ has
      → count (map (key_by columns) kept) k ≡ cond (list_any (has_key columns k) seen || has) 0 (once (count (map (key_by columns) rows) k))
      → count (map (key_by columns) (cond (not (is_among columns seen row)) (row ∷ kept) kept)) k ≡ cond (list_any (has_key columns k) seen) 0 (once (count (map (key_by columns) (row ∷ rows)) k))
  one_where row k seen kept rows true e later =
      let same : k ≡ key_by columns row = (row_exact k (key_by columns row)).0 e in
      ap (λ x. count (map (key_by columns) (cond (not (list_any (has_key columns x) seen)) (row ∷ kept) kept)) k) (sym same)
      ∙ each_where (key_by columns) row k kept rows true (list_any (has_key columns k) seen) e later
  one_where row k seen kept rows false e later = other_where (key_by columns) row k kept rows (not (is_among columns seen row)) (list_any (has_key columns k) seen) e later

  each_once_after : (seen rows : List Row) (k : Row) → count (map (key_by columns) (flagged (flags_after columns seen rows) rows)) k ≡ cond (list_any (has_key columns k) seen) 0 (once (count (map (key_by columns) rows) k))
  each_once_after seen [] k = both_none (list_any (has_key columns k) seen)
    where
      both_none : (b : Bool) → 0 ≡ cond b 0 (once 0)
      both_none true = refl
      both_none false = refl
  each_once_after seen (row ∷ rows) k =
      one_where row k seen (flagged (flags_after columns (seen ++ row ∷ []) rows) rows) rows (row_eq k (key_by columns row)) refl
      (each_once_after (seen ++ row ∷ []) rows k ∙ ap (λ b. cond b 0 (once (count (map (key_by columns) rows) k))) (any-push (has_key columns k) seen row))

  -- the first rows have each key once
  pub firsts_once : (rows : List Row) → HasEachOnce (map (key_by columns) (firsts columns rows)) (map (key_by columns) rows)
  firsts_once rows k = each_once_after [] rows k

among_where : (row first : Row) (kept rows : List Row) (b c : Bool) → row_eq row first ≡ c → (0 < count kept row → 0 < count rows row) → 0 < count (cond b (first ∷ kept) kept) row → 0 < count (first ∷ rows) row
among_where row first kept rows b true e later p = omega (arith, count_of_rest row_eq row_exact first rows row true e)
among_where row first kept rows true false e later p =
    omega (arith, count_of_rest row_eq row_exact first rows row false e, later (omega (arith, count_of_rest row_eq row_exact first kept row false e)))
among_where row first kept rows false false e later p = omega (arith, count_of_rest row_eq row_exact first rows row false e, later p)

flagged-among : (flags : List Bool) (rows : List Row) (row : Row) → 0 < count (flagged flags rows) row → 0 < count rows row
flagged-among [] rows row h = absurd (omega arith)
flagged-among (flag ∷ flags) [] row h = absurd (omega arith)
flagged-among (flag ∷ flags) (first ∷ rows) row h = among_where row first (flagged flags rows) rows flag (row_eq row first) refl (flagged-among flags rows row) h

pub distinct_is : (listed : Bor (List ℕ)) (columns : List ℕ) (rows : List Row) → listed.now ≡ columns → IsDistinctOn columns rows (firsts (Some listed) rows)
distinct_is listed columns rows e = record {
  among = flagged-among (flags_after (Some listed) [] rows) rows;
  each_once = subst (λ (cs : List ℕ). HasEachOnce (map (columns_of cs) (firsts (Some listed) rows)) (map (columns_of cs) rows)) e (firsts_once (Some listed) rows);
}

-- ---- rows taken from the end

flagged-step : (flags : List Bool) (rows : List Row) (n : ℕ) (d flag : Bool) (row : Row) → n < length flags → n < length rows → get_or flags n d ≡ flag → row ≡ get_or rows n row
    → flagged (drop n flags) (drop n rows) ≡ cond flag (row ∷ flagged (drop (n + 1) flags) (drop (n + 1) rows)) (flagged (drop (n + 1) flags) (drop (n + 1) rows))
flagged-step flags rows n d flag row h k f r =
    at_drop_more (λ fs. flagged fs (drop n rows)) flags n d h
    ∙ at_drop_more (λ rs. flagged (get_or flags n d ∷ drop (n + 1) flags) rs) rows n row k
    ∙ ap (λ b. cond b (get_or rows n row ∷ flagged (drop (n + 1) flags) (drop (n + 1) rows)) (flagged (drop (n + 1) flags) (drop (n + 1) rows))) f
    ∙ ap (λ x. cond flag (x ∷ flagged (drop (n + 1) flags) (drop (n + 1) rows)) (flagged (drop (n + 1) flags) (drop (n + 1) rows))) (sym r)

-- a row was taken from the end of the first rows
module _ (original before after : List Row) (flags : List Bool) (row : Row) (m n at : ℕ) (d : Bool) (one_less : n + 1 ≡ m) (within : m ≤ length original) (front : before ≡ take m original)
    (ends : before ≡ after ++ row ∷ []) (as_many : length flags ≡ length original) (same_place : at ≡ n) where
  long : length after ≡ n
  long = omega (arith, ap length ends, ap length front, length-take-le m original within, length-append after (row ∷ []))

  pub still_front : (n ≤ length original) × (after ≡ take n original)
  still_front = (
    omega arith,
    sym (take-append_seam after (row ∷ [])) ∙ ap (λ k. take k (after ++ row ∷ [])) long ∙ ap (λ (xs : List Row). take n xs) (sym ends ∙ front) ∙ take-take n m original (omega arith),
  )

  is_row : row ≡ get_or original n row
  is_row =
      sym (get_or-append_seam after row [] row) ∙ ap (λ k. get_or (after ++ row ∷ []) k row) long ∙ ap (λ (xs : List Row). get_or xs n row) (sym ends ∙ front) ∙ get_or-take m original n row (omega arith)

  next : (flag : Bool) → get_or flags at d ≡ flag → flagged (drop n flags) (drop n original) ≡ cond flag (row ∷ flagged (drop m flags) (drop m original)) (flagged (drop m flags) (drop m original))
  next flag f =
      flagged-step flags original n d flag row (omega arith) (omega arith) (ap (λ k. get_or flags k d) (sym same_place) ∙ f) is_row
      ∙ ap (λ k. cond flag (row ∷ flagged (drop k flags) (drop k original)) (flagged (drop k flags) (drop k original))) one_less

  pub kept_more : (kept : List Row) → kept ≡ reverse (flagged (drop m flags) (drop m original)) → get_or flags at d ≡ true → kept ++ row ∷ [] ≡ reverse (flagged (drop n flags) (drop n original))
  kept_more kept so_far f =
      ap (λ (xs : List Row). xs ++ row ∷ []) so_far ∙ sym (reverse-append (row ∷ []) (flagged (drop m flags) (drop m original))) ∙ ap (λ (xs : List Row). reverse xs) (sym (next true f))

  pub kept_same : (kept : List Row) → kept ≡ reverse (flagged (drop m flags) (drop m original)) → get_or flags at d ≡ false → kept ≡ reverse (flagged (drop n flags) (drop n original))
  kept_same kept so_far f = so_far ∙ ap (λ (xs : List Row). reverse xs) (sym (next false f))

-- ---- the rows from a place on

pub flagged_next : (rows : List Row) (row : Row) (place : ℕ) (flag : Bool) → place < length rows → row ≡ get_or rows place row → flag ≡ not (is_among None (take place rows) row)
    → flagged (flags_after None (take place rows) (drop place rows)) (drop place rows)
    ≡ cond flag (row ∷ flagged (flags_after None (take (place + 1) rows) (drop (place + 1) rows)) (drop (place + 1) rows)) (flagged (flags_after None (take (place + 1) rows) (drop (place + 1) rows)) (drop (place + 1) rows))
flagged_next rows row place flag h e f =
    let rest = λ (seen : List Row). flagged (flags_after None seen (drop (place + 1) rows)) (drop (place + 1) rows) in
    at_drop_more (λ rs. flagged (flags_after None (take place rows) rs) rs) rows place row h
    ∙ ap (λ r. cond (not (is_among None (take place rows) r)) (r ∷ rest (take place rows ++ r ∷ [])) (rest (take place rows ++ r ∷ []))) (sym e)
    ∙ ap (λ (b : Bool). cond b (row ∷ rest (take place rows ++ row ∷ [])) (rest (take place rows ++ row ∷ []))) (sym f)
    ∙ ap (λ (seen : List Row). cond flag (row ∷ rest seen) (rest seen)) (ap (λ r. take place rows ++ r ∷ []) e ∙ sym (take_more rows place row h))
