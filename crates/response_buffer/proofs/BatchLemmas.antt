-- Batches by the weights of their rows: when a batch is the longest, and that rows are cut in one way only.
use Rattle.std.proofs.Common.{◌≡◌, ℕ, Bool, true, false, not, max, zero, suc, ◌+◌, ◌-◌, ◌^◌, ◌<◌, ◌≤◌, ◌⊎◌, List, [], ◌∷◌, length, get_or, drop, take, map, sum, slice_range, true≢false, inl, inr, arith, refl, sym, ap, subst, ◌∙◌}
use Rattle.std.specs.List.{position_or_len, range_with_len}
use Rattle.std.proofs.lemmas.Bool.{cases_lt, lt-ltb, le-ltb}
use Rattle.std.proofs.lemmas.Bool.Decides.{nat_tests}
use Rattle.std.proofs.lemmas.List.{length-take-le, length-drop, get_or-drop, get_or-map, take-take}
use Rattle.std.proofs.lemmas.List.FromFn.{length-range_with_len, get_or-range_with_len}
use Rattle.std.proofs.lemmas.List.Sums.{sum_by_more, sum_by-take-le, prefix_len-le-length, fails_before_first, passes_at_first}
use Rattle.response_buffer.specs.Batches.{FitsBatch, IsBatch, AreBatches, IsCutting, fits_batch, batch_len, ends_from, batch_ends, BatchEndsAreTheCutting}

length-slice_range : (xs : List ℕ) (start end : ℕ) → end ≤ length xs → length (slice_range xs start end) ≡ end - start
length-slice_range xs start end within =
    length-take-le (end - start) (drop start xs) (omega (arith, length-drop start xs))

-- one more is added
pub sum-slice_range_more : (xs : List ℕ) (start end : ℕ) → start ≤ end → end < length xs
    → sum (slice_range xs start (end + 1)) ≡ sum (slice_range xs start end) + get_or xs end 0
sum-slice_range_more xs start end order within =
    let count : end + 1 - start ≡ end - start + 1 = omega arith in
    let place : start + (end - start) ≡ end = omega arith in
    ap (λ (k : ℕ). sum (take k (drop start xs))) count
    ∙ sum_by_more (λ x. x) (drop start xs) (end - start) 0 (omega (arith, length-drop start xs))
    ∙ ap (λ (k : ℕ). sum (slice_range xs start end) + k) (get_or-drop start xs (end - start) 0 ∙ ap (λ (k : ℕ). get_or xs k 0) place)

-- one row alone
pub sum-slice_range_one : (xs : List ℕ) (start : ℕ) → start < length xs → sum (slice_range xs start (start + 1)) ≡ get_or xs start 0
sum-slice_range_one xs start within =
    let none : start - start ≡ 0 = omega arith in
    let nothing : sum (slice_range xs start start) ≡ 0 = ap (λ (k : ℕ). sum (take k (drop start xs))) none in
    omega (arith, sum-slice_range_more xs start start (omega arith) within)

-- the weight of the row at a place, which was read
pub get_or-map-read : {X : Type 0} (f : X → ℕ) (xs : List X) (i : ℕ) (x : X) → i < length xs → x ≡ get_or xs i x → get_or (map f xs) i 0 ≡ f x
get_or-map-read f xs i x within is = get_or-map f xs i x 0 within ∙ ap f (sym is)

-- more rows weigh no less
sum-slice_range-le : (xs : List ℕ) (start end longer : ℕ) → end ≤ longer → sum (slice_range xs start end) ≤ sum (slice_range xs start longer)
sum-slice_range-le xs start end longer order =
    let rest = drop start xs in
    let part : take (end - start) (take (longer - start) rest) ≡ take (end - start) rest = take-take (end - start) (longer - start) rest (omega arith) in
    subst (λ (ys : List ℕ). sum ys ≤ sum (take (longer - start) rest)) part (sum_by-take-le (λ x. x) (take (longer - start) rest) (end - start))

-- the rows of a batch may stand in it
FitsBatch-or_one : (max_rows : ℕ) (weights : List ℕ) (start end : ℕ) → end ≤ length weights → (0 < max_rows → end - start ≤ max_rows)
    → (end ≡ start + 1) ⊎ (sum (slice_range weights start end) ≤ 2 ^ 20) → (end ≡ start + 1) ⊎ FitsBatch max_rows (slice_range weights start end)
FitsBatch-or_one max_rows weights start end within few fits =
    elim fits [
      | inl one ↦ inl one
      | inr light ↦ inr (record {
        count = λ limited. subst (λ (k : ℕ). k ≤ max_rows) (sym (length-slice_range weights start end within)) (few limited);
        weight = light;
      })
    ]

-- a batch is the longest where one more row is too heavy
pub IsBatch-heavy : (max_rows : ℕ) (weights : List ℕ) (start end : ℕ) → start < end → end < length weights → (0 < max_rows → end - start ≤ max_rows)
    → (end ≡ start + 1) ⊎ (sum (slice_range weights start end) ≤ 2 ^ 20) → 2 ^ 20 < sum (slice_range weights start (end + 1))
    → IsBatch max_rows weights start end
IsBatch-heavy max_rows weights start end some within few fits heavy = record {
  some = some;
  within = omega arith;
  fits = FitsBatch-or_one max_rows weights start end (omega arith) few fits;
  longest = λ longer more inside fit. omega (arith, sum-slice_range-le weights start (end + 1) longer (omega arith), fit.weight);
}

-- a batch is the longest where no row is left, or it has as many as it may
pub IsBatch-full : (max_rows : ℕ) (weights : List ℕ) (start end : ℕ) → start < end → end ≤ length weights → (0 < max_rows → end - start ≤ max_rows)
    → (end ≡ start + 1) ⊎ (sum (slice_range weights start end) ≤ 2 ^ 20) → (end ≡ length weights) ⊎ ((0 < max_rows) × (end ≡ start + max_rows))
    → IsBatch max_rows weights start end
IsBatch-full max_rows weights start end some within few fits full = record {
  some = some;
  within = within;
  fits = FitsBatch-or_one max_rows weights start end within few fits;
  longest = λ longer more inside fit. elim full [
    | inl all ↦ omega arith
    | inr most ↦ omega (arith, fit.count most.0, length-slice_range weights start longer inside, most.1)
  ];
}

-- batches that begin at one place end at one place
IsBatch-unique : (max_rows : ℕ) (weights : List ℕ) (start a b : ℕ) → IsBatch max_rows weights start a → IsBatch max_rows weights start b → a ≡ b
IsBatch-unique max_rows weights start a b x y =
    elim (cases_lt a b) [
      | inl less ↦ absurd (not_longer max_rows weights start a b x y less)
      | inr no_less ↦ elim (cases_lt b a) [
        | inl more ↦ absurd (not_longer max_rows weights start b a y x more)
        | inr no_more ↦ omega arith
      ]
    ]
  where
    not_longer : (max_rows : ℕ) (weights : List ℕ) (start a b : ℕ) → IsBatch max_rows weights start a → IsBatch max_rows weights start b → a < b → ⊥
    not_longer max_rows weights start a b x y less =
        elim y.fits [
          | inl one ↦ omega (arith, x.some)
          | inr fit ↦ x.longest b less y.within fit
        ]

AreBatches-unique : (max_rows : ℕ) (weights : List ℕ) (start : ℕ) (ends other : List ℕ) → AreBatches max_rows weights start ends
    → AreBatches max_rows weights start other → ends ≡ other
AreBatches-unique max_rows weights start [] [] x y = refl
AreBatches-unique max_rows weights start [] (end ∷ ends) x y = absurd (omega (arith, y.0.some, y.0.within))
AreBatches-unique max_rows weights start (end ∷ ends) [] x y = absurd (omega (arith, x.0.some, x.0.within))
AreBatches-unique max_rows weights start (end ∷ ends) (end' ∷ ends') x y =
    let same : end' ≡ end = IsBatch-unique max_rows weights start end' end y.0 x.0 in
    let rest = AreBatches-unique max_rows weights end ends ends' x.1 (subst (λ (k : ℕ). AreBatches max_rows weights k ends') same y.1) in
    cc

IsCutting-unique : (max_rows : ℕ) (weights ends other : List ℕ) → IsCutting max_rows weights ends → IsCutting max_rows weights other → ends ≡ other
IsCutting-unique max_rows [] ends other x y = x ∙ sym y
IsCutting-unique max_rows (weight ∷ weights) ends other x y = AreBatches-unique max_rows (weight ∷ weights) 0 ends other x y

-- batches of rows, of which there are some, are their cutting
pub IsCutting-from_batches : (max_rows : ℕ) (weights ends : List ℕ) → 0 < length weights → AreBatches max_rows weights 0 ends → IsCutting max_rows weights ends
IsCutting-from_batches max_rows [] ends some batches = absurd (omega arith)
IsCutting-from_batches max_rows (weight ∷ weights) ends some batches = batches

-- what the test of a batch says
FitsBatch-from_fits_batch : (max_rows : ℕ) (weights : List ℕ) → fits_batch max_rows weights ≡ true → FitsBatch max_rows weights
FitsBatch-from_fits_batch max_rows weights passes = record { count = λ limited. grind (arith, nat_tests); weight = grind (arith, nat_tests) }

fits_batch-from_FitsBatch : (max_rows : ℕ) (weights : List ℕ) → FitsBatch max_rows weights → fits_batch max_rows weights ≡ true
fits_batch-from_FitsBatch max_rows weights fits =
    let heavy = fits.weight in
    elim (cases_lt 0 max_rows) [
      | inl limited ↦ let few = fits.count limited in grind (arith, nat_tests)
      | inr unlimited ↦ grind (arith, nat_tests)
    ]

-- a shorter prefix of what a batch may hold may stand in one too
FitsBatch-take : (max_rows : ℕ) (weights : List ℕ) (shorter longer : ℕ) → shorter ≤ longer → longer ≤ length weights → FitsBatch max_rows (take longer weights)
    → FitsBatch max_rows (take shorter weights)
FitsBatch-take max_rows weights shorter longer order within fits =
    let part : take shorter (take longer weights) ≡ take shorter weights = take-take shorter longer weights order in
    record {
      count = λ limited. omega (arith, fits.count limited, length-take-le longer weights within, length-take-le shorter weights (omega arith));
      weight = omega (arith, fits.weight, subst (λ (ys : List ℕ). sum ys ≤ sum (take longer weights)) part (sum_by-take-le (λ x. x) (take longer weights) shorter));
    }

-- the longest prefix, or one row where none may stand in a batch
IsBatch-prefix : (max_rows : ℕ) (weights : List ℕ) (start n : ℕ) → start < length weights → n ≤ length weights - start
    → (0 < n → FitsBatch max_rows (take n (drop start weights)))
    → (n < length weights - start → FitsBatch max_rows (take (n + 1) (drop start weights)) → ⊥)
    → IsBatch max_rows weights start (start + max 1 n)
IsBatch-prefix max_rows weights start n some short fits longest =
    let rest = drop start weights in
    let count : length rest ≡ length weights - start = length-drop start weights in
    record {
      some = omega arith;
      within = omega arith;
      fits = elim (cases_lt 0 n) [
        | inl more ↦
            let size : n ≡ start + max 1 n - start = omega arith in
            inr (subst (λ (k : ℕ). FitsBatch max_rows (take k rest)) size (fits more))
        | inr none ↦ inl (omega arith)
      ];
      longest = λ longer more inside fit.
          longest (omega arith) (FitsBatch-take max_rows rest (n + 1) (longer - start) (omega arith) (omega arith) fit);
    }

IsBatch-batch_len : (max_rows : ℕ) (weights : List ℕ) (start : ℕ) → start < length weights
    → IsBatch max_rows weights start (start + batch_len max_rows (drop start weights))
unfolding batch_len
IsBatch-batch_len max_rows weights start some =
    let rest = drop start weights in
    let fails : ℕ → Bool = λ n. not (fits_batch max_rows (take n rest)) in
    let sizes = range_with_len 1 (length rest) in
    let sizes_len : length sizes ≡ length rest = length-range_with_len 1 (length rest) in
    let count : length rest ≡ length weights - start = length-drop start weights in
    let n = position_or_len fails sizes in
    let short : n ≤ length sizes = prefix_len-le-length _ sizes in
    IsBatch-prefix max_rows weights start n some (omega arith)
    (λ more.
    let size : get_or sizes (n - 1) 0 ≡ n = get_or-range_with_len 1 (length rest) (n - 1) 0 (omega arith) ∙ omega arith in
    FitsBatch-from_fits_batch max_rows (take n rest) (true-from_not _ (ap fails (sym size) ∙ fails_before_first fails sizes (n - 1) 0 (omega arith))))
    (λ more fit.
    let size : get_or sizes n 0 ≡ n + 1 = get_or-range_with_len 1 (length rest) n 0 (omega arith) ∙ omega arith in
    let failed : fails (n + 1) ≡ true = ap fails (sym size) ∙ passes_at_first fails sizes 0 (omega arith) in
    true≢false (sym failed ∙ ap not (fits_batch-from_FitsBatch max_rows (take (n + 1) rest) fit)))
  where
    true-from_not : (b : Bool) → not b ≡ false → b ≡ true
    true-from_not true h = refl
    true-from_not false h = absurd (true≢false h)

AreBatches-ends_from : (max_rows : ℕ) (weights : List ℕ) (start count : ℕ) → start ≤ length weights → length weights ≤ start + count
    → AreBatches max_rows weights start (ends_from max_rows weights start count)
AreBatches-ends_from max_rows weights start zero low high = omega arith
AreBatches-ends_from max_rows weights start (suc count) low high =
    elim (cases_lt start (length weights)) [
      | inl more ↦
          let batch = IsBatch-batch_len max_rows weights start more in
          rw (lt-ltb start (length weights) more) (batch, AreBatches-ends_from max_rows weights (start + batch_len max_rows (drop start weights)) count batch.within (omega (arith, batch.some)))
      | inr none ↦ rw (le-ltb start (length weights) none) (omega arith)
    ]

IsCutting-batch_ends : (max_rows : ℕ) (weights : List ℕ) → IsCutting max_rows weights (batch_ends max_rows weights)
unfolding batch_ends
IsCutting-batch_ends max_rows [] = refl
IsCutting-batch_ends max_rows (weight ∷ weights) =
    AreBatches-ends_from max_rows (weight ∷ weights) 0 (length (weight ∷ weights)) (omega arith) (omega arith)

pub batch_ends-IsCutting : BatchEndsAreTheCutting
batch_ends-IsCutting max_rows weights = (
  IsCutting-batch_ends max_rows weights,
  λ ends cutting. IsCutting-unique max_rows weights ends (batch_ends max_rows weights) cutting (IsCutting-batch_ends max_rows weights),
)
