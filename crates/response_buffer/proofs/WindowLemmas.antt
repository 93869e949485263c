-- The weights of a window, by the responses that are dropped from it, and the first place to keep.
use Rattle.std.proofs.Common.{◌≡◌, ℕ, ◌+◌, ◌-◌, ◌<◌, ◌≤◌, Bool, true, false, List, [], length, get_or, drop, take, sum, nat_lt, inl, inr, arith, sym, ap, subst, ◌∙◌, below_more}
use Rattle.std.specs.List.{position_or_len, range_with_len}
use Rattle.std.proofs.lemmas.Bool.{cases_lt}
use Rattle.std.proofs.lemmas.Bool.Decides.{nat_tests}
use Rattle.std.proofs.lemmas.List.{drop-drop, drop_all, drop-take, drop-map, length-drop}
use Rattle.std.proofs.lemmas.List.FromFn.{length-range_with_len, get_or-range_with_len}
use Rattle.std.proofs.lemmas.List.Sums.{sum-map, sum_by-take-drop, position_or_len_is, fails_before_first, passes_at_first, prefix_len-le-length}
use Rattle.response_buffer.specs.Window.{weight_of, weight_after_oldest, weight_after, kept, FitsBuffer, HasLengths, KeptIsLeast, IsWindow}

-- one more is dropped
pub drop-one_more : (now initial : List (List ℕ)) (n : ℕ) → now ≡ drop n initial → drop 1 now ≡ drop (n + 1) initial
drop-one_more now initial n is = ap (drop 1) is ∙ drop-drop 1 n initial

-- what weighs something is there
pub length-from_weight : (responses : List (List ℕ)) (n : ℕ) → 0 < weight_of (drop n responses) → n < length responses
length-from_weight responses n heavy =
    elim (cases_lt n (length responses)) [
      | inl within ↦ within
      | inr past ↦
          let none : drop n responses ≡ [] = drop_all n responses past in
          absurd (omega (arith, ap weight_of none))
    ]

-- the more is dropped, the less is left
pub weight_after_oldest-drop-le : (responses : List (List ℕ)) (n : ℕ) → weight_after_oldest (drop n responses) ≤ weight_after_oldest responses
weight_after_oldest-drop-le responses n =
    let other_way : drop 1 (drop n responses) ≡ drop n (drop 1 responses) =
    drop-drop 1 n responses ∙ ap (λ (k : ℕ). drop k responses) (omega arith) ∙ sym (drop-drop n 1 responses) in
    let parts = sum_by-take-drop length (drop 1 responses) n in
    omega (arith, ap weight_of other_way, parts)

-- the weight after a place, by the responses from `first` on
pub weight_after-HasLengths : (lengths : List ℕ) (first : ℕ) (responses : List (List ℕ)) (n : ℕ) → 1 ≤ first → n + 1 ≤ length responses
    → HasLengths lengths first responses → weight_after lengths (first + n) (first + length responses - 1) ≡ weight_of (drop (n + 1) responses)
weight_after-HasLengths lengths first responses n placed within has =
    let count = length responses in
    let high = first + count - 1 in
    let tail : drop (first + n) lengths ≡ drop (n + 1) (drop (first - 1) lengths) =
    ap (λ (k : ℕ). drop k lengths) (omega arith) ∙ sym (drop-drop (n + 1) (first - 1) lengths) in
    let cut : take (high - (first + n)) (drop (n + 1) (drop (first - 1) lengths)) ≡ drop (n + 1) (take (high - (first - 1)) (drop (first - 1) lengths)) =
    sym (drop-take (n + 1) (high - (first + n)) (drop (first - 1) lengths))
    ∙ ap (λ (k : ℕ). drop (n + 1) (take k (drop (first - 1) lengths))) (omega arith) in
    ap (λ (xs : List ℕ). sum (take (high - (first + n)) xs)) tail
    ∙ ap sum cut
    ∙ ap (λ (xs : List ℕ). sum (drop (n + 1) xs)) has
    ∙ ap sum (drop-map length (n + 1) responses)
    ∙ sum-map length (drop (n + 1) responses)

-- the first place to keep, found by a count of places that are not
pub kept_is : (lengths : List ℕ) (first high buffer n : ℕ) → first + n ≤ high
    → ((m : ℕ) → m < n → buffer ≤ weight_after lengths (first + m) high) → weight_after lengths (first + n) high < buffer
    → kept lengths first high buffer ≡ first + n
unfolding kept
kept_is lengths first high buffer n within before at =
    let passes : ℕ → Bool = λ place. nat_lt (weight_after lengths place high) buffer in
    let places = range_with_len first (high - first) in
    let count : length places ≡ high - first = length-range_with_len first (high - first) in
    ap (λ (k : ℕ). first + k)
    (position_or_len_is passes places n 0 (omega arith)
    (λ k below. let here : k < high - first = omega arith in
    let weighs = before k below in
    rw (get_or-range_with_len first (high - first) k 0 here) (grind (arith, nat_tests)))
    (λ below. let here : n < high - first = omega arith in
    rw (get_or-range_with_len first (high - first) n 0 here) (grind (arith, nat_tests))))

-- the first place to keep fits the buffer
holds-kept : (lengths : List ℕ) (first high buffer : ℕ) → first ≤ high → 0 < buffer → FitsBuffer lengths first high buffer (kept lengths first high buffer)
unfolding kept
holds-kept lengths first high buffer order some =
    let passes : ℕ → Bool = λ place. nat_lt (weight_after lengths place high) buffer in
    let places = range_with_len first (high - first) in
    let count : length places ≡ high - first = length-range_with_len first (high - first) in
    let n = position_or_len passes places in
    let within : n ≤ high - first = subst (λ (k : ℕ). n ≤ k) count (prefix_len-le-length _ places) in
    elim (cases_lt n (high - first)) [
      | inl here ↦
          let found = passes_at_first passes places 0 (subst (λ (k : ℕ). n < k) (sym count) here) in
          let at : passes (first + n) ≡ true = ap passes (sym (get_or-range_with_len first (high - first) n 0 here)) ∙ found in
          record { from = omega arith; to = omega arith; below = grind (arith, nat_tests) }
      | inr end ↦
          let last : first + n ≡ high = omega arith in
          let none : high - (first + n) ≡ 0 = omega arith in
          let nothing : weight_after lengths (first + n) high ≡ 0 = ap (λ (k : ℕ). sum (take k (drop (first + n) lengths))) none in
          record { from = omega arith; to = omega arith; below = subst (λ (k : ℕ). k < buffer) (sym nothing) some }
    ]

-- no smaller place fits it
least-kept : (lengths : List ℕ) (first high buffer m : ℕ) → FitsBuffer lengths first high buffer m → kept lengths first high buffer ≤ m
unfolding kept
least-kept lengths first high buffer m fits =
    let passes : ℕ → Bool = λ place. nat_lt (weight_after lengths place high) buffer in
    let places = range_with_len first (high - first) in
    let count : length places ≡ high - first = length-range_with_len first (high - first) in
    let n = position_or_len passes places in
    let within : n ≤ high - first = subst (λ (k : ℕ). n ≤ k) count (prefix_len-le-length _ places) in
    elim (cases_lt m (first + n)) [
      | inl earlier ↦
          let fails = fails_before_first passes places (m - first) 0 (omega (arith, fits.from)) in
          let is_m : get_or places (m - first) 0 ≡ m = get_or-range_with_len first (high - first) (m - first) 0 (omega (arith, fits.from)) ∙ omega (arith, fits.from) in
          let at : passes m ≡ false = ap passes (sym is_m) ∙ fails in
          let small = fits.below in
          grind (arith, nat_tests)
      | inr later ↦ later
    ]

pub kept-IsLeast : KeptIsLeast
kept-IsLeast lengths first high buffer order some = record {
  holds = holds-kept lengths first high buffer order some;
  least = least-kept lengths first high buffer;
}

-- dropping by weight: each of the dropped is surplus, and what was at least the buffer is there to be dropped
pub drop_surplus-step : (now initial : List (List ℕ)) (n buffer after : ℕ) → now ≡ drop n initial → after ≡ weight_after_oldest now → buffer ≤ after → 0 < buffer
    → ((m : ℕ) → m < n → buffer ≤ weight_of (drop (m + 1) initial))
    → (n + 1 ≤ length initial - 1) × ((m : ℕ) → m < n + 1 → buffer ≤ weight_of (drop (m + 1) initial))
drop_surplus-step now initial n buffer after is weighed surplus some before =
    let left : weight_after_oldest now ≡ weight_of (drop (n + 1) initial) = ap weight_of (drop-one_more now initial n is) in
    let here : buffer ≤ weight_of (drop (n + 1) initial) = omega (arith, left) in
    let there = length-from_weight initial (n + 1) (omega (arith, here)) in
    (omega arith, below_more _ _ before here)

-- where so many of the responses were surplus and no more, the first place to keep is that of the first which is left
pub kept-surplus : (lengths : List ℕ) (first high buffer n : ℕ) (responses left : List (List ℕ)) → 1 ≤ first → 0 < length responses
    → n ≤ length responses - 1 → HasLengths lengths first responses → left ≡ drop n responses
    → ((m : ℕ) → m < n → buffer ≤ weight_of (drop (m + 1) responses)) → weight_after_oldest left < buffer
    → high ≡ first + n + length left - 1 → first + n ≡ kept lengths first high buffer
kept-surplus lengths first high buffer n responses left placed some within has is surplus fits is_high =
    let count : length left ≡ length responses - n = ap length is ∙ length-drop n responses in
    let top : high ≡ first + length responses - 1 = omega (arith, is_high, count) in
    let after : (m : ℕ) → m + 1 ≤ length responses → weight_after lengths (first + m) high ≡ weight_of (drop (m + 1) responses) = λ m inside.
    ap (weight_after lengths (first + m)) top ∙ weight_after-HasLengths lengths first responses m placed inside has in
    let left_weighs : weight_of (drop (n + 1) responses) < buffer =
    subst (λ (k : ℕ). k < buffer) (ap weight_of (drop-one_more left responses n is)) fits in
    sym (kept_is lengths first high buffer n (omega arith)
    (λ m below. subst (λ (k : ℕ). buffer ≤ k) (sym (after m (omega arith))) (surplus m below))
    (subst (λ (k : ℕ). k < buffer) (sym (after n (omega arith))) left_weighs))

-- a window after the responses up to a place are dropped
pub IsWindow-drop : (buffer first after after' place : ℕ) (responses left : List (List ℕ)) → IsWindow buffer first after responses → first ≤ place
    → place ≤ first + length responses - 1 → left ≡ drop (place + 1 - first) responses → after' ≡ weight_after_oldest left
    → IsWindow buffer (place + 1) after' left
IsWindow-drop buffer first after after' place responses left window low high is weighed =
    let count : length left ≡ length responses - (place + 1 - first) = ap length is ∙ length-drop (place + 1 - first) responses in
    let less : weight_after_oldest left ≤ weight_after_oldest responses =
    subst (λ (rest : List (List ℕ)). weight_after_oldest rest ≤ weight_after_oldest responses) (sym is)
    (weight_after_oldest-drop-le responses (place + 1 - first)) in
    record {
      buffer_low = window.buffer_low;
      buffer_high = window.buffer_high;
      place_low = omega arith;
      place_high = omega (arith, window.place_low, window.place_high);
      weighed = weighed;
      below = omega (arith, window.weighed, window.below);
    }
