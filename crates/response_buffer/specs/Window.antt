-- The window of responses that are kept, so that a reader whose connection broke can be sent them again. Places count from 1.
use Rattle.std.specs.Prelude.{ℕ, ◌+◌, ◌-◌, ◌^◌, ◌<◌, ◌≤◌, ◌≡◌, List, length, drop, map, sum, sum_by, nat_lt, slice_range}
use Rattle.std.specs.List.{position_or_len, range_with_len}

-- what is kept: the size of the buffer in bytes, the first kept place, and the responses of the places from there on
pub record Window : Type 0 where
  pub buffer : ℕ
  pub first : ℕ
  pub responses : List (List ℕ)

-- the highest place that was sent: the responses are those of the places from `first` to it
abbrev pub high_of : Window → ℕ
high_of w = w.first + length w.responses - 1

-- the sum of the lengths of responses, of all of them and of those after the oldest
abbrev pub weight_of : List (List ℕ) → ℕ
weight_of responses = sum_by length responses

abbrev pub weight_after_oldest : List (List ℕ) → ℕ
weight_after_oldest responses = weight_of (drop 1 responses)

-- the sum of the lengths of the places after `place`, up to `high`, where `lengths` has the length of each place from 1 on
abbrev pub weight_after : List ℕ → ℕ → ℕ → ℕ
weight_after lengths place high = sum (slice_range lengths place high)

-- the first place to keep: the least place from `first` to `high` such that the lengths of the places after it, up to `high`, sum to
-- less than the buffer
unfoldable pub kept : List ℕ → ℕ → ℕ → ℕ → ℕ
kept lengths first high buffer =
    first + position_or_len (λ place. nat_lt (weight_after lengths place high) buffer) (range_with_len first (high - first))

-- a place from `first` to `high` such that the lengths of the places after it, up to `high`, sum to less than the buffer
pub record FitsBuffer (lengths : List ℕ) (first high buffer place : ℕ) : Type 0 where
  pub from : first ≤ place
  pub to : place ≤ high
  pub below : weight_after lengths place high < buffer

-- the least number that has a property: it has it, and each number that has it is at least as large
pub record IsLeast (P : ℕ → Type 0) (n : ℕ) : Type 0 where
  pub holds : P n
  pub least : (m : ℕ) → P m → n ≤ m

-- the first place to keep is the one that its words say
abbrev pub KeptIsLeast : Type 0
KeptIsLeast = (lengths : List ℕ) (first high buffer : ℕ) → first ≤ high → 0 < buffer
    → IsLeast (FitsBuffer lengths first high buffer) (kept lengths first high buffer)

-- `lengths` has, at the places from `first` on, the lengths of these responses
abbrev pub HasLengths : List ℕ → ℕ → List (List ℕ) → Type 0
HasLengths lengths first responses = slice_range lengths (first - 1) (first + length responses - 1) ≡ map length responses

-- what each window keeps to: its buffer is from 1 to 2^26, its places are from 1 to 4,194,306, and the responses after the oldest one
-- weigh less than the buffer
pub record IsWindow (buffer first after : ℕ) (responses : List (List ℕ)) : Type 0 where
  pub buffer_low : 1 ≤ buffer
  pub buffer_high : buffer ≤ 2 ^ 26
  pub place_low : 1 ≤ first
  pub place_high : first + length responses ≤ 4194307
  pub weighed : after ≡ weight_after_oldest responses
  pub below : after < buffer
