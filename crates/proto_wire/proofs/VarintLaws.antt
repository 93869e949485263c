-- The shortest varint: its groups, its value, its length, and that no spelling of the number is shorter.
use Rattle.std.proofs.Common.{◌≡◌, ℕ, zero, suc, ◌+◌, ◌/◌, ◌%◌, ◌^◌, ◌<◌, ◌≤◌, inl, inr, List, [], ◌∷◌, ◌++◌, length, refl, sym, ap, ◌∙◌, set, take, arith, lit<, append_assoc}
use Rattle.std.proofs.lemmas.List.{take_more_set}
use Rattle.std.proofs.Math.Nat.{pow-suc, pow-le-pow_right}
use Rattle.std.proofs.lemmas.Bool.{lt-ltb, le-ltb, cases_lt}
use Rattle.proto_wire.specs.Varint.{group_sum, IsGroups, IsVarint, groups_of, varint}
use Rattle.proto_wire.proofs.Fronts.{IsGroups-cons, groups_nonempty}

-- ---- one group at a time

groups_of-small : (fuel n : ℕ) → n < 128 → groups_of fuel n ≡ n ∷ []
unfolding groups_of
groups_of-small zero n low = refl
groups_of-small (suc fuel) n low = rw (lt-ltb n 128 low) refl

groups_of-large : (fuel n : ℕ) → 128 ≤ n → groups_of (suc fuel) n ≡ (n % 128 + 128) ∷ groups_of fuel (n / 128)
unfolding groups_of
groups_of-large fuel n high = rw (le-ltb n 128 high) refl

-- fuel beyond the number makes no difference
enough : (fuel more n : ℕ) → n ≤ fuel → n ≤ more → groups_of fuel n ≡ groups_of more n
enough zero more n room also = groups_of-small 0 n (omega arith) ∙ sym (groups_of-small more n (omega arith))
enough (suc fuel) zero n room also = groups_of-small (suc fuel) n (omega arith) ∙ sym (groups_of-small 0 n (omega arith))
enough (suc fuel) (suc more) n room also =
    elim (cases_lt n 128) [
      | inl low ↦ groups_of-small (suc fuel) n low ∙ sym (groups_of-small (suc more) n low)
      | inr high ↦
          groups_of-large fuel n high
          ∙ ap (λ (gs : List ℕ). (n % 128 + 128) ∷ gs) (enough fuel more (n / 128) (omega arith) (omega arith))
          ∙ sym (groups_of-large more n high)
    ]

pub varint-small : (n : ℕ) → n < 128 → varint n ≡ n ∷ []
unfolding varint
varint-small n low = groups_of-small n n low

pub varint-large : (n : ℕ) → 128 ≤ n → varint n ≡ (n % 128 + 128) ∷ varint (n / 128)
unfolding varint
varint-large zero high = absurd (omega arith)
varint-large (suc m) high =
    groups_of-large m (suc m) high ∙ ap (λ (gs : List ℕ). (suc m % 128 + 128) ∷ gs) (enough m (suc m / 128) (suc m / 128) (omega arith) (omega arith))

-- ---- groups, value and length, by the fuel

IsGroups-groups_of : (fuel n : ℕ) → n ≤ fuel → IsGroups (groups_of fuel n)
IsGroups-groups_of zero n room = let low : n < 128 = omega arith in rw (groups_of-small 0 n low) low
IsGroups-groups_of (suc fuel) n room =
    elim (cases_lt n 128) [
      | inl low ↦ rw (groups_of-small (suc fuel) n low) low
      | inr high ↦
          rw (groups_of-large fuel n high)
          (IsGroups-cons (n % 128 + 128) (groups_of fuel (n / 128)) (omega arith) (omega arith) (IsGroups-groups_of fuel (n / 128) (omega arith)))
    ]

group_sum-groups_of : (fuel n : ℕ) → n ≤ fuel → group_sum (groups_of fuel n) ≡ n
group_sum-groups_of zero n room = let low : n < 128 = omega arith in rw (groups_of-small 0 n low) (omega arith)
group_sum-groups_of (suc fuel) n room =
    elim (cases_lt n 128) [
      | inl low ↦ rw (groups_of-small (suc fuel) n low) (omega arith)
      | inr high ↦ rw (groups_of-large fuel n high) (omega (arith, group_sum-groups_of fuel (n / 128) (omega arith)))
    ]

length-groups_of : (most fuel n : ℕ) → n ≤ fuel → n < 128 ^ suc most → length (groups_of fuel n) ≤ suc most
length-groups_of most zero n room below = let low : n < 128 = omega arith in rw (groups_of-small 0 n low) (omega arith)
length-groups_of zero (suc fuel) n room below = let low : n < 128 = omega arith in rw (groups_of-small (suc fuel) n low) (omega arith)
length-groups_of (suc most) (suc fuel) n room below =
    elim (cases_lt n 128) [
      | inl low ↦ rw (groups_of-small (suc fuel) n low) (omega arith)
      | inr high ↦
          let next : n / 128 < 128 ^ suc most = omega (arith, pow-suc 128 (suc most)) in
          let shorter = length-groups_of most fuel (n / 128) (omega arith) next in
          rw (groups_of-large fuel n high) (omega arith)
    ]

pub IsGroups-varint : (n : ℕ) → IsGroups (varint n)
unfolding varint
IsGroups-varint n = IsGroups-groups_of n n (omega arith)

pub group_sum-varint : (n : ℕ) → group_sum (varint n) ≡ n
unfolding varint
group_sum-varint n = group_sum-groups_of n n (omega arith)

length-varint-below : (most n : ℕ) → n < 128 ^ suc most → length (varint n) ≤ suc most
unfolding varint
length-varint-below most n below = length-groups_of most n n (omega arith) below

pub length-varint : (n : ℕ) → n < 2 ^ 64 → length (varint n) ≤ 10
length-varint n below = length-varint-below 9 n (omega arith)

pub varint_nonempty : (n : ℕ) → 0 < length (varint n)
varint_nonempty n = groups_nonempty (varint n) (IsGroups-varint n)

pub IsVarint-varint : (n : ℕ) → n < 2 ^ 64 → IsVarint (varint n) n
IsVarint-varint n below =
    record { groups = IsGroups-varint n; short = length-varint n below; value = rw (group_sum-varint n) (omega arith) }

-- ---- no spelling is shorter

group_sum-below : (bytes : List ℕ) → group_sum bytes < 128 ^ length bytes
group_sum-below [] = omega arith
group_sum-below (b ∷ bytes) = omega (arith, group_sum-below bytes, pow-suc 128 (length bytes))

no_shorter : (count n : ℕ) (other : List ℕ) → length other ≡ count → n < 2 ^ 64 → IsVarint other n → length (varint n) ≤ count
no_shorter zero n other len below is = absurd (omega (arith, groups_nonempty other is.groups))
no_shorter (suc most) n other len below is =
    elim (cases_lt most 9) [
      | inl few ↦
          let small : 128 ^ suc most ≤ 128 ^ 9 = let order : suc most ≤ 9 = omega arith in pow-le-pow_right {n = 128} (lit< tt) {i = suc most} {j = 9} order in
          let sum : group_sum other < 128 ^ suc most = rw (← len) (group_sum-below other) in
          let same : n ≡ group_sum other = omega (arith, is.value) in
          length-varint-below most n (omega arith)
      | inr many ↦ omega (arith, length-varint n below)
    ]

pub shortest_varint : (n : ℕ) → n < 2 ^ 64 → IsVarint (varint n) n × ((other : List ℕ) → IsVarint other n → length (varint n) ≤ length other)
shortest_varint n below = (IsVarint-varint n below, λ other is. no_shorter (length other) n other refl below is)

-- ---- the loop that writes the groups

pub length-varint-large : (n : ℕ) → 128 ≤ n → length (varint n) ≡ 1 + length (varint (n / 128))
length-varint-large n high = ap (length {A = ℕ}) (varint-large n high) ∙ omega arith

pub one_group_written : (head : List ℕ) (at n : ℕ) → at < length head → 128 ≤ n → take (at + 1) (set head at (n % 128 + 128)) ++ varint (n / 128) ≡ take at head ++ varint n
one_group_written head at n room high =
    ap (λ (x : List ℕ). x ++ varint (n / 128)) (take_more_set head at (n % 128 + 128) room)
    ∙ append_assoc (take at head) ((n % 128 + 128) ∷ []) (varint (n / 128))
    ∙ ap (λ (x : List ℕ). take at head ++ x) (sym (varint-large n high))

pub last_group_written : (head : List ℕ) (at n : ℕ) → at < length head → n < 128 → take (at + 1) (set head at n) ≡ take at head ++ varint n
last_group_written head at n room low =
    take_more_set head at n room ∙ ap (λ (x : List ℕ). take at head ++ x) (sym (varint-small n low))
