-- Base 128 varints (Protocol Buffers, Encoding, "Base 128 Varints").
use Rattle.std.specs.Prelude.{◌≡◌, ℕ, zero, suc, ◌+◌, ◌*◌, ◌/◌, ◌%◌, ◌^◌, ◌<◌, ◌≤◌, List, [], ◌∷◌, length, slice_index, nat_lt, if◌then◌else◌}

-- each is a byte
abbrev pub IsBytes : List ℕ → Type 0
IsBytes bytes = (index : ℕ) → slice_index bytes index < 256

-- the groups of seven bits as one number, the least significant group first
abbrev pub group_sum : List ℕ → ℕ
group_sum [] = 0
group_sum (b ∷ bs) = b % 128 + 128 * group_sum bs

-- each byte but the last says by its high bit that more follow
abbrev pub IsGroups : List ℕ → Type 0
IsGroups [] = ⊥
IsGroups (b ∷ []) = b < 128
IsGroups (b ∷ c ∷ bs) = (128 ≤ b) × (b < 256) × IsGroups (c ∷ bs)

-- at most ten bytes spell the number, of which the bits past 64 are dropped
pub record IsVarint (bytes : List ℕ) (number : ℕ) : Type 0 where
  pub groups : IsGroups bytes
  pub short : length bytes ≤ 10
  pub value : number ≡ group_sum bytes % 2 ^ 64

-- the groups of a number, the least first: one, and others while something is left, at most so many
unfoldable pub groups_of : ℕ → ℕ → List ℕ
groups_of zero n = n ∷ []
groups_of (suc others) n = if nat_lt n 128 then n ∷ [] else (n % 128 + 128) ∷ groups_of others (n / 128)

-- the shortest spelling of a number; after its first group it has no more others than the number is
unfoldable pub varint : ℕ → List ℕ
varint n = groups_of n n
