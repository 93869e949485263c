-- What a call on the outside says: told bytes are those read or written, and it fails only where its count of faults rose.
use Rattle.std.specs.Prelude.{◌≡◌, ℕ, ◌+◌, ◌-◌, ◌^◌, ◌<◌, ◌≤◌, min, List, [], ◌++◌, length, take, Option, None, Some, Result, OnOk, OnErr, MatchResult}

-- one more, where the count isn't at the last value of a u64, at which it stays
abbrev pub counted : ℕ → ℕ
counted n = min (n + 1) (2 ^ 64 - 1)

-- the count rose; one that stays at its last value counts as risen
abbrev pub Rose : ℕ → ℕ → Type 0
Rose before now = counted before ≤ now

-- the count of faults over one call: it never falls, it rose where the call failed, and it stayed where the call did not fail
pub record Counted {A E : Type 0} (before now : ℕ) (result : Result A E) : Type 0 where
  pub never_falls : before ≤ now
  pub failed : OnErr result (Rose before now)
  pub kept : OnOk result (now ≡ before)

-- the told bytes grew by these; a sink may stop telling, and does not begin to tell
abbrev pub Adds : Option (List ℕ) → Option (List ℕ) → List ℕ → Type 0
Adds old None bytes = Unit {0}
Adds None (Some new) bytes = ⊥
Adds (Some old) (Some new) bytes = new ≡ old ++ bytes

-- the told bytes grew by a beginning of these that is not the whole
abbrev pub AddsPart : Option (List ℕ) → Option (List ℕ) → List ℕ → Type 0
AddsPart old new bytes = (count : ℕ) × (count < length bytes) × Adds old new (take count bytes)

-- one write: Ok(n) has added the first n bytes of what it was given, and a failure has added none
abbrev pub Writes : {E : Type 0} → Option (List ℕ) → Option (List ℕ) → List ℕ → Result ℕ E → Type 0
Writes old new from result = MatchResult result (λ n. Adds old new (take n from)) (λ _. Adds old new [])
