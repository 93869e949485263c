-- The last byte.
use Rattle.std.proofs.Common.{◌≡◌, ℕ, ◌<◌, List, [], ◌∷◌, ◌++◌, length, refl, ap, arith}

-- a list with at least one byte has a last one
pub record HasLast (bytes : List ℕ) : Type 0 where
  pub front : List ℕ
  pub last : ℕ
  pub bytes_are : bytes ≡ front ++ last ∷ []

pub last_of : (bytes : List ℕ) → 0 < length bytes → HasLast bytes
last_of [] some = absurd (omega arith)
last_of (b ∷ []) some = record { front = []; last = b; bytes_are = refl }
last_of (b ∷ c ∷ bytes) some =
    let x = last_of (c ∷ bytes) (omega arith) in
    record { front = b ∷ x.front; last = x.last; bytes_are = ap (λ (rest : List ℕ). b ∷ rest) x.bytes_are }
