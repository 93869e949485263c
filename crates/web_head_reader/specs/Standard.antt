-- Heads in the words of RFC 9112, section 2.1: the bytes of a connection up to and with the first empty line, of which 16 KiB are read at most.
use Rattle.std.specs.Prelude.{◌≡◌, ℕ, ◌<◌, ◌≤◌, List, ◌++◌, length}
use Rattle.web_heads.specs.HeadEnds.{EndsLines, IsFirstEnd}

-- no CR LF CR LF stands in the bytes
abbrev pub HasNoEnd : List ℕ → Type 0
HasNoEnd bytes = (at : ℕ) → ¬ (EndsLines bytes at)

-- the first empty line is the last of the bytes
pub record IsHead (bytes : List ℕ) : Type 0 where
  pub ends : IsFirstEnd bytes 0 (length bytes)
  pub short : length bytes ≤ 16384

-- a beginning of the bytes is a head; those after it say nothing of it
pub record HasHead (bytes head : List ℕ) : Type 0 where
  pub rest : List ℕ
  pub bytes_are : bytes ≡ head ++ rest
  pub is_head : IsHead head

-- a beginning of a head, of which more has to come
pub record IsBegun (bytes : List ℕ) : Type 0 where
  pub none : HasNoEnd bytes
  pub short : length bytes < 16384

-- 16 KiB without the end of a head: the fewest bytes that show it
pub record IsTooLong (bytes : List ℕ) : Type 0 where
  pub none : HasNoEnd bytes
  pub full : length bytes ≡ 16384

-- a beginning of the bytes is too long; those after it say nothing
pub record HasTooLong (bytes : List ℕ) : Type 0 where
  pub settled : List ℕ
  pub rest : List ℕ
  pub bytes_are : bytes ≡ settled ++ rest
  pub too_long : IsTooLong settled
