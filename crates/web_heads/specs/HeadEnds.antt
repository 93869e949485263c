-- Where a head ends: after its first empty line (RFC 9112, section 2.1).
use Rattle.std.specs.Prelude.{◌≡◌, ℕ, ◌+◌, ◌≤◌, List, ◌++◌, take, drop}
use Rattle.httparse.specs.Ascii.{crlf_bytes}

-- CR LF CR LF begins at this place
abbrev pub EndsLines : List ℕ → ℕ → Type 0
EndsLines bytes at = take 4 (drop at bytes) ≡ crlf_bytes ++ crlf_bytes

-- the first CR LF CR LF that begins at this place or after it ends at stop
pub record IsFirstEnd (bytes : List ℕ) (start stop : ℕ) : Type 0 where
  pub at : ℕ
  pub stop_is : stop ≡ at + 4
  pub after : start ≤ at
  pub ends : EndsLines bytes at
  pub first : (other : ℕ) → start ≤ other → EndsLines bytes other → at ≤ other
