-- The machine that goes over the bytes of a head, one byte at a time (RFC 9112, section 2.1).
use Rattle.std.specs.Prelude.{ℕ, ◌-◌, Bool, if◌then◌else◌, nat_lt, List, [], ◌∷◌, ◌++◌, length, take, drop, fold}
use Rattle.std.specs.Str.{bytes_eq}
use Rattle.httparse.specs.Ascii.{crlf_bytes}
use Rattle.web_head_reader.specs.declared.fault.HeadReadFault.{HeadReadFault}
use Rattle.web_head_reader.specs.declared.fault.HeadReadFault.TheVariants.{HeadTooLong}
use Rattle.web_head_reader.specs.declared.place.HeadPlace.{HeadPlace}
use Rattle.web_head_reader.specs.declared.place.HeadPlace.TheVariants.{Open, Whole, Refused}

-- what has come of a head, and where the next byte stands
pub record HeadState : Type 0 where
  pub place : HeadPlace
  pub held : List ℕ

-- the longest head, in bytes, its empty line included
abbrev pub most_head : ℕ
most_head = 16384

-- the last four bytes are CR LF CR LF
unfoldable pub ends_head : List ℕ → Bool
ends_head bytes = bytes_eq (take 4 (drop (length bytes - 4) bytes)) (crlf_bytes ++ crlf_bytes)

abbrev pub refused_at : HeadReadFault → HeadState
refused_at fault = record { place = Refused fault; held = [] }

-- after these bytes, by the last of them: the head is whole, it goes on, or it is too long
unfoldable pub state_of : List ℕ → HeadState
state_of bytes =
    if ends_head bytes then record { place = Whole; held = bytes }
    else (if nat_lt (length bytes) most_head then record { place = Open; held = bytes } else refused_at HeadTooLong)

-- one byte more; bytes after a head that is whole or refused change nothing
unfoldable pub step_at : HeadPlace → HeadState → ℕ → HeadState
step_at Open s b = state_of (s.held ++ b ∷ [])
step_at Whole s b = s
step_at (Refused fault) s b = s

unfoldable pub head_step : HeadState → ℕ → HeadState
head_step s b = step_at s.place s b

-- before the first byte
abbrev pub begin : HeadState
begin = record { place = Open; held = [] }

-- after these bytes
unfoldable pub after : HeadState → List ℕ → HeadState
after s bytes = fold head_step s bytes
