-- What the memory forms of the outside hold, as contracts see them.
use Rattle.std.specs.Prelude.{ℕ, ◌+◌, Bool, true, false, ◌&&◌, nat_le, if◌then◌else◌, List, ◌++◌, length, Option, None, Some}

-- a memory source: the bytes that are left, the numbers (from 1) of the calls that are to fail, how many calls were made and how
-- many of them failed
pub record SourceState : Type 0 where
  pub left : List ℕ
  pub failing : List ℕ
  pub calls : ℕ
  pub faults : ℕ

-- a memory sink: the bytes that it has taken, and the same numbers as a memory source
pub record SinkState : Type 0 where
  pub told : List ℕ
  pub failing : List ℕ
  pub calls : ℕ
  pub faults : ℕ

-- a sink of fixed room: the bytes that it keeps, how many it has room for in all, and whether it has kept every piece so far
pub record RoomState : Type 0 where
  pub kept : List ℕ
  pub room : ℕ
  pub whole : Bool

-- what a sink of fixed room tells: its bytes, until a piece did not fit
abbrev pub room_told : RoomState → Option (List ℕ)
room_told s = told_if s.whole s.kept where
  told_if : Bool → List ℕ → Option (List ℕ)
  told_if true kept = Some kept
  told_if false kept = None

-- what a sink of fixed room is after a piece: it keeps the piece where it fits and every piece before it did
abbrev pub room_after : RoomState → List ℕ → RoomState
room_after s piece =
    if s.whole && nat_le (length s.kept + length piece) s.room
    then record s { kept = s.kept ++ piece } else record s { whole = false }
