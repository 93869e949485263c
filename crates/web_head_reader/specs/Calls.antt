-- What the calls of a reader of heads answer and leave, and what it holds between them.
use Rattle.std.specs.Prelude.{◌≡◌, ◌≢◌, ℕ, ◌<◌, ◌≤◌, ◌⊎◌, Bool, true, false, List, length, take}
use Rattle.web_head_reader.specs.declared.fault.HeadReadFault.{HeadReadFault}
use Rattle.web_head_reader.specs.declared.fault.HeadReadFault.TheVariants.{HeadTooLong, OutOfMemory}
use Rattle.web_head_reader.specs.declared.place.HeadPlace.{HeadPlace}
use Rattle.web_head_reader.specs.declared.place.HeadPlace.TheVariants.{Open, Whole, Refused}
use Rattle.web_head_reader.specs.Steps.{HeadState, after}
use Rattle.web_head_reader.specs.Standard.{IsBegun}

-- so many bytes of a piece were taken: all of them, or those up to the end of the head; before the last of them the head isn't whole
pub record Takes (old : HeadState) (piece : List ℕ) (new : HeadState) (count : ℕ) : Type 0 where
  pub within : count ≤ length piece
  pub state : new ≡ after old (take count piece)
  pub ends : (count ≡ length piece) ⊎ (new.place ≡ Whole)
  pub first : (fewer : ℕ) → fewer < count → (after old (take fewer piece)).place ≡ Open
  pub not_refused : (fault : HeadReadFault) → new.place ≢ Refused fault

-- the bytes of a piece make the head too long, or did before
pub record IsFaulty (old : HeadState) (piece : List ℕ) (new : HeadState) : Type 0 where
  pub state : new ≡ after old piece
  pub refused : new.place ≡ Refused HeadTooLong

-- memory ran out within the head, now or before; it is refused from now on
pub record RunsOut (old new : HeadState) : Type 0 where
  pub refused : new.place ≡ Refused OutOfMemory
  pub was_open : (old.place ≡ Open) ⊎ (old.place ≡ Refused OutOfMemory)

-- the piece was refused: for its bytes, or for want of memory, which says nothing of them
abbrev pub Refuses : HeadState → List ℕ → HeadState → HeadReadFault → Type 0
Refuses old piece new HeadTooLong = IsFaulty old piece new
Refuses old piece new OutOfMemory = RunsOut old new

-- ---- between calls

abbrev pub is_open : HeadPlace → Bool
is_open Open = true
is_open Whole = false
is_open (Refused fault) = false

-- a head that isn't whole is a beginning of one
pub record HoldsHead (place : HeadPlace) (held : List ℕ) : Type 0 where
  pub begun : is_open place ≡ true → IsBegun held
