-- What the parts of one call do, and what a reader holds between calls.
use Rattle.std.specs.Prelude.{◌≡◌, ℕ, ◌-◌, ◌<◌, ◌≤◌, Bool, true, false, List, [], ◌++◌, length, take, drop, Option, Some, None, Result, Ok, Err}
use Rattle.std.specs.Int.{w32, from_be_bytes}
use Rattle.web_frames.specs.declared.limits.Side.{Side}
use Rattle.web_frames.specs.declared.fault.FrameFault.{FrameFault}
use Rattle.web_frames.specs.declared.fault.FrameFault.TheVariants.{FrameTooLong, Compressed, AfterMessage, AfterTrailers, BadTrailer, NoMessage, OutOfMemory}
use Rattle.web_frames.specs.declared.event.FrameEvent.{FrameEvent}
use Rattle.web_frames.specs.declared.state.FramePlace.{FramePlace}
use Rattle.web_frames.specs.declared.state.FramePlace.TheVariants.{Open, Whole, Over, Refused}
use Rattle.web_frames.specs.Machine.{FrameState, Settled, more, told, faulty, settled_by, place_behind, refused_at, Feeds}

-- a call that takes all of its piece, or the bytes of it up to the one that settles a fault: here its answer leaves the number out
abbrev pub answer_of_all : List ℕ → Result (Option FrameEvent) FrameFault → Result (ℕ × Option FrameEvent) FrameFault
answer_of_all piece (Ok event) = Ok (length piece, event)
answer_of_all piece (Err fault) = Err fault

abbrev pub FeedsAll : FrameState → List ℕ → Result (Option FrameEvent) FrameFault → FrameState → Type 0
FeedsAll old piece result new = Feeds old piece (answer_of_all piece result) new

-- a call that takes a part of its piece, one byte at least
abbrev pub TakesSome : FrameState → List ℕ → Result (ℕ × Option FrameEvent) FrameFault → FrameState → Type 0
TakesSome old piece (Ok answer) new = (0 < answer.0) × (answer.0 ≤ length piece) × FeedsAll old (take answer.0 piece) (Ok answer.1) new
TakesSome old piece (Err fault) new = Feeds old piece (Err fault) new

-- ---- parts of a call

-- one byte more is this fault
abbrev pub EndsWith : FramePlace → FrameFault → Type 0
EndsWith Open fault = ⊥
EndsWith Whole fault = fault ≡ AfterMessage
EndsWith Over fault = fault ≡ AfterTrailers
EndsWith (Refused other) fault = ⊥

-- the end of a whole frame: what it tells, and where the reader stands behind it
abbrev pub Ends : Side → Settled → Result (Option FrameEvent) FrameFault → FrameState → Type 0
Ends side settled (Ok None) new = ⊥
Ends side settled (Ok (Some event)) new = (settled ≡ told event) × (new ≡ record { side = side; place = place_behind side event; held = [] })
Ends side settled (Err BadTrailer) new = (settled ≡ faulty BadTrailer) × (new ≡ refused_at side BadTrailer)
Ends side settled (Err OutOfMemory) new = new ≡ refused_at side OutOfMemory
Ends side settled (Err (FrameTooLong count)) new = ⊥
Ends side settled (Err Compressed) new = ⊥
Ends side settled (Err AfterMessage) new = ⊥
Ends side settled (Err AfterTrailers) new = ⊥
Ends side settled (Err NoMessage) new = ⊥

-- ---- the parts of a reader

-- the length that a frame's head gives
abbrev pub length_in : List ℕ → ℕ
length_in held = from_be_bytes w32 (take 4 (drop 1 held))

-- how many bytes of its payload a frame lacks whose head is held
abbrev pub lacking : List ℕ → ℕ
lacking held = length_in held - length (drop 5 held)

abbrev pub is_more : Settled → Bool
is_more more = true
is_more (told event) = false
is_more (faulty fault) = false

abbrev pub is_open : FramePlace → Bool
is_open Open = true
is_open Whole = false
is_open Over = false
is_open (Refused fault) = false

-- the first bytes of a frame's head, and its payload so far: they settle nothing yet, and there are none where no frame may stand
pub record HoldsFrame (side : Side) (place : FramePlace) (head : List ℕ) (count : ℕ) (payload : List ℕ) : Type 0 where
  pub room : length head ≡ 5
  pub few : count ≤ 5
  pub early : count < 5 → payload ≡ []
  pub unsettled : is_open place ≡ true → is_more (settled_by side (take count head ++ payload)) ≡ true
  pub empty : is_open place ≡ false → (count ≡ 0) × (payload ≡ [])
