-- Frames as a machine over bytes (gRPC-Web protocol, "Message framing"): what one byte more does. Of a frame it looks at the bytes so far.
use Rattle.std.specs.Prelude.{◌≡◌, ◌≢◌, ℕ, ◌-◌, ◌≤◌, ◌⊎◌, if◌then◌else◌, ◌==◌, not, Bool, true, false, nat_lt, List, [], ◌∷◌, ◌++◌, length, take, drop, Option, Some, None, IfNone, OnSome, Result, Ok, Err, bit_and}
use Rattle.std.specs.Option.{option_to_list}
use Rattle.std.specs.Int.{w32, from_be_bytes}
use Rattle.web_frames.specs.declared.limits.Side.{Side}
use Rattle.web_frames.specs.declared.limits.Side.TheVariants.{Request, Response}
use Rattle.web_frames.specs.declared.fault.FrameFault.{FrameFault}
use Rattle.web_frames.specs.declared.fault.FrameFault.TheVariants.{FrameTooLong, Compressed, AfterMessage, AfterTrailers, BadTrailer, NoMessage, OutOfMemory}
use Rattle.web_frames.specs.declared.status.Trailers.{Trailers}
use Rattle.web_frames.specs.declared.event.FrameEvent.{FrameEvent}
use Rattle.web_frames.specs.declared.event.FrameEvent.TheVariants as event
use Rattle.web_frames.specs.declared.state.FramePlace.{FramePlace}
use Rattle.web_frames.specs.declared.state.FramePlace.TheVariants.{Open, Whole, Over, Refused}
use Rattle.web_frames.specs.Trailers.{trailers_in}
pub use Rattle.web_frames.specs.Format.{frame_limit, frame}
unfoldable pub use Rattle.web_frames.specs.Format.{frame_head}

-- where a reader of frames stands, and the bytes so far of a frame that is not whole
pub record FrameState : Type 0 where
  pub side : Side
  pub place : FramePlace
  pub held : List ℕ

-- what the bytes so far of one frame settle: nothing yet, what the whole frame tells, or a fault
pub data Settled : Type 0 where
  more : Settled
  told : FrameEvent → Settled
  faulty : FrameFault → Settled

abbrev pub is_compressed : ℕ → Bool
is_compressed flag = not (bit_and flag 0x01 == 0)

abbrev pub is_trailers : ℕ → Bool
is_trailers flag = not (bit_and flag 0x80 == 0)

-- the frame is of trailers where only a message may come
abbrev pub is_no_message : Side → ℕ → Bool
is_no_message Request flag = is_trailers flag
is_no_message Response flag = false

abbrev pub told_trailers : Option Trailers → Settled
told_trailers None = faulty BadTrailer
told_trailers (Some trailers) = told (event.Trailers trailers)

-- what a whole frame tells
unfoldable pub told_by : ℕ → List ℕ → Settled
told_by flag payload = if is_trailers flag then told_trailers (trailers_in payload) else told (event.Message payload)

-- a call gave what is told, unless memory ran out
abbrev pub Tells : Result FrameEvent FrameFault → Settled → Type 0
Tells (Ok event) expected = expected ≡ told event
Tells (Err BadTrailer) expected = expected ≡ faulty BadTrailer
Tells (Err OutOfMemory) expected = Unit {0}
Tells (Err (FrameTooLong count)) expected = ⊥
Tells (Err Compressed) expected = ⊥
Tells (Err AfterMessage) expected = ⊥
Tells (Err AfterTrailers) expected = ⊥
Tells (Err NoMessage) expected = ⊥

-- what a frame's bytes settle whose length is known
unfoldable pub settled_by_length : Side → ℕ → ℕ → List ℕ → Settled
settled_by_length side flag count payload =
    if nat_lt (frame_limit side) count then faulty (FrameTooLong count)
    else (if nat_lt (length payload) count then more else told_by flag payload)

-- what a frame's bytes settle whose flag may stand there
unfoldable pub settled_by_rest : Side → ℕ → List ℕ → Settled
settled_by_rest side flag rest =
    if nat_lt (length rest) 4 then more else settled_by_length side flag (from_be_bytes w32 (take 4 rest)) (drop 4 rest)

-- the fault that a flag is
abbrev pub fault_of_flag : Side → ℕ → Option FrameFault
fault_of_flag side flag = if is_compressed flag then Some Compressed else (if is_no_message side flag then Some NoMessage else None)

-- what the bytes so far of one frame settle
unfoldable pub settled_by : Side → List ℕ → Settled
settled_by side [] = more
settled_by side (flag ∷ rest) =
    if is_compressed flag then faulty Compressed
    else (if is_no_message side flag then faulty NoMessage else settled_by_rest side flag rest)

-- a request is whole after a message; after a message of a response a frame may come
abbrev pub place_after : Side → FramePlace
place_after Request = Whole
place_after Response = Open

abbrev pub place_behind : Side → FrameEvent → FramePlace
place_behind side (event.Message payload) = place_after side
place_behind side (event.Trailers trailers) = Over

abbrev pub refused_at : Side → FrameFault → FrameState
refused_at side fault = record { side = side; place = Refused fault; held = [] }

-- where a reader stands by what the bytes of a frame settle
abbrev pub state_of : Side → List ℕ → Settled → FrameState
state_of side held more = record { side = side; place = Open; held = held }
state_of side held (told event) = record { side = side; place = place_behind side event; held = [] }
state_of side held (faulty fault) = refused_at side fault

abbrev pub event_of : Settled → Option FrameEvent
event_of more = None
event_of (told event) = Some event
event_of (faulty fault) = None

-- one byte more, a line for each place
abbrev pub step_at : FramePlace → FrameState → ℕ → FrameState
step_at Open s b = state_of s.side (s.held ++ b ∷ []) (settled_by s.side (s.held ++ b ∷ []))
step_at Whole s b = refused_at s.side AfterMessage
step_at Over s b = refused_at s.side AfterTrailers
step_at (Refused fault) s b = s

unfoldable pub frame_step : FrameState → ℕ → FrameState
frame_step s b = step_at s.place s b

-- the event that one byte more completes
abbrev pub event_at : FramePlace → FrameState → ℕ → Option FrameEvent
event_at Open s b = event_of (settled_by s.side (s.held ++ b ∷ []))
event_at Whole s b = None
event_at Over s b = None
event_at (Refused fault) s b = None

unfoldable pub frame_event : FrameState → ℕ → Option FrameEvent
frame_event s b = event_at s.place s b

-- before the first byte
abbrev pub begin : Side → FrameState
begin side = record { side = side; place = Open; held = [] }

-- after bytes, and the events that they told
unfoldable pub after : FrameState → List ℕ → FrameState
after s [] = s
after s (b ∷ bytes) = after (frame_step s b) bytes

unfoldable pub events_of : FrameState → List ℕ → List FrameEvent
events_of s [] = []
events_of s (b ∷ bytes) = option_to_list (frame_event s b) ++ events_of (frame_step s b) bytes

-- after pieces, one after another, and the events that they told
unfoldable pub after_pieces : FrameState → List (List ℕ) → FrameState
after_pieces s [] = s
after_pieces s (piece ∷ pieces) = after_pieces (after s piece) pieces

unfoldable pub events_of_pieces : FrameState → List (List ℕ) → List FrameEvent
events_of_pieces s [] = []
events_of_pieces s (piece ∷ pieces) = events_of s piece ++ events_of_pieces (after s piece) pieces

-- no frame has begun that is not whole, and there is no fault: the payload may end here
abbrev pub between_at : FramePlace → List ℕ → Bool
between_at Open held = length held == 0
between_at Whole held = true
between_at Over held = true
between_at (Refused fault) held = false

abbrev pub is_between : FrameState → Bool
is_between s = between_at s.place s.held

-- a request's message has come, and nothing after it
abbrev pub whole_at : FramePlace → Bool
whole_at Open = false
whole_at Whole = true
whole_at Over = false
whole_at (Refused fault) = false

abbrev pub is_whole : FrameState → Bool
is_whole s = whole_at s.place

-- ---- one call over a piece

-- the call took so many bytes and told this event, if any: with an event those up to and with its last byte, else all
pub record Took (old : FrameState) (piece : List ℕ) (taken : ℕ) (event : Option FrameEvent) (new : FrameState) : Type 0 where
  pub within : taken ≤ length piece
  pub state : new ≡ after old (take taken piece)
  pub tells : events_of old (take taken piece) ≡ option_to_list event
  pub all : IfNone event (taken ≡ length piece)
  pub first : OnSome event (events_of old (take (taken - 1) piece) ≡ [])
  pub goes_on : (fault : FrameFault) → new.place ≢ Refused fault

-- the reader is refused with this fault, by a byte of the piece or already before it; the bytes told no event
pub record Stopped (old : FrameState) (piece : List ℕ) (fault : FrameFault) (new : FrameState) : Type 0 where
  pub state : new ≡ after old piece
  pub refused : new.place ≡ Refused fault
  pub silent : events_of old piece ≡ []

-- memory ran out in the midst of a frame, now or before; the reader is refused with that from now on
pub record RanOut (old new : FrameState) : Type 0 where
  pub state : new ≡ refused_at old.side OutOfMemory
  pub was_open : (old.place ≡ Open) ⊎ (old.place ≡ Refused OutOfMemory)

-- what one call over a piece answers and leaves
abbrev pub Feeds : FrameState → List ℕ → Result (ℕ × Option FrameEvent) FrameFault → FrameState → Type 0
Feeds old piece (Ok answer) new = Took old piece answer.0 answer.1 new
Feeds old piece (Err (FrameTooLong count)) new = Stopped old piece (FrameTooLong count) new
Feeds old piece (Err Compressed) new = Stopped old piece Compressed new
Feeds old piece (Err AfterMessage) new = Stopped old piece AfterMessage new
Feeds old piece (Err AfterTrailers) new = Stopped old piece AfterTrailers new
Feeds old piece (Err BadTrailer) new = Stopped old piece BadTrailer new
Feeds old piece (Err NoMessage) new = Stopped old piece NoMessage new
Feeds old piece (Err OutOfMemory) new = RanOut old new
