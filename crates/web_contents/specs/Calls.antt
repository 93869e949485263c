-- What a call of a reader of contents answers and leaves.
use Rattle.std.specs.Prelude.{◌≡◌, ◌≢◌, ℕ, ◌+◌, ◌-◌, ◌<◌, ◌≤◌, Bool, true, false, List, [], ◌∷◌, length, take, Option, Some, None, OnSome, Result, Ok, Err}
use Rattle.std.specs.Option.{option_to_list}
use Rattle.web_heads.specs.declared.body.BodyKind.{BodyKind}
use Rattle.web_heads.specs.declared.body.BodyKind.TheVariants.{Length, Chunks, ToEnd}
use Rattle.web_frames.specs.declared.event.FrameEvent.{FrameEvent}
use Rattle.web_frames.specs.declared.event.FrameEvent.TheVariants as frame
use Rattle.web_contents.specs.declared.event.ContentEvent.{ContentEvent}
use Rattle.web_contents.specs.declared.event.ContentEvent.TheVariants.{Message, Trailers, End}
use Rattle.web_contents.specs.declared.fault.WebFault.{WebFault}
use Rattle.web_contents.specs.declared.fault.WebFault.TheVariants.{OutOfMemory}
use Rattle.web_contents.specs.declared.place.ContentPlace.{ContentPlace}
use Rattle.web_contents.specs.declared.place.ContentPlace.TheVariants.{Open, Over, Refused}
use Rattle.web_contents.specs.Faults.{ByCause}
use Rattle.web_contents.specs.Contents.{Content, place_of, after, events_of}

-- so many bytes of a piece were taken, all of them bytes of the body, and they leave this
pub record Takes (old : Content) (piece : List ℕ) (count : ℕ) (new : Content) : Type 0 where
  pub within : count ≤ length piece
  pub state : new ≡ after old (take count piece)
  pub counted : new.body.count ≡ old.body.count + count

-- the bytes taken tell this message or these trailers, and the last of them completes it
pub record Tells (old : Content) (piece : List ℕ) (count : ℕ) (event : FrameEvent) (new : Content) : Type 0 where
  pub takes : Takes old piece count new
  pub told : events_of old (take count piece) ≡ event ∷ []
  pub first : events_of old (take (count - 1) piece) ≡ []
  pub goes_on : (fault : WebFault) → place_of new ≢ Refused fault

-- the bytes taken tell nothing, and lead to this place
pub record Leads (old : Content) (piece : List ℕ) (count : ℕ) (place : ContentPlace) (new : Content) : Type 0 where
  pub takes : Takes old piece count new
  pub silent : events_of old (take count piece) ≡ []
  pub place_is : place_of new ≡ place

-- what an answer says of the bytes taken: up to the event that comes next, or all of the piece, after which more has to come
abbrev pub Gives : Content → List ℕ → ℕ → Option ContentEvent → Content → Type 0
Gives old piece count (Some (Message message)) new = Tells old piece count (frame.Message message) new
Gives old piece count (Some (Trailers trailers)) new = Tells old piece count (frame.Trailers trailers) new
Gives old piece count (Some End) new = Leads old piece count Over new
Gives old piece count None new = (count ≡ length piece) × Leads old piece count Open new

-- the answer of a call after the end of the body
abbrev pub told_end : Result (ℕ × Option ContentEvent) WebFault
told_end = Ok (0, Some End)

-- the bytes of a piece settle this fault, or it was settled before them, and they tell nothing
pub record Settles (old : Content) (piece : List ℕ) (fault : WebFault) (new : Content) : Type 0 where
  pub settled : place_of (after old piece) ≡ Refused fault
  pub silent : events_of old piece ≡ []
  pub refused : place_of new ≡ Refused fault

-- the piece is refused: for its bytes, or for want of memory, which says nothing of them
abbrev pub Refuses : Content → List ℕ → WebFault → Content → Type 0
Refuses old piece fault new = ByCause fault (Settles old piece fault new) (place_of new ≡ Refused OutOfMemory)

-- what one call over a piece answers and leaves
abbrev pub TakesPiece : Content → List ℕ → Result (ℕ × Option ContentEvent) WebFault → Content → Type 0
TakesPiece old piece (Ok answer) new = Gives old piece answer.0 answer.1 new
TakesPiece old piece (Err fault) new = Refuses old piece fault new

-- ---- parts of a call

-- a body of this kind ends with the connection
abbrev pub is_to_end : BodyKind → Bool
is_to_end (Length count) = false
is_to_end Chunks = false
is_to_end ToEnd = true

-- what a reader tells of an event of the frames
abbrev pub told_of : FrameEvent → ContentEvent
told_of (frame.Message message) = Message message
told_of (frame.Trailers trailers) = Trailers trailers

-- so many bytes of a piece were taken, at least one, and they told this event, if any, which the last of them completed
pub record RunTells (old : Content) (piece : List ℕ) (count : ℕ) (event : Option FrameEvent) (new : Content) : Type 0 where
  pub some : 0 < count
  pub takes : Takes old piece count new
  pub told : events_of old (take count piece) ≡ option_to_list event
  pub first : OnSome event (events_of old (take (count - 1) piece) ≡ [])
  pub goes_on : OnSome event ((fault : WebFault) → place_of new ≢ Refused fault)

abbrev pub TakesRun : Content → List ℕ → Result (ℕ × Option FrameEvent) WebFault → Content → Type 0
TakesRun old piece (Ok answer) new = RunTells old piece answer.0 answer.1 new
TakesRun old piece (Err fault) new = Refuses old piece fault new
