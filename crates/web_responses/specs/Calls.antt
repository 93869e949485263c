-- What the calls of a reader of answers answer and leave, and what it holds between them.
use Rattle.std.specs.Prelude.{◌≡◌, ◌≢◌, ℕ, ◌+◌, ◌<◌, ◌≤◌, ◌⊎◌, Bool, true, false, List, [], ◌∷◌, ◌++◌, length, take, map, Option, IfNone, Result, Ok, Err}
use Rattle.std.specs.Option.{option_to_list}
use Rattle.web_heads.specs.declared.body.BodyKind.{BodyKind}
use Rattle.web_head_reader.specs.declared.place.HeadPlace.TheVariants as head
use Rattle.web_head_reader.specs.Steps.{HeadState}
use Rattle.web_head_reader.specs.Steps as heads
use Rattle.web_bodies.specs.Steps as bodies
use Rattle.web_frames.specs.declared.limits.Side.TheVariants.{Response}
use Rattle.web_frames.specs.declared.fault.FrameFault.TheVariants as frame
use Rattle.web_frames.specs.declared.status.Trailers.{Trailers}
use Rattle.web_frames.specs.Machine.{FrameState, refused_at}
use Rattle.web_contents.specs.declared.fault.WebFault.{WebFault}
use Rattle.web_contents.specs.declared.fault.WebFault.TheVariants.{OutOfMemory}
use Rattle.web_contents.specs.declared.place.ContentPlace.TheVariants.{Open, Refused}
use Rattle.web_contents.specs.Faults.{ByCause}
use Rattle.web_contents.specs.Contents.{Content, place_of}
use Rattle.web_contents.specs.Contents as contents
use Rattle.web_responses.specs.declared.event.WebEvent.{WebEvent}
use Rattle.web_responses.specs.declared.event.WebEvent.TheVariants as event
use Rattle.web_responses.specs.declared.reader.Stage.{Stage}
use Rattle.web_responses.specs.declared.reader.Stage.TheVariants as stage
use Rattle.web_responses.specs.Answers.{AnswerState, in_head, in_body, bad_head, no_frames, after, events_of, standing}

-- ---- what a reader holds

-- the frames of a body that may have no payload: the trailers have come, and after them none or a byte of payload
abbrev pub bare_frames : Bool → FrameState
bare_frames false = no_frames
bare_frames true = refused_at Response frame.AfterTrailers

-- such a body before its first byte
abbrev pub begin_bare : BodyKind → ℕ → Content
begin_bare kind at = record { body = bodies.begin kind at; frames = no_frames }

-- a body of one sort or the other
abbrev pub content_of : Bool → Content → Content → Content
content_of true bare frames = bare
content_of false bare frames = frames

abbrev pub begin_of : Bool → BodyKind → ℕ → Content
begin_of true kind at = begin_bare kind at
begin_of false kind at = contents.begin Response kind at

-- what has come of an answer, by its stage; a refused answer is left as one whose head is refused, whatever refused it
abbrev pub state_of : Stage → HeadState → Content → AnswerState
state_of stage.Head h body = in_head h
state_of stage.Body h body = in_body body
state_of (stage.Refused fault) h body = bad_head fault

-- the end of the body is still to be told
abbrev pub end_due : Bool → List WebEvent
end_due true = event.End ∷ []
end_due false = []

-- the trailers of the head, and the end of the body, that are still to be told
abbrev pub due_of : Option Trailers → Bool → List WebEvent
due_of trailers ends = map event.Trailers (option_to_list trailers) ++ end_due ends

-- a reader is within the head, or behind it
abbrev pub IsHead : AnswerState → Type 0
IsHead (in_head h) = Unit {0}
IsHead (in_body c) = ⊥
IsHead (bad_head fault) = ⊥

abbrev pub IsBody : AnswerState → Type 0
IsBody (in_head h) = ⊥
IsBody (in_body c) = Unit {0}
IsBody (bad_head fault) = ⊥

-- a reader of answers: what has come, the events that have come and are still to be told, and how many bytes were taken
pub record Reader : Type 0 where
  pub state : AnswerState
  pub due : List WebEvent
  pub count : ℕ

-- what holds between calls: a head that isn't whole, or a body that isn't refused, and no part has counted more bytes than the reader
abbrev pub Holds : Stage → HeadState → Content → ℕ → Type 0
Holds stage.Head h c count = (h.place ≡ head.Open) × (length h.held ≤ count)
Holds stage.Body h c count = ((fault : WebFault) → place_of c ≢ Refused fault) × (c.body.count ≤ count)
Holds (stage.Refused fault) h c count = Unit {0}

-- before the first byte
abbrev pub begin : Reader
begin = record { state = in_head heads.begin; due = []; count = 0 }

-- ---- one call

-- so many bytes of a piece were taken, up to the next event, which was told, or all of them: what was due and what the bytes told is what was
-- told now and what is due now, and fewer bytes would have told nothing
pub record Feeds (old : Reader) (piece : List ℕ) (count : ℕ) (told : Option WebEvent) (new : Reader) : Type 0 where
  pub within : count ≤ length piece
  pub state : new.state ≡ after old.state (take count piece)
  pub events : old.due ++ events_of old.state (take count piece) ≡ option_to_list told ++ new.due
  pub first : (fewer : ℕ) → fewer < count → old.due ++ events_of old.state (take fewer piece) ≡ []
  pub all : IfNone told (count ≡ length piece)
  pub counted : new.count ≡ old.count + count

-- the bytes of a piece settle this fault, or it was settled before, and no event is left to be told
pub record Settles (old : Reader) (piece : List ℕ) (fault : WebFault) (new : Reader) : Type 0 where
  pub settled : standing (after old.state piece) ≡ Refused fault
  pub silent : old.due ++ events_of old.state piece ≡ []
  pub refused : standing new.state ≡ Refused fault
  pub none_due : new.due ≡ []
  pub counted : new.count ≤ old.count + length piece

-- memory ran out within the answer, now or before, when no event was left to be told; it is refused from now on
pub record RunsOut (old : Reader) (piece : List ℕ) (new : Reader) : Type 0 where
  pub none_was_due : old.due ≡ []
  pub was_open : (standing old.state ≡ Open) ⊎ (standing old.state ≡ Refused OutOfMemory)
  pub refused : standing new.state ≡ Refused OutOfMemory
  pub none_due : new.due ≡ []
  pub counted : new.count ≤ old.count + length piece

-- the piece is refused: for its bytes, or for want of memory, which says nothing of them
abbrev pub Refuses : Reader → List ℕ → WebFault → Reader → Type 0
Refuses old piece fault new = ByCause fault (Settles old piece fault new) (RunsOut old piece new)

abbrev pub FeedsPiece : Reader → List ℕ → Result (ℕ × Option WebEvent) WebFault → Reader → Type 0
FeedsPiece old piece (Ok answer) new = Feeds old piece answer.0 answer.1 new
FeedsPiece old piece (Err fault) new = Refuses old piece fault new
