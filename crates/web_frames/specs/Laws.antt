-- Laws over the definitions, for all bytes.
use Rattle.std.specs.Prelude.{◌≡◌, ◌≢◌, ℕ, ◌^◌, ◌<◌, ◌≤◌, true, List, [], ◌∷◌, ◌++◌, length, Option, Some, None, IsUtf8}
use Rattle.std.specs.List.{concat}
use Rattle.web_frames.specs.declared.limits.Side.{Side}
use Rattle.web_frames.specs.declared.limits.Side.TheVariants.{Request, Response}
use Rattle.web_frames.specs.declared.fault.FrameFault.{FrameFault}
use Rattle.web_frames.specs.declared.status.Trailers.{Trailers}
use Rattle.web_frames.specs.declared.event.FrameEvent.{FrameEvent}
use Rattle.web_frames.specs.declared.event.FrameEvent.TheVariants as event
use Rattle.web_frames.specs.declared.state.FramePlace.TheVariants.{Refused}
use Rattle.web_frames.specs.Lines.{space}
use Rattle.web_frames.specs.Trailers.{trailers_of, trailers_in, trailers_text}
use Rattle.web_frames.specs.Machine.{frame_limit, frame, FrameState, begin, after, events_of, after_pieces, events_of_pieces, is_between, is_whole}
use Rattle.web_frames.specs.Standard.{IsBytes, ValuesSay, TrailersSay, Frames, IsFault, IsRefused, Reads, events}

-- the trailers that are read of a payload, and of two values, are those that they say, and they say no others
pub record TrailersAreRead : Type 0 where
  pub given : (payload : List ℕ) (trailers : Trailers) → trailers_in payload ≡ Some trailers → TrailersSay payload trailers
  pub only : (payload : List ℕ) (trailers : Trailers) → TrailersSay payload trailers → trailers_in payload ≡ Some trailers
  pub values_given : (status : List ℕ) (message : Option (List ℕ)) (trailers : Trailers) → trailers_of status message ≡ Some trailers
      → ValuesSay status message trailers
  pub values_only : (status : List ℕ) (message : Option (List ℕ)) (trailers : Trailers) → ValuesSay status message trailers
      → trailers_of status message ≡ Some trailers

-- a text does not begin with a space
abbrev pub HasNoSpaceFirst : List ℕ → Type 0
HasNoSpaceFirst text = (rest : List ℕ) → text ≢ space ∷ rest

-- what is written of trailers is read as these trailers
abbrev pub WrittenTrailersAreRead : Type 0
WrittenTrailersAreRead = (trailers : Trailers) → trailers.status < 2 ^ 32 → IsUtf8 trailers.message → HasNoSpaceFirst trailers.message
    → TrailersSay (trailers_text trailers) trailers × (trailers_in (trailers_text trailers) ≡ Some trailers)

-- where a reader stands and what it has told is what the bytes say, and they say nothing else
pub record FramesAreRead : Type 0 where
  pub given : (side : Side) (bytes : List ℕ) → IsBytes bytes → Reads side bytes (events_of (begin side) bytes) (after (begin side) bytes)
  pub only : (side : Side) (bytes : List ℕ) (told : List FrameEvent) (state : FrameState) → Reads side bytes told state
      → (events_of (begin side) bytes ≡ told) × (after (begin side) bytes ≡ state)

-- a payload of whole frames has one list of messages and trailers, those that a reader tells, which then stands between frames; and where
-- it stands so, the payload is of whole frames
pub record WholeFramesAreRead : Type 0 where
  pub told : (side : Side) (bytes : List ℕ) (messages : List (List ℕ)) (trailers : Option Trailers) → Frames side bytes messages trailers
      → (events_of (begin side) bytes ≡ events messages trailers) × (is_between (after (begin side) bytes) ≡ true)
  pub whole : (side : Side) (bytes : List ℕ) → IsBytes bytes → is_between (after (begin side) bytes) ≡ true
      → (messages : List (List ℕ)) × (trailers : Option Trailers) × Frames side bytes messages trailers
  pub one : (side : Side) (bytes : List ℕ) (messages others : List (List ℕ)) (trailers other : Option Trailers)
      → Frames side bytes messages trailers → Frames side bytes others other → (messages ≡ others) × (trailers ≡ other)

-- a reader is refused exactly where a prefix settles the fault; no shorter prefix settles one, and no other fault is settled by it
pub record FaultsAreRead : Type 0 where
  pub refused : (side : Side) (bytes : List ℕ) (fault : FrameFault) → IsBytes bytes → (after (begin side) bytes).place ≡ Refused fault
      → (messages : List (List ℕ)) × (trailers : Option Trailers) × IsRefused side bytes messages trailers fault
      × (events_of (begin side) bytes ≡ events messages trailers)
  pub settled : (side : Side) (bytes : List ℕ) (messages : List (List ℕ)) (trailers : Option Trailers) (fault : FrameFault)
      → IsRefused side bytes messages trailers fault
      → ((after (begin side) bytes).place ≡ Refused fault) × (events_of (begin side) bytes ≡ events messages trailers)
  pub shortest : (side : Side) (front back : List ℕ) (messages others : List (List ℕ)) (trailers other : Option Trailers) (fault first : FrameFault)
      → IsFault side (front ++ back) messages trailers fault → IsFault side front others other first → back ≡ []
  pub one : (side : Side) (bytes : List ℕ) (messages others : List (List ℕ)) (trailers other : Option Trailers) (fault second : FrameFault)
      → IsFault side bytes messages trailers fault → IsFault side bytes others other second → fault ≡ second

-- a request whose message is there is one message frame, and every message frame within the limit is such a request
pub record RequestsAreRead : Type 0 where
  pub whole : (bytes : List ℕ) → IsBytes bytes → is_whole (after (begin Request) bytes) ≡ true
      → (message : List ℕ) × Frames Request bytes (message ∷ []) None × (events_of (begin Request) bytes ≡ event.Message message ∷ [])
  pub told : (bytes message : List ℕ) → Frames Request bytes (message ∷ []) None → is_whole (after (begin Request) bytes) ≡ true

-- the frame that is written of a message is read as that message, and what follows it goes on
pub record WrittenFramesAreRead : Type 0 where
  pub request : (message : List ℕ) → length message ≤ frame_limit Request
      → Frames Request (frame 0 message) (message ∷ []) None
  pub message : (message rest : List ℕ) → length message ≤ frame_limit Response
      → (events_of (begin Response) (frame 0 message ++ rest) ≡ event.Message message ∷ events_of (begin Response) rest)
      × (after (begin Response) (frame 0 message ++ rest) ≡ after (begin Response) rest)
  pub trailers : (payload : List ℕ) (trailers : Trailers) → TrailersSay payload trailers → length payload ≤ frame_limit Response
      → Frames Response (frame 128 payload) [] (Some trailers)

-- pieces one after another leave and tell what their bytes joined do
pub record PiecesJoin : Type 0 where
  pub states : (state : FrameState) (pieces : List (List ℕ)) → after_pieces state pieces ≡ after state (concat pieces)
  pub told : (state : FrameState) (pieces : List (List ℕ)) → events_of_pieces state pieces ≡ events_of state (concat pieces)
  pub two : (state : FrameState) (first second : List ℕ)
      → (after state (first ++ second) ≡ after (after state first) second)
      × (events_of state (first ++ second) ≡ events_of state first ++ events_of (after state first) second)
