-- Laws over the definitions, for all bytes.
use Rattle.std.specs.Prelude.{◌≡◌, ◌≢◌, ◌↔◌, ℕ, ◌⊎◌, true, List, [], ◌∷◌, ◌++◌, fold, Option, Ok, Err}
use Rattle.std.specs.List.{concat}
use Rattle.web_heads.specs.declared.body.BodyKind.{BodyKind}
use Rattle.web_heads.specs.declared.body.BodyKind.TheVariants.{ToEnd}
use Rattle.web_bodies.specs.Steps as bodies
use Rattle.web_frames.specs.declared.limits.Side.{Side}
use Rattle.web_frames.specs.declared.limits.Side.TheVariants.{Response}
use Rattle.web_frames.specs.declared.status.Trailers.{Trailers}
use Rattle.web_frames.specs.declared.event.FrameEvent.{FrameEvent}
use Rattle.web_frames.specs.Machine as frames
use Rattle.web_frames.specs.Standard.{IsBytes, Frames, events}
use Rattle.web_contents.specs.declared.fault.WebFault.{WebFault}
use Rattle.web_contents.specs.declared.fault.WebFault.TheVariants.{Truncated}
use Rattle.web_contents.specs.declared.place.ContentPlace.TheVariants.{Open, Over, Refused}
use Rattle.web_contents.specs.Contents.{Content, place_of, after, events_of, begin, finish}
use Rattle.web_contents.specs.Standard.{HasContent, BeginsContent, IsContentFault, HasContentFault}

-- the machine is that of bodies, and that of frames over the payload
pub record BytesAreParts : Type 0 where
  pub state : (c : Content) (bytes : List ℕ) → after c bytes
      ≡ record { body = bodies.after c.body bytes; frames = frames.after c.frames (bodies.payload_after c.body bytes) }
  pub told : (c : Content) (bytes : List ℕ) → events_of c bytes ≡ frames.events_of c.frames (bodies.payload_after c.body bytes)

-- the machine is within the body, over or refused exactly where the standard says that the bytes begin a content, have one, or have the
-- fault, after these messages and trailers, which are those that it tells
pub record ContentsAreRead : Type 0 where
  pub begun : (side : Side) (kind : BodyKind) (at : ℕ) (bytes : List ℕ) (messages : List (List ℕ)) (trailers : Option Trailers)
      → IsBytes bytes → BeginsContent side kind bytes messages trailers
      ↔ ((place_of (after (begin side kind at) bytes) ≡ Open) × (events_of (begin side kind at) bytes ≡ events messages trailers))
  pub whole : (side : Side) (kind : BodyKind) (at : ℕ) (bytes : List ℕ) (messages : List (List ℕ)) (trailers : Option Trailers)
      → IsBytes bytes → HasContent side kind bytes messages trailers
      ↔ ((place_of (after (begin side kind at) bytes) ≡ Over) × (events_of (begin side kind at) bytes ≡ events messages trailers))
  pub refused : (side : Side) (kind : BodyKind) (at : ℕ) (bytes : List ℕ) (messages : List (List ℕ)) (trailers : Option Trailers)
      (fault : WebFault) → IsBytes bytes → HasContentFault side kind at bytes messages trailers fault
      ↔ ((place_of (after (begin side kind at) bytes) ≡ Refused fault) × (events_of (begin side kind at) bytes ≡ events messages trailers))

-- bytes are exactly one of these: a beginning, a content with bytes after it, or a fault with bytes after it; each with one list of messages
-- and trailers, the fault with one end
pub record ContentsAreOne : Type 0 where
  pub some : (side : Side) (kind : BodyKind) (at : ℕ) (bytes : List ℕ) → IsBytes bytes →
      ((messages : List (List ℕ)) × (trailers : Option Trailers) × BeginsContent side kind bytes messages trailers)
      ⊎ (((messages : List (List ℕ)) × (trailers : Option Trailers) × HasContent side kind bytes messages trailers)
      ⊎ ((messages : List (List ℕ)) × (trailers : Option Trailers) × (fault : WebFault)
      × HasContentFault side kind at bytes messages trailers fault))
  pub begun_not_whole : (side : Side) (kind : BodyKind) (bytes : List ℕ) (messages others : List (List ℕ)) (trailers other : Option Trailers)
      → BeginsContent side kind bytes messages trailers → ¬ (HasContent side kind bytes others other)
  pub begun_not_refused : (side : Side) (kind : BodyKind) (at : ℕ) (bytes : List ℕ) (messages others : List (List ℕ))
      (trailers other : Option Trailers) (fault : WebFault)
      → BeginsContent side kind bytes messages trailers → ¬ (HasContentFault side kind at bytes others other fault)
  pub whole_not_refused : (side : Side) (kind : BodyKind) (at : ℕ) (bytes : List ℕ) (messages others : List (List ℕ))
      (trailers other : Option Trailers) (fault : WebFault)
      → HasContent side kind bytes messages trailers → ¬ (HasContentFault side kind at bytes others other fault)
  pub one_beginning : (side : Side) (kind : BodyKind) (bytes : List ℕ) (messages others : List (List ℕ)) (trailers other : Option Trailers)
      → BeginsContent side kind bytes messages trailers → BeginsContent side kind bytes others other
      → (messages ≡ others) × (trailers ≡ other)
  pub one_content : (side : Side) (kind : BodyKind) (bytes : List ℕ) (messages others : List (List ℕ)) (trailers other : Option Trailers)
      → HasContent side kind bytes messages trailers → HasContent side kind bytes others other
      → (messages ≡ others) × (trailers ≡ other)
  pub one_fault : (side : Side) (kind : BodyKind) (at : ℕ) (bytes : List ℕ) (messages others : List (List ℕ))
      (trailers other : Option Trailers) (fault wrong : WebFault)
      (first : HasContentFault side kind at bytes messages trailers fault) (second : HasContentFault side kind at bytes others other wrong)
      → (messages ≡ others) × (trailers ≡ other) × (fault ≡ wrong) × (first.settled ≡ second.settled)

-- a content and a fault end at the first byte where they can: fewer bytes are a beginning
pub record EndsAreFirst : Type 0 where
  pub whole : (side : Side) (kind : BodyKind) (bytes : List ℕ) (messages : List (List ℕ)) (trailers : Option Trailers)
      (found : HasContent side kind bytes messages trailers) (front : List ℕ) (b : ℕ) (back : List ℕ) → IsBytes front
      → found.body.body ≡ front ++ b ∷ back
      → (before : List (List ℕ)) × (earlier : Option Trailers) × BeginsContent side kind front before earlier
  pub refused : (side : Side) (kind : BodyKind) (at : ℕ) (front : List ℕ) (b : ℕ) (back : List ℕ) (messages : List (List ℕ))
      (trailers : Option Trailers) (fault : WebFault) → IsBytes front
      → IsContentFault side kind at (front ++ b ∷ back) messages trailers fault
      → (before : List (List ℕ)) × (earlier : Option Trailers) × BeginsContent side kind front before earlier

-- pieces one after another tell and leave what the joined bytes do; what is over or refused stays so, and tells nothing
abbrev pub events_of_pieces : Content → List (List ℕ) → List FrameEvent
events_of_pieces c [] = []
events_of_pieces c (piece ∷ pieces) = events_of c piece ++ events_of_pieces (after c piece) pieces

pub record PiecesJoin : Type 0 where
  pub state : (c : Content) (pieces : List (List ℕ)) → fold after c pieces ≡ after c (concat pieces)
  pub told : (c : Content) (pieces : List (List ℕ)) → events_of_pieces c pieces ≡ events_of c (concat pieces)
  pub two : (c : Content) (first second : List ℕ)
      → (after c (first ++ second) ≡ after (after c first) second)
      × (events_of c (first ++ second) ≡ events_of c first ++ events_of (after c first) second)
  pub ended : (c : Content) (bytes : List ℕ) → place_of c ≡ Over → (after c bytes ≡ c) × (events_of c bytes ≡ [])
  pub refused : (c : Content) (bytes : List ℕ) (fault : WebFault) → place_of c ≡ Refused fault
      → (place_of (after c bytes) ≡ Refused fault) × (events_of c bytes ≡ [])

-- where the connection ends within the body of a response: it is whole exactly where a body that ends with the connection has whole frames,
-- and a body of another kind is cut off
pub record ConnectionsEnd : Type 0 where
  pub whole : (bytes : List ℕ) (at : ℕ) (messages : List (List ℕ)) (trailers : Option Trailers)
      → Frames Response bytes messages trailers → finish (after (begin Response ToEnd at) bytes) ≡ Ok true
  pub only : (bytes : List ℕ) (at : ℕ) → IsBytes bytes → finish (after (begin Response ToEnd at) bytes) ≡ Ok true
      → (messages : List (List ℕ)) × (trailers : Option Trailers) × Frames Response bytes messages trailers
  pub cut_off : (side : Side) (kind : BodyKind) (at : ℕ) (bytes : List ℕ) (messages : List (List ℕ)) (trailers : Option Trailers)
      → kind ≢ ToEnd → BeginsContent side kind bytes messages trailers → finish (after (begin side kind at) bytes) ≡ Err Truncated
  pub refused : (side : Side) (kind : BodyKind) (at : ℕ) (bytes : List ℕ) (messages : List (List ℕ)) (trailers : Option Trailers)
      (fault : WebFault) → HasContentFault side kind at bytes messages trailers fault
      → finish (after (begin side kind at) bytes) ≡ Err fault
