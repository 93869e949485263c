-- Answers in the standard's words (RFC 9112; gRPC-Web protocol): a head up to the first empty line, and then a body whose payload is frames. A
-- head with a grpc-status has the trailers, and then the body has no payload.
use Rattle.std.specs.Prelude.{◌≡◌, ◌≢◌, ℕ, List, [], ◌∷◌, ◌++◌, length, map, Option, Some, None, Ok, Err}
use Rattle.std.specs.Option.{option_to_list}
use Rattle.web_heads.specs.declared.body.BodyKind.{BodyKind}
use Rattle.web_heads.specs.declared.body.BodyKind.TheVariants.{ToEnd}
use Rattle.web_heads.specs.declared.fault.HeadFault.{HeadFault}
use Rattle.web_heads.specs.declared.response.ResponseHead.{ResponseHead}
use Rattle.web_heads.specs.Standard.{ResponseSays}
use Rattle.web_head_reader.specs.Standard.{IsHead, IsTooLong}
use Rattle.web_head_reader.specs.Standard as heads
use Rattle.web_bodies.specs.declared.fault.BodyFault.{BodyFault}
use Rattle.web_bodies.specs.Standard.{HasBody, IsBodyFault}
use Rattle.web_bodies.specs.Standard as bodies
use Rattle.web_frames.specs.declared.limits.Side.TheVariants.{Response}
use Rattle.web_frames.specs.declared.status.Trailers.{Trailers}
use Rattle.web_frames.specs.Standard.{ValuesSay, Frames}
use Rattle.web_contents.specs.declared.fault.WebFault.{WebFault}
use Rattle.web_contents.specs.declared.fault.WebFault.TheVariants.{HeadTooLong, AfterTrailers, BadTrailer}
use Rattle.web_contents.specs.Faults.{fault_of_head, fault_of_body}
use Rattle.web_contents.specs.Standard.{HasContent, BeginsContent, HasPayload, IsContentFault}
use Rattle.web_responses.specs.declared.event.WebEvent.{WebEvent}
use Rattle.web_responses.specs.declared.event.WebEvent.TheVariants as event

-- ---- the head

-- the trailers in a head: a grpc-status and, where there is one, a grpc-message say them
abbrev pub TrailersInHead : ResponseHead → Option Trailers → Type 0
TrailersInHead r None = r.grpc_status ≡ None
TrailersInHead r (Some trailers) = (status : List ℕ) × (r.grpc_status ≡ Some status) × ValuesSay status r.grpc_message trailers

-- the bytes are a head that says this, and the bytes after it
pub record HasOpening (bytes head rest : List ℕ) (r : ResponseHead) (trailers : Option Trailers) : Type 0 where
  pub bytes_are : bytes ≡ head ++ rest
  pub is_head : IsHead head
  pub says : ResponseSays head (Ok r)
  pub in_head : TrailersInHead r trailers

-- ---- the body

-- the events of messages and trailers
abbrev pub frame_events : List (List ℕ) → Option Trailers → List WebEvent
frame_events messages trailers = map event.Message messages ++ map event.Trailers (option_to_list trailers)

-- a body and the events before its end: of its frames, or of the trailers in the head where it has no payload
abbrev pub IsWholeBody : Option Trailers → BodyKind → List ℕ → List WebEvent → Type 0
IsWholeBody None kind bytes told =
    (messages : List (List ℕ)) × (trailers : Option Trailers) × HasContent Response kind bytes messages trailers
    × (told ≡ frame_events messages trailers)
IsWholeBody (Some trailers) kind bytes told = HasBody kind bytes [] × (told ≡ event.Trailers trailers ∷ [])

-- a beginning of a body
abbrev pub IsBegunBody : Option Trailers → BodyKind → List ℕ → List WebEvent → Type 0
IsBegunBody None kind bytes told =
    (messages : List (List ℕ)) × (trailers : Option Trailers) × BeginsContent Response kind bytes messages trailers
    × (told ≡ frame_events messages trailers)
IsBegunBody (Some trailers) kind bytes told = bodies.IsBegun kind bytes [] × (told ≡ event.Trailers trailers ∷ [])

-- a fault of a body that may have no payload: its first byte of payload, or a fault of what frames it
pub data IsBareFault (kind : BodyKind) (at : ℕ) (bytes : List ℕ) (fault : WebFault) : Type 0 where
  bad_payload : (front : List ℕ) (last : ℕ) → bytes ≡ front ++ last ∷ [] → bodies.IsBegun kind front [] → HasPayload kind bytes (last ∷ [])
      → fault ≡ AfterTrailers → IsBareFault kind at bytes fault
  bad_framing : (found : BodyFault) → IsBodyFault kind at bytes [] found → fault ≡ fault_of_body found → IsBareFault kind at bytes fault

-- the bytes of a body, whose first stands at this place, are the fewest that settle the fault
abbrev pub IsFaultyBody : Option Trailers → BodyKind → ℕ → List ℕ → List WebEvent → WebFault → Type 0
IsFaultyBody None kind at bytes told fault =
    (messages : List (List ℕ)) × (trailers : Option Trailers) × IsContentFault Response kind at bytes messages trailers fault
    × (told ≡ frame_events messages trailers)
IsFaultyBody (Some trailers) kind at bytes told fault = IsBareFault kind at bytes fault × (told ≡ event.Trailers trailers ∷ [])

-- ---- answers

-- the bytes begin with an answer by length or in chunks, which has these events; the bytes after it say nothing
pub record HasAnswer (bytes : List ℕ) (told : List WebEvent) : Type 0 where
  pub head : List ℕ
  pub rest : List ℕ
  pub r : ResponseHead
  pub trailers : Option Trailers
  pub more : List WebEvent
  pub opening : HasOpening bytes head rest r trailers
  pub body : IsWholeBody trailers r.body rest more
  pub told_is : told ≡ event.Head r.status ∷ more ++ event.End ∷ []

-- a right head, and a beginning of its body
pub record BeginsBody (bytes : List ℕ) (told : List WebEvent) : Type 0 where
  pub head : List ℕ
  pub rest : List ℕ
  pub r : ResponseHead
  pub trailers : Option Trailers
  pub more : List WebEvent
  pub opening : HasOpening bytes head rest r trailers
  pub body : IsBegunBody trailers r.body rest more
  pub told_is : told ≡ event.Head r.status ∷ more

-- the bytes are a beginning of an answer, of which more may come, with these events so far
pub data BeginsAnswer (bytes : List ℕ) (told : List WebEvent) : Type 0 where
  within_head : heads.IsBegun bytes → told ≡ [] → BeginsAnswer bytes told
  within_body : BeginsBody bytes told → BeginsAnswer bytes told

-- ---- faults

-- a head whose grpc-status and grpc-message say no trailers
pub record HasBadTrailers (bytes : List ℕ) : Type 0 where
  pub r : ResponseHead
  pub status : List ℕ
  pub is_head : IsHead bytes
  pub says : ResponseSays bytes (Ok r)
  pub status_is : r.grpc_status ≡ Some status
  pub wrong : (trailers : Trailers) → ¬ (ValuesSay status r.grpc_message trailers)

-- a right head, and then a fault of the body
pub record HasFaultyBody (bytes : List ℕ) (told : List WebEvent) (fault : WebFault) : Type 0 where
  pub head : List ℕ
  pub rest : List ℕ
  pub r : ResponseHead
  pub trailers : Option Trailers
  pub more : List WebEvent
  pub opening : HasOpening bytes head rest r trailers
  pub body : IsFaultyBody trailers r.body (length head) rest more fault
  pub told_is : told ≡ event.Head r.status ∷ more

-- the bytes are the fewest that settle the fault, after these events; a fault of the head comes in place of its event
pub data IsAnswerFault (bytes : List ℕ) (told : List WebEvent) (fault : WebFault) : Type 0 where
  too_long : IsTooLong bytes → told ≡ [] → fault ≡ HeadTooLong → IsAnswerFault bytes told fault
  bad_head : (found : HeadFault) → IsHead bytes → ResponseSays bytes (Err found) → told ≡ [] → fault ≡ fault_of_head found
      → IsAnswerFault bytes told fault
  bad_trailers : HasBadTrailers bytes → told ≡ [] → fault ≡ BadTrailer → IsAnswerFault bytes told fault
  faulty_body : HasFaultyBody bytes told fault → IsAnswerFault bytes told fault

-- a beginning of the bytes settles the fault; the bytes after it say nothing
pub record HasAnswerFault (bytes : List ℕ) (told : List WebEvent) (fault : WebFault) : Type 0 where
  pub settled : List ℕ
  pub rest : List ℕ
  pub bytes_are : bytes ≡ settled ++ rest
  pub is_fault : IsAnswerFault settled told fault

-- ---- the end of the connection

-- a payload is whole: of whole frames, or of none where the head has the trailers
abbrev pub IsWholePayload : Option Trailers → List ℕ → Type 0
IsWholePayload None bytes = (messages : List (List ℕ)) × (trailers : Option Trailers) × Frames Response bytes messages trailers
IsWholePayload (Some trailers) bytes = bytes ≡ []

-- the bytes are a right head whose body ends with the connection, and a whole payload
pub record EndsWithConnection (bytes : List ℕ) : Type 0 where
  pub head : List ℕ
  pub rest : List ℕ
  pub r : ResponseHead
  pub trailers : Option Trailers
  pub opening : HasOpening bytes head rest r trailers
  pub to_end : r.body ≡ ToEnd
  pub frames : IsWholePayload trailers rest

-- the connection ended within a body by length or in chunks: a right head, and a beginning of such a body
pub record IsCutOff (bytes : List ℕ) : Type 0 where
  pub told : List WebEvent
  pub body : BeginsBody bytes told
  pub framed : body.r.body ≢ ToEnd
