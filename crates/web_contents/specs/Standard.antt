-- Contents in the standard's words (RFC 9112, sections 6 and 7; gRPC-Web protocol, "Message framing"): which bytes are a body whose payload is
-- frames, which are a beginning of one, and which settle a fault.
use Rattle.std.specs.Prelude.{◌≡◌, ◌≢◌, ℕ, ◌⊎◌, List, [], ◌∷◌, ◌++◌, length, Option, None, ⊤}
use Rattle.web_heads.specs.declared.body.BodyKind.{BodyKind}
use Rattle.web_heads.specs.declared.body.BodyKind.TheVariants.{ToEnd}
use Rattle.web_bodies.specs.declared.fault.BodyFault.{BodyFault}
use Rattle.web_bodies.specs.Standard.{IsBody, HasBody, IsBodyFault}
use Rattle.web_bodies.specs.Standard as body
use Rattle.web_frames.specs.declared.limits.Side.{Side}
use Rattle.web_frames.specs.declared.limits.Side.TheVariants.{Request, Response}
use Rattle.web_frames.specs.declared.fault.FrameFault.{FrameFault}
use Rattle.web_frames.specs.declared.status.Trailers.{Trailers}
use Rattle.web_frames.specs.Standard.{Frames, GoesOn, IsFault}
use Rattle.web_frames.specs.Standard as frame
use Rattle.web_contents.specs.declared.fault.WebFault.{WebFault}
use Rattle.web_contents.specs.Faults.{fault_of_body, fault_of_frames, unfinished}

-- ---- whole bodies

-- the body of a request has its message; one of a response may have none
abbrev pub HasEnough : Side → List (List ℕ) → Type 0
HasEnough Request messages = length messages ≡ 1
HasEnough Response messages = ⊤

-- the bytes begin with a body of the kind, whose payload is the frames of these messages and trailers; the bytes after it say nothing
pub record HasContent (side : Side) (kind : BodyKind) (bytes : List ℕ) (messages : List (List ℕ)) (trailers : Option Trailers) : Type 0 where
  pub payload : List ℕ
  pub body : HasBody kind bytes payload
  pub frames : Frames side payload messages trailers
  pub enough : HasEnough side messages

-- ---- bodies of which more may come

-- frames, and then a beginning of one more that isn't the whole
pub record AreCutOff (side : Side) (payload : List ℕ) (messages : List (List ℕ)) (trailers : Option Trailers) : Type 0 where
  pub front : List ℕ
  pub part : List ℕ
  pub payload_is : payload ≡ front ++ part
  pub goes_on : GoesOn side front messages
  pub none : trailers ≡ None
  pub some : part ≢ []
  pub begun : frame.IsBegun side part

-- frames, and after them nothing or a beginning of one more
abbrev pub AreFrames : Side → List ℕ → List (List ℕ) → Option Trailers → Type 0
AreFrames side payload messages trailers = Frames side payload messages trailers ⊎ AreCutOff side payload messages trailers

-- the bytes are a beginning of a body of the kind, of which more may come, and its payload so far has no fault
pub record BeginsContent (side : Side) (kind : BodyKind) (bytes : List ℕ) (messages : List (List ℕ)) (trailers : Option Trailers) : Type 0 where
  pub payload : List ℕ
  pub body : body.IsBegun kind bytes payload
  pub frames : AreFrames side payload messages trailers

-- ---- faults

-- the payload that the bytes have, a beginning of a body or a body
abbrev pub HasPayload : BodyKind → List ℕ → List ℕ → Type 0
HasPayload kind bytes payload = body.IsBegun kind bytes payload ⊎ HasBody kind bytes payload

-- the last of the bytes is one of the payload, of which it settles a fault
pub record HasBadFrames (side : Side) (kind : BodyKind) (bytes : List ℕ) (messages : List (List ℕ)) (trailers : Option Trailers)
    (fault : WebFault) : Type 0 where
  pub front : List ℕ
  pub last : ℕ
  pub part : List ℕ
  pub found : FrameFault
  pub bytes_are : bytes ≡ front ++ last ∷ []
  pub before : body.IsBegun kind front part
  pub payload : HasPayload kind bytes (part ++ last ∷ [])
  pub settled : IsFault side (part ++ last ∷ []) messages trailers found
  pub fault_is : fault ≡ fault_of_frames found

-- the bytes settle a fault of what frames the body, and its payload before that has none
pub record HasBadBody (side : Side) (kind : BodyKind) (at : ℕ) (bytes : List ℕ) (messages : List (List ℕ)) (trailers : Option Trailers)
    (fault : WebFault) : Type 0 where
  pub payload : List ℕ
  pub found : BodyFault
  pub settled : IsBodyFault kind at bytes payload found
  pub frames : AreFrames side payload messages trailers
  pub fault_is : fault ≡ fault_of_body found

-- a payload breaks off within a frame, or that of a request before its message
abbrev pub BreaksOff : Side → List ℕ → List (List ℕ) → Option Trailers → Type 0
BreaksOff Request payload messages trailers = AreFrames Request payload messages trailers × (messages ≡ [])
BreaksOff Response payload messages trailers = AreCutOff Response payload messages trailers

-- the bytes are a body that ends before its frames are whole. A body in chunks is judged at its end, the empty line behind the trailer section,
-- and not at the last chunk line, though nothing of the payload can come between the two
pub record IsUnfinished (side : Side) (kind : BodyKind) (bytes : List ℕ) (messages : List (List ℕ)) (trailers : Option Trailers)
    (fault : WebFault) : Type 0 where
  pub payload : List ℕ
  pub framed : kind ≢ ToEnd
  pub body : IsBody kind bytes payload
  pub frames : BreaksOff side payload messages trailers
  pub fault_is : fault ≡ unfinished side

-- the bytes, whose first stands at this place of the connection, are the fewest that settle the fault, after these messages and trailers
pub data IsContentFault (side : Side) (kind : BodyKind) (at : ℕ) (bytes : List ℕ) (messages : List (List ℕ)) (trailers : Option Trailers)
    (fault : WebFault) : Type 0 where
  bad_frames : HasBadFrames side kind bytes messages trailers fault → IsContentFault side kind at bytes messages trailers fault
  bad_body : HasBadBody side kind at bytes messages trailers fault → IsContentFault side kind at bytes messages trailers fault
  unfinished_frames : IsUnfinished side kind bytes messages trailers fault → IsContentFault side kind at bytes messages trailers fault

-- a beginning of the bytes settles the fault; the bytes after it say nothing
pub record HasContentFault (side : Side) (kind : BodyKind) (at : ℕ) (bytes : List ℕ) (messages : List (List ℕ)) (trailers : Option Trailers)
    (fault : WebFault) : Type 0 where
  pub settled : List ℕ
  pub rest : List ℕ
  pub bytes_are : bytes ≡ settled ++ rest
  pub is_fault : IsContentFault side kind at settled messages trailers fault
