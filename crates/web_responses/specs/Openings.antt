-- What the head of a response says of the answer.
use Rattle.std.specs.Prelude.{◌≡◌, ℕ, List, Option, Some, None, Result, Ok, Err}
use Rattle.web_heads.specs.declared.fault.HeadFault.{HeadFault}
use Rattle.web_heads.specs.declared.response.ResponseHead.{ResponseHead}
use Rattle.web_heads.specs.Responses.{response_head}
use Rattle.web_head_reader.specs.declared.fault.HeadReadFault.{HeadReadFault}
use Rattle.web_head_reader.specs.declared.fault.HeadReadFault.TheVariants as read
use Rattle.web_frames.specs.declared.fault.FrameFault.{FrameFault}
use Rattle.web_frames.specs.declared.fault.FrameFault.TheVariants as frame
use Rattle.web_frames.specs.declared.status.Trailers.{Trailers}
use Rattle.web_frames.specs.Trailers.{trailers_of}
use Rattle.web_contents.specs.declared.fault.WebFault.{WebFault}
use Rattle.web_contents.specs.declared.fault.WebFault.TheVariants.{HeadTooLong, BadTrailer, OutOfMemory}
use Rattle.web_contents.specs.Faults.{fault_of_head, ByCause}
use Rattle.web_responses.specs.declared.opening.Opening.{Opening}

-- the fault of a head that isn't whole
abbrev pub fault_of_reading : HeadReadFault → WebFault
fault_of_reading read.HeadTooLong = HeadTooLong
fault_of_reading read.OutOfMemory = OutOfMemory

-- trailers that were read, or wrong ones
abbrev pub right_trailers : Option Trailers → Option (Option Trailers)
right_trailers None = None
right_trailers (Some trailers) = Some (Some trailers)

-- the trailers in a head by its grpc-status and grpc-message: none, these, or wrong ones
abbrev pub trailers_in_head : Option (List ℕ) → Option (List ℕ) → Option (Option Trailers)
trailers_in_head None message = Some None
trailers_in_head (Some status) message = right_trailers (trailers_of status message)

-- an answer with these trailers in its head, where they are right
abbrev pub opening_with : ResponseHead → Option (Option Trailers) → Result Opening WebFault
opening_with head None = Err BadTrailer
opening_with head (Some trailers) = Ok (record { status = head.status; body = head.body; trailers = trailers })

abbrev pub opening_of : Result ResponseHead HeadFault → Result Opening WebFault
opening_of (Ok head) = opening_with head (trailers_in_head head.grpc_status head.grpc_message)
opening_of (Err fault) = Err (fault_of_head fault)

-- what the bytes of a head say of the answer, or the first fault in them
unfoldable pub opening : List ℕ → Result Opening WebFault
opening head = opening_of (response_head head)

-- a call gave what the definition gives, unless memory ran out
abbrev pub Reads : Result Opening WebFault → Result Opening WebFault → Type 0
Reads (Ok found) expected = expected ≡ Ok found
Reads (Err fault) expected = ByCause fault (expected ≡ Err fault) (Unit {0})

-- a call gave the trailers of a head, unless memory ran out
abbrev pub ReadsTrailers : Result (Option Trailers) FrameFault → Option (Option Trailers) → Type 0
ReadsTrailers (Ok found) expected = expected ≡ Some found
ReadsTrailers (Err frame.BadTrailer) expected = expected ≡ None
ReadsTrailers (Err frame.OutOfMemory) expected = Unit {0}
ReadsTrailers (Err (frame.FrameTooLong count)) expected = ⊥
ReadsTrailers (Err frame.Compressed) expected = ⊥
ReadsTrailers (Err frame.AfterMessage) expected = ⊥
ReadsTrailers (Err frame.AfterTrailers) expected = ⊥
ReadsTrailers (Err frame.NoMessage) expected = ⊥
