-- The faults of a connection by the faults of its parts, and what a refusal says by its cause.
use Rattle.web_heads.specs.declared.fault.HeadFault.{HeadFault}
use Rattle.web_heads.specs.declared.fault.HeadFault.TheVariants as head
use Rattle.web_bodies.specs.declared.fault.BodyFault.{BodyFault}
use Rattle.web_bodies.specs.declared.fault.BodyFault.TheVariants as body
use Rattle.web_frames.specs.declared.limits.Side.{Side}
use Rattle.web_frames.specs.declared.limits.Side.TheVariants.{Request, Response}
use Rattle.web_frames.specs.declared.fault.FrameFault.{FrameFault}
use Rattle.web_frames.specs.declared.fault.FrameFault.TheVariants as frame
use Rattle.web_contents.specs.declared.fault.WebFault.{WebFault}
use Rattle.web_contents.specs.declared.fault.WebFault.TheVariants.{HeadTooLong, TooManyHeaders, BadHead, BadMethod, BadType, BadLength, BadChunk, FrameTooLong, Compressed, AfterMessage, NoMessage, AfterTrailers, BadTrailer, Truncated, OutOfMemory}

-- the fault of a head
abbrev pub fault_of_head : HeadFault → WebFault
fault_of_head head.TooManyHeaders = TooManyHeaders
fault_of_head head.BadHead = BadHead
fault_of_head head.BadMethod = BadMethod
fault_of_head head.BadType = BadType
fault_of_head head.BadLength = BadLength
fault_of_head head.OutOfMemory = OutOfMemory

-- the fault of what frames a body
abbrev pub fault_of_body : BodyFault → WebFault
fault_of_body (body.BadChunk at) = BadChunk at
fault_of_body body.HeadTooLong = HeadTooLong
fault_of_body body.OutOfMemory = OutOfMemory

-- the fault of the frames in a body
abbrev pub fault_of_frames : FrameFault → WebFault
fault_of_frames (frame.FrameTooLong count) = FrameTooLong count
fault_of_frames frame.Compressed = Compressed
fault_of_frames frame.AfterMessage = AfterMessage
fault_of_frames frame.NoMessage = NoMessage
fault_of_frames frame.AfterTrailers = AfterTrailers
fault_of_frames frame.BadTrailer = BadTrailer
fault_of_frames frame.OutOfMemory = OutOfMemory

-- the fault of a body that ends before its frames are whole
abbrev pub unfinished : Side → WebFault
unfinished Request = NoMessage
unfinished Response = Truncated

-- what a refusal says, by its cause: the first of the bytes, where they settle the fault; the second of want of memory, which says nothing of them
abbrev pub ByCause : WebFault → Type 0 → Type 0 → Type 0
ByCause HeadTooLong settled spent = settled
ByCause TooManyHeaders settled spent = settled
ByCause BadHead settled spent = settled
ByCause BadMethod settled spent = settled
ByCause BadType settled spent = settled
ByCause BadLength settled spent = settled
ByCause (BadChunk at) settled spent = settled
ByCause (FrameTooLong count) settled spent = settled
ByCause Compressed settled spent = settled
ByCause AfterMessage settled spent = settled
ByCause NoMessage settled spent = settled
ByCause AfterTrailers settled spent = settled
ByCause BadTrailer settled spent = settled
ByCause Truncated settled spent = settled
ByCause OutOfMemory settled spent = spent
