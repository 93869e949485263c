-- A request as a machine over the bytes of its connection: a head up to its first empty line (RFC 9112, section 2.1), and a body whose payload
-- is one frame (gRPC-Web protocol, "Message framing").
use Rattle.std.specs.Prelude.{ℕ, Bool, true, false, List, [], ◌∷◌, length, fold, Result, Ok, Err}
use Rattle.web_heads.specs.declared.fault.HeadFault.{HeadFault}
use Rattle.web_heads.specs.declared.request.RequestHead.{RequestHead}
use Rattle.web_heads.specs.Requests.{request_head}
use Rattle.web_head_reader.specs.declared.fault.HeadReadFault.{HeadReadFault}
use Rattle.web_head_reader.specs.declared.fault.HeadReadFault.TheVariants as reading
use Rattle.web_head_reader.specs.declared.place.HeadPlace.{HeadPlace}
use Rattle.web_head_reader.specs.declared.place.HeadPlace.TheVariants as head
use Rattle.web_head_reader.specs.Steps.{HeadState, head_step}
use Rattle.web_frames.specs.declared.limits.Side.TheVariants.{Request}
use Rattle.web_frames.specs.declared.event.FrameEvent.{FrameEvent}
use Rattle.web_frames.specs.declared.event.FrameEvent.TheVariants as event
use Rattle.web_contents.specs.declared.fault.WebFault.{WebFault}
use Rattle.web_contents.specs.declared.fault.WebFault.TheVariants.{HeadTooLong, Truncated, OutOfMemory}
use Rattle.web_contents.specs.declared.place.ContentPlace.{ContentPlace}
use Rattle.web_contents.specs.declared.place.ContentPlace.TheVariants as content
use Rattle.web_contents.specs.Faults.{fault_of_head}
use Rattle.web_contents.specs.Contents.{Content, place_of, content_step, content_events}
use Rattle.web_contents.specs.Contents as contents

-- what has come of a request
pub data RequestState : Type 0 where
  -- these bytes of its head
  heading : (held : List ℕ) → RequestState
  -- the head, with this path, the message, where it has come, and these contents of the body, of which more has to come
  within : (path message : List ℕ) (c : Content) → RequestState
  -- all of it
  whole : (path message : List ℕ) → RequestState
  -- the byte that settles a fault
  refused : (fault : WebFault) → RequestState

-- the fault of a head that comes in pieces
abbrev pub fault_of_reading : HeadReadFault → WebFault
fault_of_reading reading.HeadTooLong = HeadTooLong
fault_of_reading reading.OutOfMemory = OutOfMemory

-- the message after frames told this
abbrev pub message_after : List ℕ → List FrameEvent → List ℕ
message_after message [] = message
message_after message (event.Message payload ∷ events) = message_after payload events
message_after message (event.Trailers trailers ∷ events) = message_after message events

-- within or after a body with these contents, by where its reader stands
abbrev pub state_at : ContentPlace → List ℕ → List ℕ → Content → RequestState
state_at content.Open path message c = within path message c
state_at content.Over path message c = whole path message
state_at (content.Refused fault) path message c = refused fault

abbrev pub state_of : List ℕ → List ℕ → Content → RequestState
state_of path message c = state_at (place_of c) path message c

-- after a whole head of so many bytes, by what it says
abbrev pub after_head : ℕ → Result RequestHead HeadFault → RequestState
after_head count (Ok head) = state_of head.path [] (contents.begin Request head.body count)
after_head count (Err fault) = refused (fault_of_head fault)

-- after bytes of a head, by where its reader stands
abbrev pub heading_at : HeadPlace → List ℕ → RequestState
heading_at head.Open held = heading held
heading_at head.Whole held = after_head (length held) (request_head held)
heading_at (head.Refused fault) held = refused (fault_of_reading fault)

abbrev pub heading_of : HeadState → RequestState
heading_of s = heading_at s.place s.held

-- one byte more; bytes after a request that is whole or refused change nothing
unfoldable pub request_step : RequestState → ℕ → RequestState
request_step (heading held) b = heading_of (head_step (record { place = head.Open; held = held }) b)
request_step (within path message c) b = state_of path (message_after message (content_events c b)) (content_step c b)
request_step (whole path message) b = whole path message
request_step (refused fault) b = refused fault

-- before the first byte of a connection
abbrev pub begin : RequestState
begin = heading []

-- after these bytes
unfoldable pub after : RequestState → List ℕ → RequestState
after s bytes = fold request_step s bytes

-- ---- what bytes say

-- a request of which more has to come, a whole one, or one that is refused
pub data RequestReading : Type 0 where
  more : RequestReading
  read : (path message : List ℕ) → RequestReading
  faulty : (fault : WebFault) → RequestReading

abbrev pub reading_of : RequestState → RequestReading
reading_of (heading held) = more
reading_of (within path message c) = more
reading_of (whole path message) = read path message
reading_of (refused fault) = faulty fault

-- what the bytes of a connection say of the request that it brings
unfoldable pub request_in : List ℕ → RequestReading
request_in bytes = reading_of (after begin bytes)

-- what the end of the connection makes of a request that isn't whole
abbrev pub cut_off : RequestState → WebFault
cut_off (heading held) = Truncated
cut_off (within path message c) = Truncated
cut_off (whole path message) = Truncated
cut_off (refused fault) = fault

abbrev pub is_whole : RequestState → Bool
is_whole (heading held) = false
is_whole (within path message c) = false
is_whole (whole path message) = true
is_whole (refused fault) = false
