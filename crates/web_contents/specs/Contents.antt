-- A body whose payload is frames, as a machine over its bytes: a byte that is payload goes on to the frames (RFC 9112, sections 6 and 7;
-- gRPC-Web protocol, "Message framing").
use Rattle.std.specs.Prelude.{ℕ, Bool, true, false, if◌then◌else◌, List, [], ◌∷◌, ◌++◌, fold, Result, Ok, Err}
use Rattle.web_heads.specs.declared.body.BodyKind.{BodyKind}
use Rattle.web_bodies.specs.declared.place.BodyPlace.{BodyPlace}
use Rattle.web_bodies.specs.declared.place.BodyPlace.TheVariants as body
use Rattle.web_bodies.specs.Body.{Body}
use Rattle.web_bodies.specs.Steps as bodies
use Rattle.web_frames.specs.declared.limits.Side.{Side}
use Rattle.web_frames.specs.declared.limits.Side.TheVariants.{Request, Response}
use Rattle.web_frames.specs.declared.event.FrameEvent.{FrameEvent}
use Rattle.web_frames.specs.declared.state.FramePlace.{FramePlace}
use Rattle.web_frames.specs.declared.state.FramePlace.TheVariants as frame
use Rattle.web_frames.specs.Machine.{FrameState, is_between, is_whole}
use Rattle.web_frames.specs.Machine as frames
use Rattle.web_contents.specs.declared.fault.WebFault.{WebFault}
use Rattle.web_contents.specs.declared.fault.WebFault.TheVariants.{Truncated}
use Rattle.web_contents.specs.declared.place.ContentPlace.{ContentPlace}
use Rattle.web_contents.specs.declared.place.ContentPlace.TheVariants.{Open, Over, Refused}
use Rattle.web_contents.specs.Faults.{fault_of_body, fault_of_frames, unfinished}

-- what has come of a body, and of the frames in it
pub record Content : Type 0 where
  pub body : Body
  pub frames : FrameState

-- a body may end here: its one message has come, or no frame has begun that isn't whole
abbrev pub is_complete_for : Side → FrameState → Bool
is_complete_for Request s = is_whole s
is_complete_for Response s = is_between s

abbrev pub is_complete : FrameState → Bool
is_complete s = is_complete_for s.side s

-- where a body that is over leaves its reader
abbrev pub place_at_end : FrameState → ContentPlace
place_at_end s = if is_complete s then Over else Refused (unfinished s.side)

-- where the reader stands by the place of the body, where the frames have no fault
abbrev pub place_by_body : BodyPlace → FrameState → ContentPlace
place_by_body (body.DataByLength left) s = Open
place_by_body body.DataToEnd s = Open
place_by_body (body.ChunkLine at) s = Open
place_by_body (body.ChunkData left) s = Open
place_by_body body.ChunkCr s = Open
place_by_body (body.ChunkLf at) s = Open
place_by_body (body.Trailers count line) s = Open
place_by_body body.Over s = place_at_end s
place_by_body (body.Refused fault) s = Refused (fault_of_body fault)

-- a fault of the frames comes first: once there is one in the body, no payload comes any more
abbrev pub place_by : FramePlace → BodyPlace → FrameState → ContentPlace
place_by frame.Open place s = place_by_body place s
place_by frame.Whole place s = place_by_body place s
place_by frame.Over place s = place_by_body place s
place_by (frame.Refused fault) place s = Refused (fault_of_frames fault)

-- where the reader stands
unfoldable pub place_of : Content → ContentPlace
place_of c = place_by c.frames.place c.body.place c.frames

-- one byte of the body: one of payload goes on to the frames
unfoldable pub content_step : Content → ℕ → Content
content_step c b = record { body = bodies.body_step c.body b; frames = frames.after c.frames (bodies.emitted c.body b) }

-- the messages and trailers that one byte more completes, of which there is one at most
unfoldable pub content_events : Content → ℕ → List FrameEvent
content_events c b = frames.events_of c.frames (bodies.emitted c.body b)

-- after these bytes, and the messages and trailers that they told
unfoldable pub after : Content → List ℕ → Content
after c bytes = fold content_step c bytes

unfoldable pub events_of : Content → List ℕ → List FrameEvent
events_of c [] = []
events_of c (b ∷ bytes) = content_events c b ++ events_of (content_step c b) bytes

-- before the first byte of a body of this side and kind, which is this byte of the connection
abbrev pub begin : Side → BodyKind → ℕ → Content
begin side kind at = record { body = bodies.begin kind at; frames = frames.begin side }

-- ---- the end of the connection

-- the body ends with the connection
abbrev pub ends_with_connection : BodyPlace → Bool
ends_with_connection (body.DataByLength left) = false
ends_with_connection body.DataToEnd = true
ends_with_connection (body.ChunkLine at) = false
ends_with_connection (body.ChunkData left) = false
ends_with_connection body.ChunkCr = false
ends_with_connection (body.ChunkLf at) = false
ends_with_connection (body.Trailers count line) = false
ends_with_connection body.Over = false
ends_with_connection (body.Refused fault) = false

-- a body that ends with the connection is whole where its frames are; another one is cut off, unless it is over
abbrev pub finish_at : ContentPlace → Bool → FrameState → Result Bool WebFault
finish_at Open true s = Ok (is_complete s)
finish_at Open false s = Err Truncated
finish_at Over to_end s = Ok false
finish_at (Refused fault) to_end s = Err fault

-- what the end of the connection makes of what has come
unfoldable pub finish : Content → Result Bool WebFault
finish c = finish_at (place_of c) (ends_with_connection c.body.place) c.frames
