-- An answer as a machine over the bytes of its connection (RFC 9112; gRPC-Web protocol): a head, and then a body of frames.
use Rattle.std.specs.Prelude.{ℕ, Bool, false, List, [], ◌∷◌, ◌++◌, length, fold, map, Option, Some, None, Result, Ok, Err}
use Rattle.std.specs.Option.{option_to_list}
use Rattle.web_heads.specs.declared.body.BodyKind.{BodyKind}
use Rattle.web_head_reader.specs.declared.place.HeadPlace.{HeadPlace}
use Rattle.web_head_reader.specs.declared.place.HeadPlace.TheVariants as head
use Rattle.web_head_reader.specs.Steps.{HeadState, head_step}
use Rattle.web_head_reader.specs.Steps as heads
use Rattle.web_bodies.specs.Steps as bodies
use Rattle.web_frames.specs.declared.limits.Side.TheVariants.{Response}
use Rattle.web_frames.specs.declared.status.Trailers.{Trailers}
use Rattle.web_frames.specs.declared.event.FrameEvent.{FrameEvent}
use Rattle.web_frames.specs.declared.event.FrameEvent.TheVariants as frame
use Rattle.web_frames.specs.declared.state.FramePlace.TheVariants as frame_place
use Rattle.web_frames.specs.Machine.{FrameState}
use Rattle.web_contents.specs.declared.fault.WebFault.{WebFault}
use Rattle.web_contents.specs.declared.place.ContentPlace.{ContentPlace}
use Rattle.web_contents.specs.declared.place.ContentPlace.TheVariants.{Open, Over, Refused}
use Rattle.web_contents.specs.Contents.{Content, place_of, content_step, content_events}
use Rattle.web_contents.specs.Contents as contents
use Rattle.web_responses.specs.declared.event.WebEvent.{WebEvent}
use Rattle.web_responses.specs.declared.event.WebEvent.TheVariants as event
use Rattle.web_responses.specs.declared.opening.Opening.{Opening}
use Rattle.web_responses.specs.Openings.{fault_of_reading, opening}

-- what has come of an answer: of its head, of its body after a right head, or a head that is refused
pub data AnswerState : Type 0 where
  in_head : HeadState → AnswerState
  in_body : Content → AnswerState
  bad_head : WebFault → AnswerState

-- ---- the body

-- frames that may not come, since the trailers have
abbrev pub no_frames : FrameState
no_frames = record { side = Response; place = frame_place.Over; held = [] }

-- a body before its first byte, which is this byte of the connection: with trailers in the head it has no frames
abbrev pub begin_body : Option Trailers → BodyKind → ℕ → Content
begin_body None kind at = contents.begin Response kind at
begin_body (Some trailers) kind at = record { body = bodies.begin kind at; frames = no_frames }

-- what is told of a frame
abbrev pub event_of : FrameEvent → WebEvent
event_of (frame.Message message) = event.Message message
event_of (frame.Trailers trailers) = event.Trailers trailers

-- the end of a body is told where it is over
abbrev pub end_at : ContentPlace → List WebEvent
end_at Open = []
end_at Over = event.End ∷ []
end_at (Refused fault) = []

-- the end is told by the byte that leads to it
abbrev pub end_told : ContentPlace → ContentPlace → List WebEvent
end_told Open new = end_at new
end_told Over new = []
end_told (Refused fault) new = []

-- what one byte more of a body tells
unfoldable pub body_told : Content → ℕ → List WebEvent
body_told c b = map event_of (content_events c b) ++ end_told (place_of c) (place_of (content_step c b))

-- ---- the head

-- what a right head tells: itself, the trailers in it, and the end of a body that has no bytes
abbrev pub opening_told : Opening → Content → List WebEvent
opening_told o c = event.Head o.status ∷ map event.Trailers (option_to_list o.trailers) ++ end_at (place_of c)

-- the body of a head that has so many bytes
abbrev pub opened_body : ℕ → Opening → Content
opened_body at o = begin_body o.trailers o.body at

-- after a whole head of so many bytes, and what it tells
abbrev pub opened : ℕ → Result Opening WebFault → AnswerState
opened at (Ok o) = in_body (opened_body at o)
opened at (Err fault) = bad_head fault

abbrev pub opened_told : ℕ → Result Opening WebFault → List WebEvent
opened_told at (Ok o) = opening_told o (opened_body at o)
opened_told at (Err fault) = []

-- where a head stands after one byte more, and what it tells
abbrev pub head_led : HeadPlace → HeadState → AnswerState
head_led head.Open h = in_head h
head_led head.Whole h = opened (length h.held) (opening h.held)
head_led (head.Refused fault) h = bad_head (fault_of_reading fault)

abbrev pub head_told : HeadPlace → HeadState → List WebEvent
head_told head.Open h = []
head_told head.Whole h = opened_told (length h.held) (opening h.held)
head_told (head.Refused fault) h = []

-- ---- the machine

-- one byte more
unfoldable pub answer_step : AnswerState → ℕ → AnswerState
answer_step (in_head h) b = head_led (head_step h b).place (head_step h b)
answer_step (in_body c) b = in_body (content_step c b)
answer_step (bad_head fault) b = bad_head fault

-- the events that one byte more completes
unfoldable pub answer_told : AnswerState → ℕ → List WebEvent
answer_told (in_head h) b = head_told (head_step h b).place (head_step h b)
answer_told (in_body c) b = body_told c b
answer_told (bad_head fault) b = []

-- before the first byte
abbrev pub begin : AnswerState
begin = in_head heads.begin

-- after these bytes, and the events that they told
unfoldable pub after : AnswerState → List ℕ → AnswerState
after s bytes = fold answer_step s bytes

unfoldable pub events_of : AnswerState → List ℕ → List WebEvent
events_of s [] = []
events_of s (b ∷ bytes) = answer_told s b ++ events_of (answer_step s b) bytes

-- ---- what the bytes say

-- where the answer stands: more has to come or may come, it is over, or it is refused
abbrev pub standing : AnswerState → ContentPlace
standing (in_head h) = Open
standing (in_body c) = place_of c
standing (bad_head fault) = Refused fault

-- what the end of the connection makes of it: true where a body that ends with the connection stands at the end of a frame
abbrev pub finish : AnswerState → Result Bool WebFault
finish (in_head h) = Ok false
finish (in_body c) = contents.finish c
finish (bad_head fault) = Err fault

-- the events of an answer, where it stands, and what the end of the connection makes of it
pub record Answer : Type 0 where
  pub told : List WebEvent
  pub place : ContentPlace
  pub ending : Result Bool WebFault

-- what the bytes of a connection say as an answer
unfoldable pub answer_in : List ℕ → Answer
answer_in bytes =
    record { told = events_of begin bytes; place = standing (after begin bytes); ending = finish (after begin bytes) }
