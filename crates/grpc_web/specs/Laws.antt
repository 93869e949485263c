-- Laws over what is written and read, and over faults.
use Rattle.std.specs.Prelude.{◌≡◌, ◌≢◌, ◌↔◌, ◌⊎◌, ℕ, ◌≤◌, List, [], ◌∷◌, ◌++◌, length, All, fold, map, Some, IsSome}
use Rattle.std.specs.List.{concat, flat_map}
use Rattle.web_frames.specs.declared.status.Trailers.{Trailers}
use Rattle.web_frames.specs.Standard.{IsBytes}
use Rattle.web_contents.specs.declared.fault.WebFault.{WebFault}
use Rattle.web_contents.specs.declared.place.ContentPlace.TheVariants.{Open, Over, Refused}
use Rattle.web_requests.specs.Machine.{request_in, faulty}
use Rattle.web_requests.specs.Standard.{IsRequestFault}
use Rattle.web_responses.specs.declared.event.WebEvent.{WebEvent}
use Rattle.web_responses.specs.declared.event.WebEvent.TheVariants as event
use Rattle.web_responses.specs.Answers.{begin, after, standing, answer_in}
use Rattle.web_responses.specs.Standard.{HasAnswer, BeginsAnswer, IsAnswerFault}
use Rattle.web_responses.specs.Laws.{events_of_pieces}
use Rattle.web_writers.specs.Responses.{head_text, message_bytes, answer_bytes, refused_text, MayBeWritten}
use Rattle.grpc_web.specs.declared.answer.FaultAnswer.TheVariants.{Http}
use Rattle.grpc_web.specs.FaultAnswers.{answer_of, IsOfRequests, IsOfAnswers}

-- the events of an answer with status 200
abbrev pub answer_events : List (List ℕ) → Trailers → List WebEvent
answer_events messages trailers =
    event.Head 200 ∷ (map event.Message messages ++ event.Trailers trailers ∷ event.End ∷ [])

-- an answer as it is written is, in the words of RFC 9112 and gRPC-Web, the answer with its messages and trailers, whatever follows it; and it is
-- read as that answer, in any pieces
pub record AnswersAreReadBack : Type 0 where
  pub said : (messages : List (List ℕ)) (trailers : Trailers) (rest : List ℕ) → MayBeWritten messages trailers
      → HasAnswer (answer_bytes messages trailers ++ rest) (answer_events messages trailers)
  pub read_back : (messages : List (List ℕ)) (trailers : Trailers) (rest : List ℕ) → MayBeWritten messages trailers → All IsBytes messages
      → IsBytes rest
      → ((answer_in (answer_bytes messages trailers ++ rest)).place ≡ Over)
      × ((answer_in (answer_bytes messages trailers ++ rest)).told ≡ answer_events messages trailers)
  pub in_pieces : (messages : List (List ℕ)) (trailers : Trailers) (pieces : List (List ℕ)) → MayBeWritten messages trailers
      → All IsBytes messages → concat pieces ≡ answer_bytes messages trailers
      → (standing (fold after begin pieces) ≡ Over) × (events_of_pieces begin pieces ≡ answer_events messages trailers)

-- the statuses that a request is refused with before it is read whole (RFC 9110, sections 15.5.1, 15.5.6, 15.5.14, 15.5.16)
abbrev pub IsRefusal : ℕ → Type 0
IsRefusal status = (status ≡ 400) ⊎ ((status ≡ 405) ⊎ ((status ≡ 413) ⊎ (status ≡ 415)))

-- the events of such an answer
abbrev pub refusal_events : ℕ → List WebEvent
refusal_events status = event.Head status ∷ event.End ∷ []

-- a refused response as it is written is the answer with this status and nothing in its body, and is read as that, whatever follows it and in
-- any pieces; without some of its last bytes it is the beginning of an answer, which tells nothing
pub record RefusalsAreReadBack : Type 0 where
  pub said : (status : ℕ) (rest : List ℕ) → IsRefusal status → HasAnswer (refused_text status ++ rest) (refusal_events status)
  pub read_back : (status : ℕ) (rest : List ℕ) → IsRefusal status → IsBytes rest
      → ((answer_in (refused_text status ++ rest)).place ≡ Over) × ((answer_in (refused_text status ++ rest)).told ≡ refusal_events status)
  pub in_pieces : (status : ℕ) (pieces : List (List ℕ)) → IsRefusal status → concat pieces ≡ refused_text status
      → (standing (fold after begin pieces) ≡ Over) × (events_of_pieces begin pieces ≡ refusal_events status)
  pub cut_off : (status : ℕ) (front back : List ℕ) → IsRefusal status → back ≢ [] → front ++ back ≡ refused_text status → BeginsAnswer front []

-- ---- answers that are still being written

-- the events of an answer with status 200 after its head and these messages
abbrev pub begun_events : List (List ℕ) → List WebEvent
begun_events messages = event.Head 200 ∷ map event.Message messages

-- the head and some messages are, in the words of RFC 9112 and gRPC-Web, a beginning of an answer with exactly these events, and are read as
-- that, in any pieces; and whatever is left of a whole answer without some of its last bytes begins an answer, with the first of its events
pub record AnswersAreBegun : Type 0 where
  pub said : (messages : List (List ℕ)) → All (λ message. length message ≤ 16777216) messages
      → BeginsAnswer (head_text ++ flat_map message_bytes messages) (begun_events messages)
  pub read_back : (messages : List (List ℕ)) → All (λ message. length message ≤ 16777216) messages → All IsBytes messages
      → ((answer_in (head_text ++ flat_map message_bytes messages)).place ≡ Open)
      × ((answer_in (head_text ++ flat_map message_bytes messages)).told ≡ begun_events messages)
  pub in_pieces : (messages pieces : List (List ℕ)) → All (λ message. length message ≤ 16777216) messages → All IsBytes messages
      → concat pieces ≡ head_text ++ flat_map message_bytes messages
      → (standing (fold after begin pieces) ≡ Open) × (events_of_pieces begin pieces ≡ begun_events messages)
  pub cut_off : (messages : List (List ℕ)) (trailers : Trailers) (front back : List ℕ) → MayBeWritten messages trailers → All IsBytes messages
      → back ≢ [] → front ++ back ≡ answer_bytes messages trailers
      → (told : List WebEvent) × (later : List WebEvent) × BeginsAnswer front told × (told ++ later ≡ answer_events messages trailers)
  pub cut_off_read : (messages : List (List ℕ)) (trailers : Trailers) (front back : List ℕ) → MayBeWritten messages trailers
      → All IsBytes messages → back ≢ [] → front ++ back ≡ answer_bytes messages trailers
      → ((answer_in front).place ≡ Open)
      × ((later : List WebEvent) × ((answer_in front).told ++ later ≡ answer_events messages trailers))

-- ---- faults

-- the faults of requests and of answers are those of their lists; every fault of a request has an answer, and no other fault has; and an answer
-- without a body has a status with which a request is refused
pub record FaultsAreAnswered : Type 0 where
  pub of_requests : (bytes : List ℕ) (fault : WebFault) → IsRequestFault bytes fault → IsOfRequests fault
  pub of_answers : (bytes : List ℕ) (told : List WebEvent) (fault : WebFault) → IsAnswerFault bytes told fault → IsOfAnswers fault
  pub read_of_requests : (bytes : List ℕ) (fault : WebFault) → IsBytes bytes → request_in bytes ≡ faulty fault → IsOfRequests fault
  pub read_of_answers : (bytes : List ℕ) (fault : WebFault) → IsBytes bytes → (answer_in bytes).place ≡ Refused fault → IsOfAnswers fault
  pub answered : (fault : WebFault) → IsOfRequests fault ↔ IsSome (answer_of fault)
  pub refusals : (fault : WebFault) (status : ℕ) → answer_of fault ≡ Some (Http status) → IsRefusal status
