-- Which faults requests and answers have, and what they are answered with.
use Rattle.std.proofs.Common.{◌≡◌, ℕ, List, subst, sym, inl, inr, refl, Option, Some, None, Err}
use Rattle.std.specs.Prelude.{◌↔◌, IsSome}
use Rattle.std.proofs.lemmas.Bool.{false≢true}
use Rattle.web_heads.specs.declared.body.BodyKind.{BodyKind}
use Rattle.web_heads.specs.declared.body.BodyKind.TheVariants.{Length, Chunks, ToEnd}
use Rattle.web_heads.specs.declared.fault.HeadFault.{HeadFault}
use Rattle.web_heads.specs.declared.fault.HeadFault.TheVariants as head
use Rattle.web_heads.specs.Standard.{RequestSays, ResponseSays}
use Rattle.web_bodies.specs.declared.fault.BodyFault.{BodyFault}
use Rattle.web_bodies.specs.declared.fault.BodyFault.TheVariants as body
use Rattle.web_bodies.specs.Standard.{IsBodyFault, IsPartFault, no_line, no_cr, no_lf, too_long}
use Rattle.web_frames.specs.declared.limits.Side.TheVariants.{Request, Response}
use Rattle.web_frames.specs.declared.fault.FrameFault.{FrameFault}
use Rattle.web_frames.specs.declared.fault.FrameFault.TheVariants as frame
use Rattle.web_frames.specs.declared.status.Trailers.{Trailers}
use Rattle.web_frames.specs.Standard.{IsBytes, IsFault}
use Rattle.web_contents.specs.declared.fault.WebFault.{WebFault}
use Rattle.web_contents.specs.declared.fault.WebFault.TheVariants.{HeadTooLong, TooManyHeaders, BadHead, BadMethod, BadType, BadLength, BadChunk, FrameTooLong, Compressed, AfterMessage, NoMessage, AfterTrailers, BadTrailer, Truncated, OutOfMemory}
use Rattle.web_contents.specs.declared.place.ContentPlace.TheVariants.{Refused}
use Rattle.web_contents.specs.Faults.{fault_of_head, fault_of_body, fault_of_frames}
use Rattle.web_contents.specs.Standard.{IsContentFault, bad_frames, bad_body, unfinished_frames}
use Rattle.web_contents.proofs.Read as contents
use Rattle.web_requests.specs.Machine.{request_in, faulty}
use Rattle.web_requests.specs.Standard.{IsRequestFault}
use Rattle.web_requests.specs.Standard as requests
use Rattle.web_requests.proofs.Read as request_proofs
use Rattle.web_responses.specs.declared.event.WebEvent.{WebEvent}
use Rattle.web_responses.specs.Answers.{answer_in}
use Rattle.web_responses.specs.Standard.{IsAnswerFault, IsFaultyBody, IsBareFault}
use Rattle.web_responses.specs.Standard as responses
use Rattle.web_responses.proofs.Read as answers
use Rattle.grpc_web.specs.declared.answer.FaultAnswer.TheVariants.{Http}
use Rattle.grpc_web.specs.FaultAnswers.{answer_of, IsOfRequests, IsOfAnswers}
use Rattle.grpc_web.specs.Laws.{IsRefusal, FaultsAreAnswered}

-- ---- the parts

-- want of memory is no fault of what frames a body
never_memory : (at : ℕ) (rest content : List ℕ) → IsPartFault at rest content body.OutOfMemory → ⊥
never_memory at rest content (no_line x none e) = cc
never_memory at rest content (no_cr line other is some differs bytes e) = cc
never_memory at rest content (no_lf line other is some differs bytes e) = cc
never_memory at rest content (too_long line trailers is none full bytes nothing e) = cc

no_memory : (kind : BodyKind) (at : ℕ) (bytes payload : List ℕ) → IsBodyFault kind at bytes payload body.OutOfMemory → ⊥
no_memory (Length count) at bytes payload x = x
no_memory Chunks at bytes payload x = never_memory _ x.rest x.content x.part
no_memory ToEnd at bytes payload x = x

body_of_request : (kind : BodyKind) (at : ℕ) (bytes payload : List ℕ) (found : BodyFault) → IsBodyFault kind at bytes payload found
    → IsOfRequests (fault_of_body found)
body_of_request kind at bytes payload (body.BadChunk place) x = tt
body_of_request kind at bytes payload body.HeadTooLong x = tt
body_of_request kind at bytes payload body.OutOfMemory x = no_memory kind at bytes payload x

body_of_answer : (kind : BodyKind) (at : ℕ) (bytes payload : List ℕ) (found : BodyFault) → IsBodyFault kind at bytes payload found
    → IsOfAnswers (fault_of_body found)
body_of_answer kind at bytes payload (body.BadChunk place) x = tt
body_of_answer kind at bytes payload body.HeadTooLong x = tt
body_of_answer kind at bytes payload body.OutOfMemory x = no_memory kind at bytes payload x

frames_of_request : (bytes : List ℕ) (messages : List (List ℕ)) (trailers : Option Trailers) (found : FrameFault)
    → IsFault Request bytes messages trailers found → IsOfRequests (fault_of_frames found)
frames_of_request bytes messages trailers (frame.FrameTooLong count) x = tt
frames_of_request bytes messages trailers frame.Compressed x = tt
frames_of_request bytes messages trailers frame.AfterMessage x = tt
frames_of_request bytes messages trailers frame.NoMessage x = tt
frames_of_request bytes messages trailers frame.AfterTrailers x = let e : Request ≡ Response = x.2 in cc
frames_of_request bytes messages trailers frame.BadTrailer x = let framed = x.6 in framed.frame.may_stand.1 framed.marked
frames_of_request bytes messages trailers frame.OutOfMemory x = x

frames_of_answer : (bytes : List ℕ) (messages : List (List ℕ)) (trailers : Option Trailers) (found : FrameFault)
    → IsFault Response bytes messages trailers found → IsOfAnswers (fault_of_frames found)
frames_of_answer bytes messages trailers (frame.FrameTooLong count) x = tt
frames_of_answer bytes messages trailers frame.Compressed x = tt
frames_of_answer bytes messages trailers frame.AfterMessage x = let e : Response ≡ Request = x.2 in cc
frames_of_answer bytes messages trailers frame.NoMessage x = let e : Response ≡ Request = x.5 in cc
frames_of_answer bytes messages trailers frame.AfterTrailers x = tt
frames_of_answer bytes messages trailers frame.BadTrailer x = tt
frames_of_answer bytes messages trailers frame.OutOfMemory x = x

content_of_request : (kind : BodyKind) (at : ℕ) (bytes : List ℕ) (messages : List (List ℕ)) (trailers : Option Trailers) (fault : WebFault)
    → IsContentFault Request kind at bytes messages trailers fault → IsOfRequests fault
content_of_request kind at bytes messages trailers fault (bad_frames x) =
    subst IsOfRequests (sym x.fault_is) (frames_of_request _ messages trailers x.found x.settled)
content_of_request kind at bytes messages trailers fault (bad_body x) =
    subst IsOfRequests (sym x.fault_is) (body_of_request kind at bytes x.payload x.found x.settled)
content_of_request kind at bytes messages trailers fault (unfinished_frames x) = subst IsOfRequests (sym x.fault_is) tt

content_of_answer : (kind : BodyKind) (at : ℕ) (bytes : List ℕ) (messages : List (List ℕ)) (trailers : Option Trailers) (fault : WebFault)
    → IsContentFault Response kind at bytes messages trailers fault → IsOfAnswers fault
content_of_answer kind at bytes messages trailers fault (bad_frames x) =
    subst IsOfAnswers (sym x.fault_is) (frames_of_answer _ messages trailers x.found x.settled)
content_of_answer kind at bytes messages trailers fault (bad_body x) =
    subst IsOfAnswers (sym x.fault_is) (body_of_answer kind at bytes x.payload x.found x.settled)
content_of_answer kind at bytes messages trailers fault (unfinished_frames x) = subst IsOfAnswers (sym x.fault_is) tt

head_of_request : (bytes : List ℕ) (wrong : HeadFault) → RequestSays bytes (Err wrong) → IsOfRequests (fault_of_head wrong)
head_of_request bytes head.TooManyHeaders x = tt
head_of_request bytes head.BadHead x = tt
head_of_request bytes head.BadMethod x = tt
head_of_request bytes head.BadType x = tt
head_of_request bytes head.BadLength x = tt
head_of_request bytes head.OutOfMemory x = x

head_of_answer : (bytes : List ℕ) (wrong : HeadFault) → ResponseSays bytes (Err wrong) → IsOfAnswers (fault_of_head wrong)
head_of_answer bytes head.TooManyHeaders x = tt
head_of_answer bytes head.BadHead x = tt
head_of_answer bytes head.BadMethod x = x
head_of_answer bytes head.BadType x = tt
head_of_answer bytes head.BadLength x = tt
head_of_answer bytes head.OutOfMemory x = x

-- ---- requests and answers

of_requests : (bytes : List ℕ) (fault : WebFault) → IsRequestFault bytes fault → IsOfRequests fault
of_requests bytes fault (requests.long_head x e) = subst IsOfRequests (sym e) tt
of_requests bytes fault (requests.bad_head wrong is says e) = subst IsOfRequests (sym e) (head_of_request bytes wrong says)
of_requests bytes fault (requests.bad_body said rest messages trailers h x) = content_of_request said.body _ rest messages trailers fault x

bare_of_answer : (kind : BodyKind) (at : ℕ) (bytes : List ℕ) (fault : WebFault) → IsBareFault kind at bytes fault → IsOfAnswers fault
bare_of_answer kind at bytes fault (responses.bad_payload front last is begun payload e) = subst IsOfAnswers (sym e) tt
bare_of_answer kind at bytes fault (responses.bad_framing found x e) = subst IsOfAnswers (sym e) (body_of_answer kind at bytes _ found x)

faulty_body_of_answer : (trailers : Option Trailers) (kind : BodyKind) (at : ℕ) (bytes : List ℕ) (told : List WebEvent) (fault : WebFault)
    → IsFaultyBody trailers kind at bytes told fault → IsOfAnswers fault
faulty_body_of_answer None kind at bytes told fault (messages, trailers, x, e) = content_of_answer kind at bytes messages trailers fault x
faulty_body_of_answer (Some trailers) kind at bytes told fault (x, e) = bare_of_answer kind at bytes fault x

of_answers : (bytes : List ℕ) (told : List WebEvent) (fault : WebFault) → IsAnswerFault bytes told fault → IsOfAnswers fault
of_answers bytes told fault (responses.too_long x none e) = subst IsOfAnswers (sym e) tt
of_answers bytes told fault (responses.bad_head found is says none e) = subst IsOfAnswers (sym e) (head_of_answer bytes found says)
of_answers bytes told fault (responses.bad_trailers x none e) = subst IsOfAnswers (sym e) tt
of_answers bytes told fault (responses.faulty_body x) = faulty_body_of_answer x.trailers x.r.body _ x.rest x.more fault x.body

known : request_proofs.Known
known = record {
  pieces = contents.pieces_join;
  read = contents.contents_are_read;
  one = contents.contents_are_one;
  first = contents.ends_are_first;
}

read_of_requests : (bytes : List ℕ) (fault : WebFault) → IsBytes bytes → request_in bytes ≡ faulty fault → IsOfRequests fault
read_of_requests bytes fault all e =
    let found = ((request_proofs.requests_are_read known).refused bytes fault all).1 e in of_requests found.settled fault found.is_fault

read_of_answers : (bytes : List ℕ) (fault : WebFault) → IsBytes bytes → (answer_in bytes).place ≡ Refused fault → IsOfAnswers fault
read_of_answers bytes fault all e =
    let found = (answers.answers_are_read.refused bytes (answer_in bytes).told fault all).1 (e, refl) in
    of_answers found.settled (answer_in bytes).told fault found.is_fault

-- ---- answers

answered : (fault : WebFault) → IsOfRequests fault ↔ IsSome (answer_of fault)
answered HeadTooLong = ((λ x. refl), (λ x. tt))
answered TooManyHeaders = ((λ x. refl), (λ x. tt))
answered BadHead = ((λ x. refl), (λ x. tt))
answered BadMethod = ((λ x. refl), (λ x. tt))
answered BadType = ((λ x. refl), (λ x. tt))
answered BadLength = ((λ x. refl), (λ x. tt))
answered (BadChunk at) = ((λ x. refl), (λ x. tt))
answered (FrameTooLong count) = ((λ x. refl), (λ x. tt))
answered Compressed = ((λ x. refl), (λ x. tt))
answered AfterMessage = ((λ x. refl), (λ x. tt))
answered NoMessage = ((λ x. refl), (λ x. tt))
answered AfterTrailers = ((λ x. absurd x), (λ x. false≢true x))
answered BadTrailer = ((λ x. absurd x), (λ x. false≢true x))
answered Truncated = ((λ x. absurd x), (λ x. false≢true x))
answered OutOfMemory = ((λ x. absurd x), (λ x. false≢true x))

refusals : (fault : WebFault) (status : ℕ) → answer_of fault ≡ Some (Http status) → IsRefusal status
refusals HeadTooLong status e = let same : status ≡ 413 = cc in inr (inr (inl same))
refusals TooManyHeaders status e = let same : status ≡ 413 = cc in inr (inr (inl same))
refusals BadHead status e = let same : status ≡ 400 = cc in inl same
refusals BadMethod status e = let same : status ≡ 405 = cc in inr (inl same)
refusals BadType status e = let same : status ≡ 415 = cc in inr (inr (inr same))
refusals BadLength status e = let same : status ≡ 400 = cc in inl same
refusals (BadChunk at) status e = let same : status ≡ 400 = cc in inl same
refusals (FrameTooLong count) status e = let same : status ≡ 413 = cc in inr (inr (inl same))
refusals Compressed status e = absurd (cc)
refusals AfterMessage status e = absurd (cc)
refusals NoMessage status e = absurd (cc)
refusals AfterTrailers status e = absurd (cc)
refusals BadTrailer status e = absurd (cc)
refusals Truncated status e = absurd (cc)
refusals OutOfMemory status e = absurd (cc)

pub faults_are_answered : FaultsAreAnswered
faults_are_answered = record {
  of_requests = of_requests;
  of_answers = of_answers;
  read_of_requests = read_of_requests;
  read_of_answers = read_of_answers;
  answered = answered;
  refusals = refusals;
}
