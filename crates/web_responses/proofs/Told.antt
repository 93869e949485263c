-- What the standard says of the bytes of a connection, the machine of answers does.
use Rattle.std.proofs.Common.{◌≡◌, ℕ, ◌<◌, true, List, [], ◌∷◌, ◌++◌, length, refl, sym, ap, ◌∙◌, subst, append_assoc, append-nil, Option, Some, None, Result, Ok, Err, arith}
use Rattle.std.specs.Prelude.{map}
use Rattle.std.specs.Option.{option_to_list}
use Rattle.std.proofs.lemmas.List.{map-append}
use Rattle.std.proofs.lemmas.Simd.{map-map}
use Rattle.web_heads.specs.declared.body.BodyKind.{BodyKind}
use Rattle.web_heads.specs.declared.fault.HeadFault.{HeadFault}
use Rattle.web_heads.specs.declared.response.ResponseHead.{ResponseHead}
use Rattle.web_heads.specs.Standard.{ResponseSays}
use Rattle.web_heads.proofs.ResponsesSaid as responses
use Rattle.web_head_reader.specs.declared.fault.HeadReadFault.TheVariants as read
use Rattle.web_head_reader.specs.declared.place.HeadPlace.TheVariants as head
use Rattle.web_head_reader.specs.Steps.{HeadState, refused_at}
use Rattle.web_head_reader.specs.Steps as heads
use Rattle.web_head_reader.specs.Standard.{IsHead, IsTooLong}
use Rattle.web_head_reader.specs.Standard as head_words
use Rattle.web_head_reader.proofs.Read as heads_read
use Rattle.web_bodies.specs.Steps as bodies
use Rattle.web_bodies.specs.Standard.{HasBody, HasFault}
use Rattle.web_bodies.specs.Standard as body_words
use Rattle.web_bodies.proofs.Read.{bodies_are_read}
use Rattle.web_heads.proofs.LastLemmas.{last_of}
use Rattle.web_frames.specs.declared.limits.Side.TheVariants.{Response}
use Rattle.web_frames.specs.declared.fault.FrameFault.TheVariants as frame_fault
use Rattle.web_frames.specs.declared.event.FrameEvent.{FrameEvent}
use Rattle.web_frames.specs.declared.event.FrameEvent.TheVariants as frame
use Rattle.web_frames.specs.declared.status.Trailers.{Trailers}
use Rattle.web_frames.specs.Machine.{FrameState}
use Rattle.web_frames.specs.Machine as frames
use Rattle.web_frames.specs.Standard.{ValuesSay, events}
use Rattle.web_frames.specs.Trailers.{trailers_of}
use Rattle.web_frames.proofs.MachineLemmas as machine
use Rattle.web_frames.proofs.TrailerLemmas.{trailers_of-ValuesSay, ValuesSay-trailers_of}
use Rattle.web_contents.specs.declared.fault.WebFault.{WebFault}
use Rattle.web_contents.specs.declared.fault.WebFault.TheVariants.{HeadTooLong, BadTrailer}
use Rattle.web_contents.specs.declared.place.ContentPlace.{ContentPlace}
use Rattle.web_contents.specs.declared.place.ContentPlace.TheVariants.{Open, Over, Refused}
use Rattle.web_contents.specs.Faults.{fault_of_head}
use Rattle.web_contents.specs.Contents.{Content, is_complete, place_of}
use Rattle.web_contents.specs.Contents as contents
use Rattle.web_contents.proofs.Parts.{after-parts, events_of-parts}
use Rattle.web_contents.proofs.Places.{IsGood, place-open, place-over, place-bad_body, place-bad_frames}
use Rattle.web_contents.proofs.Told.{begun_told, whole_told, fault_told, payload_is}
use Rattle.web_responses.specs.declared.event.WebEvent.{WebEvent}
use Rattle.web_responses.specs.declared.event.WebEvent.TheVariants as event
use Rattle.web_responses.specs.declared.opening.Opening.{Opening}
use Rattle.web_responses.specs.Openings.{right_trailers, trailers_in_head, opening_of, opening_with, opening}
use Rattle.web_responses.specs.Answers.{AnswerState, in_body, bad_head, no_frames, begin_body, event_of, end_at, end_told, opening_told, opened_body, opened, opened_told, head_led, head_told, begin, after, events_of, standing}
use Rattle.web_responses.specs.Standard.{TrailersInHead, HasOpening, frame_events, IsWholeBody, IsBegunBody, IsBareFault, bad_payload, bad_framing, IsFaultyBody, HasAnswer, BeginsBody, BeginsAnswer, within_head, within_body, HasBadTrailers, HasFaultyBody, IsAnswerFault, too_long, bad_trailers, faulty_body, HasAnswerFault}
use Rattle.web_responses.specs.Standard as standard
use Rattle.web_responses.proofs.Runs.{after-append, events_of-append, after-in_body, events-in_body, Ended, ended_by, Does, head_open, head_last, refused-stays}

-- ---- heads

head_some : (bytes : List ℕ) → IsHead bytes → 0 < length bytes
head_some bytes is = let stop = is.ends.stop_is in omega arith

long_some : (bytes : List ℕ) → IsTooLong bytes → 0 < length bytes
long_some bytes is = let full = is.full in omega arith

-- bytes of which the last one ends a head, or makes it too long
last_leads : (bytes front : List ℕ) (last : ℕ) (next : HeadState) → bytes ≡ front ++ last ∷ [] → head_words.IsBegun front → heads.after heads.begin bytes ≡ next
    → Does begin bytes (head_led next.place next) (head_told next.place next)
last_leads bytes front last next e begun leads =
    subst (λ (b : List ℕ). Does begin b (head_led next.place next) (head_told next.place next)) (sym e)
    (head_last heads.begin front last next next.place ((heads_read.heads_are_read.within front).0 begun)
    (ap (heads.after heads.begin) (sym e) ∙ leads) refl)

-- a whole head says what its bytes say
pub head_reads : (bytes : List ℕ) → IsHead bytes → Does begin bytes (opened (length bytes) (opening bytes)) (opened_told (length bytes) (opening bytes))
head_reads bytes is =
    let x = last_of bytes (head_some bytes is) in
    let leads = (heads_read.heads_are_read.whole bytes bytes).0 (record { rest = []; bytes_are = sym (append-nil bytes); is_head = is }) in
    last_leads bytes x.front x.last (record { place = head.Whole; held = bytes }) x.bytes_are
    (heads_read.ends_are_first.whole x.front x.last [] (subst IsHead x.bytes_are is)) leads

too_long_reads : (bytes : List ℕ) → IsTooLong bytes → Does begin bytes (bad_head HeadTooLong) []
too_long_reads bytes is =
    let x = last_of bytes (long_some bytes is) in
    let leads = (heads_read.heads_are_read.too_long bytes).0 (record { settled = bytes; rest = []; bytes_are = sym (append-nil bytes); too_long = is }) in
    last_leads bytes x.front x.last (refused_at read.HeadTooLong) x.bytes_are
    (heads_read.ends_are_first.too_long x.front x.last [] (subst IsTooLong x.bytes_are is)) leads

-- ---- what a head says of the answer

opening-says : (bytes : List ℕ) (answer : Result ResponseHead HeadFault) → ResponseSays bytes answer → opening bytes ≡ opening_of answer
unfolding opening
opening-says bytes answer says = ap opening_of (responses.only bytes answer says)

trailers-says : (r : ResponseHead) (trailers : Option Trailers) → TrailersInHead r trailers → trailers_in_head r.grpc_status r.grpc_message ≡ Some trailers
trailers-says r None none = ap (λ (s : Option (List ℕ)). trailers_in_head s r.grpc_message) none
trailers-says r (Some trailers) (status, is, says) =
    ap (λ (s : Option (List ℕ)). trailers_in_head s r.grpc_message) is
    ∙ ap right_trailers (trailers_of-ValuesSay status r.grpc_message trailers says)

abbrev pub opening_is : ResponseHead → Option Trailers → Opening
opening_is r trailers = record { status = r.status; body = r.body; trailers = trailers }

pub right_opening : (bytes : List ℕ) (r : ResponseHead) (trailers : Option Trailers) → ResponseSays bytes (Ok r) → TrailersInHead r trailers
    → opening bytes ≡ Ok (opening_is r trailers)
right_opening bytes r trailers says stands =
    opening-says bytes (Ok r) says ∙ ap (opening_with r) (trailers-says r trailers stands)

no_trailers : (found : Option Trailers) → ((trailers : Trailers) → found ≡ Some trailers → ⊥) → right_trailers found ≡ None
no_trailers None wrong = refl
no_trailers (Some trailers) wrong = absurd (wrong trailers refl)

wrong_opening : (bytes : List ℕ) (x : HasBadTrailers bytes) → ((trailers : Trailers) → trailers_of x.status x.r.grpc_message ≡ Some trailers → ValuesSay x.status x.r.grpc_message trailers)
    → opening bytes ≡ Err BadTrailer
wrong_opening bytes x given =
    opening-says bytes (Ok x.r) x.says
    ∙ ap (opening_with x.r)
    (ap (λ (s : Option (List ℕ)). trailers_in_head s x.r.grpc_message) x.status_is
    ∙ no_trailers (trailers_of x.status x.r.grpc_message) (λ trailers e. x.wrong trailers (given trailers e)))

-- ---- behind a right head

-- what a body leaves and tells
pub record BodyDoes (c : Content) (bytes : List ℕ) (place : ContentPlace) (told : List FrameEvent) : Type 0 where
  pub place_is : place_of (contents.after c bytes) ≡ place
  pub told_is : contents.events_of c bytes ≡ told

-- the end of the body is told once, by its last byte or with the head
end_once : (start place : ContentPlace) (told : List FrameEvent) → Ended start told place
    → end_at start ++ (map event_of told ++ end_told start place) ≡ map event_of told ++ end_at place
end_once Open place told ended = refl
end_once Over place told (none, there) =
    ap (λ (t : List FrameEvent). event.End ∷ (map event_of t ++ [])) none
    ∙ ap (λ (t : List FrameEvent). map event_of t ++ end_at Over) (sym none)
    ∙ ap (λ (p : ContentPlace). map event_of told ++ end_at p) (sym there)
end_once (Refused fault) place told (none, there) =
    ap (λ (t : List FrameEvent). map event_of t ++ []) none
    ∙ ap (λ (t : List FrameEvent). map event_of t ++ end_at (Refused fault)) (sym none)
    ∙ ap (λ (p : ContentPlace). map event_of told ++ end_at p) (sym there)

-- an answer behind a right head
pub record AnswerDoes (bytes : List ℕ) (o : Opening) (c : Content) (place : ContentPlace) (told : List FrameEvent) : Type 0 where
  pub state : after begin bytes ≡ in_body c
  pub place_is : place_of c ≡ place
  pub events_are : events_of begin bytes ≡ event.Head o.status ∷ (map event.Trailers (option_to_list o.trailers) ++ (map event_of told ++ end_at place))

pub answer_reads : (bytes head rest : List ℕ) (o : Opening) (place : ContentPlace) (told : List FrameEvent) → bytes ≡ head ++ rest → IsHead head → opening head ≡ Ok o
    → BodyDoes (opened_body (length head) o) rest place told
    → AnswerDoes bytes o (contents.after (opened_body (length head) o) rest) place told
answer_reads bytes head rest o place told e is says does =
    let first = head_reads head is in
    let c = opened_body (length head) o in
    let state : after begin head ≡ in_body c = first.0 ∙ ap (opened (length head)) says in
    let tells : events_of begin head ≡ opening_told o c = first.1 ∙ ap (opened_told (length head)) says in
    let front : List WebEvent = map event.Trailers (option_to_list o.trailers) in
    let more : List WebEvent = map event_of (contents.events_of c rest) ++ end_told (place_of c) (place_of (contents.after c rest)) in
    record {
      state = ap (after begin) e ∙ after-append begin head rest ∙ ap (λ (s : AnswerState). after s rest) state ∙ after-in_body c rest;
      place_is = does.place_is;
      events_are =
          ap (events_of begin) e ∙ events_of-append begin head rest
          ∙ ap (λ (t : List WebEvent). t ++ events_of (after begin head) rest) tells
          ∙ ap (λ (s : AnswerState). opening_told o c ++ events_of s rest) state
          ∙ ap (λ (t : List WebEvent). opening_told o c ++ t) (events-in_body c rest)
          ∙ ap (λ (t : List WebEvent). event.Head o.status ∷ t)
          (append_assoc front (end_at (place_of c)) more
          ∙ ap (λ (t : List WebEvent). front ++ t)
          (end_once (place_of c) (place_of (contents.after c rest)) (contents.events_of c rest) (ended_by c rest (place_of c) refl)
          ∙ ap (λ (t : List FrameEvent). map event_of t ++ end_at (place_of (contents.after c rest))) does.told_is
          ∙ ap (λ (p : ContentPlace). map event_of told ++ end_at p) does.place_is));
    }

-- ---- bodies of frames

pub frames_told : (messages : List (List ℕ)) (trailers : Option Trailers) → map event_of (events messages trailers) ≡ frame_events messages trailers
frames_told messages trailers =
    map-append event_of (map frame.Message messages) (map frame.Trailers (option_to_list trailers))
    ∙ ap (λ (t : List WebEvent). t ++ map event_of (map frame.Trailers (option_to_list trailers))) (map-map event_of frame.Message messages)
    ∙ ap (λ (t : List WebEvent). map event.Message messages ++ t) (map-map event_of frame.Trailers (option_to_list trailers))

-- ---- bodies without payload

good_no_frames : IsGood no_frames.place
good_no_frames fault e = cc

-- a body of the payload, behind trailers in the head
abbrev pub bare_at : BodyKind → ℕ → List ℕ → List ℕ → Content
bare_at kind at bytes payload = record { body = bodies.after (bodies.begin kind at) bytes; frames = frames.after no_frames payload }

bare_does : (trailers : Trailers) (kind : BodyKind) (at : ℕ) (bytes payload : List ℕ) (place : ContentPlace) → bodies.payload_after (bodies.begin kind at) bytes ≡ payload
    → place_of (bare_at kind at bytes payload) ≡ place → frames.events_of no_frames payload ≡ [] → BodyDoes (begin_body (Some trailers) kind at) bytes place []
bare_does trailers kind at bytes payload place e stands silent = record {
  place_is = ap place_of (after-parts (begin_body (Some trailers) kind at) bytes ∙ ap (bare_at kind at bytes) e) ∙ stands;
  told_is = events_of-parts (begin_body (Some trailers) kind at) bytes ∙ ap (frames.events_of no_frames) e ∙ silent;
}

no_frames-nil : frames.after no_frames [] ≡ no_frames
no_frames-nil = machine.after-nil no_frames

pub no_frames-some : (b : ℕ) (more : List ℕ) → (frames.after no_frames (b ∷ more) ≡ frames.refused_at Response frame_fault.AfterTrailers)
    × (frames.events_of no_frames (b ∷ more) ≡ [])
no_frames-some b more = (
  machine.after-cons no_frames b more ∙ ap (λ (s : FrameState). frames.after s more) (machine.frame_step-over Response [] b)
      ∙ machine.after-refused Response frame_fault.AfterTrailers [] more,
  machine.events_of-cons no_frames b more
      ∙ ap (λ (o : Option FrameEvent). option_to_list o ++ frames.events_of (frames.frame_step no_frames b) more) (machine.frame_event-over Response [] b)
      ∙ ap (λ (s : FrameState). frames.events_of s more) (machine.frame_step-over Response [] b)
      ∙ machine.events_of-refused Response frame_fault.AfterTrailers [] more,
)

pub empty_good : IsGood (frames.after no_frames []).place
empty_good fault e = good_no_frames fault (ap (λ (s : FrameState). s.place) (sym no_frames-nil) ∙ e)

pub empty_complete : is_complete (frames.after no_frames []) ≡ true
empty_complete = ap is_complete no_frames-nil

empty_silent : frames.events_of no_frames [] ≡ []
empty_silent = machine.events_of-nil no_frames

pub bare_begun : (trailers : Trailers) (kind : BodyKind) (at : ℕ) (bytes : List ℕ) → body_words.IsBegun kind bytes []
    → BodyDoes (begin_body (Some trailers) kind at) bytes Open []
bare_begun trailers kind at bytes x =
    let y = (bodies_are_read.begun kind at bytes []).0 x in
    bare_does trailers kind at bytes [] Open y.1 (place-open (bare_at kind at bytes []) empty_good y.0) empty_silent

bare_whole : (trailers : Trailers) (kind : BodyKind) (at : ℕ) (bytes : List ℕ) → HasBody kind bytes []
    → BodyDoes (begin_body (Some trailers) kind at) bytes Over []
bare_whole trailers kind at bytes x =
    let y = (bodies_are_read.over kind at bytes []).0 x in
    bare_does trailers kind at bytes [] Over y.1 (place-over (bare_at kind at bytes []) empty_good y.0 empty_complete) empty_silent

bare_fault : (trailers : Trailers) (kind : BodyKind) (at : ℕ) (bytes : List ℕ) (fault : WebFault) → IsBareFault kind at bytes fault
    → BodyDoes (begin_body (Some trailers) kind at) bytes (Refused fault) []
bare_fault trailers kind at bytes fault (bad_payload front last e before has is) =
    let some = no_frames-some last [] in
    bare_does trailers kind at bytes (last ∷ []) (Refused fault) (payload_is kind at bytes (last ∷ []) has)
    (place-bad_frames (bare_at kind at bytes (last ∷ [])) frame_fault.AfterTrailers (ap (λ (s : FrameState). s.place) some.0) ∙ ap Refused (sym is)) some.1
bare_fault trailers kind at bytes fault (bad_framing found settled is) =
    let y = (bodies_are_read.refused kind at bytes [] found).0
    (record { settled = bytes; rest = []; bytes_are = sym (append-nil bytes); is_fault = settled }) in
    bare_does trailers kind at bytes [] (Refused fault) y.1
    (place-bad_body (bare_at kind at bytes []) found empty_good y.0 ∙ ap Refused (sym is)) empty_silent

-- ---- answers

-- what an answer says
abbrev pub Says : List ℕ → ContentPlace → List WebEvent → Type 0
Says bytes place told = (standing (after begin bytes) ≡ place) × (events_of begin bytes ≡ told)

-- what a body of frames says, and one that may have none
module _ (bytes head rest : List ℕ) (r : ResponseHead) (place : ContentPlace) (opens : Option Trailers) (opening : HasOpening bytes head rest r opens) where
  answer_says : (told : List FrameEvent) → BodyDoes (opened_body (length head) (opening_is r opens)) rest place told
      → Says bytes place (event.Head r.status ∷ (map event.Trailers (option_to_list opens) ++ (map event_of told ++ end_at place)))
  answer_says told does =
      let answer = answer_reads bytes head rest (opening_is r opens) place told opening.bytes_are opening.is_head
      (right_opening head r opens opening.says opening.in_head) does in
      (ap standing answer.state ∙ answer.place_is, answer.events_are)

frames_says : (bytes head rest : List ℕ) (r : ResponseHead) (place : ContentPlace) → HasOpening bytes head rest r None → (messages : List (List ℕ)) (trailers : Option Trailers)
    → (place_of (contents.after (contents.begin Response r.body (length head)) rest) ≡ place)
    × (contents.events_of (contents.begin Response r.body (length head)) rest ≡ events messages trailers)
    → Says bytes place (event.Head r.status ∷ (frame_events messages trailers ++ end_at place))
frames_says bytes head rest r place opening messages trailers does =
    let said = answer_says bytes head rest r place None opening (events messages trailers) (record { place_is = does.0; told_is = does.1 }) in
    (said.0, said.1 ∙ ap (λ (t : List WebEvent). event.Head r.status ∷ (t ++ end_at place)) (frames_told messages trailers))

whole_body : (bytes head rest : List ℕ) (r : ResponseHead) (opens : Option Trailers) (more : List WebEvent) → HasOpening bytes head rest r opens
    → IsWholeBody opens r.body rest more → Says bytes Over (event.Head r.status ∷ more ++ event.End ∷ [])
whole_body bytes head rest r None more opening (messages, trailers, x, is) =
    let said = frames_says bytes head rest r Over opening messages trailers (whole_told Response r.body (length head) rest messages trailers x) in
    (said.0, said.1 ∙ ap (λ (t : List WebEvent). event.Head r.status ∷ (t ++ event.End ∷ [])) (sym is))
whole_body bytes head rest r (Some opens) more opening (x, is) =
    let said = answer_says bytes head rest r Over (Some opens) opening [] (bare_whole opens r.body (length head) rest x) in
    (said.0, said.1 ∙ ap (λ (t : List WebEvent). event.Head r.status ∷ (t ++ event.End ∷ [])) (sym is))

begun_body : (bytes head rest : List ℕ) (r : ResponseHead) (opens : Option Trailers) (more : List WebEvent) → HasOpening bytes head rest r opens
    → IsBegunBody opens r.body rest more → Says bytes Open (event.Head r.status ∷ more)
begun_body bytes head rest r None more opening (messages, trailers, x, is) =
    let said = frames_says bytes head rest r Open opening messages trailers (begun_told Response r.body (length head) rest messages trailers x) in
    (said.0, said.1 ∙ ap (λ (t : List WebEvent). event.Head r.status ∷ t) (append-nil (frame_events messages trailers) ∙ sym is))
begun_body bytes head rest r (Some opens) more opening (x, is) =
    let said = answer_says bytes head rest r Open (Some opens) opening [] (bare_begun opens r.body (length head) rest x) in
    (said.0, said.1 ∙ ap (λ (t : List WebEvent). event.Head r.status ∷ t) (sym is))

fault_body : (bytes head rest : List ℕ) (r : ResponseHead) (opens : Option Trailers) (more : List WebEvent) (fault : WebFault) → HasOpening bytes head rest r opens
    → IsFaultyBody opens r.body (length head) rest more fault → Says bytes (Refused fault) (event.Head r.status ∷ more)
fault_body bytes head rest r None more fault opening (messages, trailers, x, is) =
    let said = frames_says bytes head rest r (Refused fault) opening messages trailers (fault_told Response r.body (length head) rest messages trailers fault x) in
    (said.0, said.1 ∙ ap (λ (t : List WebEvent). event.Head r.status ∷ t) (append-nil (frame_events messages trailers) ∙ sym is))
fault_body bytes head rest r (Some opens) more fault opening (x, is) =
    let said = answer_says bytes head rest r (Refused fault) (Some opens) opening [] (bare_fault opens r.body (length head) rest fault x) in
    (said.0, said.1 ∙ ap (λ (t : List WebEvent). event.Head r.status ∷ t) (sym is))

moved : (bytes : List ℕ) (place : ContentPlace) (told other : List WebEvent) → other ≡ told → Says bytes place told → Says bytes place other
moved bytes place told other e x = (x.0, x.1 ∙ sym e)

pub whole_says : (bytes : List ℕ) (told : List WebEvent) → HasAnswer bytes told → Says bytes Over told
whole_says bytes told x =
    moved bytes Over (event.Head x.r.status ∷ x.more ++ event.End ∷ []) told x.told_is
    (whole_body bytes x.head x.rest x.r x.trailers x.more x.opening x.body)

pub begun_says : (bytes : List ℕ) (told : List WebEvent) → BeginsAnswer bytes told → Says bytes Open told
begun_says bytes told (within_head begun none) =
    let does = head_open heads.begin bytes ((heads_read.heads_are_read.within bytes).0 begun) in
    (ap standing does.0, does.1 ∙ sym none)
begun_says bytes told (within_body x) =
    moved bytes Open (event.Head x.r.status ∷ x.more) told x.told_is (begun_body bytes x.head x.rest x.r x.trailers x.more x.opening x.body)

pub fault_says : (bytes : List ℕ) (told : List WebEvent) (fault : WebFault) → IsAnswerFault bytes told fault → Says bytes (Refused fault) told
fault_says bytes told fault (too_long is none e) =
    let does = too_long_reads bytes is in (ap standing does.0 ∙ ap Refused (sym e), does.1 ∙ sym none)
fault_says bytes told fault (standard.bad_head found is says none e) =
    let does = head_reads bytes is in
    let wrong : opening bytes ≡ Err (fault_of_head found) = opening-says bytes (Err found) says in (
      ap standing (does.0 ∙ ap (opened (length bytes)) wrong) ∙ ap Refused (sym e),
      does.1 ∙ ap (opened_told (length bytes)) wrong ∙ sym none,
    )
fault_says bytes told fault (bad_trailers x none e) =
    let does = head_reads bytes x.is_head in
    let wrong = wrong_opening bytes x (λ trailers f. ValuesSay-trailers_of x.status x.r.grpc_message trailers f) in (
      ap standing (does.0 ∙ ap (opened (length bytes)) wrong) ∙ ap Refused (sym e),
      does.1 ∙ ap (opened_told (length bytes)) wrong ∙ sym none,
    )
fault_says bytes told fault (faulty_body x) =
    moved bytes (Refused fault) (event.Head x.r.status ∷ x.more) told x.told_is
    (fault_body bytes x.head x.rest x.r x.trailers x.more fault x.opening x.body)

pub refused_says : (bytes : List ℕ) (told : List WebEvent) (fault : WebFault) → HasAnswerFault bytes told fault → Says bytes (Refused fault) told
refused_says bytes told fault x =
    let first = fault_says x.settled told fault x.is_fault in
    let stays = refused-stays (after begin x.settled) x.rest fault first.0 in (
      ap (λ (b : List ℕ). standing (after begin b)) x.bytes_are ∙ ap standing (after-append begin x.settled x.rest) ∙ stays.0,
      ap (events_of begin) x.bytes_are ∙ events_of-append begin x.settled x.rest
          ∙ ap (λ (t : List WebEvent). events_of begin x.settled ++ t) stays.1 ∙ append-nil (events_of begin x.settled) ∙ first.1,
    )
