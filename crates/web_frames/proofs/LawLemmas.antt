-- The laws of frames, for all bytes.
use Rattle.std.proofs.Common.{◌≡◌, ℕ, ◌≤◌, true, List, [], ◌∷◌, ◌++◌, length, refl, sym, ap, ◌∙◌, subst, append-nil, Option, Some, None, arith}
use Rattle.std.proofs.lemmas.Bool.{false≢true, eqb-true}
use Rattle.std.proofs.lemmas.List.{nil_from_length}
use Rattle.web_frames.specs.declared.limits.Side.{Side}
use Rattle.web_frames.specs.declared.limits.Side.TheVariants.{Request, Response}
use Rattle.web_frames.specs.declared.fault.FrameFault.{FrameFault}
use Rattle.web_frames.specs.declared.status.Trailers.{Trailers}
use Rattle.web_frames.specs.declared.event.FrameEvent.{FrameEvent}
use Rattle.web_frames.specs.declared.event.FrameEvent.TheVariants as event
use Rattle.web_frames.specs.declared.state.FramePlace.{FramePlace}
use Rattle.web_frames.specs.declared.state.FramePlace.TheVariants.{Open, Whole, Over, Refused}
use Rattle.web_frames.specs.Machine.{frame_limit, frame, FrameState, refused_at, begin, after, events_of, between_at, is_between, whole_at, is_whole}
use Rattle.web_frames.specs.Standard.{TrailersSay, IsBytes, IsMessage, Frames, IsFault, IsRefused, StandsAt, events}
use Rattle.web_frames.specs.Laws.{FramesAreRead, WholeFramesAreRead, FaultsAreRead, RequestsAreRead, WrittenFramesAreRead}
use Rattle.web_frames.proofs.MachineLemmas.{after-append, events_of-append, after-refused}
use Rattle.web_frames.proofs.ReadingLemmas.{plain_flag}
use Rattle.web_frames.proofs.ReadsLemmas.{given, only, run_refused}
use Rattle.web_frames.proofs.FrameLemmas.{append_some, no_request_trailers, run_message, run_frames, place_of, GoesOn-Frames}
use Rattle.web_frames.proofs.FaultLemmas.{SettlesLast-IsFault}

pub frames_are_read : FramesAreRead
frames_are_read = record { given = given; only = only }

-- ---- whole frames

between_place_of : (side : Side) (messages : List (List ℕ)) (trailers : Option Trailers) → between_at (place_of side messages trailers) [] ≡ true
between_place_of Request [] trailers = refl
between_place_of Request (message ∷ messages) trailers = refl
between_place_of Response messages None = refl
between_place_of Response messages (Some trailers) = refl

whole_told : (side : Side) (bytes : List ℕ) (messages : List (List ℕ)) (trailers : Option Trailers) → Frames side bytes messages trailers
    → (events_of (begin side) bytes ≡ events messages trailers) × (is_between (after (begin side) bytes) ≡ true)
whole_told side bytes messages trailers frames =
    let read = run_frames side bytes messages trailers frames in
    (read.1, ap is_between read.0 ∙ between_place_of side messages trailers)

frames_between : (place : FramePlace) (side : Side) (bytes : List ℕ) (messages : List (List ℕ)) (trailers : Option Trailers) (held : List ℕ) → StandsAt place side bytes messages trailers held
    → between_at place held ≡ true → Frames side bytes messages trailers
frames_between Open side bytes messages trailers held (front, goes, none, whole, begun) between =
    let nothing : held ≡ [] = nil_from_length held (eqb-true (length held) 0 between) in
    let same : bytes ≡ front = whole ∙ ap (λ (b : List ℕ). front ++ b) nothing ∙ append-nil front in
    subst (λ (b : List ℕ). Frames side b messages trailers) (sym same)
    (subst (λ (t : Option Trailers). Frames side front messages t) (sym none) (GoesOn-Frames side front messages goes))
frames_between Whole side bytes messages trailers held (side_is, frames, one, none) between = frames
frames_between Over side bytes messages trailers held (side_is, frames, some, none) between = frames
frames_between (Refused fault) side bytes messages trailers held stands between = absurd (false≢true between)

whole_between : (side : Side) (bytes : List ℕ) → IsBytes bytes → is_between (after (begin side) bytes) ≡ true
    → (messages : List (List ℕ)) × (trailers : Option Trailers) × Frames side bytes messages trailers
whole_between side bytes all between =
    let state = after (begin side) bytes in
    let reads = given side bytes all in
    (reads.messages, reads.trailers, frames_between state.place side bytes reads.messages reads.trailers state.held reads.stands between)

-- messages and trailers are told apart
pub same_events : (messages others : List (List ℕ)) (trailers other : Option Trailers) → events messages trailers ≡ events others other → (messages ≡ others) × (trailers ≡ other)
same_events [] [] None None e = (refl, refl)
same_events [] [] None (Some t) e = absurd (cc)
same_events [] [] (Some t) None e = absurd (cc)
same_events [] [] (Some t) (Some u) e = (refl, cc)
same_events [] (m ∷ others) None other e = absurd (cc)
same_events [] (m ∷ others) (Some t) other e = absurd (cc)
same_events (m ∷ messages) [] trailers None e = absurd (cc)
same_events (m ∷ messages) [] trailers (Some t) e = absurd (cc)
same_events (m ∷ messages) (n ∷ others) trailers other e =
    let first : m ≡ n = cc in
    let rest : events messages trailers ≡ events others other = cc in
    let both = same_events messages others trailers other rest in
    (let tail = both.0 in cc, both.1)

whole_one : (side : Side) (bytes : List ℕ) (messages others : List (List ℕ)) (trailers other : Option Trailers) → Frames side bytes messages trailers → Frames side bytes others other
    → (messages ≡ others) × (trailers ≡ other)
whole_one side bytes messages others trailers other first second =
    same_events messages others trailers other (sym (whole_told side bytes messages trailers first).0 ∙ (whole_told side bytes others other second).0)

pub whole_frames_are_read : WholeFramesAreRead
whole_frames_are_read = record { told = whole_told; whole = whole_between; one = whole_one }

-- ---- faults

refused_by : (place : FramePlace) (side : Side) (bytes : List ℕ) (messages : List (List ℕ)) (trailers : Option Trailers) (held : List ℕ) (fault : FrameFault) → place ≡ Refused fault
    → StandsAt place side bytes messages trailers held → IsRefused side bytes messages trailers fault
refused_by place side bytes messages trailers held fault e stands =
    (subst (λ (p : FramePlace). StandsAt p side bytes messages trailers held) e stands).0

faults_refused : (side : Side) (bytes : List ℕ) (fault : FrameFault) → IsBytes bytes → (after (begin side) bytes).place ≡ Refused fault
    → (messages : List (List ℕ)) × (trailers : Option Trailers) × IsRefused side bytes messages trailers fault × (events_of (begin side) bytes ≡ events messages trailers)
faults_refused side bytes fault all e =
    let state = after (begin side) bytes in
    let reads = given side bytes all in
    (reads.messages, reads.trailers, refused_by state.place side bytes reads.messages reads.trailers state.held fault e reads.stands, reads.told_is)

faults_settled : (side : Side) (bytes : List ℕ) (messages : List (List ℕ)) (trailers : Option Trailers) (fault : FrameFault) → IsRefused side bytes messages trailers fault
    → ((after (begin side) bytes).place ≡ Refused fault) × (events_of (begin side) bytes ≡ events messages trailers)
faults_settled side bytes messages trailers fault is =
    let read = run_refused side bytes messages trailers fault is in (ap (λ (s : FrameState). s.place) read.0, read.1)

-- a proper beginning of bytes is a beginning of them without the last
pub longer_front : (front back init : List ℕ) (c last : ℕ) → front ++ c ∷ back ≡ init ++ last ∷ [] → (middle : List ℕ) × (init ≡ front ++ middle)
longer_front [] back init c last e = (init, refl)
longer_front (b ∷ front) back [] c last e = let rest : front ++ c ∷ back ≡ [] = cc in absurd (append_some front (c ∷ back) (λ none. cc) rest)
longer_front (b ∷ front) back (d ∷ init) c last e =
    let first : d ≡ b = cc in
    let rest : front ++ c ∷ back ≡ init ++ last ∷ [] = cc in
    let found = longer_front front back init c last rest in
    (found.0, let tail = found.1 in cc)

faults_shortest : (side : Side) (front back : List ℕ) (messages others : List (List ℕ)) (trailers other : Option Trailers) (fault first : FrameFault)
    → IsFault side (front ++ back) messages trailers fault → IsFault side front others other first → back ≡ []
faults_shortest side front [] messages others trailers other fault first is earlier = refl
faults_shortest side front (c ∷ back) messages others trailers other fault first is earlier =
    let last = SettlesLast-IsFault side (front ++ c ∷ back) messages trailers fault is in
    let before = SettlesLast-IsFault side front others other first earlier in
    let found = longer_front front back last.front c last.last last.whole in
    let state : after (begin side) last.front ≡ refused_at side first =
    ap (after (begin side)) found.1 ∙ after-append (begin side) front found.0 ∙ ap (λ (s : FrameState). after s found.0) before.state ∙ after-refused side first [] found.0 in
    absurd (last.before first (ap (λ (s : FrameState). s.place) state))

faults_one : (side : Side) (bytes : List ℕ) (messages others : List (List ℕ)) (trailers other : Option Trailers) (fault second : FrameFault)
    → IsFault side bytes messages trailers fault → IsFault side bytes others other second → fault ≡ second
faults_one side bytes messages others trailers other fault second is also =
    let one = SettlesLast-IsFault side bytes messages trailers fault is in
    let two = SettlesLast-IsFault side bytes others other second also in
    let places : Refused fault ≡ Refused second = ap (λ (s : FrameState). s.place) (sym one.state ∙ two.state) in
    cc

pub faults_are_read : FaultsAreRead
faults_are_read = record { refused = faults_refused; settled = faults_settled; shortest = faults_shortest; one = faults_one }

-- ---- requests

-- a request whose message is there
pub record HasMessage (bytes : List ℕ) (told : List FrameEvent) : Type 0 where
  pub message : List ℕ
  pub frames : Frames Request bytes (message ∷ []) None
  pub tells : told ≡ event.Message message ∷ []

request_by : (bytes : List ℕ) (messages : List (List ℕ)) (trailers : Option Trailers) (told : List FrameEvent) → Frames Request bytes messages trailers → length messages ≡ 1
    → told ≡ events messages trailers → HasMessage bytes told
request_by bytes [] trailers told frames one tells = absurd (omega arith)
request_by bytes (message ∷ []) None told frames one tells = record { message = message; frames = frames; tells = tells }
request_by bytes (message ∷ []) (Some trailers) told frames one tells = let last = frames.last in absurd (no_request_trailers frames.back last.0 last.1)
request_by bytes (message ∷ other ∷ messages) trailers told frames one tells = absurd (omega arith)

request_at : (place : FramePlace) (bytes : List ℕ) (messages : List (List ℕ)) (trailers : Option Trailers) (held : List ℕ) (told : List FrameEvent) → StandsAt place Request bytes messages trailers held
    → whole_at place ≡ true → told ≡ events messages trailers → HasMessage bytes told
request_at Open bytes messages trailers held told stands whole tells = absurd (false≢true whole)
request_at Whole bytes messages trailers held told (side_is, frames, one, none) whole tells = request_by bytes messages trailers told frames one tells
request_at Over bytes messages trailers held told stands whole tells = absurd (false≢true whole)
request_at (Refused fault) bytes messages trailers held told stands whole tells = absurd (false≢true whole)

request_whole : (bytes : List ℕ) → IsBytes bytes → is_whole (after (begin Request) bytes) ≡ true
    → (message : List ℕ) × Frames Request bytes (message ∷ []) None × (events_of (begin Request) bytes ≡ event.Message message ∷ [])
request_whole bytes all whole =
    let state = after (begin Request) bytes in
    let reads = given Request bytes all in
    let has = request_at state.place bytes reads.messages reads.trailers state.held (events_of (begin Request) bytes) reads.stands whole reads.told_is in
    (has.message, has.frames, has.tells)

request_told : (bytes message : List ℕ) → Frames Request bytes (message ∷ []) None → is_whole (after (begin Request) bytes) ≡ true
request_told bytes message frames = ap is_whole (run_frames Request bytes (message ∷ []) None frames).0

pub requests_are_read : RequestsAreRead
requests_are_read = record { whole = request_whole; told = request_told }

-- ---- written frames

IsMessage-written : (side : Side) (message : List ℕ) → length message ≤ frame_limit side → IsMessage side (frame 0 message) message
IsMessage-written side message fits = record {
  flag = 0;
  frame = record { whole = refl; may_stand = plain_flag side; fits = fits };
  plain = λ set. set refl;
}

written_request : (message : List ℕ) → length message ≤ frame_limit Request → Frames Request (frame 0 message) (message ∷ []) None
written_request message fits = record {
  front = frame 0 message;
  back = [];
  whole = sym (append-nil (frame 0 message));
  first = (frame 0 message, [], sym (append-nil (frame 0 message)), IsMessage-written Request message fits, refl);
  last = refl;
  few = omega arith;
}

written_message : (message rest : List ℕ) → length message ≤ frame_limit Response
    → (events_of (begin Response) (frame 0 message ++ rest) ≡ event.Message message ∷ events_of (begin Response) rest)
    × (after (begin Response) (frame 0 message ++ rest) ≡ after (begin Response) rest)
written_message message rest fits =
    let read = run_message Response (frame 0 message) message (IsMessage-written Response message fits) in (
      events_of-append (begin Response) (frame 0 message) rest
          ∙ ap (λ (s : FrameState). events_of (begin Response) (frame 0 message) ++ events_of s rest) read.0
          ∙ ap (λ (e : List FrameEvent). e ++ events_of (begin Response) rest) read.1,
      after-append (begin Response) (frame 0 message) rest ∙ ap (λ (s : FrameState). after s rest) read.0,
    )

written_trailers_frame : (payload : List ℕ) (trailers : Trailers) → TrailersSay payload trailers → length payload ≤ frame_limit Response → Frames Response (frame 128 payload) [] (Some trailers)
written_trailers_frame payload trailers says fits = record {
  front = [];
  back = frame 128 payload;
  whole = refl;
  first = refl;
  last = (payload, record { flag = 128; frame = record { whole = refl; may_stand = λ set. set refl; fits = fits }; marked = λ e. cc }, says);
  few = tt;
}

pub written_frames_are_read : WrittenFramesAreRead
written_frames_are_read = record { request = written_request; message = written_message; trailers = written_trailers_frame }
