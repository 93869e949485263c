-- Whole frames, and beginnings of them, read from the beginning.
use Rattle.std.proofs.Common.{◌≡◌, ◌≢◌, ℕ, ◌≤◌, List, [], ◌∷◌, ◌++◌, length, map, refl, sym, ap, ◌∙◌, subst, append_assoc, append-nil, Option, Some, None, arith}
use Rattle.std.specs.Option.{option_to_list}
use Rattle.std.proofs.lemmas.Bool.{cond-true, cond-false}
use Rattle.std.proofs.lemmas.List.{length-append}
use Rattle.web_heads.proofs.LastLemmas.{last_of}
use Rattle.web_frames.specs.declared.limits.Side.{Side}
use Rattle.web_frames.specs.declared.limits.Side.TheVariants.{Request, Response}
use Rattle.web_frames.specs.declared.status.Trailers.{Trailers}
use Rattle.web_frames.specs.declared.event.FrameEvent.{FrameEvent}
use Rattle.web_frames.specs.declared.event.FrameEvent.TheVariants as event
use Rattle.web_frames.specs.declared.state.FramePlace.{FramePlace}
use Rattle.web_frames.specs.declared.state.FramePlace.TheVariants.{Open, Whole, Over}
use Rattle.web_frames.specs.Trailers.{trailers_in}
use Rattle.web_frames.specs.Machine.{frame, FrameState, Settled, told, is_trailers, told_trailers, told_by, settled_by, place_after, state_of, event_of, begin, after, events_of}
use Rattle.web_frames.specs.Standard.{TrailersSay, IsTrailers, IsFrame, IsMessage, IsTrailersFrame, AreMessages, AreTrailers, Frames, GoesOn, IsBegun, events}
use Rattle.web_frames.proofs.TrailerLemmas.{trailers_in-TrailersSay}
use Rattle.web_frames.proofs.MachineLemmas.{after-nil, after-append, events_of-nil, events_of-append, open_at, SettlesNothing, after-held, events_of-held, after-settled, events_of-settled}
use Rattle.web_frames.proofs.SettledLemmas.{some_length, settled_by-IsFrame, settled_by-IsBegun, is_trailers-true, is_trailers-false, frame_limit-small, frame-size_bytes}

-- ---- beginnings

pub append_some : (front back : List ℕ) → back ≢ [] → front ++ back ≢ []
append_some [] back some e = some e
append_some (b ∷ front) back some e = cc

pub append_one : (front : List ℕ) (b : ℕ) → front ++ b ∷ [] ≢ []
append_one [] b e = cc
append_one (c ∷ front) b e = cc

-- every beginning of these bytes that is not the whole is a beginning of a frame
abbrev pub BeginsFrame : Side → List ℕ → Type 0
BeginsFrame side bytes = (front back : List ℕ) → bytes ≡ front ++ back → back ≢ [] → IsBegun side front

-- a beginning of a frame is read and held
begun_nothing : (side : Side) (bytes : List ℕ) → ((front back : List ℕ) → bytes ≡ front ++ back → IsBegun side front) → SettlesNothing side [] bytes
begun_nothing side bytes all front back e some = settled_by-IsBegun side front (all front back e)

IsBegun-front : (side : Side) (front back : List ℕ) → IsBegun side (front ++ back) → IsBegun side front
IsBegun-front side front back is = record {
  more = back ++ is.more;
  flag = is.flag;
  payload = is.payload;
  lacks = append_some back is.more is.lacks;
  whole = sym (append_assoc front back is.more) ∙ is.whole;
  may_stand = is.may_stand;
  short = is.short;
  fits = λ many. is.fits (omega (arith, length-append front back));
}

pub run_begun : (side : Side) (held : List ℕ) → IsBegun side held → (after (begin side) held ≡ open_at side held) × (events_of (begin side) held ≡ [])
run_begun side held is =
    let all = begun_nothing side held (λ front back e. IsBegun-front side front back (subst (IsBegun side) e is)) in
    (after-held side [] held all, events_of-held side [] held all)

-- bytes whose proper beginnings settle nothing are settled by their last one
pub record Runs (side : Side) (bytes : List ℕ) : Type 0 where
  pub front : List ℕ
  pub last : ℕ
  pub whole : bytes ≡ front ++ last ∷ []
  pub held : after (begin side) front ≡ open_at side front
  pub state : after (begin side) bytes ≡ state_of side bytes (settled_by side bytes)
  pub tells : events_of (begin side) bytes ≡ option_to_list (event_of (settled_by side bytes))

pub run : (side : Side) (bytes : List ℕ) → bytes ≢ [] → BeginsFrame side bytes → Runs side bytes
run side bytes some begins =
    let split = last_of bytes (some_length bytes some) in
    let fronts : (front back : List ℕ) → split.front ≡ front ++ back → IsBegun side front = λ front back e.
    begins front (back ++ split.last ∷ []) (split.bytes_are ∙ ap (λ (first : List ℕ). first ++ split.last ∷ []) e ∙ append_assoc front back (split.last ∷ [])) (append_one back split.last) in
    let all = begun_nothing side split.front fronts in
    record {
      front = split.front;
      last = split.last;
      whole = split.bytes_are;
      held = after-held side [] split.front all;
      state = ap (after (begin side)) split.bytes_are ∙ after-settled side [] split.front split.last all ∙ ap (λ (b : List ℕ). state_of side b (settled_by side b)) (sym split.bytes_are);
      tells = ap (events_of (begin side)) split.bytes_are ∙ events_of-settled side [] split.front split.last all ∙ ap (λ (b : List ℕ). option_to_list (event_of (settled_by side b))) (sym split.bytes_are);
    }

-- ---- whole frames

frame_some : (flag : ℕ) (payload : List ℕ) → frame flag payload ≢ []
frame_some flag payload e = let cons = frame-size_bytes flag payload in cc

IsFrame-some : (side : Side) (bytes : List ℕ) (flag : ℕ) (payload : List ℕ) → IsFrame side bytes flag payload → bytes ≢ []
IsFrame-some side bytes flag payload is e = frame_some flag payload (sym is.whole ∙ e)

BeginsFrame-IsFrame : (side : Side) (bytes : List ℕ) (flag : ℕ) (payload : List ℕ) → IsFrame side bytes flag payload → BeginsFrame side bytes
BeginsFrame-IsFrame side bytes flag payload is front back e some =
    let fits = is.fits in
    let small = frame_limit-small side in
    record {
      more = back;
      flag = flag;
      payload = payload;
      lacks = some;
      whole = sym e ∙ is.whole;
      may_stand = is.may_stand;
      short = omega arith;
      fits = λ many. fits;
    }

pub run_frame : (side : Side) (bytes : List ℕ) (flag : ℕ) (payload : List ℕ) → IsFrame side bytes flag payload → Runs side bytes
run_frame side bytes flag payload is = run side bytes (IsFrame-some side bytes flag payload is) (BeginsFrame-IsFrame side bytes flag payload is)

pub told_by-plain : (flag : ℕ) (payload : List ℕ) → ¬ IsTrailers flag → told_by flag payload ≡ told (event.Message payload)
unfolding told_by
told_by-plain flag payload plain = cond-false (is_trailers flag) _ _ (is_trailers-false flag plain)

pub told_by-marked : (flag : ℕ) (payload : List ℕ) → IsTrailers flag → told_by flag payload ≡ told_trailers (trailers_in payload)
unfolding told_by
told_by-marked flag payload marked = cond-true (is_trailers flag) _ _ (is_trailers-true flag marked)

pub settled_by-IsMessage : (side : Side) (bytes message : List ℕ) → IsMessage side bytes message → settled_by side bytes ≡ told (event.Message message)
settled_by-IsMessage side bytes message is = settled_by-IsFrame side bytes is.flag message is.frame ∙ told_by-plain is.flag message is.plain

pub settled_by-trailers : (side : Side) (bytes payload : List ℕ) → IsTrailersFrame side bytes payload → settled_by side bytes ≡ told_trailers (trailers_in payload)
settled_by-trailers side bytes payload is = settled_by-IsFrame side bytes is.flag payload is.frame ∙ told_by-marked is.flag payload is.marked

-- where a reader stands that holds nothing
abbrev pub stands_at : Side → FramePlace → FrameState
stands_at side place = record { side = side; place = place; held = [] }

pub run_message : (side : Side) (bytes message : List ℕ) → IsMessage side bytes message
    → (after (begin side) bytes ≡ stands_at side (place_after side)) × (events_of (begin side) bytes ≡ event.Message message ∷ [])
run_message side bytes message is =
    let runs = run_frame side bytes is.flag message is.frame in
    let settled = settled_by-IsMessage side bytes message is in
    (runs.state ∙ ap (state_of side bytes) settled, runs.tells ∙ ap (λ (s : Settled). option_to_list (event_of s)) settled)

-- ---- messages of a response

run_messages : (bytes : List ℕ) (messages : List (List ℕ)) → AreMessages Response bytes messages
    → (after (begin Response) bytes ≡ begin Response) × (events_of (begin Response) bytes ≡ map event.Message messages)
run_messages bytes [] are = (ap (after (begin Response)) are ∙ after-nil (begin Response), ap (events_of (begin Response)) are ∙ events_of-nil (begin Response))
run_messages bytes (message ∷ messages) are =
    let head = are.0 in
    let rest = are.1 in
    let first = run_message Response head message are.3 in
    let others = run_messages rest messages are.4 in (
      ap (after (begin Response)) are.2
          ∙ after-append (begin Response) head rest
          ∙ ap (λ (s : FrameState). after s rest) first.0
          ∙ others.0,
      ap (events_of (begin Response)) are.2
          ∙ events_of-append (begin Response) head rest
          ∙ ap (λ (s : FrameState). events_of (begin Response) head ++ events_of s rest) first.0
          ∙ ap (λ (front : List FrameEvent). front ++ events_of (begin Response) rest) first.1
          ∙ ap (λ (back : List FrameEvent). event.Message message ∷ back) others.1,
    )

pub run_goes_on : (side : Side) (bytes : List ℕ) (messages : List (List ℕ)) → GoesOn side bytes messages
    → (after (begin side) bytes ≡ begin side) × (events_of (begin side) bytes ≡ map event.Message messages)
run_goes_on Request bytes messages goes =
    let none : bytes ≡ [] = subst (AreMessages Request bytes) goes.may goes.are in (
      ap (after (begin Request)) none ∙ after-nil (begin Request),
      ap (events_of (begin Request)) none ∙ events_of-nil (begin Request) ∙ ap (map event.Message) (sym goes.may),
    )
run_goes_on Response bytes messages goes = run_messages bytes messages goes.are

-- ---- a payload of whole frames

-- where a reader stands after whole frames
abbrev pub place_of : Side → List (List ℕ) → Option Trailers → FramePlace
place_of Request [] trailers = Open
place_of Request (message ∷ messages) trailers = Whole
place_of Response messages None = Open
place_of Response messages (Some trailers) = Over

pub no_request_trailers : (bytes payload : List ℕ) → ¬ IsTrailersFrame Request bytes payload
no_request_trailers bytes payload is = let may = is.frame.may_stand in may.1 is.marked

request_trailers : (bytes : List ℕ) (trailers : Option Trailers) → AreTrailers Request bytes trailers → (bytes ≡ []) × (trailers ≡ None)
request_trailers bytes None are = (are, refl)
request_trailers bytes (Some trailers) are = absurd (no_request_trailers bytes are.0 are.1)

-- what is read of whole frames
abbrev pub ReadsAs : Side → List ℕ → List (List ℕ) → Option Trailers → FramePlace → Type 0
ReadsAs side bytes messages trailers place =
    (after (begin side) bytes ≡ stands_at side place) × (events_of (begin side) bytes ≡ events messages trailers)

one_message : (bytes : List ℕ) (message : List ℕ) → AreMessages Request bytes (message ∷ []) → IsMessage Request bytes message
one_message bytes message are =
    let same : bytes ≡ are.0 = are.2 ∙ ap (λ (rest : List ℕ). are.0 ++ rest) are.4 ∙ append-nil are.0 in
    subst (λ (b : List ℕ). IsMessage Request b message) (sym same) are.3

run_request : (bytes : List ℕ) (messages : List (List ℕ)) → AreMessages Request bytes messages → length messages ≤ 1 → ReadsAs Request bytes messages None (place_of Request messages None)
run_request bytes [] are few = (ap (after (begin Request)) are ∙ after-nil (begin Request), ap (events_of (begin Request)) are ∙ events_of-nil (begin Request))
run_request bytes (message ∷ []) are few = run_message Request bytes message (one_message bytes message are)
run_request bytes (message ∷ other ∷ messages) are few = absurd (omega arith)

run_trailers : (bytes payload : List ℕ) (trailers : Trailers) → IsTrailersFrame Response bytes payload → TrailersSay payload trailers
    → (after (begin Response) bytes ≡ stands_at Response Over) × (events_of (begin Response) bytes ≡ event.Trailers trailers ∷ [])
run_trailers bytes payload trailers is says =
    let runs = run_frame Response bytes is.flag payload is.frame in
    let settled = settled_by-trailers Response bytes payload is ∙ ap told_trailers (trailers_in-TrailersSay payload trailers says) in
    (runs.state ∙ ap (state_of Response bytes) settled, runs.tells ∙ ap (λ (s : Settled). option_to_list (event_of s)) settled)

run_response : (front back : List ℕ) (messages : List (List ℕ)) (trailers : Option Trailers) → AreMessages Response front messages → AreTrailers Response back trailers
    → ReadsAs Response (front ++ back) messages trailers (place_of Response messages trailers)
run_response front back messages None first last =
    let read = run_messages front messages first in
    let same : front ++ back ≡ front = ap (λ (b : List ℕ). front ++ b) last ∙ append-nil front in (
      ap (after (begin Response)) same ∙ read.0,
      ap (events_of (begin Response)) same ∙ read.1 ∙ sym (append-nil (map event.Message messages)),
    )
run_response front back messages (Some trailers) first last =
    let read = run_messages front messages first in
    let ends = run_trailers back last.0 trailers last.1 last.2 in (
      after-append (begin Response) front back ∙ ap (λ (s : FrameState). after s back) read.0 ∙ ends.0,
      events_of-append (begin Response) front back
          ∙ ap (λ (s : FrameState). events_of (begin Response) front ++ events_of s back) read.0
          ∙ ap (λ (e : List FrameEvent). e ++ events_of (begin Response) back) read.1
          ∙ ap (λ (e : List FrameEvent). map event.Message messages ++ e) ends.1,
    )

pub run_frames : (side : Side) (bytes : List ℕ) (messages : List (List ℕ)) (trailers : Option Trailers) → Frames side bytes messages trailers
    → ReadsAs side bytes messages trailers (place_of side messages trailers)
run_frames Request bytes messages trailers frames =
    let none = request_trailers frames.back trailers frames.last in
    let same : bytes ≡ frames.front = frames.whole ∙ ap (λ (b : List ℕ). frames.front ++ b) none.0 ∙ append-nil frames.front in
    let are : AreMessages Request bytes messages = subst (λ (b : List ℕ). AreMessages Request b messages) (sym same) frames.first in
    subst (λ (t : Option Trailers). ReadsAs Request bytes messages t (place_of Request messages t)) (sym none.1) (run_request bytes messages are frames.few)
run_frames Response bytes messages trailers frames =
    subst (λ (b : List ℕ). ReadsAs Response b messages trailers (place_of Response messages trailers)) (sym frames.whole)
    (run_response frames.front frames.back messages trailers frames.first frames.last)

-- bytes after frames, up to where a frame may begin
pub run_behind : (side : Side) (front back : List ℕ) (messages : List (List ℕ)) → GoesOn side front messages
    → (after (begin side) (front ++ back) ≡ after (begin side) back) × (events_of (begin side) (front ++ back) ≡ map event.Message messages ++ events_of (begin side) back)
run_behind side front back messages goes =
    let read = run_goes_on side front messages goes in (
      after-append (begin side) front back ∙ ap (λ (s : FrameState). after s back) read.0,
      events_of-append (begin side) front back
          ∙ ap (λ (s : FrameState). events_of (begin side) front ++ events_of s back) read.0
          ∙ ap (λ (e : List FrameEvent). e ++ events_of (begin side) back) read.1,
    )

-- a frame may begin, and no frame has
pub GoesOn-Frames : (side : Side) (bytes : List ℕ) (messages : List (List ℕ)) → GoesOn side bytes messages → Frames side bytes messages None
GoesOn-Frames Request bytes messages goes = record {
  front = bytes;
  back = [];
  whole = sym (append-nil bytes);
  first = goes.are;
  last = refl;
  few = let none = ap length goes.may in omega (arith, none);
}
GoesOn-Frames Response bytes messages goes = record {
  front = bytes;
  back = [];
  whole = sym (append-nil bytes);
  first = goes.are;
  last = refl;
  few = tt;
}
