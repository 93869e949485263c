-- Each fault is settled by the last byte of the bytes that its row names.
use Rattle.std.proofs.Common.{◌≡◌, ◌≢◌, ℕ, ◌^◌, ◌<◌, List, [], ◌∷◌, ◌++◌, length, map, refl, sym, ap, ◌∙◌, append_assoc, append-nil, Option, Some, None, arith}
use Rattle.std.specs.Prelude.{replicate, IsSome}
use Rattle.std.specs.Option.{option_to_list}
use Rattle.std.proofs.lemmas.Bool.{false≢true}
use Rattle.std.proofs.lemmas.List.{length-append, length-replicate}
use Rattle.web_frames.specs.declared.limits.Side.{Side}
use Rattle.web_frames.specs.declared.limits.Side.TheVariants.{Request, Response}
use Rattle.web_frames.specs.declared.fault.FrameFault.{FrameFault}
use Rattle.web_frames.specs.declared.fault.FrameFault.TheVariants.{FrameTooLong, Compressed, AfterMessage, AfterTrailers, BadTrailer, NoMessage, OutOfMemory}
use Rattle.web_frames.specs.declared.status.Trailers.{Trailers}
use Rattle.web_frames.specs.declared.event.FrameEvent.{FrameEvent}
use Rattle.web_frames.specs.declared.event.FrameEvent.TheVariants as event
use Rattle.web_frames.specs.declared.state.FramePlace.TheVariants.{Open, Whole, Over, Refused}
use Rattle.web_frames.specs.Trailers.{trailers_in}
use Rattle.web_frames.specs.Machine.{frame_limit, frame_head, FrameState, Settled, faulty, told_trailers, settled_by, refused_at, state_of, event_of, begin, after, events_of}
use Rattle.web_frames.specs.Standard.{TrailersSay, IsCompressed, IsTrailers, MayStand, Frames, GoesOn, IsFault, events}
use Rattle.web_frames.proofs.TrailerLemmas.{TrailersSay-trailers_in}
use Rattle.web_frames.proofs.MachineLemmas.{after-append, after-one, events_of-append, events_of-one, open_at, frame_step-whole, frame_event-whole, frame_step-over, frame_event-over}
use Rattle.web_frames.proofs.SettledLemmas.{some_length, length-size_bytes, frame_head-size_bytes, is_compressed-true, is_compressed-false, is_trailers-true, settled_by-compressed, settled_by-no_message, settled_by-headed, settled_by_length-too_long}
use Rattle.web_frames.proofs.ReadingLemmas.{IsBegun-nil}
use Rattle.web_frames.proofs.FrameLemmas.{append_some, BeginsFrame, Runs, run, run_frame, settled_by-trailers, stands_at, run_frames, run_behind}

-- the last of the bytes settles the fault, and no byte before it settles one
pub record SettlesLast (side : Side) (bytes : List ℕ) (messages : List (List ℕ)) (trailers : Option Trailers) (fault : FrameFault) : Type 0 where
  pub front : List ℕ
  pub last : ℕ
  pub whole : bytes ≡ front ++ last ∷ []
  pub before : (other : FrameFault) → (after (begin side) front).place ≢ Refused other
  pub state : after (begin side) bytes ≡ refused_at side fault
  pub tells : events_of (begin side) bytes ≡ events messages trailers

open_not_refused : (state : FrameState) (side : Side) (held : List ℕ) → state ≡ open_at side held → (other : FrameFault) → state.place ≢ Refused other
open_not_refused state side held e other is = let place : state.place ≡ Open = ap (λ (s : FrameState). s.place) e in cc

-- ---- a fault within a frame

settles_behind : (side : Side) (bytes front back : List ℕ) (messages : List (List ℕ)) (trailers : Option Trailers) (fault : FrameFault) → GoesOn side front messages
    → trailers ≡ None → bytes ≡ front ++ back → Runs side back → settled_by side back ≡ faulty fault → SettlesLast side bytes messages trailers fault
settles_behind side bytes front back messages trailers fault goes none whole runs settled =
    let read = run_behind side front back messages goes in
    let before = run_behind side front runs.front messages goes in
    record {
      front = front ++ runs.front;
      last = runs.last;
      whole = whole ∙ ap (λ (b : List ℕ). front ++ b) runs.whole ∙ sym (append_assoc front runs.front (runs.last ∷ []));
      before = open_not_refused (after (begin side) (front ++ runs.front)) side runs.front (before.0 ∙ runs.held);
      state = ap (after (begin side)) whole ∙ read.0 ∙ runs.state ∙ ap (state_of side back) settled;
      tells =
          ap (events_of (begin side)) whole ∙ read.1
          ∙ ap (λ (e : List FrameEvent). map event.Message messages ++ e) (runs.tells ∙ ap (λ (s : Settled). option_to_list (event_of s)) settled)
          ∙ ap (events messages) (sym none);
    }

-- one byte
begins_one : (side : Side) (flag : ℕ) → BeginsFrame side (flag ∷ [])
begins_one side flag [] back e some = IsBegun-nil side
begins_one side flag (c ∷ front) back e some = let rest : [] ≡ front ++ back = cc in absurd (append_some front back some (sym rest))

run_flag : (side : Side) (flag : ℕ) → Runs side (flag ∷ [])
run_flag side flag = run side (flag ∷ []) (λ e. cc) (begins_one side flag)

-- a flag and a length
length-frame_head : (flag count : ℕ) → length (frame_head flag count) ≡ 5
length-frame_head flag count = ap length (frame_head-size_bytes flag count) ∙ omega (arith, length-size_bytes count)

begins_head : (side : Side) (flag count : ℕ) → MayStand side flag → count < 2 ^ 32 → BeginsFrame side (frame_head flag count)
begins_head side flag count may short front back e some =
    let zeros : List ℕ = replicate count 0 in
    let size : length zeros ≡ count = length-replicate count 0 in
    record {
      more = back ++ zeros;
      flag = flag;
      payload = zeros;
      lacks = λ none. let l = ap length none in let s = some_length back some in absurd (omega (arith, length-append back zeros));
      whole = sym (append_assoc front back zeros) ∙ ap (λ (b : List ℕ). b ++ zeros) (sym e) ∙ ap (λ (n : ℕ). frame_head flag n ++ zeros) (sym size);
      may_stand = may;
      short = omega arith;
      fits = λ many.
          let five = length-frame_head flag count in
          let sum = ap length e in
          let s = some_length back some in
          absurd (omega (arith, length-append front back));
    }

frame_head_some : (flag count : ℕ) → frame_head flag count ≢ []
frame_head_some flag count e = let five = length-frame_head flag count in let none = ap length e in absurd (omega arith)

settled_too_long : (side : Side) (flag count : ℕ) → MayStand side flag → frame_limit side < count → count < 2 ^ 32 → settled_by side (frame_head flag count) ≡ faulty (FrameTooLong count)
settled_too_long side flag count may great short =
    ap (settled_by side) (frame_head-size_bytes flag count ∙ ap (λ (b : List ℕ). flag ∷ b) (sym (append-nil _)))
    ∙ settled_by-headed side flag count [] may short
    ∙ settled_by_length-too_long side flag count [] great

none_in_by : (payload : List ℕ) (found : Option Trailers) → trailers_in payload ≡ found → ((said : Trailers) → ¬ TrailersSay payload said) → found ≡ None
none_in_by payload None e never = refl
none_in_by payload (Some trailers) e never = absurd (never trailers (TrailersSay-trailers_in payload trailers e))

-- ---- a byte behind the last frame

behind_whole : (side : Side) (bytes front : List ℕ) (b : ℕ) (messages : List (List ℕ)) (trailers : Option Trailers) → side ≡ Request → Frames side front messages trailers
    → length messages ≡ 1 → bytes ≡ front ++ b ∷ [] → SettlesLast side bytes messages trailers AfterMessage
behind_whole Response bytes front b messages trailers side_is frames one whole = absurd (cc)
behind_whole Request bytes front b [] trailers side_is frames one whole = absurd (omega arith)
behind_whole Request bytes front b (message ∷ others) trailers side_is frames one whole =
    let read = run_frames Request front (message ∷ others) trailers frames in
    record {
      front = front;
      last = b;
      whole = whole;
      before = λ other is. let place : (after (begin Request) front).place ≡ Whole = ap (λ (s : FrameState). s.place) read.0 in cc;
      state =
          ap (after (begin Request)) whole ∙ after-append (begin Request) front (b ∷ [])
          ∙ ap (λ (s : FrameState). after s (b ∷ [])) read.0 ∙ after-one (stands_at Request Whole) b ∙ frame_step-whole Request [] b;
      tells =
          ap (events_of (begin Request)) whole ∙ events_of-append (begin Request) front (b ∷ [])
          ∙ ap (λ (s : FrameState). events_of (begin Request) front ++ events_of s (b ∷ [])) read.0
          ∙ ap (λ (e : List FrameEvent). events_of (begin Request) front ++ e) (events_of-one (stands_at Request Whole) b ∙ ap option_to_list (frame_event-whole Request [] b))
          ∙ append-nil (events_of (begin Request) front) ∙ read.1;
    }

behind_over : (side : Side) (bytes front : List ℕ) (b : ℕ) (messages : List (List ℕ)) (trailers : Option Trailers) → side ≡ Response → Frames side front messages trailers
    → IsSome trailers → bytes ≡ front ++ b ∷ [] → SettlesLast side bytes messages trailers AfterTrailers
behind_over Request bytes front b messages trailers side_is frames some whole = absurd (cc)
behind_over Response bytes front b messages None side_is frames some whole = absurd (false≢true some)
behind_over Response bytes front b messages (Some trailers) side_is frames some whole =
    let read = run_frames Response front messages (Some trailers) frames in
    record {
      front = front;
      last = b;
      whole = whole;
      before = λ other is. let place : (after (begin Response) front).place ≡ Over = ap (λ (s : FrameState). s.place) read.0 in cc;
      state =
          ap (after (begin Response)) whole ∙ after-append (begin Response) front (b ∷ [])
          ∙ ap (λ (s : FrameState). after s (b ∷ [])) read.0 ∙ after-one (stands_at Response Over) b ∙ frame_step-over Response [] b;
      tells =
          ap (events_of (begin Response)) whole ∙ events_of-append (begin Response) front (b ∷ [])
          ∙ ap (λ (s : FrameState). events_of (begin Response) front ++ events_of s (b ∷ [])) read.0
          ∙ ap (λ (e : List FrameEvent). events_of (begin Response) front ++ e) (events_of-one (stands_at Response Over) b ∙ ap option_to_list (frame_event-over Response [] b))
          ∙ append-nil (events_of (begin Response) front) ∙ read.1;
    }

-- ---- all faults

no_message_settled : (side : Side) (flag : ℕ) → side ≡ Request → ¬ IsCompressed flag → IsTrailers flag → settled_by side (flag ∷ []) ≡ faulty NoMessage
no_message_settled Request flag side_is plain marked = settled_by-no_message Request flag [] (is_compressed-false flag plain) (is_trailers-true flag marked)
no_message_settled Response flag side_is plain marked = absurd (cc)

pub SettlesLast-IsFault : (side : Side) (bytes : List ℕ) (messages : List (List ℕ)) (trailers : Option Trailers) (fault : FrameFault) → IsFault side bytes messages trailers fault
    → SettlesLast side bytes messages trailers fault
SettlesLast-IsFault side bytes messages trailers (FrameTooLong count) (front, flag, goes, none, whole, may, great, short) =
    settles_behind side bytes front (frame_head flag count) messages trailers (FrameTooLong count) goes none whole
    (run side (frame_head flag count) (frame_head_some flag count) (begins_head side flag count may short))
    (settled_too_long side flag count may great short)
SettlesLast-IsFault side bytes messages trailers Compressed (front, flag, goes, none, whole, set) =
    settles_behind side bytes front (flag ∷ []) messages trailers Compressed goes none whole (run_flag side flag) (settled_by-compressed side flag [] (is_compressed-true flag set))
SettlesLast-IsFault side bytes messages trailers NoMessage (front, flag, goes, none, whole, side_is, plain, marked) =
    settles_behind side bytes front (flag ∷ []) messages trailers NoMessage goes none whole (run_flag side flag) (no_message_settled side flag side_is plain marked)
SettlesLast-IsFault side bytes messages trailers BadTrailer (front, back, payload, goes, none, whole, is, never) =
    settles_behind side bytes front back messages trailers BadTrailer goes none whole (run_frame side back is.flag payload is.frame)
    (settled_by-trailers side back payload is ∙ ap told_trailers (none_in_by payload (trailers_in payload) refl never))
SettlesLast-IsFault side bytes messages trailers AfterMessage (front, b, side_is, frames, one, whole) = behind_whole side bytes front b messages trailers side_is frames one whole
SettlesLast-IsFault side bytes messages trailers AfterTrailers (front, b, side_is, frames, some, whole) = behind_over side bytes front b messages trailers side_is frames some whole
SettlesLast-IsFault side bytes messages trailers OutOfMemory is = absurd is
