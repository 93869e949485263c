-- Where a reader stands is what the bytes say, byte by byte, and they say nothing else.
use Rattle.std.proofs.Common.{◌≡◌, ℕ, ◌<◌, List, [], ◌∷◌, ◌++◌, length, map, refl, sym, ap, ◌∙◌, subst, append_assoc, append-nil, Option, Some, None, arith}
use Rattle.std.specs.Prelude.{IsSome}
use Rattle.std.specs.Option.{option_to_list}
use Rattle.std.proofs.lemmas.Bool.{false≢true}
use Rattle.std.proofs.lemmas.List.{length_push, map-append}
use Rattle.std.proofs.lemmas.List.Elements.{All-nil, All-cons, All-head, All-tail}
use Rattle.web_frames.specs.declared.limits.Side.{Side}
use Rattle.web_frames.specs.declared.limits.Side.TheVariants.{Request, Response}
use Rattle.web_frames.specs.declared.fault.FrameFault.{FrameFault}
use Rattle.web_frames.specs.declared.fault.FrameFault.TheVariants.{FrameTooLong, Compressed, AfterMessage, AfterTrailers, BadTrailer, NoMessage, OutOfMemory}
use Rattle.web_frames.specs.declared.status.Trailers.{Trailers}
use Rattle.web_frames.specs.declared.event.FrameEvent.{FrameEvent}
use Rattle.web_frames.specs.declared.event.FrameEvent.TheVariants as event
use Rattle.web_frames.specs.declared.state.FramePlace.{FramePlace}
use Rattle.web_frames.specs.declared.state.FramePlace.TheVariants.{Open, Whole, Over, Refused}
use Rattle.web_frames.specs.Machine as machine
use Rattle.web_frames.specs.Machine.{FrameState, Settled, more, faulty, settled_by, refused_at, state_of, event_of, frame_step, frame_event, begin, after, events_of}
use Rattle.web_frames.specs.Standard.{TrailersSay, IsBytes, IsMessage, IsTrailersFrame, AreMessages, GoesOn, IsFault, IsRefused, StandsAt, events, Reads}
use Rattle.web_frames.proofs.MachineLemmas.{after-nil, after-cons, after-append, events_of-nil, events_of-cons, events_of-append, open_at, frame_step-open, frame_event-open, frame_step-whole, frame_event-whole, frame_step-over, frame_event-over, refused_with, frame_step-refused, frame_event-refused, after-refused, events_of-refused}
use Rattle.web_frames.proofs.SettledLemmas.{settled_by-IsBegun}
use Rattle.web_frames.proofs.ReadingLemmas.{SettlesAs, settles, IsBegun-nil}
use Rattle.web_frames.proofs.FrameLemmas.{no_request_trailers, run_begun, run_frames, run_behind, stands_at, place_of}
use Rattle.web_frames.proofs.FaultLemmas.{SettlesLast-IsFault}

-- ---- frames, one more

AreMessages-push : (side : Side) (bytes back : List ℕ) (messages : List (List ℕ)) (message : List ℕ) → AreMessages side bytes messages → IsMessage side back message
    → AreMessages side (bytes ++ back) (messages ++ message ∷ [])
AreMessages-push side bytes back [] message are is =
    (back, [], ap (λ (b : List ℕ). b ++ back) are ∙ sym (append-nil back), is, refl)
AreMessages-push side bytes back (first ∷ messages) message are is =
    (are.0, are.1 ++ back, ap (λ (b : List ℕ). b ++ back) are.2 ∙ append_assoc are.0 are.1 back, are.3, AreMessages-push side are.1 back messages message are.4 is)

events-message : (messages : List (List ℕ)) (message : List ℕ) → events messages None ++ event.Message message ∷ [] ≡ events (messages ++ message ∷ []) None
events-message messages message =
    ap (λ (e : List FrameEvent). e ++ event.Message message ∷ []) (append-nil (map event.Message messages))
    ∙ sym (map-append event.Message messages (message ∷ []))
    ∙ sym (append-nil (map event.Message (messages ++ message ∷ [])))

events-trailers : (messages : List (List ℕ)) (trailers : Trailers) → events messages None ++ event.Trailers trailers ∷ [] ≡ events messages (Some trailers)
events-trailers messages trailers = ap (λ (e : List FrameEvent). e ++ event.Trailers trailers ∷ []) (append-nil (map event.Message messages))

-- ---- one byte more of a frame

fault_reads : (side : Side) (bytes : List ℕ) (messages : List (List ℕ)) (trailers : Option Trailers) (told : List FrameEvent) (fault : FrameFault) → told ≡ events messages trailers
    → IsFault side bytes messages trailers fault → Reads side bytes (told ++ []) (refused_at side fault)
fault_reads side bytes messages trailers told fault told_is is = record {
  messages = messages;
  trailers = trailers;
  told_is = append-nil told ∙ told_is;
  side_is = refl;
  stands = (record { settled = bytes; more = []; whole = sym (append-nil bytes); fault_is = is }, refl);
}

message_reads : (side : Side) (front held : List ℕ) (messages : List (List ℕ)) (told : List FrameEvent) (message : List ℕ) → GoesOn side front messages → told ≡ events messages None
    → IsMessage side held message → Reads side (front ++ held) (told ++ event.Message message ∷ []) (state_of side held (machine.told (event.Message message)))
message_reads Request front held messages told message goes told_is is =
    let count = length_push messages message in
    let none = ap length goes.may in
    record {
      messages = messages ++ message ∷ [];
      trailers = None;
      told_is = ap (λ (e : List FrameEvent). e ++ event.Message message ∷ []) told_is ∙ events-message messages message;
      side_is = refl;
      stands = (
        refl,
        record {
          front = front ++ held;
          back = [];
          whole = sym (append-nil (front ++ held));
          first = AreMessages-push Request front held messages message goes.are is;
          last = refl;
          few = omega arith;
        },
        omega arith,
        refl,
      );
    }
message_reads Response front held messages told message goes told_is is = record {
  messages = messages ++ message ∷ [];
  trailers = None;
  told_is = ap (λ (e : List FrameEvent). e ++ event.Message message ∷ []) told_is ∙ events-message messages message;
  side_is = refl;
  stands = (
    front ++ held,
    record { are = AreMessages-push Response front held messages message goes.are is; may = tt },
    refl,
    sym (append-nil (front ++ held)),
    IsBegun-nil Response,
  );
}

trailers_read : (side : Side) (front held payload : List ℕ) (messages : List (List ℕ)) (told : List FrameEvent) (trailers : Trailers) → GoesOn side front messages
    → told ≡ events messages None → IsTrailersFrame side held payload → TrailersSay payload trailers
    → Reads side (front ++ held) (told ++ event.Trailers trailers ∷ []) (state_of side held (machine.told (event.Trailers trailers)))
trailers_read Request front held payload messages told trailers goes told_is is says = absurd (no_request_trailers held payload is)
trailers_read Response front held payload messages told trailers goes told_is is says = record {
  messages = messages;
  trailers = Some trailers;
  told_is = ap (λ (e : List FrameEvent). e ++ event.Trailers trailers ∷ []) told_is ∙ events-trailers messages trailers;
  side_is = refl;
  stands = (
    refl,
    record { front = front; back = held; whole = refl; first = goes.are; last = (payload, is, says); few = tt },
    refl,
    refl,
  );
}

open_reads : (side : Side) (front held : List ℕ) (messages : List (List ℕ)) (told : List FrameEvent) (settled : Settled) → GoesOn side front messages → told ≡ events messages None
    → SettlesAs side held settled → Reads side (front ++ held) (told ++ option_to_list (event_of settled)) (state_of side held settled)
open_reads side front held messages told more goes told_is settles_as = record {
  messages = messages;
  trailers = None;
  told_is = append-nil told ∙ told_is;
  side_is = refl;
  stands = (front, goes, refl, refl, settles_as);
}
open_reads side front held messages told (machine.told (event.Message message)) goes told_is settles_as = message_reads side front held messages told message goes told_is settles_as
open_reads side front held messages told (machine.told (event.Trailers trailers)) goes told_is (payload, is, says) =
    trailers_read side front held payload messages told trailers goes told_is is says
open_reads side front held messages told (faulty (FrameTooLong count)) goes told_is (flag, whole, may, great, short) =
    fault_reads side (front ++ held) messages None told (FrameTooLong count) told_is (front, flag, goes, refl, ap (λ (b : List ℕ). front ++ b) whole, may, great, short)
open_reads side front held messages told (faulty Compressed) goes told_is (flag, whole, set) =
    fault_reads side (front ++ held) messages None told Compressed told_is (front, flag, goes, refl, ap (λ (b : List ℕ). front ++ b) whole, set)
open_reads side front held messages told (faulty NoMessage) goes told_is (flag, whole, side_is, plain, marked) =
    fault_reads side (front ++ held) messages None told NoMessage told_is (front, flag, goes, refl, ap (λ (b : List ℕ). front ++ b) whole, side_is, plain, marked)
open_reads side front held messages told (faulty BadTrailer) goes told_is (payload, is, never) =
    fault_reads side (front ++ held) messages None told BadTrailer told_is (front, held, payload, goes, refl, refl, is, never)
open_reads side front held messages told (faulty AfterMessage) goes told_is settles_as = absurd settles_as
open_reads side front held messages told (faulty AfterTrailers) goes told_is settles_as = absurd settles_as
open_reads side front held messages told (faulty OutOfMemory) goes told_is settles_as = absurd settles_as

-- ---- one byte more at each place

pub All_back : (front back : List ℕ) → IsBytes (front ++ back) → IsBytes back
All_back [] back all = all
All_back (b ∷ front) back all = All_back front back (All-tail (λ d. d < 256) b (front ++ back) all)

-- a reading moved along its equations
Reads-moved : (side : Side) (bytes others : List ℕ) (told tells : List FrameEvent) (state next : FrameState) → others ≡ bytes → tells ≡ told → next ≡ state
    → Reads side bytes told state → Reads side others tells next
Reads-moved side bytes others told tells state next bytes_are tells_are state_is reads =
    subst (λ (b : List ℕ). Reads side b tells next) (sym bytes_are)
    (subst (λ (e : List FrameEvent). Reads side bytes e next) (sym tells_are)
    (subst (λ (s : FrameState). Reads side bytes told s) (sym state_is) reads))

-- a state by its parts
abbrev pub state_at : Side → FramePlace → List ℕ → FrameState
state_at side place held = record { side = side; place = place; held = held }

reads_at : (side : Side) (bytes : List ℕ) (b : ℕ) (told : List FrameEvent) (place : FramePlace) (held : List ℕ) → IsBytes (bytes ++ b ∷ []) → Reads side bytes told (state_at side place held)
    → Reads side (bytes ++ b ∷ []) (told ++ option_to_list (frame_event (state_at side place held) b)) (frame_step (state_at side place held) b)
reads_at side bytes b told Open held all reads =
    let front = reads.stands.0 in
    let goes = reads.stands.1 in
    let none = reads.stands.2 in
    let whole = reads.stands.3 in
    let begun = reads.stands.4 in
    let longer : bytes ++ b ∷ [] ≡ front ++ (held ++ b ∷ []) = ap (λ (d : List ℕ). d ++ b ∷ []) whole ∙ append_assoc front held (b ∷ []) in
    let every : IsBytes (held ++ b ∷ []) = All_back front (held ++ b ∷ []) (subst IsBytes longer all) in
    let settles_as = settles side held b every (settled_by-IsBegun side held begun) in
    let told_is = reads.told_is ∙ ap (events reads.messages) none in
    Reads-moved side (front ++ (held ++ b ∷ [])) (bytes ++ b ∷ []) (told ++ option_to_list (event_of (settled_by side (held ++ b ∷ []))))
    (told ++ option_to_list (frame_event (open_at side held) b)) (state_of side (held ++ b ∷ []) (settled_by side (held ++ b ∷ []))) (frame_step (open_at side held) b)
    longer (ap (λ (o : Option FrameEvent). told ++ option_to_list o) (frame_event-open side held b)) (frame_step-open side held b)
    (open_reads side front (held ++ b ∷ []) reads.messages told (settled_by side (held ++ b ∷ [])) goes told_is settles_as)
reads_at side bytes b told Whole held all reads =
    Reads-moved side (bytes ++ b ∷ []) (bytes ++ b ∷ []) (told ++ []) (told ++ option_to_list (frame_event (state_at side Whole held) b)) (refused_at side AfterMessage)
    (frame_step (state_at side Whole held) b) refl (ap (λ (o : Option FrameEvent). told ++ option_to_list o) (frame_event-whole side held b)) (frame_step-whole side held b)
    (fault_reads side (bytes ++ b ∷ []) reads.messages reads.trailers told AfterMessage reads.told_is (bytes, b, reads.stands.0, reads.stands.1, reads.stands.2, refl))
reads_at side bytes b told Over held all reads =
    Reads-moved side (bytes ++ b ∷ []) (bytes ++ b ∷ []) (told ++ []) (told ++ option_to_list (frame_event (state_at side Over held) b)) (refused_at side AfterTrailers)
    (frame_step (state_at side Over held) b) refl (ap (λ (o : Option FrameEvent). told ++ option_to_list o) (frame_event-over side held b)) (frame_step-over side held b)
    (fault_reads side (bytes ++ b ∷ []) reads.messages reads.trailers told AfterTrailers reads.told_is (bytes, b, reads.stands.0, reads.stands.1, reads.stands.2, refl))
reads_at side bytes b told (Refused fault) held all reads =
    let refused = reads.stands.0 in
    Reads-moved side (bytes ++ b ∷ []) (bytes ++ b ∷ []) (told ++ []) (told ++ option_to_list (frame_event (refused_with side fault held) b)) (refused_with side fault held)
    (frame_step (refused_with side fault held) b) refl (ap (λ (o : Option FrameEvent). told ++ option_to_list o) (frame_event-refused side fault held b)) (frame_step-refused side fault held b)
    (record {
      messages = reads.messages;
      trailers = reads.trailers;
      told_is = append-nil told ∙ reads.told_is;
      side_is = refl;
      stands = (
        record {
          settled = refused.settled;
          more = refused.more ++ b ∷ [];
          whole = ap (λ (d : List ℕ). d ++ b ∷ []) refused.whole ∙ append_assoc refused.settled refused.more (b ∷ []);
          fault_is = refused.fault_is;
        },
        reads.stands.1,
      );
    })

reads_step : (side : Side) (bytes : List ℕ) (b : ℕ) (told : List FrameEvent) (state : FrameState) → IsBytes (bytes ++ b ∷ []) → Reads side bytes told state
    → Reads side (bytes ++ b ∷ []) (told ++ option_to_list (frame_event state b)) (frame_step state b)
reads_step side bytes b told state all reads =
    let same : state ≡ state_at side state.place state.held = ap (λ (s : Side). state_at s state.place state.held) reads.side_is in
    subst (λ (s : FrameState). Reads side (bytes ++ b ∷ []) (told ++ option_to_list (frame_event s b)) (frame_step s b)) (sym same)
    (reads_at side bytes b told state.place state.held all (subst (λ (s : FrameState). Reads side bytes told s) same reads))

-- ---- from the beginning

pub All_front : (front back : List ℕ) → IsBytes (front ++ back) → IsBytes front
All_front [] back all = All-nil (λ d. d < 256)
All_front (b ∷ front) back all =
    All-cons (λ d. d < 256) b front (All-head (λ d. d < 256) b (front ++ back) all) (All_front front back (All-tail (λ d. d < 256) b (front ++ back) all))

reads_from : (side : Side) (front rest : List ℕ) (told : List FrameEvent) (state : FrameState) → IsBytes (front ++ rest) → Reads side front told state
    → Reads side (front ++ rest) (told ++ events_of state rest) (after state rest)
reads_from side front [] told state all reads =
    Reads-moved side front (front ++ []) told (told ++ events_of state []) state (after state []) (append-nil front)
    (ap (λ (e : List FrameEvent). told ++ e) (events_of-nil state) ∙ append-nil told) (after-nil state) reads
reads_from side front (b ∷ rest) told state all reads =
    let one : (front ++ b ∷ []) ++ rest ≡ front ++ b ∷ rest = append_assoc front (b ∷ []) rest in
    let every : IsBytes ((front ++ b ∷ []) ++ rest) = subst IsBytes (sym one) all in
    let next = reads_step side front b told state (All_front (front ++ b ∷ []) rest every) reads in
    Reads-moved side ((front ++ b ∷ []) ++ rest) (front ++ b ∷ rest)
    ((told ++ option_to_list (frame_event state b)) ++ events_of (frame_step state b) rest) (told ++ events_of state (b ∷ rest))
    (after (frame_step state b) rest) (after state (b ∷ rest))
    (sym one)
    (ap (λ (e : List FrameEvent). told ++ e) (events_of-cons state b rest) ∙ sym (append_assoc told (option_to_list (frame_event state b)) (events_of (frame_step state b) rest)))
    (after-cons state b rest)
    (reads_from side (front ++ b ∷ []) rest (told ++ option_to_list (frame_event state b)) (frame_step state b) every next)

goes_on_nil : (side : Side) → GoesOn side [] []
goes_on_nil Request = record { are = refl; may = refl }
goes_on_nil Response = record { are = refl; may = tt }

pub given : (side : Side) (bytes : List ℕ) → IsBytes bytes → Reads side bytes (events_of (begin side) bytes) (after (begin side) bytes)
given side bytes all = reads_from side [] bytes [] (begin side) all (record {
  messages = [];
  trailers = None;
  told_is = refl;
  side_is = refl;
  stands = ([], goes_on_nil side, refl, refl, IsBegun-nil side);
})

-- ---- nothing else

pub run_refused : (side : Side) (bytes : List ℕ) (messages : List (List ℕ)) (trailers : Option Trailers) (fault : FrameFault) → IsRefused side bytes messages trailers fault
    → (after (begin side) bytes ≡ refused_at side fault) × (events_of (begin side) bytes ≡ events messages trailers)
run_refused side bytes messages trailers fault is =
    let last = SettlesLast-IsFault side is.settled messages trailers fault is.fault_is in (
      ap (after (begin side)) is.whole ∙ after-append (begin side) is.settled is.more
          ∙ ap (λ (s : FrameState). after s is.more) last.state ∙ after-refused side fault [] is.more,
      ap (events_of (begin side)) is.whole ∙ events_of-append (begin side) is.settled is.more
          ∙ ap (λ (s : FrameState). events_of (begin side) is.settled ++ events_of s is.more) last.state
          ∙ ap (λ (e : List FrameEvent). events_of (begin side) is.settled ++ e) (events_of-refused side fault [] is.more)
          ∙ append-nil (events_of (begin side) is.settled) ∙ last.tells,
    )

place_of-whole : (side : Side) (messages : List (List ℕ)) (trailers : Option Trailers) → side ≡ Request → length messages ≡ 1 → place_of side messages trailers ≡ Whole
place_of-whole Response messages trailers side_is one = absurd (cc)
place_of-whole Request [] trailers side_is one = absurd (omega arith)
place_of-whole Request (message ∷ messages) trailers side_is one = refl

place_of-over : (side : Side) (messages : List (List ℕ)) (trailers : Option Trailers) → side ≡ Response → IsSome trailers → place_of side messages trailers ≡ Over
place_of-over Request messages trailers side_is some = absurd (cc)
place_of-over Response messages None side_is some = absurd (false≢true some)
place_of-over Response messages (Some trailers) side_is some = refl

only_at : (side : Side) (bytes : List ℕ) (messages : List (List ℕ)) (trailers : Option Trailers) (place : FramePlace) (held : List ℕ) → StandsAt place side bytes messages trailers held
    → (events_of (begin side) bytes ≡ events messages trailers) × (after (begin side) bytes ≡ state_at side place held)
only_at side bytes messages trailers Open held (front, goes, none, whole, begun) =
    let behind = run_behind side front held messages goes in
    let read = run_begun side held begun in (
      ap (events_of (begin side)) whole ∙ behind.1 ∙ ap (λ (e : List FrameEvent). map event.Message messages ++ e) read.1 ∙ ap (events messages) (sym none),
      ap (after (begin side)) whole ∙ behind.0 ∙ read.0,
    )
only_at side bytes messages trailers Whole held (side_is, frames, one, none) =
    let read = run_frames side bytes messages trailers frames in (
      read.1,
      read.0 ∙ ap (stands_at side) (place_of-whole side messages trailers side_is one) ∙ ap (state_at side Whole) (sym none),
    )
only_at side bytes messages trailers Over held (side_is, frames, some, none) =
    let read = run_frames side bytes messages trailers frames in (
      read.1,
      read.0 ∙ ap (stands_at side) (place_of-over side messages trailers side_is some) ∙ ap (state_at side Over) (sym none),
    )
only_at side bytes messages trailers (Refused fault) held (refused, none) =
    let read = run_refused side bytes messages trailers fault refused in
    (read.1, read.0 ∙ ap (state_at side (Refused fault)) (sym none))

pub only : (side : Side) (bytes : List ℕ) (told : List FrameEvent) (state : FrameState) → Reads side bytes told state
    → (events_of (begin side) bytes ≡ told) × (after (begin side) bytes ≡ state)
only side bytes told state reads =
    let read = only_at side bytes reads.messages reads.trailers state.place state.held reads.stands in
    (read.0 ∙ sym reads.told_is, read.1 ∙ ap (λ (s : Side). state_at s state.place state.held) (sym reads.side_is))
