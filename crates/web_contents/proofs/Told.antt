-- What the standard says of bytes, the machine of contents does.
use Rattle.std.proofs.Common.{◌≡◌, ℕ, inl, inr, List, [], ◌∷◌, ◌++◌, sym, ap, ◌∙◌, append-nil, Option}
use Rattle.web_heads.specs.declared.body.BodyKind.{BodyKind}
use Rattle.web_bodies.specs.Steps as bodies
use Rattle.web_bodies.proofs.Read.{bodies_are_read}
use Rattle.web_frames.specs.declared.limits.Side.{Side}
use Rattle.web_frames.specs.declared.status.Trailers.{Trailers}
use Rattle.web_frames.specs.declared.event.FrameEvent.{FrameEvent}
use Rattle.web_frames.specs.Machine as frames
use Rattle.web_frames.specs.Standard.{events}
use Rattle.web_frames.proofs.LawLemmas.{faults_are_read}
use Rattle.web_contents.specs.declared.fault.WebFault.{WebFault}
use Rattle.web_contents.specs.declared.place.ContentPlace.{ContentPlace}
use Rattle.web_contents.specs.declared.place.ContentPlace.TheVariants.{Open, Over, Refused}
use Rattle.web_contents.specs.Faults.{unfinished}
use Rattle.web_contents.specs.Contents.{Content, place_of, after, events_of, begin}
use Rattle.web_contents.specs.Standard.{HasContent, BeginsContent, HasPayload, HasBadFrames, HasBadBody, IsUnfinished, IsContentFault, bad_frames, bad_body, unfinished_frames, HasContentFault}
use Rattle.web_contents.proofs.Parts.{after-parts, events_of-parts, after-append, events_of-append}
use Rattle.web_contents.proofs.Places.{place-open, place-over, place-unfinished, place-bad_body, place-bad_frames, refused-stays}
use Rattle.web_contents.proofs.FramesRead.{leaves_whole, leaves_broken, good_frames}

-- what has come after bytes of a body that have this payload
abbrev pub here : Side → BodyKind → ℕ → List ℕ → List ℕ → Content
here side kind at bytes payload =
    record { body = bodies.after (bodies.begin kind at) bytes; frames = frames.after (frames.begin side) payload }

-- what bytes leave and tell
abbrev pub Does : Side → BodyKind → ℕ → List ℕ → ContentPlace → List FrameEvent → Type 0
Does side kind at bytes place told =
    (place_of (after (begin side kind at) bytes) ≡ place) × (events_of (begin side kind at) bytes ≡ told)

pub does : (side : Side) (kind : BodyKind) (at : ℕ) (bytes payload : List ℕ) (place : ContentPlace) (told : List FrameEvent)
    → bodies.payload_after (bodies.begin kind at) bytes ≡ payload → place_of (here side kind at bytes payload) ≡ place
    → frames.events_of (frames.begin side) payload ≡ told → Does side kind at bytes place told
does side kind at bytes payload place told e stands tells = (
  ap place_of (after-parts (begin side kind at) bytes ∙ ap (here side kind at bytes) e) ∙ stands,
  events_of-parts (begin side kind at) bytes ∙ ap (frames.events_of (frames.begin side)) e ∙ tells,
)

pub begun_told : (side : Side) (kind : BodyKind) (at : ℕ) (bytes : List ℕ) (messages : List (List ℕ)) (trailers : Option Trailers)
    → BeginsContent side kind bytes messages trailers → Does side kind at bytes Open (events messages trailers)
begun_told side kind at bytes messages trailers x =
    let y = (bodies_are_read.begun kind at bytes x.payload).0 x.body in
    let good = good_frames side x.payload messages trailers x.frames in
    does side kind at bytes x.payload Open (events messages trailers) y.1 (place-open (here side kind at bytes x.payload) good.good y.0) good.tells

pub whole_told : (side : Side) (kind : BodyKind) (at : ℕ) (bytes : List ℕ) (messages : List (List ℕ)) (trailers : Option Trailers)
    → HasContent side kind bytes messages trailers → Does side kind at bytes Over (events messages trailers)
whole_told side kind at bytes messages trailers x =
    let y = (bodies_are_read.over kind at bytes x.payload).0 x.body in
    let leaves = leaves_whole side x.payload messages trailers x.frames x.enough in
    does side kind at bytes x.payload Over (events messages trailers) y.1
    (place-over (here side kind at bytes x.payload) leaves.good y.0 leaves.complete_is) leaves.tells

-- ---- faults

pub payload_is : (kind : BodyKind) (at : ℕ) (bytes payload : List ℕ) → HasPayload kind bytes payload
    → bodies.payload_after (bodies.begin kind at) bytes ≡ payload
payload_is kind at bytes payload (inl begun) = ((bodies_are_read.begun kind at bytes payload).0 begun).1
payload_is kind at bytes payload (inr body) = ((bodies_are_read.over kind at bytes payload).0 body).1

bad_frames_told : (side : Side) (kind : BodyKind) (at : ℕ) (bytes : List ℕ) (messages : List (List ℕ)) (trailers : Option Trailers) (fault : WebFault)
    → HasBadFrames side kind bytes messages trailers fault → Does side kind at bytes (Refused fault) (events messages trailers)
bad_frames_told side kind at bytes messages trailers fault x =
    let payload = x.part ++ x.last ∷ [] in
    let settled = faults_are_read.settled side payload messages trailers x.found
    (record { settled = payload; more = []; whole = sym (append-nil payload); fault_is = x.settled }) in
    does side kind at bytes payload (Refused fault) (events messages trailers) (payload_is kind at bytes payload x.payload)
    (place-bad_frames (here side kind at bytes payload) x.found settled.0 ∙ ap Refused (sym x.fault_is)) settled.1

bad_body_told : (side : Side) (kind : BodyKind) (at : ℕ) (bytes : List ℕ) (messages : List (List ℕ)) (trailers : Option Trailers) (fault : WebFault)
    → HasBadBody side kind at bytes messages trailers fault → Does side kind at bytes (Refused fault) (events messages trailers)
bad_body_told side kind at bytes messages trailers fault x =
    let y = (bodies_are_read.refused kind at bytes x.payload x.found).0
    (record { settled = bytes; rest = []; bytes_are = sym (append-nil bytes); is_fault = x.settled }) in
    let good = good_frames side x.payload messages trailers x.frames in
    does side kind at bytes x.payload (Refused fault) (events messages trailers) y.1
    (place-bad_body (here side kind at bytes x.payload) x.found good.good y.0 ∙ ap Refused (sym x.fault_is)) good.tells

unfinished_told : (side : Side) (kind : BodyKind) (at : ℕ) (bytes : List ℕ) (messages : List (List ℕ)) (trailers : Option Trailers) (fault : WebFault)
    → IsUnfinished side kind bytes messages trailers fault → Does side kind at bytes (Refused fault) (events messages trailers)
unfinished_told side kind at bytes messages trailers fault x =
    let y = (bodies_are_read.over kind at bytes x.payload).0
    (record { framed = x.framed; body = bytes; rest = []; bytes_are = sym (append-nil bytes); is_body = x.body }) in
    let leaves = leaves_broken side x.payload messages trailers x.frames in
    does side kind at bytes x.payload (Refused fault) (events messages trailers) y.1
    (place-unfinished (here side kind at bytes x.payload) leaves.good y.0 leaves.complete_is
    ∙ ap (λ (own : Side). Refused (unfinished own)) leaves.side_is ∙ ap Refused (sym x.fault_is)) leaves.tells

pub fault_told : (side : Side) (kind : BodyKind) (at : ℕ) (bytes : List ℕ) (messages : List (List ℕ)) (trailers : Option Trailers) (fault : WebFault)
    → IsContentFault side kind at bytes messages trailers fault → Does side kind at bytes (Refused fault) (events messages trailers)
fault_told side kind at bytes messages trailers fault (bad_frames x) = bad_frames_told side kind at bytes messages trailers fault x
fault_told side kind at bytes messages trailers fault (bad_body x) = bad_body_told side kind at bytes messages trailers fault x
fault_told side kind at bytes messages trailers fault (unfinished_frames x) = unfinished_told side kind at bytes messages trailers fault x

pub refused_told : (side : Side) (kind : BodyKind) (at : ℕ) (bytes : List ℕ) (messages : List (List ℕ)) (trailers : Option Trailers) (fault : WebFault)
    → HasContentFault side kind at bytes messages trailers fault → Does side kind at bytes (Refused fault) (events messages trailers)
refused_told side kind at bytes messages trailers fault x =
    let first = fault_told side kind at x.settled messages trailers fault x.is_fault in
    let stays = refused-stays (after (begin side kind at) x.settled) x.rest fault first.0 in (
      ap (λ (b : List ℕ). place_of (after (begin side kind at) b)) x.bytes_are
          ∙ ap place_of (after-append (begin side kind at) x.settled x.rest) ∙ stays.0,
      ap (events_of (begin side kind at)) x.bytes_are
          ∙ events_of-append (begin side kind at) x.settled x.rest
          ∙ ap (λ (told : List FrameEvent). events_of (begin side kind at) x.settled ++ told) stays.1
          ∙ append-nil (events_of (begin side kind at) x.settled) ∙ first.1,
    )
