-- The machine of contents is that of bodies, and that of frames over the payload; bytes one after another.
use Rattle.std.proofs.Common.{◌≡◌, ℕ, List, [], ◌∷◌, ◌++◌, refl, sym, ap, ◌∙◌}
use Rattle.std.specs.Prelude.{fold}
use Rattle.std.specs.List.{concat}
use Rattle.std.proofs.lemmas.List.Sums.{fold-append}
use Rattle.std.proofs.Common.{append_assoc, append-nil}
use Rattle.web_bodies.specs.Steps as bodies
use Rattle.web_frames.specs.declared.event.FrameEvent.{FrameEvent}
use Rattle.web_frames.specs.Machine.{FrameState}
use Rattle.web_frames.specs.Machine as frames
use Rattle.web_frames.proofs.MachineLemmas as frame
use Rattle.web_contents.specs.Contents.{Content, content_step, content_events, after, events_of}
use Rattle.web_contents.specs.Laws.{BytesAreParts, events_of_pieces}

-- a body and frames after bytes of the body
abbrev pub parts : Content → List ℕ → Content
parts c bytes =
    record { body = bodies.after c.body bytes; frames = frames.after c.frames (bodies.payload_after c.body bytes) }

pub after-parts : (c : Content) (bytes : List ℕ) → after c bytes ≡ parts c bytes
unfolding after content_step bodies.after bodies.payload_after
after-parts c [] = ap (λ (s : FrameState). let d : Content = record { body = c.body; frames = s } in d) (sym (frame.after-nil c.frames))
after-parts c (b ∷ bytes) =
    after-parts (content_step c b) bytes
    ∙ ap (λ (s : FrameState). let d : Content = record { body = bodies.after c.body (b ∷ bytes); frames = s } in d)
    (sym (frame.after-append c.frames (bodies.emitted c.body b) (bodies.payload_after (bodies.body_step c.body b) bytes)))

pub events_of-parts : (c : Content) (bytes : List ℕ) → events_of c bytes ≡ frames.events_of c.frames (bodies.payload_after c.body bytes)
unfolding content_step content_events events_of bodies.payload_after
events_of-parts c [] = sym (frame.events_of-nil c.frames)
events_of-parts c (b ∷ bytes) =
    ap (λ (told : List FrameEvent). frames.events_of c.frames (bodies.emitted c.body b) ++ told) (events_of-parts (content_step c b) bytes)
    ∙ sym (frame.events_of-append c.frames (bodies.emitted c.body b) (bodies.payload_after (bodies.body_step c.body b) bytes))

pub bytes_are_parts : BytesAreParts
bytes_are_parts = record { state = after-parts; told = events_of-parts }

-- ---- bytes one after another

pub after-nil : (c : Content) → after c [] ≡ c
unfolding after
after-nil c = refl

pub events_of-nil : (c : Content) → events_of c [] ≡ []
unfolding events_of
events_of-nil c = refl

pub after-cons : (c : Content) (b : ℕ) (bytes : List ℕ) → after c (b ∷ bytes) ≡ after (content_step c b) bytes
unfolding after
after-cons c b bytes = refl

pub events_of-cons : (c : Content) (b : ℕ) (bytes : List ℕ) → events_of c (b ∷ bytes) ≡ content_events c b ++ events_of (content_step c b) bytes
unfolding events_of
events_of-cons c b bytes = refl

pub after-one : (c : Content) (b : ℕ) → after c (b ∷ []) ≡ content_step c b
after-one c b = after-cons c b [] ∙ after-nil (content_step c b)

pub events_of-one : (c : Content) (b : ℕ) → events_of c (b ∷ []) ≡ content_events c b
events_of-one c b =
    events_of-cons c b [] ∙ ap (λ (rest : List FrameEvent). content_events c b ++ rest) (events_of-nil (content_step c b))
    ∙ append-nil (content_events c b)

pub after-append : (c : Content) (front back : List ℕ) → after c (front ++ back) ≡ after (after c front) back
unfolding after
after-append c front back = fold-append content_step c front back

pub events_of-append : (c : Content) (front back : List ℕ) → events_of c (front ++ back) ≡ events_of c front ++ events_of (after c front) back
unfolding after events_of
events_of-append c [] back = refl
events_of-append c (b ∷ front) back =
    ap (λ (rest : List FrameEvent). content_events c b ++ rest) (events_of-append (content_step c b) front back)
    ∙ sym (append_assoc (content_events c b) (events_of (content_step c b) front) (events_of (after (content_step c b) front) back))

-- ---- pieces

pub fold-after : (c : Content) (pieces : List (List ℕ)) → fold after c pieces ≡ after c (concat pieces)
fold-after c [] = sym (after-nil c)
fold-after c (piece ∷ pieces) = fold-after (after c piece) pieces ∙ sym (after-append c piece (concat pieces))

pub events_of_pieces-concat : (c : Content) (pieces : List (List ℕ)) → events_of_pieces c pieces ≡ events_of c (concat pieces)
events_of_pieces-concat c [] = sym (events_of-nil c)
events_of_pieces-concat c (piece ∷ pieces) =
    ap (λ (rest : List FrameEvent). events_of c piece ++ rest) (events_of_pieces-concat (after c piece) pieces)
    ∙ sym (events_of-append c piece (concat pieces))
