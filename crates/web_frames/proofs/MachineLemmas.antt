-- The machine of frames, over bytes one after another.
use Rattle.std.proofs.Common.{◌≡◌, ◌≢◌, ℕ, List, [], ◌∷◌, ◌++◌, refl, sym, ap, ◌∙◌, append_assoc, append-nil, Option, None}
use Rattle.std.specs.Option.{option_to_list}
use Rattle.std.specs.List.{concat}
use Rattle.web_frames.specs.declared.limits.Side.{Side}
use Rattle.web_frames.specs.declared.fault.FrameFault.{FrameFault}
use Rattle.web_frames.specs.declared.fault.FrameFault.TheVariants.{AfterMessage, AfterTrailers}
use Rattle.web_frames.specs.declared.event.FrameEvent.{FrameEvent}
use Rattle.web_frames.specs.declared.state.FramePlace.TheVariants.{Open, Whole, Over, Refused}
use Rattle.web_frames.specs.Machine.{FrameState, Settled, more, settled_by, refused_at, state_of, event_of, frame_step, frame_event, after, events_of, after_pieces, events_of_pieces}
use Rattle.web_frames.specs.Laws.{PiecesJoin}

-- ---- bytes one after another

pub after-nil : (s : FrameState) → after s [] ≡ s
unfolding after
after-nil s = refl

pub after-cons : (s : FrameState) (b : ℕ) (bytes : List ℕ) → after s (b ∷ bytes) ≡ after (frame_step s b) bytes
unfolding after
after-cons s b bytes = refl

pub events_of-nil : (s : FrameState) → events_of s [] ≡ []
unfolding events_of
events_of-nil s = refl

pub events_of-cons : (s : FrameState) (b : ℕ) (bytes : List ℕ) → events_of s (b ∷ bytes) ≡ option_to_list (frame_event s b) ++ events_of (frame_step s b) bytes
unfolding events_of
events_of-cons s b bytes = refl

pub after-append : (s : FrameState) (first second : List ℕ) → after s (first ++ second) ≡ after (after s first) second
after-append s [] second = ap (λ (t : FrameState). after t second) (sym (after-nil s))
after-append s (b ∷ first) second =
    after-cons s b (first ++ second) ∙ after-append (frame_step s b) first second ∙ ap (λ (t : FrameState). after t second) (sym (after-cons s b first))

pub events_of-append : (s : FrameState) (first second : List ℕ) → events_of s (first ++ second) ≡ events_of s first ++ events_of (after s first) second
events_of-append s [] second = ap (λ (t : FrameState). events_of t second) (sym (after-nil s)) ∙ ap (λ (told : List FrameEvent). told ++ events_of (after s []) second) (sym (events_of-nil s))
events_of-append s (b ∷ first) second =
    events_of-cons s b (first ++ second)
    ∙ ap (λ (rest : List FrameEvent). option_to_list (frame_event s b) ++ rest) (events_of-append (frame_step s b) first second)
    ∙ sym (append_assoc (option_to_list (frame_event s b)) (events_of (frame_step s b) first) (events_of (after (frame_step s b) first) second))
    ∙ ap (λ (front : List FrameEvent). front ++ events_of (after (frame_step s b) first) second) (sym (events_of-cons s b first))
    ∙ ap (λ (t : FrameState). events_of s (b ∷ first) ++ events_of t second) (sym (after-cons s b first))

pub after-one : (s : FrameState) (b : ℕ) → after s (b ∷ []) ≡ frame_step s b
after-one s b = after-cons s b [] ∙ after-nil (frame_step s b)

pub events_of-one : (s : FrameState) (b : ℕ) → events_of s (b ∷ []) ≡ option_to_list (frame_event s b)
events_of-one s b = events_of-cons s b [] ∙ ap (λ (rest : List FrameEvent). option_to_list (frame_event s b) ++ rest) (events_of-nil (frame_step s b)) ∙ append-nil (option_to_list (frame_event s b))

-- ---- pieces

after_pieces-concat : (s : FrameState) (pieces : List (List ℕ)) → after_pieces s pieces ≡ after s (concat pieces)
unfolding after_pieces
after_pieces-concat s [] = sym (after-nil s)
after_pieces-concat s (piece ∷ pieces) = after_pieces-concat (after s piece) pieces ∙ sym (after-append s piece (concat pieces))

events_of_pieces-concat : (s : FrameState) (pieces : List (List ℕ)) → events_of_pieces s pieces ≡ events_of s (concat pieces)
unfolding events_of_pieces
events_of_pieces-concat s [] = sym (events_of-nil s)
events_of_pieces-concat s (piece ∷ pieces) =
    ap (λ (rest : List FrameEvent). events_of s piece ++ rest) (events_of_pieces-concat (after s piece) pieces) ∙ sym (events_of-append s piece (concat pieces))

pub pieces_join : PiecesJoin
pieces_join = record {
  states = after_pieces-concat;
  told = events_of_pieces-concat;
  two = λ s first second. (after-append s first second, events_of-append s first second);
}

-- ---- a reader that stands before or within a frame

abbrev pub open_at : Side → List ℕ → FrameState
open_at side held = record { side = side; place = Open; held = held }

pub frame_step-open : (side : Side) (held : List ℕ) (b : ℕ) → frame_step (open_at side held) b ≡ state_of side (held ++ b ∷ []) (settled_by side (held ++ b ∷ []))
unfolding frame_step
frame_step-open side held b = refl

pub frame_event-open : (side : Side) (held : List ℕ) (b : ℕ) → frame_event (open_at side held) b ≡ event_of (settled_by side (held ++ b ∷ []))
unfolding frame_event
frame_event-open side held b = refl

pub frame_step-settled : (side : Side) (held : List ℕ) (b : ℕ) (settled : Settled) → settled_by side (held ++ b ∷ []) ≡ settled
    → frame_step (open_at side held) b ≡ state_of side (held ++ b ∷ []) settled
frame_step-settled side held b settled e = frame_step-open side held b ∙ ap (state_of side (held ++ b ∷ [])) e

pub frame_event-settled : (side : Side) (held : List ℕ) (b : ℕ) (settled : Settled) → settled_by side (held ++ b ∷ []) ≡ settled
    → frame_event (open_at side held) b ≡ event_of settled
frame_event-settled side held b settled e = frame_event-open side held b ∙ ap event_of e

-- bytes that settle nothing, one after another
abbrev pub SettlesNothing : Side → List ℕ → List ℕ → Type 0
SettlesNothing side held bytes = (front back : List ℕ) → bytes ≡ front ++ back → front ≢ [] → settled_by side (held ++ front) ≡ more

one_front : (b : ℕ) → b ∷ [] ≢ []
one_front b e = cc

cons_front : (b : ℕ) (front : List ℕ) → b ∷ front ≢ []
cons_front b front e = cc

SettlesNothing-tail : (side : Side) (held : List ℕ) (b : ℕ) (bytes : List ℕ) → SettlesNothing side held (b ∷ bytes) → SettlesNothing side (held ++ b ∷ []) bytes
SettlesNothing-tail side held b bytes all front back e some =
    ap (settled_by side) (append_assoc held (b ∷ []) front) ∙ all (b ∷ front) back (ap (λ (rest : List ℕ). b ∷ rest) e) (cons_front b front)

pub after-held : (side : Side) (held bytes : List ℕ) → SettlesNothing side held bytes → after (open_at side held) bytes ≡ open_at side (held ++ bytes)
after-held side held [] all = after-nil (open_at side held) ∙ ap (open_at side) (sym (append-nil held))
after-held side held (b ∷ bytes) all =
    after-cons (open_at side held) b bytes
    ∙ ap (λ (t : FrameState). after t bytes) (frame_step-settled side held b more (all (b ∷ []) bytes refl (one_front b)))
    ∙ after-held side (held ++ b ∷ []) bytes (SettlesNothing-tail side held b bytes all)
    ∙ ap (open_at side) (append_assoc held (b ∷ []) bytes)

pub events_of-held : (side : Side) (held bytes : List ℕ) → SettlesNothing side held bytes → events_of (open_at side held) bytes ≡ []
events_of-held side held [] all = events_of-nil (open_at side held)
events_of-held side held (b ∷ bytes) all =
    let nothing = all (b ∷ []) bytes refl (one_front b) in
    events_of-cons (open_at side held) b bytes
    ∙ ap (λ (told : Option FrameEvent). option_to_list told ++ events_of (frame_step (open_at side held) b) bytes) (frame_event-settled side held b more nothing)
    ∙ ap (λ (t : FrameState). events_of t bytes) (frame_step-settled side held b more nothing)
    ∙ events_of-held side (held ++ b ∷ []) bytes (SettlesNothing-tail side held b bytes all)

-- bytes that settle nothing but with their last one
pub after-settled : (side : Side) (held front : List ℕ) (b : ℕ) → SettlesNothing side held front
    → after (open_at side held) (front ++ b ∷ []) ≡ state_of side (held ++ (front ++ b ∷ [])) (settled_by side (held ++ (front ++ b ∷ [])))
after-settled side held front b all =
    after-append (open_at side held) front (b ∷ [])
    ∙ ap (λ (t : FrameState). after t (b ∷ [])) (after-held side held front all)
    ∙ after-one (open_at side (held ++ front)) b
    ∙ frame_step-open side (held ++ front) b
    ∙ ap (λ (bytes : List ℕ). state_of side bytes (settled_by side bytes)) (append_assoc held front (b ∷ []))

pub events_of-settled : (side : Side) (held front : List ℕ) (b : ℕ) → SettlesNothing side held front
    → events_of (open_at side held) (front ++ b ∷ []) ≡ option_to_list (event_of (settled_by side (held ++ (front ++ b ∷ []))))
events_of-settled side held front b all =
    events_of-append (open_at side held) front (b ∷ [])
    ∙ ap (λ (first : List FrameEvent). first ++ events_of (after (open_at side held) front) (b ∷ [])) (events_of-held side held front all)
    ∙ ap (λ (t : FrameState). events_of t (b ∷ [])) (after-held side held front all)
    ∙ events_of-one (open_at side (held ++ front)) b
    ∙ ap option_to_list (frame_event-open side (held ++ front) b)
    ∙ ap (λ (bytes : List ℕ). option_to_list (event_of (settled_by side bytes))) (append_assoc held front (b ∷ []))

-- ---- a reader where no byte may come

pub frame_step-whole : (side : Side) (held : List ℕ) (b : ℕ) → frame_step (record { side = side; place = Whole; held = held }) b ≡ refused_at side AfterMessage
unfolding frame_step
frame_step-whole side held b = refl

pub frame_event-whole : (side : Side) (held : List ℕ) (b : ℕ) → frame_event (record { side = side; place = Whole; held = held }) b ≡ None
unfolding frame_event
frame_event-whole side held b = refl

pub frame_step-over : (side : Side) (held : List ℕ) (b : ℕ) → frame_step (record { side = side; place = Over; held = held }) b ≡ refused_at side AfterTrailers
unfolding frame_step
frame_step-over side held b = refl

pub frame_event-over : (side : Side) (held : List ℕ) (b : ℕ) → frame_event (record { side = side; place = Over; held = held }) b ≡ None
unfolding frame_event
frame_event-over side held b = refl

abbrev pub refused_with : Side → FrameFault → List ℕ → FrameState
refused_with side fault held = record { side = side; place = Refused fault; held = held }

pub frame_step-refused : (side : Side) (fault : FrameFault) (held : List ℕ) (b : ℕ) → frame_step (refused_with side fault held) b ≡ refused_with side fault held
unfolding frame_step
frame_step-refused side fault held b = refl

pub frame_event-refused : (side : Side) (fault : FrameFault) (held : List ℕ) (b : ℕ) → frame_event (refused_with side fault held) b ≡ None
unfolding frame_event
frame_event-refused side fault held b = refl

pub after-refused : (side : Side) (fault : FrameFault) (held bytes : List ℕ) → after (refused_with side fault held) bytes ≡ refused_with side fault held
after-refused side fault held [] = after-nil (refused_with side fault held)
after-refused side fault held (b ∷ bytes) =
    after-cons (refused_with side fault held) b bytes
    ∙ ap (λ (t : FrameState). after t bytes) (frame_step-refused side fault held b)
    ∙ after-refused side fault held bytes

pub events_of-refused : (side : Side) (fault : FrameFault) (held bytes : List ℕ) → events_of (refused_with side fault held) bytes ≡ []
events_of-refused side fault held [] = events_of-nil (refused_with side fault held)
events_of-refused side fault held (b ∷ bytes) =
    events_of-cons (refused_with side fault held) b bytes
    ∙ ap (λ (told : Option FrameEvent). option_to_list told ++ events_of (frame_step (refused_with side fault held) b) bytes) (frame_event-refused side fault held b)
    ∙ ap (λ (t : FrameState). events_of t bytes) (frame_step-refused side fault held b)
    ∙ events_of-refused side fault held bytes
