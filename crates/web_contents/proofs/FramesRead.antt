-- What the payload of a body says as frames, and where the machine of frames stands after it.
use Rattle.std.proofs.Common.{◌≡◌, ◌≢◌, ℕ, inl, inr, Bool, true, false, List, [], ◌∷◌, ◌++◌, length, refl, sym, ap, ◌∙◌, subst, append-nil, Option, Some, None, arith}
use Rattle.std.proofs.lemmas.Bool.{ne_eqb}
use Rattle.web_frames.specs.declared.limits.Side.{Side}
use Rattle.web_frames.specs.declared.limits.Side.TheVariants.{Request, Response}
use Rattle.web_frames.specs.declared.fault.FrameFault.{FrameFault}
use Rattle.web_frames.specs.declared.status.Trailers.{Trailers}
use Rattle.web_frames.specs.declared.state.FramePlace.{FramePlace}
use Rattle.web_frames.specs.declared.state.FramePlace.TheVariants.{Open, Whole, Over, Refused}
use Rattle.web_frames.specs.Machine.{FrameState, begin, after, events_of}
use Rattle.web_frames.specs.Standard.{IsBytes, Frames, GoesOn, IsBegun, IsRefused, StandsAt, events, Reads}
use Rattle.web_frames.proofs.MachineLemmas.{open_at}
use Rattle.web_frames.proofs.FrameLemmas.{stands_at, place_of, run_frames, GoesOn-Frames}
use Rattle.web_frames.proofs.LawLemmas.{frames_are_read}
use Rattle.web_contents.specs.Contents.{is_complete}
use Rattle.web_contents.specs.Standard.{HasEnough, AreCutOff, AreFrames, BreaksOff}
use Rattle.web_contents.proofs.Places.{IsGood, good_open}

-- the machine after a payload without a fault, and what it told
pub record Leaves (side : Side) (payload : List ℕ) (messages : List (List ℕ)) (trailers : Option Trailers) (complete : Bool) : Type 0 where
  pub good : IsGood (after (begin side) payload).place
  pub side_is : (after (begin side) payload).side ≡ side
  pub complete_is : is_complete (after (begin side) payload) ≡ complete
  pub tells : events_of (begin side) payload ≡ events messages trailers

leaves_at : (side : Side) (payload : List ℕ) (messages : List (List ℕ)) (trailers : Option Trailers) (state : FrameState) → after (begin side) payload ≡ state
    → state.side ≡ side → IsGood state.place → events_of (begin side) payload ≡ events messages trailers
    → Leaves side payload messages trailers (is_complete state)
leaves_at side payload messages trailers state e own good tells = record {
  good = λ fault f. good fault (ap (λ (s : FrameState). s.place) (sym e) ∙ f);
  side_is = ap (λ (s : FrameState). s.side) e ∙ own;
  complete_is = ap is_complete e;
  tells = tells;
}

good_place : (side : Side) (messages : List (List ℕ)) (trailers : Option Trailers) → IsGood (place_of side messages trailers)
good_place Request [] trailers fault e = cc
good_place Request (message ∷ messages) trailers fault e = cc
good_place Response messages None fault e = cc
good_place Response messages (Some trailers) fault e = cc

-- ---- whole frames, and frames that break off

abbrev frames_complete : Side → List (List ℕ) → Option Trailers → Bool
frames_complete side messages trailers = is_complete (stands_at side (place_of side messages trailers))

leaves_frames : (side : Side) (payload : List ℕ) (messages : List (List ℕ)) (trailers : Option Trailers) → Frames side payload messages trailers
    → Leaves side payload messages trailers (frames_complete side messages trailers)
leaves_frames side payload messages trailers frames =
    let read = run_frames side payload messages trailers frames in
    leaves_at side payload messages trailers (stands_at side (place_of side messages trailers)) read.0 refl (good_place side messages trailers) read.1

leaves_cut_off : (side : Side) (payload : List ℕ) (messages : List (List ℕ)) (trailers : Option Trailers) (cut : AreCutOff side payload messages trailers)
    → Leaves side payload messages trailers (is_complete (open_at side cut.part))
leaves_cut_off side payload messages trailers cut =
    let reads : Reads side payload (events messages trailers) (open_at side cut.part) = record {
      messages = messages;
      trailers = trailers;
      told_is = refl;
      side_is = refl;
      stands = (cut.front, cut.goes_on, cut.none, cut.payload_is, cut.begun);
    } in
    let only = frames_are_read.only side payload (events messages trailers) (open_at side cut.part) reads in
    leaves_at side payload messages trailers (open_at side cut.part) only.1 refl good_open only.0

complete_enough : (side : Side) (messages : List (List ℕ)) (trailers : Option Trailers) → HasEnough side messages → frames_complete side messages trailers ≡ true
complete_enough Request [] trailers enough = absurd (omega arith)
complete_enough Request (message ∷ messages) trailers enough = refl
complete_enough Response messages None enough = refl
complete_enough Response messages (Some trailers) enough = refl

pub leaves_whole : (side : Side) (payload : List ℕ) (messages : List (List ℕ)) (trailers : Option Trailers) → Frames side payload messages trailers
    → HasEnough side messages → Leaves side payload messages trailers true
leaves_whole side payload messages trailers frames enough =
    subst (Leaves side payload messages trailers) (complete_enough side messages trailers enough) (leaves_frames side payload messages trailers frames)

not_between : (part : List ℕ) → part ≢ [] → is_complete (open_at Response part) ≡ false
not_between [] some = absurd (some refl)
not_between (b ∷ part) some = ne_eqb (length (b ∷ part)) 0 (λ e. omega arith)

pub leaves_broken : (side : Side) (payload : List ℕ) (messages : List (List ℕ)) (trailers : Option Trailers) → BreaksOff side payload messages trailers
    → Leaves side payload messages trailers false
leaves_broken Request payload messages trailers (inl frames, none) =
    subst (Leaves Request payload messages trailers)
    (ap (λ (m : List (List ℕ)). frames_complete Request m trailers) none) (leaves_frames Request payload messages trailers frames)
leaves_broken Request payload messages trailers (inr cut, none) = leaves_cut_off Request payload messages trailers cut
leaves_broken Response payload messages trailers cut =
    subst (Leaves Response payload messages trailers) (not_between cut.part cut.some) (leaves_cut_off Response payload messages trailers cut)

-- what frames told, whole or not
pub record Good (side : Side) (payload : List ℕ) (messages : List (List ℕ)) (trailers : Option Trailers) : Type 0 where
  pub good : IsGood (after (begin side) payload).place
  pub tells : events_of (begin side) payload ≡ events messages trailers

pub good_frames : (side : Side) (payload : List ℕ) (messages : List (List ℕ)) (trailers : Option Trailers) → AreFrames side payload messages trailers
    → Good side payload messages trailers
good_frames side payload messages trailers (inl frames) =
    let leaves = leaves_frames side payload messages trailers frames in record { good = leaves.good; tells = leaves.tells }
good_frames side payload messages trailers (inr cut) =
    let leaves = leaves_cut_off side payload messages trailers cut in record { good = leaves.good; tells = leaves.tells }

-- ---- what a payload is

pub data Found (side : Side) (payload : List ℕ) : Type 0 where
  whole : (messages : List (List ℕ)) (trailers : Option Trailers) → Frames side payload messages trailers → HasEnough side messages → Found side payload
  broken : (messages : List (List ℕ)) (trailers : Option Trailers) → BreaksOff side payload messages trailers → Found side payload
  refused : (messages : List (List ℕ)) (trailers : Option Trailers) (fault : FrameFault) → IsRefused side payload messages trailers fault → Found side payload

-- frames, and after them nothing
frames_alone : (side : Side) (payload front : List ℕ) (messages : List (List ℕ)) (trailers : Option Trailers) → GoesOn side front messages → trailers ≡ None
    → payload ≡ front ++ [] → Frames side payload messages trailers
frames_alone side payload front messages trailers goes none e =
    subst (λ (b : List ℕ). Frames side b messages trailers) (sym (append-nil front) ∙ sym e)
    (subst (λ (t : Option Trailers). Frames side front messages t) (sym none) (GoesOn-Frames side front messages goes))

found_open : (side : Side) (payload front held : List ℕ) (messages : List (List ℕ)) (trailers : Option Trailers) → GoesOn side front messages → trailers ≡ None
    → payload ≡ front ++ held → IsBegun side held → Found side payload
found_open Request payload front [] messages trailers goes none e begun =
    broken messages trailers (inl (frames_alone Request payload front messages trailers goes none e), goes.may)
found_open Request payload front (b ∷ held) messages trailers goes none e begun =
    broken messages trailers
    (inr (record { front = front; part = b ∷ held; payload_is = e; goes_on = goes; none = none; some = λ f. cc; begun = begun }), goes.may)
found_open Response payload front [] messages trailers goes none e begun =
    whole messages trailers (frames_alone Response payload front messages trailers goes none e) tt
found_open Response payload front (b ∷ held) messages trailers goes none e begun =
    broken messages trailers
    (record { front = front; part = b ∷ held; payload_is = e; goes_on = goes; none = none; some = λ f. cc; begun = begun })

enough_one : (side : Side) (messages : List (List ℕ)) → length messages ≡ 1 → HasEnough side messages
enough_one Request messages one = one
enough_one Response messages one = tt

enough_response : (side : Side) (messages : List (List ℕ)) → side ≡ Response → HasEnough side messages
enough_response Request messages e = absurd (cc)
enough_response Response messages e = tt

found_at : (place : FramePlace) (side : Side) (payload : List ℕ) (messages : List (List ℕ)) (trailers : Option Trailers) (held : List ℕ)
    → StandsAt place side payload messages trailers held → Found side payload
found_at Open side payload messages trailers held (front, goes, none, e, begun) =
    found_open side payload front held messages trailers goes none e begun
found_at Whole side payload messages trailers held (own, frames, one, nothing) = whole messages trailers frames (enough_one side messages one)
found_at Over side payload messages trailers held (own, frames, some, nothing) = whole messages trailers frames (enough_response side messages own)
found_at (Refused fault) side payload messages trailers held (is, nothing) = refused messages trailers fault is

pub found : (side : Side) (payload : List ℕ) → IsBytes payload → Found side payload
found side payload all =
    let state = after (begin side) payload in
    let reads = frames_are_read.given side payload all in
    found_at state.place side payload reads.messages reads.trailers state.held reads.stands

pub frames_broken : (side : Side) (payload : List ℕ) (messages : List (List ℕ)) (trailers : Option Trailers) → BreaksOff side payload messages trailers
    → AreFrames side payload messages trailers
frames_broken Request payload messages trailers (frames, none) = frames
frames_broken Response payload messages trailers cut = inr cut
