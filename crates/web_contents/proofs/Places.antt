-- Where a reader stands, by the places of the body and of the frames.
use Rattle.std.proofs.Common.{◌≡◌, ◌≢◌, ℕ, Bool, true, false, cond, List, [], refl, sym, ap, ◌∙◌}
use Rattle.std.proofs.lemmas.Bool.{false≢true}
use Rattle.web_bodies.specs.declared.fault.BodyFault.{BodyFault}
use Rattle.web_bodies.specs.declared.place.BodyPlace.{BodyPlace}
use Rattle.web_bodies.specs.declared.place.BodyPlace.TheVariants as body
use Rattle.web_bodies.specs.Body.{Body}
use Rattle.web_bodies.specs.Steps as bodies
use Rattle.web_bodies.specs.Laws.{is_open}
use Rattle.web_bodies.proofs.Runs.{after-Over, after-Refused}
use Rattle.web_frames.specs.declared.fault.FrameFault.{FrameFault}
use Rattle.web_frames.specs.declared.state.FramePlace.{FramePlace}
use Rattle.web_frames.specs.declared.state.FramePlace.TheVariants as frame
use Rattle.web_frames.specs.Machine.{FrameState}
use Rattle.web_frames.specs.Machine as frames
use Rattle.web_frames.proofs.MachineLemmas as machine
use Rattle.web_contents.specs.declared.fault.WebFault.{WebFault}
use Rattle.web_contents.specs.declared.place.ContentPlace.{ContentPlace}
use Rattle.web_contents.specs.declared.place.ContentPlace.TheVariants.{Open, Over, Refused}
use Rattle.web_contents.specs.Faults.{fault_of_body, fault_of_frames, unfinished}
use Rattle.web_contents.specs.Contents.{Content, is_complete, place_by_body, place_at_end, place_by, place_of, after, events_of}
use Rattle.web_contents.proofs.Parts.{parts, after-parts, events_of-parts}

-- the frames have no fault
abbrev pub IsGood : FramePlace → Type 0
IsGood place = (fault : FrameFault) → place ≢ frame.Refused fault

-- where the parts stand, and so the whole
pub data Standing (at : FramePlace) (here : BodyPlace) (s : FrameState) (place : ContentPlace) : Type 0 where
  going_on : IsGood at → is_open here ≡ true → place ≡ Open → Standing at here s place
  over : IsGood at → here ≡ body.Over → is_complete s ≡ true → place ≡ Over → Standing at here s place
  too_early : IsGood at → here ≡ body.Over → is_complete s ≡ false → place ≡ Refused (unfinished s.side) → Standing at here s place
  bad_body : (fault : BodyFault) → IsGood at → here ≡ body.Refused fault → place ≡ Refused (fault_of_body fault) → Standing at here s place
  bad_frames : (fault : FrameFault) → at ≡ frame.Refused fault → place ≡ Refused (fault_of_frames fault) → Standing at here s place

over_by : (at : FramePlace) → IsGood at → (s : FrameState) (complete : Bool) → is_complete s ≡ complete
    → Standing at body.Over s (cond complete Over (Refused (unfinished s.side)))
over_by at good s true e = over good refl e refl
over_by at good s false e = too_early good refl e refl

by_body : (at : FramePlace) → IsGood at → (here : BodyPlace) (s : FrameState) → Standing at here s (place_by_body here s)
by_body at good (body.DataByLength left) s = going_on good refl refl
by_body at good body.DataToEnd s = going_on good refl refl
by_body at good (body.ChunkLine start) s = going_on good refl refl
by_body at good (body.ChunkData left) s = going_on good refl refl
by_body at good body.ChunkCr s = going_on good refl refl
by_body at good (body.ChunkLf start) s = going_on good refl refl
by_body at good (body.Trailers count line) s = going_on good refl refl
by_body at good body.Over s = over_by at good s (is_complete s) refl
by_body at good (body.Refused fault) s = bad_body fault good refl refl

pub good_open : IsGood frame.Open
good_open fault e = cc

good_whole : IsGood frame.Whole
good_whole fault e = cc

good_over : IsGood frame.Over
good_over fault e = cc

standing_by : (at : FramePlace) (here : BodyPlace) (s : FrameState) → Standing at here s (place_by at here s)
standing_by frame.Open here s = by_body frame.Open good_open here s
standing_by frame.Whole here s = by_body frame.Whole good_whole here s
standing_by frame.Over here s = by_body frame.Over good_over here s
standing_by (frame.Refused fault) here s = bad_frames fault refl refl

pub standing : (c : Content) → Standing c.frames.place c.body.place c.frames (place_of c)
unfolding place_of
standing c = standing_by c.frames.place c.body.place c.frames

-- ---- from the parts to the whole

good_by : (at : FramePlace) (here : BodyPlace) (s : FrameState) → IsGood at → place_by at here s ≡ place_by_body here s
good_by frame.Open here s good = refl
good_by frame.Whole here s good = refl
good_by frame.Over here s good = refl
good_by (frame.Refused fault) here s good = absurd (good fault refl)

open_by : (here : BodyPlace) (s : FrameState) → is_open here ≡ true → place_by_body here s ≡ Open
open_by (body.DataByLength left) s e = refl
open_by body.DataToEnd s e = refl
open_by (body.ChunkLine start) s e = refl
open_by (body.ChunkData left) s e = refl
open_by body.ChunkCr s e = refl
open_by (body.ChunkLf start) s e = refl
open_by (body.Trailers count line) s e = refl
open_by body.Over s e = absurd (false≢true e)
open_by (body.Refused fault) s e = absurd (false≢true e)

pub place-open : (c : Content) → IsGood c.frames.place → is_open c.body.place ≡ true → place_of c ≡ Open
unfolding place_of
place-open c good e = good_by c.frames.place c.body.place c.frames good ∙ open_by c.body.place c.frames e

pub place-ended : (c : Content) → IsGood c.frames.place → c.body.place ≡ body.Over → place_of c ≡ place_at_end c.frames
unfolding place_of
place-ended c good e = good_by c.frames.place c.body.place c.frames good ∙ ap (λ (p : BodyPlace). place_by_body p c.frames) e

pub place-over : (c : Content) → IsGood c.frames.place → c.body.place ≡ body.Over → is_complete c.frames ≡ true → place_of c ≡ Over
place-over c good e complete = place-ended c good e ∙ ap (λ (b : Bool). cond b Over (Refused (unfinished c.frames.side))) complete

pub place-unfinished : (c : Content) → IsGood c.frames.place → c.body.place ≡ body.Over → is_complete c.frames ≡ false
    → place_of c ≡ Refused (unfinished c.frames.side)
place-unfinished c good e complete = place-ended c good e ∙ ap (λ (b : Bool). cond b Over (Refused (unfinished c.frames.side))) complete

pub place-bad_body : (c : Content) (fault : BodyFault) → IsGood c.frames.place → c.body.place ≡ body.Refused fault
    → place_of c ≡ Refused (fault_of_body fault)
unfolding place_of
place-bad_body c fault good e = good_by c.frames.place c.body.place c.frames good ∙ ap (λ (p : BodyPlace). place_by_body p c.frames) e

pub place-bad_frames : (c : Content) (fault : FrameFault) → c.frames.place ≡ frame.Refused fault → place_of c ≡ Refused (fault_of_frames fault)
unfolding place_of
place-bad_frames c fault e = ap (λ (p : FramePlace). place_by p c.body.place c.frames) e

-- ---- from the whole to the parts

going : (at : FramePlace) (here : BodyPlace) (s : FrameState) (place : ContentPlace) → Standing at here s place → place ≡ Open
    → IsGood at × (is_open here ≡ true)
going at here s place (going_on good e is) stands = (good, e)
going at here s place (over good e complete is) stands = absurd (cc)
going at here s place (too_early good e complete is) stands = absurd (cc)
going at here s place (bad_body fault good e is) stands = absurd (cc)
going at here s place (bad_frames fault e is) stands = absurd (cc)

pub open-place : (c : Content) → place_of c ≡ Open → IsGood c.frames.place × (is_open c.body.place ≡ true)
open-place c e = going c.frames.place c.body.place c.frames (place_of c) (standing c) e

ended : (at : FramePlace) (here : BodyPlace) (s : FrameState) (place : ContentPlace) → Standing at here s place → place ≡ Over
    → IsGood at × (here ≡ body.Over) × (is_complete s ≡ true)
ended at here s place (going_on good e is) stands = absurd (cc)
ended at here s place (over good e complete is) stands = (good, e, complete)
ended at here s place (too_early good e complete is) stands = absurd (cc)
ended at here s place (bad_body fault good e is) stands = absurd (cc)
ended at here s place (bad_frames fault e is) stands = absurd (cc)

pub over-place : (c : Content) → place_of c ≡ Over → IsGood c.frames.place × (c.body.place ≡ body.Over) × (is_complete c.frames ≡ true)
over-place c e = ended c.frames.place c.body.place c.frames (place_of c) (standing c) e

-- ---- what stays

-- frames that have a fault keep it
pub bad_frames-stay : (s : FrameState) (fault : FrameFault) (bytes : List ℕ) → s.place ≡ frame.Refused fault
    → ((frames.after s bytes).place ≡ frame.Refused fault) × (frames.events_of s bytes ≡ [])
bad_frames-stay s fault bytes e =
    let same : s ≡ machine.refused_with s.side fault s.held =
    ap (λ (p : FramePlace). let t : FrameState = record { side = s.side; place = p; held = s.held } in t) e in (
      ap (λ (t : FrameState). (frames.after t bytes).place) same ∙ ap (λ (t : FrameState). t.place) (machine.after-refused s.side fault s.held bytes),
      ap (λ (t : FrameState). frames.events_of t bytes) same ∙ machine.events_of-refused s.side fault s.held bytes,
    )

-- frames without a fault had none before
pub good-before : (s : FrameState) (bytes : List ℕ) → IsGood (frames.after s bytes).place → IsGood s.place
good-before s bytes good fault e = good fault (bad_frames-stay s fault bytes e).0

-- a body that has ended stays
body_stays : (c : Content) (bytes : List ℕ) → (bodies.after c.body bytes ≡ c.body) × (bodies.payload_after c.body bytes ≡ [])
    → (after c bytes ≡ c) × (events_of c bytes ≡ [])
body_stays c bytes ends = (
  after-parts c bytes
      ∙ ap (λ (b : Body). let d : Content = record { body = b; frames = frames.after c.frames (bodies.payload_after c.body bytes) } in d) ends.0
      ∙ ap (λ (p : List ℕ). let d : Content = record { body = c.body; frames = frames.after c.frames p } in d) ends.1
      ∙ ap (λ (s : FrameState). let d : Content = record { body = c.body; frames = s } in d) (machine.after-nil c.frames),
  events_of-parts c bytes ∙ ap (frames.events_of c.frames) ends.1 ∙ machine.events_of-nil c.frames,
)

pub over-stays : (c : Content) (bytes : List ℕ) → place_of c ≡ Over → (after c bytes ≡ c) × (events_of c bytes ≡ [])
over-stays c bytes e = body_stays c bytes (after-Over c.body bytes (over-place c e).1)

refused_stays : (c : Content) (bytes : List ℕ) (place : ContentPlace) (fault : WebFault)
    → Standing c.frames.place c.body.place c.frames place → place ≡ Refused fault → place_of c ≡ place
    → (place_of (after c bytes) ≡ Refused fault) × (events_of c bytes ≡ [])
refused_stays c bytes place fault (going_on good e is) stands here = absurd (cc)
refused_stays c bytes place fault (over good e complete is) stands here = absurd (cc)
refused_stays c bytes place fault (too_early good e complete is) stands here =
    let stays = body_stays c bytes (after-Over c.body bytes e) in (ap place_of stays.0 ∙ here ∙ stands, stays.1)
refused_stays c bytes place fault (bad_body found good e is) stands here =
    let stays = body_stays c bytes (after-Refused c.body bytes found e) in (ap place_of stays.0 ∙ here ∙ stands, stays.1)
refused_stays c bytes place fault (bad_frames found e is) stands here =
    let stays = bad_frames-stay c.frames found (bodies.payload_after c.body bytes) e in (
      ap place_of (after-parts c bytes) ∙ place-bad_frames (parts c bytes) found stays.0 ∙ sym is ∙ stands,
      events_of-parts c bytes ∙ stays.1,
    )

pub refused-stays : (c : Content) (bytes : List ℕ) (fault : WebFault) → place_of c ≡ Refused fault
    → (place_of (after c bytes) ≡ Refused fault) × (events_of c bytes ≡ [])
refused-stays c bytes fault e = refused_stays c bytes (place_of c) fault (standing c) e refl
