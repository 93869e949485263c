-- A body that may have no payload.
use Rattle.std.proofs.Common.{◌≡◌, ◌≢◌, ℕ, ◌<◌, ◌≤◌, ◌⊎◌, inl, inr, Bool, true, false, List, [], ◌∷◌, ◌++◌, length, take, drop, refl, sym, ap, ◌∙◌, subst, take-append-drop, length-drop, length-take-le, arith}
use Rattle.std.proofs.lemmas.Bool.{cond-true}
use Rattle.web_bodies.specs.declared.fault.BodyFault.{BodyFault}
use Rattle.web_bodies.specs.declared.place.BodyPlace.{BodyPlace}
use Rattle.web_bodies.specs.declared.place.BodyPlace.TheVariants as body
use Rattle.web_bodies.specs.Body.{Body}
use Rattle.web_bodies.specs.Steps as bodies
use Rattle.web_bodies.specs.Calls.{TakesFraming}
use Rattle.web_bodies.specs.Laws.{is_open}
use Rattle.web_bodies.proofs.Runs as body_runs
use Rattle.web_frames.specs.declared.limits.Side.TheVariants.{Response}
use Rattle.web_frames.specs.declared.fault.FrameFault.TheVariants as frame_fault
use Rattle.web_frames.specs.Machine.{FrameState}
use Rattle.web_frames.specs.Machine as frames
use Rattle.web_contents.specs.declared.fault.WebFault.TheVariants.{AfterTrailers}
use Rattle.web_contents.specs.declared.place.ContentPlace.{ContentPlace}
use Rattle.web_contents.specs.declared.place.ContentPlace.TheVariants.{Open, Over, Refused}
use Rattle.web_contents.specs.Contents.{Content, place_of, ends_with_connection, finish_at, finish}
use Rattle.web_contents.specs.Calls.{Leads, Settles}
use Rattle.web_contents.proofs.Parts.{parts, after-parts, events_of-parts}
use Rattle.web_contents.proofs.Places.{IsGood, place-open, place-over, place-bad_frames, open-place}
use Rattle.web_contents.proofs.Finish.{finish_is}
use Rattle.web_contents.proofs.Runs.{run_framing}
use Rattle.web_responses.specs.Answers.{no_frames}
use Rattle.web_responses.specs.Calls.{bare_frames}
use Rattle.web_responses.proofs.Told.{no_frames-some}

abbrev pub bare_with : Body → Bool → Content
bare_with left flag = record { body = left; frames = bare_frames flag }

-- ---- where it stands

pub good_flag : (flag : Bool) → IsGood (bare_frames flag).place → flag ≡ false
good_flag false good = refl
good_flag true good = absurd (good frame_fault.AfterTrailers refl)

pub good_empty : IsGood (bare_frames false).place
good_empty fault e = cc

pub bare_over : (left : Body) (flag : Bool) → flag ≡ false → left.place ≡ body.Over → place_of (bare_with left flag) ≡ Over
bare_over left flag e over =
    ap (λ (f : Bool). place_of (bare_with left f)) e ∙ place-over (bare_with left false) good_empty over refl

pub bare_open : (left : Body) (flag : Bool) → flag ≡ false → is_open left.place ≡ true → place_of (bare_with left flag) ≡ Open
bare_open left flag e going =
    ap (λ (f : Bool). place_of (bare_with left f)) e ∙ place-open (bare_with left false) good_empty going

pub bare_refused : (left : Body) → place_of (bare_with left true) ≡ Refused AfterTrailers
bare_refused left = place-bad_frames (bare_with left true) frame_fault.AfterTrailers refl

pub still_open : (place : BodyPlace) → place ≢ body.Over → ((fault : BodyFault) → place ≢ body.Refused fault) → is_open place ≡ true
still_open (body.DataByLength left) over refused = refl
still_open body.DataToEnd over refused = refl
still_open (body.ChunkLine at) over refused = refl
still_open (body.ChunkData left) over refused = refl
still_open body.ChunkCr over refused = refl
still_open (body.ChunkLf at) over refused = refl
still_open (body.Trailers count line) over refused = refl
still_open body.Over over refused = absurd (over refl)
still_open (body.Refused fault) over refused = absurd (refused fault refl)

-- ---- the end of the connection

pub bare_finish : (left : Body) (flag : Bool) (to_end : Bool) → place_of (bare_with left flag) ≡ Open → ends_with_connection left.place ≡ to_end
    → finish (bare_with left flag) ≡ finish_at Open to_end (bare_frames false)
bare_finish left flag to_end stands e =
    finish_is (bare_with left flag) Open to_end stands e
    ∙ ap (λ (f : Bool). finish_at Open to_end (bare_frames f)) (good_flag flag (open-place (bare_with left flag) stands).0)

-- ---- framing

pub bare_leads : (left : Body) (flag : Bool) (piece : List ℕ) (count : ℕ) (new : Body) (place : ContentPlace) → TakesFraming left piece new count
    → place_of (bare_with new flag) ≡ place → Leads (bare_with left flag) piece count place (bare_with new flag)
bare_leads left flag piece count new place x stands =
    let run = run_framing (bare_with left flag) piece count new x in record { takes = run.takes; silent = run.told; place_is = stands }

-- ---- a byte of payload

-- bytes of which one is payload are refused
pub bare_settles : (left : Body) (flag : Bool) (piece : List ℕ) (new : Body) (b : ℕ) (more : List ℕ) → flag ≡ false
    → bodies.payload_after left piece ≡ b ∷ more → Settles (bare_with left flag) piece AfterTrailers (bare_with new true)
bare_settles left flag piece new b more e payload =
    let some = no_frames-some b more in
    let frames_are : frames.after (bare_frames flag) (bodies.payload_after left piece) ≡ frames.refused_at Response frame_fault.AfterTrailers =
    ap (λ (f : Bool). frames.after (bare_frames f) (bodies.payload_after left piece)) e ∙ ap (frames.after no_frames) payload ∙ some.0 in
    record {
      settled = ap place_of (after-parts (bare_with left flag) piece)
          ∙ place-bad_frames (parts (bare_with left flag) piece) frame_fault.AfterTrailers (ap (λ (s : FrameState). s.place) frames_are);
      silent = events_of-parts (bare_with left flag) piece ∙ ap (λ (f : Bool). frames.events_of (bare_frames f) (bodies.payload_after left piece)) e
          ∙ ap (frames.events_of no_frames) payload ∙ some.1;
      refused = bare_refused new;
    }

payload_first : (left : Body) (b : ℕ) (rest : List ℕ) → bodies.awaits_payload left.place ≡ true
    → bodies.payload_after left (b ∷ rest) ≡ b ∷ bodies.payload_after (bodies.body_step left b) rest
unfolding bodies.payload_after bodies.emitted
payload_first left b rest awaits =
    ap (λ (first : List ℕ). first ++ bodies.payload_after (bodies.body_step left b) rest) (cond-true (bodies.awaits_payload left.place) (b ∷ []) [] awaits)

-- the bytes after so many of the framing
pub record SomePayload (left : Body) (piece : List ℕ) : Type 0 where
  pub b : ℕ
  pub more : List ℕ
  pub is : bodies.payload_after left piece ≡ b ∷ more

payload_behind : (left : Body) (front back : List ℕ) (new : Body) → new ≡ bodies.after left front → bodies.payload_after left front ≡ []
    → bodies.awaits_payload new.place ≡ true → 0 < length back → SomePayload left (front ++ back)
payload_behind left front [] new state none awaits some = absurd (omega arith)
payload_behind left front (b ∷ rest) new state none awaits some = record {
  b = b;
  more = bodies.payload_after (bodies.body_step new b) rest;
  is = body_runs.payload_after-append left front (b ∷ rest) ∙ ap (λ (p : List ℕ). p ++ bodies.payload_after (bodies.after left front) (b ∷ rest)) none
      ∙ ap (λ (c : Body). bodies.payload_after c (b ∷ rest)) (sym state) ∙ payload_first new b rest awaits;
}

awaits_by : (count : ℕ) (piece : List ℕ) (new : Body) → (count ≡ length piece) ⊎ ((new.place ≡ body.Over) ⊎ (bodies.awaits_payload new.place ≡ true))
    → count < length piece → new.place ≢ body.Over → bodies.awaits_payload new.place ≡ true
awaits_by count piece new (inl all) less over = absurd (omega arith)
awaits_by count piece new (inr (inl ended)) less over = absurd (over ended)
awaits_by count piece new (inr (inr awaits)) less over = awaits

pub framing_payload : (left : Body) (piece : List ℕ) (count : ℕ) (new : Body) → TakesFraming left piece new count → count < length piece
    → new.place ≢ body.Over → SomePayload left piece
framing_payload left piece count new x less over =
    subst (SomePayload left) (take-append-drop count piece)
    (payload_behind left (take count piece) (drop count piece) new x.state x.payload (awaits_by count piece new x.ends less over)
    (omega (arith, length-drop count piece)))

first_payload : (left : Body) (piece : List ℕ) → 0 < length piece → bodies.payload_after left (take 1 piece) ≡ take 1 piece → SomePayload left piece
first_payload left [] some all = absurd (omega arith)
first_payload left (b ∷ rest) some all = record {
  b = b;
  more = bodies.payload_after (bodies.after left (b ∷ [])) rest;
  is = body_runs.payload_after-append left (b ∷ []) rest ∙ ap (λ (p : List ℕ). p ++ bodies.payload_after (bodies.after left (b ∷ [])) rest) all;
}

pub ahead_payload : (left : Body) (piece : List ℕ) (ahead : ℕ) → 0 < ahead → ahead ≤ length piece
    → ((bytes : List ℕ) → length bytes ≤ ahead → bodies.payload_after left bytes ≡ bytes) → SomePayload left piece
ahead_payload left piece ahead some within all =
    first_payload left piece (omega arith) (all (take 1 piece) (omega (arith, length-take-le 1 piece (omega arith))))
