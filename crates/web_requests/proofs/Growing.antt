-- The contents of a request stay within their bounds.
use Rattle.std.proofs.Common.{◌≡◌, ℕ, eqb, ltb, ◌+◌, ◌-◌, ◌*◌, ◌<◌, ◌≤◌, Bool, cond, true, false, inl, inr, List, [], ◌∷◌, ◌++◌, length, refl, sym, ap, ◌∙◌, subst, arith, Option, Some, None, length-append, length-drop}
use Rattle.std.proofs.lemmas.Bool.{cond_both, cases_lt, ltb-true, ltb-false}
use Rattle.web_heads.specs.declared.body.BodyKind.{BodyKind}
use Rattle.web_heads.specs.declared.body.BodyKind.TheVariants as kind
use Rattle.web_heads.specs.ChunkLines.{chunk_size}
use Rattle.web_bodies.specs.declared.place.BodyPlace.{BodyPlace}
use Rattle.web_bodies.specs.declared.place.BodyPlace.TheVariants as body
use Rattle.web_bodies.specs.declared.place.TrailerPlace.{TrailerPlace}
use Rattle.web_bodies.specs.declared.place.TrailerPlace.TheVariants.{LineStart}
use Rattle.web_bodies.specs.declared.fault.BodyFault.TheVariants.{BadChunk, HeadTooLong}
use Rattle.web_bodies.specs.Body.{Body}
use Rattle.web_bodies.specs.Steps.{length_place, data_place, size_place, line_place, line_step, cr_place, lf_place, is_empty_line, trailer_step, trailers_place, step_at, body_step, awaits_payload, emitted, first_place}
use Rattle.web_bodies.specs.Steps as bodies
use Rattle.web_frames.specs.declared.limits.Side.{Side}
use Rattle.web_frames.specs.declared.limits.Side.TheVariants.{Request}
use Rattle.web_frames.specs.declared.event.FrameEvent.TheVariants as event
use Rattle.web_frames.specs.declared.state.FramePlace.{FramePlace}
use Rattle.web_frames.specs.declared.state.FramePlace.TheVariants as frame
use Rattle.web_frames.specs.Machine.{FrameState, Settled, more, told, faulty, settled_by, frame_step}
use Rattle.web_frames.specs.Machine as frames
use Rattle.web_frames.proofs.MachineLemmas.{open_at, frame_step-settled, frame_step-whole, frame_step-over, frame_step-refused, after-one, after-nil}
use Rattle.web_frames.proofs.ReaderLemmas.{IsHeaded-more}
use Rattle.web_contents.specs.declared.place.ContentPlace.{ContentPlace}
use Rattle.web_contents.specs.declared.place.ContentPlace.TheVariants as content
use Rattle.web_contents.specs.Contents.{Content, place_of, place_by, content_step}
use Rattle.web_contents.specs.Contents as contents
use Rattle.web_contents.specs.Laws as content_laws
use Rattle.web_contents.proofs.Parts as content_parts
use Rattle.web_contents.proofs.Places.{IsGood, open-place}
use Rattle.web_requests.specs.Bounds.{payload_at, payload_so_far, IsShortAt, IsBoundedAt, IsWithinBounds, IsBounded}

-- ---- one byte of payload

record FrameGrows (old new : FrameState) : Type 0 where
  side : new.side ≡ Request
  short : IsShortAt new.place new.held
  longer : payload_so_far old + 1 ≤ payload_so_far new

short_held : (held : List ℕ) → settled_by Request held ≡ more → length held + 1 ≤ 67108869
short_held held e = elim (cases_lt (length held) 5) [
  | inl few ↦ omega arith
  | inr many ↦
      let x = IsHeaded-more Request held e many in
      let fits = x.fits in
      let part = x.part in
      omega (arith, length-drop 5 held)
]

grows_open : (held : List ℕ) (b : ℕ) (settled : Settled) → settled_by Request (held ++ b ∷ []) ≡ settled → length held + 1 ≤ 67108869
    → IsGood (frame_step (open_at Request held) b).place → FrameGrows (open_at Request held) (frame_step (open_at Request held) b)
grows_open held b more e short goes_on =
    let longer = length-append held (b ∷ []) in
    rw (frame_step-settled Request held b more e) (record { side = refl; short = short_held (held ++ b ∷ []) e; longer = omega arith })
grows_open held b (told (event.Message payload)) e short goes_on =
    rw (frame_step-settled Request held b (told (event.Message payload)) e) (record { side = refl; short = tt; longer = short })
grows_open held b (told (event.Trailers trailers)) e short goes_on =
    rw (frame_step-settled Request held b (told (event.Trailers trailers)) e) (record { side = refl; short = tt; longer = short })
grows_open held b (faulty fault) e short goes_on =
    absurd (goes_on fault (ap (λ (s : FrameState). s.place) (frame_step-settled Request held b (faulty fault) e)))

abbrev at_place : FramePlace → List ℕ → FrameState
at_place place held = record { side = Request; place = place; held = held }

grows_at : (place : FramePlace) (held : List ℕ) (b : ℕ) → IsShortAt place held → IsGood (frame_step (at_place place held) b).place
    → FrameGrows (at_place place held) (frame_step (at_place place held) b)
grows_at frame.Open held b short goes_on = grows_open held b (settled_by Request (held ++ b ∷ [])) refl short goes_on
grows_at frame.Whole held b short goes_on =
    absurd (goes_on _ (ap (λ (s : FrameState). s.place) (frame_step-whole Request held b)))
grows_at frame.Over held b short goes_on =
    absurd (goes_on _ (ap (λ (s : FrameState). s.place) (frame_step-over Request held b)))
grows_at (frame.Refused fault) held b short goes_on =
    absurd (goes_on fault (ap (λ (s : FrameState). s.place) (frame_step-refused Request fault held b)))

-- ---- places of a body

bounded-length_place : (left count : ℕ) (line : List ℕ) (payload : ℕ) → count ≤ 16384 + 600 * payload → IsBoundedAt (length_place left) count line payload
unfolding length_place
bounded-length_place left count line payload fits =
    cond_both (eqb left 0) body.Over (body.DataByLength left) (λ place. IsBoundedAt place count line payload) (λ _. omega arith) (λ _. fits)

bounded-data_place : (left count : ℕ) (line : List ℕ) (payload : ℕ) → count + 2 ≤ 16384 + 600 * payload → IsBoundedAt (data_place left) count line payload
unfolding data_place
bounded-data_place left count line payload fits =
    cond_both (eqb left 0) body.ChunkCr (body.ChunkData left) (λ place. IsBoundedAt place count line payload) (λ _. fits) (λ _. omega arith)

bounded-line_place : (at : ℕ) (size : Option ℕ) (count : ℕ) (line : List ℕ) (payload : ℕ) → count ≤ 16384 + 600 * payload + 257
    → IsBoundedAt (line_place at size) count line payload
unfolding line_place size_place
bounded-line_place at None count line payload fits = omega arith
bounded-line_place at (Some size) count line payload fits =
    cond_both (eqb size 0) (body.Trailers 0 LineStart) (body.ChunkData size) (λ place. IsBoundedAt place count line payload)
    (λ _. (omega arith, omega arith)) (λ _. fits)

-- the line of a body fits, and its places are bounded
record IsBody (b : Body) (payload : ℕ) : Type 0 where
  line_fits : length b.line ≤ 256
  bounded : IsBoundedAt b.place b.count b.line payload

bounded-line_step : (at count : ℕ) (line : List ℕ) (b payload : ℕ) → count ≤ 16384 + 600 * payload + length line → length line ≤ 256
    → IsBody (line_step at (record { place = body.ChunkLine at; count = count; line = line }) b) payload
unfolding line_step
bounded-line_step at count line b payload fits short =
    let longer = length-append line (b ∷ []) in
    cond_both (eqb b 10) (record { place = line_place at (chunk_size (line ++ b ∷ [])); count = count + 1; line = [] }) _
    (λ next. IsBody next payload)
    (λ _. record { line_fits = omega arith; bounded = bounded-line_place at (chunk_size (line ++ b ∷ [])) (count + 1) [] payload (omega arith) })
    (λ _. cond_both (ltb 256 (length (line ++ b ∷ []))) (record { place = body.Refused (BadChunk at); count = count + 1; line = [] })
    (record { place = body.ChunkLine at; count = count + 1; line = line ++ b ∷ [] }) (λ next. IsBody next payload)
    (λ _. record { line_fits = omega arith; bounded = omega arith })
    (λ e. let few = ltb-false 256 (length (line ++ b ∷ [])) e in record { line_fits = few; bounded = omega arith }))

bounded-cr_place : (at b count : ℕ) (line : List ℕ) (payload : ℕ) → count + 1 ≤ 16384 + 600 * payload → IsBoundedAt (cr_place at b) count line payload
unfolding cr_place
bounded-cr_place at b count line payload fits =
    cond_both (eqb b 13) (body.ChunkLf at) (body.Refused (BadChunk at)) (λ place. IsBoundedAt place count line payload) (λ _. fits)
    (λ _. omega arith)

bounded-lf_place : (at next b count : ℕ) (line : List ℕ) (payload : ℕ) → count ≤ 16384 + 600 * payload → IsBoundedAt (lf_place at next b) count line payload
unfolding lf_place
bounded-lf_place at next b count line payload fits =
    cond_both (eqb b 10) (body.ChunkLine next) (body.Refused (BadChunk at)) (λ place. IsBoundedAt place count line payload)
    (λ _. omega arith) (λ _. omega arith)

bounded-trailers_place : (taken : ℕ) (end : TrailerPlace) (b count : ℕ) (line : List ℕ) (payload : ℕ)
    → count ≤ 16384 + 600 * payload + 257 + (taken + 1) → taken ≤ 16384 → IsBoundedAt (trailers_place taken end b) count line payload
unfolding trailers_place
bounded-trailers_place taken end b count line payload fits within =
    cond_both (is_empty_line end b) body.Over _ (λ place. IsBoundedAt place count line payload) (λ _. omega arith)
    (λ _. cond_both (ltb (taken + 1) 16384) (body.Trailers (taken + 1) (trailer_step end b)) (body.Refused HeadTooLong)
    (λ place. IsBoundedAt place count line payload)
    (λ e. let few = ltb-true (taken + 1) 16384 e in (fits, omega arith)) (λ _. omega arith))

-- ---- one byte of a body

-- the payload after a byte: one more where it is payload
abbrev PayloadAfter : BodyPlace → ℕ → ℕ → Type 0
PayloadAfter place before payload = (awaits_payload place ≡ true → before + 1 ≤ payload) × (awaits_payload place ≡ false → before ≡ payload)

byte_bounded : (place : BodyPlace) (count : ℕ) (line : List ℕ) (b before payload : ℕ) → IsBoundedAt place count line before → length line ≤ 256
    → PayloadAfter place before payload → IsBody (body_step (record { place = place; count = count; line = line }) b) payload
unfolding body_step step_at awaits_payload
byte_bounded (body.DataByLength left) count line b before payload fits short p =
    let longer = p.0 refl in
    record { line_fits = short; bounded = bounded-length_place (left - 1) (count + 1) line payload (omega arith) }
byte_bounded body.DataToEnd count line b before payload fits short p =
    let longer = p.0 refl in record { line_fits = short; bounded = omega arith }
byte_bounded (body.ChunkLine at) count line b before payload fits short p =
    let same = p.1 refl in bounded-line_step at count line b payload (omega arith) short
byte_bounded (body.ChunkData left) count line b before payload fits short p =
    let longer = p.0 refl in
    record { line_fits = short; bounded = bounded-data_place (left - 1) (count + 1) line payload (omega arith) }
byte_bounded body.ChunkCr count line b before payload fits short p =
    let same = p.1 refl in record { line_fits = short; bounded = bounded-cr_place count b (count + 1) line payload (omega arith) }
byte_bounded (body.ChunkLf at) count line b before payload fits short p =
    let same = p.1 refl in record { line_fits = short; bounded = bounded-lf_place at (count + 1) b (count + 1) line payload (omega arith) }
byte_bounded (body.Trailers taken end) count line b before payload fits short p =
    let same = p.1 refl in
    let so_far = fits.0 in
    record { line_fits = short; bounded = bounded-trailers_place taken end b (count + 1) line payload (omega arith) fits.1 }
byte_bounded body.Over count line b before payload fits short p =
    let same = p.1 refl in record { line_fits = short; bounded = omega arith }
byte_bounded (body.Refused fault) count line b before payload fits short p =
    let same = p.1 refl in record { line_fits = short; bounded = omega arith }

-- ---- one byte of contents

frames_silent : (body : Body) (s : FrameState) (b : ℕ) → awaits_payload body.place ≡ false → frames.after s (emitted body b) ≡ s
unfolding emitted
frames_silent body s b e = ap (λ (t : Bool). frames.after s (cond t (b ∷ []) [])) e ∙ after-nil s

frames_fed : (body : Body) (s : FrameState) (b : ℕ) → awaits_payload body.place ≡ true → frames.after s (emitted body b) ≡ frame_step s b
unfolding emitted
frames_fed body s b e = ap (λ (t : Bool). frames.after s (cond t (b ∷ []) [])) e ∙ after-one s b

-- a byte that isn't payload, and one that is
silent_within : (place : BodyPlace) (count : ℕ) (line : List ℕ) (s : FrameState) (b : ℕ) → awaits_payload place ≡ false
    → IsWithinBounds (record { body = record { place = place; count = count; line = line }; frames = s })
    → IsWithinBounds (content_step (record { body = record { place = place; count = count; line = line }; frames = s }) b)
unfolding content_step
silent_within place count line s b silent x =
    let same = frames_silent (record { place = place; count = count; line = line }) s b silent in
    let grown = byte_bounded place count line b (payload_so_far s) (payload_so_far s) x.bounded x.line_fits
    ((λ other. absurd (let e : true ≡ false = sym other ∙ silent in cc)), (λ _. refl)) in
    rw same (record { side = x.side; short = x.short; line_fits = grown.line_fits; bounded = grown.bounded })

fed_within : (place : BodyPlace) (count : ℕ) (line : List ℕ) (s : FrameState) (b : ℕ) → awaits_payload place ≡ true
    → IsWithinBounds (record { body = record { place = place; count = count; line = line }; frames = s })
    → FrameGrows s (frame_step s b)
    → IsWithinBounds (content_step (record { body = record { place = place; count = count; line = line }; frames = s }) b)
unfolding content_step
fed_within place count line s b fed x grows =
    let next = frames_fed (record { place = place; count = count; line = line }) s b fed in
    let grown = byte_bounded place count line b (payload_so_far s) (payload_so_far (frame_step s b)) x.bounded x.line_fits
    ((λ _. grows.longer), (λ other. absurd (let e : true ≡ false = sym fed ∙ other in cc))) in
    rw next (record { side = grows.side; short = grows.short; line_fits = grown.line_fits; bounded = grown.bounded })

grows : (s : FrameState) (b : ℕ) → s.side ≡ Request → IsShortAt s.place s.held → IsGood (frame_step s b).place → FrameGrows s (frame_step s b)
grows s b side short goes_on =
    let same : s ≡ at_place s.place s.held = ap (λ (x : Side). record { side = x; place = s.place; held = s.held }) side in
    let P : FrameState → Type 0 = λ t. FrameGrows t (frame_step t b) in
    subst P (sym same) (grows_at s.place s.held b short (subst (λ (t : FrameState). IsGood (frame_step t b).place) same goes_on))

content_frames : (c : Content) (b : ℕ) → (content_step c b).frames ≡ frames.after c.frames (emitted c.body b)
unfolding content_step
content_frames c b = refl

step_within : (c : Content) (b : ℕ) (fed : Bool) → awaits_payload c.body.place ≡ fed → IsWithinBounds c → place_of (content_step c b) ≡ content.Open
    → IsWithinBounds (content_step c b)
step_within c b false silent x e = silent_within c.body.place c.body.count c.body.line c.frames b silent x
step_within c b true fed x e =
    let next = content_frames c b ∙ frames_fed c.body c.frames b fed in
    fed_within c.body.place c.body.count c.body.line c.frames b fed x
    (grows c.frames b x.side x.short (subst (λ (s : FrameState). IsGood s.place) next (open-place (content_step c b) e).0))

step_bounded_at : (laws : content_laws.PiecesJoin) (c : Content) (b : ℕ) (place : ContentPlace) → place_of c ≡ place → IsBounded c
    → IsBounded (content_step c b)
step_bounded_at laws c b content.Open e x =
    record { while_open = step_within c b (awaits_payload c.body.place) refl (x.while_open e) }
step_bounded_at laws c b content.Over e x = rw (← (content_parts.after-one c b), (laws.ended c (b ∷ []) e).0) x
step_bounded_at laws c b (content.Refused fault) e x = record {
  while_open = λ is. absurd (let other : content.Refused fault ≡ content.Open
      = sym (laws.refused c (b ∷ []) fault e).0 ∙ ap place_of (content_parts.after-one c b) ∙ is in cc);
}

pub after-bounded : (laws : content_laws.PiecesJoin) (bytes : List ℕ) (c : Content) → IsBounded c → IsBounded (contents.after c bytes)
after-bounded laws [] c x = rw (content_parts.after-nil c) x
after-bounded laws (b ∷ bytes) c x =
    rw (content_parts.after-cons c b bytes) (after-bounded laws bytes (content_step c b) (step_bounded_at laws c b (place_of c) refl x))

-- ---- the beginning

bounded-first : (kind : BodyKind) (at : ℕ) → at ≤ 16384 → IsBoundedAt (first_place kind at) at [] 0
unfolding first_place
bounded-first (kind.Length count) at few = bounded-length_place count at [] 0 (omega arith)
bounded-first kind.Chunks at few = omega arith
bounded-first kind.ToEnd at few = omega arith

pub begin-bounded : (kind : BodyKind) (at : ℕ) → at ≤ 16384 → IsBounded (contents.begin Request kind at)
unfolding bodies.begin
begin-bounded kind at few = record {
  while_open = λ _. record { side = refl; short = omega arith; line_fits = omega arith; bounded = bounded-first kind at few };
}

-- ---- how many bytes that is

few_by : (place : BodyPlace) (count : ℕ) (line : List ℕ) (payload : ℕ) → IsBoundedAt place count line payload → payload ≤ 67108869
    → length line ≤ 256 → count < 4611686018427387904
few_by (body.DataByLength left) count line payload fits most short = omega arith
few_by body.DataToEnd count line payload fits most short = omega arith
few_by (body.ChunkLine at) count line payload fits most short = omega arith
few_by (body.ChunkData left) count line payload fits most short = omega arith
few_by body.ChunkCr count line payload fits most short = omega arith
few_by (body.ChunkLf at) count line payload fits most short = omega arith
few_by (body.Trailers taken end) count line payload fits most short =
    let so_far = fits.0 in
    let within = fits.1 in
    omega arith
few_by body.Over count line payload fits most short = omega arith
few_by (body.Refused fault) count line payload fits most short = omega arith

most_payload : (place : FramePlace) (held : List ℕ) → IsShortAt place held → payload_at place held ≤ 67108869
most_payload frame.Open held short = omega arith
most_payload frame.Whole held short = omega arith
most_payload frame.Over held short = omega arith
most_payload (frame.Refused fault) held short = omega arith

pub few : (c : Content) → IsWithinBounds c → c.body.count < 4611686018427387904
few c x =
    few_by c.body.place c.body.count c.body.line (payload_so_far c.frames) x.bounded (most_payload c.frames.place c.frames.held x.short) x.line_fits
