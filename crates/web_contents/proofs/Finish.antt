-- What the end of the connection makes of a body.
use Rattle.std.proofs.Common.{◌≡◌, ◌≢◌, ℕ, ◌+◌, ◌-◌, eqb, ltb, inl, Bool, true, false, cond, List, [], ◌∷◌, ◌++◌, length, refl, sym, ap, ◌∙◌, subst, Option, Some, None, Result, Ok, Err}
use Rattle.std.proofs.lemmas.Bool.{false≢true}
use Rattle.web_heads.specs.declared.body.BodyKind.{BodyKind}
use Rattle.web_heads.specs.declared.body.BodyKind.TheVariants.{Length, Chunks, ToEnd}
use Rattle.web_heads.specs.ChunkLines.{most_chunk_line, chunk_size}
use Rattle.web_bodies.specs.declared.fault.BodyFault.{BodyFault}
use Rattle.web_bodies.specs.declared.fault.BodyFault.TheVariants.{BadChunk, HeadTooLong}
use Rattle.web_bodies.specs.declared.place.BodyPlace.{BodyPlace}
use Rattle.web_bodies.specs.declared.place.BodyPlace.TheVariants as body
use Rattle.web_bodies.specs.declared.place.TrailerPlace.{TrailerPlace}
use Rattle.web_bodies.specs.declared.place.TrailerPlace.TheVariants.{LineStart}
use Rattle.web_bodies.specs.Body.{Body, most_trailers}
use Rattle.web_bodies.specs.Steps as bodies
use Rattle.web_bodies.proofs.Runs as runs
use Rattle.web_bodies.proofs.Ahead.{length_place-not_refused}
use Rattle.web_bodies.proofs.Read.{bodies_are_read}
use Rattle.web_frames.specs.declared.limits.Side.{Side}
use Rattle.web_frames.specs.declared.limits.Side.TheVariants.{Response}
use Rattle.web_frames.specs.declared.status.Trailers.{Trailers}
use Rattle.web_frames.specs.Machine.{FrameState}
use Rattle.web_frames.specs.Machine as frames
use Rattle.web_frames.specs.Standard.{IsBytes, Frames}
use Rattle.web_frames.proofs.LawLemmas.{faults_are_read}
use Rattle.web_contents.specs.declared.fault.WebFault.{WebFault}
use Rattle.web_contents.specs.declared.fault.WebFault.TheVariants.{Truncated}
use Rattle.web_contents.specs.declared.place.ContentPlace.{ContentPlace}
use Rattle.web_contents.specs.declared.place.ContentPlace.TheVariants.{Open, Over, Refused}
use Rattle.web_contents.specs.Contents.{Content, is_complete, place_of, after, begin, ends_with_connection, finish_at, finish}
use Rattle.web_contents.specs.Calls.{is_to_end}
use Rattle.web_contents.specs.Standard.{BeginsContent, HasContentFault}
use Rattle.web_contents.specs.Laws.{ConnectionsEnd}
use Rattle.web_contents.proofs.Parts.{after-parts}
use Rattle.web_contents.proofs.Places.{IsGood, open-place}
use Rattle.web_contents.proofs.FramesRead.{Found, whole, broken, refused, found, leaves_whole, leaves_broken}
use Rattle.web_contents.proofs.Told.{begun_told, refused_told}

-- ---- a body that ends with the connection does so at each of its bytes, and no other body does

abbrev EndsElse : BodyPlace → Type 0
EndsElse place = ends_with_connection place ≡ false

zero_else : (n : ℕ) (place other : BodyPlace) → EndsElse place → EndsElse other → (zero : Bool) → EndsElse (cond zero place other)
zero_else n place other e f true = e
zero_else n place other e f false = f

length_else : (left : ℕ) → EndsElse (bodies.length_place left)
unfolding bodies.length_place
length_else left = zero_else left body.Over (body.DataByLength left) refl refl (eqb left 0)

data_else : (left : ℕ) → EndsElse (bodies.data_place left)
unfolding bodies.data_place
data_else left = zero_else left body.ChunkCr (body.ChunkData left) refl refl (eqb left 0)

size_else : (at : ℕ) (size : Option ℕ) → EndsElse (bodies.line_place at size)
unfolding bodies.line_place bodies.size_place
size_else at None = refl
size_else at (Some size) = zero_else size (body.Trailers 0 LineStart) (body.ChunkData size) refl refl (eqb size 0)

cr_else : (at b : ℕ) → EndsElse (bodies.cr_place at b)
unfolding bodies.cr_place
cr_else at b = zero_else b (body.ChunkLf at) (body.Refused (BadChunk at)) refl refl (eqb b 13)

lf_else : (at next b : ℕ) → EndsElse (bodies.lf_place at next b)
unfolding bodies.lf_place
lf_else at next b = zero_else b (body.ChunkLine next) (body.Refused (BadChunk at)) refl refl (eqb b 10)

trailers_by : (short : Bool) (place other : BodyPlace) → EndsElse place → EndsElse other → (ending : Bool)
    → EndsElse (cond ending body.Over (cond short place other))
trailers_by short place other e f true = refl
trailers_by true place other e f false = e
trailers_by false place other e f false = f

trailers_else : (count : ℕ) (line : TrailerPlace) (b : ℕ) → EndsElse (bodies.trailers_place count line b)
unfolding bodies.trailers_place
trailers_else count line b =
    trailers_by (ltb (count + 1) most_trailers) (body.Trailers (count + 1) (bodies.trailer_step line b)) (body.Refused HeadTooLong) refl refl
    (bodies.is_empty_line line b)

line_by : (first second third : Body) → EndsElse first.place → EndsElse second.place → EndsElse third.place → (ending long : Bool)
    → EndsElse (cond ending first (cond long second third)).place
line_by first second third e f g true long = e
line_by first second third e f g false true = f
line_by first second third e f g false false = g

line_else : (at : ℕ) (old : Body) (b : ℕ) → EndsElse (bodies.line_step at old b).place
unfolding bodies.line_step
line_else at old b =
    line_by (record { place = bodies.line_place at (chunk_size (old.line ++ b ∷ [])); count = old.count + 1; line = [] })
    (record { place = body.Refused (BadChunk at); count = old.count + 1; line = [] })
    (record { place = body.ChunkLine at; count = old.count + 1; line = old.line ++ b ∷ [] })
    (size_else at (chunk_size (old.line ++ b ∷ []))) refl refl (eqb b 10) (ltb most_chunk_line (length (old.line ++ b ∷ [])))

step_same : (place : BodyPlace) (old : Body) (b : ℕ) → old.place ≡ place
    → ends_with_connection (bodies.step_at place old b).place ≡ ends_with_connection place
unfolding bodies.step_at
step_same (body.DataByLength left) old b e = length_else (left - 1)
step_same body.DataToEnd old b e = refl
step_same (body.ChunkLine at) old b e = line_else at old b
step_same (body.ChunkData left) old b e = data_else (left - 1)
step_same body.ChunkCr old b e = cr_else old.count b
step_same (body.ChunkLf at) old b e = lf_else at (old.count + 1) b
step_same (body.Trailers count line) old b e = trailers_else count line b
step_same body.Over old b e = ap ends_with_connection e
step_same (body.Refused fault) old b e = ap ends_with_connection e

step_ends : (old : Body) (b : ℕ) → ends_with_connection (bodies.body_step old b).place ≡ ends_with_connection old.place
unfolding bodies.body_step
step_ends old b = step_same old.place old b refl

pub after_ends : (old : Body) (bytes : List ℕ) → ends_with_connection (bodies.after old bytes).place ≡ ends_with_connection old.place
after_ends old [] = ap (λ (b : Body). ends_with_connection b.place) (runs.after-nil old)
after_ends old (b ∷ bytes) =
    ap (λ (c : Body). ends_with_connection c.place) (runs.after-cons old b bytes) ∙ after_ends (bodies.body_step old b) bytes ∙ step_ends old b

pub first_to_end : (at : ℕ) → ends_with_connection (bodies.begin ToEnd at).place ≡ true
unfolding bodies.begin bodies.first_place
first_to_end at = refl

pub first_else : (kind : BodyKind) (at : ℕ) → kind ≢ ToEnd → ends_with_connection (bodies.begin kind at).place ≡ false
unfolding bodies.begin bodies.first_place
first_else (Length count) at framed = length_else count
first_else Chunks at framed = refl
first_else ToEnd at framed = absurd (framed refl)

-- ---- the end of the connection

pub finish_is : (c : Content) (place : ContentPlace) (to_end : Bool) → place_of c ≡ place → ends_with_connection c.body.place ≡ to_end
    → finish c ≡ finish_at place to_end c.frames
unfolding finish
finish_is c place to_end e f =
    ap (λ (p : ContentPlace). finish_at p (ends_with_connection c.body.place) c.frames) e ∙ ap (λ (b : Bool). finish_at place b c.frames) f

body_of : (side : Side) (kind : BodyKind) (at : ℕ) (bytes : List ℕ)
    → ends_with_connection (after (begin side kind at) bytes).body.place ≡ ends_with_connection (bodies.begin kind at).place
body_of side kind at bytes =
    ap (λ (c : Content). ends_with_connection c.body.place) (after-parts (begin side kind at) bytes) ∙ after_ends (bodies.begin kind at) bytes

pub to_end_payload : (at : ℕ) (bytes : List ℕ) → bodies.payload_after (bodies.begin ToEnd at) bytes ≡ bytes
to_end_payload at bytes = ((bodies_are_read.begun ToEnd at bytes bytes).0 refl).1

frames_of : (side : Side) (at : ℕ) (bytes : List ℕ) → (after (begin side ToEnd at) bytes).frames ≡ frames.after (frames.begin side) bytes
frames_of side at bytes =
    ap (λ (c : Content). c.frames) (after-parts (begin side ToEnd at) bytes) ∙ ap (frames.after (frames.begin side)) (to_end_payload at bytes)

whole_at_end : (bytes : List ℕ) (at : ℕ) (messages : List (List ℕ)) (trailers : Option Trailers) → Frames Response bytes messages trailers
    → finish (after (begin Response ToEnd at) bytes) ≡ Ok true
whole_at_end bytes at messages trailers x =
    let c = after (begin Response ToEnd at) bytes in
    let told = begun_told Response ToEnd at bytes messages trailers (record { payload = bytes; body = refl; frames = inl x }) in
    finish_is c Open true told.0 (body_of Response ToEnd at bytes ∙ first_to_end at)
    ∙ ap (λ (s : FrameState). finish_at Open true s) (frames_of Response at bytes)
    ∙ ap (λ (b : Bool). let r : Result Bool WebFault = Ok b in r) (leaves_whole Response bytes messages trailers x tt).complete_is

-- only frames that are complete make it true
true_by : (place : ContentPlace) (to_end : Bool) (s : FrameState) → finish_at place to_end s ≡ Ok true
    → (place ≡ Open) × (is_complete s ≡ true) × (to_end ≡ true)
true_by Open true s e = (refl, cc, refl)
true_by Open false s e = absurd (cc)
true_by Over true s e = absurd (cc)
true_by Over false s e = absurd (cc)
true_by (Refused fault) true s e = absurd (cc)
true_by (Refused fault) false s e = absurd (cc)

pub finish_true : (c : Content) → finish c ≡ Ok true
    → (place_of c ≡ Open) × (is_complete c.frames ≡ true) × (ends_with_connection c.body.place ≡ true)
unfolding finish
finish_true c e = true_by (place_of c) (ends_with_connection c.body.place) c.frames e

frames_by : (payload : List ℕ) → IsGood (frames.after (frames.begin Response) payload).place
    → is_complete (frames.after (frames.begin Response) payload) ≡ true → Found Response payload
    → (messages : List (List ℕ)) × (trailers : Option Trailers) × Frames Response payload messages trailers
frames_by payload good complete (whole messages trailers frames enough) = (messages, trailers, frames)
frames_by payload good complete (broken messages trailers breaks) =
    absurd (false≢true (sym (leaves_broken Response payload messages trailers breaks).complete_is ∙ complete))
frames_by payload good complete (refused messages trailers fault is) =
    absurd (good fault (faults_are_read.settled Response payload messages trailers fault is).0)

only_at_end : (bytes : List ℕ) (at : ℕ) → IsBytes bytes → finish (after (begin Response ToEnd at) bytes) ≡ Ok true
    → (messages : List (List ℕ)) × (trailers : Option Trailers) × Frames Response bytes messages trailers
only_at_end bytes at all e =
    let c = after (begin Response ToEnd at) bytes in
    let stands = finish_true c e in
    let same = frames_of Response at bytes in
    frames_by bytes (subst (λ (s : FrameState). IsGood s.place) same (open-place c stands.0).0)
    (ap is_complete (sym same) ∙ stands.1) (found Response bytes all)

cut_off_at_end : (side : Side) (kind : BodyKind) (at : ℕ) (bytes : List ℕ) (messages : List (List ℕ)) (trailers : Option Trailers)
    → kind ≢ ToEnd → BeginsContent side kind bytes messages trailers → finish (after (begin side kind at) bytes) ≡ Err Truncated
cut_off_at_end side kind at bytes messages trailers framed x =
    finish_is (after (begin side kind at) bytes) Open false (begun_told side kind at bytes messages trailers x).0
    (body_of side kind at bytes ∙ first_else kind at framed)

refused_at_end : (side : Side) (kind : BodyKind) (at : ℕ) (bytes : List ℕ) (messages : List (List ℕ)) (trailers : Option Trailers)
    (fault : WebFault) → HasContentFault side kind at bytes messages trailers fault → finish (after (begin side kind at) bytes) ≡ Err fault
refused_at_end side kind at bytes messages trailers fault x =
    let c = after (begin side kind at) bytes in
    finish_is c (Refused fault) (ends_with_connection c.body.place) (refused_told side kind at bytes messages trailers fault x).0 refl

pub connections_end : ConnectionsEnd
connections_end = record { whole = whole_at_end; only = only_at_end; cut_off = cut_off_at_end; refused = refused_at_end }

-- ---- a body that was refused for want of memory

pub refused_else : (fault : BodyFault) (place : BodyPlace) → place ≡ body.Refused fault → ends_with_connection place ≡ false
refused_else fault place e = ap ends_with_connection e

-- ---- a body before its first byte

pub begin_ends : (kind : BodyKind) (at : ℕ) → is_to_end kind ≡ ends_with_connection (bodies.begin kind at).place
begin_ends (Length count) at = sym (first_else (Length count) at (λ e. cc))
begin_ends Chunks at = sym (first_else Chunks at (λ e. cc))
begin_ends ToEnd at = sym (first_to_end at)

pub begin_fine : (kind : BodyKind) (at : ℕ) (fault : BodyFault) → (bodies.begin kind at).place ≢ body.Refused fault
unfolding bodies.begin bodies.first_place
begin_fine (Length count) at fault e = length_place-not_refused count fault e
begin_fine Chunks at fault e = cc
begin_fine ToEnd at fault e = cc
