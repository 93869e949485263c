-- What comes before an end is a beginning.
use Rattle.std.proofs.Common.{◌≡◌, ◌≢◌, ℕ, ◌⊎◌, inl, inr, true, false, List, [], ◌∷◌, ◌++◌, refl, sym, ap, ◌∙◌, subst, append-nil, Option}
use Rattle.std.proofs.lemmas.Bool.{false≢true, cases_Bool}
use Rattle.web_heads.specs.declared.body.BodyKind.{BodyKind}
use Rattle.web_heads.specs.declared.body.BodyKind.TheVariants.{ToEnd}
use Rattle.web_bodies.specs.declared.place.BodyPlace.{BodyPlace}
use Rattle.web_bodies.specs.declared.place.BodyPlace.TheVariants as body
use Rattle.web_bodies.specs.Body.{Body}
use Rattle.web_bodies.specs.Steps as bodies
use Rattle.web_bodies.specs.Laws.{is_open}
use Rattle.web_bodies.specs.Standard.{IsBody}
use Rattle.web_bodies.specs.Standard as body_words
use Rattle.web_bodies.proofs.Runs as runs
use Rattle.web_bodies.proofs.Read as bodies_read
use Rattle.web_frames.specs.declared.limits.Side.{Side}
use Rattle.web_frames.specs.declared.status.Trailers.{Trailers}
use Rattle.web_frames.specs.Machine.{FrameState}
use Rattle.web_frames.specs.Machine as frames
use Rattle.web_frames.proofs.MachineLemmas as machine
use Rattle.web_frames.proofs.FrameLemmas.{append_some}
use Rattle.web_frames.proofs.FaultLemmas.{SettlesLast-IsFault}
use Rattle.web_frames.proofs.LawLemmas.{longer_front}
use Rattle.web_contents.specs.declared.fault.WebFault.{WebFault}
use Rattle.web_contents.specs.declared.place.ContentPlace.TheVariants.{Open}
use Rattle.web_contents.specs.Contents.{place_of, after, begin}
use Rattle.web_contents.specs.Standard.{HasContent, HasBadFrames, HasBadBody, IsUnfinished, IsContentFault, bad_frames, bad_body, unfinished_frames}
use Rattle.web_contents.proofs.Parts.{after-parts}
use Rattle.web_contents.proofs.Places.{IsGood, place-open, good-before}
use Rattle.web_contents.proofs.FramesRead.{leaves_whole, leaves_broken, good_frames}
use Rattle.web_contents.proofs.Told.{here}

-- ---- a body that goes on went on before

not_open : (place : BodyPlace) (old : Body) (bytes : List ℕ) → old.place ≡ place → is_open place ≡ false → is_open (bodies.after old bytes).place ≡ false
not_open (body.DataByLength left) old bytes e closed = absurd (false≢true (sym closed))
not_open body.DataToEnd old bytes e closed = absurd (false≢true (sym closed))
not_open (body.ChunkLine at) old bytes e closed = absurd (false≢true (sym closed))
not_open (body.ChunkData left) old bytes e closed = absurd (false≢true (sym closed))
not_open body.ChunkCr old bytes e closed = absurd (false≢true (sym closed))
not_open (body.ChunkLf at) old bytes e closed = absurd (false≢true (sym closed))
not_open (body.Trailers count line) old bytes e closed = absurd (false≢true (sym closed))
not_open body.Over old bytes e closed = ap (λ (b : Body). is_open b.place) (runs.after-Over old bytes e).0 ∙ ap is_open e
not_open (body.Refused fault) old bytes e closed = ap (λ (b : Body). is_open b.place) (runs.after-Refused old bytes fault e).0 ∙ ap is_open e

open_by : (old : Body) (bytes : List ℕ) → is_open (bodies.after old bytes).place ≡ true → (is_open old.place ≡ true) ⊎ (is_open old.place ≡ false)
    → is_open old.place ≡ true
open_by old bytes going (inl e) = e
open_by old bytes going (inr e) = absurd (false≢true (sym (not_open old.place old bytes refl e) ∙ going))

pub open_before : (old : Body) (bytes : List ℕ) → is_open (bodies.after old bytes).place ≡ true → is_open old.place ≡ true
open_before old bytes going = open_by old bytes going (cases_Bool (is_open old.place))

-- ---- where the machine goes on

-- the bytes before the rest of a body whose payload has no fault
open_from : (side : Side) (kind : BodyKind) (at : ℕ) (front rest payload : List ℕ) → bodies.payload_after (bodies.begin kind at) (front ++ rest) ≡ payload
    → IsGood (frames.after (frames.begin side) payload).place → is_open (bodies.after (bodies.begin kind at) front).place ≡ true
    → place_of (after (begin side kind at) front) ≡ Open
open_from side kind at front rest payload e good going =
    let part = bodies.payload_after (bodies.begin kind at) front in
    let more = bodies.payload_after (bodies.after (bodies.begin kind at) front) rest in
    let whole : payload ≡ part ++ more = sym e ∙ runs.payload_after-append (bodies.begin kind at) front rest in
    let state : frames.after (frames.begin side) payload ≡ frames.after (frames.after (frames.begin side) part) more =
    ap (frames.after (frames.begin side)) whole ∙ machine.after-append (frames.begin side) part more in
    ap place_of (after-parts (begin side kind at) front)
    ∙ place-open (here side kind at front part)
    (good-before (frames.after (frames.begin side) part) more (subst (λ (s : FrameState). IsGood s.place) state good)) going

pub body_open : (kind : BodyKind) (at : ℕ) (front : List ℕ) → ((part : List ℕ) × body_words.IsBegun kind front part)
    → is_open (bodies.after (bodies.begin kind at) front).place ≡ true
body_open kind at front (part, begun) = ((bodies_read.bodies_are_read.begun kind at front part).0 begun).0

body_payload : (kind : BodyKind) (at : ℕ) (bytes payload : List ℕ) → kind ≢ ToEnd → IsBody kind bytes payload
    → bodies.payload_after (bodies.begin kind at) bytes ≡ payload
body_payload kind at bytes payload framed x =
    ((bodies_read.bodies_are_read.over kind at bytes payload).0
    (record { framed = framed; body = bytes; rest = []; bytes_are = sym (append-nil bytes); is_body = x })).1

-- the bytes before the end of a body
before_end : (side : Side) (kind : BodyKind) (at : ℕ) (front : List ℕ) (b : ℕ) (back payload : List ℕ) → kind ≢ ToEnd
    → IsBody kind (front ++ b ∷ back) payload → IsGood (frames.after (frames.begin side) payload).place
    → place_of (after (begin side kind at) front) ≡ Open
before_end side kind at front b back payload framed x good =
    open_from side kind at front (b ∷ back) payload (body_payload kind at (front ++ b ∷ back) payload framed x) good
    (body_open kind at front (bodies_read.ends_are_first.over kind front b back payload framed x))

pub before_whole : (side : Side) (kind : BodyKind) (at : ℕ) (bytes : List ℕ) (messages : List (List ℕ)) (trailers : Option Trailers)
    (found : HasContent side kind bytes messages trailers) (front : List ℕ) (b : ℕ) (back : List ℕ) → found.body.body ≡ front ++ b ∷ back
    → place_of (after (begin side kind at) front) ≡ Open
before_whole side kind at bytes messages trailers found front b back e =
    before_end side kind at front b back found.payload found.body.framed
    (subst (λ (all : List ℕ). IsBody kind all found.payload) e found.body.is_body)
    (leaves_whole side found.payload messages trailers found.frames found.enough).good

-- ---- the bytes before a fault

before_unfinished : (side : Side) (kind : BodyKind) (at : ℕ) (front : List ℕ) (b : ℕ) (back : List ℕ) (messages : List (List ℕ)) (trailers : Option Trailers)
    (fault : WebFault) → IsUnfinished side kind (front ++ b ∷ back) messages trailers fault → place_of (after (begin side kind at) front) ≡ Open
before_unfinished side kind at front b back messages trailers fault x =
    before_end side kind at front b back x.payload x.framed x.body (leaves_broken side x.payload messages trailers x.frames).good

before_bad_body : (side : Side) (kind : BodyKind) (at : ℕ) (front : List ℕ) (b : ℕ) (back : List ℕ) (messages : List (List ℕ)) (trailers : Option Trailers)
    (fault : WebFault) → HasBadBody side kind at (front ++ b ∷ back) messages trailers fault → place_of (after (begin side kind at) front) ≡ Open
before_bad_body side kind at front b back messages trailers fault x =
    let bytes = front ++ b ∷ back in
    let y = (bodies_read.bodies_are_read.refused kind at bytes x.payload x.found).0
    (record { settled = bytes; rest = []; bytes_are = sym (append-nil bytes); is_fault = x.settled }) in
    open_from side kind at front (b ∷ back) x.payload y.1 (good_frames side x.payload messages trailers x.frames).good
    (body_open kind at front (bodies_read.ends_are_first.refused kind at front b back x.payload x.found x.settled))

same_init : (first second : List ℕ) (c d : ℕ) → first ++ c ∷ [] ≡ second ++ d ∷ [] → first ≡ second
same_init [] [] c d e = refl
same_init [] (b ∷ second) c d e = let rest : second ++ d ∷ [] ≡ [] = cc in absurd (append_some second (d ∷ []) (λ none. cc) rest)
same_init (b ∷ first) [] c d e = let rest : first ++ c ∷ [] ≡ [] = cc in absurd (append_some first (c ∷ []) (λ none. cc) rest)
same_init (b ∷ first) (g ∷ second) c d e =
    let one : b ≡ g = cc in
    let rest : first ++ c ∷ [] ≡ second ++ d ∷ [] = cc in
    let same = same_init first second c d rest in cc

before_bad_frames : (side : Side) (kind : BodyKind) (at : ℕ) (front : List ℕ) (b : ℕ) (back : List ℕ) (messages : List (List ℕ)) (trailers : Option Trailers)
    (fault : WebFault) → HasBadFrames side kind (front ++ b ∷ back) messages trailers fault → place_of (after (begin side kind at) front) ≡ Open
before_bad_frames side kind at front b back messages trailers fault x =
    let longer = longer_front front back x.front b x.last x.bytes_are in
    let settles = SettlesLast-IsFault side (x.part ++ x.last ∷ []) messages trailers x.found x.settled in
    let same : settles.front ≡ x.part = sym (same_init x.part settles.front x.last settles.last settles.whole) in
    let begun = (bodies_read.bodies_are_read.begun kind at x.front x.part).0 x.before in
    let going : is_open (bodies.after (bodies.begin kind at) (front ++ longer.0)).place ≡ true =
    ap (λ (bytes : List ℕ). is_open (bodies.after (bodies.begin kind at) bytes).place) (sym longer.1) ∙ begun.0 in
    open_from side kind at front longer.0 x.part
    (ap (bodies.payload_after (bodies.begin kind at)) (sym longer.1) ∙ begun.1)
    (subst (λ (p : List ℕ). IsGood (frames.after (frames.begin side) p).place) same settles.before)
    (open_before (bodies.after (bodies.begin kind at) front) longer.0
    (ap (λ (body : Body). is_open body.place) (sym (runs.after-append (bodies.begin kind at) front longer.0)) ∙ going))

pub before_fault : (side : Side) (kind : BodyKind) (at : ℕ) (front : List ℕ) (b : ℕ) (back : List ℕ) (messages : List (List ℕ)) (trailers : Option Trailers)
    (fault : WebFault) → IsContentFault side kind at (front ++ b ∷ back) messages trailers fault → place_of (after (begin side kind at) front) ≡ Open
before_fault side kind at front b back messages trailers fault (bad_frames x) = before_bad_frames side kind at front b back messages trailers fault x
before_fault side kind at front b back messages trailers fault (bad_body x) = before_bad_body side kind at front b back messages trailers fault x
before_fault side kind at front b back messages trailers fault (unfinished_frames x) = before_unfinished side kind at front b back messages trailers fault x
