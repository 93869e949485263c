-- What the machine of contents does with bytes, the standard says of them.
use Rattle.std.proofs.Common.{◌≡◌, ℕ, ◌-◌, ◌<◌, eqb, ◌⊎◌, inl, inr, Bool, true, false, cond, List, [], ◌∷◌, ◌++◌, refl, sym, ap, ◌∙◌, subst, append_assoc, Option}
use Rattle.std.proofs.lemmas.Bool.{false≢true, cases_Bool, cond-true, cond-false}
use Rattle.std.proofs.lemmas.List.Elements.{All-nil, All-cons, All-head, All-tail, All-append}
use Rattle.web_heads.specs.declared.body.BodyKind.{BodyKind}
use Rattle.web_bodies.specs.declared.fault.BodyFault.{BodyFault}
use Rattle.web_bodies.specs.declared.place.BodyPlace.{BodyPlace}
use Rattle.web_bodies.specs.declared.place.BodyPlace.TheVariants as body
use Rattle.web_bodies.specs.Body.{Body}
use Rattle.web_bodies.specs.Steps as bodies
use Rattle.web_bodies.specs.Laws.{is_open}
use Rattle.web_bodies.specs.Standard.{HasBody, HasFault}
use Rattle.web_bodies.proofs.Runs as runs
use Rattle.web_bodies.proofs.Read.{bodies_are_read}
use Rattle.web_frames.specs.declared.limits.Side.{Side}
use Rattle.web_frames.specs.declared.fault.FrameFault.{FrameFault}
use Rattle.web_frames.specs.declared.status.Trailers.{Trailers}
use Rattle.web_frames.specs.declared.state.FramePlace.TheVariants as frame
use Rattle.web_frames.specs.Machine as frames
use Rattle.web_frames.specs.Standard.{IsBytes, IsFault}
use Rattle.web_frames.proofs.FrameLemmas.{append_some}
use Rattle.web_frames.proofs.FaultLemmas.{SettlesLast-IsFault}
use Rattle.web_frames.proofs.LawLemmas.{frames_are_read, faults_are_read}
use Rattle.web_contents.specs.declared.fault.WebFault.{WebFault}
use Rattle.web_contents.specs.declared.place.ContentPlace.{ContentPlace}
use Rattle.web_contents.specs.declared.place.ContentPlace.TheVariants.{Open, Over, Refused}
use Rattle.web_contents.specs.Faults.{fault_of_body, fault_of_frames, unfinished}
use Rattle.web_contents.specs.Contents.{is_complete, place_of, after, begin}
use Rattle.web_contents.specs.Standard.{AreFrames, BreaksOff, HasContent, BeginsContent, HasPayload, bad_frames, bad_body, unfinished_frames, HasContentFault}
use Rattle.web_contents.proofs.Parts.{after-parts}
use Rattle.web_contents.proofs.Places.{IsGood, Standing, going_on, over, too_early, standing, open-place, over-place}
use Rattle.web_contents.proofs.Places as places
use Rattle.web_contents.proofs.FramesRead.{Found, whole, broken, refused, found, leaves_whole, leaves_broken, frames_broken}
use Rattle.web_contents.proofs.Told.{here}

-- ---- payload bytes are bytes of the connection

bytes_of_cond : (emits : Bool) (b : ℕ) → b < 256 → IsBytes (cond emits (b ∷ []) [])
bytes_of_cond true b small = All-cons (λ (d : ℕ). d < 256) b [] small (All-nil (λ (d : ℕ). d < 256))
bytes_of_cond false b small = All-nil (λ (d : ℕ). d < 256)

pub payload_bytes : (body : Body) (bytes : List ℕ) → IsBytes bytes → IsBytes (bodies.payload_after body bytes)
unfolding bodies.payload_after bodies.emitted
payload_bytes body [] all = All-nil (λ (d : ℕ). d < 256)
payload_bytes body (b ∷ bytes) all =
    All-append (λ (d : ℕ). d < 256) (bodies.emitted body b) (bodies.payload_after (bodies.body_step body b) bytes)
    (bytes_of_cond (bodies.awaits_payload body.place) b (All-head (λ (d : ℕ). d < 256) b bytes all))
    (payload_bytes (bodies.body_step body b) bytes (All-tail (λ (d : ℕ). d < 256) b bytes all))

-- ---- the byte of the connection that is a byte of the payload

pub record Split (body : Body) (bytes front : List ℕ) (last : ℕ) : Type 0 where
  pub before : List ℕ
  pub behind : List ℕ
  pub bytes_are : bytes ≡ before ++ last ∷ behind
  pub payload_is : bodies.payload_after body before ≡ front
  pub awaits : bodies.awaits_payload (bodies.after body before).place ≡ true

-- one byte before it
split_after : (body : Body) (b : ℕ) (bytes front tail : List ℕ) (last : ℕ) → bodies.emitted body b ++ tail ≡ front
    → Split (bodies.body_step body b) bytes tail last → Split body (b ∷ bytes) front last
unfolding bodies.after bodies.payload_after
split_after body b bytes front tail last e x = record {
  before = b ∷ x.before;
  behind = x.behind;
  bytes_are = ap (λ (rest : List ℕ). b ∷ rest) x.bytes_are;
  payload_is = ap (λ (rest : List ℕ). bodies.emitted body b ++ rest) x.payload_is ∙ e;
  awaits = x.awaits;
}

-- it is the first byte
split_here : (body : Body) (b : ℕ) (bytes : List ℕ) → bodies.awaits_payload body.place ≡ true → Split body (b ∷ bytes) [] b
unfolding bodies.after bodies.payload_after
split_here body b bytes awaits = record { before = []; behind = bytes; bytes_are = refl; payload_is = refl; awaits = awaits }

emitted-true : (body : Body) (b : ℕ) → bodies.awaits_payload body.place ≡ true → bodies.emitted body b ≡ b ∷ []
unfolding bodies.emitted
emitted-true body b e = cond-true (bodies.awaits_payload body.place) (b ∷ []) [] e

emitted-false : (body : Body) (b : ℕ) → bodies.awaits_payload body.place ≡ false → bodies.emitted body b ≡ []
unfolding bodies.emitted
emitted-false body b e = cond-false (bodies.awaits_payload body.place) (b ∷ []) [] e

payload_after-cons : (body : Body) (b : ℕ) (bytes : List ℕ)
    → bodies.payload_after body (b ∷ bytes) ≡ bodies.emitted body b ++ bodies.payload_after (bodies.body_step body b) bytes
unfolding bodies.payload_after
payload_after-cons body b bytes = refl

-- what the rest of the bytes has
abbrev pub SplitsRest : Body → List ℕ → Type 0
SplitsRest body bytes =
    (front more : List ℕ) (last : ℕ) → bodies.payload_after body bytes ≡ front ++ last ∷ more → Split body bytes front last

split_payload : (body : Body) (b : ℕ) (bytes : List ℕ) → SplitsRest (bodies.body_step body b) bytes → bodies.awaits_payload body.place ≡ true
    → (front more : List ℕ) (last : ℕ) → b ∷ bodies.payload_after (bodies.body_step body b) bytes ≡ front ++ last ∷ more
    → Split body (b ∷ bytes) front last
split_payload body b bytes rest awaits [] more last e =
    let same : b ≡ last = cc in subst (Split body (b ∷ bytes) []) same (split_here body b bytes awaits)
split_payload body b bytes rest awaits (d ∷ front) more last e =
    let same : b ≡ d = cc in
    let behind : bodies.payload_after (bodies.body_step body b) bytes ≡ front ++ last ∷ more = cc in
    split_after body b bytes (d ∷ front) front last
    (ap (λ (first : List ℕ). first ++ front) (emitted-true body b awaits) ∙ ap (λ (c : ℕ). c ∷ front) same) (rest front more last behind)

split_framing : (body : Body) (b : ℕ) (bytes : List ℕ) → SplitsRest (bodies.body_step body b) bytes → bodies.awaits_payload body.place ≡ false
    → (front more : List ℕ) (last : ℕ) → bodies.payload_after body (b ∷ bytes) ≡ front ++ last ∷ more → Split body (b ∷ bytes) front last
split_framing body b bytes rest awaits front more last e =
    let none = emitted-false body b awaits in
    split_after body b bytes front front last (ap (λ (first : List ℕ). first ++ front) none)
    (rest front more last
    (sym (payload_after-cons body b bytes ∙ ap (λ (first : List ℕ). first ++ bodies.payload_after (bodies.body_step body b) bytes) none) ∙ e))

split_first : (body : Body) (b : ℕ) (bytes : List ℕ) → SplitsRest (bodies.body_step body b) bytes
    → (bodies.awaits_payload body.place ≡ true) ⊎ (bodies.awaits_payload body.place ≡ false)
    → (front more : List ℕ) (last : ℕ) → bodies.payload_after body (b ∷ bytes) ≡ front ++ last ∷ more → Split body (b ∷ bytes) front last
split_first body b bytes rest (inl awaits) front more last e =
    split_payload body b bytes rest awaits front more last
    (sym (payload_after-cons body b bytes
    ∙ ap (λ (first : List ℕ). first ++ bodies.payload_after (bodies.body_step body b) bytes) (emitted-true body b awaits)) ∙ e)
split_first body b bytes rest (inr awaits) front more last e = split_framing body b bytes rest awaits front more last e

pub split : (body : Body) (bytes : List ℕ) → SplitsRest body bytes
split body [] front more last e = absurd (append_some front (last ∷ more) (λ none. cc) (sym e ∙ runs.payload_after-nil body))
split body (b ∷ bytes) front more last e =
    split_first body b bytes (split (bodies.body_step body b) bytes) (cases_Bool (bodies.awaits_payload body.place)) front more last e

-- ---- a byte of the payload goes on or ends the body

pub awaits_open : (place : BodyPlace) → bodies.awaits_payload place ≡ true → is_open place ≡ true
unfolding bodies.awaits_payload
awaits_open (body.DataByLength left) e = refl
awaits_open body.DataToEnd e = refl
awaits_open (body.ChunkLine at) e = refl
awaits_open (body.ChunkData left) e = refl
awaits_open body.ChunkCr e = refl
awaits_open (body.ChunkLf at) e = refl
awaits_open (body.Trailers count line) e = refl
awaits_open body.Over e = absurd (false≢true e)
awaits_open (body.Refused fault) e = absurd (false≢true e)

-- more of the body has to come, or it is over
abbrev pub GoesOn : BodyPlace → Type 0
GoesOn place = (is_open place ≡ true) ⊎ (place ≡ body.Over)

length_goes_on : (left : ℕ) (last : Bool) → GoesOn (cond last body.Over (body.DataByLength left))
length_goes_on left true = inr refl
length_goes_on left false = inl refl

data_goes_on : (left : ℕ) (last : Bool) → GoesOn (cond last body.ChunkCr (body.ChunkData left))
data_goes_on left true = inl refl
data_goes_on left false = inl refl

step_goes_on : (place : BodyPlace) (old : Body) (b : ℕ) → bodies.awaits_payload place ≡ true → GoesOn (bodies.step_at place old b).place
unfolding bodies.awaits_payload bodies.step_at bodies.length_place bodies.data_place
step_goes_on (body.DataByLength left) old b e = length_goes_on (left - 1) (eqb (left - 1) 0)
step_goes_on body.DataToEnd old b e = inl refl
step_goes_on (body.ChunkLine at) old b e = absurd (false≢true e)
step_goes_on (body.ChunkData left) old b e = data_goes_on (left - 1) (eqb (left - 1) 0)
step_goes_on body.ChunkCr old b e = absurd (false≢true e)
step_goes_on (body.ChunkLf at) old b e = absurd (false≢true e)
step_goes_on (body.Trailers count line) old b e = absurd (false≢true e)
step_goes_on body.Over old b e = absurd (false≢true e)
step_goes_on (body.Refused fault) old b e = absurd (false≢true e)

-- one byte more
pub after_last : (old : Body) (front : List ℕ) (last : ℕ) → bodies.after old (front ++ last ∷ []) ≡ bodies.body_step (bodies.after old front) last
after_last old front last =
    runs.after-append old front (last ∷ []) ∙ runs.after-cons (bodies.after old front) last [] ∙ runs.after-nil (bodies.body_step (bodies.after old front) last)

pub payload_last : (old : Body) (front : List ℕ) (last : ℕ) → bodies.awaits_payload (bodies.after old front).place ≡ true
    → bodies.payload_after old (front ++ last ∷ []) ≡ bodies.payload_after old front ++ last ∷ []
payload_last old front last awaits =
    runs.payload_after-append old front (last ∷ [])
    ∙ ap (λ (rest : List ℕ). bodies.payload_after old front ++ rest)
    (payload_after-cons (bodies.after old front) last []
    ∙ ap (λ (first : List ℕ). first ++ bodies.payload_after (bodies.body_step (bodies.after old front) last) []) (emitted-true (bodies.after old front) last awaits)
    ∙ ap (λ (rest : List ℕ). last ∷ rest) (runs.payload_after-nil (bodies.body_step (bodies.after old front) last)))

pub step_place : (old : Body) (b : ℕ) → bodies.awaits_payload old.place ≡ true → GoesOn (bodies.body_step old b).place
unfolding bodies.body_step
step_place old b e = step_goes_on old.place old b e

pub has_payload : (kind : BodyKind) (at : ℕ) (bytes payload : List ℕ) → GoesOn (bodies.after (bodies.begin kind at) bytes).place
    → bodies.payload_after (bodies.begin kind at) bytes ≡ payload → HasPayload kind bytes payload
has_payload kind at bytes payload (inl going) e = inl ((bodies_are_read.begun kind at bytes payload).1 (going, e))
has_payload kind at bytes payload (inr ended) e = inr ((bodies_are_read.over kind at bytes payload).1 (ended, e))

-- ---- faults of the frames

-- what is found of a fault
pub record FaultFound (side : Side) (kind : BodyKind) (at : ℕ) (bytes : List ℕ) (fault : WebFault) : Type 0 where
  pub messages : List (List ℕ)
  pub trailers : Option Trailers
  pub is : HasContentFault side kind at bytes messages trailers fault

frames_fault : (side : Side) (kind : BodyKind) (at : ℕ) (bytes : List ℕ) (messages : List (List ℕ)) (trailers : Option Trailers) (found : FrameFault)
    (front : List ℕ) (last : ℕ) → IsFault side (front ++ last ∷ []) messages trailers found
    → Split (bodies.begin kind at) bytes front last → HasContentFault side kind at bytes messages trailers (fault_of_frames found)
frames_fault side kind at bytes messages trailers found front last is x =
    let settled = x.before ++ last ∷ [] in
    let going = step_place (bodies.after (bodies.begin kind at) x.before) last x.awaits in
    record {
      settled = settled;
      rest = x.behind;
      bytes_are = x.bytes_are ∙ sym (append_assoc x.before (last ∷ []) x.behind);
      is_fault = bad_frames (record {
        front = x.before;
        last = last;
        part = front;
        found = found;
        bytes_are = refl;
        before = (bodies_are_read.begun kind at x.before front).1
            (awaits_open (bodies.after (bodies.begin kind at) x.before).place x.awaits, x.payload_is);
        payload = has_payload kind at settled (front ++ last ∷ [])
            (subst (λ (b : Body). GoesOn b.place) (sym (after_last (bodies.begin kind at) x.before last)) going)
            (payload_last (bodies.begin kind at) x.before last x.awaits ∙ ap (λ (p : List ℕ). p ++ last ∷ []) x.payload_is);
        settled = is;
        fault_is = refl;
      });
    }

frames_found : (side : Side) (kind : BodyKind) (at : ℕ) (bytes payload : List ℕ) (fault : FrameFault) → bodies.payload_after (bodies.begin kind at) bytes ≡ payload
    → IsBytes payload → (frames.after (frames.begin side) payload).place ≡ frame.Refused fault
    → FaultFound side kind at bytes (fault_of_frames fault)
frames_found side kind at bytes payload fault e all stands =
    let (messages, trailers, is, tells) = faults_are_read.refused side payload fault all stands in
    let last = SettlesLast-IsFault side is.settled messages trailers fault is.fault_is in
    let whole : bodies.payload_after (bodies.begin kind at) bytes ≡ last.front ++ last.last ∷ is.more =
    e ∙ is.whole ∙ ap (λ (b : List ℕ). b ++ is.more) last.whole ∙ append_assoc last.front (last.last ∷ []) is.more in
    record {
      messages = messages;
      trailers = trailers;
      is = frames_fault side kind at bytes messages trailers fault last.front last.last
          (subst (λ (b : List ℕ). IsFault side b messages trailers fault) last.whole is.fault_is)
          (split (bodies.begin kind at) bytes last.front is.more last.last whole);
    }

-- ---- the other faults

-- a payload without a fault
pub record GoodFound (side : Side) (payload : List ℕ) : Type 0 where
  pub messages : List (List ℕ)
  pub trailers : Option Trailers
  pub frames : AreFrames side payload messages trailers

good_by : (side : Side) (payload : List ℕ) → IsGood (frames.after (frames.begin side) payload).place → Found side payload → GoodFound side payload
good_by side payload good (whole messages trailers frames enough) = record { messages = messages; trailers = trailers; frames = inl frames }
good_by side payload good (broken messages trailers breaks) =
    record { messages = messages; trailers = trailers; frames = frames_broken side payload messages trailers breaks }
good_by side payload good (refused messages trailers fault is) =
    absurd (good fault (faults_are_read.settled side payload messages trailers fault is).0)

body_found : (side : Side) (kind : BodyKind) (at : ℕ) (bytes payload : List ℕ) (fault : BodyFault)
    → HasFault kind at bytes payload fault → GoodFound side payload → FaultFound side kind at bytes (fault_of_body fault)
body_found side kind at bytes payload fault x good = record {
  messages = good.messages;
  trailers = good.trailers;
  is = record {
    settled = x.settled;
    rest = x.rest;
    bytes_are = x.bytes_are;
    is_fault = bad_body (record { payload = payload; found = fault; settled = x.is_fault; frames = good.frames; fault_is = refl });
  };
}

-- a payload that breaks off
record BrokenFound (side : Side) (payload : List ℕ) : Type 0 where
  messages : List (List ℕ)
  trailers : Option Trailers
  breaks : BreaksOff side payload messages trailers

broken_by : (side : Side) (payload : List ℕ) → IsGood (frames.after (frames.begin side) payload).place
    → is_complete (frames.after (frames.begin side) payload) ≡ false → Found side payload → BrokenFound side payload
broken_by side payload good incomplete (whole messages trailers frames enough) =
    absurd (false≢true (sym incomplete ∙ (leaves_whole side payload messages trailers frames enough).complete_is))
broken_by side payload good incomplete (broken messages trailers breaks) = record { messages = messages; trailers = trailers; breaks = breaks }
broken_by side payload good incomplete (refused messages trailers fault is) =
    absurd (good fault (faults_are_read.settled side payload messages trailers fault is).0)

ending_found : (side : Side) (kind : BodyKind) (at : ℕ) (bytes payload : List ℕ) → HasBody kind bytes payload → BrokenFound side payload
    → FaultFound side kind at bytes (unfinished side)
ending_found side kind at bytes payload x breaks = record {
  messages = breaks.messages;
  trailers = breaks.trailers;
  is = record {
    settled = x.body;
    rest = x.rest;
    bytes_are = x.bytes_are;
    is_fault = unfinished_frames (record { payload = payload; framed = x.framed; body = x.is_body; frames = breaks.breaks; fault_is = refl });
  };
}

-- ---- the three places

module _ (side : Side) (kind : BodyKind) (at : ℕ) (bytes payload : List ℕ) (e : bodies.payload_after (bodies.begin kind at) bytes ≡ payload) (all : IsBytes payload) where
  refused_by : (place : ContentPlace) (fault : WebFault) → let c = here side kind at bytes payload in
      Standing c.frames.place c.body.place c.frames place → place ≡ Refused fault → FaultFound side kind at bytes fault
  refused_by place fault (going_on good stands is) refuses = absurd (cc)
  refused_by place fault (over good stands complete is) refuses = absurd (cc)
  refused_by place fault (too_early good stands incomplete is) refuses =
      let own = (frames_are_read.given side payload all).side_is in
      let same : unfinished (here side kind at bytes payload).frames.side ≡ fault = cc in
      subst (FaultFound side kind at bytes) (ap unfinished (sym own) ∙ same)
      (ending_found side kind at bytes payload ((bodies_are_read.over kind at bytes payload).1 (stands, e))
      (broken_by side payload good incomplete (found side payload all)))
  refused_by place fault (places.bad_body wrong good stands is) refuses =
      let same : fault_of_body wrong ≡ fault = cc in
      subst (FaultFound side kind at bytes) same
      (body_found side kind at bytes payload wrong ((bodies_are_read.refused kind at bytes payload wrong).1 (stands, e))
      (good_by side payload good (found side payload all)))
  refused_by place fault (places.bad_frames wrong stands is) refuses =
      let same : fault_of_frames wrong ≡ fault = cc in
      subst (FaultFound side kind at bytes) same (frames_found side kind at bytes payload wrong e all stands)

-- what is found of a beginning, and of a whole
pub record BeginningFound (side : Side) (kind : BodyKind) (bytes : List ℕ) : Type 0 where
  pub messages : List (List ℕ)
  pub trailers : Option Trailers
  pub is : BeginsContent side kind bytes messages trailers

pub record WholeFound (side : Side) (kind : BodyKind) (bytes : List ℕ) : Type 0 where
  pub messages : List (List ℕ)
  pub trailers : Option Trailers
  pub is : HasContent side kind bytes messages trailers

whole_by : (side : Side) (kind : BodyKind) (bytes payload : List ℕ) → HasBody kind bytes payload
    → IsGood (frames.after (frames.begin side) payload).place → is_complete (frames.after (frames.begin side) payload) ≡ true
    → Found side payload → WholeFound side kind bytes
whole_by side kind bytes payload x good complete (whole messages trailers frames enough) =
    record { messages = messages; trailers = trailers; is = record { payload = payload; body = x; frames = frames; enough = enough } }
whole_by side kind bytes payload x good complete (broken messages trailers breaks) =
    absurd (false≢true (sym (leaves_broken side payload messages trailers breaks).complete_is ∙ complete))
whole_by side kind bytes payload x good complete (refused messages trailers fault is) =
    absurd (good fault (faults_are_read.settled side payload messages trailers fault is).0)

module _ (side : Side) (kind : BodyKind) (at : ℕ) (bytes : List ℕ) (all : IsBytes bytes) where
  pub given_begun : place_of (after (begin side kind at) bytes) ≡ Open → BeginningFound side kind bytes
  given_begun e =
      let payload = bodies.payload_after (bodies.begin kind at) bytes in
      let stands = open-place (here side kind at bytes payload) (ap place_of (sym (after-parts (begin side kind at) bytes)) ∙ e) in
      let good = good_by side payload stands.0 (found side payload (payload_bytes (bodies.begin kind at) bytes all)) in
      record {
        messages = good.messages;
        trailers = good.trailers;
        is = record { payload = payload; body = (bodies_are_read.begun kind at bytes payload).1 (stands.1, refl); frames = good.frames };
      }

  pub given_whole : place_of (after (begin side kind at) bytes) ≡ Over → WholeFound side kind bytes
  given_whole e =
      let payload = bodies.payload_after (bodies.begin kind at) bytes in
      let stands = over-place (here side kind at bytes payload) (ap place_of (sym (after-parts (begin side kind at) bytes)) ∙ e) in
      whole_by side kind bytes payload ((bodies_are_read.over kind at bytes payload).1 (stands.1, refl)) stands.0 stands.2
      (found side payload (payload_bytes (bodies.begin kind at) bytes all))

  pub given_refused : (fault : WebFault) → place_of (after (begin side kind at) bytes) ≡ Refused fault → FaultFound side kind at bytes fault
  given_refused fault e =
      let payload = bodies.payload_after (bodies.begin kind at) bytes in
      let c = here side kind at bytes payload in
      refused_by side kind at bytes payload refl (payload_bytes (bodies.begin kind at) bytes all) (place_of c) fault (standing c)
      (ap place_of (sym (after-parts (begin side kind at) bytes)) ∙ e)
