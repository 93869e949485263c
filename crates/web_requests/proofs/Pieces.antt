-- A piece, taken in parts.
use Rattle.std.proofs.Common.{◌≡◌, ℕ, ◌+◌, ◌≤◌, ◌⊎◌, inl, inr, ⊎_elim, Bool, true, false, List, [], ◌∷◌, length, take, drop, refl, sym, ap, ◌∙◌, subst, arith, Result, Ok, Err, length-drop, take-append-drop}
use Rattle.std.proofs.Math.Seq.{take-add}
use Rattle.std.proofs.lemmas.Bool.{false≢true}
use Rattle.std.proofs.lemmas.List.{take_all}
use Rattle.web_contents.specs.declared.fault.WebFault.{WebFault}
use Rattle.web_contents.specs.declared.fault.WebFault.TheVariants.{OutOfMemory}
use Rattle.web_contents.specs.declared.place.ContentPlace.{ContentPlace}
use Rattle.web_contents.specs.declared.place.ContentPlace.TheVariants as content
use Rattle.web_contents.specs.Contents.{Content, place_of, content_step, content_events}
use Rattle.web_requests.specs.Machine.{RequestState, heading, within, whole, refused, message_after, state_at, request_step, after}
use Rattle.web_requests.specs.Calls.{is_open, IsFaulty, RunsOut, Refuses, Feeds, answer_of, is_heading, is_within, TakesPart}
use Rattle.web_requests.proofs.Course.{after-append, after-nil, after-cons, after-refused, after-whole}
use Rattle.web_contents.proofs.Causes.{cause_of, by_cause, for_cause}

-- ---- states that don't go back

pub state_at-past : (place : ContentPlace) (path message : List ℕ) (c : Content) → is_heading (state_at place path message c) ≡ false
state_at-past content.Open path message c = refl
state_at-past content.Over path message c = refl
state_at-past (content.Refused fault) path message c = refl

step-past : (s : RequestState) (b : ℕ) → is_heading s ≡ false → is_heading (request_step s b) ≡ false
unfolding request_step
step-past (heading held) b e = absurd (false≢true (sym e))
step-past (within path message c) b e =
    state_at-past (place_of (content_step c b)) path (message_after message (content_events c b)) (content_step c b)
step-past (whole path message) b e = refl
step-past (refused fault) b e = refl

after-past : (bytes : List ℕ) (s : RequestState) → is_heading s ≡ false → is_heading (after s bytes) ≡ false
after-past [] s e = ap is_heading (after-nil s) ∙ e
after-past (b ∷ bytes) s e = ap is_heading (after-cons s b bytes) ∙ after-past bytes (request_step s b) (step-past s b e)

-- a state that bytes after the head don't change any more
still : (s : RequestState) (bytes : List ℕ) → is_heading s ≡ false → is_within s ≡ false → after s bytes ≡ s
still (heading held) bytes past ended = absurd (false≢true (sym past))
still (within path message c) bytes past ended = absurd (false≢true (sym ended))
still (whole path message) bytes past ended = after-whole path message bytes
still (refused fault) bytes past ended = after-refused fault bytes

-- ---- so far

pub record TakenSoFar (old : RequestState) (piece : List ℕ) (now : RequestState) (taken : ℕ) : Type 0 where
  pub fits : taken ≤ length piece
  pub state : now ≡ after old (take taken piece)

pub taken_none : (old : RequestState) (piece : List ℕ) → TakenSoFar old piece old 0
taken_none old piece = record { fits = omega arith; state = sym (after-nil old) }

pub taken_more : (old : RequestState) (piece : List ℕ) (now next : RequestState) (taken count : ℕ) → TakenSoFar old piece now taken
    → TakesPart now (drop taken piece) count next → TakenSoFar old piece next (taken + count)
taken_more old piece now next taken count so_far x =
    let fits = so_far.fits in
    let part = x.fits in
    record {
      fits = omega (arith, length-drop taken piece);
      state =
          x.state ∙ ap (λ (s : RequestState). after s (take count (drop taken piece))) so_far.state
          ∙ sym (after-append old (take taken piece) (take count (drop taken piece)))
          ∙ ap (after old) (sym (take-add taken count piece));
    }

rest_joined : (old : RequestState) (piece : List ℕ) (now : RequestState) (taken : ℕ) → TakenSoFar old piece now taken
    → after now (drop taken piece) ≡ after old piece
rest_joined old piece now taken so_far =
    ap (λ (s : RequestState). after s (drop taken piece)) so_far.state ∙ sym (after-append old (take taken piece) (drop taken piece))
    ∙ ap (after old) (take-append-drop taken piece)

-- ---- refusals

faulty_refuses : (old : RequestState) (piece : List ℕ) (fault : WebFault) (new : RequestState) → IsFaulty old piece fault new
    → (fault ≡ OutOfMemory → RunsOut old new) → Refuses old piece fault new
faulty_refuses old piece fault new x out = by_cause (IsFaulty old piece fault new) (RunsOut old new) fault x out

-- a call that goes on where others left off
refuses_from : (old next : RequestState) (piece rest : List ℕ) (fault : WebFault) (new : RequestState) → after next rest ≡ after old piece
    → is_open old ≡ true → Refuses next rest fault new → Refuses old piece fault new
refuses_from old next piece rest fault new same before x =
    for_cause (IsFaulty next rest fault new) (RunsOut next new) (IsFaulty old piece fault new) (RunsOut old new) fault
    (λ y. record { state = y.state ∙ same; fault_is = y.fault_is })
    (λ out y. record { refused_is = y.refused_is; was_open = inl before }) x

pub feeds_from : (old next : RequestState) (piece rest : List ℕ) (r : Result Bool WebFault) (new : RequestState) → after next rest ≡ after old piece
    → is_open old ≡ true → Feeds next rest r new → Feeds old piece r new
feeds_from old next piece rest (Ok answer) new same before x =
    record { state = x.state ∙ same; answers = x.answers; not_refused = x.not_refused }
feeds_from old next piece rest (Err fault) new same before x = refuses_from old next piece rest fault new same before x

-- ---- the end of a call within the body

open_before : (old : RequestState) (bytes : List ℕ) (now : RequestState) → now ≡ after old bytes → is_within now ≡ true → is_open old ≡ true
open_before (heading held) bytes now e is = refl
open_before (within path message c) bytes now e is = refl
open_before (whole path message) bytes now e is = ap is_within (sym (e ∙ after-whole path message bytes)) ∙ is
open_before (refused fault) bytes now e is = ap is_within (sym (e ∙ after-refused fault bytes)) ∙ is

pub refuses_later : (old : RequestState) (piece : List ℕ) (now : RequestState) (taken : ℕ) (fault : WebFault) (new : RequestState)
    → TakenSoFar old piece now taken → is_within now ≡ true → Refuses now (drop taken piece) fault new → Refuses old piece fault new
refuses_later old piece now taken fault new so_far is x =
    refuses_from old now piece (drop taken piece) fault new (rest_joined old piece now taken so_far)
    (open_before old (take taken piece) now so_far.state is) x

-- want of memory stands at the end only where it stood before
out_before : (old : RequestState) (piece : List ℕ) (now : RequestState) → now ≡ after old piece → now ≡ refused OutOfMemory
    → (is_open old ≡ true) ⊎ (old ≡ refused OutOfMemory)
out_before (heading held) piece now e is = inl refl
out_before (within path message c) piece now e is = inl refl
out_before (whole path message) piece now e is =
    absurd (let other : whole path message ≡ refused OutOfMemory = sym (e ∙ after-whole path message piece) ∙ is in cc)
out_before (refused fault) piece now e is = inr (sym (e ∙ after-refused fault piece) ∙ is)

pub answered : (old : RequestState) (piece : List ℕ) (now : RequestState) → now ≡ after old piece → is_heading now ≡ false
    → Feeds old piece (answer_of now) now
answered old piece (heading held) e past = absurd (false≢true (sym past))
answered old piece (within path message c) e past = record { state = e; answers = refl; not_refused = λ fault is. cc }
answered old piece (whole path message) e past = record { state = e; answers = refl; not_refused = λ fault is. cc }
answered old piece (refused fault) e past =
    faulty_refuses old piece fault (refused fault) (record { state = e; fault_is = refl })
    (λ is. record { refused_is = ap refused is; was_open = out_before old piece (refused fault) e (ap refused is) })

pub ended : (old : RequestState) (piece : List ℕ) (now : RequestState) (taken : ℕ) (r : Result Bool WebFault) → is_heading old ≡ false
    → TakenSoFar old piece now taken → (is_within now ≡ false) ⊎ (length piece ≤ taken) → r ≡ answer_of now → Feeds old piece r now
ended old piece now taken r past so_far stops r_is =
    let now_past : is_heading now ≡ false = ap is_heading so_far.state ∙ after-past (take taken piece) old past in
    let all : now ≡ after old piece = go now_past stops in
    subst (λ (answer : Result Bool WebFault). Feeds old piece answer now) (sym r_is) (answered old piece now all now_past)
  where
    go : is_heading now ≡ false → (is_within now ≡ false) ⊎ (length piece ≤ taken) → now ≡ after old piece
    go now_past (inl is) = sym (still now (drop taken piece) now_past is) ∙ rest_joined old piece now taken so_far
    go now_past (inr all) = so_far.state ∙ ap (after old) (take_all taken piece all)

-- ---- a reader that was refused before

pub refused_before : (s : RequestState) (piece : List ℕ) (fault : WebFault) → s ≡ refused fault → Refuses s piece fault s
refused_before s piece fault e =
    faulty_refuses s piece fault s
    (record { state = e ∙ sym (ap (λ (r : RequestState). after r piece) e ∙ after-refused fault piece); fault_is = e })
    (λ is. record { refused_is = e ∙ ap refused is; was_open = inr (e ∙ ap refused is) })

same_fault : (piece : List ℕ) (fault found : WebFault) (new : RequestState) → IsFaulty (refused fault) piece found new
    → (found ≡ fault) × (new ≡ refused fault)
same_fault piece fault found new x =
    let there : new ≡ refused fault = x.state ∙ after-refused fault piece in
    let same : refused found ≡ refused fault = sym x.fault_is ∙ there in
    (let fault_is : found ≡ fault = cc in fault_is, there)

refused_same : (piece : List ℕ) (fault found : WebFault) (new : RequestState) → Refuses (refused fault) piece found new
    → (found ≡ fault) × (new ≡ refused fault)
refused_same piece fault found new x =
    ⊎_elim (λ (y : IsFaulty (refused fault) piece found new). same_fault piece fault found new y)
    (λ (y : (found ≡ OutOfMemory) × RunsOut (refused fault) new). same_out y.0 y.1.refused_is y.1.was_open)
    (cause_of (IsFaulty (refused fault) piece found new) (RunsOut (refused fault) new) found x)
  where
    same_out : found ≡ OutOfMemory → new ≡ refused OutOfMemory → (is_open (refused fault) ≡ true) ⊎ (refused fault ≡ refused OutOfMemory)
        → (found ≡ fault) × (new ≡ refused fault)
    same_out is now (inl e) = absurd (false≢true e)
    same_out is now (inr e) = (let same : OutOfMemory ≡ fault = cc in is ∙ same, now ∙ sym e)

pub stays_refused : (s : RequestState) (piece : List ℕ) (r : Result Bool WebFault) (new : RequestState) (fault : WebFault) → s ≡ refused fault
    → Feeds s piece r new → (r ≡ Err fault) × (new ≡ refused fault)
stays_refused s piece r new fault e x =
    at r (subst (λ (t : RequestState). Feeds t piece r new) e x)
  where
    at : (r : Result Bool WebFault) → Feeds (refused fault) piece r new → (r ≡ Err fault) × (new ≡ refused fault)
    at (Ok answer) y = absurd (y.not_refused fault (y.state ∙ after-refused fault piece))
    at (Err found) y = let same = refused_same piece fault found new y in (ap (λ (f : WebFault). Err f) same.0, same.1)
