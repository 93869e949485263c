-- One call of a reader of answers.
use Rattle.std.proofs.Common.{◌≡◌, ◌≢◌, ℕ, ◌+◌, ◌-◌, ◌<◌, ◌≤◌, ◌⊎◌, inl, inr, ⊎_elim, Bool, true, false, cond, ltb, zero, suc, List, [], ◌∷◌, ◌++◌, length, take, drop, refl, sym, ap, ◌∙◌, subst, append-nil, take-append-drop, length-append, length-take-le, Option, Some, None, Ok, Err, Result, arith}
use Rattle.std.specs.Prelude.{map, ◌↔◌, IsTrue, is_some, IfNone}
use Rattle.std.specs.Option.{option_to_list}
use Rattle.std.proofs.lemmas.Bool.{false≢true, cond_both}
use Rattle.web_heads.specs.declared.body.BodyKind.{BodyKind}
use Rattle.web_head_reader.specs.declared.fault.HeadReadFault.{HeadReadFault}
use Rattle.web_head_reader.specs.declared.fault.HeadReadFault.TheVariants as read
use Rattle.web_head_reader.specs.declared.place.HeadPlace.{HeadPlace}
use Rattle.web_head_reader.specs.declared.place.HeadPlace.TheVariants as head
use Rattle.web_head_reader.specs.Steps.{HeadState, head_step}
use Rattle.web_head_reader.specs.Steps as heads
use Rattle.web_head_reader.specs.Calls.{Takes}
use Rattle.web_head_reader.specs.Calls as head_calls
use Rattle.web_head_reader.proofs.Machine as head_runs
use Rattle.web_bodies.specs.Steps as bodies
use Rattle.web_bodies.proofs.Framing.{count-after}
use Rattle.web_frames.specs.declared.limits.Side.TheVariants.{Response}
use Rattle.web_frames.specs.declared.status.Trailers.{Trailers}
use Rattle.web_frames.specs.declared.event.FrameEvent.{FrameEvent}
use Rattle.web_contents.specs.declared.fault.WebFault.{WebFault}
use Rattle.web_contents.specs.declared.fault.WebFault.TheVariants as web
use Rattle.web_contents.specs.declared.place.ContentPlace.{ContentPlace}
use Rattle.web_contents.specs.declared.place.ContentPlace.TheVariants.{Open, Over, Refused}
use Rattle.web_contents.specs.Contents.{Content, place_of}
use Rattle.web_contents.specs.Contents as contents
use Rattle.web_contents.specs.Calls as content_calls
use Rattle.web_contents.proofs.Causes.{cause_of, by_cause}
use Rattle.web_contents.proofs.Parts as content_parts
use Rattle.web_contents.proofs.Places as places
use Rattle.web_contents.proofs.Runs.{last_of}
use Rattle.web_contents.proofs.Finish.{begin_fine}
use Rattle.web_responses.specs.declared.event.WebEvent.{WebEvent}
use Rattle.web_responses.specs.declared.event.WebEvent.TheVariants as event
use Rattle.web_responses.specs.declared.opening.Opening.{Opening}
use Rattle.web_responses.specs.declared.reader.Stage.{Stage}
use Rattle.web_responses.specs.declared.reader.Stage.TheVariants as stage
use Rattle.web_responses.specs.Openings.{fault_of_reading, opening, Reads}
use Rattle.web_responses.specs.Answers.{AnswerState, in_head, in_body, bad_head, begin_body, event_of, end_at, end_told, opened_body, opened, opened_told, head_led, head_told, answer_step, after, events_of, standing}
use Rattle.web_responses.specs.Calls.{begin_of, state_of, end_due, due_of, Reader, IsHead, IsBody, Holds, Feeds, Settles, RunsOut, Refuses}
use Rattle.web_responses.proofs.Runs.{after-nil, after-cons, events_of-cons, step-in_head, told-in_head, events_of-nil, after-append, events_of-append, after-in_body, events-in_body, Does, head_open, head_last, over-stays, refused-stays}
use Rattle.web_responses.proofs.Ends.{no_front}

abbrev pub reader : AnswerState → List WebEvent → ℕ → Reader
reader state due count = record { state = state; due = due; count = count }

-- ---- stages

pub stage_head : (s : Stage) (h : HeadState) (c : Content) → IsHead (state_of s h c) → s ≡ stage.Head
stage_head stage.Head h c is = refl
stage_head stage.Body h c is = absurd is
stage_head (stage.Refused fault) h c is = absurd is

pub stage_body : (s : Stage) (h : HeadState) (c : Content) → IsBody (state_of s h c) → s ≡ stage.Body
stage_body stage.Head h c is = absurd is
stage_body stage.Body h c is = refl
stage_body (stage.Refused fault) h c is = absurd is

-- ---- refusals

-- what is settled is refused, whichever fault it is, where want of memory could come
pub refuses_settled : (old : Reader) (piece : List ℕ) (fault : WebFault) (new : Reader) → Settles old piece fault new
    → (standing old.state ≡ Open) ⊎ (standing old.state ≡ Refused fault) → Refuses old piece fault new
refuses_settled old piece fault new x before =
    by_cause (Settles old piece fault new) (RunsOut old piece new) fault x (λ out. record {
      none_was_due = no_front old.due (events_of old.state piece) x.silent;
      was_open = ⊎_elim (λ going. inl going) (λ refused. inr (refused ∙ ap (λ (f : WebFault). Refused f) out)) before;
      refused = x.refused ∙ ap (λ (f : WebFault). Refused f) out;
      none_due = x.none_due;
      counted = x.counted;
    })

-- what a call gave that failed, unless memory ran out
pub reads_err : (fault : WebFault) (expected : Result Opening WebFault) → Reads (Err fault) expected → (expected ≡ Err fault) ⊎ (fault ≡ web.OutOfMemory)
reads_err fault expected x =
    ⊎_elim (λ (y : expected ≡ Err fault). inl y) (λ (y : (fault ≡ web.OutOfMemory) × Unit {0}). inr y.0) (cause_of (expected ≡ Err fault) (Unit {0}) fault x)

-- what a body refuses, unless memory ran out
pub content_settles : (old : Content) (piece : List ℕ) (fault : WebFault) (new : Content) → content_calls.Refuses old piece fault new
    → (content_calls.Settles old piece fault new) ⊎ (fault ≡ web.OutOfMemory)
content_settles old piece fault new x =
    ⊎_elim (λ (y : content_calls.Settles old piece fault new). inl y)
    (λ (y : (fault ≡ web.OutOfMemory) × (place_of new ≡ Refused web.OutOfMemory)). inr y.0)
    (cause_of (content_calls.Settles old piece fault new) (place_of new ≡ Refused web.OutOfMemory) fault x)

runs_out : (old : Reader) (piece : List ℕ) (fault : WebFault) (due : List WebEvent) (count : ℕ) → old.due ≡ [] → standing old.state ≡ Open
    → due ≡ [] → fault ≡ web.OutOfMemory → count ≤ old.count + length piece → Refuses old piece fault (reader (bad_head fault) due count)
runs_out old piece fault due count was_none going none e counted =
    subst (λ (f : WebFault). Refuses old piece f (reader (bad_head f) due count)) (sym e)
    (record { none_was_due = was_none; was_open = inl going; refused = refl; none_due = none; counted = counted })

-- an answer that was refused before
pub refuses_before : (old new : Reader) (piece : List ℕ) (fault : WebFault) → old.due ≡ [] → new.state ≡ old.state → standing new.state ≡ Refused fault → new.due ≡ []
    → new.count ≡ old.count → Refuses old piece fault new
refuses_before old new piece fault none same stands none_due count =
    let stays = refused-stays old.state piece fault (ap standing (sym same) ∙ stands) in
    refuses_settled old piece fault new (record {
      settled = stays.0;
      silent = ap (λ (d : List WebEvent). d ++ events_of old.state piece) none ∙ stays.1;
      refused = stands;
      none_due = none_due;
      counted = omega arith;
    }) (inr (ap standing (sym same) ∙ stands))

-- ---- an event that is due

pub feeds_due : (old new : Reader) (piece : List ℕ) (told : WebEvent) → old.due ≡ told ∷ new.due → new.state ≡ old.state → new.count ≡ old.count
    → Feeds old piece 0 (Some told) new
feeds_due old new piece told due state count = record {
  within = omega arith;
  state = state ∙ sym (after-nil old.state);
  events = ap (λ (t : List WebEvent). old.due ++ t) (events_of-nil old.state) ∙ append-nil old.due ∙ due;
  first = λ fewer less. absurd (omega arith);
  all = tt;
  counted = omega arith;
}

-- ---- within the head

open_by : (place : HeadPlace) → place ≢ head.Whole → ((fault : HeadReadFault) → place ≢ head.Refused fault) → place ≡ head.Open
open_by head.Open whole refused = refl
open_by head.Whole whole refused = absurd (whole refl)
open_by (head.Refused fault) whole refused = absurd (refused fault refl)

pub head_goes_on : (old : HeadState) (piece : List ℕ) (new : HeadState) (count : ℕ) → Takes old piece new count → new.place ≢ head.Whole → new.place ≡ head.Open
head_goes_on old piece new count x whole = open_by new.place whole x.not_refused

all_taken : (new : HeadState) (piece : List ℕ) (count : ℕ) → (count ≡ length piece) ⊎ (new.place ≡ head.Whole) → new.place ≢ head.Whole → count ≡ length piece
all_taken new piece count (inl all) whole = all
all_taken new piece count (inr there) whole = absurd (whole there)

-- fewer bytes than are taken tell nothing
head_first : (h : HeadState) (piece : List ℕ) (new : HeadState) (count : ℕ) → Takes h piece new count → (fewer : ℕ) → fewer < count
    → events_of (in_head h) (take fewer piece) ≡ []
head_first h piece new count x fewer less = (head_open h (take fewer piece) (x.first fewer less)).1

pub feeds_head : (s : Stage) (h : HeadState) (c : Content) (due : List WebEvent) (n : ℕ) (piece : List ℕ) (new : HeadState) (count : ℕ) → s ≡ stage.Head → due ≡ []
    → Takes h piece new count → new.place ≢ head.Whole
    → Feeds (reader (state_of s h c) due n) piece count None (reader (state_of s new c) due (n + count))
feeds_head s h c due n piece new count e none x whole =
    let going : (heads.after h (take count piece)).place ≡ head.Open = ap (λ (t : HeadState). t.place) (sym x.state) ∙ head_goes_on h piece new count x whole in
    let does = head_open h (take count piece) going in
    subst (λ (t : Stage). Feeds (reader (state_of t h c) due n) piece count None (reader (state_of t new c) due (n + count))) (sym e) (record {
      within = x.within;
      state = ap in_head x.state ∙ sym does.0;
      events = ap (λ (t : List WebEvent). due ++ t) does.1 ∙ append-nil due;
      first = λ fewer less. ap (λ (t : List WebEvent). t ++ events_of (in_head h) (take fewer piece)) none ∙ head_first h piece new count x fewer less;
      all = all_taken new piece count x.ends whole;
      counted = refl;
    })

-- the bytes held are those that came
state_held : (bytes : List ℕ) → length (heads.state_of bytes).held ≤ length bytes
unfolding heads.state_of
state_held bytes =
    cond_both (heads.ends_head bytes) (record { place = head.Whole; held = bytes })
    (cond (ltb (length bytes) heads.most_head) (record { place = head.Open; held = bytes }) (heads.refused_at read.HeadTooLong))
    (λ (s : HeadState). length s.held ≤ length bytes) (λ e. omega arith)
    (λ e. cond_both (ltb (length bytes) heads.most_head) (record { place = head.Open; held = bytes }) (heads.refused_at read.HeadTooLong)
    (λ (s : HeadState). length s.held ≤ length bytes) (λ f. omega arith) (λ f. omega arith))

step_held_at : (place : HeadPlace) (s : HeadState) (b : ℕ) → length (heads.step_at place s b).held ≤ length s.held + 1
unfolding heads.step_at
step_held_at head.Open s b = let most = state_held (s.held ++ b ∷ []) in omega (arith, length-append s.held (b ∷ []))
step_held_at head.Whole s b = omega arith
step_held_at (head.Refused fault) s b = omega arith

step_held : (s : HeadState) (b : ℕ) → length (head_step s b).held ≤ length s.held + 1
unfolding head_step
step_held s b = step_held_at s.place s b

pub after_held : (s : HeadState) (bytes : List ℕ) → length (heads.after s bytes).held ≤ length s.held + length bytes
after_held s [] = let same = ap (λ (t : HeadState). length t.held) (head_runs.after-nil s) in omega arith
after_held s (b ∷ bytes) =
    let same = ap (λ (t : HeadState). length t.held) (head_runs.after-cons s b bytes) in
    let rest = after_held (head_step s b) bytes in
    let step = step_held s b in omega arith

pub taken_held : (h : HeadState) (piece : List ℕ) (new : HeadState) (count n : ℕ) → Takes h piece new count → length h.held ≤ n → length new.held ≤ n + count
taken_held h piece new count n x before =
    let most = after_held h (take count piece) in
    let same = ap (λ (t : HeadState). length t.held) x.state in
    let whole = length-take-le count piece x.within in omega arith

-- ---- the end of the head

some_taken : (h : HeadState) (piece : List ℕ) (new : HeadState) (count : ℕ) → Takes h piece new count → h.place ≡ head.Open → new.place ≡ head.Whole → 0 < count
some_taken h piece new zero x going whole =
    let same : new.place ≡ h.place = ap (λ (s : HeadState). s.place) (x.state ∙ head_runs.after-nil h) in absurd (cc)
some_taken h piece new (suc n) x going whole = omega arith

-- the bytes up to the head's end lead to what it says
head_ends : (h : HeadState) (piece : List ℕ) (new : HeadState) (count : ℕ) → Takes h piece new count → h.place ≡ head.Open → new.place ≡ head.Whole
    → Does (in_head h) (take count piece) (opened (length new.held) (opening new.held)) (opened_told (length new.held) (opening new.held))
head_ends h piece new count x going whole =
    let some = some_taken h piece new count x going whole in
    let last = last_of piece count some x.within in
    subst (λ (b : List ℕ). Does (in_head h) b (opened (length new.held) (opening new.held)) (opened_told (length new.held) (opening new.held))) (sym last.1)
    (head_last h (take (count - 1) piece) last.0 new head.Whole (x.first (count - 1) (omega arith)) (ap (heads.after h) (sym last.1) ∙ sym x.state) whole)

-- ---- a right head

begin_same : (trailers : Option Trailers) (flag : Bool) (kind : BodyKind) (at : ℕ) → flag ≡ is_some trailers → begin_of flag kind at ≡ begin_body trailers kind at
begin_same None false kind at e = refl
begin_same None true kind at e = absurd (false≢true (sym e))
begin_same (Some trailers) false kind at e = absurd (false≢true e)
begin_same (Some trailers) true kind at e = refl

pub end_due_is : (ends : Bool) (place : ContentPlace) → (IsTrue ends ↔ (place ≡ Over)) → end_due ends ≡ end_at place
end_due_is true place is = ap end_at (sym (is.0 refl))
end_due_is false Open is = refl
end_due_is false Over is = absurd (false≢true (is.1 refl))
end_due_is false (Refused fault) is = refl

pub feeds_opening : (s : Stage) (h : HeadState) (c : Content) (due : List WebEvent) (n : ℕ) (piece : List ℕ) (new : HeadState) (count : ℕ) (o : Opening) (flag ends : Bool) (at : ℕ) (begun : Content)
    → s ≡ stage.Head → due ≡ [] → Takes h piece new count → h.place ≡ head.Open → new.place ≡ head.Whole → opening new.held ≡ Ok o
    → flag ≡ is_some o.trailers → at ≡ length new.held → begun ≡ begin_of flag o.body at → (IsTrue ends ↔ (place_of begun ≡ Over))
    → Feeds (reader (state_of s h c) due n) piece count (Some (event.Head o.status)) (reader (in_body begun) (due_of o.trailers ends) (n + count))
feeds_opening s h c due n piece new count o flag ends at begun e none x going whole says bare place is over =
    let does = head_ends h piece new count x going whole in
    let same : begun ≡ opened_body (length new.held) o = is ∙ begin_same o.trailers flag o.body at bare ∙ ap (begin_body o.trailers o.body) place in
    subst (λ (t : Stage). Feeds (reader (state_of t h c) due n) piece count (Some (event.Head o.status)) (reader (in_body begun) (due_of o.trailers ends) (n + count))) (sym e) (record {
      within = x.within;
      state = sym (does.0 ∙ ap (opened (length new.held)) says ∙ ap in_body (sym same));
      events =
          ap (λ (d : List WebEvent). d ++ events_of (in_head h) (take count piece)) none
          ∙ does.1 ∙ ap (opened_told (length new.held)) says
          ∙ ap (λ (t : List WebEvent). event.Head o.status ∷ (map event.Trailers (option_to_list o.trailers) ++ t))
          (ap (λ (d : Content). end_at (place_of d)) (sym same) ∙ sym (end_due_is ends (place_of begun) over));
      first = λ fewer less. ap (λ (t : List WebEvent). t ++ events_of (in_head h) (take fewer piece)) none ∙ head_first h piece new count x fewer less;
      all = tt;
      counted = refl;
    })

-- a body before its first byte isn't refused
frames_fine : (kind : BodyKind) (at : ℕ) (fault : WebFault) (place : ContentPlace) → let c = contents.begin Response kind at in
    places.Standing c.frames.place c.body.place c.frames place → place ≢ Refused fault
frames_fine kind at fault place (places.going_on good going is) e = cc
frames_fine kind at fault place (places.over good over complete is) e = cc
frames_fine kind at fault place (places.too_early good over incomplete is) e = false≢true (sym incomplete)
frames_fine kind at fault place (places.bad_body found good refused is) e = begin_fine kind at found refused
frames_fine kind at fault place (places.bad_frames found refused is) e = cc

bare_fine : (kind : BodyKind) (at : ℕ) (fault : WebFault) (place : ContentPlace) → let c = begin_of true kind at in
    places.Standing c.frames.place c.body.place c.frames place → place ≢ Refused fault
bare_fine kind at fault place (places.going_on good going is) e = cc
bare_fine kind at fault place (places.over good over complete is) e = cc
bare_fine kind at fault place (places.too_early good over incomplete is) e = false≢true (sym incomplete)
bare_fine kind at fault place (places.bad_body found good refused is) e = begin_fine kind at found refused
bare_fine kind at fault place (places.bad_frames found refused is) e = cc

pub begun_fine : (flag : Bool) (kind : BodyKind) (at : ℕ) (fault : WebFault) → place_of (begin_of flag kind at) ≢ Refused fault
begun_fine false kind at fault e = frames_fine kind at fault (place_of (begin_of false kind at)) (places.standing (begin_of false kind at)) e
begun_fine true kind at fault e = bare_fine kind at fault (place_of (begin_of true kind at)) (places.standing (begin_of true kind at)) e

-- ---- a wrong head

-- an answer that some bytes of a piece refuse
settles_more : (old : AnswerState) (due : List WebEvent) (n : ℕ) (piece : List ℕ) (count : ℕ) (fault : WebFault) (more : List WebEvent) (m : ℕ) → due ≡ [] → more ≡ []
    → standing (after old (take count piece)) ≡ Refused fault → events_of old (take count piece) ≡ []
    → m ≤ n + length piece → Settles (reader old due n) piece fault (reader (bad_head fault) more m)
settles_more old due n piece count fault more m none left refused silent counted =
    let parts = take-append-drop count piece in
    let stays = refused-stays (after old (take count piece)) (drop count piece) fault refused in
    record {
      settled = ap (λ (p : List ℕ). standing (after old p)) (sym parts) ∙ ap standing (after-append old (take count piece) (drop count piece)) ∙ stays.0;
      silent =
          ap (λ (d : List WebEvent). d ++ events_of old piece) none
          ∙ ap (events_of old) (sym parts) ∙ events_of-append old (take count piece) (drop count piece)
          ∙ ap (λ (t : List WebEvent). t ++ events_of (after old (take count piece)) (drop count piece)) silent ∙ stays.1;
      refused = refl;
      none_due = left;
      counted = counted;
    }

refuses_opening_by : (s : Stage) (h : HeadState) (c : Content) (due : List WebEvent) (n m : ℕ) (piece : List ℕ) (new : HeadState) (count : ℕ) (fault : WebFault)
    → s ≡ stage.Head → due ≡ [] → Takes h piece new count → h.place ≡ head.Open → new.place ≡ head.Whole → (opening new.held ≡ Err fault) ⊎ (fault ≡ web.OutOfMemory)
    → m ≤ n + length piece → Refuses (reader (state_of s h c) due n) piece fault (reader (bad_head fault) due m)
refuses_opening_by s h c due n m piece new count fault e none x going whole (inl says) counted =
    let does = head_ends h piece new count x going whole in
    subst (λ (t : Stage). Refuses (reader (state_of t h c) due n) piece fault (reader (bad_head fault) due m)) (sym e)
    (refuses_settled (reader (in_head h) due n) piece fault (reader (bad_head fault) due m)
    (settles_more (in_head h) due n piece count fault due m none none (ap standing (does.0 ∙ ap (opened (length new.held)) says))
    (does.1 ∙ ap (opened_told (length new.held)) says) counted) (inl refl))
refuses_opening_by s h c due n m piece new count fault e none x going whole (inr memory) counted =
    runs_out (reader (state_of s h c) due n) piece fault due m none (ap (λ (t : Stage). standing (state_of t h c)) e) none memory counted

pub refuses_opening : (s : Stage) (h : HeadState) (c : Content) (due : List WebEvent) (n m : ℕ) (piece : List ℕ) (new : HeadState) (count : ℕ) (fault : WebFault)
    → s ≡ stage.Head → due ≡ [] → Takes h piece new count → h.place ≡ head.Open → new.place ≡ head.Whole → Reads (Err fault) (opening new.held)
    → m ≡ n + count → Refuses (reader (state_of s h c) due n) piece fault (reader (bad_head fault) due m)
refuses_opening s h c due n m piece new count fault e none x going whole says counts =
    let within = x.within in
    refuses_opening_by s h c due n m piece new count fault e none x going whole (reads_err fault (opening new.held) says) (omega arith)

-- ---- a head that is too long

head_refused_by : (h : HeadState) (b : ℕ) (bytes : List ℕ) (place : HeadPlace) (fault : HeadReadFault) → (head_step h b).place ≡ place
    → (heads.after (head_step h b) bytes).place ≡ head.Refused fault
    → ((head_step h b).place ≡ head.Open → (standing (after (in_head (head_step h b)) bytes) ≡ Refused (fault_of_reading fault)) × (events_of (in_head (head_step h b)) bytes ≡ []))
    → (standing (after (in_head h) (b ∷ bytes)) ≡ Refused (fault_of_reading fault)) × (events_of (in_head h) (b ∷ bytes) ≡ [])
head_refused_by h b bytes head.Open fault e refused rest =
    let more = rest e in
    let step = step-in_head h b ∙ ap (λ (p : HeadPlace). head_led p (head_step h b)) e in
    let told = told-in_head h b ∙ ap (λ (p : HeadPlace). head_told p (head_step h b)) e in (
      ap standing (after-cons (in_head h) b bytes ∙ ap (λ (s : AnswerState). after s bytes) step) ∙ more.0,
      events_of-cons (in_head h) b bytes ∙ ap (λ (t : List WebEvent). t ++ events_of (answer_step (in_head h) b) bytes) told
          ∙ ap (λ (s : AnswerState). events_of s bytes) step ∙ more.1,
    )
head_refused_by h b bytes head.Whole fault e refused rest =
    let there : (heads.after (head_step h b) bytes).place ≡ head.Whole = ap (λ (s : HeadState). s.place) (head_runs.after-Whole (head_step h b) bytes e) ∙ e in absurd (cc)
head_refused_by h b bytes (head.Refused other) fault e refused rest =
    let there : (heads.after (head_step h b) bytes).place ≡ head.Refused other =
    ap (λ (s : HeadState). s.place) (head_runs.after-Refused (head_step h b) bytes other e) ∙ e in
    let same : other ≡ fault = cc in
    let step = step-in_head h b ∙ ap (λ (p : HeadPlace). head_led p (head_step h b)) e in
    let told = told-in_head h b ∙ ap (λ (p : HeadPlace). head_told p (head_step h b)) e in
    let stays = refused-stays (bad_head (fault_of_reading other)) bytes (fault_of_reading other) refl in (
      ap standing (after-cons (in_head h) b bytes ∙ ap (λ (s : AnswerState). after s bytes) step) ∙ stays.0
          ∙ ap (λ (f : HeadReadFault). Refused (fault_of_reading f)) same,
      events_of-cons (in_head h) b bytes ∙ ap (λ (t : List WebEvent). t ++ events_of (answer_step (in_head h) b) bytes) told
          ∙ ap (λ (s : AnswerState). events_of s bytes) step ∙ stays.1,
    )

head_refused : (h : HeadState) (bytes : List ℕ) (fault : HeadReadFault) → h.place ≡ head.Open → (heads.after h bytes).place ≡ head.Refused fault
    → (standing (after (in_head h) bytes) ≡ Refused (fault_of_reading fault)) × (events_of (in_head h) bytes ≡ [])
head_refused h [] fault going refused =
    let there : h.place ≡ head.Refused fault = ap (λ (s : HeadState). s.place) (sym (head_runs.after-nil h)) ∙ refused in absurd (cc)
head_refused h (b ∷ bytes) fault going refused =
    let later : (heads.after (head_step h b) bytes).place ≡ head.Refused fault = ap (λ (s : HeadState). s.place) (sym (head_runs.after-cons h b bytes)) ∙ refused in
    head_refused_by h b bytes (head_step h b).place fault refl later (λ goes. head_refused (head_step h b) bytes fault goes later)

pub refuses_head : (s : Stage) (h : HeadState) (c : Content) (due : List WebEvent) (n : ℕ) (piece : List ℕ) (new : HeadState) (fault : HeadReadFault)
    → s ≡ stage.Head → due ≡ [] → h.place ≡ head.Open → head_calls.Refuses h piece new fault
    → Refuses (reader (state_of s h c) due n) piece (fault_of_reading fault) (reader (bad_head (fault_of_reading fault)) due n)
refuses_head s h c due n piece new read.HeadTooLong e none going x =
    let refused = head_refused h piece read.HeadTooLong going (ap (λ (t : HeadState). t.place) (sym x.state) ∙ x.refused) in
    subst (λ (t : Stage). Refuses (reader (state_of t h c) due n) piece web.HeadTooLong (reader (bad_head web.HeadTooLong) due n)) (sym e)
    (record { settled = refused.0; silent = ap (λ (d : List WebEvent). d ++ events_of (in_head h) piece) none ∙ refused.1; refused = refl; none_due = none; counted = omega arith })
refuses_head s h c due n piece new read.OutOfMemory e none going x = record {
  none_was_due = none;
  was_open = inl (ap (λ (t : Stage). standing (state_of t h c)) e);
  refused = refl;
  none_due = none;
  counted = omega arith;
}

-- ---- behind the head

-- the body goes on
pub body_open : (place : ContentPlace) → place ≢ Over → ((fault : WebFault) → place ≢ Refused fault) → place ≡ Open
body_open Open over refused = refl
body_open Over over refused = absurd (over refl)
body_open (Refused fault) over refused = absurd (refused fault refl)

body_told : (c : Content) (bytes : List ℕ) → place_of c ≡ Open
    → events_of (in_body c) bytes ≡ map event_of (contents.events_of c bytes) ++ end_at (place_of (contents.after c bytes))
body_told c bytes e = events-in_body c bytes ∙ ap (λ (p : ContentPlace). map event_of (contents.events_of c bytes) ++ end_told p (place_of (contents.after c bytes))) e

no_end : (place : ContentPlace) → place ≢ Over → end_at place ≡ []
no_end Open over = refl
no_end Over over = absurd (over refl)
no_end (Refused fault) over = refl

take-take : (n count : ℕ) (piece : List ℕ) → n ≤ count → take n piece ++ drop n (take count piece) ≡ take count piece
take-take zero count piece fits = refl
take-take (suc n) zero piece fits = absurd (omega arith)
take-take (suc n) (suc count) [] fits = refl
take-take (suc n) (suc count) (b ∷ piece) fits = ap (λ (rest : List ℕ). b ∷ rest) (take-take n count piece (omega arith))

silent_before : (c : Content) (piece : List ℕ) (n count : ℕ) → n ≤ count → contents.events_of c (take count piece) ≡ [] → contents.events_of c (take n piece) ≡ []
silent_before c piece n count fits silent =
    no_front (contents.events_of c (take n piece)) (contents.events_of (contents.after c (take n piece)) (drop n (take count piece)))
    (sym (content_parts.events_of-append c (take n piece) (drop n (take count piece))) ∙ ap (contents.events_of c) (take-take n count piece fits) ∙ silent)

-- the body isn't over before the last of the bytes that are taken
not_over_before : (c : Content) (piece : List ℕ) (count : ℕ) (new : Content) → content_calls.Takes c piece count new → (fewer : ℕ) → fewer < count
    → place_of (contents.after c (take fewer piece)) ≢ Over
not_over_before c piece count new x fewer less e =
    let stays = places.over-stays (contents.after c (take fewer piece)) (drop fewer (take count piece)) e in
    let fits : fewer ≤ count = omega arith in
    let same : new ≡ contents.after c (take fewer piece) =
    x.state ∙ ap (contents.after c) (sym (take-take fewer count piece fits))
    ∙ content_parts.after-append c (take fewer piece) (drop fewer (take count piece)) ∙ stays.0 in
    let counts : new.body.count ≡ (bodies.after c.body (take fewer piece)).count =
    ap (λ (d : Content). d.body.count) (same ∙ content_parts.after-parts c (take fewer piece)) in
    let most = count-after c.body (take fewer piece) in
    let within = x.within in
    let shorter = length-take-le fewer piece (omega arith) in
    let counted = x.counted in omega arith

first_body : (c : Content) (piece : List ℕ) (count : ℕ) (new : Content) → content_calls.Takes c piece count new → place_of c ≡ Open
    → contents.events_of c (take (count - 1) piece) ≡ [] → (fewer : ℕ) → fewer < count → events_of (in_body c) (take fewer piece) ≡ []
first_body c piece count new x going silent fewer less =
    body_told c (take fewer piece) going
    ∙ ap (λ (t : List FrameEvent). map event_of t ++ end_at (place_of (contents.after c (take fewer piece)))) (silent_before c piece fewer (count - 1) (omega arith) silent)
    ∙ no_end (place_of (contents.after c (take fewer piece))) (not_over_before c piece count new x fewer less)

-- the trailers of the head have been told
no_trailers_due : (trailers : Option Trailers) (ends flag : Bool) → due_of trailers ends ≡ [] → due_of trailers flag ≡ end_due flag
no_trailers_due None ends flag e = refl
no_trailers_due (Some trailers) ends flag e = absurd (cc)

-- bytes of a body that tell something, or nothing
feeds_body_by : (s : Stage) (h : HeadState) (c : Content) (due more : List WebEvent) (n : ℕ) (piece : List ℕ) (count : ℕ) (new : Content) (told : Option WebEvent)
    → s ≡ stage.Body → due ≡ [] → content_calls.Takes c piece count new → place_of c ≡ Open
    → contents.events_of c (take (count - 1) piece) ≡ []
    → map event_of (contents.events_of c (take count piece)) ++ end_at (place_of new) ≡ option_to_list told ++ more
    → IfNone told (count ≡ length piece)
    → Feeds (reader (state_of s h c) due n) piece count told (reader (state_of s h new) more (n + count))
feeds_body_by s h c due more n piece count new told e none x going silent tells all =
    subst (λ (t : Stage). Feeds (reader (state_of t h c) due n) piece count told (reader (state_of t h new) more (n + count))) (sym e) (record {
      within = x.within;
      state = ap in_body x.state ∙ sym (after-in_body c (take count piece));
      events =
          ap (λ (d : List WebEvent). d ++ events_of (in_body c) (take count piece)) none ∙ body_told c (take count piece) going
          ∙ ap (λ (d : Content). map event_of (contents.events_of c (take count piece)) ++ end_at (place_of d)) (sym x.state) ∙ tells;
      first = λ fewer less. ap (λ (d : List WebEvent). d ++ events_of (in_body c) (take fewer piece)) none ∙ first_body c piece count new x going silent fewer less;
      all = all;
      counted = refl;
    })

pub feeds_none : (s : Stage) (h : HeadState) (c : Content) (due : List WebEvent) (n : ℕ) (piece : List ℕ) (count : ℕ) (new : Content) → s ≡ stage.Body → due ≡ []
    → place_of c ≡ Open → content_calls.Gives c piece count None new
    → Feeds (reader (state_of s h c) due n) piece count None (reader (state_of s h new) due (n + count))
feeds_none s h c due n piece count new e none going (all, x) =
    feeds_body_by s h c due due n piece count new None e none x.takes going (silent_before c piece (count - 1) count (omega arith) x.silent)
    (ap (λ (t : List FrameEvent). map event_of t ++ end_at (place_of new)) x.silent ∙ ap end_at x.place_is ∙ sym none) all

pub feeds_end : (s : Stage) (h : HeadState) (c : Content) (due : List WebEvent) (n : ℕ) (piece : List ℕ) (count : ℕ) (new : Content) → s ≡ stage.Body → due ≡ []
    → place_of c ≡ Open → content_calls.Leads c piece count Over new
    → Feeds (reader (state_of s h c) due n) piece count (Some event.End) (reader (state_of s h new) due (n + count))
feeds_end s h c due n piece count new e none going x =
    feeds_body_by s h c due due n piece count new (Some event.End) e none x.takes going (silent_before c piece (count - 1) count (omega arith) x.silent)
    (ap (λ (t : List FrameEvent). map event_of t ++ end_at (place_of new)) x.silent ∙ ap end_at x.place_is ∙ ap (λ (d : List WebEvent). event.End ∷ d) (sym none)) tt

pub feeds_event : (s : Stage) (h : HeadState) (c : Content) (trailers : Option Trailers) (ends flag : Bool) (n : ℕ) (piece : List ℕ) (count : ℕ) (told : FrameEvent) (new : Content)
    → s ≡ stage.Body → due_of trailers ends ≡ [] → place_of c ≡ Open → content_calls.Tells c piece count told new → (IsTrue flag ↔ (place_of new ≡ Over))
    → Feeds (reader (state_of s h c) (due_of trailers ends) n) piece count (Some (event_of told)) (reader (state_of s h new) (due_of trailers flag) (n + count))
feeds_event s h c trailers ends flag n piece count told new e none going x over =
    feeds_body_by s h c (due_of trailers ends) (due_of trailers flag) n piece count new (Some (event_of told)) e none x.takes going x.first
    (ap (λ (t : List FrameEvent). map event_of t ++ end_at (place_of new)) x.told
    ∙ ap (λ (d : List WebEvent). event_of told ∷ d) (sym (end_due_is flag (place_of new) over) ∙ sym (no_trailers_due trailers ends flag none))) tt

-- after the end bytes say nothing
pub feeds_over : (s : Stage) (h : HeadState) (c : Content) (due : List WebEvent) (n : ℕ) (piece : List ℕ) → s ≡ stage.Body → due ≡ [] → place_of c ≡ Over
    → Feeds (reader (state_of s h c) due n) piece (length piece) None (reader (state_of s h c) due (n + length piece))
feeds_over s h c due n piece e none ended =
    subst (λ (t : Stage). Feeds (reader (state_of t h c) due n) piece (length piece) None (reader (state_of t h c) due (n + length piece))) (sym e) (record {
      within = omega arith;
      state = sym (over-stays (in_body c) (take (length piece) piece) ended).0;
      events = ap (λ (t : List WebEvent). due ++ t) (over-stays (in_body c) (take (length piece) piece) ended).1 ∙ append-nil due;
      first = λ fewer less. ap (λ (d : List WebEvent). d ++ events_of (in_body c) (take fewer piece)) none ∙ (over-stays (in_body c) (take fewer piece) ended).1;
      all = refl;
      counted = refl;
    })

refuses_body_by : (s : Stage) (h : HeadState) (c : Content) (due : List WebEvent) (n : ℕ) (piece : List ℕ) (fault : WebFault) (new : Content) → s ≡ stage.Body → due ≡ []
    → place_of c ≡ Open → (content_calls.Settles c piece fault new) ⊎ (fault ≡ web.OutOfMemory)
    → Refuses (reader (state_of s h c) due n) piece fault (reader (bad_head fault) due n)
refuses_body_by s h c due n piece fault new e none going (inl x) =
    subst (λ (t : Stage). Refuses (reader (state_of t h c) due n) piece fault (reader (bad_head fault) due n)) (sym e)
    (refuses_settled (reader (in_body c) due n) piece fault (reader (bad_head fault) due n) (record {
      settled = ap standing (after-in_body c piece) ∙ x.settled;
      silent = ap (λ (d : List WebEvent). d ++ events_of (in_body c) piece) none ∙ body_told c piece going
          ∙ ap (λ (t : List FrameEvent). map event_of t ++ end_at (place_of (contents.after c piece))) x.silent ∙ ap end_at x.settled;
      refused = refl;
      none_due = none;
      counted = omega arith;
    }) (inl going))
refuses_body_by s h c due n piece fault new e none going (inr memory) =
    runs_out (reader (state_of s h c) due n) piece fault due n none (ap (λ (t : Stage). standing (state_of t h c)) e ∙ going) none memory (omega arith)

pub refuses_body : (s : Stage) (h : HeadState) (c : Content) (due : List WebEvent) (n : ℕ) (piece : List ℕ) (fault : WebFault) (new : Content) → s ≡ stage.Body → due ≡ []
    → place_of c ≡ Open → content_calls.Refuses c piece fault new → Refuses (reader (state_of s h c) due n) piece fault (reader (bad_head fault) due n)
refuses_body s h c due n piece fault new e none going x = refuses_body_by s h c due n piece fault new e none going (content_settles c piece fault new x)

-- ---- what holds between calls

pub holds_head : (s : Stage) (h : HeadState) (c : Content) (n : ℕ) → s ≡ stage.Head → Holds s h c n → (h.place ≡ head.Open) × (length h.held ≤ n)
holds_head s h c n e holds = subst (λ (t : Stage). Holds t h c n) e holds

pub to_head : (s : Stage) (h : HeadState) (c : Content) (n : ℕ) → s ≡ stage.Head → h.place ≡ head.Open → length h.held ≤ n → Holds s h c n
to_head s h c n e going fits = let holds : Holds stage.Head h c n = (going, fits) in subst (λ (t : Stage). Holds t h c n) (sym e) holds

pub holds_body : (s : Stage) (h : HeadState) (c : Content) (n : ℕ) → s ≡ stage.Body → Holds s h c n
    → ((fault : WebFault) → place_of c ≢ Refused fault) × (c.body.count ≤ n)
holds_body s h c n e holds = subst (λ (t : Stage). Holds t h c n) e holds
