-- A piece, taken in runs of payload and of framing.
use Rattle.std.proofs.Common.{◌≡◌, ◌≢◌, ℕ, ◌+◌, ◌-◌, ◌<◌, ◌≤◌, true, false, cond, ltb, zero, suc, List, [], ◌∷◌, ◌++◌, length, take, drop, refl, sym, ap, ◌∙◌, subst, append-nil, length-take-le, length-drop, take-append-drop, Option, Some, None, Result, Ok, Err, arith}
use Rattle.std.specs.Prelude.{OnSome, IfOk}
use Rattle.std.specs.Option.{option_to_list}
use Rattle.std.specs.Int.{w32, from_be_bytes}
use Rattle.std.proofs.Math.Seq.{take-add}
use Rattle.std.proofs.lemmas.Bool.{false≢true, cond_both}
use Rattle.std.proofs.lemmas.List.{take-take}
use Rattle.web_bodies.specs.declared.fault.BodyFault.{BodyFault}
use Rattle.web_bodies.specs.declared.fault.BodyFault.TheVariants as body_fault
use Rattle.web_bodies.specs.declared.place.BodyPlace.{BodyPlace}
use Rattle.web_bodies.specs.declared.place.BodyPlace.TheVariants as body
use Rattle.web_bodies.specs.Body.{Body}
use Rattle.web_bodies.specs.Steps as bodies
use Rattle.web_bodies.specs.Calls.{payload_ahead, TakesPayload, TakesFraming}
use Rattle.web_bodies.specs.Calls as body_calls
use Rattle.web_bodies.specs.Laws.{is_open}
use Rattle.web_frames.specs.declared.limits.Side.{Side}
use Rattle.web_frames.specs.declared.limits.Side.TheVariants.{Request, Response}
use Rattle.web_frames.specs.declared.fault.FrameFault.{FrameFault}
use Rattle.web_frames.specs.declared.fault.FrameFault.TheVariants as frame_fault
use Rattle.web_frames.specs.declared.status.Trailers.{Trailers}
use Rattle.web_frames.specs.declared.event.FrameEvent.{FrameEvent}
use Rattle.web_frames.specs.declared.event.FrameEvent.TheVariants as event
use Rattle.web_frames.specs.declared.state.FramePlace.{FramePlace}
use Rattle.web_frames.specs.declared.state.FramePlace.TheVariants as frame
use Rattle.web_frames.specs.Machine.{FrameState, Settled, more, told, faulty, is_compressed, is_trailers, told_by, settled_by, settled_by_length, settled_by_rest, state_of, event_of, frame_step, frame_event, place_behind, refused_at, Took, Stopped, RanOut, Feeds, frame_limit}
use Rattle.web_frames.specs.Machine as frames
use Rattle.web_frames.specs.Trailers.{trailers_in}
use Rattle.web_frames.proofs.MachineLemmas as machine
use Rattle.web_frames.proofs.ReaderLemmas.{after-side}
use Rattle.web_contents.specs.declared.event.ContentEvent.{ContentEvent}
use Rattle.web_contents.specs.declared.event.ContentEvent.TheVariants as content_event
use Rattle.web_contents.specs.declared.fault.WebFault.{WebFault}
use Rattle.web_contents.specs.declared.fault.WebFault.TheVariants as web
use Rattle.web_contents.specs.declared.place.ContentPlace.{ContentPlace}
use Rattle.web_contents.specs.declared.place.ContentPlace.TheVariants.{Open, Over, Refused}
use Rattle.web_contents.specs.Faults.{fault_of_body, fault_of_frames}
use Rattle.web_contents.specs.Contents.{Content, is_complete, place_of, after, events_of, ends_with_connection}
use Rattle.web_contents.specs.Calls.{TakesPiece, Takes, Tells, Leads, Settles, Refuses, RunTells, TakesRun, Gives, told_of}
use Rattle.web_contents.proofs.Parts.{parts, after-parts, events_of-parts, after-append, events_of-append, after-nil, events_of-nil}
use Rattle.web_contents.proofs.Places.{IsGood, Standing, going_on, over, too_early, bad_body, bad_frames, standing, place-bad_body, place-bad_frames, refused-stays}
use Rattle.web_contents.proofs.Causes.{by_cause, for_cause}

-- ---- an event leaves frames that are complete

abbrev NoTrailers : Trailers → Settled → Type 0
NoTrailers trailers settled = settled ≡ told (event.Trailers trailers) → ⊥

no_trailers_by : (trailers : Trailers) (flag : ℕ) (payload : List ℕ) → is_trailers flag ≡ false → NoTrailers trailers (told_by flag payload)
unfolding told_by
no_trailers_by trailers flag payload plain =
    cond_both (is_trailers flag) (frames.told_trailers (trailers_in payload)) (told (event.Message payload)) (NoTrailers trailers)
    (λ e. absurd (false≢true (sym plain ∙ e))) (λ e f. cc)

no_trailers_length : (trailers : Trailers) (flag count : ℕ) (payload : List ℕ) → is_trailers flag ≡ false
    → NoTrailers trailers (settled_by_length Request flag count payload)
unfolding settled_by_length
no_trailers_length trailers flag count payload plain =
    cond_both (ltb (frame_limit Request) count) (faulty (frame_fault.FrameTooLong count)) (cond (ltb (length payload) count) more (told_by flag payload)) (NoTrailers trailers)
    (λ e f. cc)
    (λ e. cond_both (ltb (length payload) count) more (told_by flag payload) (NoTrailers trailers) (λ f g. cc) (λ f. no_trailers_by trailers flag payload plain))

no_trailers_rest : (trailers : Trailers) (flag : ℕ) (rest : List ℕ) → is_trailers flag ≡ false → NoTrailers trailers (settled_by_rest Request flag rest)
unfolding settled_by_rest
no_trailers_rest trailers flag rest plain =
    cond_both (ltb (length rest) 4) more (settled_by_length Request flag (from_be_bytes w32 (take 4 rest)) (drop 4 rest)) (NoTrailers trailers)
    (λ e f. cc) (λ e. no_trailers_length trailers flag (from_be_bytes w32 (take 4 rest)) (drop 4 rest) plain)

-- a request tells no trailers
no_trailers : (trailers : Trailers) (bytes : List ℕ) → NoTrailers trailers (settled_by Request bytes)
unfolding settled_by
no_trailers trailers [] = λ e. cc
no_trailers trailers (flag ∷ rest) =
    cond_both (is_compressed flag) (faulty frame_fault.Compressed) (cond (is_trailers flag) (faulty frame_fault.NoMessage) (settled_by_rest Request flag rest)) (NoTrailers trailers)
    (λ e f. cc)
    (λ e. cond_both (is_trailers flag) (faulty frame_fault.NoMessage) (settled_by_rest Request flag rest) (NoTrailers trailers) (λ f g. cc)
    (λ f. no_trailers_rest trailers flag rest f))

complete_told : (side : Side) (bytes : List ℕ) (event : FrameEvent) → settled_by side bytes ≡ told event
    → is_complete (state_of side bytes (told event)) ≡ true
complete_told Request bytes (event.Message message) e = refl
complete_told Request bytes (event.Trailers trailers) e = absurd (no_trailers trailers bytes e)
complete_told Response bytes (event.Message message) e = refl
complete_told Response bytes (event.Trailers trailers) e = refl

complete_settled : (side : Side) (bytes : List ℕ) (settled : Settled) (event : FrameEvent) → settled_by side bytes ≡ settled → event_of settled ≡ Some event
    → is_complete (state_of side bytes settled) ≡ true
complete_settled side bytes more event e f = absurd (cc)
complete_settled side bytes (told other) event e f = complete_told side bytes other e
complete_settled side bytes (faulty fault) event e f = absurd (cc)

complete_at : (place : FramePlace) (s : FrameState) (b : ℕ) (event : FrameEvent) → frames.event_at place s b ≡ Some event
    → is_complete (frames.step_at place s b) ≡ true
complete_at frame.Open s b event e =
    complete_settled s.side (s.held ++ b ∷ []) (settled_by s.side (s.held ++ b ∷ [])) event refl e
complete_at frame.Whole s b event e = absurd (cc)
complete_at frame.Over s b event e = absurd (cc)
complete_at (frame.Refused fault) s b event e = absurd (cc)

complete_step : (s : FrameState) (b : ℕ) (event : FrameEvent) → frame_event s b ≡ Some event → is_complete (frame_step s b) ≡ true
unfolding frame_step frame_event
complete_step s b event e = complete_at s.place s b event e

one_event : (o : Option FrameEvent) (event : FrameEvent) → option_to_list o ≡ event ∷ [] → o ≡ Some event
one_event None event e = absurd (cc)
one_event (Some other) event e = cc

-- bytes of which the last completes an event leave complete frames
complete_after : (s : FrameState) (front : List ℕ) (b : ℕ) (event : FrameEvent) → frames.events_of s front ≡ []
    → frames.events_of s (front ++ b ∷ []) ≡ event ∷ [] → is_complete (frames.after s (front ++ b ∷ [])) ≡ true
complete_after s front b event none e =
    let last : option_to_list (frame_event (frames.after s front) b) ≡ event ∷ [] =
    sym (machine.events_of-append s front (b ∷ [])
    ∙ ap (λ (first : List FrameEvent). first ++ frames.events_of (frames.after s front) (b ∷ [])) none
    ∙ machine.events_of-one (frames.after s front) b) ∙ e in
    ap is_complete (machine.after-append s front (b ∷ []) ∙ machine.after-one (frames.after s front) b)
    ∙ complete_step (frames.after s front) b event (one_event (frame_event (frames.after s front) b) event last)

-- ---- the parts of a reader

abbrev pub with_parts : Body → FrameState → Content
with_parts body frames = record { body = body; frames = frames }

-- no framing is next where payload is
pub framing_else : (place : BodyPlace) (available : ℕ) → payload_ahead place available ≡ 0 → 0 < available → ends_with_connection place ≡ false
unfolding payload_ahead
framing_else (body.DataByLength left) available none some = refl
framing_else body.DataToEnd available none some = absurd (omega arith)
framing_else (body.ChunkLine at) available none some = refl
framing_else (body.ChunkData left) available none some = refl
framing_else body.ChunkCr available none some = refl
framing_else (body.ChunkLf at) available none some = refl
framing_else (body.Trailers count line) available none some = refl
framing_else body.Over available none some = refl
framing_else (body.Refused fault) available none some = refl

pub not_over : (place : BodyPlace) → is_open place ≡ true → place ≢ body.Over
not_over place going e = false≢true (sym (ap is_open e) ∙ going)

-- a body that was refused
pub refused_body : (old : Body) (piece : List ℕ) (new : Body) (fault : BodyFault) → body_calls.Refuses old piece new fault → new.place ≡ body.Refused fault
refused_body old piece new (body_fault.BadChunk at) x = x.refused
refused_body old piece new body_fault.HeadTooLong x = x.refused
refused_body old piece new body_fault.OutOfMemory x = x

-- frames that were refused
pub refused_frames : (old : FrameState) (piece : List ℕ) (fault : FrameFault) (new : FrameState) → Feeds old piece (Err fault) new
    → (new.place ≡ frame.Refused fault) × (new.side ≡ old.side)
refused_frames old piece fault new x = go fault x
  where
    stopped : (fault : FrameFault) → Stopped old piece fault new → (new.place ≡ frame.Refused fault) × (new.side ≡ old.side)
    stopped fault x = (x.refused, ap (λ (s : FrameState). s.side) x.state ∙ after-side old piece)

    go : (fault : FrameFault) → Feeds old piece (Err fault) new → (new.place ≡ frame.Refused fault) × (new.side ≡ old.side)
    go (frame_fault.FrameTooLong count) x = stopped (frame_fault.FrameTooLong count) x
    go frame_fault.Compressed x = stopped frame_fault.Compressed x
    go frame_fault.AfterMessage x = stopped frame_fault.AfterMessage x
    go frame_fault.AfterTrailers x = stopped frame_fault.AfterTrailers x
    go frame_fault.BadTrailer x = stopped frame_fault.BadTrailer x
    go frame_fault.NoMessage x = stopped frame_fault.NoMessage x
    go frame_fault.OutOfMemory x = (ap (λ (s : FrameState). s.place) x.state, ap (λ (s : FrameState). s.side) x.state)

-- ---- a run of framing

framing_state : (old : Content) (bytes : List ℕ) (new : Body) → new ≡ bodies.after old.body bytes → bodies.payload_after old.body bytes ≡ []
    → (with_parts new old.frames ≡ after old bytes) × (events_of old bytes ≡ [])
framing_state old bytes new state none = (
  ap (λ (b : Body). with_parts b old.frames) state
      ∙ ap (with_parts (bodies.after old.body bytes)) (sym (ap (frames.after old.frames) none ∙ machine.after-nil old.frames))
      ∙ sym (after-parts old bytes),
  events_of-parts old bytes ∙ ap (frames.events_of old.frames) none ∙ machine.events_of-nil old.frames,
)

pub run_framing : (old : Content) (piece : List ℕ) (count : ℕ) (new : Body) → TakesFraming old.body piece new count
    → RunTells old piece count None (with_parts new old.frames)
run_framing old piece count new x =
    let both = framing_state old (take count piece) new x.state x.payload in
    record {
      some = x.some;
      takes = record { within = x.within; state = both.0; counted = x.counted };
      told = both.1;
      first = tt;
      goes_on = tt;
    }

-- what is settled is refused, whichever fault it is
pub refuses_settled : (old : Content) (piece : List ℕ) (fault : WebFault) (new : Content) → Settles old piece fault new → Refuses old piece fault new
refuses_settled old piece fault new x =
    by_cause (Settles old piece fault new) (place_of new ≡ Refused web.OutOfMemory) fault x (λ out. x.refused ∙ ap (λ (f : WebFault). Refused f) out)

pub refuses_framing : (old : Content) (piece : List ℕ) (new : Body) (fault : BodyFault) → IsGood old.frames.place
    → body_calls.Refuses old.body piece new fault → Refuses old piece (fault_of_body fault) (with_parts new old.frames)
refuses_framing old piece new fault good x = go fault x
  where
    settles : (fault : BodyFault) → body_calls.IsFaulty old.body piece new fault → Settles old piece (fault_of_body fault) (with_parts new old.frames)
    settles fault x =
        let both = framing_state old piece new x.state x.payload in
        let refused = place-bad_body (with_parts new old.frames) fault good x.refused in
        record { settled = ap place_of (sym both.0) ∙ refused; silent = both.1; refused = refused }

    go : (fault : BodyFault) → body_calls.Refuses old.body piece new fault → Refuses old piece (fault_of_body fault) (with_parts new old.frames)
    go (body_fault.BadChunk at) x = settles (body_fault.BadChunk at) x
    go body_fault.HeadTooLong x = settles body_fault.HeadTooLong x
    go body_fault.OutOfMemory x = place-bad_body (with_parts new old.frames) body_fault.OutOfMemory good x

-- ---- a run of payload

-- so many bytes are taken where there is an event, or where there are some
pub some_taken : (old : FrameState) (piece : List ℕ) (count : ℕ) (event : Option FrameEvent) (new : FrameState) → Took old piece count event new
    → 0 < length piece → 0 < count
some_taken old piece count None new x some = let all = x.all in omega arith
some_taken old piece zero (Some event) new x some = let tells = x.tells in let none = machine.events_of-nil old in absurd (cc)
some_taken old piece (suc n) (Some event) new x some = omega arith

payload_state : (old : Content) (bytes : List ℕ) (left : Body) (state : FrameState) → left ≡ bodies.after old.body bytes
    → bodies.payload_after old.body bytes ≡ bytes → state ≡ frames.after old.frames bytes → with_parts left state ≡ after old bytes
payload_state old bytes left state e payload f =
    ap (λ (b : Body). with_parts b state) e
    ∙ ap (with_parts (bodies.after old.body bytes)) (f ∙ ap (frames.after old.frames) (sym payload))
    ∙ sym (after-parts old bytes)

-- all but the last of so many bytes, and the last
one_of : (piece : List ℕ) → 0 < length piece → (b : ℕ) × (take 1 piece ≡ b ∷ [])
one_of [] some = absurd (omega arith)
one_of (b ∷ piece) some = (b, refl)

pub last_of : (piece : List ℕ) (count : ℕ) → 0 < count → count ≤ length piece → (b : ℕ) × (take count piece ≡ take (count - 1) piece ++ b ∷ [])
last_of piece count some within =
    let one = one_of (drop (count - 1) piece) (omega (arith, length-drop (count - 1) piece)) in
    let whole : count - 1 + 1 ≡ count = omega arith in
    (one.0, ap (λ (n : ℕ). take n piece) (sym whole) ∙ take-add (count - 1) 1 piece ∙ ap (λ (last : List ℕ). take (count - 1) piece ++ last) one.1)

-- where the frames are complete, the whole isn't refused
goes_on_by : (at : FramePlace) (here : BodyPlace) (s : FrameState) (place : ContentPlace) → Standing at here s place → IsGood at
    → ((fault : BodyFault) → here ≢ body.Refused fault) → is_complete s ≡ true → (fault : WebFault) → place ≢ Refused fault
goes_on_by at here s place (going_on good going is) fine sound complete fault e = cc
goes_on_by at here s place (over good ended whole is) fine sound complete fault e = cc
goes_on_by at here s place (too_early good ended part is) fine sound complete fault e = absurd (false≢true (sym part ∙ complete))
goes_on_by at here s place (bad_body found good refused is) fine sound complete fault e = absurd (sound found refused)
goes_on_by at here s place (bad_frames found refused is) fine sound complete fault e = absurd (fine found refused)

goes_on_with : (old : FrameState) (payload : List ℕ) (count : ℕ) (event : Option FrameEvent) (left : Body) (new : FrameState)
    → Took old payload count event new → 0 < count → ((fault : BodyFault) → left.place ≢ body.Refused fault)
    → OnSome event ((fault : WebFault) → place_of (with_parts left new) ≢ Refused fault)
goes_on_with old payload count None left new x some sound = tt
goes_on_with old payload count (Some event) left new x some sound =
    let last = last_of payload count some x.within in
    let complete : is_complete (frames.after old (take (count - 1) payload ++ last.0 ∷ [])) ≡ true =
    complete_after old (take (count - 1) payload) last.0 event x.first (ap (frames.events_of old) (sym last.1) ∙ x.tells) in
    λ fault. goes_on_by new.place left.place new (place_of (with_parts left new)) (standing (with_parts left new)) x.goes_on sound
    (ap is_complete (x.state ∙ ap (frames.after old) last.1) ∙ complete) fault

first_with : (old : Content) (bytes : List ℕ) (event : Option FrameEvent) → OnSome event (frames.events_of old.frames bytes ≡ [])
    → bodies.payload_after old.body bytes ≡ bytes → OnSome event (events_of old bytes ≡ [])
first_with old bytes None first payload = tt
first_with old bytes (Some event) first payload = events_of-parts old bytes ∙ ap (frames.events_of old.frames) payload ∙ first

pub run_payload : (old : Content) (payload : List ℕ) (count : ℕ) (event : Option FrameEvent) (left : Body) (new : FrameState)
    → 0 < length payload → Took old.frames payload count event new
    → ((bytes : List ℕ) → length bytes ≤ length payload → bodies.payload_after old.body bytes ≡ bytes)
    → ((bytes : List ℕ) → length bytes ≡ count → TakesPayload old.body bytes left)
    → ((fault : BodyFault) → left.place ≢ body.Refused fault)
    → RunTells old payload count event (with_parts left new)
run_payload old payload count event left new some x all takes sound =
    let within = x.within in
    let whole : length (take count payload) ≡ count = length-take-le count payload within in
    let taken = takes (take count payload) whole in
    let shorter : length (take (count - 1) payload) ≡ count - 1 = length-take-le (count - 1) payload (omega arith) in
    record {
      some = some_taken old.frames payload count event new x some;
      takes = record {
        within = within;
        state = payload_state old (take count payload) left new taken.state taken.payload x.state;
        counted = taken.counted ∙ ap (λ (n : ℕ). old.body.count + n) whole;
      };
      told = events_of-parts old (take count payload) ∙ ap (frames.events_of old.frames) taken.payload ∙ x.tells;
      first = first_with old (take (count - 1) payload) event x.first (all (take (count - 1) payload) (omega arith));
      goes_on = goes_on_with old.frames payload count event left new x (some_taken old.frames payload count event new x some) sound;
    }

pub refuses_payload : (old : Content) (payload : List ℕ) (fault : FrameFault) (new : FrameState) → bodies.payload_after old.body payload ≡ payload
    → Feeds old.frames payload (Err fault) new → Refuses old payload (fault_of_frames fault) (with_parts old.body new)
refuses_payload old payload fault new all x = go fault x
  where
    settles : (fault : FrameFault) → Stopped old.frames payload fault new → Settles old payload (fault_of_frames fault) (with_parts old.body new)
    settles fault x =
        let same : frames.after old.frames (bodies.payload_after old.body payload) ≡ new = ap (frames.after old.frames) all ∙ sym x.state in
        record {
          settled = ap place_of (after-parts old payload)
              ∙ place-bad_frames (parts old payload) fault (ap (λ (s : FrameState). s.place) same ∙ x.refused);
          silent = events_of-parts old payload ∙ ap (frames.events_of old.frames) all ∙ x.silent;
          refused = place-bad_frames (with_parts old.body new) fault x.refused;
        }

    go : (fault : FrameFault) → Feeds old.frames payload (Err fault) new → Refuses old payload (fault_of_frames fault) (with_parts old.body new)
    go (frame_fault.FrameTooLong count) x = settles (frame_fault.FrameTooLong count) x
    go frame_fault.Compressed x = settles frame_fault.Compressed x
    go frame_fault.AfterMessage x = settles frame_fault.AfterMessage x
    go frame_fault.AfterTrailers x = settles frame_fault.AfterTrailers x
    go frame_fault.BadTrailer x = settles frame_fault.BadTrailer x
    go frame_fault.NoMessage x = settles frame_fault.NoMessage x
    go frame_fault.OutOfMemory x = place-bad_frames (with_parts old.body new) frame_fault.OutOfMemory (ap (λ (s : FrameState). s.place) x.state)

-- ---- a run of a part of the piece

refuses_more : (old : Content) (front back : List ℕ) (fault : WebFault) (new : Content) → Refuses old front fault new → Refuses old (front ++ back) fault new
refuses_more old front back fault new x =
    for_cause (Settles old front fault new) (place_of new ≡ Refused web.OutOfMemory) (Settles old (front ++ back) fault new)
    (place_of new ≡ Refused web.OutOfMemory) fault longer (λ out spent. spent) x
  where
    longer : Settles old front fault new → Settles old (front ++ back) fault new
    longer x =
        let stays = refused-stays (after old front) back fault x.settled in
        record {
          settled = ap place_of (after-append old front back) ∙ stays.0;
          silent = events_of-append old front back ∙ ap (λ (rest : List FrameEvent). events_of old front ++ rest) stays.1
              ∙ append-nil (events_of old front) ∙ x.silent;
          refused = x.refused;
        }

first_part : (old : Content) (piece : List ℕ) (count n : ℕ) (event : Option FrameEvent) → n ≤ count → count ≤ length piece
    → OnSome event (events_of old (take (n - 1) (take count piece)) ≡ []) → OnSome event (events_of old (take (n - 1) piece) ≡ [])
first_part old piece count n None fits within first = tt
first_part old piece count n (Some event) fits within first = ap (events_of old) (sym (take-take (n - 1) count piece (omega arith))) ∙ first

pub run_part : (old : Content) (piece : List ℕ) (count : ℕ) (result : Result (ℕ × Option FrameEvent) WebFault) (new : Content) → count ≤ length piece
    → TakesRun old (take count piece) result new → TakesRun old piece result new
run_part old piece count (Ok answer) new within x =
    let n = answer.0 in
    let takes = x.takes in
    let inside = takes.within in
    let fits : n ≤ count = let whole = length-take-le count piece within in omega arith in
    let same = take-take n count piece fits in
    record {
      some = x.some;
      takes = record { within = omega arith; state = takes.state ∙ ap (after old) same; counted = takes.counted };
      told = ap (events_of old) (sym same) ∙ x.told;
      first = first_part old piece count n answer.1 fits within x.first;
      goes_on = x.goes_on;
    }
run_part old piece count (Err fault) new within x =
    subst (λ (p : List ℕ). Refuses old p fault new) (take-append-drop count piece) (refuses_more old (take count piece) (drop count piece) fault new x)

-- ---- a piece in runs

-- so many bytes were taken, and they told nothing
pub record SoFar (old : Content) (piece : List ℕ) (now : Content) (taken : ℕ) : Type 0 where
  pub takes : Takes old piece taken now
  pub silent : events_of old (take taken piece) ≡ []

pub none_so_far : (old : Content) (piece : List ℕ) → SoFar old piece old 0
none_so_far old piece = record {
  takes = record { within = omega arith; state = sym (after-nil old); counted = omega arith };
  silent = events_of-nil old;
}

-- a run more
takes_more : (old : Content) (piece : List ℕ) (now next : Content) (taken count : ℕ) → Takes old piece taken now → Takes now (drop taken piece) count next
    → Takes old piece (taken + count) next
takes_more old piece now next taken count x y =
    let parts = take-add taken count piece in record {
      within = let before = x.within in let within = y.within in omega (arith, length-drop taken piece);
      state = y.state ∙ ap (λ (c : Content). after c (take count (drop taken piece))) x.state
          ∙ sym (after-append old (take taken piece) (take count (drop taken piece))) ∙ ap (after old) (sym parts);
      counted = let before = x.counted in let counted = y.counted in omega arith;
    }

told_more : (old : Content) (piece : List ℕ) (now : Content) (taken count : ℕ) → SoFar old piece now taken
    → events_of old (take (taken + count) piece) ≡ events_of now (take count (drop taken piece))
told_more old piece now taken count x =
    ap (events_of old) (take-add taken count piece)
    ∙ events_of-append old (take taken piece) (take count (drop taken piece))
    ∙ ap (λ (first : List FrameEvent). first ++ events_of (after old (take taken piece)) (take count (drop taken piece))) x.silent
    ∙ ap (λ (c : Content). events_of c (take count (drop taken piece))) (sym x.takes.state)

pub more_so_far : (old : Content) (piece : List ℕ) (now next : Content) (taken count : ℕ) → SoFar old piece now taken
    → RunTells now (drop taken piece) count None next → SoFar old piece next (taken + count)
more_so_far old piece now next taken count x y = record {
  takes = takes_more old piece now next taken count x.takes y.takes;
  silent = told_more old piece now taken count x ∙ y.told;
}

-- a run that tells an event
tells_run : (old : Content) (piece : List ℕ) (now next : Content) (taken count : ℕ) (event : FrameEvent) → SoFar old piece now taken
    → RunTells now (drop taken piece) count (Some event) next → Tells old piece (taken + count) event next
tells_run old piece now next taken count event x y =
    let some = y.some in
    let less : taken + count - 1 ≡ taken + (count - 1) = omega arith in
    record {
      takes = takes_more old piece now next taken count x.takes y.takes;
      told = told_more old piece now taken count x ∙ y.told;
      first = ap (λ (n : ℕ). events_of old (take n piece)) less ∙ told_more old piece now taken (count - 1) x ∙ y.first;
      goes_on = y.goes_on;
    }

pub gives_run : (old : Content) (piece : List ℕ) (now next : Content) (taken count : ℕ) (event : FrameEvent) → SoFar old piece now taken
    → RunTells now (drop taken piece) count (Some event) next → Gives old piece (taken + count) (Some (told_of event)) next
gives_run old piece now next taken count (event.Message message) x y = tells_run old piece now next taken count (event.Message message) x y
gives_run old piece now next taken count (event.Trailers trailers) x y = tells_run old piece now next taken count (event.Trailers trailers) x y

-- a run that is refused
pub refuses_run : (old : Content) (piece : List ℕ) (now next : Content) (taken : ℕ) (fault : WebFault) → SoFar old piece now taken
    → Refuses now (drop taken piece) fault next → Refuses old piece fault next
refuses_run old piece now next taken fault x y =
    for_cause (Settles now (drop taken piece) fault next) (place_of next ≡ Refused web.OutOfMemory) (Settles old piece fault next)
    (place_of next ≡ Refused web.OutOfMemory) fault settles (λ out spent. spent) y
  where
    settles : Settles now (drop taken piece) fault next → Settles old piece fault next
    settles y =
        let parts = take-append-drop taken piece in
        record {
          settled = ap (λ (p : List ℕ). place_of (after old p)) (sym parts)
              ∙ ap place_of (after-append old (take taken piece) (drop taken piece) ∙ ap (λ (c : Content). after c (drop taken piece)) (sym x.takes.state))
              ∙ y.settled;
          silent = ap (events_of old) (sym parts) ∙ events_of-append old (take taken piece) (drop taken piece)
              ∙ ap (λ (first : List FrameEvent). first ++ events_of (after old (take taken piece)) (drop taken piece)) x.silent
              ∙ ap (λ (c : Content). events_of c (drop taken piece)) (sym x.takes.state) ∙ y.silent;
          refused = y.refused;
        }

-- ---- the end of a piece

leads_to : (old : Content) (piece : List ℕ) (now : Content) (taken : ℕ) (place : ContentPlace) → SoFar old piece now taken → place_of now ≡ place
    → Leads old piece taken place now
leads_to old piece now taken place x e = record { takes = x.takes; silent = x.silent; place_is = e }

pub gives_all : (old : Content) (piece : List ℕ) (now : Content) (taken : ℕ) → SoFar old piece now taken → place_of now ≡ Open → taken ≡ length piece
    → Gives old piece taken None now
gives_all old piece now taken x e all = (all, leads_to old piece now taken Open x e)

pub gives_end : (old : Content) (piece : List ℕ) (now : Content) (taken : ℕ) → SoFar old piece now taken → place_of now ≡ Over
    → Gives old piece taken (Some content_event.End) now
gives_end old piece now taken x e = leads_to old piece now taken Over x e

pub refuses_now : (old : Content) (piece : List ℕ) (now : Content) (taken : ℕ) (fault : WebFault) → SoFar old piece now taken → place_of now ≡ Refused fault
    → Refuses old piece fault now
refuses_now old piece now taken fault x e =
    let stays = refused-stays now (drop taken piece) fault e in
    refuses_run old piece now now taken fault x
    (refuses_settled now (drop taken piece) fault now (record { settled = stays.0; silent = stays.1; refused = e }))

-- ---- what every answer takes

pub taken_within : (old : Content) (piece : List ℕ) (result : Result (ℕ × Option ContentEvent) WebFault) (new : Content) → TakesPiece old piece result new
    → IfOk result (λ answer. answer.0 ≤ length piece)
taken_within old piece (Ok (count, None)) new x = let takes = x.1.takes in takes.within
taken_within old piece (Ok (count, Some (content_event.Message message))) new x = x.takes.within
taken_within old piece (Ok (count, Some (content_event.Trailers trailers))) new x = x.takes.within
taken_within old piece (Ok (count, Some content_event.End)) new x = x.takes.within
taken_within old piece (Err fault) new x = tt

pub taken_counted : (old : Content) (piece : List ℕ) (result : Result (ℕ × Option ContentEvent) WebFault) (new : Content) → TakesPiece old piece result new
    → IfOk result (λ answer. new.body.count ≡ old.body.count + answer.0)
taken_counted old piece (Ok (count, None)) new x = let takes = x.1.takes in takes.counted
taken_counted old piece (Ok (count, Some (content_event.Message message))) new x = x.takes.counted
taken_counted old piece (Ok (count, Some (content_event.Trailers trailers))) new x = x.takes.counted
taken_counted old piece (Ok (count, Some content_event.End)) new x = x.takes.counted
taken_counted old piece (Err fault) new x = tt
