-- Bytes of the framing, one after another, up to where payload begins, the body is over or it is refused.
use Rattle.std.proofs.Common.{◌≡◌, ◌≢◌, ℕ, ◌+◌, ◌<◌, ◌≤◌, false, cond, eqb, ltb, List, [], ◌∷◌, ◌++◌, length, take, drop, get_or, refl, sym, ap, ◌∙◌, arith, append-nil, ◌⊎◌, inr, take-append-drop}
use Rattle.std.specs.Prelude.{IsTrue}
use Rattle.std.proofs.lemmas.Bool.{cond-false, cond_both}
use Rattle.std.proofs.lemmas.List.{take_more}
use Rattle.web_heads.specs.ChunkLines.{chunk_size}
use Rattle.web_bodies.specs.declared.fault.BodyFault.{BodyFault}
use Rattle.web_bodies.specs.declared.fault.BodyFault.TheVariants.{BadChunk, HeadTooLong, OutOfMemory}
use Rattle.web_bodies.specs.declared.place.BodyPlace.{BodyPlace}
use Rattle.web_bodies.specs.declared.place.BodyPlace.TheVariants.{DataByLength, DataToEnd, ChunkLine, ChunkData, ChunkCr, ChunkLf, Trailers, Over, Refused}
use Rattle.web_bodies.specs.Body.{Body, IsReached}
use Rattle.web_bodies.specs.Steps.{line_place, line_step, step_at, body_step, awaits_payload, emitted, after, payload_after}
use Rattle.web_bodies.specs.Calls.{payload_ahead, TakesFraming, IsFaulty, Refuses}
use Rattle.web_bodies.proofs.Ahead.{no_payload_ahead}
use Rattle.web_bodies.proofs.Runs.{after-append, after-cons, after-nil, payload_after-append, payload_after-nil, after-Refused}

-- one byte is counted once, unless the body is over or refused
count-line_step : (at : ℕ) (body : Body) (b : ℕ) → (line_step at body b).count ≡ body.count + 1
unfolding line_step
count-line_step at body b =
    let P : Body → Type 0 = λ next. next.count ≡ body.count + 1 in
    let line = body.line ++ b ∷ [] in
    let ended : Body = record { place = line_place at (chunk_size line); count = body.count + 1; line = [] } in
    let refused : Body = record { place = Refused (BadChunk at); count = body.count + 1; line = [] } in
    let next : Body = record { place = ChunkLine at; count = body.count + 1; line = line } in
    cond_both (eqb b 10) ended (cond (ltb 256 (length line)) refused next) P (λ _. refl)
    (λ _. cond_both (ltb 256 (length line)) refused next P (λ _. refl) (λ _. refl))

count-step_at : (place : BodyPlace) (body : Body) (b : ℕ) → place ≢ Over → ((fault : BodyFault) → place ≢ Refused fault)
    → (step_at place body b).count ≡ body.count + 1
unfolding step_at
count-step_at (DataByLength left) body b not_over not_refused = refl
count-step_at DataToEnd body b not_over not_refused = refl
count-step_at (ChunkLine at) body b not_over not_refused = count-line_step at body b
count-step_at (ChunkData left) body b not_over not_refused = refl
count-step_at ChunkCr body b not_over not_refused = refl
count-step_at (ChunkLf at) body b not_over not_refused = refl
count-step_at (Trailers count line) body b not_over not_refused = refl
count-step_at Over body b not_over not_refused = absurd (not_over refl)
count-step_at (Refused fault) body b not_over not_refused = absurd (not_refused fault refl)

pub count-body_step : (body : Body) (b : ℕ) → body.place ≢ Over → ((fault : BodyFault) → body.place ≢ Refused fault)
    → (body_step body b).count ≡ body.count + 1
unfolding body_step
count-body_step body b not_over not_refused = count-step_at body.place body b not_over not_refused

-- and never more than once
counted_once : (place : BodyPlace) (body : Body) (b : ℕ) → (step_at place body b).count ≤ body.count + 1
unfolding step_at
counted_once (DataByLength left) body b = omega arith
counted_once DataToEnd body b = omega arith
counted_once (ChunkLine at) body b = let counted = count-line_step at body b in omega arith
counted_once (ChunkData left) body b = omega arith
counted_once ChunkCr body b = omega arith
counted_once (ChunkLf at) body b = omega arith
counted_once (Trailers count line) body b = omega arith
counted_once Over body b = omega arith
counted_once (Refused fault) body b = omega arith

pub count-after : (body : Body) (bytes : List ℕ) → (after body bytes).count ≤ body.count + length bytes
unfolding after body_step
count-after body [] = omega arith
count-after body (b ∷ bytes) =
    let one = counted_once body.place body b in
    let others = count-after (body_step body b) bytes in
    omega arith

-- so many bytes of a piece were taken, and the body goes on with framing
pub record TakenSoFar (old : Body) (piece : List ℕ) (now : Body) (index : ℕ) : Type 0 where
  pub state : now ≡ after old (take index piece)
  pub payload : payload_after old (take index piece) ≡ []
  pub not_over : now.place ≢ Over
  pub not_refused : (fault : BodyFault) → now.place ≢ Refused fault
  pub framing : awaits_payload now.place ≡ false
  pub counted : now.count ≡ old.count + index

pub taken_none : (old : Body) (piece : List ℕ) → 0 < length piece → payload_ahead old.place (length piece) ≡ 0 → IsReached old.place
    → old.place ≢ Over → ((fault : BodyFault) → old.place ≢ Refused fault) → TakenSoFar old piece old 0
taken_none old piece some none reached not_over not_refused = record {
  state = sym (after-nil old);
  payload = payload_after-nil old;
  not_over = not_over;
  not_refused = not_refused;
  framing = no_payload_ahead old.place (length piece) some none reached;
  counted = omega arith;
}

-- one byte more leads one step on, and is no payload
pub state_more : (old : Body) (piece : List ℕ) (now : Body) (index : ℕ) → TakenSoFar old piece now index → index < length piece
    → after old (take (index + 1) piece) ≡ body_step now (get_or piece index 0)
state_more old piece now index so_far within =
    let b = get_or piece index 0 in
    ap (after old) (take_more piece index 0 within) ∙ after-append old (take index piece) (b ∷ [])
    ∙ ap (λ (c : Body). after c (b ∷ [])) (sym so_far.state) ∙ after-cons now b [] ∙ after-nil (body_step now b)

payload-one : (now : Body) (b : ℕ) → awaits_payload now.place ≡ false → payload_after now (b ∷ []) ≡ []
unfolding payload_after emitted
payload-one now b framing = append-nil (emitted now b) ∙ cond-false (awaits_payload now.place) (b ∷ []) [] framing

pub payload_more : (old : Body) (piece : List ℕ) (now : Body) (index : ℕ) → TakenSoFar old piece now index → index < length piece
    → payload_after old (take (index + 1) piece) ≡ []
payload_more old piece now index so_far within =
    let b = get_or piece index 0 in
    ap (payload_after old) (take_more piece index 0 within) ∙ payload_after-append old (take index piece) (b ∷ [])
    ∙ ap (λ (front : List ℕ). front ++ payload_after (after old (take index piece)) (b ∷ [])) so_far.payload
    ∙ ap (λ (c : Body). payload_after c (b ∷ [])) (sym so_far.state) ∙ payload-one now b so_far.framing

count_more : (old : Body) (piece : List ℕ) (now : Body) (index : ℕ) (next : Body) → TakenSoFar old piece now index
    → next ≡ body_step now (get_or piece index 0) → next.count ≡ old.count + (index + 1)
count_more old piece now index next so_far step =
    let counted = count-body_step now (get_or piece index 0) so_far.not_over so_far.not_refused in
    let before = so_far.counted in
    let same = ap (λ (c : Body). c.count) step in
    omega arith

pub taken_more : (old : Body) (piece : List ℕ) (now : Body) (index : ℕ) (next : Body) → TakenSoFar old piece now index → index < length piece
    → next ≡ body_step now (get_or piece index 0) → next.place ≢ Over → ((fault : BodyFault) → next.place ≢ Refused fault)
    → awaits_payload next.place ≡ false → TakenSoFar old piece next (index + 1)
taken_more old piece now index next so_far within step not_over not_refused framing = record {
  state = step ∙ sym (state_more old piece now index so_far within);
  payload = payload_more old piece now index so_far within;
  not_over = not_over;
  not_refused = not_refused;
  framing = framing;
  counted = count_more old piece now index next so_far step;
}

-- the last byte of framing before payload or the end
pub taken_up_to : (old : Body) (piece : List ℕ) (now : Body) (index : ℕ) (next : Body) → TakenSoFar old piece now index → index < length piece
    → next ≡ body_step now (get_or piece index 0) → ((fault : BodyFault) → next.place ≢ Refused fault)
    → (next.place ≡ Over) ⊎ IsTrue (awaits_payload next.place) → TakesFraming old piece next (index + 1)
taken_up_to old piece now index next so_far within step not_refused ends = record {
  some = omega arith;
  within = omega arith;
  state = step ∙ sym (state_more old piece now index so_far within);
  payload = payload_more old piece now index so_far within;
  counted = count_more old piece now index next so_far step;
  not_refused = not_refused;
  ends = inr ends;
}

-- ---- refusals

pub refuses_faulty : (old : Body) (piece : List ℕ) (new : Body) (fault : BodyFault) → IsFaulty old piece new fault → Refuses old piece new fault
refuses_faulty old piece new (BadChunk at) faulty = faulty
refuses_faulty old piece new HeadTooLong faulty = faulty
refuses_faulty old piece new OutOfMemory faulty = faulty.refused

-- a body that was refused before
pub faulty_before : (old : Body) (piece : List ℕ) (fault : BodyFault) → old.place ≡ Refused fault → IsFaulty old piece old fault
faulty_before old piece fault e =
    let stays = after-Refused old piece fault e in
    record { state = sym stays.0; payload = stays.1; refused = e }

-- a byte that leads to a fault
pub faulty_at : (old : Body) (piece : List ℕ) (now : Body) (index : ℕ) (next : Body) (fault : BodyFault) → TakenSoFar old piece now index
    → index < length piece → next ≡ body_step now (get_or piece index 0) → next.place ≡ Refused fault → IsFaulty old piece next fault
faulty_at old piece now index next fault so_far within step refused =
    let rest = drop (index + 1) piece in
    let reached : after old (take (index + 1) piece) ≡ next = state_more old piece now index so_far within ∙ sym step in
    let stays = after-Refused next rest fault refused in
    let parts : piece ≡ take (index + 1) piece ++ rest = sym (take-append-drop (index + 1) piece) in
    record {
      state = sym (ap (after old) parts ∙ after-append old (take (index + 1) piece) rest ∙ ap (λ (c : Body). after c rest) reached ∙ stays.0);
      payload =
          ap (payload_after old) parts ∙ payload_after-append old (take (index + 1) piece) rest
          ∙ ap (λ (front : List ℕ). front ++ payload_after (after old (take (index + 1) piece)) rest) (payload_more old piece now index so_far within)
          ∙ ap (λ (c : Body). payload_after c rest) reached ∙ stays.1;
      refused = refused;
    }
