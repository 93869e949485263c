-- The machine over several bytes: pieces one after another, runs of payload, and the ends that stay.
use Rattle.std.proofs.Common.{◌≡◌, ℕ, ◌+◌, ◌-◌, ◌<◌, ◌≤◌, eqb, List, [], ◌∷◌, ◌++◌, length, refl, sym, ap, ◌∙◌, subst, arith, append_assoc, add-zero}
use Rattle.std.proofs.lemmas.Bool.{ne_eqb, cond-true, cond-false}
use Rattle.std.specs.Prelude.{IsTrue}
use Rattle.std.proofs.Math.Nat.{sub-zero}
use Rattle.std.proofs.lemmas.List.Sums.{fold-append}
use Rattle.web_bodies.specs.declared.fault.BodyFault.{BodyFault}
use Rattle.web_bodies.specs.declared.place.BodyPlace.{BodyPlace}
use Rattle.web_bodies.specs.declared.place.BodyPlace.TheVariants.{DataByLength, DataToEnd, ChunkData, ChunkCr, Over, Refused}
use Rattle.web_bodies.specs.Body.{Body}
use Rattle.web_bodies.specs.Steps.{length_place, data_place, step_at, body_step, awaits_payload, emitted, after, payload_after}
use Rattle.web_bodies.specs.Calls.{TakesPayload}

-- ---- pieces one after another

pub after-append : (body : Body) (front back : List ℕ) → after body (front ++ back) ≡ after (after body front) back
unfolding after
after-append body front back = fold-append body_step body front back

pub after-cons : (body : Body) (b : ℕ) (bytes : List ℕ) → after body (b ∷ bytes) ≡ after (body_step body b) bytes
unfolding after
after-cons body b bytes = refl

pub after-nil : (body : Body) → after body [] ≡ body
unfolding after
after-nil body = refl

pub payload_after-append : (body : Body) (front back : List ℕ)
    → payload_after body (front ++ back) ≡ payload_after body front ++ payload_after (after body front) back
unfolding after payload_after
payload_after-append body [] back = refl
payload_after-append body (b ∷ front) back =
    ap (λ (rest : List ℕ). emitted body b ++ rest) (payload_after-append (body_step body b) front back)
    ∙ sym (append_assoc (emitted body b) (payload_after (body_step body b) front) (payload_after (after (body_step body b) front) back))

pub payload_after-nil : (body : Body) → payload_after body [] ≡ []
unfolding payload_after
payload_after-nil body = refl

-- ---- ends that stay

-- a body at a place, by that place
pub at_place : (body : Body) (place : BodyPlace) → body.place ≡ place → body ≡ record { place = place; count = body.count; line = body.line }
at_place body place e = ap (λ (p : BodyPlace). record { place = p; count = body.count; line = body.line }) e

-- what is over stays over, and what is refused stays refused, without payload
over_stays : (count : ℕ) (line bytes : List ℕ) → let body : Body = record { place = Over; count = count; line = line } in
    (after body bytes ≡ body) × (payload_after body bytes ≡ [])
unfolding after payload_after body_step step_at emitted awaits_payload
over_stays count line [] = (refl, refl)
over_stays count line (b ∷ bytes) = over_stays count line bytes

refused_stays : (fault : BodyFault) (count : ℕ) (line bytes : List ℕ) → let body : Body = record { place = Refused fault; count = count; line = line } in
    (after body bytes ≡ body) × (payload_after body bytes ≡ [])
unfolding after payload_after body_step step_at emitted awaits_payload
refused_stays fault count line [] = (refl, refl)
refused_stays fault count line (b ∷ bytes) = refused_stays fault count line bytes

pub after-Over : (body : Body) (bytes : List ℕ) → body.place ≡ Over → (after body bytes ≡ body) × (payload_after body bytes ≡ [])
after-Over body bytes e =
    subst (λ (b : Body). (after b bytes ≡ b) × (payload_after b bytes ≡ [])) (sym (at_place body Over e)) (over_stays body.count body.line bytes)

pub after-Refused : (body : Body) (bytes : List ℕ) (fault : BodyFault) → body.place ≡ Refused fault
    → (after body bytes ≡ body) × (payload_after body bytes ≡ [])
after-Refused body bytes fault e =
    subst (λ (b : Body). (after b bytes ≡ b) × (payload_after b bytes ≡ [])) (sym (at_place body (Refused fault) e))
    (refused_stays fault body.count body.line bytes)

-- ---- runs of payload

pub length_place-left : (left : ℕ) → 0 < left → length_place left ≡ DataByLength left
unfolding length_place
length_place-left left some = cond-false (eqb left 0) Over (DataByLength left) (ne_eqb left 0 (λ e. omega arith))

pub data_place-left : (left : ℕ) → 0 < left → data_place left ≡ ChunkData left
unfolding data_place
data_place-left left some = cond-false (eqb left 0) ChunkCr (ChunkData left) (ne_eqb left 0 (λ e. omega arith))

-- one byte of payload, and then others
payload_more : (body : Body) (b : ℕ) (bytes : List ℕ) (next new : Body) → IsTrue (awaits_payload body.place) → body_step body b ≡ next
    → next.count ≡ body.count + 1 → TakesPayload next bytes new → TakesPayload body (b ∷ bytes) new
unfolding after payload_after emitted
payload_more body b bytes next new payload step one rest = record {
  state = rest.state ∙ ap (λ (c : Body). after c bytes) (sym step);
  payload =
      ap (λ (front : List ℕ). front ++ payload_after (body_step body b) bytes) (cond-true (awaits_payload body.place) (b ∷ []) [] payload)
      ∙ ap (λ (rest : List ℕ). b ∷ rest) (ap (λ (c : Body). payload_after c bytes) step ∙ rest.payload);
  counted = let counted = rest.counted in omega arith;
}

pub no_payload : (body : Body) → TakesPayload body [] body
unfolding after payload_after
no_payload body = record { state = refl; payload = refl; counted = sym (add-zero body.count) }

-- so many bytes of a body by length, of which at least as many are left
-- the step of one byte of it
step-DataByLength : (left count : ℕ) (line : List ℕ) (b : ℕ) → body_step (record { place = DataByLength left; count = count; line = line }) b
    ≡ record { place = length_place (left - 1); count = count + 1; line = line }
unfolding body_step step_at
step-DataByLength left count line b = refl

awaits-DataByLength : (left : ℕ) → IsTrue (awaits_payload (DataByLength left))
unfolding awaits_payload
awaits-DataByLength left = refl

pub after-length_place : (left count : ℕ) (line bytes : List ℕ) → length bytes ≤ left
    → TakesPayload (record { place = length_place left; count = count; line = line }) bytes
    (record { place = length_place (left - length bytes); count = count + length bytes; line = line })
after-length_place left count line [] fits =
    rw (sub-zero left, add-zero count) (no_payload (record { place = length_place left; count = count; line = line }))
after-length_place left count line (b ∷ bytes) fits =
    let some : 0 < left = omega arith in
    let less : left - 1 - length bytes ≡ left - length (b ∷ bytes) = omega arith in
    let more : count + 1 + length bytes ≡ count + length (b ∷ bytes) = omega arith in
    rw (length_place-left left some) (payload_more (record { place = DataByLength left; count = count; line = line }) b bytes
    (record { place = length_place (left - 1); count = count + 1; line = line }) (record { place = length_place (left - length (b ∷ bytes)); count = count + length (b ∷ bytes); line = line })
    (awaits-DataByLength left) (step-DataByLength left count line b) refl
    (rw (less, more) at (after-length_place (left - 1) (count + 1) line bytes (omega arith))))

-- the same in the data of a chunk
step-ChunkData : (left count : ℕ) (line : List ℕ) (b : ℕ) → body_step (record { place = ChunkData left; count = count; line = line }) b
    ≡ record { place = data_place (left - 1); count = count + 1; line = line }
unfolding body_step step_at
step-ChunkData left count line b = refl

awaits-ChunkData : (left : ℕ) → IsTrue (awaits_payload (ChunkData left))
unfolding awaits_payload
awaits-ChunkData left = refl

pub after-data_place : (left count : ℕ) (line bytes : List ℕ) → length bytes ≤ left
    → TakesPayload (record { place = data_place left; count = count; line = line }) bytes
    (record { place = data_place (left - length bytes); count = count + length bytes; line = line })
after-data_place left count line [] fits =
    rw (sub-zero left, add-zero count) (no_payload (record { place = data_place left; count = count; line = line }))
after-data_place left count line (b ∷ bytes) fits =
    let some : 0 < left = omega arith in
    let less : left - 1 - length bytes ≡ left - length (b ∷ bytes) = omega arith in
    let more : count + 1 + length bytes ≡ count + length (b ∷ bytes) = omega arith in
    rw (data_place-left left some) (payload_more (record { place = ChunkData left; count = count; line = line }) b bytes
    (record { place = data_place (left - 1); count = count + 1; line = line })
    (record { place = data_place (left - length (b ∷ bytes)); count = count + length (b ∷ bytes); line = line })
    (awaits-ChunkData left) (step-ChunkData left count line b) refl
    (rw (less, more) at (after-data_place (left - 1) (count + 1) line bytes (omega arith))))

-- and in a body that ends with the connection
step-DataToEnd : (count : ℕ) (line : List ℕ) (b : ℕ) → body_step (record { place = DataToEnd; count = count; line = line }) b
    ≡ record { place = DataToEnd; count = count + 1; line = line }
unfolding body_step step_at
step-DataToEnd count line b = refl

awaits-DataToEnd : IsTrue (awaits_payload DataToEnd)
unfolding awaits_payload
awaits-DataToEnd = refl

pub after-DataToEnd : (count : ℕ) (line bytes : List ℕ) → TakesPayload (record { place = DataToEnd; count = count; line = line }) bytes
    (record { place = DataToEnd; count = count + length bytes; line = line })
after-DataToEnd count line [] = rw (add-zero count) (no_payload (record { place = DataToEnd; count = count; line = line }))
after-DataToEnd count line (b ∷ bytes) =
    let more : count + 1 + length bytes ≡ count + length (b ∷ bytes) = omega arith in
    payload_more (record { place = DataToEnd; count = count; line = line }) b bytes (record { place = DataToEnd; count = count + 1; line = line })
    (record { place = DataToEnd; count = count + length (b ∷ bytes); line = line }) awaits-DataToEnd (step-DataToEnd count line b) refl
    (rw more at (after-DataToEnd (count + 1) line bytes))
