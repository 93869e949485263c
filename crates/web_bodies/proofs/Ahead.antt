-- So many bytes of payload at once.
use Rattle.std.proofs.Common.{◌≡◌, ◌≢◌, ℕ, eqb, ◌+◌, ◌-◌, ◌<◌, ◌≤◌, min, false, List, [], ◌∷◌, length, refl, sym, ap, ◌∙◌, arith, add-zero}
use Rattle.std.proofs.lemmas.Bool.{cond_both}
use Rattle.web_bodies.specs.declared.fault.BodyFault.{BodyFault}
use Rattle.web_bodies.specs.declared.place.BodyPlace.{BodyPlace}
use Rattle.web_bodies.specs.declared.place.BodyPlace.TheVariants.{DataByLength, DataToEnd, ChunkLine, ChunkData, ChunkCr, ChunkLf, Trailers, Over, Refused}
use Rattle.web_bodies.specs.Body.{Body, IsReached}
use Rattle.web_bodies.specs.Steps.{length_place, data_place, awaits_payload, after, payload_after}
use Rattle.web_bodies.specs.Calls.{payload_ahead, place_after, TakesPayload}
use Rattle.web_bodies.proofs.Runs.{no_payload, length_place-left, data_place-left, after-length_place, after-data_place, after-DataToEnd}

no_more : (body : Body) (bytes : List ℕ) → length bytes ≡ 0
    → TakesPayload body bytes (record { place = body.place; count = body.count + length bytes; line = body.line })
no_more body [] e = rw (add-zero body.count) (no_payload body)
no_more body (b ∷ bytes) e = absurd (omega arith)

min_le : (left count : ℕ) → min left count ≡ count → count ≤ left
min_le left count e = omega arith

-- all that is payload in any case
pub takes_ahead : (place : BodyPlace) (count : ℕ) (line bytes : List ℕ) → payload_ahead place (length bytes) ≡ length bytes → IsReached place
    → TakesPayload (record { place = place; count = count; line = line }) bytes
    (record { place = place_after place (length bytes); count = count + length bytes; line = line })
unfolding payload_ahead place_after
takes_ahead (DataByLength left) count line bytes ahead some =
    rw (length_place-left left some) at (after-length_place left count line bytes (min_le left (length bytes) ahead))
takes_ahead DataToEnd count line bytes ahead some = after-DataToEnd count line bytes
takes_ahead (ChunkLine at) count line bytes ahead some = no_more (record { place = ChunkLine at; count = count; line = line }) bytes (sym ahead)
takes_ahead (ChunkData left) count line bytes ahead some =
    rw (data_place-left left some) at (after-data_place left count line bytes (min_le left (length bytes) ahead))
takes_ahead ChunkCr count line bytes ahead some = no_more (record { place = ChunkCr; count = count; line = line }) bytes (sym ahead)
takes_ahead (ChunkLf at) count line bytes ahead some = no_more (record { place = ChunkLf at; count = count; line = line }) bytes (sym ahead)
takes_ahead (Trailers n end) count line bytes ahead some = no_more (record { place = Trailers n end; count = count; line = line }) bytes (sym ahead)
takes_ahead Over count line bytes ahead some = no_more (record { place = Over; count = count; line = line }) bytes (sym ahead)
takes_ahead (Refused fault) count line bytes ahead some = no_more (record { place = Refused fault; count = count; line = line }) bytes (sym ahead)

-- ---- how many are ahead

pub le-payload_ahead : (place : BodyPlace) (available : ℕ) → payload_ahead place available ≤ available
unfolding payload_ahead
le-payload_ahead (DataByLength left) available = omega arith
le-payload_ahead DataToEnd available = omega arith
le-payload_ahead (ChunkLine at) available = omega arith
le-payload_ahead (ChunkData left) available = omega arith
le-payload_ahead ChunkCr available = omega arith
le-payload_ahead (ChunkLf at) available = omega arith
le-payload_ahead (Trailers n end) available = omega arith
le-payload_ahead Over available = omega arith
le-payload_ahead (Refused fault) available = omega arith

-- fewer are ahead too
pub payload_ahead-fewer : (place : BodyPlace) (available count : ℕ) → count ≤ payload_ahead place available → payload_ahead place count ≡ count
unfolding payload_ahead
payload_ahead-fewer (DataByLength left) available count fits = omega arith
payload_ahead-fewer DataToEnd available count fits = refl
payload_ahead-fewer (ChunkLine at) available count fits = omega arith
payload_ahead-fewer (ChunkData left) available count fits = omega arith
payload_ahead-fewer ChunkCr available count fits = omega arith
payload_ahead-fewer (ChunkLf at) available count fits = omega arith
payload_ahead-fewer (Trailers n end) available count fits = omega arith
payload_ahead-fewer Over available count fits = omega arith
payload_ahead-fewer (Refused fault) available count fits = omega arith

-- where none is ahead of at least one byte, the next byte is no payload
pub no_payload_ahead : (place : BodyPlace) (available : ℕ) → 0 < available → payload_ahead place available ≡ 0 → IsReached place
    → awaits_payload place ≡ false
unfolding payload_ahead awaits_payload
no_payload_ahead (DataByLength left) available some none reached = absurd (omega arith)
no_payload_ahead DataToEnd available some none reached = absurd (omega arith)
no_payload_ahead (ChunkLine at) available some none reached = refl
no_payload_ahead (ChunkData left) available some none reached = absurd (omega arith)
no_payload_ahead ChunkCr available some none reached = refl
no_payload_ahead (ChunkLf at) available some none reached = refl
no_payload_ahead (Trailers n end) available some none reached = refl
no_payload_ahead Over available some none reached = refl
no_payload_ahead (Refused fault) available some none reached = refl

-- all that are ahead lead to a place where none is, if more bytes are there
awaits-length_place : awaits_payload (length_place 0) ≡ false
unfolding length_place awaits_payload
awaits-length_place = refl

awaits-data_place : awaits_payload (data_place 0) ≡ false
unfolding data_place awaits_payload
awaits-data_place = refl

place_after-all : (place : BodyPlace) (available : ℕ) → payload_ahead place available < available
    → awaits_payload (place_after place (payload_ahead place available)) ≡ false
unfolding payload_ahead place_after awaits_payload
place_after-all (DataByLength left) available more =
    let none_left : left - min left available ≡ 0 = omega arith in ap (λ (n : ℕ). awaits_payload (length_place n)) none_left ∙ awaits-length_place
place_after-all DataToEnd available more = absurd (omega arith)
place_after-all (ChunkLine at) available more = refl
place_after-all (ChunkData left) available more =
    let none_left : left - min left available ≡ 0 = omega arith in ap (λ (n : ℕ). awaits_payload (data_place n)) none_left ∙ awaits-data_place
place_after-all ChunkCr available more = refl
place_after-all (ChunkLf at) available more = refl
place_after-all (Trailers n end) available more = refl
place_after-all Over available more = refl
place_after-all (Refused fault) available more = refl

pub payload_ahead-most : (place : BodyPlace) (available count : ℕ) (line bytes : List ℕ) → IsReached place → payload_ahead place available < available
    → length bytes ≡ payload_ahead place available → awaits_payload (after (record { place = place; count = count; line = line }) bytes).place ≡ false
payload_ahead-most place available count line bytes reached more all =
    let fewer = payload_ahead-fewer place available (length bytes) (omega arith) in
    ap (λ (b : Body). awaits_payload b.place) (sym (takes_ahead place count line bytes fewer reached).state)
    ∙ ap (λ (n : ℕ). awaits_payload (place_after place n)) all ∙ place_after-all place available more

pub payload_ahead-all : (place : BodyPlace) (available count : ℕ) (line bytes : List ℕ) → IsReached place → length bytes ≤ payload_ahead place available
    → payload_after (record { place = place; count = count; line = line }) bytes ≡ bytes
payload_ahead-all place available count line bytes reached fits =
    (takes_ahead place count line bytes (payload_ahead-fewer place available (length bytes) fits) reached).payload

-- payload leads to no fault
pub length_place-not_refused : (left : ℕ) (fault : BodyFault) → length_place left ≢ Refused fault
unfolding length_place
length_place-not_refused left fault = cond_both (eqb left 0) Over (DataByLength left) (λ place. place ≢ Refused fault) (λ _ e. cc) (λ _ e. cc)

data_place-not_refused : (left : ℕ) (fault : BodyFault) → data_place left ≢ Refused fault
unfolding data_place
data_place-not_refused left fault = cond_both (eqb left 0) ChunkCr (ChunkData left) (λ place. place ≢ Refused fault) (λ _ e. cc) (λ _ e. cc)

pub place_after-not_refused : (place : BodyPlace) (count : ℕ) → payload_ahead place count ≡ count → 0 < count → (fault : BodyFault)
    → place_after place count ≢ Refused fault
unfolding payload_ahead place_after
place_after-not_refused (DataByLength left) count ahead some fault = length_place-not_refused (left - count) fault
place_after-not_refused DataToEnd count ahead some fault = λ e. cc
place_after-not_refused (ChunkLine at) count ahead some fault = absurd (omega arith)
place_after-not_refused (ChunkData left) count ahead some fault = data_place-not_refused (left - count) fault
place_after-not_refused ChunkCr count ahead some fault = absurd (omega arith)
place_after-not_refused (ChunkLf at) count ahead some fault = absurd (omega arith)
place_after-not_refused (Trailers n end) count ahead some fault = absurd (omega arith)
place_after-not_refused Over count ahead some fault = absurd (omega arith)
place_after-not_refused (Refused wrong) count ahead some fault = absurd (omega arith)
