-- Laws over the definitions, for all bytes.
use Rattle.std.specs.Prelude.{◌≡◌, ◌≢◌, ◌↔◌, ℕ, ◌+◌, ◌≤◌, ◌⊎◌, IsTrue, Bool, true, false, List, [], ◌∷◌, ◌++◌, length, fold}
use Rattle.std.specs.List.{concat}
use Rattle.web_heads.specs.declared.body.BodyKind.{BodyKind}
use Rattle.web_heads.specs.declared.body.BodyKind.TheVariants.{ToEnd}
use Rattle.web_bodies.specs.declared.fault.BodyFault.{BodyFault}
use Rattle.web_bodies.specs.declared.place.BodyPlace.{BodyPlace}
use Rattle.web_bodies.specs.declared.place.BodyPlace.TheVariants.{DataByLength, DataToEnd, ChunkLine, ChunkData, ChunkCr, ChunkLf, Trailers, Over, Refused}
use Rattle.web_bodies.specs.Body.{Body}
use Rattle.web_bodies.specs.Steps.{begin, after, payload_after}
use Rattle.web_bodies.specs.Standard.{IsBody, HasBody, IsBegun, IsBodyFault, HasFault}

-- the body is neither over nor refused
abbrev pub is_open : BodyPlace → Bool
is_open (DataByLength left) = true
is_open DataToEnd = true
is_open (ChunkLine at) = true
is_open (ChunkData left) = true
is_open ChunkCr = true
is_open (ChunkLf at) = true
is_open (Trailers count line) = true
is_open Over = false
is_open (Refused fault) = false

-- the machine is open, over or refused exactly where the standard says that the bytes are a beginning, have a body or have the fault, and
-- its payload is the one that the standard says
pub record BodiesAreRead : Type 0 where
  pub begun : (kind : BodyKind) (at : ℕ) (bytes payload : List ℕ) →
      IsBegun kind bytes payload
      ↔ (IsTrue (is_open (after (begin kind at) bytes).place) × (payload_after (begin kind at) bytes ≡ payload))
  pub over : (kind : BodyKind) (at : ℕ) (bytes payload : List ℕ) →
      HasBody kind bytes payload
      ↔ (((after (begin kind at) bytes).place ≡ Over) × (payload_after (begin kind at) bytes ≡ payload))
  pub refused : (kind : BodyKind) (at : ℕ) (bytes payload : List ℕ) (fault : BodyFault) →
      HasFault kind at bytes payload fault
      ↔ (((after (begin kind at) bytes).place ≡ Refused fault) × (payload_after (begin kind at) bytes ≡ payload))

-- the machine's count is the place after the bytes that came, or after the body or the fault
pub record PlacesAreCounted : Type 0 where
  pub most : (body : Body) (bytes : List ℕ) → (after body bytes).count ≤ body.count + length bytes
  pub begun : (kind : BodyKind) (at : ℕ) (bytes payload : List ℕ) → IsBegun kind bytes payload
      → (after (begin kind at) bytes).count ≡ at + length bytes
  pub over : (kind : BodyKind) (at : ℕ) (bytes payload : List ℕ) (found : HasBody kind bytes payload)
      → (after (begin kind at) bytes).count ≡ at + length found.body
  pub refused : (kind : BodyKind) (at : ℕ) (bytes payload : List ℕ) (fault : BodyFault) (found : HasFault kind at bytes payload fault)
      → (after (begin kind at) bytes).count ≡ at + length found.settled

-- all bytes are exactly one of these: a beginning, a body with bytes after it, or a fault with bytes after it; each with one payload, the
-- body and the fault with one end
pub record BodiesAreOne : Type 0 where
  pub some : (kind : BodyKind) (at : ℕ) (bytes : List ℕ) →
      ((payload : List ℕ) × IsBegun kind bytes payload)
      ⊎ (((payload : List ℕ) × HasBody kind bytes payload)
      ⊎ ((payload : List ℕ) × (fault : BodyFault) × HasFault kind at bytes payload fault))
  pub begun_not_over : (kind : BodyKind) (bytes payload other : List ℕ) → IsBegun kind bytes payload → ¬ (HasBody kind bytes other)
  pub begun_not_refused : (kind : BodyKind) (at : ℕ) (bytes payload other : List ℕ) (fault : BodyFault)
      → IsBegun kind bytes payload → ¬ (HasFault kind at bytes other fault)
  pub over_not_refused : (kind : BodyKind) (at : ℕ) (bytes payload other : List ℕ) (fault : BodyFault)
      → HasBody kind bytes payload → ¬ (HasFault kind at bytes other fault)
  pub one_beginning : (kind : BodyKind) (bytes payload other : List ℕ) → IsBegun kind bytes payload → IsBegun kind bytes other
      → payload ≡ other
  pub one_body : (kind : BodyKind) (bytes payload other : List ℕ) (first : HasBody kind bytes payload) (second : HasBody kind bytes other)
      → (payload ≡ other) × (first.body ≡ second.body)
  pub one_fault : (kind : BodyKind) (at : ℕ) (bytes payload other : List ℕ) (fault wrong : BodyFault)
      (first : HasFault kind at bytes payload fault) (second : HasFault kind at bytes other wrong)
      → (payload ≡ other) × (fault ≡ wrong) × (first.settled ≡ second.settled)

-- a body and a fault end at the first byte where they can: fewer bytes are a beginning
pub record EndsAreFirst : Type 0 where
  pub over : (kind : BodyKind) (front : List ℕ) (b : ℕ) (back payload : List ℕ) → kind ≢ ToEnd → IsBody kind (front ++ b ∷ back) payload
      → (part : List ℕ) × IsBegun kind front part
  pub refused : (kind : BodyKind) (at : ℕ) (front : List ℕ) (b : ℕ) (back payload : List ℕ) (fault : BodyFault)
      → IsBodyFault kind at (front ++ b ∷ back) payload fault → (part : List ℕ) × IsBegun kind front part

-- the payload of pieces one after another
abbrev pub payload_of_pieces : Body → List (List ℕ) → List ℕ
payload_of_pieces body [] = []
payload_of_pieces body (piece ∷ pieces) = payload_after body piece ++ payload_of_pieces (after body piece) pieces

-- pieces one after another lead where the joined bytes lead, with the same payload
pub record PiecesJoin : Type 0 where
  pub state : (body : Body) (pieces : List (List ℕ)) → fold after body pieces ≡ after body (concat pieces)
  pub payload : (body : Body) (pieces : List (List ℕ)) → payload_of_pieces body pieces ≡ payload_after body (concat pieces)
  pub ended : (body : Body) (bytes : List ℕ) → body.place ≡ Over → after body bytes ≡ body
  pub refused : (body : Body) (bytes : List ℕ) (fault : BodyFault) → body.place ≡ Refused fault → after body bytes ≡ body
