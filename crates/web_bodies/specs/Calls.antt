-- What the calls of a reader of bodies answer and leave.
use Rattle.std.specs.Prelude.{◌≡◌, ◌≢◌, ℕ, ◌+◌, ◌-◌, ◌<◌, ◌≤◌, ◌⊎◌, min, List, [], length, take, IsTrue}
use Rattle.web_bodies.specs.declared.fault.BodyFault.{BodyFault}
use Rattle.web_bodies.specs.declared.fault.BodyFault.TheVariants.{BadChunk, HeadTooLong, OutOfMemory}
use Rattle.web_bodies.specs.declared.place.BodyPlace.{BodyPlace}
use Rattle.web_bodies.specs.declared.place.BodyPlace.TheVariants.{DataByLength, DataToEnd, ChunkLine, ChunkData, ChunkCr, ChunkLf, Trailers, Over, Refused}
use Rattle.web_bodies.specs.Body.{Body}
use Rattle.web_bodies.specs.Steps.{length_place, data_place, awaits_payload, after, payload_after}

-- how many of so many next bytes are payload in any case, whatever they are
unfoldable pub payload_ahead : BodyPlace → ℕ → ℕ
payload_ahead (DataByLength left) available = min left available
payload_ahead DataToEnd available = available
payload_ahead (ChunkLine at) available = 0
payload_ahead (ChunkData left) available = min left available
payload_ahead ChunkCr available = 0
payload_ahead (ChunkLf at) available = 0
payload_ahead (Trailers count line) available = 0
payload_ahead Over available = 0
payload_ahead (Refused fault) available = 0

-- where the byte after so many bytes of payload stands
unfoldable pub place_after : BodyPlace → ℕ → BodyPlace
place_after (DataByLength left) count = length_place (left - count)
place_after DataToEnd count = DataToEnd
place_after (ChunkLine at) count = ChunkLine at
place_after (ChunkData left) count = data_place (left - count)
place_after ChunkCr count = ChunkCr
place_after (ChunkLf at) count = ChunkLf at
place_after (Trailers trailers line) count = Trailers trailers line
place_after Over count = Over
place_after (Refused fault) count = Refused fault

-- the bytes are all payload, and lead from the old body to the new one
pub record TakesPayload (old : Body) (bytes : List ℕ) (new : Body) : Type 0 where
  pub state : new ≡ after old bytes
  pub payload : payload_after old bytes ≡ bytes
  pub counted : new.count ≡ old.count + length bytes

-- so many bytes of a piece were taken, at least one, and none is payload: all of the piece, or up to where payload begins or the body is over
pub record TakesFraming (old : Body) (piece : List ℕ) (new : Body) (count : ℕ) : Type 0 where
  pub some : 0 < count
  pub within : count ≤ length piece
  pub state : new ≡ after old (take count piece)
  pub payload : payload_after old (take count piece) ≡ []
  pub counted : new.count ≡ old.count + count
  pub not_refused : (fault : BodyFault) → new.place ≢ Refused fault
  pub ends : (count ≡ length piece) ⊎ ((new.place ≡ Over) ⊎ IsTrue (awaits_payload new.place))

-- the bytes of a piece lead to this fault, and none of them is payload
pub record IsFaulty (old : Body) (piece : List ℕ) (new : Body) (fault : BodyFault) : Type 0 where
  pub state : new ≡ after old piece
  pub payload : payload_after old piece ≡ []
  pub refused : new.place ≡ Refused fault

-- the piece was refused: for its bytes, or for want of memory, which says nothing of them
abbrev pub Refuses : Body → List ℕ → Body → BodyFault → Type 0
Refuses old piece new (BadChunk at) = IsFaulty old piece new (BadChunk at)
Refuses old piece new HeadTooLong = IsFaulty old piece new HeadTooLong
Refuses old piece new OutOfMemory = new.place ≡ Refused OutOfMemory
