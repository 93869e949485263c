-- The machine that goes over the bytes of a body, one byte at a time (RFC 9112, sections 6 and 7).
use Rattle.std.specs.Prelude.{ℕ, ◌+◌, ◌-◌, Bool, true, false, if◌then◌else◌, ◌==◌, nat_lt, List, [], ◌∷◌, ◌++◌, length, fold, Option, Some, None}
use Rattle.httparse.specs.Ascii.{line_feed, carriage_return}
use Rattle.web_heads.specs.declared.body.BodyKind.{BodyKind}
use Rattle.web_heads.specs.declared.body.BodyKind.TheVariants.{Length, Chunks, ToEnd}
use Rattle.web_heads.specs.ChunkLines.{most_chunk_line, chunk_size}
use Rattle.web_bodies.specs.declared.fault.BodyFault.TheVariants.{BadChunk, HeadTooLong}
use Rattle.web_bodies.specs.declared.place.BodyPlace.{BodyPlace}
use Rattle.web_bodies.specs.declared.place.BodyPlace.TheVariants.{DataByLength, DataToEnd, ChunkLine, ChunkData, ChunkCr, ChunkLf, Trailers, Over, Refused}
use Rattle.web_bodies.specs.declared.place.TrailerPlace.{TrailerPlace}
use Rattle.web_bodies.specs.declared.place.TrailerPlace.TheVariants.{LineStart, EmptyLineCr, InLine, LineCr}
use Rattle.web_bodies.specs.Body.{Body, most_trailers}

-- in a body by length, where so many bytes are left
unfoldable pub length_place : ℕ → BodyPlace
length_place left = if left == 0 then Over else DataByLength left

-- in the data of a chunk, where so many bytes are left
unfoldable pub data_place : ℕ → BodyPlace
data_place left = if left == 0 then ChunkCr else ChunkData left

-- after a chunk line of this size: data, or after the last chunk the trailer section
unfoldable pub size_place : ℕ → BodyPlace
size_place size = if size == 0 then Trailers 0 LineStart else ChunkData size

-- after a whole chunk line whose first byte stands at this place, by the size that it gives
unfoldable pub line_place : ℕ → Option ℕ → BodyPlace
line_place at None = Refused (BadChunk at)
line_place at (Some size) = size_place size

-- one byte more of a chunk line: the line ends with its LF, or it is too long
unfoldable pub line_step : ℕ → Body → ℕ → Body
line_step at body b =
    let line = body.line ++ b ∷ [] in
    if b == line_feed then record { place = line_place at (chunk_size line); count = body.count + 1; line = [] }
    else if nat_lt most_chunk_line (length line)
    then record { place = Refused (BadChunk at); count = body.count + 1; line = [] }
    else record { place = ChunkLine at; count = body.count + 1; line = line }

-- the byte at this place should be the CR after the data of a chunk
unfoldable pub cr_place : ℕ → ℕ → BodyPlace
cr_place at b = if b == carriage_return then ChunkLf at else Refused (BadChunk at)

-- the byte should be the LF after the CR at the first place; the byte at the second place begins the next chunk line
unfoldable pub lf_place : ℕ → ℕ → ℕ → BodyPlace
lf_place at next b = if b == line_feed then ChunkLine next else Refused (BadChunk at)

-- the byte ends an empty line
unfoldable pub is_empty_line : TrailerPlace → ℕ → Bool
is_empty_line LineStart b = false
is_empty_line EmptyLineCr b = b == line_feed
is_empty_line InLine b = false
is_empty_line LineCr b = false

-- where the byte leads in the lines of a trailer section
unfoldable pub trailer_step : TrailerPlace → ℕ → TrailerPlace
trailer_step LineStart b = if b == carriage_return then EmptyLineCr else InLine
trailer_step EmptyLineCr b = if b == carriage_return then LineCr else InLine
trailer_step InLine b = if b == carriage_return then LineCr else InLine
trailer_step LineCr b = if b == line_feed then LineStart else if b == carriage_return then LineCr else InLine

-- one byte more of a trailer section of which so many bytes have come: an empty line ends it
unfoldable pub trailers_place : ℕ → TrailerPlace → ℕ → BodyPlace
trailers_place count line b =
    if is_empty_line line b then Over
    else if nat_lt (count + 1) most_trailers then Trailers (count + 1) (trailer_step line b)
    else Refused HeadTooLong

-- the body with one byte more, after which the next one stands at this place
abbrev pub moved : Body → BodyPlace → Body
moved body place = record { place = place; count = body.count + 1; line = body.line }

-- one byte at a place of the body; bytes after a body that is over or refused change nothing
unfoldable pub step_at : BodyPlace → Body → ℕ → Body
step_at (DataByLength left) body b = moved body (length_place (left - 1))
step_at DataToEnd body b = moved body DataToEnd
step_at (ChunkLine at) body b = line_step at body b
step_at (ChunkData left) body b = moved body (data_place (left - 1))
step_at ChunkCr body b = moved body (cr_place body.count b)
step_at (ChunkLf at) body b = moved body (lf_place at (body.count + 1) b)
step_at (Trailers count line) body b = moved body (trailers_place count line b)
step_at Over body b = body
step_at (Refused fault) body b = body

-- one byte of the body
unfoldable pub body_step : Body → ℕ → Body
body_step body b = step_at body.place body b

-- the next byte is payload
unfoldable pub awaits_payload : BodyPlace → Bool
awaits_payload (DataByLength left) = true
awaits_payload DataToEnd = true
awaits_payload (ChunkLine at) = false
awaits_payload (ChunkData left) = true
awaits_payload ChunkCr = false
awaits_payload (ChunkLf at) = false
awaits_payload (Trailers count line) = false
awaits_payload Over = false
awaits_payload (Refused fault) = false

-- the payload of one byte: the byte, where it is one of data, and else nothing
unfoldable pub emitted : Body → ℕ → List ℕ
emitted body b = if awaits_payload body.place then b ∷ [] else []

-- the body after these bytes
unfoldable pub after : Body → List ℕ → Body
after body bytes = fold body_step body bytes

-- the payload of these bytes
unfoldable pub payload_after : Body → List ℕ → List ℕ
payload_after body [] = []
payload_after body (b ∷ bytes) = emitted body b ++ payload_after (body_step body b) bytes

-- where the first byte of a body of a kind stands, which is this byte of the connection
unfoldable pub first_place : BodyKind → ℕ → BodyPlace
first_place (Length count) at = length_place count
first_place Chunks at = ChunkLine at
first_place ToEnd at = DataToEnd

-- a body of a kind before its first byte, which is this byte of the connection
unfoldable pub begin : BodyKind → ℕ → Body
begin kind at = record { place = first_place kind at; count = at; line = [] }
