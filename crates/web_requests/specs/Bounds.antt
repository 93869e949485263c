-- How many bytes a request has at most before its end or its fault: each chunk has one byte of the message's frame at least, and the frame is
-- limited. So a place in its connection is a number of 64 bits, whatever comes.
use Rattle.std.specs.Prelude.{◌≡◌, ℕ, ◌+◌, ◌*◌, ◌≤◌, List, length}
use Rattle.web_bodies.specs.declared.place.BodyPlace.{BodyPlace}
use Rattle.web_bodies.specs.declared.place.BodyPlace.TheVariants as body
use Rattle.web_frames.specs.declared.limits.Side.TheVariants.{Request}
use Rattle.web_frames.specs.declared.state.FramePlace.{FramePlace}
use Rattle.web_frames.specs.declared.state.FramePlace.TheVariants as frame
use Rattle.web_frames.specs.Machine.{FrameState}
use Rattle.web_contents.specs.declared.place.ContentPlace.TheVariants as content
use Rattle.web_contents.specs.Contents.{Content, place_of}

-- the longest frame of a request, with its flag and its length
abbrev pub most_frame : ℕ
most_frame = 67108869

-- how many bytes of payload have come at most
abbrev pub payload_at : FramePlace → List ℕ → ℕ
payload_at frame.Open held = length held
payload_at frame.Whole held = most_frame
payload_at frame.Over held = most_frame
payload_at (frame.Refused fault) held = most_frame

abbrev pub payload_so_far : FrameState → ℕ
payload_so_far s = payload_at s.place s.held

-- a frame that isn't whole is shorter than the longest one
abbrev pub IsShortAt : FramePlace → List ℕ → Type 0
IsShortAt frame.Open held = length held + 1 ≤ most_frame
IsShortAt frame.Whole held = Unit {0}
IsShortAt frame.Over held = Unit {0}
IsShortAt (frame.Refused fault) held = Unit {0}

-- how many bytes the body may have had, of which so many are payload: 600 for each of them, and those of the line or the section that has begun
abbrev pub IsBoundedAt : BodyPlace → ℕ → List ℕ → ℕ → Type 0
IsBoundedAt (body.DataByLength left) count line payload = count ≤ 16384 + 600 * payload
IsBoundedAt body.DataToEnd count line payload = count ≤ 16384 + 600 * payload
IsBoundedAt (body.ChunkLine at) count line payload = count ≤ 16384 + 600 * payload + length line
IsBoundedAt (body.ChunkData left) count line payload = count ≤ 16384 + 600 * payload + 257
IsBoundedAt body.ChunkCr count line payload = count + 2 ≤ 16384 + 600 * payload
IsBoundedAt (body.ChunkLf at) count line payload = count + 1 ≤ 16384 + 600 * payload
IsBoundedAt (body.Trailers taken end) count line payload = (count ≤ 16384 + 600 * payload + 257 + taken) × (taken ≤ 16384)
IsBoundedAt body.Over count line payload = count ≤ 16384 + 600 * payload + 16642
IsBoundedAt (body.Refused fault) count line payload = count ≤ 16384 + 600 * payload + 16642

-- the contents of a request of which more has to come are within the bounds
pub record IsWithinBounds (c : Content) : Type 0 where
  pub side : c.frames.side ≡ Request
  pub short : IsShortAt c.frames.place c.frames.held
  pub line_fits : length c.body.line ≤ 256
  pub bounded : IsBoundedAt c.body.place c.body.count c.body.line (payload_so_far c.frames)

pub record IsBounded (c : Content) : Type 0 where
  pub while_open : place_of c ≡ content.Open → IsWithinBounds c
