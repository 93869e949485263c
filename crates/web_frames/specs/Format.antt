-- A frame's bytes (gRPC-Web protocol, "Message framing").
use Rattle.std.specs.Prelude.{ℕ, List, ◌∷◌, ◌++◌, length}
use Rattle.std.specs.Int.{w32, to_be_bytes}
use Rattle.web_frames.specs.declared.limits.Side.{Side}
use Rattle.web_frames.specs.declared.limits.Side.TheVariants.{Request, Response}

-- the longest payload of a frame: 64 MiB in a request, 16 MiB in a response
abbrev pub frame_limit : Side → ℕ
frame_limit Request = 67108864
frame_limit Response = 16777216

-- what stands before a payload: a flag byte and the payload's length as a big-endian number of four bytes
unfoldable pub frame_head : ℕ → ℕ → List ℕ
frame_head flag count = flag ∷ to_be_bytes w32 count

-- a frame
abbrev pub frame : ℕ → List ℕ → List ℕ
frame flag payload = frame_head flag (length payload) ++ payload
