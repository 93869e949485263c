-- A body as its bytes come: what has come of it, and where the next byte stands.
use Rattle.std.specs.Prelude.{ℕ, ◌<◌, List}
use Rattle.web_bodies.specs.declared.place.BodyPlace.{BodyPlace}
use Rattle.web_bodies.specs.declared.place.BodyPlace.TheVariants.{DataByLength, DataToEnd, ChunkLine, ChunkData, ChunkCr, ChunkLf, Trailers, Over, Refused}

-- where the next byte stands, its place in the connection, and the bytes of the chunk line so far
pub record Body : Type 0 where
  pub place : BodyPlace
  pub count : ℕ
  pub line : List ℕ

-- the longest trailer section, in bytes, the empty line included
abbrev pub most_trailers : ℕ
most_trailers = 16384

-- what holds of every place that is reached: data is to come, and the parts that are limited are within their limits
abbrev pub IsReached : BodyPlace → Type 0
IsReached (DataByLength left) = 0 < left
IsReached DataToEnd = Unit {0}
IsReached (ChunkLine at) = Unit {0}
IsReached (ChunkData left) = 0 < left
IsReached ChunkCr = Unit {0}
IsReached (ChunkLf at) = Unit {0}
IsReached (Trailers count line) = count < most_trailers
IsReached Over = Unit {0}
IsReached (Refused fault) = Unit {0}
