-- Bodies in the words of RFC 9112, sections 6 and 7. A body in chunks is chunks, a last chunk line, and a trailer section with the empty line
-- that ends it; what stands in the lines of the section is skipped, so it may be any bytes, where the standard has field lines there.
use Rattle.std.specs.Prelude.{◌≡◌, ◌≢◌, ℕ, ◌+◌, ◌<◌, ◌≤◌, ◌⊎◌, List, [], ◌∷◌, ◌++◌, length, All}
use Rattle.std.specs.List.{flat_map}
use Rattle.httparse.specs.Ascii.{line_feed, carriage_return, crlf_bytes}
use Rattle.web_heads.specs.declared.body.BodyKind.{BodyKind}
use Rattle.web_heads.specs.declared.body.BodyKind.TheVariants.{Length, Chunks, ToEnd}
use Rattle.web_heads.specs.HeadEnds.{EndsLines, IsFirstEnd}
use Rattle.web_heads.specs.Standard.{IsChunkLine}
use Rattle.web_bodies.specs.declared.fault.BodyFault.{BodyFault}
use Rattle.web_bodies.specs.declared.fault.BodyFault.TheVariants.{BadChunk, HeadTooLong}

-- ---- chunks (section 7.1)

-- a chunk: its line with the CR LF, and its data
pub record Chunk : Type 0 where
  pub line : List ℕ
  pub content : List ℕ

-- the line gives the size of the data, which is not 0
pub record IsChunk (c : Chunk) : Type 0 where
  pub line : IsChunkLine c.line (length c.content)
  pub some : 0 < length c.content

-- the bytes of a chunk: its line, its data, and CR LF
abbrev pub chunk_bytes : Chunk → List ℕ
chunk_bytes c = c.line ++ c.content ++ crlf_bytes

-- the bytes of chunks, and their data
abbrev pub chunks_bytes : List Chunk → List ℕ
chunks_bytes chunks = flat_map chunk_bytes chunks

abbrev pub chunks_data : List Chunk → List ℕ
chunks_data chunks = flat_map (λ c. c.content) chunks

-- ---- the trailer section (section 7.1.2)

-- no CR LF stands directly after a CR LF: that of the last chunk line is the first
abbrev pub HasNoEmptyLine : List ℕ → Type 0
HasNoEmptyLine trailers = (at : ℕ) → ¬ (EndsLines (crlf_bytes ++ trailers) at)

-- field lines and the first empty line, of at most 16 KiB together
pub record IsTrailerSection (trailers : List ℕ) : Type 0 where
  pub ends : IsFirstEnd (crlf_bytes ++ trailers) 0 (length (crlf_bytes ++ trailers))
  pub short : length trailers ≤ 16384

-- ---- whole bodies

-- chunks, a last chunk line and a trailer section; the payload is the data of the chunks
pub record IsChunkedBody (bytes payload : List ℕ) : Type 0 where
  pub chunks : List Chunk
  pub each : All IsChunk chunks
  pub last : List ℕ
  pub last_line : IsChunkLine last 0
  pub trailers : List ℕ
  pub section : IsTrailerSection trailers
  pub bytes_are : bytes ≡ chunks_bytes chunks ++ (last ++ trailers)
  pub payload_is : payload ≡ chunks_data chunks

-- the bytes are a body of the kind with this payload (section 6.3); one that nothing frames is what has come when the connection ends
abbrev pub IsBody : BodyKind → List ℕ → List ℕ → Type 0
IsBody (Length count) bytes payload = (payload ≡ bytes) × (length bytes ≡ count)
IsBody Chunks bytes payload = IsChunkedBody bytes payload
IsBody ToEnd bytes payload = payload ≡ bytes

-- a beginning of the bytes is a body, and its framing says that it ends there; the bytes after it say nothing of it
pub record HasBody (kind : BodyKind) (bytes payload : List ℕ) : Type 0 where
  pub framed : kind ≢ ToEnd
  pub body : List ℕ
  pub rest : List ℕ
  pub bytes_are : bytes ≡ body ++ rest
  pub is_body : IsBody kind body payload

-- ---- bodies of which more has to come

-- what stands after the last whole chunk, and the data in it
pub data IsPart (rest content : List ℕ) : Type 0 where
  -- a beginning of a chunk line, which isn't judged before its LF or its 257th byte
  in_line : All (λ b. b ≢ line_feed) rest → length rest ≤ 256 → content ≡ [] → IsPart rest content
  -- a chunk line that isn't the last, and data, at most all
  in_data : (line : List ℕ) (size : ℕ) → IsChunkLine line size → 0 < size → length content ≤ size → rest ≡ line ++ content → IsPart rest content
  -- a chunk without its last LF
  in_end : (line : List ℕ) → IsChunkLine line (length content) → 0 < length content → rest ≡ line ++ content ++ carriage_return ∷ []
      → IsPart rest content
  -- the last chunk line, and trailers without the empty line
  in_trailers : (line trailers : List ℕ) → IsChunkLine line 0 → HasNoEmptyLine trailers → length trailers < 16384 → rest ≡ line ++ trailers
      → content ≡ [] → IsPart rest content

-- whole chunks, and then less than the rest of a body
pub record IsChunkedPart (bytes payload : List ℕ) : Type 0 where
  pub chunks : List Chunk
  pub each : All IsChunk chunks
  pub rest : List ℕ
  pub content : List ℕ
  pub part : IsPart rest content
  pub bytes_are : bytes ≡ chunks_bytes chunks ++ rest
  pub payload_is : payload ≡ chunks_data chunks ++ content

-- the bytes are a beginning of a body of the kind, of which more may come, and the payload is what they have of it
abbrev pub IsBegun : BodyKind → List ℕ → List ℕ → Type 0
IsBegun (Length count) bytes payload = (payload ≡ bytes) × (length bytes < count)
IsBegun Chunks bytes payload = IsChunkedPart bytes payload
IsBegun ToEnd bytes payload = payload ≡ bytes

-- ---- faults

-- the bytes of a line up to its LF, or 257 bytes without one before the last, which are no chunk line
pub record IsNoChunkLine (bytes : List ℕ) : Type 0 where
  pub text : List ℕ
  pub last : ℕ
  pub bytes_are : bytes ≡ text ++ last ∷ []
  pub one_line : All (λ b. b ≢ line_feed) text
  pub short : length text ≤ 256
  pub judged : (last ≡ line_feed) ⊎ (length text ≡ 256)
  pub none : (size : ℕ) → ¬ (IsChunkLine bytes size)

-- what stands after the last whole chunk, from this place of the connection on, and the data in it: its last byte settles the fault
pub data IsPartFault (at : ℕ) (rest content : List ℕ) (fault : BodyFault) : Type 0 where
  no_line : IsNoChunkLine rest → content ≡ [] → fault ≡ BadChunk at → IsPartFault at rest content fault
  -- a chunk line and its data, and then a byte other than CR, or CR and a byte other than LF
  no_cr : (line : List ℕ) (other : ℕ) → IsChunkLine line (length content) → 0 < length content → other ≢ carriage_return
      → rest ≡ line ++ content ++ other ∷ [] → fault ≡ BadChunk (at + length (line ++ content)) → IsPartFault at rest content fault
  no_lf : (line : List ℕ) (other : ℕ) → IsChunkLine line (length content) → 0 < length content → other ≢ line_feed
      → rest ≡ line ++ content ++ carriage_return ∷ other ∷ [] → fault ≡ BadChunk (at + length (line ++ content))
      → IsPartFault at rest content fault
  -- the last chunk line, and 16 KiB without an empty line
  too_long : (line trailers : List ℕ) → IsChunkLine line 0 → HasNoEmptyLine trailers → length trailers ≡ 16384 → rest ≡ line ++ trailers
      → content ≡ [] → fault ≡ HeadTooLong → IsPartFault at rest content fault

-- whole chunks, and then a fault
pub record IsChunkedFault (at : ℕ) (bytes payload : List ℕ) (fault : BodyFault) : Type 0 where
  pub chunks : List Chunk
  pub each : All IsChunk chunks
  pub rest : List ℕ
  pub content : List ℕ
  pub part : IsPartFault (at + length (chunks_bytes chunks)) rest content fault
  pub bytes_are : bytes ≡ chunks_bytes chunks ++ rest
  pub payload_is : payload ≡ chunks_data chunks ++ content

-- the bytes, whose first stands at this place of the connection, are the fewest that settle the fault; the payload is what comes before it
abbrev pub IsBodyFault : BodyKind → ℕ → List ℕ → List ℕ → BodyFault → Type 0
IsBodyFault (Length count) at bytes payload fault = ⊥
IsBodyFault Chunks at bytes payload fault = IsChunkedFault at bytes payload fault
IsBodyFault ToEnd at bytes payload fault = ⊥

-- a beginning of the bytes settles the fault; the bytes after it say nothing
pub record HasFault (kind : BodyKind) (at : ℕ) (bytes payload : List ℕ) (fault : BodyFault) : Type 0 where
  pub settled : List ℕ
  pub rest : List ℕ
  pub bytes_are : bytes ≡ settled ++ rest
  pub is_fault : IsBodyFault kind at settled payload fault
