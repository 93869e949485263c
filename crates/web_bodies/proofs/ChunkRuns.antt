-- The machine over chunks, and over what stands after the last whole one.
use Rattle.std.proofs.Common.{◌≡◌, ◌≢◌, ℕ, ◌+◌, ◌-◌, ◌<◌, ◌≤◌, false, eqb, List, [], ◌∷◌, ◌++◌, length, refl, sym, ◌∙◌, arith, append_assoc, length-append, add-zero}
use Rattle.std.specs.List.{All}
use Rattle.std.proofs.Math.Nat.{sub_self}
use Rattle.std.proofs.lemmas.Bool.{cond-false, ne_eqb}
use Rattle.std.proofs.lemmas.List.Elements.{All-head, All-tail}
use Rattle.httparse.specs.Ascii.{crlf_bytes}
use Rattle.web_heads.specs.Standard.{IsChunkLine}
use Rattle.web_bodies.specs.declared.fault.BodyFault.TheVariants.{BadChunk}
use Rattle.web_bodies.specs.declared.place.BodyPlace.TheVariants.{ChunkLine as InChunkLine, ChunkData, ChunkCr, ChunkLf, Trailers, Refused}
use Rattle.web_bodies.specs.declared.place.TrailerPlace.TheVariants.{LineStart}
use Rattle.web_bodies.specs.Body.{Body}
use Rattle.web_bodies.specs.Steps.{data_place, size_place, cr_place, lf_place, step_at, body_step, awaits_payload}
use Rattle.web_bodies.specs.Standard.{Chunk, IsChunk, chunk_bytes, chunks_bytes, chunks_data}
use Rattle.web_bodies.proofs.Runs.{after-data_place, data_place-left}
use Rattle.web_bodies.proofs.Leads.{Leads, leads_none, leads_one, leads_append, leads_payload, leads_after_framing, leads_before_framing}
use Rattle.web_bodies.proofs.LineRuns.{in_line, line_read}

-- before the first byte of a chunk line, which is this byte of the connection
abbrev pub line_begins : ℕ → Body
line_begins at = in_line at at []

-- ---- data

size_place-some : (size : ℕ) → 0 < size → size_place size ≡ data_place size
unfolding size_place
size_place-some size some =
    cond-false (eqb size 0) (Trailers 0 LineStart) (ChunkData size) (ne_eqb size 0 (λ e. omega arith)) ∙ sym (data_place-left size some)

-- a chunk line and a beginning of its data
pub data_begun : (at : ℕ) (line : List ℕ) (size : ℕ) (content : List ℕ) → IsChunkLine line size → 0 < size → length content ≤ size
    → Leads (line_begins at) (line ++ content) content
    (record { place = data_place (size - length content); count = at + length line + length content; line = [] })
data_begun at line size content x some fits =
    leads_after_framing (line_begins at) (record { place = data_place size; count = at + length line; line = [] })
    (record { place = data_place (size - length content); count = at + length line + length content; line = [] }) line content content
    (rw (size_place-some size some) at (line_read at line size x))
    (leads_payload (record { place = data_place size; count = at + length line; line = [] }) content
    (record { place = data_place (size - length content); count = at + length line + length content; line = [] })
    (after-data_place size (at + length line) [] content fits))

-- a chunk line and all of its data
data_place-zero : data_place 0 ≡ ChunkCr
unfolding data_place
data_place-zero = refl

data_whole : (at : ℕ) (line content : List ℕ) → IsChunkLine line (length content) → 0 < length content
    → Leads (line_begins at) (line ++ content) content (record { place = ChunkCr; count = at + length line + length content; line = [] })
data_whole at line content x some =
    rw (sub_self (length content), data_place-zero) at (data_begun at line (length content) content x some (omega arith))

-- ---- the end of a chunk

step-ChunkCr : (count b : ℕ) → body_step (record { place = ChunkCr; count = count; line = [] }) b
    ≡ record { place = cr_place count b; count = count + 1; line = [] }
unfolding body_step step_at
step-ChunkCr count b = refl

step-ChunkLf : (at count b : ℕ) → body_step (record { place = ChunkLf at; count = count; line = [] }) b
    ≡ record { place = lf_place at (count + 1) b; count = count + 1; line = [] }
unfolding body_step step_at
step-ChunkLf at count b = refl

framing-ChunkCr : awaits_payload ChunkCr ≡ false
unfolding awaits_payload
framing-ChunkCr = refl

framing-ChunkLf : (at : ℕ) → awaits_payload (ChunkLf at) ≡ false
unfolding awaits_payload
framing-ChunkLf at = refl

-- the byte after the data
after_data : (at : ℕ) (line content : List ℕ) (b : ℕ) → IsChunkLine line (length content) → 0 < length content
    → Leads (line_begins at) (line ++ content ++ b ∷ []) content
    (record { place = cr_place (at + length line + length content) b; count = at + length line + length content + 1; line = [] })
after_data at line content b x some =
    let count = at + length line + length content in
    leads_before_framing (line_begins at) (record { place = ChunkCr; count = count; line = [] })
    (record { place = cr_place count b; count = count + 1; line = [] }) (line ++ content) (b ∷ []) content (data_whole at line content x some)
    (leads_one (record { place = ChunkCr; count = count; line = [] }) b (record { place = cr_place count b; count = count + 1; line = [] })
    framing-ChunkCr (step-ChunkCr count b))

cr_place-cr : (at : ℕ) → cr_place at 13 ≡ ChunkLf at
unfolding cr_place
cr_place-cr at = refl

cr_place-other : (at b : ℕ) → b ≢ 13 → cr_place at b ≡ Refused (BadChunk at)
unfolding cr_place
cr_place-other at b other = cond-false (eqb b 13) (ChunkLf at) (Refused (BadChunk at)) (ne_eqb b 13 other)

lf_place-lf : (at next : ℕ) → lf_place at next 10 ≡ InChunkLine next
unfolding lf_place
lf_place-lf at next = refl

lf_place-other : (at next b : ℕ) → b ≢ 10 → lf_place at next b ≡ Refused (BadChunk at)
unfolding lf_place
lf_place-other at next b other = cond-false (eqb b 10) (InChunkLine next) (Refused (BadChunk at)) (ne_eqb b 10 other)

-- a chunk without its last LF
pub end_begun : (at : ℕ) (line content : List ℕ) → IsChunkLine line (length content) → 0 < length content
    → Leads (line_begins at) (line ++ content ++ 13 ∷ []) content
    (record { place = ChunkLf (at + length line + length content); count = at + length line + length content + 1; line = [] })
end_begun at line content x some =
    rw (cr_place-cr (at + length line + length content)) at (after_data at line content 13 x some)

-- a byte other than the CR
pub bad_cr : (at : ℕ) (line content : List ℕ) (b : ℕ) → IsChunkLine line (length content) → 0 < length content → b ≢ 13
    → Leads (line_begins at) (line ++ content ++ b ∷ []) content
    (record { place = Refused (BadChunk (at + length line + length content)); count = at + length line + length content + 1; line = [] })
bad_cr at line content b x some other =
    rw (cr_place-other (at + length line + length content) b other) at (after_data at line content b x some)

-- the byte after the CR
after_cr : (at : ℕ) (line content : List ℕ) (b : ℕ) → IsChunkLine line (length content) → 0 < length content
    → Leads (line_begins at) (line ++ content ++ 13 ∷ b ∷ []) content
    (record {
      place = lf_place (at + length line + length content) (at + length line + length content + 1 + 1) b;
      count = at + length line + length content + 1 + 1;
      line = [];
    })
after_cr at line content b x some =
    let cr = at + length line + length content in
    let old : Body = record { place = ChunkLf cr; count = cr + 1; line = [] } in
    let new : Body = record { place = lf_place cr (cr + 1 + 1) b; count = cr + 1 + 1; line = [] } in
    rw (append_assoc (line ++ content) (13 ∷ []) (b ∷ [])) at
    (leads_before_framing (line_begins at) old new (line ++ content ++ 13 ∷ []) (b ∷ []) content (end_begun at line content x some)
    (leads_one old b new (framing-ChunkLf cr) (step-ChunkLf cr (cr + 1) b)))

-- a byte other than the LF
pub bad_lf : (at : ℕ) (line content : List ℕ) (b : ℕ) → IsChunkLine line (length content) → 0 < length content → b ≢ 10
    → Leads (line_begins at) (line ++ content ++ 13 ∷ b ∷ []) content
    (record { place = Refused (BadChunk (at + length line + length content)); count = at + length line + length content + 1 + 1; line = [] })
bad_lf at line content b x some other =
    rw (lf_place-other (at + length line + length content) (at + length line + length content + 1 + 1) b other) at
    (after_cr at line content b x some)

-- ---- whole chunks

pub chunk_whole : (at : ℕ) (c : Chunk) → IsChunk c → Leads (line_begins at) (chunk_bytes c) c.content (line_begins (at + length (chunk_bytes c)))
chunk_whole at c x =
    let cr = at + length c.line + length c.content in
    let counted : cr + 1 + 1 ≡ at + length (chunk_bytes c) = omega (arith, length-append (c.line ++ c.content) crlf_bytes, length-append c.line c.content) in
    rw (lf_place-lf cr (cr + 1 + 1), counted) at (after_cr at c.line c.content 10 x.line x.some)

pub chunks_whole : (at : ℕ) (chunks : List Chunk) → All IsChunk chunks
    → Leads (line_begins at) (chunks_bytes chunks) (chunks_data chunks) (line_begins (at + length (chunks_bytes chunks)))
chunks_whole at [] each = rw (add-zero at) (leads_none (line_begins at))
chunks_whole at (c ∷ chunks) each =
    let middle = at + length (chunk_bytes c) in
    let counted : middle + length (chunks_bytes chunks) ≡ at + length (chunks_bytes (c ∷ chunks)) =
    omega (arith, length-append (chunk_bytes c) (chunks_bytes chunks)) in
    leads_append (line_begins at) (line_begins middle) (line_begins (at + length (chunks_bytes (c ∷ chunks)))) (chunk_bytes c) (chunks_bytes chunks)
    c.content (chunks_data chunks) (chunk_whole at c (All-head IsChunk c chunks each))
    (rw counted at (chunks_whole middle chunks (All-tail IsChunk c chunks each)))
