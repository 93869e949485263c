-- One byte more of a beginning leads to a beginning, to a body, or to a fault; so all bytes are one of the three.
use Rattle.std.proofs.Common.{◌≡◌, ◌≢◌, ℕ, ◌+◌, ◌<◌, ◌≤◌, List, [], ◌∷◌, ◌++◌, length, take, drop, refl, sym, ap, ◌∙◌, arith, append_assoc, append-nil, length-append, length-take, take-append-drop, inl, inr, Option, Some, None}
use Rattle.std.specs.List.{All}
use Rattle.std.proofs.lemmas.Bool.{cases_eq, cases_lt}
use Rattle.std.proofs.lemmas.List.Concat.{flat_map-append}
use Rattle.std.proofs.lemmas.List.Elements.{All-nil, All-push}
use Rattle.httparse.specs.Ascii.{crlf_bytes}
use Rattle.web_heads.specs.declared.body.BodyKind.{BodyKind}
use Rattle.web_heads.specs.declared.body.BodyKind.TheVariants.{Length, Chunks, ToEnd}
use Rattle.web_heads.specs.ChunkLines.{chunk_size}
use Rattle.web_heads.specs.Standard.{IsChunkLine}
use Rattle.web_heads.proofs.Answered.{size_sound, size_complete}
use Rattle.web_heads.proofs.EndLemmas.{EndsLines-within}
use Rattle.web_bodies.specs.declared.fault.BodyFault.{BodyFault}
use Rattle.web_bodies.specs.declared.fault.BodyFault.TheVariants.{BadChunk, HeadTooLong}
use Rattle.web_bodies.specs.Standard.{Chunk, IsChunk, chunk_bytes, chunks_bytes, chunks_data, HasNoEmptyLine, IsTrailerSection, IsChunkedBody, HasBody, IsPart, in_line, in_data, in_end, in_trailers, IsChunkedPart, IsBegun, IsPartFault, no_line, no_cr, no_lf, too_long, IsChunkedFault, HasFault}
use Rattle.web_bodies.proofs.LineRuns.{IsInLine}
use Rattle.web_bodies.proofs.TrailerRuns.{goes_on, ends, section_goes}

-- what stands after the last whole chunk, with one byte more
data PartGrown (at : ℕ) (rest : List ℕ) : Type 0 where
  part : (content : List ℕ) → IsPart rest content → PartGrown at rest
  chunk : (c : Chunk) → IsChunk c → rest ≡ chunk_bytes c → PartGrown at rest
  whole : (last trailers : List ℕ) → IsChunkLine last 0 → IsTrailerSection trailers → rest ≡ last ++ trailers → PartGrown at rest
  fault : (content : List ℕ) (fault : BodyFault) → IsPartFault at rest content fault → PartGrown at rest

-- ---- in a chunk line

-- no trailers yet
no_empty_line : HasNoEmptyLine []
no_empty_line at found = let within = EndsLines-within crlf_bytes at found in absurd (omega arith)

-- the line is whole
line_grown : (at : ℕ) (text : List ℕ) (size : Option ℕ) → All IsInLine text → length text ≤ 256 → chunk_size (text ++ 10 ∷ []) ≡ size
    → PartGrown at (text ++ 10 ∷ [])
line_grown at text None one_line short e = fault [] (BadChunk at) (no_line (record {
  text = text;
  last = 10;
  bytes_are = refl;
  one_line = one_line;
  short = short;
  judged = inl refl;
  none = λ size line. let found = size_complete (text ++ 10 ∷ []) size line in absurd (cc);
}) refl refl)
line_grown at text (Some size) one_line short e =
    let line = size_sound (text ++ 10 ∷ []) size e in
    elim (cases_eq size 0) [
      | inl last ↦ part [] (in_trailers (text ++ 10 ∷ []) [] (rw last at line) no_empty_line (omega arith) (sym (append-nil (text ++ 10 ∷ []))) refl)
      | inr more ↦ part [] (in_data (text ++ 10 ∷ []) size line (omega arith) (omega arith) (sym (append-nil (text ++ 10 ∷ []))))
    ]

in_line_grows : (at : ℕ) (rest : List ℕ) (b : ℕ) → All IsInLine rest → length rest ≤ 256 → PartGrown at (rest ++ b ∷ [])
in_line_grows at rest b one_line short = elim (cases_eq b 10) [
  | inl lf ↦ rw lf (line_grown at rest (chunk_size (rest ++ 10 ∷ [])) one_line short refl)
  | inr other ↦ elim (cases_lt (length rest) 256) [
    | inl shorter ↦ part [] (in_line (All-push IsInLine rest b one_line other) (omega (arith, length-append rest (b ∷ []))) refl)
    | inr full ↦ fault [] (BadChunk at) (no_line (record {
      text = rest;
      last = b;
      bytes_are = refl;
      one_line = one_line;
      short = short;
      judged = inr (omega arith);
      none = λ size line. let limit = line.short in absurd (omega (arith, length-append rest (b ∷ [])));
    }) refl refl)
  ]
]

-- ---- in a chunk

in_data_grows : (at : ℕ) (line : List ℕ) (size : ℕ) (content : List ℕ) (b : ℕ) → IsChunkLine line size → 0 < size → length content ≤ size
    → PartGrown at (line ++ content ++ b ∷ [])
in_data_grows at line size content b x some fits = elim (cases_lt (length content) size) [
  | inl less ↦ part (content ++ b ∷ [])
      (in_data line size x some (omega (arith, length-append content (b ∷ []))) (append_assoc line content (b ∷ [])))
  | inr all ↦
      let whole : size ≡ length content = omega arith in
      let line_is : IsChunkLine line (length content) = rw whole at x in
      elim (cases_eq b 13) [
        | inl cr ↦ part content (in_end line line_is (omega arith) (ap (λ (c : ℕ). line ++ content ++ c ∷ []) cr))
        | inr other ↦ fault content (BadChunk (at + length (line ++ content))) (no_cr line b line_is (omega arith) other refl refl)
      ]
]

in_end_grows : (at : ℕ) (line content : List ℕ) (b : ℕ) → IsChunkLine line (length content) → 0 < length content
    → PartGrown at (line ++ content ++ 13 ∷ [] ++ b ∷ [])
in_end_grows at line content b x some =
    let joined : line ++ content ++ 13 ∷ [] ++ b ∷ [] ≡ line ++ content ++ 13 ∷ b ∷ [] = append_assoc (line ++ content) (13 ∷ []) (b ∷ []) in
    elim (cases_eq b 10) [
      | inl lf ↦ chunk (record { line = line; content = content }) (record { line = x; some = some })
          (joined ∙ ap (λ (c : ℕ). line ++ content ++ 13 ∷ c ∷ []) lf)
      | inr other ↦ fault content (BadChunk (at + length (line ++ content))) (no_lf line b x some other joined refl)
    ]

in_trailers_grows : (at : ℕ) (line trailers : List ℕ) (b : ℕ) → IsChunkLine line 0 → HasNoEmptyLine trailers → length trailers < 16384
    → PartGrown at (line ++ trailers ++ b ∷ [])
in_trailers_grows at line trailers b x none short = elim (section_goes trailers b none short) [
  | goes_on still_none ↦ elim (cases_lt (length trailers + 1) 16384) [
    | inl shorter ↦ part []
        (in_trailers line (trailers ++ b ∷ []) x still_none (omega (arith, length-append trailers (b ∷ []))) (append_assoc line trailers (b ∷ [])) refl)
    | inr full ↦ fault [] HeadTooLong
        (too_long line (trailers ++ b ∷ []) x still_none (omega (arith, length-append trailers (b ∷ []))) (append_assoc line trailers (b ∷ [])) refl refl)
  ]
  | ends section ↦ whole line (trailers ++ b ∷ []) x section (append_assoc line trailers (b ∷ []))
]

part_grows : (at : ℕ) (rest content : List ℕ) (b : ℕ) → IsPart rest content → PartGrown at (rest ++ b ∷ [])
part_grows at rest content b (in_line one_line short none) = in_line_grows at rest b one_line short
part_grows at rest content b (in_data line size x some fits is) = rw is (in_data_grows at line size content b x some fits)
part_grows at rest content b (in_end line x some is) = rw is (in_end_grows at line content b x some)
part_grows at rest content b (in_trailers line trailers x none short is empty) = rw is (in_trailers_grows at line trailers b x none short)

-- ---- chunked bodies

pub data Grown (at : ℕ) (bytes : List ℕ) : Type 0 where
  still_begun : (payload : List ℕ) → IsChunkedPart bytes payload → Grown at bytes
  now_over : (payload : List ℕ) → IsChunkedBody bytes payload → Grown at bytes
  now_refused : (payload : List ℕ) (fault : BodyFault) → IsChunkedFault at bytes payload fault → Grown at bytes

-- one chunk more
chunks_push : (chunks : List Chunk) (c : Chunk) → chunks_bytes (chunks ++ c ∷ []) ≡ chunks_bytes chunks ++ chunk_bytes c
chunks_push chunks c =
    flat_map-append chunk_bytes chunks (c ∷ []) ∙ ap (λ (last : List ℕ). chunks_bytes chunks ++ last) (append-nil (chunk_bytes c))

grown_from : (at : ℕ) (chunks : List Chunk) (rest : List ℕ) → All IsChunk chunks → PartGrown (at + length (chunks_bytes chunks)) rest
    → Grown at (chunks_bytes chunks ++ rest)
grown_from at chunks rest each (part content x) = still_begun (chunks_data chunks ++ content) (record {
  chunks = chunks;
  each = each;
  rest = rest;
  content = content;
  part = x;
  bytes_are = refl;
  payload_is = refl;
})
grown_from at chunks rest each (chunk c x is) = still_begun (chunks_data (chunks ++ c ∷ []) ++ []) (record {
  chunks = chunks ++ c ∷ [];
  each = All-push IsChunk chunks c each x;
  rest = [];
  content = [];
  part = in_line (All-nil IsInLine) (omega arith) refl;
  bytes_are =
      ap (λ (last : List ℕ). chunks_bytes chunks ++ last) is ∙ sym (chunks_push chunks c) ∙ sym (append-nil (chunks_bytes (chunks ++ c ∷ [])));
  payload_is = refl;
})
grown_from at chunks rest each (whole last trailers x section is) = now_over (chunks_data chunks) (record {
  chunks = chunks;
  each = each;
  last = last;
  last_line = x;
  trailers = trailers;
  section = section;
  bytes_are = ap (λ (end : List ℕ). chunks_bytes chunks ++ end) is;
  payload_is = refl;
})
grown_from at chunks rest each (fault content wrong x) = now_refused (chunks_data chunks ++ content) wrong (record {
  chunks = chunks;
  each = each;
  rest = rest;
  content = content;
  part = x;
  bytes_are = refl;
  payload_is = refl;
})

grows : (at : ℕ) (bytes payload : List ℕ) (b : ℕ) → IsChunkedPart bytes payload → Grown at (bytes ++ b ∷ [])
grows at bytes payload b x =
    let moved : bytes ++ b ∷ [] ≡ chunks_bytes x.chunks ++ (x.rest ++ b ∷ []) =
    ap (λ (all : List ℕ). all ++ b ∷ []) x.bytes_are ∙ append_assoc (chunks_bytes x.chunks) x.rest (b ∷ []) in
    rw moved (grown_from at x.chunks (x.rest ++ b ∷ []) x.each
    (part_grows (at + length (chunks_bytes x.chunks)) x.rest x.content b x.part))

-- ---- all bytes

pub data Found (kind : BodyKind) (at : ℕ) (bytes : List ℕ) : Type 0 where
  begun : (payload : List ℕ) → IsBegun kind bytes payload → Found kind at bytes
  over : (payload : List ℕ) → HasBody kind bytes payload → Found kind at bytes
  refused : (payload : List ℕ) (fault : BodyFault) → HasFault kind at bytes payload fault → Found kind at bytes

chunks_framed : Chunks ≢ ToEnd
chunks_framed e = cc

pub length_framed : (count : ℕ) → Length count ≢ ToEnd
length_framed count e = cc

-- by what one byte more leads to
grown_found : (at : ℕ) (front back : List ℕ) → Grown at front → ((payload : List ℕ) → IsChunkedPart front payload → Found Chunks at (front ++ back))
    → Found Chunks at (front ++ back)
grown_found at front back (still_begun payload x) on = on payload x
grown_found at front back (now_over payload x) on =
    over payload (record { framed = chunks_framed; body = front; rest = back; bytes_are = refl; is_body = x })
grown_found at front back (now_refused payload wrong x) on =
    refused payload wrong (record { settled = front; rest = back; bytes_are = refl; is_fault = x })

chunked_on : (at : ℕ) (front back payload : List ℕ) → IsChunkedPart front payload → Found Chunks at (front ++ back)
chunked_on at front [] payload x = rw (append-nil front) (begun payload x)
chunked_on at front (b ∷ back) payload x =
    rw (← append_assoc front (b ∷ []) back)
    (grown_found at (front ++ b ∷ []) back (grows at front payload b x) (λ more y. chunked_on at (front ++ b ∷ []) back more y))

chunked_none : IsChunkedPart [] []
chunked_none = record {
  chunks = [];
  each = All-nil IsChunk;
  rest = [];
  content = [];
  part = in_line (All-nil IsInLine) (omega arith) refl;
  bytes_are = refl;
  payload_is = refl;
}

pub found_in : (kind : BodyKind) (at : ℕ) (bytes : List ℕ) → Found kind at bytes
found_in (Length count) at bytes = elim (cases_lt (length bytes) count) [
  | inl less ↦ begun bytes (refl, less)
  | inr all ↦ over (take count bytes) (record {
    framed = length_framed count;
    body = take count bytes;
    rest = drop count bytes;
    bytes_are = sym (take-append-drop count bytes);
    is_body = (refl, omega (arith, length-take count bytes));
  })
]
found_in Chunks at bytes = chunked_on at [] bytes [] chunked_none
found_in ToEnd at bytes = begun bytes refl
