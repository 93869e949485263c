-- What `httparse` answers says which tree the bytes have, and where they have none.
use Rattle.std.proofs.Common.{◌≡◌, ℕ, ◌<◌, ◌≤◌, ltb, List, [], length, take, drop, refl, sym, ap, ◌∙◌, subst, arith, append-nil, Option, Some, None, Result, Ok, Err, inl, inr, length-take}
use Rattle.std.specs.Prelude.{option_map}
use Rattle.std.proofs.lemmas.Bool.{cases_lt, cond-true, cond-false, lt-ltb, le-ltb}
use Rattle.std.proofs.lemmas.List.{drop_all, length-map}
use Rattle.httparse.specs.declared.Error.{Error}
use Rattle.httparse.specs.declared.Status.{Status}
use Rattle.httparse.specs.declared.Status.TheVariants.{Complete, Partial}
use Rattle.httparse.specs.declared.spans.HeaderSpan.{HeaderSpan}
use Rattle.httparse.specs.declared.spans.RequestSpans.{RequestSpans}
use Rattle.httparse.specs.declared.spans.ResponseSpans.{ResponseSpans}
use Rattle.httparse.specs.Outcome.{IsCompleteAnd}
use Rattle.httparse.specs.Grammar.{Field, RequestHead, ReadsRequest, print_request, ResponseHead, ReadsResponse, print_response, ChunkLine, ReadsChunkLine, print_chunk_line, HasNoChunkLine, NeverHasChunkLine}
use Rattle.httparse.specs.Grammar as grammar
use Rattle.httparse.specs.Spans.{header_bytes, name_and_value, AreFieldsAt, IsRequestAt, IsRequestOf, FindsRequest, IsResponseAt, IsResponseOf, FindsResponse, IsChunkLineAt}
use Rattle.httparse.proofs.ChunkLemmas.{chunk_line_unique}
use Rattle.web_heads.specs.Trees.{request_tree, response_tree}
use Rattle.web_heads.specs.ChunkLines.{most_chunk_line, chunk_line_of, chunk_size}
use Rattle.web_heads.specs.Standard.{IsChunkLine}
use Rattle.web_heads.proofs.StepLemmas.{found_map}
use Rattle.web_heads.proofs.RequestLemmas as request
use Rattle.web_heads.proofs.ResponseLemmas as response
use Rattle.web_heads.proofs.ChunkLemmas as chunk

-- no more fields were found than headers were written
fields_fit : (buf : List ℕ) (headers : List HeaderSpan) (count : ℕ) (fields : List Field) → AreFieldsAt buf headers count fields
    → length headers ≡ 64 → length fields ≤ 64
fields_fit buf headers count fields are room =
    omega (arith, ap length are, length-map (take count headers) (header_bytes buf), length-map fields name_and_value, length-take count headers)

-- ---- requests

pub request_tree-found : (buf : List ℕ) (headers : List HeaderSpan) (spans : RequestSpans) → IsRequestOf buf headers spans
    → spans.len ≡ length buf → length headers ≡ 64
    → (h : RequestHead) × (request_tree buf ≡ Some h) × IsRequestAt buf headers spans h
request_tree-found buf headers spans x whole room =
    let nothing : drop spans.len buf ≡ [] = drop_all spans.len buf (omega arith) in
    let reads : ReadsRequest buf x.0 [] = subst (ReadsRequest buf x.0) nothing x.1.reads in
    (x.0, request.complete buf x.0 reads (fields_fit buf headers spans.headers x.0.fields x.1.fields room), x.1)

-- the answer is complete, with all of the bytes
abbrev pub IsWholeRequest : List ℕ → Result (Status RequestSpans) Error → Type 0
IsWholeRequest buf (Ok (Complete spans)) = spans.len ≡ length buf
IsWholeRequest buf (Ok Partial) = ⊥
IsWholeRequest buf (Err e) = ⊥

request_whole : (buf : List ℕ) (headers : List HeaderSpan) (r : Result (Status RequestSpans) Error) (h : RequestHead)
    → ReadsRequest buf h [] → IsCompleteAnd r (λ spans. IsRequestAt buf headers spans h) → IsWholeRequest buf r
request_whole buf headers (Ok (Complete spans)) h reads at = at.len ∙ sym (ap length (reads.1 ∙ append-nil (print_request h)))
request_whole buf headers (Ok Partial) h reads at = at
request_whole buf headers (Err e) h reads at = at

pub request_tree-none : (buf : List ℕ) (headers : List HeaderSpan) (r : Result (Status RequestSpans) Error) → FindsRequest buf 64 headers r
    → (IsWholeRequest buf r → ⊥) → request_tree buf ≡ None
request_tree-none buf headers r finds other = by_tree (request_tree buf) refl
  where
    by_tree : (o : Option RequestHead) → request_tree buf ≡ o → o ≡ None
    by_tree None e = refl
    by_tree (Some h) e =
        let x = request.sound buf h e in
        absurd (other (request_whole buf headers r h x.0 (finds h [] x.0 x.1)))

-- ---- responses

pub response_tree-found : (buf : List ℕ) (headers : List HeaderSpan) (spans : ResponseSpans) → IsResponseOf buf headers spans
    → spans.len ≡ length buf → length headers ≡ 64
    → (h : ResponseHead) × (response_tree buf ≡ Some h) × IsResponseAt buf headers spans h
response_tree-found buf headers spans x whole room =
    let nothing : drop spans.len buf ≡ [] = drop_all spans.len buf (omega arith) in
    let reads : ReadsResponse buf x.0 [] = subst (ReadsResponse buf x.0) nothing x.1.reads in
    (x.0, response.complete buf x.0 reads (fields_fit buf headers spans.headers x.0.fields x.1.fields room), x.1)

-- the answer is complete, with all of the bytes
abbrev pub IsWholeResponse : List ℕ → Result (Status ResponseSpans) Error → Type 0
IsWholeResponse buf (Ok (Complete spans)) = spans.len ≡ length buf
IsWholeResponse buf (Ok Partial) = ⊥
IsWholeResponse buf (Err e) = ⊥

response_whole : (buf : List ℕ) (headers : List HeaderSpan) (r : Result (Status ResponseSpans) Error) (h : ResponseHead)
    → ReadsResponse buf h [] → IsCompleteAnd r (λ spans. IsResponseAt buf headers spans h) → IsWholeResponse buf r
response_whole buf headers (Ok (Complete spans)) h reads at = at.len ∙ sym (ap length (reads.1 ∙ append-nil (print_response h)))
response_whole buf headers (Ok Partial) h reads at = at
response_whole buf headers (Err e) h reads at = at

pub response_tree-none : (buf : List ℕ) (headers : List HeaderSpan) (r : Result (Status ResponseSpans) Error) → FindsResponse buf 64 headers r
    → (IsWholeResponse buf r → ⊥) → response_tree buf ≡ None
response_tree-none buf headers r finds other = by_tree (response_tree buf) refl
  where
    by_tree : (o : Option ResponseHead) → response_tree buf ≡ o → o ≡ None
    by_tree None e = refl
    by_tree (Some h) e =
        let x = response.sound buf h e in
        absurd (other (response_whole buf headers r h x.0 (finds h [] x.0 x.1)))

-- ---- chunk lines

pub chunk_size-long : (buf : List ℕ) → 256 < length buf → chunk_size buf ≡ None
unfolding chunk_size
chunk_size-long buf long = cond-true (ltb most_chunk_line (length buf)) None (option_map grammar.chunk_size (chunk_line_of buf)) (lt-ltb most_chunk_line (length buf) long)

chunk_size-short : (buf : List ℕ) → length buf ≤ 256 → chunk_size buf ≡ option_map grammar.chunk_size (chunk_line_of buf)
unfolding chunk_size
chunk_size-short buf short = cond-false (ltb most_chunk_line (length buf)) None (option_map grammar.chunk_size (chunk_line_of buf)) (le-ltb most_chunk_line (length buf) short)

pub chunk_size-found : (buf : List ℕ) (len size : ℕ) → (l : ChunkLine) × IsChunkLineAt buf len size l → len ≡ length buf → length buf ≤ 256
    → Some size ≡ chunk_size buf
chunk_size-found buf len size x whole short =
    let nothing : drop len buf ≡ [] = drop_all len buf (omega arith) in
    let reads : ReadsChunkLine buf x.0 [] = subst (ReadsChunkLine buf x.0) nothing x.1.reads in
    sym (chunk_size-short buf short ∙ ap (option_map grammar.chunk_size) (chunk.complete buf x.0 reads) ∙ ap (λ (n : ℕ). Some n) (sym x.1.size_is))

pub chunk_size-none : (buf : List ℕ) → ((l : ChunkLine) → ReadsChunkLine buf l [] → ⊥) → length buf ≤ 256 → None ≡ chunk_size buf
chunk_size-none buf none short = sym (chunk_size-short buf short ∙ ap (option_map grammar.chunk_size) (by_line (chunk_line_of buf) refl))
  where
    by_line : (o : Option ChunkLine) → chunk_line_of buf ≡ o → o ≡ None
    by_line None e = refl
    by_line (Some l) e = absurd (none l (chunk.sound buf l e))

-- a line that ends earlier is not the whole
pub chunk_size-partly : (buf : List ℕ) (len size : ℕ) → (l : ChunkLine) × IsChunkLineAt buf len size l → (len ≡ length buf → ⊥) → length buf ≤ 256
    → None ≡ chunk_size buf
chunk_size-partly buf len size x other = chunk_size-none buf λ l reads.
    let same = chunk_line_unique buf x.0 l (drop len buf) [] x.1.reads reads in
    other (x.1.len_is ∙ ap (λ (m : ChunkLine). length (print_chunk_line m)) same.0 ∙ sym (ap length (reads.1 ∙ append-nil (print_chunk_line l))))

-- ---- sizes

pub size_sound : (buf : List ℕ) (size : ℕ) → chunk_size buf ≡ Some size → IsChunkLine buf size
size_sound buf size e = elim (cases_lt most_chunk_line (length buf)) [
  | inl long ↦ let none = chunk_size-long buf long in absurd (cc)
  | inr short ↦
      let p = found_map (chunk_line_of buf) grammar.chunk_size size (sym (chunk_size-short buf short) ∙ e) in
      record { line = p.0; reads = chunk.sound buf p.0 p.1; short = short; size_is = sym p.2 }
]

pub size_complete : (buf : List ℕ) (size : ℕ) → IsChunkLine buf size → chunk_size buf ≡ Some size
size_complete buf size x =
    chunk_size-short buf x.short ∙ ap (option_map grammar.chunk_size) (chunk.complete buf x.line x.reads) ∙ ap (λ (n : ℕ). Some n) (sym x.size_is)

-- a size that the function does not give is none
pub size_none : (buf : List ℕ) → None ≡ chunk_size buf → (size : ℕ) → ¬ (IsChunkLine buf size)
size_none buf none size x = let found = size_complete buf size x in absurd (cc)
