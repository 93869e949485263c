-- What the standard says of bytes is where the machine is after them: beginnings, bodies and faults.
use Rattle.std.proofs.Common.{◌≡◌, ◌≢◌, ℕ, ◌+◌, ◌-◌, ◌<◌, ◌≤◌, true, eqb, List, [], ◌∷◌, ◌++◌, length, refl, sym, ap, ◌∙◌, subst, arith, append-nil, length-append, ◌⊎◌, inl, inr, Option, Some, None}
use Rattle.std.specs.List.{All}
use Rattle.std.proofs.lemmas.Bool.{cond_both, cases_eq}
use Rattle.web_heads.specs.declared.body.BodyKind.{BodyKind}
use Rattle.web_heads.specs.declared.body.BodyKind.TheVariants.{Length, Chunks, ToEnd}
use Rattle.web_heads.specs.ChunkLines.{chunk_size}
use Rattle.web_heads.specs.Standard.{IsChunkLine}
use Rattle.web_heads.proofs.Answered.{size_sound}
use Rattle.web_bodies.specs.declared.fault.BodyFault.{BodyFault}
use Rattle.web_bodies.specs.declared.fault.BodyFault.TheVariants.{BadChunk, HeadTooLong}
use Rattle.web_bodies.specs.declared.place.BodyPlace.{BodyPlace}
use Rattle.web_bodies.specs.declared.place.BodyPlace.TheVariants.{DataToEnd, ChunkLine as InChunkLine, ChunkData, ChunkCr, ChunkLf, Trailers, Over, Refused}
use Rattle.web_bodies.specs.declared.place.TrailerPlace.TheVariants.{LineStart}
use Rattle.web_bodies.specs.Body.{Body}
use Rattle.web_bodies.specs.Steps.{length_place, data_place, size_place, line_place, first_place, begin, after, payload_after}
use Rattle.web_bodies.specs.Standard.{Chunk, IsChunk, chunks_bytes, chunks_data, IsChunkedBody, IsBody, HasBody, IsPart, in_line, in_data, in_end, in_trailers, IsChunkedPart, IsBegun, IsNoChunkLine, IsPartFault, no_line, no_cr, no_lf, too_long, IsChunkedFault, IsBodyFault, HasFault}
use Rattle.web_bodies.specs.Laws.{is_open}
use Rattle.web_bodies.proofs.Runs.{after-length_place, after-DataToEnd, length_place-left, after-Over, after-Refused}
use Rattle.web_bodies.proofs.Leads.{Leads, leads_append, leads_payload, leads_after_framing, leads_before_framing}
use Rattle.web_bodies.proofs.LineRuns.{line_begun, line_ended, line_too_long, line_read}
use Rattle.web_bodies.proofs.TrailerRuns.{section_begun, section_ended, section_too_long}
use Rattle.web_bodies.proofs.ChunkRuns.{line_begins, data_begun, end_begun, bad_cr, bad_lf, chunks_whole}

-- bytes lead to a place with this property, with a payload, and each is counted
pub record LeadsTo (P : BodyPlace → Type 0) (old : Body) (bytes payload : List ℕ) : Type 0 where
  pub new : Body
  pub leads : Leads old bytes payload new
  pub there : P new.place
  pub counted : new.count ≡ old.count + length bytes

abbrev pub IsOpen : BodyPlace → Type 0
IsOpen place = is_open place ≡ true

abbrev pub IsOver : BodyPlace → Type 0
IsOver place = place ≡ Over

abbrev pub IsRefused : BodyFault → BodyPlace → Type 0
IsRefused fault place = place ≡ Refused fault

-- ---- chunks

-- whole chunks before what leads there
after_chunks : (P : BodyPlace → Type 0) (at : ℕ) (chunks : List Chunk) (rest content : List ℕ) → All IsChunk chunks
    → LeadsTo P (line_begins (at + length (chunks_bytes chunks))) rest content
    → LeadsTo P (line_begins at) (chunks_bytes chunks ++ rest) (chunks_data chunks ++ content)
after_chunks P at chunks rest content each x = record {
  new = x.new;
  leads =
      leads_append (line_begins at) (line_begins (at + length (chunks_bytes chunks))) x.new (chunks_bytes chunks) rest (chunks_data chunks) content
      (chunks_whole at chunks each) x.leads;
  there = x.there;
  counted = let counted = x.counted in omega (arith, length-append (chunks_bytes chunks) rest);
}

-- the last chunk line before what leads there
after_last : (P : BodyPlace → Type 0) (at : ℕ) (line trailers : List ℕ) (new : Body) → IsChunkLine line 0
    → Leads (record { place = Trailers 0 LineStart; count = at + length line; line = [] }) trailers [] new
    → P new.place → new.count ≡ at + length line + length trailers → LeadsTo P (line_begins at) (line ++ trailers) []
unfolding size_place
after_last P at line trailers new x run there counted = record {
  new = new;
  leads =
      leads_after_framing (line_begins at) (record { place = Trailers 0 LineStart; count = at + length line; line = [] }) new line trailers []
      (line_read at line 0 x) run;
  there = there;
  counted = omega (arith, length-append line trailers);
}

open_data_place : (left : ℕ) → IsOpen (data_place left)
unfolding data_place
open_data_place left = cond_both (eqb left 0) ChunkCr (ChunkData left) IsOpen (λ e. refl) (λ e. refl)

part_open : (at : ℕ) (rest content : List ℕ) → IsPart rest content → LeadsTo IsOpen (line_begins at) rest content
part_open at rest content (in_line one_line short none) = rw none (record {
  new = record { place = InChunkLine at; count = at + length rest; line = rest };
  leads = line_begun at rest one_line short;
  there = refl;
  counted = refl;
})
part_open at rest content (in_data line size x some fits is) = rw is (record {
  new = record { place = data_place (size - length content); count = at + length line + length content; line = [] };
  leads = data_begun at line size content x some fits;
  there = open_data_place (size - length content);
  counted = omega (arith, length-append line content);
})
part_open at rest content (in_end line x some is) = rw is (record {
  new = record { place = ChunkLf (at + length line + length content); count = at + length line + length content + 1; line = [] };
  leads = end_begun at line content x some;
  there = refl;
  counted = omega (arith, length-append (line ++ content) (13 ∷ []), length-append line content);
})
part_open at rest content (in_trailers line trailers x none short is empty) =
    let run = section_begun (at + length line) trailers none short in
    rw (is, empty) (after_last IsOpen at line trailers
    (record { place = Trailers (length trailers) run.line; count = at + length line + length trailers; line = [] }) x run.leads refl refl)

-- bytes that are no chunk line give no size
chunk_size-None : (line : List ℕ) → ((size : ℕ) → ¬ (IsChunkLine line size)) → chunk_size line ≡ None
chunk_size-None line none = go (chunk_size line) refl
  where
    go : (o : Option ℕ) → chunk_size line ≡ o → chunk_size line ≡ None
    go None e = e
    go (Some size) e = absurd (none size (size_sound line size e))

line_refused : (at : ℕ) (text : List ℕ) (last : ℕ) → All (λ b. b ≢ 10) text → length text ≤ 256 → (last ≡ 10) ⊎ (length text ≡ 256)
    → ((size : ℕ) → ¬ (IsChunkLine (text ++ last ∷ []) size)) → LeadsTo (IsRefused (BadChunk at)) (line_begins at) (text ++ last ∷ []) []
unfolding line_place
line_refused at text last one_line short judged none = elim (cases_eq last 10) [
  | inl lf ↦
      let lf_none : chunk_size (text ++ 10 ∷ []) ≡ None = rw lf at (chunk_size-None (text ++ last ∷ []) none) in
      rw lf (record {
        new = record { place = line_place at (chunk_size (text ++ 10 ∷ [])); count = at + length (text ++ 10 ∷ []); line = [] };
        leads = line_ended at text one_line short;
        there = ap (line_place at) lf_none;
        counted = refl;
      })
  | inr other ↦
      let full : length text ≡ 256 = elim judged [ inl lf ↦ absurd (other lf) | inr full ↦ full ] in
      record {
        new = record { place = Refused (BadChunk at); count = at + length (text ++ last ∷ []); line = [] };
        leads = line_too_long at text last one_line full other;
        there = refl;
        counted = refl;
      }
]

no_line_refused : (at : ℕ) (rest : List ℕ) → IsNoChunkLine rest → LeadsTo (IsRefused (BadChunk at)) (line_begins at) rest []
no_line_refused at rest x =
    subst (λ (all : List ℕ). LeadsTo (IsRefused (BadChunk at)) (line_begins at) all []) (sym x.bytes_are)
    (line_refused at x.text x.last x.one_line x.short x.judged (λ size line. x.none size (rw (← x.bytes_are) at line)))

part_refused : (at : ℕ) (rest content : List ℕ) (fault : BodyFault) → IsPartFault at rest content fault
    → LeadsTo (IsRefused fault) (line_begins at) rest content
part_refused at rest content fault (no_line x empty is) = rw (is, empty) (no_line_refused at rest x)
part_refused at rest content fault (no_cr line other x some differs is e) = rw (is, e) (record {
  new = record { place = Refused (BadChunk (at + length line + length content)); count = at + length line + length content + 1; line = [] };
  leads = bad_cr at line content other x some differs;
  there = ap (λ (n : ℕ). Refused (BadChunk n)) (omega (arith, length-append line content));
  counted = omega (arith, length-append (line ++ content) (other ∷ []), length-append line content);
})
part_refused at rest content fault (no_lf line other x some differs is e) = rw (is, e) (record {
  new = record { place = Refused (BadChunk (at + length line + length content)); count = at + length line + length content + 1 + 1; line = [] };
  leads = bad_lf at line content other x some differs;
  there = ap (λ (n : ℕ). Refused (BadChunk n)) (omega (arith, length-append line content));
  counted = omega (arith, length-append (line ++ content) (13 ∷ other ∷ []), length-append line content);
})
part_refused at rest content fault (too_long line trailers x none full is empty e) =
    rw (is, empty, e) (after_last (IsRefused HeadTooLong) at line trailers
    (record { place = Refused HeadTooLong; count = at + length line + length trailers; line = [] }) x
    (section_too_long (at + length line) trailers none full) refl refl)

-- ---- whole bodies

chunked_over : (at : ℕ) (bytes payload : List ℕ) → IsChunkedBody bytes payload → LeadsTo IsOver (line_begins at) bytes payload
chunked_over at bytes payload x =
    let start = at + length (chunks_bytes x.chunks) in
    let end = after_last IsOver start x.last x.trailers (record { place = Over; count = start + length x.last + length x.trailers; line = [] }) x.last_line
    (section_ended (start + length x.last) x.trailers x.section) refl refl in
    rw (x.bytes_are, x.payload_is, ← append-nil (chunks_data x.chunks)) (after_chunks IsOver at x.chunks (x.last ++ x.trailers) [] x.each end)

length_over : length_place 0 ≡ Over
unfolding length_place
length_over = refl

pub body_over : (kind : BodyKind) (at : ℕ) (bytes payload : List ℕ) → kind ≢ ToEnd → IsBody kind bytes payload
    → LeadsTo IsOver (begin kind at) bytes payload
unfolding begin first_place
body_over (Length count) at bytes payload framed (same, whole) =
    let fits : length bytes ≤ count = omega arith in
    let none_left : count - length bytes ≡ 0 = omega arith in
    rw same (record {
      new = record { place = length_place (count - length bytes); count = at + length bytes; line = [] };
      leads =
          leads_payload (begin (Length count) at) bytes (record { place = length_place (count - length bytes); count = at + length bytes; line = [] })
          (after-length_place count at [] bytes fits);
      there = ap length_place none_left ∙ length_over;
      counted = refl;
    })
body_over Chunks at bytes payload framed x = chunked_over at bytes payload x
body_over ToEnd at bytes payload framed x = absurd (framed refl)

-- ---- beginnings

chunked_open : (at : ℕ) (bytes payload : List ℕ) → IsChunkedPart bytes payload → LeadsTo IsOpen (line_begins at) bytes payload
chunked_open at bytes payload x =
    rw (x.bytes_are, x.payload_is)
    (after_chunks IsOpen at x.chunks x.rest x.content x.each (part_open (at + length (chunks_bytes x.chunks)) x.rest x.content x.part))

pub begun_open : (kind : BodyKind) (at : ℕ) (bytes payload : List ℕ) → IsBegun kind bytes payload → LeadsTo IsOpen (begin kind at) bytes payload
unfolding begin first_place
begun_open (Length count) at bytes payload (same, less) =
    let fits : length bytes ≤ count = omega arith in
    let left : 0 < count - length bytes = omega arith in
    rw same (record {
      new = record { place = length_place (count - length bytes); count = at + length bytes; line = [] };
      leads =
          leads_payload (begin (Length count) at) bytes (record { place = length_place (count - length bytes); count = at + length bytes; line = [] })
          (after-length_place count at [] bytes fits);
      there = rw (length_place-left (count - length bytes) left) refl;
      counted = refl;
    })
begun_open Chunks at bytes payload x = chunked_open at bytes payload x
begun_open ToEnd at bytes payload same =
    rw same (record {
      new = record { place = DataToEnd; count = at + length bytes; line = [] };
      leads = leads_payload (begin ToEnd at) bytes (record { place = DataToEnd; count = at + length bytes; line = [] }) (after-DataToEnd at [] bytes);
      there = refl;
      counted = refl;
    })

-- ---- faults

chunked_refused : (at : ℕ) (bytes payload : List ℕ) (fault : BodyFault) → IsChunkedFault at bytes payload fault
    → LeadsTo (IsRefused fault) (line_begins at) bytes payload
chunked_refused at bytes payload fault x =
    rw (x.bytes_are, x.payload_is)
    (after_chunks (IsRefused fault) at x.chunks x.rest x.content x.each
    (part_refused (at + length (chunks_bytes x.chunks)) x.rest x.content fault x.part))

pub fault_refused : (kind : BodyKind) (at : ℕ) (bytes payload : List ℕ) (fault : BodyFault) → IsBodyFault kind at bytes payload fault
    → LeadsTo (IsRefused fault) (begin kind at) bytes payload
unfolding begin first_place
fault_refused (Length count) at bytes payload fault x = absurd x
fault_refused Chunks at bytes payload fault x = chunked_refused at bytes payload fault x
fault_refused ToEnd at bytes payload fault x = absurd x

-- ---- bytes after the end

-- the machine is where the end is, and its count is the place after it
pub record Settles (P : BodyPlace → Type 0) (old : Body) (bytes payload settled : List ℕ) : Type 0 where
  pub there : P (after old bytes).place
  pub payload_is : payload_after old bytes ≡ payload
  pub counted : (after old bytes).count ≡ old.count + length settled

settles : (P : BodyPlace → Type 0) (old : Body) (settled rest payload : List ℕ) (x : LeadsTo P old settled payload)
    → (after x.new rest ≡ x.new) × (payload_after x.new rest ≡ []) → Settles P old (settled ++ rest) payload settled
settles P old settled rest payload x stays =
    let run = leads_before_framing old x.new x.new settled rest payload x.leads (record { state = stays.0; payload_is = stays.1 }) in
    record {
      there = subst (λ (b : Body). P b.place) (sym run.state) x.there;
      payload_is = run.payload_is;
      counted = ap (λ (b : Body). b.count) run.state ∙ x.counted;
    }

pub body_settles : (kind : BodyKind) (at : ℕ) (bytes payload : List ℕ) (x : HasBody kind bytes payload)
    → Settles IsOver (begin kind at) bytes payload x.body
body_settles kind at bytes payload x =
    let run = body_over kind at x.body payload x.framed x.is_body in
    subst (λ (all : List ℕ). Settles IsOver (begin kind at) all payload x.body) (sym x.bytes_are)
    (settles IsOver (begin kind at) x.body x.rest payload run (after-Over run.new x.rest run.there))

pub fault_settles : (kind : BodyKind) (at : ℕ) (bytes payload : List ℕ) (fault : BodyFault) (x : HasFault kind at bytes payload fault)
    → Settles (IsRefused fault) (begin kind at) bytes payload x.settled
fault_settles kind at bytes payload fault x =
    let run = fault_refused kind at x.settled payload fault x.is_fault in
    subst (λ (all : List ℕ). Settles (IsRefused fault) (begin kind at) all payload x.settled) (sym x.bytes_are)
    (settles (IsRefused fault) (begin kind at) x.settled x.rest payload run (after-Refused run.new x.rest fault run.there))

pub begun_settles : (kind : BodyKind) (at : ℕ) (bytes payload : List ℕ) → IsBegun kind bytes payload
    → Settles IsOpen (begin kind at) bytes payload bytes
begun_settles kind at bytes payload x =
    let run = begun_open kind at bytes payload x in
    record {
      there = subst (λ (b : Body). IsOpen b.place) (sym run.leads.state) run.there;
      payload_is = run.leads.payload_is;
      counted = ap (λ (b : Body). b.count) run.leads.state ∙ run.counted;
    }
