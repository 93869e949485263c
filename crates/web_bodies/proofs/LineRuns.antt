-- The machine over the bytes of a chunk line.
use Rattle.std.proofs.Common.{◌≡◌, ◌≢◌, ℕ, ◌+◌, ◌<◌, ◌≤◌, Bool, true, false, cond, eqb, ltb, List, [], ◌∷◌, ◌++◌, length, refl, sym, ap, ◌∙◌, arith, append_assoc, append-nil, length-append, add-zero, Option, Some, None}
use Rattle.std.specs.List.{All}
use Rattle.std.specs.Char.{is_ascii_hexdigit}
use Rattle.std.proofs.lemmas.Bool.{cond-true, cond-false, ne_eqb, le-ltb, lt-ltb, false≢true}
use Rattle.std.proofs.lemmas.List.Elements.{All-head, All-tail, All-append, All-weaker, All-nil, All-cons, All-push}
use Rattle.httparse.specs.Ascii.{crlf_bytes}
use Rattle.httparse.specs.Grammar.{AllPass, IsExtension, is_ows, is_extension_byte, print_chunk_line, print_extension}
use Rattle.web_heads.specs.ChunkLines.{chunk_size}
use Rattle.web_heads.specs.Standard.{IsChunkLine}
use Rattle.web_heads.proofs.Answered.{size_complete}
use Rattle.web_bodies.specs.declared.fault.BodyFault.TheVariants.{BadChunk}
use Rattle.web_bodies.specs.declared.place.BodyPlace.TheVariants.{ChunkLine as InChunkLine, Refused}
use Rattle.web_bodies.specs.Body.{Body}
use Rattle.web_bodies.specs.Steps.{line_place, size_place, line_step, step_at, body_step, awaits_payload}
use Rattle.web_bodies.proofs.Leads.{Leads, leads_none, leads_one, leads_after_framing}

-- a byte other than LF
abbrev pub IsInLine : ℕ → Type 0
IsInLine b = b ≢ 10

-- in the chunk line that begins at this place, whose bytes so far are these
abbrev pub in_line : ℕ → ℕ → List ℕ → Body
in_line at count line = record { place = InChunkLine at; count = count; line = line }

framing : (at : ℕ) → awaits_payload (InChunkLine at) ≡ false
unfolding awaits_payload
framing at = refl

-- ---- one byte

line_step-text : (at count : ℕ) (line : List ℕ) (b : ℕ) → b ≢ 10 → length line < 256
    → body_step (in_line at count line) b ≡ in_line at (count + 1) (line ++ b ∷ [])
unfolding body_step step_at line_step
line_step-text at count line b other short =
    let long = length (line ++ b ∷ []) in
    let fits : long ≤ 256 = omega (arith, length-append line (b ∷ [])) in
    let ended : Body = record { place = line_place at (chunk_size (line ++ b ∷ [])); count = count + 1; line = [] } in
    let refused : Body = record { place = Refused (BadChunk at); count = count + 1; line = [] } in
    let next : Body = in_line at (count + 1) (line ++ b ∷ []) in
    cond-false (eqb b 10) ended (cond (ltb 256 long) refused next) (ne_eqb b 10 other) ∙ cond-false (ltb 256 long) refused next (le-ltb 256 long fits)

line_step-long : (at count : ℕ) (line : List ℕ) (b : ℕ) → b ≢ 10 → length line ≡ 256
    → body_step (in_line at count line) b ≡ record { place = Refused (BadChunk at); count = count + 1; line = [] }
unfolding body_step step_at line_step
line_step-long at count line b other full =
    let long = length (line ++ b ∷ []) in
    let over : 256 < long = omega (arith, length-append line (b ∷ [])) in
    let ended : Body = record { place = line_place at (chunk_size (line ++ b ∷ [])); count = count + 1; line = [] } in
    let refused : Body = record { place = Refused (BadChunk at); count = count + 1; line = [] } in
    let next : Body = in_line at (count + 1) (line ++ b ∷ []) in
    cond-false (eqb b 10) ended (cond (ltb 256 long) refused next) (ne_eqb b 10 other) ∙ cond-true (ltb 256 long) refused next (lt-ltb 256 long over)

line_step-end : (at count : ℕ) (line : List ℕ)
    → body_step (in_line at count line) 10 ≡ record { place = line_place at (chunk_size (line ++ 10 ∷ [])); count = count + 1; line = [] }
unfolding body_step step_at line_step
line_step-end at count line = refl

-- ---- a beginning of a line, a whole line, and one that is too long

line_runs : (at count : ℕ) (line text : List ℕ) → All IsInLine text → length line + length text ≤ 256
    → Leads (in_line at count line) text [] (in_line at (count + length text) (line ++ text))
line_runs at count line [] text_is fits =
    rw (add-zero count, append-nil line) (leads_none (in_line at count line))
line_runs at count line (b ∷ text) text_is fits =
    let counted : count + 1 + length text ≡ count + length (b ∷ text) = omega arith in
    let short : length line < 256 = omega arith in
    leads_after_framing (in_line at count line) (in_line at (count + 1) (line ++ b ∷ []))
    (in_line at (count + length (b ∷ text)) (line ++ b ∷ text)) (b ∷ []) text []
    (leads_one (in_line at count line) b (in_line at (count + 1) (line ++ b ∷ [])) (framing at)
    (line_step-text at count line b (All-head IsInLine b text text_is) short))
    (rw (counted, append_assoc line (b ∷ []) text) at (line_runs at (count + 1) (line ++ b ∷ []) text (All-tail IsInLine b text text_is)
    (omega (arith, length-append line (b ∷ [])))))

pub line_begun : (at : ℕ) (text : List ℕ) → All IsInLine text → length text ≤ 256
    → Leads (in_line at at []) text [] (in_line at (at + length text) text)
line_begun at text text_is fits = line_runs at at [] text text_is (omega arith)

pub line_ended : (at : ℕ) (text : List ℕ) → All IsInLine text → length text ≤ 256
    → Leads (in_line at at []) (text ++ 10 ∷ []) []
    (record { place = line_place at (chunk_size (text ++ 10 ∷ [])); count = at + length (text ++ 10 ∷ []); line = [] })
line_ended at text text_is fits =
    let counted : at + length text + 1 ≡ at + length (text ++ 10 ∷ []) = omega (arith, length-append text (10 ∷ [])) in
    rw counted at (leads_after_framing (in_line at at []) (in_line at (at + length text) text)
    (record { place = line_place at (chunk_size (text ++ 10 ∷ [])); count = at + length text + 1; line = [] }) text (10 ∷ []) []
    (line_begun at text text_is fits)
    (leads_one (in_line at (at + length text) text) 10 (record { place = line_place at (chunk_size (text ++ 10 ∷ [])); count = at + length text + 1; line = [] })
    (framing at) (line_step-end at (at + length text) text)))

pub line_too_long : (at : ℕ) (text : List ℕ) (b : ℕ) → All IsInLine text → length text ≡ 256 → b ≢ 10
    → Leads (in_line at at []) (text ++ b ∷ []) [] (record { place = Refused (BadChunk at); count = at + length (text ++ b ∷ []); line = [] })
line_too_long at text b text_is full other =
    let counted : at + length text + 1 ≡ at + length (text ++ b ∷ []) = omega (arith, length-append text (b ∷ [])) in
    let fits : length text ≤ 256 = omega arith in
    rw counted at (leads_after_framing (in_line at at []) (in_line at (at + length text) text)
    (record { place = Refused (BadChunk at); count = at + length text + 1; line = [] }) text (b ∷ []) []
    (line_begun at text text_is fits)
    (leads_one (in_line at (at + length text) text) b (record { place = Refused (BadChunk at); count = at + length text + 1; line = [] })
    (framing at) (line_step-long at (at + length text) text b other full)))

-- ---- chunk lines have one LF, at their end

passes_other : (test : ℕ → Bool) (stop : ℕ) → test stop ≡ false → (b : ℕ) → test b ≡ true → b ≢ stop
passes_other test stop fails b passes e = false≢true (sym fails ∙ sym (ap test e) ∙ passes)

AllPass-IsInLine : (test : ℕ → Bool) → test 10 ≡ false → (text : List ℕ) → AllPass test text → All IsInLine text
AllPass-IsInLine test fails text pass = All-weaker (λ b. test b ≡ true) IsInLine (passes_other test 10 fails) text pass

extension-IsInLine : (e : Option (List ℕ)) → IsExtension e → All IsInLine (print_extension e)
extension-IsInLine None valid = All-nil IsInLine
extension-IsInLine (Some text) valid =
    let differs : IsInLine 59 = omega arith in
    All-cons IsInLine 59 text differs (AllPass-IsInLine is_extension_byte refl text valid)

-- a chunk line without its LF
pub record LineText (line : List ℕ) : Type 0 where
  pub text : List ℕ
  pub line_is : line ≡ text ++ 10 ∷ []
  pub one_line : All IsInLine text
  pub short : length text < 256

pub chunk_line_text : (line : List ℕ) (size : ℕ) → IsChunkLine line size → LineText line
unfolding print_chunk_line
chunk_line_text line size x =
    let l = x.line in
    let valid = x.reads.0 in
    let text = l.digits ++ l.pad ++ print_extension l.extension ++ 13 ∷ [] in
    let is : line ≡ text ++ 10 ∷ [] = x.reads.1 ∙ append-nil (print_chunk_line l) ∙ regroup (l.digits ++ l.pad ++ print_extension l.extension) in
    let differs : IsInLine 13 = omega arith in
    record {
      text = text;
      line_is = is;
      one_line =
          All-push IsInLine (l.digits ++ l.pad ++ print_extension l.extension) 13
          (All-append IsInLine (l.digits ++ l.pad) (print_extension l.extension)
          (All-append IsInLine l.digits l.pad (AllPass-IsInLine is_ascii_hexdigit refl l.digits valid.digits.2) (AllPass-IsInLine is_ows refl l.pad valid.pad))
          (extension-IsInLine l.extension valid.extension)) differs;
      short = let short = x.short in omega (arith, ap length is, length-append text (10 ∷ []));
    }
  where
    regroup : (front : List ℕ) → front ++ crlf_bytes ≡ (front ++ 13 ∷ []) ++ 10 ∷ []
    regroup front = sym (append_assoc front (13 ∷ []) (10 ∷ []))

-- ---- a chunk line by its size

-- after the line
pub line_read : (at : ℕ) (line : List ℕ) (size : ℕ) → IsChunkLine line size
    → Leads (in_line at at []) line [] (record { place = size_place size; count = at + length line; line = [] })
unfolding line_place
line_read at line size x =
    let t = chunk_line_text line size x in
    let fits : length t.text ≤ 256 = let short = t.short in omega arith in
    let found : chunk_size (t.text ++ 10 ∷ []) ≡ Some size = ap chunk_size (sym t.line_is) ∙ size_complete line size x in
    let run = line_ended at t.text t.one_line fits in
    rw (found, ← t.line_is) at run
