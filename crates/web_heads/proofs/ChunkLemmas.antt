-- A chunk line is what the grammar gives, both ways.
use Rattle.std.proofs.Common.{◌≡◌, ◌≢◌, ℕ, Bool, true, false, ◌&&◌, eqb, ltb, leb, List, [], ◌∷◌, ◌++◌, length, refl, sym, ap, ◌∙◌, subst, arith, append_assoc, append-nil, Option, Some, None, inl, inr}
use Rattle.std.specs.List.{list_all}
use Rattle.std.specs.Char.{is_ascii_hexdigit}
use Rattle.std.proofs.lemmas.Bool.{and_parts, and_from, eqb-true, ltb-true, lt-ltb, leb-true, le-leb, cond-true, cond-false}
use Rattle.std.proofs.lemmas.Bool.Decides.{nat_tests}
use Rattle.std.proofs.lemmas.List.Elements.{All-head, All-tail, All-cons, All-nil}
use Rattle.std.proofs.lemmas.List.Sums.{AllPass-from_list_all, list_all-from_AllPass}
use Rattle.httparse.specs.Grammar.{LineEnd, crlf, lf, print_end, AllPass, ChunkLine, IsChunkLine, print_chunk_line, print_extension, IsExtension, ReadsChunkLine, is_ows, is_extension_byte}
use Rattle.web_heads.specs.Lines.{Line, lines_bytes, lines_of}
use Rattle.web_heads.specs.Texts.{run}
use Rattle.web_heads.specs.ChunkLines.{extension_of, chunk_text, text_of_line, only_chunk_line, chunk_line_of}
use Rattle.web_heads.proofs.StepLemmas.{LacksByte, none, other, LacksByte-AllPass, LacksByte-append, found_after, chosen}
use Rattle.web_heads.proofs.LineLemmas.{lines_of-line, lines_of-nil, lines_bytes-lines_of}

-- ---- runs

run-append : (test : ℕ → Bool) (text : List ℕ) → text ≡ (run test text).0 ++ (run test text).1
unfolding run
run-append test [] = refl
run-append test (b ∷ text) =
    let P : List ℕ × List ℕ → Type 0 = λ parts. b ∷ text ≡ parts.0 ++ parts.1 in
    elim (chosen (test b) (b ∷ (run test text).0, (run test text).1) ([], b ∷ text) (run test (b ∷ text)) refl) [
      | inl h ↦ subst P h.1 (ap (λ (rest : List ℕ). b ∷ rest) (run-append test text))
      | inr h ↦ let P0 : P ([], b ∷ text) = refl in subst P h.1 P0
    ]

run-AllPass : (test : ℕ → Bool) (text : List ℕ) → AllPass test (run test text).0
unfolding run
run-AllPass test [] = All-nil (λ b. test b ≡ true)
run-AllPass test (b ∷ text) =
    let P : List ℕ × List ℕ → Type 0 = λ parts. AllPass test parts.0 in
    elim (chosen (test b) (b ∷ (run test text).0, (run test text).1) ([], b ∷ text) (run test (b ∷ text)) refl) [
      | inl h ↦ subst P h.1 (All-cons (λ v. test v ≡ true) b (run test text).0 h.0 (run-AllPass test text))
      | inr h ↦ let empty : P ([], b ∷ text) = All-nil (λ v. test v ≡ true) in subst P h.1 empty
    ]

-- the text is over, or begins with a byte that fails the test
pub data Ends (test : ℕ → Bool) : List ℕ → Type 0 where
  over : Ends test []
  stops : {b : ℕ} {text : List ℕ} → test b ≡ false → Ends test (b ∷ text)

run-Ends : (test : ℕ → Bool) (front back : List ℕ) → AllPass test front → Ends test back → run test (front ++ back) ≡ (front, back)
unfolding run
run-Ends test [] [] pass over = refl
run-Ends test [] (b ∷ back) pass (stops fails) = cond-false (test b) _ ([], b ∷ back) fails
run-Ends test (b ∷ front) back pass ends =
    cond-true (test b) _ ([], b ∷ (front ++ back)) (All-head (λ v. test v ≡ true) b front pass)
    ∙ ap (λ (parts : List ℕ × List ℕ). (b ∷ parts.0, parts.1)) (run-Ends test front back (All-tail (λ v. test v ≡ true) b front pass) ends)

-- ---- extensions

extension_of-Some : (text : List ℕ) (e : Option (List ℕ)) → extension_of text ≡ Some e → IsExtension e × (text ≡ print_extension e)
extension_of-Some [] e is = let none_is : e ≡ None = cc in rw none_is (tt, refl)
extension_of-Some (b ∷ text) e is =
    elim (chosen (eqb b 59 && list_all is_extension_byte text) (Some (Some text)) None (Some e) is) [
      | inl h ↦
          let tests = and_parts (eqb b 59) (list_all is_extension_byte text) h.0 in
          let some_is : e ≡ Some text = cc in
          let semicolon = eqb-true b 59 tests.0 in
          rw some_is (AllPass-from_list_all is_extension_byte text tests.1, ap (λ (first : ℕ). first ∷ text) semicolon)
      | inr h ↦ absurd (cc)
    ]

extension_of-print_extension : (e : Option (List ℕ)) → IsExtension e → extension_of (print_extension e) ≡ Some e
extension_of-print_extension None valid = refl
extension_of-print_extension (Some text) valid =
    cond-true (list_all is_extension_byte text) (Some (Some text)) None (list_all-from_AllPass is_extension_byte text valid)

print_extension-Ends : (test : ℕ → Bool) → test 59 ≡ false → (e : Option (List ℕ)) → Ends test (print_extension e)
print_extension-Ends test fails None = over
print_extension-Ends test fails (Some text) = stops fails

-- ---- what is found is there

abbrev line_text : ChunkLine → List ℕ
line_text l = l.digits ++ (l.pad ++ print_extension l.extension)

chunk_text-Some : (text : List ℕ) (l : ChunkLine) → chunk_text text ≡ Some l → IsChunkLine l × (text ≡ line_text l)
unfolding chunk_text
chunk_text-Some text l e =
    let digits = run is_ascii_hexdigit text in
    let pad = run is_ows digits.1 in
    let p = found_after (extension_of pad.1) _ l e in
    elim (chosen (ltb 0 (length digits.0) && leb (length digits.0) 16)
    (Some (record { digits = digits.0; pad = pad.0; extension = p.0 })) None (Some l) p.2) [
      | inl h ↦
          let k : ChunkLine = record { digits = digits.0; pad = pad.0; extension = p.0 } in
          let is : l ≡ k = cc in
          let sizes = and_parts (ltb 0 (length digits.0)) (leb (length digits.0) 16) h.0 in
          let extension = extension_of-Some pad.1 p.0 p.1 in
          subst (λ (m : ChunkLine). IsChunkLine m × (text ≡ line_text m)) (sym is) (
            record {
              digits = (ltb-true 0 (length digits.0) sizes.0, leb-true (length digits.0) 16 sizes.1, run-AllPass is_ascii_hexdigit text);
              pad = run-AllPass is_ows digits.1;
              extension = extension.0;
            },
            run-append is_ascii_hexdigit text
                ∙ ap (λ (rest : List ℕ). digits.0 ++ rest) (run-append is_ows digits.1
                ∙ ap (λ (rest : List ℕ). pad.0 ++ rest) extension.1),
          )
      | inr h ↦ absurd (cc)
    ]

print_chunk_line-text : (l : ChunkLine) → line_text l ++ print_end crlf ≡ print_chunk_line l
unfolding print_chunk_line
print_chunk_line-text l = regroup l.digits l.pad (print_extension l.extension) (print_end crlf)
  where
    regroup : (a b c d : List ℕ) → (a ++ (b ++ c)) ++ d ≡ a ++ b ++ c ++ d
    regroup a b c d = simp append_assoc

text_of_line-Some : (ending : LineEnd) (text : List ℕ) (l : ChunkLine) → text_of_line ending text ≡ Some l
    → IsChunkLine l × (text ++ print_end ending ≡ print_chunk_line l)
text_of_line-Some lf text l e = absurd (cc)
text_of_line-Some crlf text l e =
    let p = chunk_text-Some text l e in
    (p.0, ap (λ (front : List ℕ). front ++ print_end crlf) p.1 ∙ print_chunk_line-text l)

only_chunk_line-Some : (lines : List Line) (l : ChunkLine) → only_chunk_line lines ≡ Some l → IsChunkLine l × (lines_bytes lines ≡ print_chunk_line l)
only_chunk_line-Some [] l e = absurd (cc)
only_chunk_line-Some (m ∷ []) l e =
    let p = text_of_line-Some m.ending m.text l e in (p.0, append-nil (m.text ++ print_end m.ending) ∙ p.1)
only_chunk_line-Some (m ∷ n ∷ lines) l e = absurd (cc)

pub sound : (bytes : List ℕ) (l : ChunkLine) → chunk_line_of bytes ≡ Some l → ReadsChunkLine bytes l []
unfolding chunk_line_of
sound bytes l e =
    let p = found_after (lines_of bytes) only_chunk_line l e in
    let q = only_chunk_line-Some p.0 l p.2 in
    (q.0, lines_bytes-lines_of bytes p.0 p.1 ∙ q.1 ∙ sym (append-nil (print_chunk_line l)))

-- ---- what is there is found

ows_is_no_digit : (b : ℕ) → is_ows b ≡ true → is_ascii_hexdigit b ≡ false
ows_is_no_digit b ows = grind (arith, nat_tests)

pad-Ends : (pad : List ℕ) (e : Option (List ℕ)) → AllPass is_ows pad → Ends is_ascii_hexdigit (pad ++ print_extension e)
pad-Ends [] e pass = print_extension-Ends is_ascii_hexdigit refl e
pad-Ends (b ∷ pad) e pass = stops (ows_is_no_digit b (All-head (λ v. is_ows v ≡ true) b pad pass))

chunk_text-line_text : (l : ChunkLine) → IsChunkLine l → chunk_text (line_text l) ≡ Some l
unfolding chunk_text
chunk_text-line_text l valid =
    rw (
      run-Ends is_ascii_hexdigit l.digits (l.pad ++ print_extension l.extension) valid.digits.2 (pad-Ends l.pad l.extension valid.pad),
      run-Ends is_ows l.pad (print_extension l.extension) valid.pad (print_extension-Ends is_ows refl l.extension),
      extension_of-print_extension l.extension valid.extension,
    ) (cond-true (ltb 0 (length l.digits) && leb (length l.digits) 16) (Some l) None
    (and_from (ltb 0 (length l.digits)) (leb (length l.digits) 16) (lt-ltb 0 (length l.digits) valid.digits.0) (le-leb (length l.digits) 16 valid.digits.1)))

print_extension-lacks : (stop : ℕ) → is_extension_byte stop ≡ false → 59 ≢ stop → (e : Option (List ℕ)) → IsExtension e → LacksByte stop (print_extension e)
print_extension-lacks stop fails semicolon None valid = none
print_extension-lacks stop fails semicolon (Some text) valid = other semicolon (LacksByte-AllPass is_extension_byte stop fails text valid)

line_text-lacks : (stop : ℕ) → is_ascii_hexdigit stop ≡ false → is_ows stop ≡ false → is_extension_byte stop ≡ false → 59 ≢ stop
    → (l : ChunkLine) → IsChunkLine l → LacksByte stop (line_text l)
line_text-lacks stop digit ows extension semicolon l valid =
    LacksByte-append stop l.digits (l.pad ++ print_extension l.extension) (LacksByte-AllPass is_ascii_hexdigit stop digit l.digits valid.digits.2)
    (LacksByte-append stop l.pad (print_extension l.extension) (LacksByte-AllPass is_ows stop ows l.pad valid.pad)
    (print_extension-lacks stop extension semicolon l.extension valid.extension))

pub complete : (bytes : List ℕ) (l : ChunkLine) → ReadsChunkLine bytes l [] → chunk_line_of bytes ≡ Some l
unfolding chunk_line_of
complete bytes l x =
    let grouped : bytes ≡ line_text l ++ (print_end crlf ++ []) =
    x.1 ∙ append-nil (print_chunk_line l) ∙ sym (print_chunk_line-text l) in
    let read = ap lines_of grouped
    ∙ lines_of-line (line_text l) crlf [] [] (line_text-lacks 13 refl refl refl (omega arith) l x.0) (line_text-lacks 10 refl refl refl (omega arith) l x.0) lines_of-nil in
    rw read (chunk_text-line_text l x.0)
