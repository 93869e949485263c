-- Lines and their bytes lead to one another.
use Rattle.std.proofs.Common.{◌≡◌, ◌≢◌, ℕ, eqb, List, [], ◌∷◌, ◌++◌, refl, sym, ap, ◌∙◌, Option, Some, inl, inr}
use Rattle.std.specs.Prelude.{option_and_then}
use Rattle.std.proofs.lemmas.Bool.{eqb-true, ne_eqb, cond-false}
use Rattle.httparse.specs.Grammar.{LineEnd, crlf, lf, print_end}
use Rattle.web_heads.specs.Lines.{Line, lines_bytes, with_byte, before_first_line, before_lines, lines_of}
use Rattle.web_heads.proofs.StepLemmas.{LacksByte, other, found_after, chosen}

-- the bytes of a line with one byte more
line_bytes-with_byte : (b : ℕ) (text : List ℕ) (ending : LineEnd)
    → (with_byte b text ending).text ++ print_end (with_byte b text ending).ending ≡ b ∷ (text ++ print_end ending)
line_bytes-with_byte b [] lf =
    elim (chosen (eqb b 13) (record { text = []; ending = crlf }) (record { text = b ∷ []; ending = lf }) (with_byte b [] lf) refl) [
      | inl h ↦ let l : with_byte b [] lf ≡ record { text = []; ending = crlf } = sym h.1 in
          let is : b ≡ 13 = eqb-true b 13 h.0 in rw (l, is) refl
      | inr h ↦ let l : with_byte b [] lf ≡ record { text = b ∷ []; ending = lf } = sym h.1 in rw l refl
    ]
line_bytes-with_byte b [] crlf = refl
line_bytes-with_byte b (c ∷ text) ending = refl

lines_bytes-before : (b : ℕ) (lines : List Line) (more : List Line) → before_lines b lines ≡ Some more → lines_bytes more ≡ b ∷ lines_bytes lines
lines_bytes-before b lines more e =
    elim (chosen (eqb b 10) (Some (record { text = []; ending = lf } ∷ lines)) (before_first_line b lines) (Some more) e) [
      | inl h ↦ let is : b ≡ 10 = eqb-true b 10 h.0 in
          let l : more ≡ record { text = []; ending = lf } ∷ lines = cc in rw (l, is) refl
      | inr h ↦ first b lines more h.1
    ]
  where
    first : (b : ℕ) (lines more : List Line) → before_first_line b lines ≡ Some more → lines_bytes more ≡ b ∷ lines_bytes lines
    first b [] more e = absurd (cc)
    first b (l ∷ lines) more e =
        let is : more ≡ with_byte b l.text l.ending ∷ lines = cc in
        rw is (ap (λ (front : List ℕ). front ++ lines_bytes lines) (line_bytes-with_byte b l.text l.ending))

-- bytes are those of the lines that they are read as
pub lines_bytes-lines_of : (bytes : List ℕ) (lines : List Line) → lines_of bytes ≡ Some lines → bytes ≡ lines_bytes lines
unfolding lines_of
lines_bytes-lines_of [] lines e = let is : lines ≡ [] = cc in rw is refl
lines_bytes-lines_of (b ∷ bytes) lines e =
    let p = found_after (lines_of bytes) (before_lines b) lines e in
    sym (lines_bytes-before b p.0 lines p.2 ∙ ap (λ (rest : List ℕ). b ∷ rest) (sym (lines_bytes-lines_of bytes p.0 p.1)))

-- a byte that ends no line goes to the front of the first line
with_byte-text : (b : ℕ) (text : List ℕ) (ending : LineEnd) → b ≢ 13 → with_byte b text ending ≡ record { text = b ∷ text; ending = ending }
with_byte-text b [] lf cr = cond-false (eqb b 13) (record { text = []; ending = crlf }) (record { text = b ∷ []; ending = lf }) (ne_eqb b 13 cr)
with_byte-text b [] crlf cr = refl
with_byte-text b (c ∷ text) ending cr = refl

-- a text without CR and LF, its end and further lines are read as that line and the others
pub lines_of-line : (text : List ℕ) (ending : LineEnd) (rest : List ℕ) (lines : List Line) → LacksByte 13 text → LacksByte 10 text
    → lines_of rest ≡ Some lines → lines_of (text ++ (print_end ending ++ rest)) ≡ Some (record { text = text; ending = ending } ∷ lines)
unfolding lines_of
lines_of-line [] lf rest lines cr nl e = ap (option_and_then (before_lines 10)) e
lines_of-line [] crlf rest lines cr nl e = ap (λ (o : Option (List Line)). option_and_then (before_lines 13) (option_and_then (before_lines 10) o)) e
lines_of-line (b ∷ text) ending rest lines (other not_cr cr) (other not_lf nl) e =
    ap (option_and_then (before_lines b)) (lines_of-line text ending rest lines cr nl e)
    ∙ cond-false (eqb b 10) (Some (record { text = []; ending = lf } ∷ record { text = text; ending = ending } ∷ lines))
    (before_first_line b (record { text = text; ending = ending } ∷ lines)) (ne_eqb b 10 not_lf)
    ∙ ap (λ (l : Line). Some (l ∷ lines)) (with_byte-text b text ending not_cr)

-- no bytes are no lines
pub lines_of-nil : lines_of [] ≡ Some []
unfolding lines_of
lines_of-nil = refl
