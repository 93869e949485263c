-- The first empty line after a line's CR LF, byte by byte: what the last bytes are says where the next one stands.
use Rattle.std.proofs.Common.{◌≡◌, ◌≢◌, ℕ, ◌+◌, true, false, List, [], ◌∷◌, ◌++◌, length, take, drop, refl, sym, ap, ◌∙◌, arith, append_assoc, length-append, length-drop, inl, inr}
use Rattle.std.proofs.lemmas.Bool.{cases_eq, cases_lt, eqb-true, eqb-false, eq-eqb, ne_eqb, false≢true, both_ways, false_from_ne_true}
use Rattle.std.proofs.lemmas.List.{same_from_push, drop_at, take_all, take-append-drop}
use Rattle.httparse.specs.Ascii.{crlf_bytes}
use Rattle.web_heads.specs.HeadEnds.{EndsLines, IsFirstEnd}
use Rattle.web_heads.proofs.EndLemmas.{EndsLines-within, EndsLines-before, EndsLines-append, HasNone, IsFirstEnd-push}
use Rattle.web_bodies.specs.declared.place.TrailerPlace.{TrailerPlace}
use Rattle.web_bodies.specs.declared.place.TrailerPlace.TheVariants.{LineStart, EmptyLineCr, InLine, LineCr}
use Rattle.web_bodies.specs.Steps.{is_empty_line, trailer_step}

-- the bytes end in these
pub record Ends (suffix bytes : List ℕ) : Type 0 where
  pub front : List ℕ
  pub bytes_are : bytes ≡ front ++ suffix

-- one byte more on both sides
Ends-push : (suffix bytes : List ℕ) (b : ℕ) → Ends suffix bytes → Ends (suffix ++ b ∷ []) (bytes ++ b ∷ [])
Ends-push suffix bytes b x = record {
  front = x.front;
  bytes_are = ap (λ (front : List ℕ). front ++ b ∷ []) x.bytes_are ∙ append_assoc x.front suffix (b ∷ []);
}

Ends-last : (suffix bytes : List ℕ) (x b : ℕ) → Ends (suffix ++ x ∷ []) (bytes ++ b ∷ []) → (b ≡ x) × Ends suffix bytes
Ends-last suffix bytes x b ends =
    let same = same_from_push bytes (ends.front ++ suffix) b x (ends.bytes_are ∙ sym (append_assoc ends.front suffix (x ∷ []))) in
    (same.1, record { front = ends.front; bytes_are = same.0 })

-- bytes end in one byte
Ends-one : (suffix other bytes : List ℕ) (x y : ℕ) → Ends (suffix ++ x ∷ []) bytes → Ends (other ++ y ∷ []) bytes → x ≡ y
Ends-one suffix other bytes x y first second =
    let pushed : bytes ≡ (first.front ++ suffix) ++ x ∷ [] = first.bytes_are ∙ sym (append_assoc first.front suffix (x ∷ [])) in
    (Ends-last other (first.front ++ suffix) y x (record { front = second.front; bytes_are = sym pushed ∙ second.bytes_are })).0

-- ---- where the next byte stands

pub data StandsAt (bytes : List ℕ) : TrailerPlace → Type 0 where
  line_start : Ends (13 ∷ 10 ∷ []) bytes → StandsAt bytes LineStart
  empty_line_cr : Ends (13 ∷ 10 ∷ 13 ∷ []) bytes → StandsAt bytes EmptyLineCr
  line_cr : Ends (13 ∷ []) bytes → ¬ (Ends (13 ∷ 10 ∷ 13 ∷ []) bytes) → StandsAt bytes LineCr
  line_text : ¬ (Ends (13 ∷ []) bytes) → ¬ (Ends (13 ∷ 10 ∷ []) bytes) → StandsAt bytes InLine

pub StandsAt-crlf : StandsAt crlf_bytes LineStart
StandsAt-crlf = line_start (record { front = []; bytes_are = refl })

-- a byte other than CR and LF, or LF where no CR stands before it, leads into a line
into_line : (bytes : List ℕ) (b : ℕ) → b ≢ 13 → (b ≡ 10 → ¬ (Ends (13 ∷ []) bytes)) → StandsAt (bytes ++ b ∷ []) InLine
into_line bytes b other no_end = line_text
    (λ ends. other (Ends-last [] bytes 13 b ends).0)
    (λ ends. let last = Ends-last (13 ∷ []) bytes 10 b ends in no_end last.0 last.1)

-- a CR where no CR LF stands before it
into_line_cr : (bytes : List ℕ) → ¬ (Ends (13 ∷ 10 ∷ []) bytes) → StandsAt (bytes ++ 13 ∷ []) LineCr
into_line_cr bytes no_end = line_cr (record { front = bytes; bytes_are = refl }) (λ ends. no_end (Ends-last (13 ∷ 10 ∷ []) bytes 13 13 ends).1)

cr_or_lf : (bytes : List ℕ) → Ends (13 ∷ []) bytes → ¬ (Ends (13 ∷ 10 ∷ []) bytes)
cr_or_lf bytes cr crlf = absurd (let same : 13 ≡ 10 = Ends-one [] (13 ∷ []) bytes 13 10 cr crlf in omega arith)

-- one byte more that ends no empty line
pub StandsAt-push : (bytes : List ℕ) (line : TrailerPlace) (b : ℕ) → StandsAt bytes line → is_empty_line line b ≡ false
    → StandsAt (bytes ++ b ∷ []) (trailer_step line b)
unfolding is_empty_line trailer_step
StandsAt-push bytes LineStart b (line_start ends) goes_on = elim (cases_eq b 13) [
  | inl cr ↦ rw cr (empty_line_cr (Ends-push (13 ∷ 10 ∷ []) bytes 13 ends))
  | inr other ↦ rw (ne_eqb b 13 other) (into_line bytes b other (λ lf cr. cr_or_lf bytes cr ends))
]
StandsAt-push bytes EmptyLineCr b (empty_line_cr ends) goes_on = elim (cases_eq b 13) [
  | inl cr ↦ rw cr (into_line_cr bytes (λ crlf. absurd (let same : 13 ≡ 10 = Ends-one (13 ∷ 10 ∷ []) (13 ∷ []) bytes 13 10 ends crlf in omega arith)))
  | inr other ↦ rw (ne_eqb b 13 other) (into_line bytes b other (λ lf cr. eqb-false b 10 goes_on lf))
]
StandsAt-push bytes InLine b (line_text no_cr no_crlf) goes_on = elim (cases_eq b 13) [
  | inl cr ↦ rw cr (into_line_cr bytes no_crlf)
  | inr other ↦ rw (ne_eqb b 13 other) (into_line bytes b other (λ lf cr. no_cr cr))
]
StandsAt-push bytes LineCr b (line_cr ends no_crlfcr) goes_on = elim (cases_eq b 10) [
  | inl lf ↦ rw lf (line_start (Ends-push (13 ∷ []) bytes 10 ends))
  | inr other ↦ elim (cases_eq b 13) [
    | inl cr ↦ rw cr (into_line_cr bytes (cr_or_lf bytes ends))
    | inr neither ↦ rw (ne_eqb b 10 other, ne_eqb b 13 neither) (into_line bytes b neither (λ lf cr. other lf))
  ]
]

-- ---- empty lines

-- the byte ends an empty line exactly where CR LF CR stands before it and it is LF
empty_line_ends : (bytes : List ℕ) (line : TrailerPlace) (b : ℕ) → StandsAt bytes line → is_empty_line line b ≡ true
    → Ends (13 ∷ 10 ∷ 13 ∷ 10 ∷ []) (bytes ++ b ∷ [])
unfolding is_empty_line
empty_line_ends bytes LineStart b stands e = absurd (false≢true e)
empty_line_ends bytes EmptyLineCr b (empty_line_cr ends) e =
    rw (eqb-true b 10 e) (Ends-push (13 ∷ 10 ∷ 13 ∷ []) bytes 10 ends)
empty_line_ends bytes InLine b stands e = absurd (false≢true e)
empty_line_ends bytes LineCr b stands e = absurd (false≢true e)

ends_empty_line : (bytes : List ℕ) (line : TrailerPlace) (b : ℕ) → StandsAt bytes line → Ends (13 ∷ 10 ∷ 13 ∷ 10 ∷ []) (bytes ++ b ∷ [])
    → is_empty_line line b ≡ true
unfolding is_empty_line
ends_empty_line bytes LineStart b (line_start at) ends =
    let last = Ends-last (13 ∷ 10 ∷ 13 ∷ []) bytes 10 b ends in
    absurd (let same : 13 ≡ 10 = Ends-one (13 ∷ 10 ∷ []) (13 ∷ []) bytes 13 10 last.1 at in omega arith)
ends_empty_line bytes EmptyLineCr b stands ends = eq-eqb b 10 (Ends-last (13 ∷ 10 ∷ 13 ∷ []) bytes 10 b ends).0
ends_empty_line bytes InLine b (line_text no_cr no_crlf) ends =
    let last = Ends-last (13 ∷ 10 ∷ 13 ∷ []) bytes 10 b ends in
    absurd (no_cr (record { front = last.1.front ++ 13 ∷ 10 ∷ []; bytes_are = last.1.bytes_are ∙ sym (append_assoc last.1.front (13 ∷ 10 ∷ []) (13 ∷ [])) }))
ends_empty_line bytes LineCr b (line_cr at no_crlfcr) ends =
    let last = Ends-last (13 ∷ 10 ∷ 13 ∷ []) bytes 10 b ends in absurd (no_crlfcr last.1)

-- ---- by places

-- CR LF CR LF at the very end
Ends-EndsLines : (bytes : List ℕ) → (x : Ends (13 ∷ 10 ∷ 13 ∷ 10 ∷ []) bytes) → EndsLines bytes (length x.front)
Ends-EndsLines bytes x = ap (λ (all : List ℕ). take 4 (drop (length x.front) all)) x.bytes_are ∙ ap (take 4) (drop_at x.front (13 ∷ 10 ∷ 13 ∷ 10 ∷ []) (length x.front) refl)

EndsLines-Ends : (bytes : List ℕ) (at : ℕ) → EndsLines bytes at → at + 4 ≡ length bytes → Ends (13 ∷ 10 ∷ 13 ∷ 10 ∷ []) bytes
EndsLines-Ends bytes at ends last = record {
  front = take at bytes;
  bytes_are =
      sym (take-append-drop at bytes)
      ∙ ap (λ (back : List ℕ). take at bytes ++ back) (sym (take_all 4 (drop at bytes) (omega (arith, length-drop at bytes))) ∙ ends);
}

-- one byte more that ends no empty line, or one
pub HasNone-push : (bytes : List ℕ) (line : TrailerPlace) (b : ℕ) → StandsAt bytes line → is_empty_line line b ≡ false → HasNone bytes
    → HasNone (bytes ++ b ∷ [])
HasNone-push bytes line b stands goes_on none at ends =
    let within = EndsLines-within (bytes ++ b ∷ []) at ends in
    let longer = length-append bytes (b ∷ []) in
    elim (cases_lt (length bytes) (at + 4)) [
      | inl last ↦
          let at_end : at + 4 ≡ length (bytes ++ b ∷ []) = omega arith in
          both_ways (is_empty_line line b) goes_on (ends_empty_line bytes line b stands (EndsLines-Ends (bytes ++ b ∷ []) at ends at_end))
      | inr before ↦ none at (EndsLines-before bytes (b ∷ []) at before ends)
    ]

-- the first empty line ends with the byte
pub IsFirstEnd-empty_line : (bytes : List ℕ) (line : TrailerPlace) (b : ℕ) → StandsAt bytes line → is_empty_line line b ≡ true → HasNone bytes
    → IsFirstEnd (bytes ++ b ∷ []) 0 (length (bytes ++ b ∷ []))
IsFirstEnd-empty_line bytes line b stands ended none =
    let ends = empty_line_ends bytes line b stands ended in
    IsFirstEnd-push bytes b (length ends.front) none (Ends-EndsLines (bytes ++ b ∷ []) ends)

-- before the first empty line there is none
pub HasNone-IsFirstEnd : (bytes : List ℕ) (b : ℕ) → IsFirstEnd (bytes ++ b ∷ []) 0 (length (bytes ++ b ∷ [])) → HasNone bytes
HasNone-IsFirstEnd bytes b x at ends =
    let within = EndsLines-within bytes at ends in
    let longer = length-append bytes (b ∷ []) in
    let first = x.first at (omega arith) (EndsLines-append bytes (b ∷ []) at ends) in
    let stop = x.stop_is in
    absurd (omega arith)

-- and the byte that ends it does
pub is_empty_line-IsFirstEnd : (bytes : List ℕ) (line : TrailerPlace) (b : ℕ) → StandsAt bytes line
    → IsFirstEnd (bytes ++ b ∷ []) 0 (length (bytes ++ b ∷ [])) → is_empty_line line b ≡ true
is_empty_line-IsFirstEnd bytes line b stands x =
    ends_empty_line bytes line b stands (EndsLines-Ends (bytes ++ b ∷ []) x.at x.ends (sym x.stop_is))

pub is_empty_line-HasNone : (bytes : List ℕ) (line : TrailerPlace) (b : ℕ) → StandsAt bytes line → HasNone (bytes ++ b ∷ [])
    → is_empty_line line b ≡ false
is_empty_line-HasNone bytes line b stands none =
    false_from_ne_true (is_empty_line line b) (λ ended.
    let ends = empty_line_ends bytes line b stands ended in none (length ends.front) (Ends-EndsLines (bytes ++ b ∷ []) ends))
