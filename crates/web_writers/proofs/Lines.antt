-- Heads as lines: where their first empty line ends, and how many lines they have.
use Rattle.std.proofs.Common.{◌≡◌, ◌≢◌, ℕ, zero, suc, eqb, ◌+◌, ◌≤◌, Bool, cond, true, false, not, ◌&&◌, List, [], ◌∷◌, ◌++◌, length, get_or, refl, ap, ◌∙◌, arith}
use Rattle.std.specs.Prelude.{count_by}
use Rattle.std.specs.List.{list_all}
use Rattle.std.proofs.lemmas.Bool.{and_parts, false≢true, both_ways}
use Rattle.std.proofs.lemmas.List.Sums.{sum_by-cons}
use Rattle.web_heads.specs.HeadEnds.{EndsLines, IsFirstEnd}
use Rattle.web_heads.proofs.EndLemmas.{EndsLines-within}

-- a byte that stands within a line
abbrev pub is_plain : ℕ → Bool
is_plain b = not (eqb b 13) && not (eqb b 10)

-- lines, each ended by CR LF, and the empty line after them
abbrev pub head_of : List (List ℕ) → List ℕ
head_of [] = 13 ∷ 10 ∷ []
head_of (text ∷ lines) = text ++ 13 ∷ 10 ∷ head_of lines

-- a line that isn't empty
abbrev pub is_line : List ℕ → Bool
is_line [] = false
is_line (b ∷ text) = is_plain b && list_all is_plain text

plain_no_return : (b : ℕ) → is_plain b ≡ true → b ≢ 13
plain_no_return b e is =
    let parts = and_parts (not (eqb b 13)) (not (eqb b 10)) e in
    both_ways (eqb b 13) (not_true (eqb b 13) parts.0) (ap (λ (c : ℕ). eqb c 13) is)
  where
    not_true : (t : Bool) → not t ≡ true → t ≡ false
    not_true true h = absurd (false≢true h)
    not_true false h = refl

plain_no_feed : (b : ℕ) → is_plain b ≡ true → eqb b 10 ≡ false
plain_no_feed b e =
    let parts = and_parts (not (eqb b 13)) (not (eqb b 10)) e in not_true (eqb b 10) parts.1
  where
    not_true : (t : Bool) → not t ≡ true → t ≡ false
    not_true true h = absurd (false≢true h)
    not_true false h = refl

-- ---- the end comes last

OnlyLast : List ℕ → Type 0
OnlyLast bytes = (at : ℕ) → EndsLines bytes at → length bytes ≤ at + 4

first_of : (b : ℕ) (bytes : List ℕ) → EndsLines (b ∷ bytes) 0 → b ≡ 13
first_of b bytes ends = ap (λ (text : List ℕ). get_or text 0 0) ends

OnlyLast-cons : (b : ℕ) (bytes : List ℕ) → b ≢ 13 → OnlyLast bytes → OnlyLast (b ∷ bytes)
unfolding OnlyLast
OnlyLast-cons b bytes other last zero ends = absurd (other (first_of b bytes ends))
OnlyLast-cons b bytes other last (suc at) ends = let before = last at ends in omega arith

OnlyLast-plain : (text bytes : List ℕ) → list_all is_plain text ≡ true → OnlyLast bytes → OnlyLast (text ++ bytes)
OnlyLast-plain [] bytes plain last = last
OnlyLast-plain (b ∷ text) bytes plain last =
    let parts = and_parts (is_plain b) (list_all is_plain text) plain in
    OnlyLast-cons b (text ++ bytes) (plain_no_return b parts.0) (OnlyLast-plain text bytes parts.1 last)

-- after the CR LF of a line
third_of : (bytes : List ℕ) → EndsLines (13 ∷ 10 ∷ bytes) 0 → get_or bytes 0 0 ≡ 13
third_of [] ends = absurd (let within = EndsLines-within (13 ∷ 10 ∷ []) 0 ends in omega arith)
third_of (b ∷ bytes) ends = ap (λ (text : List ℕ). get_or text 2 0) ends

OnlyLast-crlf : (bytes : List ℕ) → (get_or bytes 0 0 ≡ 13 → length bytes ≤ 2) → OnlyLast bytes → OnlyLast (13 ∷ 10 ∷ bytes)
unfolding OnlyLast
OnlyLast-crlf bytes first last zero ends = let few = first (third_of bytes ends) in omega arith
OnlyLast-crlf bytes first last (suc zero) ends =
    absurd (let other : 10 ≡ 13 = first_of 10 bytes ends in omega arith)
OnlyLast-crlf bytes first last (suc (suc at)) ends = let before = last at ends in omega arith

OnlyLast-end : OnlyLast (13 ∷ 10 ∷ [])
unfolding OnlyLast
OnlyLast-end at ends = let within = EndsLines-within (13 ∷ 10 ∷ []) at ends in absurd (omega arith)

-- what follows a line's CR LF begins another line, or is the empty one
next_first : (lines : List (List ℕ)) → list_all is_line lines ≡ true → get_or (head_of lines) 0 0 ≡ 13 → length (head_of lines) ≤ 2
next_first [] all first = omega arith
next_first ([] ∷ lines) all first = absurd (false≢true all)
next_first ((b ∷ text) ∷ lines) all first =
    let parts = and_parts (is_plain b && list_all is_plain text) (list_all is_line lines) all in
    let plain = and_parts (is_plain b) (list_all is_plain text) parts.0 in
    absurd (plain_no_return b plain.0 first)

line_plain : (text : List ℕ) → is_line text ≡ true → list_all is_plain text ≡ true
line_plain [] e = refl
line_plain (b ∷ text) e = e

only_last : (lines : List (List ℕ)) → list_all is_line lines ≡ true → OnlyLast (head_of lines)
only_last [] all = OnlyLast-end
only_last (text ∷ lines) all =
    let parts = and_parts (is_line text) (list_all is_line lines) all in
    OnlyLast-plain text (13 ∷ 10 ∷ head_of lines) (line_plain text parts.0)
    (OnlyLast-crlf (head_of lines) (next_first lines parts.1) (only_last lines parts.1))

-- ---- and is there

record EndsThere (bytes : List ℕ) : Type 0 where
  at : ℕ
  ends : EndsLines bytes at
  last : length bytes ≡ at + 4

EndsThere-cons : (b : ℕ) (bytes : List ℕ) → EndsThere bytes → EndsThere (b ∷ bytes)
EndsThere-cons b bytes x = record { at = suc x.at; ends = x.ends; last = let last = x.last in omega arith }

EndsThere-append : (text bytes : List ℕ) → EndsThere bytes → EndsThere (text ++ bytes)
EndsThere-append [] bytes x = x
EndsThere-append (b ∷ text) bytes x = EndsThere-cons b (text ++ bytes) (EndsThere-append text bytes x)

ends_there : (text : List ℕ) (lines : List (List ℕ)) → EndsThere (head_of (text ∷ lines))
ends_there text [] =
    EndsThere-append text (13 ∷ 10 ∷ 13 ∷ 10 ∷ []) (record { at = 0; ends = refl; last = refl })
ends_there text (next ∷ lines) =
    EndsThere-append text (13 ∷ 10 ∷ head_of (next ∷ lines))
    (EndsThere-cons 13 (10 ∷ head_of (next ∷ lines)) (EndsThere-cons 10 (head_of (next ∷ lines)) (ends_there next lines)))

-- the first empty line of such lines is their last
pub first_end : (text : List ℕ) (lines : List (List ℕ)) → list_all is_line (text ∷ lines) ≡ true
    → IsFirstEnd (head_of (text ∷ lines)) 0 (length (head_of (text ∷ lines)))
unfolding OnlyLast
first_end text lines all =
    let x = ends_there text lines in
    let last = x.last in
    record {
      at = x.at;
      stop_is = last;
      after = omega arith;
      ends = x.ends;
      first = λ other from ends. let end = only_last (text ∷ lines) all other ends in omega arith;
    }

-- ---- how many lines

abbrev pub feeds : List ℕ → ℕ
feeds bytes = count_by (λ b. eqb b 10) bytes

feeds-plain : (b : ℕ) (bytes : List ℕ) → eqb b 10 ≡ false → feeds (b ∷ bytes) ≡ feeds bytes
feeds-plain b bytes e =
    let one = sum_by-cons (λ (c : ℕ). cond (eqb c 10) 1 0) b bytes in
    let none : cond {A = ℕ} (eqb b 10) 1 0 ≡ 0 = ap (λ (t : Bool). cond {A = ℕ} t 1 0) e in
    omega arith

feeds-text : (text bytes : List ℕ) → list_all is_plain text ≡ true → feeds (text ++ bytes) ≡ feeds bytes
feeds-text [] bytes plain = refl
feeds-text (b ∷ text) bytes plain =
    let parts = and_parts (is_plain b) (list_all is_plain text) plain in
    feeds-plain b (text ++ bytes) (plain_no_feed b parts.0) ∙ feeds-text text bytes parts.1

feeds-crlf : (bytes : List ℕ) → feeds (13 ∷ 10 ∷ bytes) ≡ feeds bytes + 1
feeds-crlf bytes =
    let first = sum_by-cons (λ (c : ℕ). cond (eqb c 10) 1 0) 13 (10 ∷ bytes) in
    let second = sum_by-cons (λ (c : ℕ). cond (eqb c 10) 1 0) 10 bytes in
    omega arith

pub feeds-lines : (lines : List (List ℕ)) → list_all is_line lines ≡ true → feeds (head_of lines) ≡ length lines + 1
feeds-lines [] all = feeds-crlf []
feeds-lines (text ∷ lines) all =
    let parts = and_parts (is_line text) (list_all is_line lines) all in
    let rest = feeds-lines lines parts.1 in
    let here = feeds-text text (13 ∷ 10 ∷ head_of lines) (line_plain text parts.0) in
    let end = feeds-crlf (head_of lines) in
    omega arith
