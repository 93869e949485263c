-- The comparison that a search for the end of a head makes.
use Rattle.std.proofs.Common.{◌≡◌, ℕ, ◌+◌, ◌-◌, ◌≤◌, Bool, List, [], ◌∷◌, ◌++◌, length, take, drop, ap, ◌∙◌, sym, arith, inl, inr, Decides, length-append, length-take, length-drop}
use Rattle.std.specs.Str.{bytes_eq}
use Rattle.std.proofs.lemmas.Slice.Eq.{bytes_eq-Decides}
use Rattle.std.proofs.lemmas.Bool.{cases_lt}
use Rattle.std.proofs.lemmas.Bool.Decides.{Decides-at}
use Rattle.std.proofs.lemmas.List.{drop-append-le, take-append-le}
use Rattle.web_heads.specs.HeadEnds.{EndsLines, IsFirstEnd}

pub EndsLines-Decides : (bytes : List ℕ) (at : ℕ) (ends : List ℕ) (r : Bool) → r ≡ bytes_eq (take (at + 4 - at) (drop at bytes)) ends
    → ends ≡ 13 ∷ 10 ∷ 13 ∷ 10 ∷ [] → Decides r (EndsLines bytes at)
EndsLines-Decides bytes at ends r e is =
    let four : at + 4 - at ≡ 4 = omega arith in
    Decides-at r (bytes_eq (take 4 (drop at bytes)) (13 ∷ 10 ∷ 13 ∷ 10 ∷ []))
    (e ∙ ap (λ (n : ℕ). bytes_eq (take n (drop at bytes)) ends) four ∙ ap (bytes_eq (take 4 (drop at bytes))) is)
    (bytes_eq-Decides (take 4 (drop at bytes)) (13 ∷ 10 ∷ 13 ∷ 10 ∷ []))

-- four bytes stand from the place on
pub EndsLines-within : (bytes : List ℕ) (at : ℕ) → EndsLines bytes at → at + 4 ≤ length bytes
EndsLines-within bytes at ends =
    let four : length (take 4 (drop at bytes)) ≡ 4 = ap length ends in
    omega (arith, length-take 4 (drop at bytes), length-drop at bytes)

-- what ends before the end of the bytes is there without those that follow, and with them
pub EndsLines-before : (bytes more : List ℕ) (at : ℕ) → at + 4 ≤ length bytes → EndsLines (bytes ++ more) at → EndsLines bytes at
EndsLines-before bytes more at within ends =
    sym (ap (take 4) (drop-append-le at bytes more (omega arith))
    ∙ take-append-le 4 (drop at bytes) more (omega (arith, length-drop at bytes)))
    ∙ ends

pub EndsLines-append : (bytes more : List ℕ) (at : ℕ) → EndsLines bytes at → EndsLines (bytes ++ more) at
EndsLines-append bytes more at ends =
    let within = EndsLines-within bytes at ends in
    ap (take 4) (drop-append-le at bytes more (omega arith)) ∙ take-append-le 4 (drop at bytes) more (omega (arith, length-drop at bytes)) ∙ ends

-- ends nowhere
abbrev pub HasNone : List ℕ → Type 0
HasNone bytes = (at : ℕ) → ¬ (EndsLines bytes at)

pub HasNone-front : (bytes more : List ℕ) → HasNone (bytes ++ more) → HasNone bytes
HasNone-front bytes more none at ends = none at (EndsLines-append bytes more at ends)

-- what ends with one byte more ends with that byte
pub IsFirstEnd-push : (bytes : List ℕ) (b at : ℕ) → HasNone bytes → EndsLines (bytes ++ b ∷ []) at
    → IsFirstEnd (bytes ++ b ∷ []) 0 (length (bytes ++ b ∷ []))
IsFirstEnd-push bytes b at none ends =
    let within = EndsLines-within (bytes ++ b ∷ []) at ends in
    let longer = length-append bytes (b ∷ []) in
    elim (cases_lt (length bytes) (at + 4)) [
      | inl last ↦ record {
        at = at;
        stop_is = omega arith;
        after = omega arith;
        ends = ends;
        first = λ other from is. elim (cases_lt other at) [
          | inl before ↦ absurd (none other (EndsLines-before bytes (b ∷ []) other (omega arith) is))
          | inr later ↦ later
        ];
      }
      | inr before ↦ absurd (none at (EndsLines-before bytes (b ∷ []) at before ends))
    ]

EndsLines-later : (bytes more : List ℕ) → HasNone bytes → (at : ℕ) → EndsLines (bytes ++ more) at → length bytes - 3 ≤ at
EndsLines-later bytes more none at ends = elim (cases_lt at (length bytes - 3)) [
  | inl before ↦ absurd (none at (EndsLines-before bytes more at (omega arith) ends))
  | inr after ↦ after
]

pub goes_on_found : (bytes more : List ℕ) (stop : ℕ) → HasNone bytes
    → IsFirstEnd (bytes ++ more) (length bytes - 3) stop → IsFirstEnd (bytes ++ more) 0 stop
goes_on_found bytes more stop none x = record {
  at = x.at;
  stop_is = x.stop_is;
  after = omega arith;
  ends = x.ends;
  first = λ other from ends. x.first other (EndsLines-later bytes more none other ends) ends;
}

pub goes_on_none : (bytes more : List ℕ) → HasNone bytes
    → ((at : ℕ) → length bytes - 3 ≤ at → ¬ (EndsLines (bytes ++ more) at)) → HasNone (bytes ++ more)
goes_on_none bytes more none later at ends = later at (EndsLines-later bytes more none at ends) ends
