-- The end of a head, by the last bytes.
use Rattle.std.proofs.Common.{◌≡◌, ℕ, ◌+◌, ◌-◌, ◌≤◌, List, [], ◌∷◌, ◌++◌, length, take, drop, refl, sym, ap, ◌∙◌, subst, arith, inl, inr, Decides, true, length-append}
use Rattle.std.proofs.lemmas.Bool.{cases_lt}
use Rattle.std.proofs.lemmas.List.{take_at}
use Rattle.std.proofs.lemmas.Slice.Eq.{bytes_eq-Decides}
use Rattle.web_heads.specs.HeadEnds.{EndsLines, IsFirstEnd}
use Rattle.web_heads.proofs.EndLemmas.{EndsLines-within, EndsLines-before, EndsLines-append, HasNone-front, IsFirstEnd-push}
use Rattle.web_head_reader.specs.Steps.{ends_head}
use Rattle.web_head_reader.specs.Standard.{HasNoEnd, IsHead, HasHead, IsBegun, IsTooLong}

-- the last four bytes are CR LF CR LF
pub ends_head-Decides : (bytes : List ℕ) → Decides (ends_head bytes) (EndsLines bytes (length bytes - 4))
unfolding ends_head
ends_head-Decides bytes = bytes_eq-Decides (take 4 (drop (length bytes - 4) bytes)) (13 ∷ 10 ∷ 13 ∷ 10 ∷ [])

pub HasNoEnd-nil : HasNoEnd []
HasNoEnd-nil at ends = let within = EndsLines-within [] at ends in absurd (omega arith)

-- ---- one byte more

-- it ends nothing
pub HasNoEnd-push : (bytes : List ℕ) (b : ℕ) → HasNoEnd bytes → (ends_head (bytes ++ b ∷ []) ≡ true → ⊥) → HasNoEnd (bytes ++ b ∷ [])
HasNoEnd-push bytes b none goes_on at ends =
    let within = EndsLines-within (bytes ++ b ∷ []) at ends in
    let longer = length-append bytes (b ∷ []) in
    elim (cases_lt (length bytes) (at + 4)) [
      | inl last ↦
          let here : at ≡ length (bytes ++ b ∷ []) - 4 = omega arith in
          goes_on ((ends_head-Decides (bytes ++ b ∷ [])).1 (subst (EndsLines (bytes ++ b ∷ [])) here ends))
      | inr before ↦ none at (EndsLines-before bytes (b ∷ []) at before ends)
    ]

-- or the head
pub IsFirstEnd-ends_head : (bytes : List ℕ) (b : ℕ) → HasNoEnd bytes → ends_head (bytes ++ b ∷ []) ≡ true
    → IsFirstEnd (bytes ++ b ∷ []) 0 (length (bytes ++ b ∷ []))
IsFirstEnd-ends_head bytes b none ended =
    IsFirstEnd-push bytes b (length (bytes ++ b ∷ []) - 4) none ((ends_head-Decides (bytes ++ b ∷ [])).0 ended)

-- ---- heads

-- before a head's last byte there is no end
pub IsHead-front : (front : List ℕ) (b : ℕ) (back : List ℕ) → IsHead (front ++ b ∷ back) → IsBegun front
IsHead-front front b back x =
    let longer = length-append front (b ∷ back) in
    let limit = x.short in
    record {
      none = λ at ends.
          let within = EndsLines-within front at ends in
          let first = x.ends.first at (omega arith) (EndsLines-append front (b ∷ back) at ends) in
          let stop = x.ends.stop_is in
          absurd (omega arith);
      short = omega arith;
    }

pub IsTooLong-front : (front : List ℕ) (b : ℕ) (back : List ℕ) → IsTooLong (front ++ b ∷ back) → IsBegun front
IsTooLong-front front b back x =
    let longer = length-append front (b ∷ back) in
    let limit = x.full in
    record { none = HasNone-front front (b ∷ back) x.none; short = omega arith }

-- the first end in the bytes is that of the head at their beginning
pub IsHead-IsFirstEnd : (head rest : List ℕ) → IsHead head → IsFirstEnd (head ++ rest) 0 (length head)
IsHead-IsFirstEnd head rest x = record {
  at = x.ends.at;
  stop_is = x.ends.stop_is;
  after = x.ends.after;
  ends = EndsLines-append head rest x.ends.at x.ends.ends;
  first = λ other from is. elim (cases_lt other x.ends.at) [
    | inl before ↦ let stop = x.ends.stop_is in x.ends.first other from (EndsLines-before head rest other (omega arith) is)
    | inr later ↦ later
  ];
}

-- and where the bytes have their first end there, their beginning is a head
pub IsFirstEnd-IsHead : (head rest : List ℕ) → IsFirstEnd (head ++ rest) 0 (length head) → length head ≤ 16384 → IsHead head
IsFirstEnd-IsHead head rest x short = record {
  ends = record {
    at = x.at;
    stop_is = x.stop_is;
    after = x.after;
    ends = let stop = x.stop_is in EndsLines-before head rest x.at (omega arith) x.ends;
    first = λ other from is. x.first other from (EndsLines-append head rest other is);
  };
  short = short;
}

one_end : (bytes : List ℕ) (first second : ℕ) → IsFirstEnd bytes 0 first → IsFirstEnd bytes 0 second → first ≡ second
one_end bytes first second x y =
    let below = x.first y.at y.after y.ends in
    let above = y.first x.at x.after x.ends in
    let first_is = x.stop_is in
    let second_is = y.stop_is in
    omega arith

pub one_head : (bytes first second : List ℕ) → HasHead bytes first → HasHead bytes second → first ≡ second
one_head bytes first second x y =
    let same = one_end bytes (length first) (length second)
    (subst (λ (all : List ℕ). IsFirstEnd all 0 (length first)) (sym x.bytes_are) (IsHead-IsFirstEnd first x.rest x.is_head))
    (subst (λ (all : List ℕ). IsFirstEnd all 0 (length second)) (sym y.bytes_are) (IsHead-IsFirstEnd second y.rest y.is_head)) in
    sym (take_at first x.rest (length first) refl) ∙ ap (take (length first)) (sym x.bytes_are ∙ y.bytes_are)
    ∙ take_at second y.rest (length first) (sym same)

pub begun_not_whole : (bytes head : List ℕ) → IsBegun bytes → ¬ (HasHead bytes head)
begun_not_whole bytes head x y =
    subst HasNoEnd y.bytes_are x.none y.is_head.ends.at (EndsLines-append head y.rest y.is_head.ends.at y.is_head.ends.ends)

-- a head stands within what would be too long
pub whole_not_full : (head rest settled more : List ℕ) → head ++ rest ≡ settled ++ more → IsHead head → IsTooLong settled → ⊥
whole_not_full head rest settled more e x y =
    let limit = x.short in
    let full = y.full in
    let stop = x.ends.stop_is in
    y.none x.ends.at
    (EndsLines-before settled more x.ends.at (omega arith) (subst (λ (all : List ℕ). EndsLines all x.ends.at) e (EndsLines-append head rest x.ends.at x.ends.ends)))
