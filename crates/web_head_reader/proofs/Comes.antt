-- What more bytes of a head lead to: the head goes on, it is whole, or it is too long.
use Rattle.std.proofs.Common.{◌≡◌, ℕ, ◌<◌, ◌≤◌, true, false, ltb, List, [], ◌∷◌, ◌++◌, length, refl, sym, ap, ◌∙◌, subst, arith, append_assoc, append-nil, length-append, inl, inr}
use Rattle.std.proofs.lemmas.Bool.{cases_Bool, cases_lt, cond-true, cond-false, lt-ltb, le-ltb, both_ways}
use Rattle.web_head_reader.specs.declared.fault.HeadReadFault.TheVariants.{HeadTooLong}
use Rattle.web_head_reader.specs.declared.place.HeadPlace.TheVariants.{Open, Whole}
use Rattle.web_head_reader.specs.Steps.{HeadState, ends_head, state_of, step_at, head_step, after, refused_at}
use Rattle.web_head_reader.specs.Standard.{HasNoEnd, HasHead, IsBegun, HasTooLong}
use Rattle.web_head_reader.proofs.Ends.{HasNoEnd-push, IsFirstEnd-ends_head, begun_not_whole, one_head, whole_not_full}
use Rattle.web_head_reader.proofs.Machine.{after-nil, after-cons, after-Whole, after-Refused}

-- within a head of which these bytes have come, and after one
abbrev pub open_at : List ℕ → HeadState
open_at held = record { place = Open; held = held }

abbrev pub whole_at : List ℕ → HeadState
whole_at held = record { place = Whole; held = held }

-- ---- one byte

step-ends : (held : List ℕ) (b : ℕ) → ends_head (held ++ b ∷ []) ≡ true → head_step (open_at held) b ≡ whole_at (held ++ b ∷ [])
unfolding head_step step_at state_of
step-ends held b e = cond-true (ends_head (held ++ b ∷ [])) (whole_at (held ++ b ∷ [])) _ e

step-on : (held : List ℕ) (b : ℕ) → ends_head (held ++ b ∷ []) ≡ false → length (held ++ b ∷ []) < 16384
    → head_step (open_at held) b ≡ open_at (held ++ b ∷ [])
unfolding head_step step_at state_of
step-on held b e short =
    cond-false (ends_head (held ++ b ∷ [])) (whole_at (held ++ b ∷ [])) _ e
    ∙ cond-true (ltb (length (held ++ b ∷ [])) 16384) (open_at (held ++ b ∷ [])) (refused_at HeadTooLong)
    (lt-ltb (length (held ++ b ∷ [])) 16384 short)

step-long : (held : List ℕ) (b : ℕ) → ends_head (held ++ b ∷ []) ≡ false → 16384 ≤ length (held ++ b ∷ [])
    → head_step (open_at held) b ≡ refused_at HeadTooLong
unfolding head_step step_at state_of
step-long held b e long =
    cond-false (ends_head (held ++ b ∷ [])) (whole_at (held ++ b ∷ [])) _ e
    ∙ cond-false (ltb (length (held ++ b ∷ [])) 16384) (open_at (held ++ b ∷ [])) (refused_at HeadTooLong)
    (le-ltb (length (held ++ b ∷ [])) 16384 long)

-- ---- bytes

-- what the bytes lead to after those in front
pub data Comes (front bytes : List ℕ) : Type 0 where
  goes_on : IsBegun (front ++ bytes) → after (open_at front) bytes ≡ open_at (front ++ bytes) → Comes front bytes
  ends : (head : List ℕ) → HasHead (front ++ bytes) head → after (open_at front) bytes ≡ whole_at head → Comes front bytes
  is_long : HasTooLong (front ++ bytes) → after (open_at front) bytes ≡ refused_at HeadTooLong → Comes front bytes

-- the first of the bytes is moved to those in front
comes_after : (front : List ℕ) (b : ℕ) (bytes : List ℕ) → head_step (open_at front) b ≡ open_at (front ++ b ∷ [])
    → Comes (front ++ b ∷ []) bytes → Comes front (b ∷ bytes)
comes_after front b bytes e (goes_on begun leads) =
    let moved : (front ++ b ∷ []) ++ bytes ≡ front ++ b ∷ bytes = append_assoc front (b ∷ []) bytes in
    goes_on (subst IsBegun moved begun)
    (after-cons (open_at front) b bytes ∙ ap (λ (s : HeadState). after s bytes) e ∙ leads ∙ ap open_at moved)
comes_after front b bytes e (ends head has leads) =
    let moved : (front ++ b ∷ []) ++ bytes ≡ front ++ b ∷ bytes = append_assoc front (b ∷ []) bytes in
    ends head (subst (λ (all : List ℕ). HasHead all head) moved has)
    (after-cons (open_at front) b bytes ∙ ap (λ (s : HeadState). after s bytes) e ∙ leads)
comes_after front b bytes e (is_long has leads) =
    let moved : (front ++ b ∷ []) ++ bytes ≡ front ++ b ∷ bytes = append_assoc front (b ∷ []) bytes in
    is_long (subst HasTooLong moved has)
    (after-cons (open_at front) b bytes ∙ ap (λ (s : HeadState). after s bytes) e ∙ leads)

comes_ended : (front : List ℕ) (b : ℕ) (bytes : List ℕ) → IsBegun front → ends_head (front ++ b ∷ []) ≡ true → Comes front (b ∷ bytes)
comes_ended front b bytes begun e =
    let longer = length-append front (b ∷ []) in
    let before = begun.short in
    ends (front ++ b ∷ [])
    (record {
      rest = bytes;
      bytes_are = sym (append_assoc front (b ∷ []) bytes);
      is_head = record { ends = IsFirstEnd-ends_head front b begun.none e; short = omega arith };
    })
    (after-cons (open_at front) b bytes ∙ ap (λ (s : HeadState). after s bytes) (step-ends front b e)
    ∙ after-Whole (whole_at (front ++ b ∷ [])) bytes refl)

comes_long : (front : List ℕ) (b : ℕ) (bytes : List ℕ) → IsBegun front → HasNoEnd (front ++ b ∷ []) → ends_head (front ++ b ∷ []) ≡ false
    → 16384 ≤ length (front ++ b ∷ []) → Comes front (b ∷ bytes)
comes_long front b bytes begun none e long =
    let longer = length-append front (b ∷ []) in
    let before = begun.short in
    is_long
    (record {
      settled = front ++ b ∷ [];
      rest = bytes;
      bytes_are = sym (append_assoc front (b ∷ []) bytes);
      too_long = record { none = none; full = omega arith };
    })
    (after-cons (open_at front) b bytes ∙ ap (λ (s : HeadState). after s bytes) (step-long front b e long)
    ∙ after-Refused (refused_at HeadTooLong) bytes HeadTooLong refl)

pub comes : (front bytes : List ℕ) → IsBegun front → Comes front bytes
comes front [] begun =
    let same = append-nil front in
    goes_on (subst IsBegun (sym same) begun) (after-nil (open_at front) ∙ ap open_at (sym same))
comes front (b ∷ bytes) begun = elim (cases_Bool (ends_head (front ++ b ∷ []))) [
  | inl ended ↦ comes_ended front b bytes begun ended
  | inr not_ended ↦
      let none = HasNoEnd-push front b begun.none (both_ways (ends_head (front ++ b ∷ [])) not_ended) in
      elim (cases_lt (length (front ++ b ∷ [])) 16384) [
        | inl short ↦ comes_after front b bytes (step-on front b not_ended short) (comes (front ++ b ∷ []) bytes (record { none = none; short = short }))
        | inr long ↦ comes_long front b bytes begun none not_ended long
      ]
]

-- ---- what the bytes are says which of the three it is

pub whole_not_too_long : (bytes head : List ℕ) → HasHead bytes head → ¬ (HasTooLong bytes)
whole_not_too_long bytes head x y =
    whole_not_full head x.rest y.settled y.rest (sym x.bytes_are ∙ y.bytes_are) x.is_head y.too_long

pub begun_not_too_long : (bytes : List ℕ) → IsBegun bytes → ¬ (HasTooLong bytes)
begun_not_too_long bytes x y =
    let short = x.short in
    let full = y.too_long.full in
    let parts = ap length y.bytes_are ∙ length-append y.settled y.rest in
    absurd (omega arith)

pub after_begun : (front bytes : List ℕ) → IsBegun front → IsBegun (front ++ bytes) → after (open_at front) bytes ≡ open_at (front ++ bytes)
after_begun front bytes begun x = go (comes front bytes begun)
  where
    go : Comes front bytes → after (open_at front) bytes ≡ open_at (front ++ bytes)
    go (goes_on _ leads) = leads
    go (ends head has leads) = absurd (begun_not_whole (front ++ bytes) head x has)
    go (is_long has leads) = absurd (begun_not_too_long (front ++ bytes) x has)

pub after_whole : (front bytes head : List ℕ) → IsBegun front → HasHead (front ++ bytes) head → after (open_at front) bytes ≡ whole_at head
after_whole front bytes head begun x = go (comes front bytes begun)
  where
    go : Comes front bytes → after (open_at front) bytes ≡ whole_at head
    go (goes_on y leads) = absurd (begun_not_whole (front ++ bytes) head y x)
    go (ends other has leads) = leads ∙ ap whole_at (one_head (front ++ bytes) other head has x)
    go (is_long has leads) = absurd (whole_not_too_long (front ++ bytes) head x has)

pub after_long : (front bytes : List ℕ) → IsBegun front → HasTooLong (front ++ bytes) → after (open_at front) bytes ≡ refused_at HeadTooLong
after_long front bytes begun x = go (comes front bytes begun)
  where
    go : Comes front bytes → after (open_at front) bytes ≡ refused_at HeadTooLong
    go (goes_on y leads) = absurd (begun_not_too_long (front ++ bytes) y x)
    go (ends head has leads) = absurd (whole_not_too_long (front ++ bytes) head has x)
    go (is_long has leads) = leads
