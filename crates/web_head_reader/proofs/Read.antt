-- What the machine reads is what the bytes are.
use Rattle.std.proofs.Common.{◌≡◌, ℕ, List, [], sym, ap, ◌∙◌, subst, arith, inl, inr, ◌⊎◌}
use Rattle.web_head_reader.specs.declared.fault.HeadReadFault.TheVariants.{HeadTooLong}
use Rattle.web_head_reader.specs.declared.place.HeadPlace.TheVariants.{Open, Whole, Refused}
use Rattle.web_head_reader.specs.Steps.{HeadState, begin, after, refused_at}
use Rattle.web_head_reader.specs.Standard.{HasHead, IsBegun, HasTooLong}
use Rattle.web_head_reader.specs.Laws.{HeadsAreRead, HeadsAreOne, EndsAreFirst, PiecesJoin}
use Rattle.web_head_reader.proofs.Ends.{HasNoEnd-nil, IsHead-front, IsTooLong-front, begun_not_whole, one_head}
use Rattle.web_head_reader.proofs.Machine.{pieces_state, after-Whole, after-Refused}
use Rattle.web_head_reader.proofs.Comes.{Comes, goes_on, ends, is_long, comes, whole_at, after_begun, after_whole, after_long, begun_not_too_long, whole_not_too_long}

pub none_begun : IsBegun []
none_begun = record { none = HasNoEnd-nil; short = omega arith }

pub all : (bytes : List ℕ) → Comes [] bytes
all bytes = comes [] bytes none_begun

open_begun : (bytes : List ℕ) → (after begin bytes).place ≡ Open → IsBegun bytes
open_begun bytes e = go (all bytes)
  where
    go : Comes [] bytes → IsBegun bytes
    go (goes_on x leads) = x
    go (ends head has leads) = absurd (let other : Whole ≡ Open = sym (ap (λ (s : HeadState). s.place) leads) ∙ e in cc)
    go (is_long has leads) = absurd (let other : Refused HeadTooLong ≡ Open = sym (ap (λ (s : HeadState). s.place) leads) ∙ e in cc)

whole_head : (bytes head : List ℕ) → after begin bytes ≡ whole_at head → HasHead bytes head
whole_head bytes head e = go (all bytes)
  where
    go : Comes [] bytes → HasHead bytes head
    go (goes_on x leads) = absurd (let other : Open ≡ Whole = ap (λ (s : HeadState). s.place) (sym leads ∙ e) in cc)
    go (ends other has leads) = subst (HasHead bytes) (ap (λ (s : HeadState). s.held) (sym leads ∙ e)) has
    go (is_long has leads) = absurd (let other : Refused HeadTooLong ≡ Whole = ap (λ (s : HeadState). s.place) (sym leads ∙ e) in cc)

refused_long : (bytes : List ℕ) → after begin bytes ≡ refused_at HeadTooLong → HasTooLong bytes
refused_long bytes e = go (all bytes)
  where
    go : Comes [] bytes → HasTooLong bytes
    go (goes_on x leads) = absurd (let other : Open ≡ Refused HeadTooLong = ap (λ (s : HeadState). s.place) (sym leads ∙ e) in cc)
    go (ends head has leads) = absurd (let other : Whole ≡ Refused HeadTooLong = ap (λ (s : HeadState). s.place) (sym leads ∙ e) in cc)
    go (is_long has leads) = has

pub heads_are_read : HeadsAreRead
heads_are_read = record {
  begun = λ bytes. (after_begun [] bytes none_begun, λ e. open_begun bytes (ap (λ (s : HeadState). s.place) e));
  within = λ bytes. (λ x. ap (λ (s : HeadState). s.place) (after_begun [] bytes none_begun x), open_begun bytes);
  whole = λ bytes head. (after_whole [] bytes head none_begun, whole_head bytes head);
  too_long = λ bytes. (after_long [] bytes none_begun, refused_long bytes);
}

some_of : (bytes : List ℕ) → IsBegun bytes ⊎ (((head : List ℕ) × HasHead bytes head) ⊎ HasTooLong bytes)
some_of bytes = go (all bytes)
  where
    go : Comes [] bytes → IsBegun bytes ⊎ (((head : List ℕ) × HasHead bytes head) ⊎ HasTooLong bytes)
    go (goes_on x leads) = inl x
    go (ends head has leads) = inr (inl (head, has))
    go (is_long has leads) = inr (inr has)

pub heads_are_one : HeadsAreOne
heads_are_one = record {
  some = some_of;
  begun_not_whole = begun_not_whole;
  begun_not_too_long = begun_not_too_long;
  whole_not_too_long = whole_not_too_long;
  one_head = one_head;
}

pub ends_are_first : EndsAreFirst
ends_are_first = record { whole = IsHead-front; too_long = IsTooLong-front }

pub pieces_join : PiecesJoin
pieces_join = record { state = pieces_state; ended = after-Whole; refused = after-Refused }
