-- Where a list has its first element that passes a test.
use Rattle.std.proofs.Common.{◌≡◌, ℕ, ◌<◌, List, Bool, true, false, cond, Some, None, get_or, length, refl, ap, ◌∙◌, arith}
use Rattle.std.specs.List.{find, position, position_or_len, slice_get}
use Rattle.std.proofs.lemmas.Bool.Decides.{nat_tests}
use Rattle.std.proofs.lemmas.List.Folds.{find_at}
use Rattle.std.proofs.lemmas.List.Quantifiers.{position-Some}
use Rattle.std.proofs.lemmas.List.Sums.{position_or_len_is}
use Rattle.std.proofs.lemmas.Option.{slice_get_past, slice_get_read}
use Rattle.std.specs.Prelude.{nat_lt}

-- the element at the position is the one that is found
pub find_placed : {X : Type 0} (p : X → Bool) (xs : List X) (i : ℕ) (x : X) → position p xs ≡ Some i → x ≡ get_or xs i x → find p xs ≡ Some x
find_placed p xs i x placed read =
    let at = position-Some p xs i x placed in
    let within : i < length xs = at.0 in
    let first : position_or_len p xs ≡ i = position_or_len_is p xs i x (omega arith) at.2 (λ _. at.1) in
    find_at p xs ∙ (ap (slice_get xs) first ∙ slice_get_read xs (length xs) i x refl within read)

is_false : (b : Bool) (i : ℕ) → cond b (Some i) None ≡ None → b ≡ false
is_false true i e = cc
is_false false i e = refl

-- nothing is found where there is no position
pub find_absent : {X : Type 0} (p : X → Bool) (xs : List X) → position p xs ≡ None → find p xs ≡ None
find_absent p xs absent =
    let past : nat_lt (position_or_len p xs) (length xs) ≡ false = is_false _ (position_or_len p xs) absent in
    find_at p xs ∙ slice_get_past xs (position_or_len p xs) (grind (arith, nat_tests))
