-- The test of UTF-8 as a fact.
use Rattle.std.proofs.Common.{◌≡◌, ℕ, Bool, true, false, List, refl}
use Rattle.std.specs.Prelude.{IsUtf8}
use Rattle.std.specs.Str.{is_utf8}
use Rattle.std.proofs.lemmas.Str.{IsUtf8-from_is_utf8, is_utf8-from_IsUtf8}

-- what isn't true is false
false_from_not : (test : Bool) → (test ≡ true → ⊥) → test ≡ false
false_from_not true refuted = absurd (refuted refl)
false_from_not false refuted = refl

-- what is no UTF-8 fails the test
pub is_utf8-false : (bytes : List ℕ) → ¬ IsUtf8 bytes → is_utf8 bytes ≡ false
is_utf8-false bytes refuted = false_from_not (is_utf8 bytes) (λ e. refuted (IsUtf8-from_is_utf8 bytes e))

-- what fails the test is no UTF-8
pub not_utf8 : (bytes : List ℕ) → is_utf8 bytes ≡ false → ¬ IsUtf8 bytes
not_utf8 bytes e is = let yes = is_utf8-from_IsUtf8 bytes is in absurd cc
