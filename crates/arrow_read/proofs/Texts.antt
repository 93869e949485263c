-- The test of UTF-8 as a fact.
use Rattle.std.proofs.Common.{◌≡◌, ℕ, Bool, true, false, cond, List, None, Some, refl, subst}
use Rattle.std.specs.Prelude.{IsUtf8}
use Rattle.std.specs.Str.{is_utf8}
use Rattle.std.proofs.lemmas.Bool.{false_from_ne_true}
use Rattle.arrow_read.specs.Tables.{utf8}
use Rattle.std.proofs.lemmas.Str.{IsUtf8-from_is_utf8, is_utf8-from_IsUtf8}

-- what is no UTF-8 fails the test
pub is_utf8-false : (bytes : List ℕ) → ¬ IsUtf8 bytes → is_utf8 bytes ≡ false
is_utf8-false bytes refuted = false_from_ne_true (is_utf8 bytes) (λ e. refuted (IsUtf8-from_is_utf8 bytes e))

-- a text that is read
pub utf8_is : (bytes text : List ℕ) → utf8 bytes ≡ Some text → (bytes ≡ text) × IsUtf8 text
unfolding utf8
utf8_is bytes text h = by_test (is_utf8 bytes) refl h
  where
    by_test : (b : Bool) → is_utf8 bytes ≡ b → cond b (Some bytes) None ≡ Some text → (bytes ≡ text) × IsUtf8 text
    by_test true e g = let same : bytes ≡ text = cc in (same, subst IsUtf8 same (IsUtf8-from_is_utf8 bytes e))
    by_test false e g = absurd (cc)

pub is_utf8_text : (text : List ℕ) → IsUtf8 text → utf8 text ≡ Some text
unfolding utf8
is_utf8_text text h = rw (is_utf8-from_IsUtf8 text h) refl
