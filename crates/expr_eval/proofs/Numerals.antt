-- Numbers that wrap, as the machine's operations leave them.
use Rattle.std.proofs.Common.{◌≡◌, ◌<◌, ◌-◌, ◌*◌, ◌/◌, ◌^◌, ℕ, zero, suc, ℤ, pos, negsuc, neg_ℤ, ◌+ℤ◌, ◌-ℤ◌, FitsSigned, to_z, of_z, refl, sym, ap, ◌∙◌, rules, arith}
use Rattle.std.specs.Prelude.{unsigned_abs, int_div}
use lib.Pow.{pow_pos}
use lib.Signed.{mag}
use mir.Syntax.{Width}
use mir.Val.{bits}
use mir.ValLaws.{pow-bits}
use Rattle.std.proofs.Math.Nat.{mod-eq_of_lt, div-le_self}
use Rattle.std.specs.Int.{w32, w64, int_rem_euclid, int_wrap}
use Rattle.std.proofs.lemmas.Int.{int_wrap_fits, int_rem_euclid_is, to_z-of_z, ints}

no_more : (m n : ℕ) → pos m +ℤ pos (0 * n) ≡ pos m
no_more m n = omega (arith, ints)

-- a natural that has no more bits than the width
pub int_wrap-pos : (w : Width) (m : ℕ) → m < 2 ^ bits w → int_wrap w (pos m) ≡ to_z w m
unfolding int_wrap
int_wrap-pos w m h =
    ap (λ z. to_z w (unsigned_abs z)) (int_rem_euclid_is (pos m) (pos (2 ^ bits w)) (2 ^ bits w) 0 m (pow_pos (bits w)) refl (no_more m (2 ^ bits w)))
    ∙ ap (to_z w) (mod-eq_of_lt h)

pub int_wrap-magnitude : (w : Width) (z : ℤ) → FitsSigned w z → to_z w (unsigned_abs z) ≡ int_wrap w (pos (unsigned_abs z))
int_wrap-magnitude w (pos n) f = sym (int_wrap-pos w n (omega (arith, f.sfits, pow-bits w)))
int_wrap-magnitude w (negsuc n) f = sym (int_wrap-pos w (suc n) (omega (arith, f.sfits, pow-bits w)))

fits : (w : Width) (z : ℤ) → FitsSigned w z → to_z w (of_z w z) ≡ int_wrap w z
fits w z f = to_z-of_z w z f ∙ sym (int_wrap_fits w z f)

mag-neg : (n : ℕ) → mag (neg_ℤ (pos n)) ≡ n - 1
mag-neg zero = refl
mag-neg (suc n) = omega arith

-- a quotient towards zero
pub int_wrap-quotient : (w : Width) (x y : ℤ) → FitsSigned w x → to_z w (of_z w (int_div x y)) ≡ int_wrap w (int_div x y)
int_wrap-quotient w (pos a) (pos b) f = fits w (pos (a / b)) (record { sfits = omega (arith, f.sfits, div-le_self a b) })
int_wrap-quotient w (pos a) (negsuc b) f = fits w (neg_ℤ (pos (a / suc b))) (record { sfits = omega (arith, f.sfits, div-le_self a (suc b), mag-neg (a / suc b)) })
int_wrap-quotient w (negsuc a) (pos b) f = fits w (neg_ℤ (pos (suc a / b))) (record { sfits = omega (arith, f.sfits, div-le_self (suc a) b, mag-neg (suc a / b)) })
int_wrap-quotient w (negsuc a) (negsuc b) f = sym (int_wrap-pos w (suc a / suc b) (omega (arith, f.sfits, pow-bits w, div-le_self (suc a) (suc b))))

-- the lowest 32 bits of a long
pub int_wrap-low : (n rest low : ℤ) → FitsSigned w64 n → FitsSigned w64 rest → FitsSigned w32 low
    → rest ≡ int_rem_euclid (to_z w64 (of_z w64 n)) (pos 4294967296) → low ≡ to_z w32 (unsigned_abs (to_z w64 (of_z w64 rest))) → to_z w32 (of_z w32 low) ≡ int_wrap w32 n
unfolding int_wrap
int_wrap-low n rest low fn fr fl e f =
    to_z-of_z w32 low fl ∙ f ∙ ap (λ z. to_z w32 (unsigned_abs z)) (to_z-of_z w64 rest fr ∙ e)
    ∙ ap (λ z. to_z w32 (unsigned_abs (int_rem_euclid z (pos 4294967296)))) (to_z-of_z w64 n fn)

difference_fits : (a b : ℤ) → FitsSigned w32 a → FitsSigned w32 b → FitsSigned w64 (a -ℤ b)
difference_fits a b fa fb = search rules

-- a difference of two integers, as a long
pub difference : (a b x y : ℤ) → FitsSigned w64 x → FitsSigned w64 y → x ≡ a → y ≡ b → FitsSigned w32 a → FitsSigned w32 b → to_z w64 (of_z w64 (to_z w64 (of_z w64 x) -ℤ to_z w64 (of_z w64 y))) ≡ a -ℤ b
difference a b x y fx fy e f fa fb = rw (to_z-of_z w64 x fx, to_z-of_z w64 y fy, e, f) (to_z-of_z w64 (a -ℤ b) (difference_fits a b fa fb))
