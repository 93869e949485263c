-- More of bytes that stand at a place: the whole of a buffer, and numbers that are read there.
use Rattle.std.proofs.Common.{◌≡◌, ℕ, ◌^◌, ◌<◌, List, [], arith, refl, sym, subst}
use Rattle.std.specs.Prelude.{ℤ, pos, Ok, FitsSigned}
use Rattle.std.specs.Int.{w32, w64, to_le_bytes, cast_unsigned}
use Rattle.std.proofs.lemmas.List.{append-nil}
use Rattle.std.proofs.lemmas.Int.{ints}
use Rattle.flat_tables.specs.Reading.{i32_at, i64_at}
use Rattle.flat_tables.specs.Layout.{i64_bytes}
use Rattle.flat_tables.proofs.Standing.{Stands, i32_there, i64_there}

-- all of a buffer stands at its beginning
pub whole : (b : List ℕ) → Stands b 0 b
whole b = record { before = []; after = []; is = sym (append-nil b); place = refl }

-- a number below 2^31
pub n32_there : (b : List ℕ) (at n : ℕ) → n < 2 ^ 31 → Stands b at (to_le_bytes w32 n) → i32_at b at ≡ Ok (pos n)
n32_there b at n h s =
    let fits : FitsSigned w32 (pos n) = omega (arith, ints) in
    let same : cast_unsigned w32 (pos n) ≡ n = omega (arith, ints) in
    i32_there b at (pos n) fits (subst (λ (k : ℕ). Stands b at (to_le_bytes w32 k)) (sym same) s)

-- a long
pub long_there : (b : List ℕ) (at : ℕ) (z : ℤ) → FitsSigned w64 z → Stands b at (to_le_bytes w64 (cast_unsigned w64 z)) → i64_at b at ≡ Ok z
unfolding i64_bytes
long_there b at z h s = i64_there b at z h s

-- a pair's number below 2^63
pub n64_there : (b : List ℕ) (at n : ℕ) → n < 2 ^ 63 → Stands b at (i64_bytes (pos n)) → i64_at b at ≡ Ok (pos n)
n64_there b at n h s = let fits : FitsSigned w64 (pos n) = omega (arith, ints) in i64_there b at (pos n) fits s
