-- What a scalar is written as is read as the scalar.
use Rattle.std.proofs.Common.{◌≡◌, ℤ, ◌%◌, ◌^◌, Bool, true, false, refl, arith}
use Rattle.std.specs.Int.{w32, w64, cast_unsigned}
use Rattle.std.specs.Prelude.{FitsSigned}
use Rattle.std.proofs.lemmas.Int.{ints, to_z-of_z}
use Rattle.proto_fields.specs.Readings.{int32_of, int64_of, bool_of}
use Rattle.proto_fields.specs.Spelling.{bits_of, bit_of}

pub int64_returns : (value : ℤ) → FitsSigned w64 value → int64_of (bits_of value) ≡ value
int64_returns value fits = to_z-of_z w64 value fits

low_bits : (value : ℤ) → FitsSigned w32 value → bits_of value % 2 ^ 32 ≡ cast_unsigned w32 value
low_bits value fits = omega (arith, ints)

pub int32_returns : (value : ℤ) → FitsSigned w32 value → int32_of (bits_of value) ≡ value
int32_returns value fits = rw (low_bits value fits) (to_z-of_z w32 value fits)

pub bool_returns : (value : Bool) → bool_of (bit_of value) ≡ value
bool_returns true = refl
bool_returns false = refl
