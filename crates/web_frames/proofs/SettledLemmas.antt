-- What the bytes so far of one frame settle.
use Rattle.std.proofs.Common.{◌≡◌, ◌≢◌, ℕ, ◌+◌, ◌^◌, ◌<◌, ◌≤◌, true, false, not, cond, eqb, ltb, List, [], ◌∷◌, ◌++◌, length, get_or, take, drop, refl, sym, ap, ◌∙◌, inl, inr, arith}
use Rattle.std.specs.Prelude.{bit_and}
use Rattle.std.specs.Int.{w32, to_be_bytes, from_be_bytes}
use Rattle.std.proofs.lemmas.Bool.{cond-true, cond-false, cases_lt, lt-ltb, le-ltb, eqb-true, eqb-false, ne_eqb, not-true, not-false, not_from_false, false_from_ne_true}
use Rattle.std.proofs.lemmas.List.{take-append-le, take_at, drop_at, drop-append-le, length-append, get_or_past}
use Rattle.std.proofs.lemmas.Nat.{be_bytes_4, from_be_bytes-to_be_bytes_4}
use Rattle.web_frames.specs.declared.limits.Side.{Side}
use Rattle.web_frames.specs.declared.limits.Side.TheVariants.{Request, Response}
use Rattle.web_frames.specs.declared.fault.FrameFault.TheVariants.{FrameTooLong, Compressed, NoMessage}
use Rattle.web_frames.specs.Machine.{frame_limit, frame_head, frame, more, faulty, is_compressed, is_trailers, is_no_message, told_by, settled_by_length, settled_by_rest, settled_by}
use Rattle.web_frames.specs.Standard.{IsBytes, IsCompressed, IsTrailers, MayStand, IsFrame, IsBegun}

-- ---- flags

set_false : (flag mask : ℕ) → bit_and flag mask ≢ 0 → not (eqb (bit_and flag mask) 0) ≡ true
set_false flag mask set = not_from_false (eqb (bit_and flag mask) 0) (ne_eqb (bit_and flag mask) 0 set)

set_true : (flag mask : ℕ) → not (eqb (bit_and flag mask) 0) ≡ true → bit_and flag mask ≢ 0
set_true flag mask e = eqb-false (bit_and flag mask) 0 (not-true (eqb (bit_and flag mask) 0) e)

clear_false : (flag mask : ℕ) → not (eqb (bit_and flag mask) 0) ≡ false → ¬ (bit_and flag mask ≢ 0)
clear_false flag mask e set = set (eqb-true (bit_and flag mask) 0 (not-false (eqb (bit_and flag mask) 0) e))

clear_true : (flag mask : ℕ) → ¬ (bit_and flag mask ≢ 0) → not (eqb (bit_and flag mask) 0) ≡ false
clear_true flag mask clear = false_from_ne_true (not (eqb (bit_and flag mask) 0)) (λ e. clear (set_true flag mask e))

pub is_compressed-true : (flag : ℕ) → IsCompressed flag → is_compressed flag ≡ true
is_compressed-true flag set = set_false flag 1 set

pub IsCompressed-is : (flag : ℕ) → is_compressed flag ≡ true → IsCompressed flag
IsCompressed-is flag e = set_true flag 1 e

pub is_compressed-false : (flag : ℕ) → ¬ IsCompressed flag → is_compressed flag ≡ false
is_compressed-false flag clear = clear_true flag 1 clear

pub not_compressed : (flag : ℕ) → is_compressed flag ≡ false → ¬ IsCompressed flag
not_compressed flag e = clear_false flag 1 e

pub is_trailers-true : (flag : ℕ) → IsTrailers flag → is_trailers flag ≡ true
is_trailers-true flag set = set_false flag 128 set

pub IsTrailers-is : (flag : ℕ) → is_trailers flag ≡ true → IsTrailers flag
IsTrailers-is flag e = set_true flag 128 e

pub is_trailers-false : (flag : ℕ) → ¬ IsTrailers flag → is_trailers flag ≡ false
is_trailers-false flag clear = clear_true flag 128 clear

pub not_trailers : (flag : ℕ) → is_trailers flag ≡ false → ¬ IsTrailers flag
not_trailers flag e = clear_false flag 128 e

-- a flag that may stand is no fault
pub MayStand-compressed : (side : Side) (flag : ℕ) → MayStand side flag → is_compressed flag ≡ false
MayStand-compressed Request flag may = is_compressed-false flag may.0
MayStand-compressed Response flag may = is_compressed-false flag may

pub MayStand-no_message : (side : Side) (flag : ℕ) → MayStand side flag → is_no_message side flag ≡ false
MayStand-no_message Request flag may = is_trailers-false flag may.1
MayStand-no_message Response flag may = refl

pub MayStand-is : (side : Side) (flag : ℕ) → is_compressed flag ≡ false → is_no_message side flag ≡ false → MayStand side flag
MayStand-is Request flag plain message = (not_compressed flag plain, not_trailers flag message)
MayStand-is Response flag plain message = not_compressed flag plain

pub frame_limit-small : (side : Side) → frame_limit side < 2 ^ 32
frame_limit-small Request = omega arith
frame_limit-small Response = omega arith

-- ---- a length of four bytes

unfoldable pub size_bytes : ℕ → List ℕ
size_bytes count = to_be_bytes w32 count

unfoldable pub size_of : List ℕ → ℕ
size_of bytes = from_be_bytes w32 bytes

pub length-size_bytes : (count : ℕ) → length (size_bytes count) ≡ 4
unfolding size_bytes
length-size_bytes count = refl

pub size_of-size_bytes : (count : ℕ) → count < 2 ^ 32 → size_of (size_bytes count) ≡ count
unfolding size_bytes size_of
size_of-size_bytes count short = from_be_bytes-to_be_bytes_4 count short

pub size_bytes-size_of : (bytes : List ℕ) → length bytes ≡ 4 → IsBytes bytes → size_bytes (size_of bytes) ≡ bytes
unfolding size_bytes size_of
size_bytes-size_of bytes four all = be_bytes_4 bytes (from_be_bytes w32 bytes) four (byte_at_any bytes all) refl
  where
    byte_at_any : (bytes : List ℕ) → IsBytes bytes → (i : ℕ) → get_or bytes i 0 < 256
    byte_at_any bytes all i = elim (cases_lt i (length bytes)) [ inl within ↦ all i 0 within | inr past ↦ rw (get_or_past bytes i 0 past) (omega arith) ]

pub size_of-small : (bytes : List ℕ) → IsBytes bytes → size_of bytes < 2 ^ 32
unfolding size_of
size_of-small bytes all =
    let small : (i : ℕ) → get_or bytes i 0 < 256 = byte_at_any bytes all in
    let a = small 0 in
    let b = small 1 in
    let c = small 2 in
    let d = small 3 in
    omega (arith, a, b, c, d)
  where
    byte_at_any : (bytes : List ℕ) → IsBytes bytes → (i : ℕ) → get_or bytes i 0 < 256
    byte_at_any bytes all i = elim (cases_lt i (length bytes)) [ inl within ↦ all i 0 within | inr past ↦ rw (get_or_past bytes i 0 past) (omega arith) ]

pub frame_head-size_bytes : (flag count : ℕ) → frame_head flag count ≡ flag ∷ size_bytes count
unfolding frame_head size_bytes
frame_head-size_bytes flag count = refl

pub frame-size_bytes : (flag : ℕ) (payload : List ℕ) → frame flag payload ≡ flag ∷ (size_bytes (length payload) ++ payload)
frame-size_bytes flag payload = ap (λ (head : List ℕ). head ++ payload) (frame_head-size_bytes flag (length payload))

-- ---- one look after another

pub settled_by-nil : (side : Side) → settled_by side [] ≡ more
unfolding settled_by
settled_by-nil side = refl

settled_by-cons : (side : Side) (flag : ℕ) (rest : List ℕ)
    → settled_by side (flag ∷ rest) ≡ cond (is_compressed flag) (faulty Compressed) (cond (is_no_message side flag) (faulty NoMessage) (settled_by_rest side flag rest))
unfolding settled_by
settled_by-cons side flag rest = refl

pub settled_by-compressed : (side : Side) (flag : ℕ) (rest : List ℕ) → is_compressed flag ≡ true → settled_by side (flag ∷ rest) ≡ faulty Compressed
settled_by-compressed side flag rest e = settled_by-cons side flag rest ∙ cond-true (is_compressed flag) _ _ e

pub settled_by-no_message : (side : Side) (flag : ℕ) (rest : List ℕ) → is_compressed flag ≡ false → is_no_message side flag ≡ true
    → settled_by side (flag ∷ rest) ≡ faulty NoMessage
settled_by-no_message side flag rest plain e =
    settled_by-cons side flag rest ∙ cond-false (is_compressed flag) _ _ plain ∙ cond-true (is_no_message side flag) _ _ e

pub settled_by-plain : (side : Side) (flag : ℕ) (rest : List ℕ) → is_compressed flag ≡ false → is_no_message side flag ≡ false
    → settled_by side (flag ∷ rest) ≡ settled_by_rest side flag rest
settled_by-plain side flag rest plain e =
    settled_by-cons side flag rest ∙ cond-false (is_compressed flag) _ _ plain ∙ cond-false (is_no_message side flag) _ _ e

pub settled_by-MayStand : (side : Side) (flag : ℕ) (rest : List ℕ) → MayStand side flag → settled_by side (flag ∷ rest) ≡ settled_by_rest side flag rest
settled_by-MayStand side flag rest may = settled_by-plain side flag rest (MayStand-compressed side flag may) (MayStand-no_message side flag may)

pub settled_by_rest-short : (side : Side) (flag : ℕ) (rest : List ℕ) → length rest < 4 → settled_by_rest side flag rest ≡ more
unfolding settled_by_rest
settled_by_rest-short side flag rest few = cond-true (ltb (length rest) 4) _ _ (lt-ltb (length rest) 4 few)

pub settled_by_rest-long : (side : Side) (flag : ℕ) (rest : List ℕ) → 4 ≤ length rest
    → settled_by_rest side flag rest ≡ settled_by_length side flag (size_of (take 4 rest)) (drop 4 rest)
unfolding settled_by_rest size_of
settled_by_rest-long side flag rest many = cond-false (ltb (length rest) 4) _ _ (le-ltb (length rest) 4 many)

pub settled_by_length-too_long : (side : Side) (flag count : ℕ) (payload : List ℕ) → frame_limit side < count
    → settled_by_length side flag count payload ≡ faulty (FrameTooLong count)
unfolding settled_by_length
settled_by_length-too_long side flag count payload great = cond-true (ltb (frame_limit side) count) _ _ (lt-ltb (frame_limit side) count great)

pub settled_by_length-part : (side : Side) (flag count : ℕ) (payload : List ℕ) → count ≤ frame_limit side → length payload < count
    → settled_by_length side flag count payload ≡ more
unfolding settled_by_length
settled_by_length-part side flag count payload fits part =
    cond-false (ltb (frame_limit side) count) _ _ (le-ltb (frame_limit side) count fits) ∙ cond-true (ltb (length payload) count) _ _ (lt-ltb (length payload) count part)

pub settled_by_length-whole : (side : Side) (flag count : ℕ) (payload : List ℕ) → count ≤ frame_limit side → count ≤ length payload
    → settled_by_length side flag count payload ≡ told_by flag payload
unfolding settled_by_length
settled_by_length-whole side flag count payload fits whole =
    cond-false (ltb (frame_limit side) count) _ _ (le-ltb (frame_limit side) count fits) ∙ cond-false (ltb (length payload) count) _ _ (le-ltb (length payload) count whole)

-- ---- a frame, and a beginning of one

-- a flag and a length, and what follows
abbrev pub headed : ℕ → ℕ → List ℕ → List ℕ
headed flag count payload = flag ∷ (size_bytes count ++ payload)

pub settled_by-headed : (side : Side) (flag count : ℕ) (payload : List ℕ) → MayStand side flag → count < 2 ^ 32
    → settled_by side (headed flag count payload) ≡ settled_by_length side flag count payload
settled_by-headed side flag count payload may short =
    let four = length-size_bytes count in
    let many : 4 ≤ length (size_bytes count ++ payload) = simp length-append (omega arith) in
    settled_by-MayStand side flag (size_bytes count ++ payload) may
    ∙ settled_by_rest-long side flag (size_bytes count ++ payload) many
    ∙ ap (λ (bytes : List ℕ). settled_by_length side flag (size_of bytes) (drop 4 (size_bytes count ++ payload))) (take_at (size_bytes count) payload 4 four)
    ∙ ap (λ (n : ℕ). settled_by_length side flag n (drop 4 (size_bytes count ++ payload))) (size_of-size_bytes count short)
    ∙ ap (settled_by_length side flag count) (drop_at (size_bytes count) payload 4 four)

pub settled_by-IsFrame : (side : Side) (bytes : List ℕ) (flag : ℕ) (payload : List ℕ) → IsFrame side bytes flag payload → settled_by side bytes ≡ told_by flag payload
settled_by-IsFrame side bytes flag payload is =
    let fits = is.fits in
    let small = frame_limit-small side in
    ap (settled_by side) (is.whole ∙ frame-size_bytes flag payload)
    ∙ settled_by-headed side flag (length payload) payload is.may_stand (omega arith)
    ∙ settled_by_length-whole side flag (length payload) payload fits (omega arith)

pub some_length : (bytes : List ℕ) → bytes ≢ [] → 0 < length bytes
some_length [] some = absurd (some refl)
some_length (b ∷ bytes) some = omega arith

begun_rest : (side : Side) (flag : ℕ) (rest more_bytes payload : List ℕ) → rest ++ more_bytes ≡ size_bytes (length payload) ++ payload → 0 < length more_bytes
    → length payload < 2 ^ 32 → (4 ≤ length rest → length payload ≤ frame_limit side) → settled_by_rest side flag rest ≡ more
begun_rest side flag rest more_bytes payload e some short fits = elim (cases_lt (length rest) 4) [
  | inl few ↦ settled_by_rest-short side flag rest few
  | inr many ↦
      let four = length-size_bytes (length payload) in
      let size : take 4 rest ≡ size_bytes (length payload) = sym (take-append-le 4 rest more_bytes many) ∙ ap (take 4) e ∙ take_at (size_bytes (length payload)) payload 4 four in
      let back : drop 4 rest ++ more_bytes ≡ payload = sym (drop-append-le 4 rest more_bytes many) ∙ ap (drop 4) e ∙ drop_at (size_bytes (length payload)) payload 4 four in
      let sum : length (drop 4 rest) + length more_bytes ≡ length payload = sym (length-append (drop 4 rest) more_bytes) ∙ ap length back in
      settled_by_rest-long side flag rest many
      ∙ ap (λ (n : ℕ). settled_by_length side flag n (drop 4 rest)) (ap size_of size ∙ size_of-size_bytes (length payload) short)
      ∙ settled_by_length-part side flag (length payload) (drop 4 rest) (fits many) (omega arith)
]

pub settled_by-IsBegun : (side : Side) (bytes : List ℕ) → IsBegun side bytes → settled_by side bytes ≡ more
settled_by-IsBegun side [] is = settled_by-nil side
settled_by-IsBegun side (b ∷ rest) is =
    let whole : b ∷ (rest ++ is.more) ≡ is.flag ∷ (size_bytes (length is.payload) ++ is.payload) = is.whole ∙ frame-size_bytes is.flag is.payload in
    let first : b ≡ is.flag = cc in
    let others : rest ++ is.more ≡ size_bytes (length is.payload) ++ is.payload = cc in
    let limit = is.fits in
    ap (λ (flag : ℕ). settled_by side (flag ∷ rest)) first
    ∙ settled_by-MayStand side is.flag rest is.may_stand
    ∙ begun_rest side is.flag rest is.more is.payload others (some_length is.more is.lacks) is.short (λ many. limit (omega arith))
