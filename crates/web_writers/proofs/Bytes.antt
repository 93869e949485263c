-- What is written is bytes.
use Rattle.std.proofs.Common.{◌≡◌, ℕ, zero, suc, ltb, ◌^◌, ◌<◌, ◌≤◌, true, List, [], ◌∷◌, length, arith}
use Rattle.std.specs.Int.{bytes_high_first, byte_at}
use Rattle.std.specs.List.{list_all}
use Rattle.std.specs.Fmt.{decimal}
use Rattle.std.proofs.lemmas.Bool.{and_parts, ltb-true}
use Rattle.std.proofs.lemmas.List.Elements.{All-nil, All-cons, All-append, All-weaker}
use Rattle.web_frames.specs.Format.{frame, frame_head}
use Rattle.web_frames.specs.Standard.{IsBytes}
use Rattle.web_writers.proofs.RequestHead.{digits_visible}

abbrev pub IsByte : ℕ → Type 0
IsByte b = b < 256

byte_small : (i n : ℕ) → byte_at i n < 256
byte_small zero n = omega arith
byte_small (suc i) n = omega arith

high_bytes : (k n : ℕ) → IsBytes (bytes_high_first k n)
high_bytes zero n = All-nil IsByte
high_bytes (suc k) n = All-cons IsByte (byte_at k n) (bytes_high_first k n) (byte_small k n) (high_bytes k n)

pub frame_bytes : (flag : ℕ) (payload : List ℕ) → flag < 256 → IsBytes payload → IsBytes (frame flag payload)
unfolding frame_head
frame_bytes flag payload small all =
    All-append IsByte (frame_head flag (length payload)) payload
    (All-cons IsByte flag (bytes_high_first 4 (length payload)) small (high_bytes 4 (length payload))) all

pub digit_bytes : (n : ℕ) → n < 2 ^ 64 → IsBytes (decimal n)
digit_bytes n fits = All-weaker (λ b. (0x21 ≤ b) × (b ≤ 0x7E)) IsByte (λ b v. omega arith) (decimal n) (digits_visible n fits)

pub closed_bytes : (text : List ℕ) → list_all (λ b. ltb b 256) text ≡ true → IsBytes text
closed_bytes [] e = All-nil IsByte
closed_bytes (b ∷ text) e =
    let parts = and_parts (ltb b 256) (list_all (λ b. ltb b 256) text) e in
    All-cons IsByte b text (ltb-true b 256 parts.0) (closed_bytes text parts.1)
