-- The payload of a trailers frame isn't long.
use Rattle.std.proofs.Common.{◌≡◌, ℕ, ◌+◌, ◌*◌, ◌^◌, ◌<◌, ◌≤◌, cond, List, [], ◌∷◌, ◌++◌, length, refl, ap, ◌∙◌, arith, length-append, codes}
use Rattle.std.specs.Fmt.{decimal}
use Rattle.std.proofs.lemmas.Bool.{cond_both}
use Rattle.std.proofs.lemmas.Fmt.{length-decimal-le}
use Rattle.percent_encoding.specs.Percent.{percent_encode_byte}
use Rattle.web_frames.specs.declared.status.Trailers.{Trailers}
use Rattle.web_frames.specs.Trailers.{is_kept, escaped, line_end, message_line, trailers_text}

length-percent_encode_byte : (b : ℕ) → length (percent_encode_byte b) ≤ 3
unfolding percent_encode_byte
length-percent_encode_byte b = omega arith

length-escape_byte : (b : ℕ) → length (cond (is_kept b) (b ∷ []) (percent_encode_byte b)) ≤ 3
length-escape_byte b = cond_both (is_kept b) (b ∷ []) (percent_encode_byte b) (λ text. length text ≤ 3) (λ _. omega arith) (λ _. length-percent_encode_byte b)

escaped-cons : (b : ℕ) (message : List ℕ) → escaped (b ∷ message) ≡ cond (is_kept b) (b ∷ []) (percent_encode_byte b) ++ escaped message
unfolding escaped
escaped-cons b message = refl

escaped-nil : escaped [] ≡ []
unfolding escaped
escaped-nil = refl

length-escaped : (message : List ℕ) → length (escaped message) ≤ 3 * length message
length-escaped [] = let none = ap length escaped-nil in omega arith
length-escaped (b ∷ message) =
    let one = length-escape_byte b in
    let rest = length-escaped message in
    let sum = ap length (escaped-cons b message) ∙ length-append (cond (is_kept b) (b ∷ []) (percent_encode_byte b)) (escaped message) in
    omega arith

length-message_line : (message : List ℕ) → length (message_line message) ≤ 3 * length message + 15
length-message_line [] = omega arith
length-message_line (b ∷ message) =
    let few = length-escaped (b ∷ message) in
    let first = length-append (codes "grpc-message:" ++ escaped (b ∷ message)) line_end in
    let second = length-append (codes "grpc-message:") (escaped (b ∷ message)) in
    omega arith

pub length-trailers_text : (trailers : Trailers) → trailers.status < 2 ^ 32 → length trailers.message ≤ 65536 → length (trailers_text trailers) ≤ 16777216
unfolding trailers_text
length-trailers_text trailers small short =
    let few = length-message_line trailers.message in
    let digits = length-decimal-le 10 trailers.status (omega arith) (omega arith) (omega arith) in
    let first = length-append (codes "grpc-status:" ++ decimal trailers.status ++ line_end) (message_line trailers.message) in
    let second = length-append (codes "grpc-status:" ++ decimal trailers.status) line_end in
    let third = length-append (codes "grpc-status:") (decimal trailers.status) in
    omega arith
