-- What is written of an answer is bytes.
use Rattle.std.proofs.Common.{◌≡◌, ℕ, ◌/◌, ◌%◌, ◌^◌, ◌<◌, ◌≤◌, true, false, cond, List, [], ◌∷◌, ◌++◌, length, refl, arith, codes}
use Rattle.std.proofs.Common.{lit≤}
use Rattle.std.specs.List.{All, flat_map}
use Rattle.std.specs.Char.{digit_value}
use Rattle.std.specs.Str.Parse.{AllDigits}
use Rattle.std.specs.Fmt.{decimal, digits, digit_glyph}
use Rattle.std.proofs.lemmas.Bool.{cond_both}
use Rattle.std.proofs.lemmas.Bool.Decides.{nat_tests}
use Rattle.std.proofs.lemmas.List.Elements.{All-nil, All-cons, All-head, All-tail, All-append}
use Rattle.std.proofs.lemmas.Fmt.{digits_is_IsNumeral}
use Rattle.percent_encoding.specs.Percent.{percent_sign, percent_encode_byte}
use Rattle.web_frames.specs.declared.status.Trailers.{Trailers}
use Rattle.web_frames.specs.Format.{frame}
use Rattle.web_frames.specs.Standard.{IsBytes}
use Rattle.web_frames.specs.Trailers.{is_kept, escaped, line_end, message_line, trailers_text}
use Rattle.web_writers.specs.Responses.{head_text, chunk, frame_chunk, message_bytes, end_bytes, body_bytes, answer_bytes, MayBeWritten}
use Rattle.web_writers.proofs.Bytes.{IsByte, frame_bytes, digit_bytes, closed_bytes}
use Rattle.web_writers.proofs.TrailersText.{length-trailers_text}
use Rattle.web_writers.proofs.ReadBack.{frame-length}

-- ---- chunks

hex_byte : (b : ℕ) → digit_value b < 16 → b < 256
hex_byte b small = grind (arith, nat_tests)

hex_bytes : (text : List ℕ) → AllDigits 16 text → IsBytes text
hex_bytes [] all = All-nil IsByte
hex_bytes (b ∷ text) all = All-cons IsByte b text (hex_byte b all.0) (hex_bytes text all.1)

size_bytes : (n : ℕ) → n < 16 ^ 16 → IsBytes (digits 16 false n)
size_bytes n small = hex_bytes (digits 16 false n) (digits_is_IsNumeral 16 false (lit≤ tt) (lit≤ tt) n (omega arith)).0.1

chunk_bytes : (flag : ℕ) (payload : List ℕ) → flag < 256 → length payload ≤ 16777216 → IsBytes payload → IsBytes (frame_chunk flag payload)
unfolding frame_chunk chunk
chunk_bytes flag payload small fits all =
    let size = frame-length flag payload in
    let text = digits 16 false (length (frame flag payload)) in
    let end = closed_bytes (codes "\r\n") refl in
    All-append IsByte (text ++ codes "\r\n" ++ frame flag payload) (codes "\r\n")
    (All-append IsByte (text ++ codes "\r\n") (frame flag payload)
    (All-append IsByte text (codes "\r\n") (size_bytes (length (frame flag payload)) (omega arith)) end) (frame_bytes flag payload small all))
    end

pub messages_bytes : (messages : List (List ℕ)) → All (λ message. length message ≤ 16777216) messages → All IsBytes messages
    → IsBytes (flat_map message_bytes messages)
messages_bytes [] each all = All-nil IsByte
messages_bytes (message ∷ messages) each all =
    All-append IsByte (message_bytes message) (flat_map message_bytes messages)
    (chunk_bytes 0 message (omega arith) (All-head (λ m. length m ≤ 16777216) message messages each) (All-head IsBytes message messages all))
    (messages_bytes messages (All-tail (λ m. length m ≤ 16777216) message messages each) (All-tail IsBytes message messages all))

-- ---- trailers

glyph_byte : (d : ℕ) → d < 16 → digit_glyph true d < 256
glyph_byte d small = grind (arith, nat_tests)

escape_bytes : (b : ℕ) → IsBytes (percent_encode_byte b)
unfolding percent_encode_byte
escape_bytes b =
    All-cons IsByte percent_sign (digit_glyph true (b / 16 % 16) ∷ digit_glyph true (b % 16) ∷ []) (omega arith)
    (All-cons IsByte (digit_glyph true (b / 16 % 16)) (digit_glyph true (b % 16) ∷ []) (glyph_byte (b / 16 % 16) (omega arith))
    (All-cons IsByte (digit_glyph true (b % 16)) [] (glyph_byte (b % 16) (omega arith)) (All-nil IsByte)))

kept_byte : (b : ℕ) → is_kept b ≡ true → b < 256
kept_byte b e = grind (arith, nat_tests)

escaped_bytes : (message : List ℕ) → IsBytes (escaped message)
unfolding escaped
escaped_bytes [] = All-nil IsByte
escaped_bytes (b ∷ message) =
    All-append IsByte (cond (is_kept b) (b ∷ []) (percent_encode_byte b)) (flat_map (λ c. cond (is_kept c) (c ∷ []) (percent_encode_byte c)) message)
    (cond_both (is_kept b) (b ∷ []) (percent_encode_byte b) IsBytes (λ e. All-cons IsByte b [] (kept_byte b e) (All-nil IsByte))
    (λ _. escape_bytes b))
    (escaped_bytes message)

line_bytes : (message : List ℕ) → IsBytes (message_line message)
line_bytes [] = All-nil IsByte
line_bytes (b ∷ message) =
    All-append IsByte (codes "grpc-message:" ++ escaped (b ∷ message)) line_end
    (All-append IsByte (codes "grpc-message:") (escaped (b ∷ message)) (closed_bytes (codes "grpc-message:") refl) (escaped_bytes (b ∷ message)))
    (closed_bytes line_end refl)

text_bytes : (trailers : Trailers) → trailers.status < 2 ^ 32 → IsBytes (trailers_text trailers)
unfolding trailers_text
text_bytes trailers small =
    All-append IsByte (codes "grpc-status:" ++ decimal trailers.status ++ line_end) (message_line trailers.message)
    (All-append IsByte (codes "grpc-status:" ++ decimal trailers.status) line_end
    (All-append IsByte (codes "grpc-status:") (decimal trailers.status) (closed_bytes (codes "grpc-status:") refl)
    (digit_bytes trailers.status (omega arith)))
    (closed_bytes line_end refl))
    (line_bytes trailers.message)

-- ---- answers

pub head_bytes : IsBytes head_text
unfolding head_text
head_bytes = closed_bytes (codes "HTTP/1.1 200 OK\r\ncontent-type: application/grpc-web+proto\r\nconnection: close\r\ntransfer-encoding: chunked\r\n\r\n") refl

pub answer_bytes-bytes : (messages : List (List ℕ)) (trailers : Trailers) → MayBeWritten messages trailers → All IsBytes messages
    → IsBytes (answer_bytes messages trailers)
unfolding answer_bytes body_bytes
answer_bytes-bytes messages trailers x all =
    All-append IsByte head_text (flat_map message_bytes messages ++ end_bytes trailers) head_bytes
    (All-append IsByte (flat_map message_bytes messages) (end_bytes trailers) (messages_bytes messages x.each all)
    (All-append IsByte (frame_chunk 128 (trailers_text trailers)) (codes "0\r\n\r\n")
    (chunk_bytes 128 (trailers_text trailers) (omega arith) (length-trailers_text trailers x.status x.short) (text_bytes trailers x.status))
    (closed_bytes (codes "0\r\n\r\n") refl)))
