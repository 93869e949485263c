-- What is written of trailers.
use Rattle.std.proofs.Common.{◌≡◌, ℕ, ◌<◌, ◌≤◌, true, false, not, cond, eqb, List, [], ◌∷◌, ◌++◌, length, codes, refl, sym, ap, ◌∙◌, inl, inr, append_assoc, arith}
use Rattle.std.specs.List.{flat_map}
use Rattle.std.specs.Fmt.{decimal}
use Rattle.std.proofs.lemmas.List.{append-nil, nil_from_length}
use Rattle.std.proofs.lemmas.Bool.{false≢true, eqb-true, cond-true, cond-false, cases_lt, agree_below_at, not_from_true, not_from_false, cases_Bool}
use Rattle.std.proofs.lemmas.Bool.Decides.{nat_tests}
use Rattle.percent_encoding.specs.AsciiSet.{should_percent_encode}
use Rattle.percent_encoding.specs.Percent.{percent_encode_byte, encode_byte, percent_encode}
use Rattle.web_frames.specs.declared.writing.TheConstants.{ESCAPED}
use Rattle.web_frames.specs.declared.status.Trailers.{Trailers}
use Rattle.web_frames.specs.Trailers.{is_kept, escaped, trailers_text, message_line, line_end}

-- the set of the code is the rule of the definition
escapes_ascii : (b : ℕ) → b < 128 → should_percent_encode ESCAPED b ≡ not (is_kept b)
unfolding should_percent_encode
escapes_ascii b small = agree_below_at (should_percent_encode ESCAPED) (λ d. not (is_kept d)) 128 b refl small

escapes_other : (b : ℕ) → 128 ≤ b → should_percent_encode ESCAPED b ≡ not (is_kept b)
unfolding should_percent_encode
escapes_other b great = grind (arith, nat_tests)

pub escapes : (b : ℕ) → should_percent_encode ESCAPED b ≡ not (is_kept b)
escapes b = elim (cases_lt b 128) [ inl small ↦ escapes_ascii b small | inr great ↦ escapes_other b great ]

encode_byte-kept : (b : ℕ) → encode_byte ESCAPED b ≡ cond (is_kept b) (b ∷ []) (percent_encode_byte b)
encode_byte-kept b = elim (cases_Bool (is_kept b)) [
  | inl e ↦ cond-false _ (percent_encode_byte b) (b ∷ []) (escapes b ∙ not_from_true _ e) ∙ sym (cond-true _ (b ∷ []) (percent_encode_byte b) e)
  | inr e ↦ cond-true _ (percent_encode_byte b) (b ∷ []) (escapes b ∙ not_from_false _ e) ∙ sym (cond-false _ (b ∷ []) (percent_encode_byte b) e)
]

flat_map-same : (f g : ℕ → List ℕ) → ((b : ℕ) → f b ≡ g b) → (bytes : List ℕ) → flat_map f bytes ≡ flat_map g bytes
flat_map-same f g same [] = refl
flat_map-same f g same (b ∷ bytes) = ap (λ (front : List ℕ). front ++ flat_map f bytes) (same b) ∙ ap (λ (back : List ℕ). g b ++ back) (flat_map-same f g same bytes)

pub percent_encode-escaped : (message : List ℕ) → percent_encode ESCAPED message ≡ escaped message
unfolding percent_encode escaped
percent_encode-escaped message = flat_map-same (encode_byte ESCAPED) (λ b. cond (is_kept b) (b ∷ []) (percent_encode_byte b)) encode_byte-kept message

-- the text without a message, and with one, as formats write them
pub trailers_text-silent : (trailers : Trailers) → eqb (length trailers.message) 0 ≡ true → codes "grpc-status:" ++ (decimal trailers.status ++ codes "\r\n") ≡ trailers_text trailers
unfolding trailers_text
trailers_text-silent trailers e =
    let none : trailers.message ≡ [] = nil_from_length trailers.message (eqb-true (length trailers.message) 0 e) in
    sym (append_assoc (codes "grpc-status:") (decimal trailers.status) line_end)
    ∙ sym (append-nil (codes "grpc-status:" ++ decimal trailers.status ++ line_end))
    ∙ ap (λ (message : List ℕ). codes "grpc-status:" ++ decimal trailers.status ++ line_end ++ message_line message) (sym none)

message_line-some : (message : List ℕ) → eqb (length message) 0 ≡ false → message_line message ≡ codes "grpc-message:" ++ escaped message ++ line_end
message_line-some [] e = absurd (false≢true (sym e))
message_line-some (b ∷ message) e = refl

pub trailers_text-message : (trailers : Trailers) → eqb (length trailers.message) 0 ≡ false
    → codes "grpc-status:" ++ (decimal trailers.status ++ (codes "\r\ngrpc-message:" ++ (escaped trailers.message ++ codes "\r\n"))) ≡ trailers_text trailers
unfolding trailers_text
trailers_text-message trailers e =
    sym (ap (λ (line : List ℕ). codes "grpc-status:" ++ decimal trailers.status ++ line_end ++ line) (message_line-some trailers.message e)
    ∙ append_assoc (codes "grpc-status:" ++ decimal trailers.status) line_end (codes "grpc-message:" ++ escaped trailers.message ++ line_end)
    ∙ append_assoc (codes "grpc-status:") (decimal trailers.status) (line_end ++ (codes "grpc-message:" ++ escaped trailers.message ++ line_end))
    ∙ ap (λ (line : List ℕ). codes "grpc-status:" ++ (decimal trailers.status ++ (line_end ++ line))) (append_assoc (codes "grpc-message:") (escaped trailers.message) line_end))
