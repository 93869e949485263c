-- What is written of a response is what the standard says of its messages and trailers.
use Rattle.std.proofs.Common.{◌≡◌, ◌≢◌, inl, Option, ℕ, zero, suc, eqb, ◌+◌, ◌/◌, ◌%◌, ◌^◌, ◌<◌, ◌≤◌, true, false, List, [], ◌∷◌, ◌++◌, length, refl, sym, ap, ◌∙◌, arith, append_assoc, append-nil, length-append, Some, None, codes}
use Rattle.std.proofs.Common.{lit<, lit≤}
use Rattle.std.proofs.Math.Nat.{pow-suc}
use Rattle.std.specs.List.{All, flat_map}
use Rattle.std.specs.Char.{digit_value, is_ascii_hexdigit}
use Rattle.std.specs.Str.Parse.{AllDigits}
use Rattle.std.specs.Fmt.{digits, digits_onto, digit_glyph}
use Rattle.std.proofs.lemmas.Bool.{cond_both, eqb-false}
use Rattle.std.proofs.lemmas.Bool.Decides.{nat_tests}
use Rattle.std.proofs.lemmas.List.Elements.{All-nil, All-cons, All-head, All-tail}
use Rattle.std.proofs.lemmas.List.Sums.{AllPass-from_list_all}
use Rattle.std.proofs.lemmas.Fmt.{digits_is_IsNumeral}
use Rattle.httparse.specs.Grammar as grammar
use Rattle.web_heads.specs.declared.body.BodyKind.TheVariants.{Chunks}
use Rattle.web_heads.specs.Standard.{IsChunkLine}
use Rattle.httparse.specs.Ascii.{line_feed}
use Rattle.web_bodies.specs.Standard.{Chunk, IsChunk, chunk_bytes, chunks_bytes, chunks_data, IsTrailerSection, in_line}
use Rattle.web_frames.specs.declared.limits.Side.TheVariants.{Response}
use Rattle.web_frames.specs.declared.status.Trailers.{Trailers}
use Rattle.web_frames.specs.Format.{frame}
use Rattle.web_frames.specs.Trailers.{trailers_text}
use Rattle.web_frames.specs.Standard.{IsBytes, TrailersSay, IsMessage, AreMessages, AreTrailers}
use Rattle.web_frames.proofs.WrittenLemmas.{written_trailers}
use Rattle.web_contents.specs.Standard.{HasContent, BeginsContent}
use Rattle.web_contents.proofs.Read as contents
use Rattle.web_writers.specs.Responses.{chunk, frame_chunk, message_bytes, body_bytes, MayBeWritten}
use Rattle.web_writers.specs.Laws.{ResponsesAreSaid}
use Rattle.web_writers.proofs.TrailersText.{length-trailers_text}
use Rattle.web_writers.proofs.ResponseHead.{is_head, says}
use Rattle.web_writers.proofs.ReadBack.{frame-length}

-- ---- sizes in hexadecimal

abbrev IsHex : ℕ → Type 0
IsHex b = is_ascii_hexdigit b ≡ true

hex_digit : (b : ℕ) → digit_value b < 16 → IsHex b
hex_digit b small = grind (arith, nat_tests)

hex_digits : (text : List ℕ) → AllDigits 16 text → All IsHex text
hex_digits [] all = All-nil IsHex
hex_digits (b ∷ text) all = All-cons IsHex b text (hex_digit b all.0) (hex_digits text all.1)

quotient : (room n : ℕ) → n < 16 ^ suc (suc room) → n / 16 < 16 ^ suc room
quotient room n small = let more = pow-suc 16 (suc room) in omega arith

few_onto : (k room n : ℕ) (acc : List ℕ) → n < 16 ^ suc room → length (digits_onto k 16 false n acc) ≤ length acc + suc room
few_onto zero room n acc small = omega arith
few_onto (suc k) zero n acc small =
    cond_both (eqb (n / 16) 0) (digit_glyph false (n % 16) ∷ acc) (digits_onto k 16 false (n / 16) (digit_glyph false (n % 16) ∷ acc))
    (λ text. length text ≤ length acc + 1) (λ _. omega arith) (λ e. absurd (eqb-false (n / 16) 0 e (omega arith)))
few_onto (suc k) (suc room) n acc small =
    let rest = few_onto k room (n / 16) (digit_glyph false (n % 16) ∷ acc) (quotient room n small) in
    cond_both (eqb (n / 16) 0) (digit_glyph false (n % 16) ∷ acc) (digits_onto k 16 false (n / 16) (digit_glyph false (n % 16) ∷ acc))
    (λ text. length text ≤ length acc + suc (suc room)) (λ _. omega arith) (λ _. omega arith)

few_digits : (n : ℕ) → n < 16 ^ 16 → length (digits 16 false n) ≤ 16
unfolding digits
few_digits n small = few_onto 64 15 n [] small

size_line : (n : ℕ) → n < 16 ^ 16 → IsChunkLine (digits 16 false n ++ codes "\r\n") n
unfolding grammar.print_chunk_line
size_line n small =
    let text = digits 16 false n in
    let numeral = digits_is_IsNumeral 16 false (lit≤ tt) (lit≤ tt) n (omega arith) in
    let few = few_digits n small in
    record {
      line = record { digits = text; pad = []; extension = None };
      reads = (
        record {
          digits = (numeral.0.0, few, hex_digits text numeral.0.1);
          pad = All-nil _;
          extension = tt;
        },
        sym (append-nil (((text ++ []) ++ []) ++ codes "\r\n")
            ∙ ap (λ (t : List ℕ). (t ++ []) ++ codes "\r\n") (append-nil text) ∙ ap (λ (t : List ℕ). t ++ codes "\r\n") (append-nil text)),
      );
      short = omega (arith, length-append text (codes "\r\n"));
      size_is = sym numeral.1;
    }

-- ---- chunks

chunk_of : ℕ → List ℕ → Chunk
chunk_of flag payload = record { line = digits 16 false (length (frame flag payload)) ++ codes "\r\n"; content = frame flag payload }

is_chunk : (flag : ℕ) (payload : List ℕ) → length payload ≤ 16777216 → IsChunk (chunk_of flag payload)
unfolding chunk_of
is_chunk flag payload fits =
    let size = frame-length flag payload in
    record { line = size_line (length (frame flag payload)) (omega arith); some = omega arith }

chunk_of-bytes : (flag : ℕ) (payload : List ℕ) → chunk_bytes (chunk_of flag payload) ≡ frame_chunk flag payload
unfolding chunk_of frame_chunk chunk
chunk_of-bytes flag payload = refl

-- the chunks of messages, and that of the trailers
chunks_of : List (List ℕ) → List ℕ → List Chunk
chunks_of [] text = chunk_of 128 text ∷ []
chunks_of (message ∷ messages) text = chunk_of 0 message ∷ chunks_of messages text

are_chunks : (messages : List (List ℕ)) (text : List ℕ) → All (λ message. length message ≤ 16777216) messages → length text ≤ 16777216
    → All IsChunk (chunks_of messages text)
unfolding chunks_of
are_chunks [] text all fits = All-cons IsChunk (chunk_of 128 text) [] (is_chunk 128 text fits) (All-nil IsChunk)
are_chunks (message ∷ messages) text all fits =
    All-cons IsChunk (chunk_of 0 message) (chunks_of messages text)
    (is_chunk 0 message (All-head (λ m. length m ≤ 16777216) message messages all))
    (are_chunks messages text (All-tail (λ m. length m ≤ 16777216) message messages all) fits)

chunks_of-bytes : (messages : List (List ℕ)) (text : List ℕ)
    → chunks_bytes (chunks_of messages text) ≡ flat_map message_bytes messages ++ frame_chunk 128 text
unfolding chunks_of
chunks_of-bytes [] text = append-nil (chunk_bytes (chunk_of 128 text)) ∙ chunk_of-bytes 128 text
chunks_of-bytes (message ∷ messages) text =
    ap (λ (front : List ℕ). front ++ chunks_bytes (chunks_of messages text)) (chunk_of-bytes 0 message)
    ∙ ap (λ (rest : List ℕ). frame_chunk 0 message ++ rest) (chunks_of-bytes messages text)
    ∙ sym (append_assoc (frame_chunk 0 message) (flat_map message_bytes messages) (frame_chunk 128 text))

chunks_of-data : (messages : List (List ℕ)) (text : List ℕ) → chunks_data (chunks_of messages text) ≡ flat_map (frame 0) messages ++ frame 128 text
unfolding chunks_of chunk_of
chunks_of-data [] text = append-nil (frame 128 text)
chunks_of-data (message ∷ messages) text =
    ap (λ (rest : List ℕ). frame 0 message ++ rest) (chunks_of-data messages text)
    ∙ sym (append_assoc (frame 0 message) (flat_map (frame 0) messages) (frame 128 text))

-- ---- the body

last_line : IsChunkLine (codes "0\r\n") 0
unfolding grammar.print_chunk_line
last_line = record {
  line = record { digits = codes "0"; pad = []; extension = None };
  reads = (
    record {
      digits = (lit< tt, lit≤ tt, AllPass-from_list_all is_ascii_hexdigit (codes "0") refl);
      pad = All-nil _;
      extension = tt;
    },
    refl,
  );
  short = lit≤ tt;
  size_is = refl;
}

no_trailer_fields : IsTrailerSection (codes "\r\n")
no_trailer_fields = record {
  ends = record { at = 0; stop_is = refl; after = omega arith; ends = refl; first = λ other from ends. from };
  short = lit≤ tt;
}

body_split : (messages : List (List ℕ)) (trailers : Trailers)
    → body_bytes messages trailers ≡ chunks_bytes (chunks_of messages (trailers_text trailers)) ++ (codes "0\r\n" ++ codes "\r\n")
unfolding body_bytes
body_split messages trailers =
    sym (append_assoc (flat_map message_bytes messages) (frame_chunk 128 (trailers_text trailers)) (codes "0\r\n\r\n"))
    ∙ ap (λ (front : List ℕ). front ++ codes "0\r\n\r\n") (sym (chunks_of-bytes messages (trailers_text trailers)))

-- ---- frames

is_message : (message : List ℕ) → length message ≤ 16777216 → IsMessage Response (frame 0 message) message
is_message message fits = record {
  flag = 0;
  frame = record { whole = refl; may_stand = λ set. set refl; fits = fits };
  plain = λ set. set refl;
}

are_messages : (messages : List (List ℕ)) → All (λ message. length message ≤ 16777216) messages
    → AreMessages Response (flat_map (frame 0) messages) messages
are_messages [] all = refl
are_messages (message ∷ messages) all = (
  frame 0 message,
  flat_map (frame 0) messages,
  refl,
  is_message message (All-head (λ m. length m ≤ 16777216) message messages all),
  are_messages messages (All-tail (λ m. length m ≤ 16777216) message messages all),
)

are_trailers : (text : List ℕ) (trailers : Trailers) → TrailersSay text trailers → length text ≤ 16777216
    → AreTrailers Response (frame 128 text) (Some trailers)
are_trailers text trailers says fits =
    (text, record { flag = 128; frame = record { whole = refl; may_stand = λ set. set refl; fits = fits }; marked = λ e. cc }, says)

pub body_said : (messages : List (List ℕ)) (trailers : Trailers) (rest : List ℕ) → MayBeWritten messages trailers
    → HasContent Response Chunks (body_bytes messages trailers ++ rest) messages (Some trailers)
body_said messages trailers rest x =
    let text = trailers_text trailers in
    let fits = length-trailers_text trailers x.status x.short in
    record {
      payload = flat_map (frame 0) messages ++ frame 128 text;
      body = record {
        framed = λ e. cc;
        body = body_bytes messages trailers;
        rest = rest;
        bytes_are = refl;
        is_body = record {
          chunks = chunks_of messages text;
          each = are_chunks messages text x.each fits;
          last = codes "0\r\n";
          last_line = last_line;
          trailers = codes "\r\n";
          section = no_trailer_fields;
          bytes_are = body_split messages trailers;
          payload_is = sym (chunks_of-data messages text);
        };
      };
      frames = record {
        front = flat_map (frame 0) messages;
        back = frame 128 text;
        whole = refl;
        first = are_messages messages x.each;
        last = are_trailers text trailers (written_trailers trailers x.status x.text x.no_space).0 fits;
        few = tt;
      };
      enough = tt;
    }

-- ---- bodies of which more has to come

-- the chunks of messages
message_chunks : List (List ℕ) → List Chunk
message_chunks [] = []
message_chunks (message ∷ messages) = chunk_of 0 message ∷ message_chunks messages

are_message_chunks : (messages : List (List ℕ)) → All (λ message. length message ≤ 16777216) messages → All IsChunk (message_chunks messages)
unfolding message_chunks
are_message_chunks [] all = All-nil IsChunk
are_message_chunks (message ∷ messages) all =
    All-cons IsChunk (chunk_of 0 message) (message_chunks messages)
    (is_chunk 0 message (All-head (λ m. length m ≤ 16777216) message messages all))
    (are_message_chunks messages (All-tail (λ m. length m ≤ 16777216) message messages all))

message_chunks-bytes : (messages : List (List ℕ)) → chunks_bytes (message_chunks messages) ≡ flat_map message_bytes messages
unfolding message_chunks
message_chunks-bytes [] = refl
message_chunks-bytes (message ∷ messages) =
    ap (λ (front : List ℕ). front ++ chunks_bytes (message_chunks messages)) (chunk_of-bytes 0 message)
    ∙ ap (λ (rest : List ℕ). frame_chunk 0 message ++ rest) (message_chunks-bytes messages)

message_chunks-data : (messages : List (List ℕ)) → chunks_data (message_chunks messages) ≡ flat_map (frame 0) messages
unfolding message_chunks chunk_of
message_chunks-data [] = refl
message_chunks-data (message ∷ messages) = ap (λ (rest : List ℕ). frame 0 message ++ rest) (message_chunks-data messages)

body_begun : (messages : List (List ℕ)) → All (λ message. length message ≤ 16777216) messages
    → BeginsContent Response Chunks (flat_map message_bytes messages) messages None
body_begun messages all = record {
  payload = flat_map (frame 0) messages;
  body = record {
    chunks = message_chunks messages;
    each = are_message_chunks messages all;
    rest = [];
    content = [];
    part = in_line (All-nil (λ b. b ≢ line_feed)) (lit≤ tt) refl;
    bytes_are = sym (message_chunks-bytes messages) ∙ sym (append-nil (chunks_bytes (message_chunks messages)));
    payload_is = sym (message_chunks-data messages) ∙ sym (append-nil (chunks_data (message_chunks messages)));
  };
  frames = inl (record {
    front = flat_map (frame 0) messages;
    back = [];
    whole = sym (append-nil (flat_map (frame 0) messages));
    first = are_messages messages all;
    last = refl;
    few = tt;
  });
}

body_cut_off : (messages : List (List ℕ)) (trailers : Trailers) (front back : List ℕ) → MayBeWritten messages trailers → IsBytes front
    → back ≢ [] → front ++ back ≡ body_bytes messages trailers
    → (before : List (List ℕ)) × (earlier : Option Trailers) × BeginsContent Response Chunks front before earlier
unfolding body_said
body_cut_off messages trailers front [] x all some e = absurd (some refl)
body_cut_off messages trailers front (b ∷ back) x all some e =
    contents.ends_are_first.whole Response Chunks (body_bytes messages trailers ++ []) messages (Some trailers) (body_said messages trailers [] x)
    front b back all (sym e)

pub responses_are_said : ResponsesAreSaid
responses_are_said = record { is_head = is_head; head = says; body = body_said; begun = body_begun; cut_off = body_cut_off }
