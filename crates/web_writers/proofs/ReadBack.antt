-- What is written is read back.
use Rattle.std.proofs.Common.{◌≡◌, ℕ, ◌+◌, ◌^◌, ◌<◌, ◌≤◌, List, [], ◌++◌, length, fold, refl, sym, ap, ◌∙◌, arith, append_assoc, append-nil, length-append, codes}
use Rattle.std.specs.List.{concat}
use Rattle.std.specs.Fmt.{decimal}
use Rattle.std.proofs.lemmas.List.Elements.{All-nil, All-append, All-weaker}
use Rattle.web_heads.specs.declared.body.BodyKind.TheVariants.{Length}
use Rattle.web_frames.specs.Format.{frame, frame_head}
use Rattle.web_frames.proofs.LawLemmas.{written_frames_are_read}
use Rattle.web_frames.specs.Standard.{IsBytes}
use Rattle.web_contents.proofs.Read as contents
use Rattle.web_requests.specs.Machine.{RequestState, heading, within, whole, refused, more, read, faulty, begin, after, request_in, reading_of}
use Rattle.web_requests.proofs.Read.{Known, requests_are_read}
use Rattle.web_requests.proofs.Course.{pieces_state}
use Rattle.web_requests.specs.Standard.{HasRequest}
use Rattle.web_writers.specs.Requests.{IsVisibleText, head_text, request_bytes}
use Rattle.web_writers.specs.Laws.{RequestsAreReadBack}
use Rattle.web_writers.proofs.Bytes.{IsByte, frame_bytes, digit_bytes, closed_bytes}
use Rattle.web_writers.proofs.RequestHead.{is_head, says}

pub frame-length : (flag : ℕ) (payload : List ℕ) → length (frame flag payload) ≡ length payload + 5
unfolding frame_head
frame-length flag payload = let sum = length-append (frame_head flag (length payload)) payload in omega arith

-- ---- bytes

visible_bytes : (text : List ℕ) → IsVisibleText text → IsBytes text
visible_bytes text x = All-weaker (λ b. (0x21 ≤ b) × (b ≤ 0x7E)) IsByte (λ b v. omega arith) text x.visible

head_bytes : (path host : List ℕ) (count : ℕ) → IsVisibleText path → IsVisibleText host → count < 2 ^ 64 → IsBytes (head_text path host count)
unfolding head_text
head_bytes path host count x y fits =
    All-append IsByte (codes "POST ") _ (closed_bytes (codes "POST ") refl)
    (All-append IsByte path _ (visible_bytes path x)
    (All-append IsByte (codes " HTTP/1.1\r\nhost: ") _ (closed_bytes (codes " HTTP/1.1\r\nhost: ") refl)
    (All-append IsByte host _ (visible_bytes host y)
    (All-append IsByte (codes "\r\ncontent-type: application/grpc-web+proto\r\naccept: application/grpc-web+proto\r\nx-grpc-web: 1\r\nconnection: close\r\ncontent-length: ") _
    (closed_bytes (codes "\r\ncontent-type: application/grpc-web+proto\r\naccept: application/grpc-web+proto\r\nx-grpc-web: 1\r\nconnection: close\r\ncontent-length: ") refl)
    (All-append IsByte (decimal count) (codes "\r\n\r\n") (digit_bytes count fits) (closed_bytes (codes "\r\n\r\n") refl))))))

request_bytes-bytes : (path host message : List ℕ) → IsVisibleText path → IsVisibleText host → length message ≤ 67108864 → IsBytes message
    → IsBytes (request_bytes path host message)
unfolding request_bytes
request_bytes-bytes path host message x y fits all =
    All-append IsByte (head_text path host (length message + 5)) (frame 0 message)
    (head_bytes path host (length message + 5) x y (omega arith)) (frame_bytes 0 message (omega arith) all)

-- ---- requests

pub has_request : (path host message rest : List ℕ) → IsVisibleText path → IsVisibleText host → length message ≤ 67108864
    → HasRequest (request_bytes path host message ++ rest) path message
unfolding request_bytes
has_request path host message rest x y fits =
    let count = length message + 5 in
    let head = head_text path host count in
    let body = frame 0 message in
    record {
      said = record { path = path; body = Length count };
      rest = body ++ rest;
      head = record {
        head = head;
        bytes_are = append_assoc head body rest;
        is_head = is_head path host count x y (omega arith);
        says = says path host count x y (omega arith);
      };
      path_is = refl;
      content = record {
        payload = body;
        body = record { framed = λ e. cc; body = body; rest = rest; bytes_are = refl; is_body = (refl, frame-length 0 message) };
        frames = written_frames_are_read.request message fits;
        enough = refl;
      };
    }

known : Known
known = record {
  pieces = contents.pieces_join;
  read = contents.contents_are_read;
  one = contents.contents_are_one;
  first = contents.ends_are_first;
}

pub read_back : (path host message rest : List ℕ) → IsVisibleText path → IsVisibleText host → length message ≤ 67108864 → IsBytes message → IsBytes rest
    → request_in (request_bytes path host message ++ rest) ≡ read path message
read_back path host message rest x y fits all others =
    ((requests_are_read known).whole (request_bytes path host message ++ rest) path message
    (All-append IsByte (request_bytes path host message) rest (request_bytes-bytes path host message x y fits all) others)).0
    (has_request path host message rest x y fits)

pub read_alone : (path host message : List ℕ) → IsVisibleText path → IsVisibleText host → length message ≤ 67108864 → IsBytes message
    → request_in (request_bytes path host message) ≡ read path message
read_alone path host message x y fits all =
    ap request_in (sym (append-nil (request_bytes path host message))) ∙ read_back path host message [] x y fits all (All-nil IsByte)

whole_of : (s : RequestState) (path message : List ℕ) → reading_of s ≡ read path message → s ≡ whole path message
whole_of (heading held) path message e = absurd (let other : more ≡ read path message = e in cc)
whole_of (within p m c) path message e = absurd (let other : more ≡ read path message = e in cc)
whole_of (whole p m) path message e =
    let same_path : p ≡ path = cc in
    let same_message : m ≡ message = cc in
    ap (λ (q : List ℕ). whole q m) same_path ∙ ap (whole path) same_message
whole_of (refused fault) path message e = absurd (let other : faulty fault ≡ read path message = e in cc)

after_read : (bytes path message : List ℕ) → request_in bytes ≡ read path message → after begin bytes ≡ whole path message
unfolding request_in
after_read bytes path message e = whole_of (after begin bytes) path message e

in_pieces : (path host message : List ℕ) (pieces : List (List ℕ)) → IsVisibleText path → IsVisibleText host → length message ≤ 67108864
    → IsBytes message → concat pieces ≡ request_bytes path host message → fold after begin pieces ≡ whole path message
in_pieces path host message pieces x y fits all e =
    pieces_state begin pieces ∙ ap (after begin) e
    ∙ after_read (request_bytes path host message) path message (read_alone path host message x y fits all)

pub requests_are_read_back : RequestsAreReadBack
requests_are_read_back = record { said = has_request; read_back = read_back; in_pieces = in_pieces }
