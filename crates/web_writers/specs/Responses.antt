-- The bytes of a response (RFC 9112, sections 4 and 7; gRPC-Web protocol).
use Rattle.std.specs.Prelude.{ℕ, ◌^◌, ◌<◌, ◌≤◌, All, IsUtf8, if◌then◌else◌, ◌&&◌, nat_le, nat_lt, false, List, [], ◌++◌, length, unwrap_or, codes}
use Rattle.std.specs.List.{flat_map}
use Rattle.std.specs.Fmt.{decimal, digits}
use Rattle.http.specs.StatusCode.{reason_phrase}
use Rattle.web_frames.specs.declared.status.Trailers.{Trailers}
use Rattle.web_frames.specs.Format.{frame}
use Rattle.web_frames.specs.Trailers.{trailers_text}
use Rattle.web_frames.specs.Laws.{HasNoSpaceFirst}

-- the head of a response that isn't refused
unfoldable pub head_text : List ℕ
head_text = codes "HTTP/1.1 200 OK\r\ncontent-type: application/grpc-web+proto\r\nconnection: close\r\ntransfer-encoding: chunked\r\n\r\n"

-- a chunk, with its size in lower-case hexadecimal without leading zeros
unfoldable pub chunk : List ℕ → List ℕ
chunk content = digits 16 false (length content) ++ codes "\r\n" ++ content ++ codes "\r\n"

-- a frame as one chunk
unfoldable pub frame_chunk : ℕ → List ℕ → List ℕ
frame_chunk flag payload = chunk (frame flag payload)

-- a message
abbrev pub message_bytes : List ℕ → List ℕ
message_bytes message = frame_chunk 0 message

-- the trailers, and the end of the body
abbrev pub end_bytes : Trailers → List ℕ
end_bytes trailers = frame_chunk 128 (trailers_text trailers) ++ codes "0\r\n\r\n"

-- the reason phrase of a status, empty where it has none
unfoldable pub phrase_of : ℕ → List ℕ
phrase_of status = if nat_le 100 status && nat_lt status 1000 then unwrap_or (reason_phrase status) [] else []

-- a response without a body, after which the connection is closed
unfoldable pub refused_text : ℕ → List ℕ
refused_text status =
    codes "HTTP/1.1 " ++ (decimal status ++ (codes " " ++ (phrase_of status ++ codes "\r\nconnection: close\r\ncontent-length: 0\r\n\r\n")))

-- ---- answers

-- the body of an answer: messages, then the trailers and its end
unfoldable pub body_bytes : List (List ℕ) → Trailers → List ℕ
body_bytes messages trailers = flat_map message_bytes messages ++ end_bytes trailers

-- an answer
unfoldable pub answer_bytes : List (List ℕ) → Trailers → List ℕ
answer_bytes messages trailers = head_text ++ body_bytes messages trailers

-- messages of at most 16 MiB, and trailers whose message is a text of at most 65,536 bytes that doesn't begin with a space
pub record MayBeWritten (messages : List (List ℕ)) (trailers : Trailers) : Type 0 where
  pub each : All (λ message. length message ≤ 16777216) messages
  pub status : trailers.status < 2 ^ 32
  pub text : IsUtf8 trailers.message
  pub short : length trailers.message ≤ 65536
  pub no_space : HasNoSpaceFirst trailers.message
