-- Laws over the bytes that are written.
use Rattle.std.specs.Prelude.{◌≡◌, ◌≢◌, ℕ, ◌≤◌, true, List, [], ◌++◌, length, fold, All, Option, Some, None, Ok}
use Rattle.std.specs.List.{concat, flat_map}
use Rattle.web_heads.specs.declared.body.BodyKind.TheVariants.{Chunks}
use Rattle.web_heads.specs.Standard.{ResponseSays}
use Rattle.web_head_reader.specs.Standard.{IsHead}
use Rattle.web_frames.specs.declared.limits.Side.TheVariants.{Response}
use Rattle.web_frames.specs.declared.status.Trailers.{Trailers}
use Rattle.web_frames.specs.Standard.{IsBytes}
use Rattle.web_contents.specs.Standard.{HasContent, BeginsContent}
use Rattle.web_requests.specs.Machine.{read, whole, begin, after, request_in}
use Rattle.web_requests.specs.Standard.{HasRequest}
use Rattle.web_writers.specs.Requests.{IsVisibleText, request_bytes}
use Rattle.web_writers.specs.Responses.{head_text, message_bytes, body_bytes, MayBeWritten}

-- a request as it is written is the request of its path and message, in RFC 9112's words and as it is read, whatever follows it, in any pieces
pub record RequestsAreReadBack : Type 0 where
  pub said : (path host message rest : List ℕ) → IsVisibleText path → IsVisibleText host → length message ≤ 67108864
      → HasRequest (request_bytes path host message ++ rest) path message
  pub read_back : (path host message rest : List ℕ) → IsVisibleText path → IsVisibleText host → length message ≤ 67108864
      → IsBytes message → IsBytes rest → request_in (request_bytes path host message ++ rest) ≡ read path message
  pub in_pieces : (path host message : List ℕ) (pieces : List (List ℕ)) → IsVisibleText path → IsVisibleText host → length message ≤ 67108864
      → IsBytes message → concat pieces ≡ request_bytes path host message → fold after begin pieces ≡ whole path message

-- the head of a response says status 200 and a body in chunks; messages and the end of a response are, in the words of RFC 9112 and gRPC-Web, a
-- body in chunks with these messages and trailers, whatever follows it; messages alone are a beginning of one, with these messages, and so is what
-- is left of a body without some bytes at its end
pub record ResponsesAreSaid : Type 0 where
  pub is_head : IsHead head_text
  pub head : ResponseSays head_text (Ok (record { status = 200; body = Chunks; has_grpc_type = true; grpc_status = None; grpc_message = None }))
  pub body : (messages : List (List ℕ)) (trailers : Trailers) (rest : List ℕ) → MayBeWritten messages trailers
      → HasContent Response Chunks (body_bytes messages trailers ++ rest) messages (Some trailers)
  pub begun : (messages : List (List ℕ)) → All (λ message. length message ≤ 16777216) messages
      → BeginsContent Response Chunks (flat_map message_bytes messages) messages None
  pub cut_off : (messages : List (List ℕ)) (trailers : Trailers) (front back : List ℕ) → MayBeWritten messages trailers → IsBytes front
      → back ≢ [] → front ++ back ≡ body_bytes messages trailers
      → (before : List (List ℕ)) × (earlier : Option Trailers) × BeginsContent Response Chunks front before earlier
