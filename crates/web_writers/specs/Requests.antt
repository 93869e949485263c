-- The bytes of a request (RFC 9112, section 3; gRPC-Web protocol).
use Rattle.std.specs.Prelude.{ℕ, ◌+◌, ◌<◌, ◌≤◌, List, ◌++◌, length, All, codes}
use Rattle.std.specs.Fmt.{decimal}
use Rattle.web_frames.specs.Format.{frame}

-- 1 to 1,024 visible bytes of ASCII
pub record IsVisibleText (text : List ℕ) : Type 0 where
  pub some : 0 < length text
  pub short : length text ≤ 1024
  pub visible : All (λ b. (0x21 ≤ b) × (b ≤ 0x7E)) text

-- the head of a request whose body has so many bytes
unfoldable pub head_text : List ℕ → List ℕ → ℕ → List ℕ
head_text path host count =
    codes "POST " ++ (path ++ (codes " HTTP/1.1\r\nhost: " ++ (host
    ++ (codes "\r\ncontent-type: application/grpc-web+proto\r\naccept: application/grpc-web+proto\r\nx-grpc-web: 1\r\nconnection: close\r\ncontent-length: "
    ++ (decimal count ++ codes "\r\n\r\n")))))

-- the whole request: its head, and the frame of its message
unfoldable pub request_bytes : List ℕ → List ℕ → List ℕ → List ℕ
request_bytes path host message = head_text path host (length message + 5) ++ frame 0 message
