-- Requests in the standard's words (RFC 9112; gRPC-Web protocol): which bytes of a connection are a request and bytes after it, which are a
-- beginning of one, and which settle a fault.
use Rattle.std.specs.Prelude.{◌≡◌, ℕ, List, [], ◌∷◌, ◌++◌, length, Option, None, Ok, Err}
use Rattle.web_heads.specs.declared.fault.HeadFault.{HeadFault}
use Rattle.web_heads.specs.declared.request.RequestHead.{RequestHead}
use Rattle.web_heads.specs.Standard.{RequestSays}
use Rattle.web_head_reader.specs.Standard.{IsHead, HasHead, IsTooLong}
use Rattle.web_head_reader.specs.Standard as heads
use Rattle.web_frames.specs.declared.limits.Side.TheVariants.{Request}
use Rattle.web_frames.specs.declared.status.Trailers.{Trailers}
use Rattle.web_contents.specs.declared.fault.WebFault.{WebFault}
use Rattle.web_contents.specs.declared.fault.WebFault.TheVariants.{HeadTooLong}
use Rattle.web_contents.specs.Faults.{fault_of_head}
use Rattle.web_contents.specs.Standard.{HasContent, BeginsContent, IsContentFault}

-- the bytes begin with a whole head, up to the first empty line, that says where the request goes and how its body is framed; these follow
pub record HasRequestHead (bytes : List ℕ) (said : RequestHead) (rest : List ℕ) : Type 0 where
  pub head : List ℕ
  pub bytes_are : bytes ≡ head ++ rest
  pub is_head : IsHead head
  pub says : RequestSays head (Ok said)

-- a request to this path, and then any bytes: a head, and a body of its kind whose payload is the frame of the message
pub record HasRequest (bytes path message : List ℕ) : Type 0 where
  pub said : RequestHead
  pub rest : List ℕ
  pub head : HasRequestHead bytes said rest
  pub path_is : said.path ≡ path
  pub content : HasContent Request said.body rest (message ∷ []) None

-- a beginning of a request, of which more has to come
pub data IsBegun (bytes : List ℕ) : Type 0 where
  in_head : heads.IsBegun bytes → IsBegun bytes
  in_body : (said : RequestHead) (rest : List ℕ) (messages : List (List ℕ)) (trailers : Option Trailers) → HasRequestHead bytes said rest
      → BeginsContent Request said.body rest messages trailers → IsBegun bytes

-- the bytes are the fewest that settle the fault
pub data IsRequestFault (bytes : List ℕ) (fault : WebFault) : Type 0 where
  -- 16 KiB without the end of the head
  long_head : IsTooLong bytes → fault ≡ HeadTooLong → IsRequestFault bytes fault
  -- a head, judged at its last byte
  bad_head : (wrong : HeadFault) → IsHead bytes → RequestSays bytes (Err wrong) → fault ≡ fault_of_head wrong → IsRequestFault bytes fault
  -- a head, and a body up to the byte that settles the fault of its framing, of its frames or of its end
  bad_body : (said : RequestHead) (rest : List ℕ) (messages : List (List ℕ)) (trailers : Option Trailers)
      (head : HasRequestHead bytes said rest)
      → IsContentFault Request said.body (length head.head) rest messages trailers fault → IsRequestFault bytes fault

-- a beginning of the bytes settles the fault; the bytes after it say nothing
pub record HasFault (bytes : List ℕ) (fault : WebFault) : Type 0 where
  pub settled : List ℕ
  pub after : List ℕ
  pub bytes_are : bytes ≡ settled ++ after
  pub is_fault : IsRequestFault settled fault
