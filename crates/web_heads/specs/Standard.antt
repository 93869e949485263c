-- Heads in the words of RFC 9112 and of gRPC-Web: what their start line and fields say, and what is wrong with them, the first fault of the
-- list of faults where several hold.
--
-- Where these words depart from RFC 9112 and RFC 9110: a transfer coding other than `chunked`, whole and in either case, counts as absent, where
-- RFC 9112, section 6.1, has a request with an unknown one refused; the minor version and Host are not looked at (RFC 9112, sections 2.3 and 3.2),
-- nor is a second Content-Type; a status of 1xx is read as a final answer, and a status without a body, as 204 and 304, has the body that its
-- fields frame (RFC 9112, section 6.3, rule 1); both framings together are a fault, where section 6.3, rule 3, lets the chunks count. A length
-- and a grpc-status may have leading zeros, as their grammars allow. Since a connection carries one request and one answer and is then closed,
-- no byte behind them is read as another message: whoever takes the end of a body to be elsewhere, as a proxy, makes no second message of it.
use Rattle.std.specs.Prelude.{◌≡◌, ◌≢◌, ℕ, ◌^◌, ◌<◌, ◌≤◌, ◌⊎◌, ◌↔◌, IsTrue, List, [], ◌∷◌, length, map, Some, Result, Ok, Err, codes, ⊤}
use Rattle.std.specs.Char.{is_ascii_digit}
use Rattle.std.specs.Str.{str_to_ascii_lowercase}
use Rattle.std.specs.Str.Parse.{digits_value}
use Rattle.httparse.specs.Grammar as grammar
use Rattle.httparse.specs.Spans.{name_and_value}
use Rattle.web_heads.specs.declared.body.BodyKind.{BodyKind}
use Rattle.web_heads.specs.declared.body.BodyKind.TheVariants.{Length, Chunks, ToEnd}
use Rattle.web_heads.specs.declared.fault.HeadFault.{HeadFault}
use Rattle.web_heads.specs.declared.fault.HeadFault.TheVariants.{TooManyHeaders, BadHead, BadMethod, BadType, BadLength, OutOfMemory}
use Rattle.web_heads.specs.declared.request.RequestHead.{RequestHead}
use Rattle.web_heads.specs.declared.response.ResponseHead.{ResponseHead}
use Rattle.web_heads.specs.Trees.{most_fields}
use Rattle.web_heads.specs.Fields.{NameValue, values, first_value, media_type, inner_lines}

-- decimal digits, one or more, leading zeros among them, and the number that they write
pub record IsDecimal (text : List ℕ) (number : ℕ) : Type 0 where
  pub some : 0 < length text
  pub digits : grammar.AllPass is_ascii_digit text
  pub value : number ≡ digits_value 10 text

-- the first content type, without parameters and in lower case, is one of gRPC-Web (RFC 9110, section 8.3)
pub record HasGrpcType (fields : List NameValue) : Type 0 where
  pub value : List ℕ
  pub first : first_value (codes "content-type") fields ≡ Some value
  pub type : (media_type value ≡ codes "application/grpc-web") ⊎ (media_type value ≡ codes "application/grpc-web+proto")

-- the one transfer coding is that of chunks (RFC 9112, section 6.1); any other one is as if the field weren't there
pub record IsChunked (codings : List (List ℕ)) : Type 0 where
  pub value : List ℕ
  pub only : codings ≡ value ∷ []
  pub chunked : str_to_ascii_lowercase value ≡ codes "chunked"

-- a body by one length, of at most 2^62 bytes
pub record HasLength (lengths : List (List ℕ)) (count : ℕ) : Type 0 where
  pub value : List ℕ
  pub only : lengths ≡ value ∷ []
  pub number : IsDecimal value count
  pub fits : count ≤ 2 ^ 62

-- how the values of Content-Length and Transfer-Encoding frame a body (RFC 9112, section 6.3)
abbrev pub IsFramed : List (List ℕ) → List (List ℕ) → BodyKind → Type 0
IsFramed lengths codings (Length count) = HasLength lengths count × (length codings ≤ 1) × ¬ (IsChunked codings)
IsFramed lengths codings Chunks = (lengths ≡ []) × IsChunked codings
IsFramed lengths codings ToEnd = (lengths ≡ []) × (length codings ≤ 1) × ¬ (IsChunked codings)

-- a framing field twice, both framings, or a length that is no decimal number up to 2^62
pub data IsBadlyFramed (lengths codings : List (List ℕ)) : Type 0 where
  length_twice : 1 < length lengths → IsBadlyFramed lengths codings
  coding_twice : 1 < length codings → IsBadlyFramed lengths codings
  both : 0 < length lengths → IsChunked codings → IsBadlyFramed lengths codings
  no_length : 0 < length lengths → ((count : ℕ) → ¬ (HasLength lengths count)) → IsBadlyFramed lengths codings

-- the framing of a head's fields
abbrev pub FramesAs : List NameValue → BodyKind → Type 0
FramesAs fields body = IsFramed (values (codes "content-length") fields) (values (codes "transfer-encoding") fields) body

abbrev pub FramesBadly : List NameValue → Type 0
FramesBadly fields = IsBadlyFramed (values (codes "content-length") fields) (values (codes "transfer-encoding") fields)

-- more lines than fields are allowed stand between the first line and the empty line
abbrev pub HasManyLines : List ℕ → Type 0
HasManyLines bytes = most_fields < inner_lines bytes

-- ---- requests

-- the bytes are a start line, field lines and an empty line (RFC 9112, section 2.1), with room for the fields
pub record IsRequestText (bytes : List ℕ) (h : grammar.RequestHead) : Type 0 where
  pub short : ¬ (HasManyLines bytes)
  pub reads : grammar.ReadsRequest bytes h []
  pub few : length h.fields ≤ most_fields

-- the names and values of a request's fields
abbrev pub request_fields : grammar.RequestHead → List NameValue
request_fields h = map name_and_value h.fields

-- a POST request for a path, with a body by length or by chunks
pub record IsRequest (h : grammar.RequestHead) (head : RequestHead) : Type 0 where
  pub method : h.method ≡ codes "POST"
  pub type : HasGrpcType (request_fields h)
  pub path : head.path ≡ h.target
  pub body : FramesAs (request_fields h) head.body
  pub framed : head.body ≢ ToEnd

-- what is wrong with a request whose text is a head
abbrev pub IsRequestFault : grammar.RequestHead → HeadFault → Type 0
IsRequestFault h TooManyHeaders = ⊥
IsRequestFault h BadHead = ⊥
IsRequestFault h BadMethod = h.method ≢ codes "POST"
IsRequestFault h BadType = (h.method ≡ codes "POST") × ¬ (HasGrpcType (request_fields h))
IsRequestFault h BadLength =
    (h.method ≡ codes "POST") × HasGrpcType (request_fields h)
    × (FramesBadly (request_fields h) ⊎ FramesAs (request_fields h) ToEnd)
IsRequestFault h OutOfMemory = ⊥

-- what the bytes of a request's head say
abbrev pub RequestSays : List ℕ → Result RequestHead HeadFault → Type 0
RequestSays bytes (Ok head) = (h : grammar.RequestHead) × IsRequestText bytes h × IsRequest h head
RequestSays bytes (Err TooManyHeaders) = HasManyLines bytes
RequestSays bytes (Err BadHead) = ¬ (HasManyLines bytes) × ((h : grammar.RequestHead) → ¬ (IsRequestText bytes h))
RequestSays bytes (Err BadMethod) = (h : grammar.RequestHead) × IsRequestText bytes h × IsRequestFault h BadMethod
RequestSays bytes (Err BadType) = (h : grammar.RequestHead) × IsRequestText bytes h × IsRequestFault h BadType
RequestSays bytes (Err BadLength) = (h : grammar.RequestHead) × IsRequestText bytes h × IsRequestFault h BadLength
RequestSays bytes (Err OutOfMemory) = ⊥

-- ---- responses

-- the same for a response (RFC 9112, section 2.1)
pub record IsResponseText (bytes : List ℕ) (h : grammar.ResponseHead) : Type 0 where
  pub short : ¬ (HasManyLines bytes)
  pub reads : grammar.ReadsResponse bytes h []
  pub few : length h.fields ≤ most_fields

-- the names and values of a response's fields
abbrev pub response_fields : grammar.ResponseHead → List NameValue
response_fields h = map name_and_value h.fields

-- a response of this status, whose body ends with the connection where nothing else frames it; that a status is interim or has no body (RFC 9112,
-- section 6.3, rule 1) isn't looked at
pub record IsResponse (h : grammar.ResponseHead) (head : ResponseHead) : Type 0 where
  pub status : head.status ≡ grammar.status_code h
  pub right : head.status ≡ 200 → HasGrpcType (response_fields h)
  pub type : IsTrue head.has_grpc_type ↔ HasGrpcType (response_fields h)
  pub body : FramesAs (response_fields h) head.body
  pub grpc_status : head.grpc_status ≡ first_value (codes "grpc-status") (response_fields h)
  pub grpc_message : head.grpc_message ≡ first_value (codes "grpc-message") (response_fields h)

-- what the bytes of a response's head say
abbrev pub ResponseSays : List ℕ → Result ResponseHead HeadFault → Type 0
ResponseSays bytes (Ok head) = (h : grammar.ResponseHead) × IsResponseText bytes h × IsResponse h head
ResponseSays bytes (Err TooManyHeaders) = HasManyLines bytes
ResponseSays bytes (Err BadHead) = ¬ (HasManyLines bytes) × ((h : grammar.ResponseHead) → ¬ (IsResponseText bytes h))
ResponseSays bytes (Err BadMethod) = ⊥
ResponseSays bytes (Err BadType) =
    (h : grammar.ResponseHead) × IsResponseText bytes h × (grammar.status_code h ≡ 200) × ¬ (HasGrpcType (response_fields h))
ResponseSays bytes (Err BadLength) =
    (h : grammar.ResponseHead) × IsResponseText bytes h × (grammar.status_code h ≡ 200 → HasGrpcType (response_fields h))
    × FramesBadly (response_fields h)
ResponseSays bytes (Err OutOfMemory) = ⊥

-- what a call answered is what is said, unless memory ran out
abbrev pub Answers : {A : Type 0} → Result A HeadFault → (Result A HeadFault → Type 0) → Type 0
Answers (Ok head) Says = Says (Ok head)
Answers (Err TooManyHeaders) Says = Says (Err TooManyHeaders)
Answers (Err BadHead) Says = Says (Err BadHead)
Answers (Err BadMethod) Says = Says (Err BadMethod)
Answers (Err BadType) Says = Says (Err BadType)
Answers (Err BadLength) Says = Says (Err BadLength)
Answers (Err OutOfMemory) Says = ⊤

-- ---- chunk lines

-- the line before a chunk (RFC 9112, section 7.1), all of the bytes and at most 256, and the size that it gives. The standard sets no number of
-- digits; here a size has 1 to 16, leading zeros among them, so that it is a number of 64 bits
pub record IsChunkLine (bytes : List ℕ) (size : ℕ) : Type 0 where
  pub line : grammar.ChunkLine
  pub reads : grammar.ReadsChunkLine bytes line []
  pub short : length bytes ≤ 256
  pub size_is : size ≡ grammar.chunk_size line
