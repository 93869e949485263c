-- What a server answers a refused request with (RFC 9110, section 15; gRPC, "Status codes and their use in gRPC").
use Rattle.std.specs.Prelude.{ℕ, List, Option, Some, None, ⊤, codes}
use Rattle.web_contents.specs.declared.fault.WebFault.{WebFault}
use Rattle.web_contents.specs.declared.fault.WebFault.TheVariants.{HeadTooLong, TooManyHeaders, BadHead, BadMethod, BadType, BadLength, BadChunk, FrameTooLong, Compressed, AfterMessage, NoMessage, AfterTrailers, BadTrailer, Truncated, OutOfMemory}
use Rattle.grpc_web.specs.declared.answer.FaultAnswer.{FaultAnswer}
use Rattle.grpc_web.specs.declared.answer.FaultAnswer.TheVariants.{Http, Grpc}
use Rattle.grpc_web.specs.declared.answer.FaultName.{FaultName}
use Rattle.grpc_web.specs.declared.answer.FaultName.TheVariants as name

-- 413 is Content Too Large, 400 Bad Request, 405 Method Not Allowed, 415 Unsupported Media Type; the status 12 is UNIMPLEMENTED, 3 is
-- INVALID_ARGUMENT. Faults that only answers have, a request that the connection cuts off, and want of memory have no answer here
abbrev pub answer_of : WebFault → Option FaultAnswer
answer_of HeadTooLong = Some (Http 413)
answer_of TooManyHeaders = Some (Http 413)
answer_of BadHead = Some (Http 400)
answer_of BadMethod = Some (Http 405)
answer_of BadType = Some (Http 415)
answer_of BadLength = Some (Http 400)
answer_of (BadChunk at) = Some (Http 400)
answer_of (FrameTooLong count) = Some (Http 413)
answer_of Compressed = Some (Grpc 12 name.Compressed)
answer_of AfterMessage = Some (Grpc 3 name.BadRequest)
answer_of NoMessage = Some (Grpc 3 name.BadRequest)
answer_of AfterTrailers = None
answer_of BadTrailer = None
answer_of Truncated = None
answer_of OutOfMemory = None

-- a name as it is written
abbrev pub text_of : FaultName → List ℕ
text_of name.Compressed = codes "COMPRESSED"
text_of name.BadRequest = codes "BAD_REQUEST"

-- ---- the lists of faults

-- the faults that the bytes of a request may settle
abbrev pub IsOfRequests : WebFault → Type 0
IsOfRequests HeadTooLong = ⊤
IsOfRequests TooManyHeaders = ⊤
IsOfRequests BadHead = ⊤
IsOfRequests BadMethod = ⊤
IsOfRequests BadType = ⊤
IsOfRequests BadLength = ⊤
IsOfRequests (BadChunk at) = ⊤
IsOfRequests (FrameTooLong count) = ⊤
IsOfRequests Compressed = ⊤
IsOfRequests AfterMessage = ⊤
IsOfRequests NoMessage = ⊤
IsOfRequests AfterTrailers = ⊥
IsOfRequests BadTrailer = ⊥
IsOfRequests Truncated = ⊥
IsOfRequests OutOfMemory = ⊥

-- the faults that the bytes of an answer may settle
abbrev pub IsOfAnswers : WebFault → Type 0
IsOfAnswers HeadTooLong = ⊤
IsOfAnswers TooManyHeaders = ⊤
IsOfAnswers BadHead = ⊤
IsOfAnswers BadMethod = ⊥
IsOfAnswers BadType = ⊤
IsOfAnswers BadLength = ⊤
IsOfAnswers (BadChunk at) = ⊤
IsOfAnswers (FrameTooLong count) = ⊤
IsOfAnswers Compressed = ⊤
IsOfAnswers AfterMessage = ⊥
IsOfAnswers NoMessage = ⊥
IsOfAnswers AfterTrailers = ⊤
IsOfAnswers BadTrailer = ⊤
IsOfAnswers Truncated = ⊤
IsOfAnswers OutOfMemory = ⊥
