-- Laws over the definitions, for all bytes.
use Rattle.std.specs.Prelude.{◌≡◌, ℕ, ◌-◌, ◌≤◌, List, [], ◌++◌, length, Some, Result}
use Rattle.httparse.specs.Grammar as grammar
use Rattle.web_heads.specs.Trees.{most_fields, request_tree, response_tree}
use Rattle.web_heads.specs.ChunkLines.{chunk_line_of, chunk_size}
use Rattle.web_heads.specs.HeadEnds.{EndsLines, IsFirstEnd}
use Rattle.web_heads.specs.Requests.{request_head}
use Rattle.web_heads.specs.Responses.{response_head}
use Rattle.web_heads.specs.Standard.{RequestSays, ResponseSays, IsChunkLine}
use Rattle.web_heads.specs.declared.fault.HeadFault.{HeadFault}
use Rattle.web_heads.specs.declared.request.RequestHead.{RequestHead}
use Rattle.web_heads.specs.declared.response.ResponseHead.{ResponseHead}

-- a request's tree is the one that the grammar of RFC 9112 gives the whole of the bytes, of at most 64 fields
pub record RequestTrees : Type 0 where
  pub sound : (bytes : List ℕ) (h : grammar.RequestHead) → request_tree bytes ≡ Some h
      → grammar.ReadsRequest bytes h [] × (length h.fields ≤ most_fields)
  pub complete : (bytes : List ℕ) (h : grammar.RequestHead) → grammar.ReadsRequest bytes h [] → length h.fields ≤ most_fields
      → request_tree bytes ≡ Some h

-- the same for a response
pub record ResponseTrees : Type 0 where
  pub sound : (bytes : List ℕ) (h : grammar.ResponseHead) → response_tree bytes ≡ Some h
      → grammar.ReadsResponse bytes h [] × (length h.fields ≤ most_fields)
  pub complete : (bytes : List ℕ) (h : grammar.ResponseHead) → grammar.ReadsResponse bytes h [] → length h.fields ≤ most_fields
      → response_tree bytes ≡ Some h

-- the same for a chunk line
pub record ChunkLines : Type 0 where
  pub sound : (bytes : List ℕ) (l : grammar.ChunkLine) → chunk_line_of bytes ≡ Some l → grammar.ReadsChunkLine bytes l []
  pub complete : (bytes : List ℕ) (l : grammar.ChunkLine) → grammar.ReadsChunkLine bytes l [] → chunk_line_of bytes ≡ Some l
  pub sizes : (bytes : List ℕ) (size : ℕ) → chunk_size bytes ≡ Some size → IsChunkLine bytes size
  pub only : (bytes : List ℕ) (size : ℕ) → IsChunkLine bytes size → chunk_size bytes ≡ Some size

-- the function of a request's head gives what the standard's words say, and they say nothing else
pub record RequestsSay : Type 0 where
  pub given : (bytes : List ℕ) → RequestSays bytes (request_head bytes)
  pub only : (bytes : List ℕ) (answer : Result RequestHead HeadFault) → RequestSays bytes answer → request_head bytes ≡ answer

-- the same for a response
pub record ResponsesSay : Type 0 where
  pub given : (bytes : List ℕ) → ResponseSays bytes (response_head bytes)
  pub only : (bytes : List ℕ) (answer : Result ResponseHead HeadFault) → ResponseSays bytes answer → response_head bytes ≡ answer

-- a search in more bytes may go on three bytes before the end of those in which it found nothing
pub record SearchGoesOn : Type 0 where
  pub found : (bytes more : List ℕ) (stop : ℕ) → ((at : ℕ) → ¬ (EndsLines bytes at))
      → IsFirstEnd (bytes ++ more) (length bytes - 3) stop → IsFirstEnd (bytes ++ more) 0 stop
  pub none : (bytes more : List ℕ) → ((at : ℕ) → ¬ (EndsLines bytes at))
      → ((at : ℕ) → length bytes - 3 ≤ at → ¬ (EndsLines (bytes ++ more) at)) → (at : ℕ) → ¬ (EndsLines (bytes ++ more) at)
