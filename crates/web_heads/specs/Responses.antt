-- A response's head as a function of its bytes.
use Rattle.std.specs.Prelude.{ℕ, if◌then◌else◌, ◌==◌, ◌&&◌, not, nat_lt, List, map, Option, Some, None, Result, Ok, Err, codes, unwrap_or}
use Rattle.httparse.specs.Grammar as grammar
use Rattle.httparse.specs.Spans.{name_and_value}
use Rattle.web_heads.specs.declared.body.BodyKind.{BodyKind}
use Rattle.web_heads.specs.declared.body.BodyKind.TheVariants.{ToEnd}
use Rattle.web_heads.specs.declared.fault.HeadFault.{HeadFault}
use Rattle.web_heads.specs.declared.fault.HeadFault.TheVariants.{TooManyHeaders, BadHead, BadType}
use Rattle.web_heads.specs.declared.response.ResponseHead.{ResponseHead}
use Rattle.web_heads.specs.Trees.{most_fields, response_tree}
use Rattle.web_heads.specs.Fields.{NameValue, first_value, has_grpc_type, framing, inner_lines}

-- a response of this status and these fields, whose body ends with the connection where nothing else frames it
abbrev pub response_with : ℕ → List NameValue → Result (Option BodyKind) HeadFault → Result ResponseHead HeadFault
response_with status fields (Ok body) = Ok (record {
  status = status;
  body = unwrap_or body ToEnd;
  has_grpc_type = has_grpc_type fields;
  grpc_status = first_value (codes "grpc-status") fields;
  grpc_message = first_value (codes "grpc-message") fields;
})
response_with status fields (Err fault) = Err fault

-- what a status and fields say, or the first fault among them; the content type counts where the status is 200
unfoldable pub response_of : ℕ → List NameValue → Result ResponseHead HeadFault
response_of status fields =
    if status == 200 && not (has_grpc_type fields) then Err BadType else response_with status fields (framing fields)

-- what a tree says, where there is one
abbrev pub response_of_tree : Option grammar.ResponseHead → Result ResponseHead HeadFault
response_of_tree None = Err BadHead
response_of_tree (Some h) = response_of (grammar.status_code h) (map name_and_value h.fields)

-- what the bytes of a head say, or the first fault in them
unfoldable pub response_head : List ℕ → Result ResponseHead HeadFault
response_head bytes = if nat_lt most_fields (inner_lines bytes) then Err TooManyHeaders else response_of_tree (response_tree bytes)
