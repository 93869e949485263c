-- A request's head as a function of its bytes.
use Rattle.std.specs.Prelude.{ℕ, if◌then◌else◌, nat_lt, List, map, Option, Some, None, Result, Ok, Err, codes}
use Rattle.std.specs.Str.{bytes_eq}
use Rattle.httparse.specs.Grammar as grammar
use Rattle.httparse.specs.Spans.{name_and_value}
use Rattle.web_heads.specs.declared.body.BodyKind.{BodyKind}
use Rattle.web_heads.specs.declared.fault.HeadFault.{HeadFault}
use Rattle.web_heads.specs.declared.fault.HeadFault.TheVariants.{TooManyHeaders, BadHead, BadMethod, BadType, BadLength}
use Rattle.web_heads.specs.declared.request.RequestHead.{RequestHead}
use Rattle.web_heads.specs.Trees.{most_fields, request_tree}
use Rattle.web_heads.specs.Fields.{NameValue, has_grpc_type, framing, inner_lines}

-- a request to this path, whose body has to be framed
abbrev pub request_to : List ℕ → Result (Option BodyKind) HeadFault → Result RequestHead HeadFault
request_to path (Ok (Some body)) = Ok (record { path = path; body = body })
request_to path (Ok None) = Err BadLength
request_to path (Err fault) = Err fault

-- what a method, a target and fields say, or the first fault among them
unfoldable pub request_of : List ℕ → List ℕ → List NameValue → Result RequestHead HeadFault
request_of method target fields =
    if bytes_eq method (codes "POST")
    then if has_grpc_type fields then request_to target (framing fields) else Err BadType
    else Err BadMethod

-- what a tree says, where there is one
abbrev pub request_of_tree : Option grammar.RequestHead → Result RequestHead HeadFault
request_of_tree None = Err BadHead
request_of_tree (Some h) = request_of h.method h.target (map name_and_value h.fields)

-- what the bytes of a head say, or the first fault in them
unfoldable pub request_head : List ℕ → Result RequestHead HeadFault
request_head bytes = if nat_lt most_fields (inner_lines bytes) then Err TooManyHeaders else request_of_tree (request_tree bytes)
