-- What the fields of a head say: values by name, the content type and the framing of the body.
use Rattle.std.specs.Prelude.{◌≡◌, ℕ, ◌-◌, ◌^◌, Bool, true, false, if◌then◌else◌, ◌==◌, ◌||◌, nat_lt, List, length, map, filter, count_by, Option, Some, None, Result, Ok, Err, codes, slice_get}
use Rattle.std.specs.List.{before_first}
use Rattle.std.specs.Str.{bytes_eq, str_to_ascii_lowercase}
use Rattle.httparse.specs.Ascii.{semicolon, line_feed}
use Rattle.web_heads.specs.declared.body.BodyKind.{BodyKind}
use Rattle.web_heads.specs.declared.body.BodyKind.TheVariants.{Length, Chunks}
use Rattle.web_heads.specs.declared.fault.HeadFault.{HeadFault}
use Rattle.web_heads.specs.declared.fault.HeadFault.TheVariants.{TooManyHeaders, BadHead, BadMethod, BadType, BadLength, OutOfMemory}
use Rattle.web_heads.specs.Texts.{without_trailing_ows, decimal_of}

-- a field's name, and its value without the white space around it
abbrev pub NameValue : Type 0
NameValue = List ℕ × List ℕ

-- the field has this name, which is in lower case: names match in either case (RFC 9110, section 5.1)
abbrev pub is_named : List ℕ → NameValue → Bool
is_named name field = bytes_eq (str_to_ascii_lowercase field.0) name

-- the values of the fields of a name, in their order
unfoldable pub values : List ℕ → List NameValue → List (List ℕ)
values name fields = map (λ field. field.1) (filter (is_named name) fields)

-- the value of the first field of a name
abbrev pub first_value : List ℕ → List NameValue → Option (List ℕ)
first_value name fields = slice_get (values name fields) 0

-- a media type without its parameters, in lower case (RFC 9110, section 8.3.1)
unfoldable pub media_type : List ℕ → List ℕ
media_type value = str_to_ascii_lowercase (without_trailing_ows (before_first (λ b. b == semicolon) value))

-- a media type of gRPC-Web in its binary form
unfoldable pub is_grpc_web : List ℕ → Bool
is_grpc_web value =
    bytes_eq (media_type value) (codes "application/grpc-web") || bytes_eq (media_type value) (codes "application/grpc-web+proto")

-- a value that is there and passes the test
abbrev pub some_passes : (List ℕ → Bool) → Option (List ℕ) → Bool
some_passes test None = false
some_passes test (Some value) = test value

-- the first content type is one of gRPC-Web
unfoldable pub has_grpc_type : List NameValue → Bool
has_grpc_type fields = some_passes is_grpc_web (first_value (codes "content-type") fields)

-- the transfer coding of a body in chunks (RFC 9112, section 7); a value of several codings, as `gzip, chunked`, is another one
unfoldable pub is_chunked : List ℕ → Bool
is_chunked value = bytes_eq (str_to_ascii_lowercase value) (codes "chunked")

-- the first transfer coding is that of chunks
abbrev pub has_chunks : List NameValue → Bool
has_chunks fields = some_passes is_chunked (first_value (codes "transfer-encoding") fields)

-- the body that a Content-Length announces, of at most 2^62 bytes
abbrev pub body_of_length : Option ℕ → Result (Option BodyKind) HeadFault
body_of_length None = Err BadLength
body_of_length (Some count) = Ok (Some (Length count))

-- the body by the value of a Content-Length, if there is one, and by whether it comes in chunks
unfoldable pub body_of : Option (List ℕ) → Bool → Result (Option BodyKind) HeadFault
body_of None false = Ok None
body_of None true = Ok (Some Chunks)
body_of (Some value) true = Err BadLength
body_of (Some value) false = body_of_length (decimal_of value (2 ^ 62))

-- how the values of Content-Length and Transfer-Encoding frame the body (RFC 9112, section 6.3)
unfoldable pub framed : List (List ℕ) → List (List ℕ) → Result (Option BodyKind) HeadFault
framed lengths codings =
    if nat_lt 1 (length lengths) || nat_lt 1 (length codings) then Err BadLength
    else body_of (slice_get lengths 0) (some_passes is_chunked (slice_get codings 0))

-- the body of a head with these fields, or none where they frame it neither by length nor by chunks
abbrev pub framing : List NameValue → Result (Option BodyKind) HeadFault
framing fields = framed (values (codes "content-length") fields) (values (codes "transfer-encoding") fields)

-- how many lines stand between the first line and the empty line that ends a head
unfoldable pub inner_lines : List ℕ → ℕ
inner_lines bytes = count_by (λ b. b == line_feed) bytes - 2

-- what a call answered is what the definition gives, unless memory ran out
abbrev pub Gives : {A : Type 0} → Result A HeadFault → Result A HeadFault → Type 0
Gives (Ok found) expected = expected ≡ Ok found
Gives (Err TooManyHeaders) expected = expected ≡ Err TooManyHeaders
Gives (Err BadHead) expected = expected ≡ Err BadHead
Gives (Err BadMethod) expected = expected ≡ Err BadMethod
Gives (Err BadType) expected = expected ≡ Err BadType
Gives (Err BadLength) expected = expected ≡ Err BadLength
Gives (Err OutOfMemory) expected = Unit {0}
