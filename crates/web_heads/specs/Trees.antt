-- Heads as trees of the grammar, as functions of their bytes: a start line, field lines and an empty line (RFC 9112, section 2.1).
use Rattle.std.specs.Prelude.{ℕ, if◌then◌else◌, ◌==◌, ◌&&◌, Bool, nat_lt, nat_le, List, [], ◌∷◌, length, Option, Some, None, option_map, codes}
use Rattle.std.specs.List.{list_all}
use Rattle.std.specs.Char.{is_ascii_digit}
use Rattle.std.specs.Str.{bytes_eq, is_utf8}
use Rattle.httparse.specs.Ascii.{space, colon}
use Rattle.httparse.specs.Grammar.{LineEnd, Field, RequestHead, ResponseHead, is_token, is_uri_byte, is_value_byte, reason_phrase}
use Rattle.web_heads.specs.Lines.{Line, lines_of}
use Rattle.web_heads.specs.Texts.{◌>>=◌, is_empty, cut}

-- the most fields that a head may have
abbrev pub most_fields : ℕ
most_fields = 64

-- field-line = field-name ":" field-value, with the white space around the value (RFC 9112, section 5)
unfoldable pub field_of : Line → Option Field
field_of l = do
  parts ← cut colon l.text
  if is_token parts.0 && list_all is_value_byte parts.1 then Some (record { name = parts.0; raw = parts.1; end = l.ending }) else None

-- the field lines, and the empty line that ends them (RFC 9112, section 2.1)
unfoldable pub section_of : List Line → Option (List Field × LineEnd)
section_of [] = None
section_of (l ∷ []) = if is_empty l.text then Some ([], l.ending) else None
section_of (l ∷ m ∷ lines) = do
  field ← field_of l
  section ← section_of (m ∷ lines)
  Some (field ∷ section.0, section.1)

-- the minor number of HTTP-version (RFC 9112, section 2.3): 1.0 or 1.1
unfoldable pub version_of : List ℕ → Option ℕ
version_of text =
    if bytes_eq text (codes "HTTP/1.0") then Some 0 else if bytes_eq text (codes "HTTP/1.1") then Some 1 else None

-- a request target: visible bytes that are UTF-8 (RFC 9112, section 3.2)
abbrev pub is_target : List ℕ → Bool
is_target bytes = nat_lt 0 (length bytes) && list_all is_uri_byte bytes && is_utf8 bytes

-- request-line = method SP request-target SP HTTP-version (RFC 9112, section 3)
unfoldable pub request_line_of : List ℕ → Option (List ℕ × (List ℕ × ℕ))
request_line_of text = do
  method ← cut space text
  target ← cut space method.1
  minor ← version_of target.1
  if is_token method.0 && is_target target.0 then Some (method.0, (target.0, minor)) else None

-- a request's start line and the lines after it
unfoldable pub request_from : Line → List Line → Option RequestHead
request_from l lines = do
  start ← request_line_of l.text
  section ← section_of lines
  Some (record {
    blank = [];
    method = start.0;
    target = start.1.0;
    minor = start.1.1;
    line_end = l.ending;
    fields = section.0;
    last = section.1;
  })

-- the same after any number of empty lines (RFC 9112, section 2.2)
unfoldable pub request_lines : List Line → Option RequestHead
request_lines [] = None
request_lines (l ∷ lines) =
    if is_empty l.text then option_map (λ (h : RequestHead). record h { blank = l.ending ∷ h.blank }) (request_lines lines)
    else request_from l lines

-- bytes as a request head of at most 64 fields
unfoldable pub request_tree : List ℕ → Option RequestHead
request_tree bytes = do
  lines ← lines_of bytes
  head ← request_lines lines
  if nat_le (length head.fields) most_fields then Some head else None

-- a status code and the reason phrase after it, if there is one
abbrev pub with_phrase : List ℕ → Option (List ℕ × List ℕ) → List ℕ × Option (List ℕ)
with_phrase text None = (text, None)
with_phrase text (Some parts) = (parts.0, Some parts.1)

-- three digits (RFC 9112, section 4)
abbrev pub is_code : List ℕ → Bool
is_code digits = length digits == 3 && list_all is_ascii_digit digits

-- status-line = HTTP-version SP status-code [ SP reason-phrase ] (RFC 9112, section 4)
unfoldable pub status_line_of : List ℕ → Option (ℕ × (List ℕ × Option (List ℕ)))
status_line_of text = do
  version ← cut space text
  minor ← version_of version.0
  let code = with_phrase version.1 (cut space version.1)
  if is_code code.0 && list_all is_value_byte (reason_phrase code.1) then Some (minor, code) else None

-- a response's start line and the lines after it
unfoldable pub response_from : Line → List Line → Option ResponseHead
response_from l lines = do
  start ← status_line_of l.text
  section ← section_of lines
  Some (record {
    blank = [];
    minor = start.0;
    digits = start.1.0;
    reason = start.1.1;
    line_end = l.ending;
    fields = section.0;
    last = section.1;
  })

-- the same after any number of empty lines
unfoldable pub response_lines : List Line → Option ResponseHead
response_lines [] = None
response_lines (l ∷ lines) =
    if is_empty l.text then option_map (λ (h : ResponseHead). record h { blank = l.ending ∷ h.blank }) (response_lines lines)
    else response_from l lines

-- bytes as a response head of at most 64 fields
unfoldable pub response_tree : List ℕ → Option ResponseHead
response_tree bytes = do
  lines ← lines_of bytes
  head ← response_lines lines
  if nat_le (length head.fields) most_fields then Some head else None
