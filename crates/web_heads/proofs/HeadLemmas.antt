-- A head's meaning is that of the tree which its spans were read from.
use Rattle.std.proofs.Common.{◌≡◌, ℕ, Bool, true, false, List, take, map, sym, ap, ◌∙◌, Some, None, Err}
use Rattle.std.specs.Prelude.{nat_lt}
use Rattle.std.proofs.lemmas.Bool.{both_ways, false_from_ne_true, ltb-true, lt-ltb, cond-true, cond-false}
use Rattle.httparse.specs.declared.spans.HeaderSpan.{HeaderSpan}
use Rattle.httparse.specs.declared.spans.RequestSpans.{RequestSpans}
use Rattle.httparse.specs.declared.spans.ResponseSpans.{ResponseSpans}
use Rattle.httparse.specs.Grammar as grammar
use Rattle.httparse.specs.Spans.{span_bytes, header_bytes, IsRequestAt, IsResponseAt}
use Rattle.web_heads.specs.declared.fault.HeadFault.TheVariants.{TooManyHeaders, BadHead}
use Rattle.web_heads.specs.Trees.{most_fields, request_tree, response_tree}
use Rattle.web_heads.specs.Fields.{NameValue, inner_lines}
use Rattle.web_heads.specs.Requests.{request_of, request_of_tree, request_head}
use Rattle.web_heads.specs.Responses.{response_of, response_of_tree, response_head}
use Rattle.web_heads.specs.Standard.{HasManyLines}

-- too many lines
abbrev pub is_long : List ℕ → Bool
is_long bytes = nat_lt most_fields (inner_lines bytes)

pub not_many : (bytes : List ℕ) → is_long bytes ≡ false → ¬ (HasManyLines bytes)
not_many bytes short many = both_ways (is_long bytes) short (lt-ltb most_fields (inner_lines bytes) many)

pub is_short : (bytes : List ℕ) → ¬ (HasManyLines bytes) → is_long bytes ≡ false
is_short bytes few = false_from_ne_true (is_long bytes) (λ long. few (ltb-true most_fields (inner_lines bytes) long))

-- ---- requests

pub request_head-long : (bytes : List ℕ) → is_long bytes ≡ true → request_head bytes ≡ Err TooManyHeaders
unfolding request_head
request_head-long bytes long = cond-true (is_long bytes) (Err TooManyHeaders) (request_of_tree (request_tree bytes)) long

pub request_head-short : (bytes : List ℕ) → is_long bytes ≡ false → request_head bytes ≡ request_of_tree (request_tree bytes)
unfolding request_head
request_head-short bytes short = cond-false (is_long bytes) (Err TooManyHeaders) (request_of_tree (request_tree bytes)) short

pub request_head-none : (bytes : List ℕ) → is_long bytes ≡ false → request_tree bytes ≡ None → request_head bytes ≡ Err BadHead
request_head-none bytes short none = request_head-short bytes short ∙ ap request_of_tree none

pub request_head-read : (bytes : List ℕ) (headers : List HeaderSpan) (spans : RequestSpans) (method target : List ℕ) (fields : List NameValue)
    → is_long bytes ≡ false → (h : grammar.RequestHead) × (request_tree bytes ≡ Some h) × IsRequestAt bytes headers spans h
    → method ≡ span_bytes bytes spans.method → target ≡ span_bytes bytes spans.path
    → fields ≡ map (header_bytes bytes) (take spans.headers headers) → request_of method target fields ≡ request_head bytes
request_head-read bytes headers spans method target fields short x method_is target_is fields_are =
    ap (λ (m : List ℕ). request_of m target fields) (method_is ∙ x.2.method)
    ∙ ap (λ (t : List ℕ). request_of x.0.method t fields) (target_is ∙ x.2.path)
    ∙ ap (λ (fs : List NameValue). request_of x.0.method x.0.target fs) (fields_are ∙ x.2.fields)
    ∙ sym (request_head-short bytes short ∙ ap request_of_tree x.1)

-- ---- responses

pub response_head-long : (bytes : List ℕ) → is_long bytes ≡ true → response_head bytes ≡ Err TooManyHeaders
unfolding response_head
response_head-long bytes long = cond-true (is_long bytes) (Err TooManyHeaders) (response_of_tree (response_tree bytes)) long

pub response_head-short : (bytes : List ℕ) → is_long bytes ≡ false → response_head bytes ≡ response_of_tree (response_tree bytes)
unfolding response_head
response_head-short bytes short = cond-false (is_long bytes) (Err TooManyHeaders) (response_of_tree (response_tree bytes)) short

pub response_head-none : (bytes : List ℕ) → is_long bytes ≡ false → response_tree bytes ≡ None → response_head bytes ≡ Err BadHead
response_head-none bytes short none = response_head-short bytes short ∙ ap response_of_tree none

pub response_head-read : (bytes : List ℕ) (headers : List HeaderSpan) (spans : ResponseSpans) (fields : List NameValue)
    → is_long bytes ≡ false → (h : grammar.ResponseHead) × (response_tree bytes ≡ Some h) × IsResponseAt bytes headers spans h
    → fields ≡ map (header_bytes bytes) (take spans.headers headers) → response_of spans.code fields ≡ response_head bytes
response_head-read bytes headers spans fields short x fields_are =
    ap (λ (code : ℕ). response_of code fields) x.2.code
    ∙ ap (λ (fs : List NameValue). response_of (grammar.status_code x.0) fs) (fields_are ∙ x.2.fields)
    ∙ sym (response_head-short bytes short ∙ ap response_of_tree x.1)
