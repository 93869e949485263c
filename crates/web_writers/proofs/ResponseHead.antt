-- The head of a response as it is written, as a tree of the grammar.
use Rattle.std.proofs.Common.{◌≡◌, ℕ, ◌≤◌, true, List, [], ◌∷◌, length, refl, sym, ap, ◌∙◌, arith, append-nil, inr, Some, None, Ok, codes}
use Rattle.std.proofs.Common.{lit≤}
use Rattle.std.specs.List.{All}
use Rattle.std.specs.Char.{is_ascii_digit}
use Rattle.std.proofs.lemmas.List.Elements.{All-nil, All-cons}
use Rattle.std.proofs.lemmas.List.Sums.{AllPass-from_list_all}
use Rattle.httparse.specs.Grammar as grammar
use Rattle.web_heads.specs.declared.body.BodyKind.TheVariants.{Chunks}
use Rattle.web_heads.specs.Fields.{values, first_value, inner_lines}
use Rattle.web_heads.specs.Standard.{HasManyLines, HasGrpcType, response_fields, ResponseSays}
use Rattle.web_head_reader.specs.Standard.{IsHead}
use Rattle.web_writers.specs.Responses.{head_text}
use Rattle.web_writers.proofs.Fields.{is_field, grpc_type}
use Rattle.web_writers.proofs.Lines.{head_of, first_end, feeds, feeds-lines}

unfoldable pub tree : grammar.ResponseHead
tree = record {
  blank = [];
  minor = 1;
  digits = codes "200";
  reason = Some (codes "OK");
  line_end = grammar.crlf;
  fields =
      (record { name = codes "content-type"; raw = codes " application/grpc-web+proto"; end = grammar.crlf })
      ∷ (record { name = codes "connection"; raw = codes " close"; end = grammar.crlf })
      ∷ (record { name = codes "transfer-encoding"; raw = codes " chunked"; end = grammar.crlf })
      ∷ [];
  last = grammar.crlf;
}

abbrev later_lines : List (List ℕ)
later_lines = codes "content-type: application/grpc-web+proto" ∷ codes "connection: close" ∷ codes "transfer-encoding: chunked" ∷ []

printed : grammar.print_response tree ≡ head_text
unfolding tree head_text grammar.print_response
printed = refl

in_lines : head_text ≡ head_of (codes "HTTP/1.1 200 OK" ∷ later_lines)
unfolding head_text
in_lines = refl

short_text : length head_text ≤ 16384
unfolding head_text
short_text = lit≤ tt

pub is_head : IsHead head_text
is_head = record {
  ends = rw in_lines (first_end (codes "HTTP/1.1 200 OK") later_lines refl);
  short = short_text;
}

few_lines : ¬ (HasManyLines head_text)
unfolding inner_lines
few_lines many =
    let counted = ap feeds in_lines ∙ feeds-lines (codes "HTTP/1.1 200 OK" ∷ later_lines) refl in
    absurd (omega arith)

three : {a b c : grammar.Field} → grammar.IsField a → grammar.IsField b → grammar.IsField c → All grammar.IsField (a ∷ b ∷ c ∷ [])
three {a} {b} {c} xa xb xc =
    All-cons grammar.IsField a (b ∷ c ∷ []) xa
    (All-cons grammar.IsField b (c ∷ []) xb (All-cons grammar.IsField c [] xc (All-nil grammar.IsField)))

is_response_head : grammar.IsResponseHead tree
unfolding tree grammar.is_token_byte
is_response_head = record {
  minor = lit≤ tt;
  digits = (refl, AllPass-from_list_all is_ascii_digit (codes "200") refl);
  reason = AllPass-from_list_all grammar.is_value_byte (codes "OK") refl;
  fields =
      three (is_field (codes "content-type") (codes " application/grpc-web+proto") refl refl)
      (is_field (codes "connection") (codes " close") refl refl)
      (is_field (codes "transfer-encoding") (codes " chunked") refl refl);
}

content_type : first_value (codes "content-type") (response_fields tree) ≡ Some (codes "application/grpc-web+proto")
unfolding tree values grammar.trim_ows
content_type = refl

has_grpc_type : HasGrpcType (response_fields tree)
has_grpc_type = record { value = codes "application/grpc-web+proto"; first = content_type; type = inr grpc_type }

no_length : values (codes "content-length") (response_fields tree) ≡ []
unfolding tree values
no_length = refl

codings : values (codes "transfer-encoding") (response_fields tree) ≡ codes "chunked" ∷ []
unfolding tree values grammar.trim_ows
codings = refl

no_status : first_value (codes "grpc-status") (response_fields tree) ≡ None
unfolding tree values
no_status = refl

no_message : first_value (codes "grpc-message") (response_fields tree) ≡ None
unfolding tree values
no_message = refl

the_status : grammar.status_code tree ≡ 200
unfolding tree
the_status = refl

few_fields : length tree.fields ≤ 64
unfolding tree
few_fields = lit≤ tt

pub says : ResponseSays head_text (Ok (record { status = 200; body = Chunks; has_grpc_type = true; grpc_status = None; grpc_message = None }))
says = (
  tree,
  record {
    short = few_lines;
    reads = (is_response_head, sym (append-nil (grammar.print_response tree) ∙ printed));
    few = few_fields;
  },
  record {
    status = sym the_status;
    right = λ _. has_grpc_type;
    type = ((λ _. has_grpc_type), (λ _. refl));
    body = (no_length, record { value = codes "chunked"; only = codings; chunked = refl });
    grpc_status = sym no_status;
    grpc_message = sym no_message;
  },
)
