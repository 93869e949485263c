-- A refused response that is written is read back.
use Rattle.std.proofs.Common.{◌≡◌, ◌≢◌, ℕ, ◌<◌, ◌≤◌, true, false, List, [], ◌∷◌, ◌++◌, length, fold, refl, sym, ap, ◌∙◌, subst, arith, append-nil, inl, inr, Some, None, Ok, codes}
use Rattle.std.proofs.Common.{lit<, lit≤}
use Rattle.std.specs.Prelude.{is_some}
use Rattle.std.specs.List.{All, concat, list_all}
use Rattle.std.specs.Char.{is_ascii_digit}
use Rattle.std.specs.Str.Parse.{digits_value}
use Rattle.std.specs.Fmt.{decimal, digits}
use Rattle.std.proofs.lemmas.Bool.{false≢true}
use Rattle.std.proofs.lemmas.List.Elements.{All-nil, All-cons, All-append}
use Rattle.std.proofs.lemmas.List.Sums.{AllPass-from_list_all}
use Rattle.httparse.specs.Grammar as grammar
use Rattle.web_heads.specs.declared.body.BodyKind.TheVariants.{Length}
use Rattle.web_heads.specs.declared.response.ResponseHead.{ResponseHead}
use Rattle.web_heads.specs.Fields.{values, first_value, inner_lines}
use Rattle.web_heads.specs.Standard.{HasManyLines, HasGrpcType, IsChunked, response_fields, ResponseSays}
use Rattle.web_head_reader.specs.Standard.{IsHead}
use Rattle.web_head_reader.proofs.Read as heads
use Rattle.web_bodies.proofs.Growth.{length_framed}
use Rattle.web_frames.specs.declared.limits.Side.TheVariants.{Response}
use Rattle.web_frames.specs.Standard.{IsBytes}
use Rattle.web_contents.specs.declared.place.ContentPlace.TheVariants.{Over}
use Rattle.web_contents.specs.Standard.{HasContent}
use Rattle.web_responses.specs.Answers.{begin, after, events_of, standing, answer_in}
use Rattle.web_responses.specs.Standard.{HasAnswer, BeginsAnswer, within_head}
use Rattle.web_responses.specs.Laws.{events_of_pieces}
use Rattle.web_responses.proofs.Read as answers
use Rattle.web_writers.specs.Responses.{phrase_of, refused_text}
use Rattle.web_writers.proofs.Bytes.{closed_bytes}
use Rattle.web_writers.proofs.Fields.{is_field}
use Rattle.web_writers.proofs.Lines.{head_of, is_line, first_end, feeds, feeds-lines}
use Rattle.grpc_web.specs.Laws.{IsRefusal, refusal_events, RefusalsAreReadBack}
use Rattle.grpc_web.proofs.ReadBack.{place_of, told_of}

-- the head as a tree of the grammar
unfoldable pub tree : List ℕ → List ℕ → grammar.ResponseHead
tree digits phrase = record {
  blank = [];
  minor = 1;
  digits = digits;
  reason = Some phrase;
  line_end = grammar.crlf;
  fields =
      (record { name = codes "connection"; raw = codes " close"; end = grammar.crlf })
      ∷ (record { name = codes "content-length"; raw = codes " 0"; end = grammar.crlf })
      ∷ [];
  last = grammar.crlf;
}

abbrev lines : List ℕ → List ℕ → List (List ℕ)
lines digits phrase =
    (codes "HTTP/1.1 " ++ (digits ++ (codes " " ++ phrase))) ∷ codes "connection: close" ∷ codes "content-length: 0" ∷ []

-- what is computed of a status, whose digits and phrase these are
record IsComputed (status : ℕ) (digits phrase : List ℕ) : Type 0 where
  printed : grammar.print_response (tree digits phrase) ≡ refused_text status
  in_lines : refused_text status ≡ head_of (lines digits phrase)
  plain : list_all is_line (lines digits phrase) ≡ true
  short : length (refused_text status) ≤ 16384
  three : length digits ≡ 3
  decimals : list_all is_ascii_digit digits ≡ true
  value : digits_value 10 digits ≡ status
  visible : list_all grammar.is_value_byte phrase ≡ true
  bytes : IsBytes (refused_text status)
  other : status ≢ 200

is_head : {status : ℕ} {digits phrase : List ℕ} → IsComputed status digits phrase → IsHead (refused_text status)
is_head {status} {digits} {phrase} x = record {
  ends = rw x.in_lines (first_end (codes "HTTP/1.1 " ++ (digits ++ (codes " " ++ phrase))) (codes "connection: close" ∷ codes "content-length: 0" ∷ []) x.plain);
  short = x.short;
}

few_lines : {status : ℕ} {digits phrase : List ℕ} → IsComputed status digits phrase → ¬ (HasManyLines (refused_text status))
unfolding inner_lines
few_lines {status} {digits} {phrase} x many =
    let counted = ap feeds x.in_lines ∙ feeds-lines (lines digits phrase) x.plain in
    absurd (omega arith)

two : {a b : grammar.Field} → grammar.IsField a → grammar.IsField b → All grammar.IsField (a ∷ b ∷ [])
two {a} {b} xa xb = All-cons grammar.IsField a (b ∷ []) xa (All-cons grammar.IsField b [] xb (All-nil grammar.IsField))

is_response_head : {status : ℕ} {digits phrase : List ℕ} → IsComputed status digits phrase → grammar.IsResponseHead (tree digits phrase)
unfolding tree grammar.is_token_byte
is_response_head {status} {digits} {phrase} x = record {
  minor = lit≤ tt;
  digits = (x.three, AllPass-from_list_all is_ascii_digit digits x.decimals);
  reason = AllPass-from_list_all grammar.is_value_byte phrase x.visible;
  fields = two (is_field (codes "connection") (codes " close") refl refl) (is_field (codes "content-length") (codes " 0") refl refl);
}

no_type : (digits phrase : List ℕ) → first_value (codes "content-type") (response_fields (tree digits phrase)) ≡ None
unfolding tree values
no_type digits phrase = refl

the_length : (digits phrase : List ℕ) → values (codes "content-length") (response_fields (tree digits phrase)) ≡ codes "0" ∷ []
unfolding tree values grammar.trim_ows
the_length digits phrase = refl

no_codings : (digits phrase : List ℕ) → values (codes "transfer-encoding") (response_fields (tree digits phrase)) ≡ []
unfolding tree values
no_codings digits phrase = refl

no_status : (digits phrase : List ℕ) → first_value (codes "grpc-status") (response_fields (tree digits phrase)) ≡ None
unfolding tree values
no_status digits phrase = refl

no_message : (digits phrase : List ℕ) → first_value (codes "grpc-message") (response_fields (tree digits phrase)) ≡ None
unfolding tree values
no_message digits phrase = refl

the_digits : (digits phrase : List ℕ) → grammar.status_code (tree digits phrase) ≡ digits_value 10 digits
unfolding tree
the_digits digits phrase = refl

few_fields : (digits phrase : List ℕ) → length (tree digits phrase).fields ≤ 64
unfolding tree
few_fields digits phrase = lit≤ tt

not_typed : (digits phrase : List ℕ) → ¬ (HasGrpcType (response_fields (tree digits phrase)))
not_typed digits phrase typed = false≢true (ap is_some (sym (no_type digits phrase) ∙ typed.first))

not_chunked : ¬ (IsChunked [])
not_chunked chunked = let e = ap (λ (codings : List (List ℕ)). length codings) chunked.only in absurd (omega arith)

said_of : ℕ → ResponseHead
said_of status = record { status = status; body = Length 0; has_grpc_type = false; grpc_status = None; grpc_message = None }

says : {status : ℕ} {digits phrase : List ℕ} → IsComputed status digits phrase → ResponseSays (refused_text status) (Ok (said_of status))
unfolding said_of
says {status} {digits} {phrase} x = (
  tree digits phrase,
  record {
    short = few_lines x;
    reads = (is_response_head x, sym (append-nil (grammar.print_response (tree digits phrase)) ∙ x.printed));
    few = few_fields digits phrase;
  },
  record {
    status = sym (the_digits digits phrase ∙ x.value);
    right = λ e. absurd (x.other e);
    type = ((λ t. absurd (false≢true t)), (λ typed. absurd (not_typed digits phrase typed)));
    body = (
      record {
        value = codes "0";
        only = the_length digits phrase;
        number = record { some = lit< tt; digits = AllPass-from_list_all is_ascii_digit (codes "0") refl; value = refl };
        fits = omega arith;
      },
      few_codings digits phrase,
      subst (λ codings. ¬ (IsChunked codings)) (sym (no_codings digits phrase)) not_chunked,
    );
    grpc_status = sym (no_status digits phrase);
    grpc_message = sym (no_message digits phrase);
  },
)
  where
    few_codings : (digits phrase : List ℕ) → length (values (codes "transfer-encoding") (response_fields (tree digits phrase))) ≤ 1
    few_codings digits phrase = rw (no_codings digits phrase) (omega arith)

no_body : (rest : List ℕ) → HasContent Response (Length 0) rest [] None
no_body rest = record {
  payload = [];
  body = record { framed = length_framed 0; body = []; rest = rest; bytes_are = refl; is_body = (refl, refl) };
  frames = record { front = []; back = []; whole = refl; first = refl; last = refl; few = tt };
  enough = tt;
}

has_answer : {status : ℕ} {digits phrase : List ℕ} (rest : List ℕ) → IsComputed status digits phrase → HasAnswer (refused_text status ++ rest) (refusal_events status)
unfolding said_of
has_answer {status} rest x = record {
  head = refused_text status;
  rest = rest;
  r = said_of status;
  trailers = None;
  more = [];
  opening = record { bytes_are = refl; is_head = is_head x; says = says x; in_head = refl };
  body = ([], None, no_body rest, refl);
  told_is = refl;
}

-- ---- the statuses

abbrev Computed : ℕ → Type 0
Computed status = IsComputed status (decimal status) (phrase_of status)

computed_400 : Computed 400
unfolding tree refused_text phrase_of digits grammar.print_response
computed_400 = record {
  printed = refl;
  in_lines = refl;
  plain = refl;
  short = lit≤ tt;
  three = refl;
  decimals = refl;
  value = refl;
  visible = refl;
  bytes = closed_bytes (refused_text 400) refl;
  other = λ e. absurd (omega arith);
}

computed_405 : Computed 405
unfolding tree refused_text phrase_of digits grammar.print_response
computed_405 = record {
  printed = refl;
  in_lines = refl;
  plain = refl;
  short = lit≤ tt;
  three = refl;
  decimals = refl;
  value = refl;
  visible = refl;
  bytes = closed_bytes (refused_text 405) refl;
  other = λ e. absurd (omega arith);
}

computed_413 : Computed 413
unfolding tree refused_text phrase_of digits grammar.print_response
computed_413 = record {
  printed = refl;
  in_lines = refl;
  plain = refl;
  short = lit≤ tt;
  three = refl;
  decimals = refl;
  value = refl;
  visible = refl;
  bytes = closed_bytes (refused_text 413) refl;
  other = λ e. absurd (omega arith);
}

computed_415 : Computed 415
unfolding tree refused_text phrase_of digits grammar.print_response
computed_415 = record {
  printed = refl;
  in_lines = refl;
  plain = refl;
  short = lit≤ tt;
  three = refl;
  decimals = refl;
  value = refl;
  visible = refl;
  bytes = closed_bytes (refused_text 415) refl;
  other = λ e. absurd (omega arith);
}

computed : (status : ℕ) → IsRefusal status → Computed status
computed status (inl e) = subst Computed (sym e) computed_400
computed status (inr (inl e)) = subst Computed (sym e) computed_405
computed status (inr (inr (inl e))) = subst Computed (sym e) computed_413
computed status (inr (inr (inr e))) = subst Computed (sym e) computed_415

-- ---- the law

said : (status : ℕ) (rest : List ℕ) → IsRefusal status → HasAnswer (refused_text status ++ rest) (refusal_events status)
said status rest x = has_answer rest (computed status x)

read_back : (status : ℕ) (rest : List ℕ) → IsRefusal status → IsBytes rest
    → ((answer_in (refused_text status ++ rest)).place ≡ Over) × ((answer_in (refused_text status ++ rest)).told ≡ refusal_events status)
read_back status rest x others =
    (answers.answers_are_read.whole (refused_text status ++ rest) (refusal_events status)
    (All-append (λ b. b < 256) (refused_text status) rest (computed status x).bytes others)).0
    (said status rest x)

in_pieces : (status : ℕ) (pieces : List (List ℕ)) → IsRefusal status → concat pieces ≡ refused_text status
    → (standing (fold after begin pieces) ≡ Over) × (events_of_pieces begin pieces ≡ refusal_events status)
in_pieces status pieces x e =
    let bytes = refused_text status in
    let found = read_back status [] x (All-nil (λ b. b < 256)) in
    let whole = ap (λ (b : List ℕ). (answer_in b).place) (sym (append-nil bytes)) ∙ found.0 in
    let told = ap (λ (b : List ℕ). (answer_in b).told) (sym (append-nil bytes)) ∙ found.1 in (
      ap standing (answers.pieces_join.state begin pieces ∙ ap (after begin) e) ∙ sym (place_of bytes) ∙ whole,
      answers.pieces_join.told begin pieces ∙ ap (events_of begin) e ∙ sym (told_of bytes) ∙ told,
    )

cut_off : (status : ℕ) (front back : List ℕ) → IsRefusal status → back ≢ [] → front ++ back ≡ refused_text status → BeginsAnswer front []
cut_off status front [] x some e = absurd (some refl)
cut_off status front (b ∷ back) x some e =
    within_head (heads.ends_are_first.whole front b back (subst IsHead (sym e) (is_head (computed status x)))) refl

pub refusals_are_read_back : RefusalsAreReadBack
refusals_are_read_back = record { said = said; read_back = read_back; in_pieces = in_pieces; cut_off = cut_off }
