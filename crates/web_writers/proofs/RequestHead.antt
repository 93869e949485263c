-- The head of a request as it is written, as a tree of the grammar.
use Rattle.std.proofs.Common.{◌≡◌, ℕ, ◌^◌, ◌<◌, ◌≤◌, Bool, true, false, List, [], ◌∷◌, ◌++◌, length, reverse, refl, sym, ap, ◌∙◌, arith, append_assoc, append-nil, length-append, inr, Some, Ok, codes}
use Rattle.std.specs.List.{All, list_all}
use Rattle.std.specs.Fmt.{decimal}
use Rattle.std.proofs.Common.{lit<, lit≤}
use Rattle.std.proofs.lemmas.Bool.{and_from, cond-false}
use Rattle.std.proofs.lemmas.List.{reverse-append, reverse-reverse}
use Rattle.std.proofs.lemmas.Bool.Decides.{nat_tests}
use Rattle.std.proofs.lemmas.List.Elements.{All-nil, All-cons, All-head, All-tail, All-append, All-weaker}
use Rattle.std.proofs.lemmas.List.Sums.{AllPass-from_list_all}
use Rattle.std.proofs.lemmas.List.Folds.{list_all-append}
use Rattle.std.proofs.lemmas.Fmt.{length-decimal-le}
use Rattle.std.proofs.lemmas.Str.{IsUtf8-from_ascii}
use Rattle.std.proofs.lemmas.Str.Ascii.{IsAscii-from_all}
use Rattle.httparse.specs.Grammar as grammar
use Rattle.web_heads.specs.declared.body.BodyKind.TheVariants.{Length}
use Rattle.web_heads.specs.Fields.{inner_lines, values, first_value}
use Rattle.web_heads.specs.Standard.{HasManyLines, FramesAs, request_fields, RequestSays}
use Rattle.web_head_reader.specs.Standard.{IsHead}
use Rattle.web_frames.proofs.WrittenLemmas.{IsDigit, IsDecimal-decimal, decimal_digits}
use Rattle.web_writers.specs.Requests.{IsVisibleText, head_text}
use Rattle.web_writers.proofs.Fields.{is_field, grpc_type}
use Rattle.web_writers.proofs.Lines.{head_of, is_plain, is_line, first_end, feeds, feeds-lines}

-- the tree of the head
unfoldable pub tree : List ℕ → List ℕ → ℕ → grammar.RequestHead
tree path host count = record {
  blank = [];
  method = codes "POST";
  target = path;
  minor = 1;
  line_end = grammar.crlf;
  fields =
      (record { name = codes "host"; raw = codes " " ++ host; end = grammar.crlf })
      ∷ (record { name = codes "content-type"; raw = codes " application/grpc-web+proto"; end = grammar.crlf })
      ∷ (record { name = codes "accept"; raw = codes " application/grpc-web+proto"; end = grammar.crlf })
      ∷ (record { name = codes "x-grpc-web"; raw = codes " 1"; end = grammar.crlf })
      ∷ (record { name = codes "connection"; raw = codes " close"; end = grammar.crlf })
      ∷ (record { name = codes "content-length"; raw = codes " " ++ decimal count; end = grammar.crlf })
      ∷ [];
  last = grammar.crlf;
}

-- its lines
abbrev pub later_lines : List ℕ → ℕ → List (List ℕ)
later_lines host count =
    (codes "host: " ++ host)
    ∷ codes "content-type: application/grpc-web+proto"
    ∷ codes "accept: application/grpc-web+proto"
    ∷ codes "x-grpc-web: 1"
    ∷ codes "connection: close"
    ∷ (codes "content-length: " ++ decimal count)
    ∷ []

abbrev pub lines : List ℕ → List ℕ → ℕ → List (List ℕ)
lines path host count = (codes "POST " ++ (path ++ codes " HTTP/1.1")) ∷ later_lines host count

-- ---- its bytes

after_digits : (digits : List ℕ) → ((digits ++ 13 ∷ 10 ∷ []) ++ []) ++ 13 ∷ 10 ∷ [] ≡ digits ++ 13 ∷ 10 ∷ 13 ∷ 10 ∷ []
after_digits digits = append_assoc (digits ++ 13 ∷ 10 ∷ []) [] (13 ∷ 10 ∷ []) ∙ append_assoc digits (13 ∷ 10 ∷ []) (13 ∷ 10 ∷ [])

after_text : (text rest last : List ℕ) → ((text ++ 13 ∷ 10 ∷ []) ++ rest) ++ last ≡ text ++ 13 ∷ 10 ∷ (rest ++ last)
after_text text rest last = append_assoc (text ++ 13 ∷ 10 ∷ []) rest last ∙ append_assoc text (13 ∷ 10 ∷ []) (rest ++ last)

after_path : (path version rest : List ℕ) → ((path ++ version) ++ 13 ∷ 10 ∷ []) ++ rest ≡ path ++ (version ++ 13 ∷ 10 ∷ rest)
after_path path version rest = append_assoc (path ++ version) (13 ∷ 10 ∷ []) rest ∙ append_assoc path version (13 ∷ 10 ∷ rest)

pub printed : (path host : List ℕ) (count : ℕ) → grammar.print_request (tree path host count) ≡ head_text path host count
unfolding tree head_text grammar.print_request
printed path host count =
    ap (λ (rest : List ℕ). codes "POST " ++ rest)
    (after_path path (codes " HTTP/1.1") _
    ∙ ap (λ (rest : List ℕ). path ++ (codes " HTTP/1.1\r\nhost: " ++ rest))
    (after_text host _ (13 ∷ 10 ∷ [])
    ∙ ap (λ (rest : List ℕ). host ++ (codes "\r\ncontent-type: application/grpc-web+proto\r\naccept: application/grpc-web+proto\r\nx-grpc-web: 1\r\nconnection: close\r\ncontent-length: " ++ rest))
    (after_digits (decimal count))))

pub in_lines : (path host : List ℕ) (count : ℕ) → head_text path host count ≡ head_of (lines path host count)
unfolding head_text
in_lines path host count =
    ap (λ (rest : List ℕ). codes "POST " ++ rest) (sym (append_assoc path (codes " HTTP/1.1") (13 ∷ 10 ∷ _)))

-- ---- visible texts

abbrev IsVisible : ℕ → Type 0
IsVisible b = (0x21 ≤ b) × (b ≤ 0x7E)

-- a test that visible bytes pass
passes : (test : ℕ → Bool) → ((b : ℕ) → IsVisible b → test b ≡ true) → (text : List ℕ) → All IsVisible text → list_all test text ≡ true
passes test holds [] all = refl
passes test holds (b ∷ text) all =
    and_from (test b) (list_all test text) (holds b (All-head IsVisible b text all)) (passes test holds text (All-tail IsVisible b text all))

visible_plain : (b : ℕ) → IsVisible b → is_plain b ≡ true
visible_plain b x = grind (arith, nat_tests)

visible_uri : (b : ℕ) → IsVisible b → grammar.is_uri_byte b ≡ true
visible_uri b x = grind (arith, nat_tests)

visible_value : (b : ℕ) → IsVisible b → grammar.is_value_byte b ≡ true
visible_value b x = grind (arith, nat_tests)

visible_no_space : (b : ℕ) → IsVisible b → grammar.is_ows b ≡ false
visible_no_space b x = grind (arith, nat_tests)

visible_ascii : (b : ℕ) → IsVisible b → b < 128
visible_ascii b x = omega arith

-- ---- digits

digit_visible : (b : ℕ) → (48 ≤ b) × (b ≤ 57) → IsVisible b
digit_visible b x = (omega arith, omega arith)

pub digits_visible : (n : ℕ) → n < 2 ^ 64 → All IsVisible (decimal n)
digits_visible n fits =
    All-weaker IsDigit IsVisible digit_visible (decimal n) (decimal_digits n fits)

-- ---- its end

is_lines : (path host : List ℕ) (count : ℕ) → All IsVisible path → All IsVisible host → count < 2 ^ 64
    → list_all is_line (lines path host count) ≡ true
is_lines path host count path_visible host_visible fits =
    let first : list_all is_plain (path ++ codes " HTTP/1.1") ≡ true
    = list_all-append is_plain path (codes " HTTP/1.1") ∙ and_from (list_all is_plain path) true (passes is_plain visible_plain path path_visible) refl in
    let second = passes is_plain visible_plain host host_visible in
    let last = passes is_plain visible_plain (decimal count) (digits_visible count fits) in
    and_from (list_all is_plain (path ++ codes " HTTP/1.1")) _ first
    (and_from (list_all is_plain host) _ second (and_from (list_all is_plain (decimal count)) true last refl))

short_text : (path host : List ℕ) (count : ℕ) → length path ≤ 1024 → length host ≤ 1024 → count < 2 ^ 64 → length (head_text path host count) ≤ 16384
unfolding head_text
short_text path host count x y fits =
    let few = length-decimal-le 20 count (omega arith) (omega arith) fits in
    let first = length-append path (codes " HTTP/1.1\r\nhost: " ++ (host
    ++ (codes "\r\ncontent-type: application/grpc-web+proto\r\naccept: application/grpc-web+proto\r\nx-grpc-web: 1\r\nconnection: close\r\ncontent-length: "
    ++ (decimal count ++ codes "\r\n\r\n")))) in
    let second = length-append host
    (codes "\r\ncontent-type: application/grpc-web+proto\r\naccept: application/grpc-web+proto\r\nx-grpc-web: 1\r\nconnection: close\r\ncontent-length: "
    ++ (decimal count ++ codes "\r\n\r\n")) in
    let third = length-append (decimal count) (codes "\r\n\r\n") in
    omega arith

pub is_head : (path host : List ℕ) (count : ℕ) → IsVisibleText path → IsVisibleText host → count < 2 ^ 64 → IsHead (head_text path host count)
is_head path host count x y fits =
    let all = is_lines path host count x.visible y.visible fits in
    record {
      ends = rw (in_lines path host count) (first_end (codes "POST " ++ (path ++ codes " HTTP/1.1")) (later_lines host count) all);
      short = short_text path host count x.short y.short fits;
    }

-- ---- what it says

pub few_lines : (path host : List ℕ) (count : ℕ) → IsVisibleText path → IsVisibleText host → count < 2 ^ 64 → ¬ (HasManyLines (head_text path host count))
unfolding inner_lines
few_lines path host count x y fits many =
    let counted = ap feeds (in_lines path host count) ∙ feeds-lines (lines path host count) (is_lines path host count x.visible y.visible fits) in
    absurd (omega arith)

six : {a b c d e f : grammar.Field} → grammar.IsField a → grammar.IsField b → grammar.IsField c → grammar.IsField d → grammar.IsField e
    → grammar.IsField f → All grammar.IsField (a ∷ b ∷ c ∷ d ∷ e ∷ f ∷ [])
six {a} {b} {c} {d} {e} {f} xa xb xc xd xe xf =
    All-cons grammar.IsField a (b ∷ c ∷ d ∷ e ∷ f ∷ []) xa
    (All-cons grammar.IsField b (c ∷ d ∷ e ∷ f ∷ []) xb
    (All-cons grammar.IsField c (d ∷ e ∷ f ∷ []) xc
    (All-cons grammar.IsField d (e ∷ f ∷ []) xd
    (All-cons grammar.IsField e (f ∷ []) xe (All-cons grammar.IsField f [] xf (All-nil grammar.IsField))))))

is_request_head : (path host : List ℕ) (count : ℕ) → IsVisibleText path → IsVisibleText host → count < 2 ^ 64 → grammar.IsRequestHead (tree path host count)
unfolding tree grammar.is_token_byte
is_request_head path host count x y fits = record {
  method = (lit< tt, AllPass-from_list_all grammar.is_token_byte (codes "POST") refl);
  target = (x.some, AllPass-from_list_all grammar.is_uri_byte path (passes grammar.is_uri_byte visible_uri path x.visible));
  target_text = IsUtf8-from_ascii path (IsAscii-from_all path (All-weaker IsVisible (λ b. b < 128) visible_ascii path x.visible));
  minor = lit≤ tt;
  fields =
      six (is_field (codes "host") (codes " " ++ host) refl (passes grammar.is_value_byte visible_value host y.visible))
      (is_field (codes "content-type") (codes " application/grpc-web+proto") refl refl)
      (is_field (codes "accept") (codes " application/grpc-web+proto") refl refl)
      (is_field (codes "x-grpc-web") (codes " 1") refl refl)
      (is_field (codes "connection") (codes " close") refl refl)
      (is_field (codes "content-length") (codes " " ++ decimal count) refl
      (passes grammar.is_value_byte visible_value (decimal count) (digits_visible count fits)));
}

-- ---- the fields

skip_visible : (text : List ℕ) → All IsVisible text → grammar.skip_ows text ≡ text
skip_visible [] all = refl
skip_visible (b ∷ text) all =
    cond-false (grammar.is_ows b) (grammar.skip_ows text) (b ∷ text) (visible_no_space b (All-head IsVisible b text all))

All-reverse : (text : List ℕ) → All IsVisible text → All IsVisible (reverse text)
All-reverse [] all = All-nil IsVisible
All-reverse (b ∷ text) all =
    rw (reverse-append (b ∷ []) text)
    (All-append IsVisible (reverse text) (b ∷ []) (All-reverse text (All-tail IsVisible b text all))
    (All-cons IsVisible b [] (All-head IsVisible b text all) (All-nil IsVisible)))

trim_visible : (text : List ℕ) → All IsVisible text → grammar.trim_ows (32 ∷ text) ≡ text
unfolding grammar.trim_ows
trim_visible text all =
    ap (λ (t : List ℕ). reverse (grammar.skip_ows (reverse t))) (skip_visible text all)
    ∙ ap reverse (skip_visible (reverse text) (All-reverse text all)) ∙ reverse-reverse text

content_length : (path host : List ℕ) (count : ℕ) → values (codes "content-length") (request_fields (tree path host count)) ≡ grammar.trim_ows (32 ∷ decimal count) ∷ []
unfolding tree values
content_length path host count = refl

transfer_encoding : (path host : List ℕ) (count : ℕ) → values (codes "transfer-encoding") (request_fields (tree path host count)) ≡ []
unfolding tree values
transfer_encoding path host count = refl

content_type : (path host : List ℕ) (count : ℕ)
    → first_value (codes "content-type") (request_fields (tree path host count)) ≡ Some (codes "application/grpc-web+proto")
unfolding tree values grammar.trim_ows
content_type path host count = refl

frames_as : (path host : List ℕ) (count : ℕ) → count < 2 ^ 62 → FramesAs (request_fields (tree path host count)) (Length count)
frames_as path host count fits =
    let lengths = content_length path host count ∙ ap (λ (v : List ℕ). v ∷ []) (trim_visible (decimal count) (digits_visible count (omega arith))) in
    let codings = transfer_encoding path host count in (
      record { value = decimal count; only = lengths; number = IsDecimal-decimal count (omega arith); fits = omega arith },
      rw codings (omega arith),
      rw codings (λ x. absurd (let none : [] ≡ x.value ∷ [] = x.only in cc)),
    )

the_method : (path host : List ℕ) (count : ℕ) → (tree path host count).method ≡ codes "POST"
unfolding tree
the_method path host count = refl

the_target : (path host : List ℕ) (count : ℕ) → (tree path host count).target ≡ path
unfolding tree
the_target path host count = refl

few_fields : (path host : List ℕ) (count : ℕ) → length (tree path host count).fields ≤ 64
unfolding tree
few_fields path host count = lit≤ tt

-- the head of a request says its path, and how many bytes its body has
pub says : (path host : List ℕ) (count : ℕ) → IsVisibleText path → IsVisibleText host → count < 2 ^ 62
    → RequestSays (head_text path host count) (Ok (record { path = path; body = Length count }))
says path host count x y fits =
    let h = tree path host count in
    let many : count < 2 ^ 64 = omega arith in (
      h,
      record {
        short = few_lines path host count x y many;
        reads = (is_request_head path host count x y many, sym (append-nil (grammar.print_request h) ∙ printed path host count));
        few = few_fields path host count;
      },
      record {
        method = the_method path host count;
        type = record { value = codes "application/grpc-web+proto"; first = content_type path host count; type = inr grpc_type };
        path = sym (the_target path host count);
        body = frames_as path host count fits;
        framed = λ e. cc;
      },
    )
