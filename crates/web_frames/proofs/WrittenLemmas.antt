-- What is written of trailers is read as these trailers.
use Rattle.std.proofs.Common.{◌≡◌, ◌≢◌, ℕ, ◌+◌, ◌/◌, ◌%◌, ◌^◌, ◌<◌, ◌≤◌, Bool, true, false, not, cond, ◌&&◌, eqb, ltb, leb, List, [], ◌∷◌, ◌++◌, get_or, codes, All, IsUtf8, refl, sym, ap, ◌∙◌, subst, inl, inr, append_assoc, append-nil, Some, None, arith}
use Rattle.std.specs.Prelude.{option_and_then}
use Rattle.std.specs.List.{list_all}
use Rattle.std.specs.Char.{is_ascii_digit, digit_value}
use Rattle.std.specs.Fmt.{decimal, digit_glyph}
use Rattle.std.specs.Str.Lossy.{utf8_lossy}
use Rattle.std.specs.Str.Parse.{AllDigits}
use Rattle.std.proofs.lemmas.Bool.{not-false, ltb-true, cond_both, and_parts, leb-true, false≢true}
use Rattle.std.proofs.lemmas.Bool.Decides.{nat_tests}
use Rattle.std.proofs.lemmas.Fmt.{decimal_is_IsNumeral}
use Rattle.std.proofs.lemmas.List.Elements.{All-nil, All-cons, All-head, All-tail, All-append, All-weaker}
use Rattle.std.proofs.lemmas.Str.{utf8_lossy-IsUtf8}
use lib.Utf8.{scalar, scalars, encode, encodes, next, scalar_cases}
use Rattle.percent_encoding.specs.AsciiSet.{should_percent_encode}
use Rattle.percent_encoding.specs.Percent.{percent_decode, percent_encode_byte, percent_sign}
use Rattle.percent_encoding.proofs.PercentLemmas.{IsByte, IsEscapeByte, All-percent_encode, round_trip}
use Rattle.web_heads.specs.Standard.{IsDecimal}
use Rattle.web_frames.specs.declared.writing.TheConstants.{ESCAPED}
use Rattle.web_frames.specs.Lines.{carriage_return, line_feed, colon, space, value_of, value_if_named}
use Rattle.web_frames.specs.Trailers.{is_kept, escaped, trailers_text, line_end}
use Rattle.web_frames.specs.Standard.{IsLine, AreLines, FollowsColon, close, GivesValue, LacksName, TrailersSay}
use Rattle.web_frames.specs.Laws.{HasNoSpaceFirst, WrittenTrailersAreRead}
use Rattle.web_frames.proofs.LineLemmas.{IsLine-nil}
use Rattle.web_frames.proofs.ValueLemmas.{Lacks, Lacks-nil, Lacks-cons, cut-lacking, LacksName-nil, LacksName-cons, none_given, value_of-nil}
use Rattle.web_frames.proofs.TrailerLemmas.{trailers_in-TrailersSay}
use Rattle.web_frames.proofs.WritingLemmas.{escapes, percent_encode-escaped}

-- ---- bytes that a text lacks

Lacks-All : (stop : ℕ) (P : ℕ → Type 0) → ¬ P stop → (text : List ℕ) → All P text → Lacks stop text
Lacks-All stop P never [] all = Lacks-nil stop
Lacks-All stop P never (b ∷ text) all =
    Lacks-cons stop b text (λ same. never (subst P same (All-head P b text all))) (Lacks-All stop P never text (All-tail P b text all))

Lacks-list_all : (stop : ℕ) (test : ℕ → Bool) → test stop ≡ false → (text : List ℕ) → list_all test text ≡ true → Lacks stop text
Lacks-list_all stop test fails [] all = Lacks-nil stop
Lacks-list_all stop test fails (b ∷ text) all =
    let parts = and_parts (test b) (list_all test text) all in
    Lacks-cons stop b text (λ same. false≢true (sym fails ∙ sym (ap test same) ∙ parts.0)) (Lacks-list_all stop test fails text parts.1)

IsLine-Lacks : (line : List ℕ) → Lacks carriage_return line → IsLine line
IsLine-Lacks line lacks front back = lacks front (line_feed ∷ back)

abbrev IsPrinted : ℕ → Type 0
IsPrinted b = 32 ≤ b

no_return : ¬ IsPrinted carriage_return
no_return h = absurd (omega arith)

printed_codes : (text : List ℕ) → list_all (leb 32) text ≡ true → All IsPrinted text
printed_codes [] all = All-nil IsPrinted
printed_codes (b ∷ text) all = let parts = and_parts (leb 32 b) (list_all (leb 32) text) all in All-cons IsPrinted b text (leb-true 32 b parts.0) (printed_codes text parts.1)

-- ---- the status

abbrev pub IsDigit : ℕ → Type 0
IsDigit b = (48 ≤ b) × (b ≤ 57)

digit_range : (b : ℕ) → digit_value b < 10 → IsDigit b
digit_range b small = grind (arith, nat_tests)

All-AllDigits : (digits : List ℕ) → AllDigits 10 digits → All IsDigit digits
All-AllDigits [] all = All-nil IsDigit
All-AllDigits (b ∷ digits) all = All-cons IsDigit b digits (digit_range b all.0) (All-AllDigits digits all.1)

is_digit_from : (b : ℕ) → IsDigit b → is_ascii_digit b ≡ true
is_digit_from b range = grind (arith, nat_tests)

pub IsDecimal-decimal : (n : ℕ) → n < 2 ^ 64 → IsDecimal (decimal n) n
IsDecimal-decimal n fits =
    let numeral = decimal_is_IsNumeral n fits in
    record {
      some = numeral.0.0;
      digits = All-weaker IsDigit (λ b. is_ascii_digit b ≡ true) is_digit_from (decimal n) (All-AllDigits (decimal n) numeral.0.1);
      value = sym numeral.1;
    }

pub decimal_digits : (n : ℕ) → n < 2 ^ 64 → All IsDigit (decimal n)
decimal_digits n fits = let numeral = decimal_is_IsNumeral n fits in All-AllDigits (decimal n) numeral.0.1

no_space_digits : (digits : List ℕ) → All IsDigit digits → HasNoSpaceFirst digits
no_space_digits [] all rest e = cc
no_space_digits (b ∷ digits) all rest e = let first : b ≡ space = cc in let range = All-head IsDigit b digits all in absurd (omega (arith, range.0))

-- ---- the message

next_small : (n : ℕ) → IsByte (next n)
next_small n = omega arith

scalar_small : (c : ℕ) → scalar c ≡ true → c < 1114112
scalar_small c e = elim (scalar_cases c e) [ inl low ↦ omega arith | inr high ↦ omega (arith, high.1) ]

bytes_encode : (c : ℕ) → scalar c ≡ true → All IsByte (encode c)
unfolding encode
bytes_encode c e =
    let small = scalar_small c e in
    let nil = All-nil IsByte in
    let one = next c ∷ [] in
    let two = next (c / 64) ∷ one in
    let three = next (c / 4096) ∷ two in
    let all_one = All-cons IsByte (next c) [] (next_small c) nil in
    let all_two = All-cons IsByte (next (c / 64)) one (next_small (c / 64)) all_one in
    let all_three = All-cons IsByte (next (c / 4096)) two (next_small (c / 4096)) all_two in
    cond_both (ltb c 128) (c ∷ []) (cond (ltb c 2048) ((192 + c / 64) ∷ one) (cond (ltb c 65536) ((224 + c / 4096) ∷ two) ((240 + c / 262144) ∷ three))) (All IsByte)
    (λ t. All-cons IsByte c [] (let h = ltb-true c 128 t in omega arith) nil)
    (λ _. cond_both (ltb c 2048) ((192 + c / 64) ∷ one) (cond (ltb c 65536) ((224 + c / 4096) ∷ two) ((240 + c / 262144) ∷ three)) (All IsByte)
    (λ t. All-cons IsByte (192 + c / 64) one (let h = ltb-true c 2048 t in omega arith) all_one)
    (λ _. cond_both (ltb c 65536) ((224 + c / 4096) ∷ two) ((240 + c / 262144) ∷ three) (All IsByte)
    (λ t. All-cons IsByte (224 + c / 4096) two (let h = ltb-true c 65536 t in omega arith) all_two)
    (λ _. All-cons IsByte (240 + c / 262144) three (omega arith) all_three)))

bytes_encodes : (chars : List ℕ) → scalars chars ≡ true → All IsByte (encodes chars)
bytes_encodes [] e = All-nil IsByte
bytes_encodes (c ∷ chars) e =
    let parts = and_parts (scalar c) (scalars chars) e in
    All-append IsByte (encode c) (encodes chars) (bytes_encode c parts.0) (bytes_encodes chars parts.1)

bytes_utf8 : (text : List ℕ) → IsUtf8 text → All IsByte text
bytes_utf8 text is = subst (All IsByte) is.1.1 (bytes_encodes is.0 is.1.0)

-- the message's escapes read again
message_back : (message : List ℕ) → IsUtf8 message → utf8_lossy (percent_decode (escaped message)) ≡ message
message_back message is =
    ap (λ (text : List ℕ). utf8_lossy (percent_decode text)) (sym (percent_encode-escaped message))
    ∙ ap utf8_lossy (round_trip ESCAPED message refl (bytes_utf8 message is))
    ∙ utf8_lossy-IsUtf8 message is

kept_printed : (b : ℕ) → should_percent_encode ESCAPED b ≡ false → IsPrinted b
kept_printed b e =
    let kept : is_kept b ≡ true = not-false (is_kept b) (sym (escapes b) ∙ e) in
    let both = and_parts (leb 32 b && leb b 126) (not (eqb b 37)) kept in
    leb-true 32 b (and_parts (leb 32 b) (leb b 126) both.0).0

escape_printed : (b : ℕ) → IsEscapeByte b → IsPrinted b
escape_printed b h = grind arith

escaped_printed : (message : List ℕ) → All IsPrinted (escaped message)
escaped_printed message = subst (All IsPrinted) (percent_encode-escaped message) (All-percent_encode IsPrinted ESCAPED message kept_printed escape_printed)

percent_no_space : (text rest : List ℕ) → percent_sign ∷ text ≢ space ∷ rest
percent_no_space text rest e = let first : percent_sign ≡ space = ap (λ (bytes : List ℕ). get_or bytes 0 0) e in absurd (omega (arith, first))

no_space_escaped : (message : List ℕ) → HasNoSpaceFirst message → HasNoSpaceFirst (escaped message)
unfolding escaped percent_encode_byte
no_space_escaped [] none rest e = cc
no_space_escaped (b ∷ message) none rest e = cond_both (is_kept b) (b ∷ []) (percent_encode_byte b) (λ front. front ++ escaped message ≢ space ∷ rest)
    (λ kept is. let first : b ≡ space = cc in none message (ap (λ (c : ℕ). c ∷ message) first))
    (λ kept is. percent_no_space (digit_glyph true (b / 16 % 16) ∷ digit_glyph true (b % 16) ∷ [] ++ escaped message) rest is) e

-- ---- lines

FollowsColon-no_space : (value : List ℕ) → HasNoSpaceFirst value → FollowsColon value value
FollowsColon-no_space value none = close none refl

no_colon_status : Lacks colon (codes "grpc-status")
no_colon_status = Lacks-list_all colon (λ b. not (eqb b colon)) refl (codes "grpc-status") refl

no_colon_message : Lacks colon (codes "grpc-message")
no_colon_message = Lacks-list_all colon (λ b. not (eqb b colon)) refl (codes "grpc-message") refl

status_gives : (value : List ℕ) → HasNoSpaceFirst value → GivesValue (codes "grpc-status") (codes "grpc-status:" ++ value) value
status_gives value none = record {
  own = codes "grpc-status";
  line_is = record { rest = value; whole = refl; first = no_colon_status; follows = FollowsColon-no_space value none };
  same = refl;
}

message_gives : (value : List ℕ) → HasNoSpaceFirst value → GivesValue (codes "grpc-message") (codes "grpc-message:" ++ value) value
message_gives value none = record {
  own = codes "grpc-message";
  line_is = record { rest = value; whole = refl; first = no_colon_message; follows = FollowsColon-no_space value none };
  same = refl;
}

status_is_no_message : (value : List ℕ) → value_of (codes "grpc-message") (codes "grpc-status:" ++ value) ≡ None
unfolding value_of
status_is_no_message value = ap (option_and_then (value_if_named (codes "grpc-message"))) (cut-lacking colon (codes "grpc-status") value no_colon_status)

empty_gives_none : (name value : List ℕ) → ¬ GivesValue name [] value
empty_gives_none name = none_given name [] (value_of-nil name)

no_message_status : (value : List ℕ) → LacksName (codes "grpc-message") ((codes "grpc-status:" ++ value) ∷ [])
no_message_status value =
    LacksName-cons (codes "grpc-message") (codes "grpc-status:" ++ value) [] (none_given (codes "grpc-message") (codes "grpc-status:" ++ value) (status_is_no_message value)) (LacksName-nil (codes "grpc-message"))

no_message_lines : (value : List ℕ) → LacksName (codes "grpc-message") ((codes "grpc-status:" ++ value) ∷ [] ∷ [])
no_message_lines value =
    LacksName-cons (codes "grpc-message") (codes "grpc-status:" ++ value) ([] ∷ []) (none_given (codes "grpc-message") (codes "grpc-status:" ++ value) (status_is_no_message value))
    (LacksName-cons (codes "grpc-message") [] [] (empty_gives_none (codes "grpc-message")) (LacksName-nil (codes "grpc-message")))

status_line : (value : List ℕ) → All IsPrinted value → IsLine (codes "grpc-status:" ++ value)
status_line value all =
    IsLine-Lacks (codes "grpc-status:" ++ value) (Lacks-All carriage_return IsPrinted no_return (codes "grpc-status:" ++ value)
    (All-append IsPrinted (codes "grpc-status:") value (printed_codes (codes "grpc-status:") refl) all))

message_is_line : (value : List ℕ) → All IsPrinted value → IsLine (codes "grpc-message:" ++ value)
message_is_line value all =
    IsLine-Lacks (codes "grpc-message:" ++ value) (Lacks-All carriage_return IsPrinted no_return (codes "grpc-message:" ++ value)
    (All-append IsPrinted (codes "grpc-message:") value (printed_codes (codes "grpc-message:") refl) all))

-- ---- the whole

text_lines_silent : (value : List ℕ) → All IsPrinted value → AreLines (codes "grpc-status:" ++ value ++ line_end ++ []) ((codes "grpc-status:" ++ value) ∷ [] ∷ [])
text_lines_silent value all = (status_line value all, ([], append-nil (codes "grpc-status:" ++ value ++ line_end) ∙ refl, (IsLine-nil, refl)))

text_lines : (value message : List ℕ) → All IsPrinted value → All IsPrinted message
    → AreLines (codes "grpc-status:" ++ value ++ line_end ++ (codes "grpc-message:" ++ message ++ line_end))
    ((codes "grpc-status:" ++ value) ∷ (codes "grpc-message:" ++ message) ∷ [] ∷ [])
text_lines value message all every = (
  status_line value all,
  (
    codes "grpc-message:" ++ message ++ line_end,
    append_assoc (codes "grpc-status:" ++ value) line_end (codes "grpc-message:" ++ message ++ line_end),
    (message_is_line message every, ([], refl, (IsLine-nil, refl))),
  ),
)

printed_digits : (n : ℕ) → n < 2 ^ 32 → All IsPrinted (decimal n)
printed_digits n fits = All-weaker IsDigit IsPrinted (λ b range. omega (arith, range.0)) (decimal n) (decimal_digits n (omega arith))

says_text : (status : ℕ) (message : List ℕ) → status < 2 ^ 32 → IsUtf8 message → HasNoSpaceFirst message
    → TrailersSay (trailers_text (record { status = status; message = message })) (record { status = status; message = message })
unfolding trailers_text
says_text status [] fits is none = record {
  lines = (codes "grpc-status:" ++ decimal status) ∷ [] ∷ [];
  whole = text_lines_silent (decimal status) (printed_digits status fits);
  status = decimal status;
  status_is = record {
    front = [];
    line = codes "grpc-status:" ++ decimal status;
    back = [] ∷ [];
    whole = refl;
    gives = status_gives (decimal status) (no_space_digits (decimal status) (decimal_digits status (omega arith)));
    first = LacksName-nil (codes "grpc-status");
  };
  message = None;
  message_is = no_message_lines (decimal status);
  values = record { number = IsDecimal-decimal status (omega arith); fits = fits; text = refl };
}
says_text status (b ∷ message) fits is none =
    let text = b ∷ message in
    record {
      lines = (codes "grpc-status:" ++ decimal status) ∷ (codes "grpc-message:" ++ escaped text) ∷ [] ∷ [];
      whole = text_lines (decimal status) (escaped text) (printed_digits status fits) (escaped_printed text);
      status = decimal status;
      status_is = record {
        front = [];
        line = codes "grpc-status:" ++ decimal status;
        back = (codes "grpc-message:" ++ escaped text) ∷ [] ∷ [];
        whole = refl;
        gives = status_gives (decimal status) (no_space_digits (decimal status) (decimal_digits status (omega arith)));
        first = LacksName-nil (codes "grpc-status");
      };
      message = Some (escaped text);
      message_is = record {
        front = (codes "grpc-status:" ++ decimal status) ∷ [];
        line = codes "grpc-message:" ++ escaped text;
        back = [] ∷ [];
        whole = refl;
        gives = message_gives (escaped text) (no_space_escaped text none);
        first = no_message_status (decimal status);
      };
      values = record { number = IsDecimal-decimal status (omega arith); fits = fits; text = sym (message_back text is) };
    }

pub written_trailers : WrittenTrailersAreRead
written_trailers trailers fits is none =
    let says = says_text trailers.status trailers.message fits is none in (says, trailers_in-TrailersSay (trailers_text trailers) trailers says)
