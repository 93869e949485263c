-- A text reads as the same text in lower case does, so an id is read of its text in either case, and of no other text.
use Rattle.std.proofs.Common.{◌≡◌, ℕ, zero, suc, ◌+◌, ◌*◌, ◌<◌, ◌^◌, ◌==◌, Bool, true, false, if◌then◌else◌, List, [], ◌∷◌, ◌++◌, length, get_or, slice_index, map, Option, Some, None, inl, arith, refl, sym, ap, ◌∙◌, subst, true≢false}
use Rattle.std.proofs.Math.ListN.{get_or-map}
use Rattle.std.proofs.lemmas.Bool.Decides.{nat_tests}
use Rattle.std.proofs.lemmas.List.{length-map, map-append}
use Rattle.std.proofs.lemmas.Option.{same_Some}
use Rattle.std.specs.Char.{to_ascii_lowercase}
use Rattle.std.specs.Int.{w128, to_be_bytes, from_be_bytes, byte_at, bytes_high_first}
use Rattle.std.specs.List.{list_all}
use Rattle.std.specs.Bool.{then_some}
use Rattle.std.specs.Result.{result_ok}
use Rattle.std.specs.Prelude.{Result, Ok, Err, IsOk, IfOk, IsTrue, ◌↔◌, is_some}
use Rattle.std.specs.Str.{str_to_ascii_lowercase}
use Rattle.uuid.specs.Text.{by_index, lower, hyphen, parsed, parsed_hyphenated, parsed_simple, digits_of, has_hyphens, hyphen_place, is_hex_digit, value_of, byte_of_digits, hyphenated_text, hex_digit, nibble, digit_place, is_hyphen_place}
use Rattle.uuid.proofs.OrderLemmas.{from_be_bytes-to_be_bytes_16}
use Rattle.uuid.proofs.RoundTrips.{parses_hyphenated}
use Rattle.uuid.proofs.TextLemmas.{all_fit, by_index_length, by_index_cong, nibble_small}
use Rattle.session_core.specs.Ids.{id_text, IsTextOf}

-- lower case changes neither whether a byte is a digit of sixteen, nor the digit's value, nor whether it is a hyphen
is_digit_lower : (c : ℕ) → is_hex_digit (to_ascii_lowercase c) ≡ is_hex_digit c
is_digit_lower c = grind (arith, nat_tests)

value_lower : (c : ℕ) → value_of (to_ascii_lowercase c) ≡ value_of c
value_lower c = grind (arith, nat_tests)

hyphen_lower : (c : ℕ) → (to_ascii_lowercase c == 45) ≡ (c == 45)
hyphen_lower c = grind (arith, nat_tests)

-- the byte at a place of a text in lower case
at_lower : (s : List ℕ) (k : ℕ) → slice_index (str_to_ascii_lowercase s) k ≡ to_ascii_lowercase (slice_index s k)
at_lower s k = get_or-map to_ascii_lowercase s k 0

by_index-map : (n : ℕ) (f g : ℕ → ℕ) → by_index n (λ k. f (g k)) ≡ map f (by_index n g)
unfolding by_index
by_index-map zero f g = refl
by_index-map (suc n) f g =
    ap (λ (l : List ℕ). l ++ f (g n) ∷ []) (by_index-map n f g) ∙ sym (map-append f (by_index n g) (g n ∷ []))

all_digits_lower : (hex : List ℕ) → list_all is_hex_digit (str_to_ascii_lowercase hex) ≡ list_all is_hex_digit hex
all_digits_lower [] = refl
all_digits_lower (c ∷ cs) = rw (is_digit_lower c, all_digits_lower cs) refl

byte_lower : (hex : List ℕ) (j : ℕ) → byte_of_digits (str_to_ascii_lowercase hex) j ≡ byte_of_digits hex j
byte_lower hex j =
    rw (at_lower hex (2 * j), at_lower hex (2 * j + 1), value_lower (slice_index hex (2 * j)), value_lower (slice_index hex (2 * j + 1))) refl

parsed_simple-lower : (hex : List ℕ) → parsed_simple (str_to_ascii_lowercase hex) ≡ parsed_simple hex
parsed_simple-lower hex =
    rw (length-map hex to_ascii_lowercase, all_digits_lower hex, by_index_cong 16 _ _ (λ j within. byte_lower hex j)) refl

digits_of-lower : (s : List ℕ) → digits_of (str_to_ascii_lowercase s) ≡ str_to_ascii_lowercase (digits_of s)
digits_of-lower s =
    by_index_cong 32 _ _ (λ i within. at_lower s (hyphen_place i))
    ∙ by_index-map 32 to_ascii_lowercase (λ i. slice_index s (hyphen_place i))

has_hyphens-lower : (s : List ℕ) → has_hyphens (str_to_ascii_lowercase s) ≡ has_hyphens s
has_hyphens-lower s =
    rw (
      at_lower s 8,
      at_lower s 13,
      at_lower s 18,
      at_lower s 23,
      hyphen_lower (slice_index s 8),
      hyphen_lower (slice_index s 13),
      hyphen_lower (slice_index s 18),
      hyphen_lower (slice_index s 23),
    ) refl

parsed_hyphenated-lower : (s : List ℕ) → parsed_hyphenated (str_to_ascii_lowercase s) ≡ parsed_hyphenated s
parsed_hyphenated-lower s =
    rw (length-map s to_ascii_lowercase, has_hyphens-lower s, digits_of-lower s, parsed_simple-lower (digits_of s)) refl

-- of a text of 36 bytes the hyphenated form is read
parsed-long : (s : List ℕ) → length s ≡ 36 → parsed s ≡ parsed_hyphenated s
parsed-long s long = rw long refl

byte_at-lt : (k n : ℕ) → byte_at k n < 256
byte_at-lt zero n = omega arith
byte_at-lt (suc k) n = omega arith

get_or-bytes_high_first-lt : (k n i : ℕ) → get_or (bytes_high_first k n) i 0 < 256
get_or-bytes_high_first-lt zero n i = omega arith
get_or-bytes_high_first-lt (suc k) n zero = byte_at-lt k n
get_or-bytes_high_first-lt (suc k) n (suc i) = get_or-bytes_high_first-lt k n i

-- the text of a number reads as the number's bytes
parsed-id_text : (id : ℕ) → Some (to_be_bytes w128 id) ≡ parsed (id_text id)
unfolding id_text
parsed-id_text id =
    parses_hyphenated lower (to_be_bytes w128 id) (inl refl) refl
    (all_fit (to_be_bytes w128 id) (λ i within. get_or-bytes_high_first-lt 16 id i))

length-id_text : (id : ℕ) → length (id_text id) ≡ 36
unfolding id_text
length-id_text id = by_index_length 36 _

-- and so does that text in either case
pub parsed-either_case : (id : ℕ) (text : List ℕ) → str_to_ascii_lowercase text ≡ id_text id → Some (to_be_bytes w128 id) ≡ parsed text
parsed-either_case id text same =
    let long : length (str_to_ascii_lowercase text) ≡ 36 = ap length same ∙ length-id_text id in
    let plain : length text ≡ 36 = sym (length-map text to_ascii_lowercase) ∙ long in
    parsed-id_text id ∙ ap parsed (sym same) ∙ parsed-long _ long ∙ parsed_hyphenated-lower text ∙ sym (parsed-long _ plain)

-- the number that was read is that of the text
pub read_number : (id : ℕ) (text bytes : List ℕ) → IsTextOf id text → Some bytes ≡ parsed text → from_be_bytes w128 bytes ≡ id
read_number id text bytes spelled read =
    ap (from_be_bytes w128) (same_Some _ _ (read ∙ sym (parsed-either_case id text spelled.same))) ∙ from_be_bytes-to_be_bytes_16 id spelled.width

-- the answer is exactly this id
abbrev pub Exactly : List ℕ → Option ℕ → ℕ → Type 0
Exactly text answer id = (answer ≡ Some id → IsTextOf id text) × (IsTextOf id text → answer ≡ Some id)

-- a text that the parser refuses is no id's
pub refused_answer : {E : Type 0} (text : List ℕ) (parsed_as : Result (List ℕ) E) (answer : Option ℕ) (id : ℕ) → answer ≡ None
    → None ≡ result_ok parsed_as → (IsOk parsed_as ↔ ((u : List ℕ) × (parsed text ≡ Some u))) → Exactly text answer id
refused_answer text (Ok u) answer id none refused ok = absurd (true≢false (sym (ap is_some refused)))
refused_answer text (Err e) answer id none refused ok = (
  (λ is. absurd (true≢false (sym (ap is_some (sym none ∙ is))))),
  λ spelled. absurd (true≢false (sym (ok.1 (to_be_bytes w128 id, sym (parsed-either_case id text spelled.same))))),
)

-- what the parser read
read_as : {E : Type 0} (text u : List ℕ) (parsed_as : Result (List ℕ) E) → Some u ≡ result_ok parsed_as → IfOk parsed_as (λ v. Some v ≡ parsed text)
    → Some u ≡ parsed text
read_as text u (Ok v) is read = is ∙ read
read_as text u (Err e) is read = absurd (true≢false (ap is_some is))

-- the text of a number is in lower case
lower_digit : (b : Bool) (d : ℕ) → d < 16
    → to_ascii_lowercase (if b then hyphen else hex_digit lower d) ≡ (if b then hyphen else hex_digit lower d)
lower_digit true d small = refl
lower_digit false d small = grind (arith, nat_tests)

lower_text : (xs : List ℕ) → str_to_ascii_lowercase (hyphenated_text lower xs) ≡ hyphenated_text lower xs
lower_text xs =
    sym (by_index-map 36 to_ascii_lowercase (λ k. if is_hyphen_place k then hyphen else hex_digit lower (nibble xs (digit_place k))))
    ∙ by_index_cong 36 _ _ (λ k within. lower_digit (is_hyphen_place k) (nibble xs (digit_place k)) (nibble_small xs (digit_place k)))

lower-id_text : (id : ℕ) → str_to_ascii_lowercase (id_text id) ≡ id_text id
unfolding id_text
lower-id_text id = lower_text (to_be_bytes w128 id)

-- the answer is the number whose text this is
spelled_by : (text u : List ℕ) (same : Bool) (number id : ℕ) → Some u ≡ parsed text → number ≡ from_be_bytes w128 u → number < 2 ^ 128
    → (IsTrue same ↔ (str_to_ascii_lowercase (id_text number) ≡ str_to_ascii_lowercase text)) → Exactly text (then_some same number) id
spelled_by text u true number id read is fits test = (
  (λ e. let same : number ≡ id = same_Some _ _ e in
      record { width = subst (λ (n : ℕ). n < 2 ^ 128) same fits; same = sym (test.0 refl) ∙ lower-id_text number ∙ ap id_text same }),
  λ spelled. ap Some (is ∙ read_number id text u spelled read),
)
spelled_by text u false number id read is fits test = (
  (λ e. absurd (true≢false (sym (ap is_some e)))),
  λ spelled. absurd (true≢false (sym (test.1
      (lower-id_text number ∙ ap id_text (is ∙ read_number id text u spelled read) ∙ sym spelled.same)))),
)

pub spelled_answer : {E : Type 0} (text u bytes spelled : List ℕ) (parsed_as : Result (List ℕ) E) (same : Bool) (number : ℕ) (answer : Option ℕ) (id : ℕ)
    → Some u ≡ result_ok parsed_as → IfOk parsed_as (λ v. Some v ≡ parsed text) → bytes ≡ to_be_bytes w128 number
    → spelled ≡ hyphenated_text lower bytes
    → (IsTrue same ↔ (str_to_ascii_lowercase spelled ≡ str_to_ascii_lowercase text)) → number ≡ from_be_bytes w128 u → number < 2 ^ 128
    → answer ≡ then_some same number → Exactly text answer id
unfolding id_text
spelled_answer text u bytes spelled parsed_as same number answer id is read form written test is_number fits is_answer =
    let spells : spelled ≡ id_text number = written ∙ ap (hyphenated_text lower) form in
    rw is_answer (spelled_by text u same number id (read_as text u parsed_as is read) is_number fits
    (subst (λ (t : List ℕ). IsTrue same ↔ (str_to_ascii_lowercase t ≡ str_to_ascii_lowercase text)) spells test))

-- a text is that of at most one id
pub one_id : (a b : ℕ) (text : List ℕ) → IsTextOf a text → IsTextOf b text → a ≡ b
one_id a b text of_a of_b =
    sym (read_number a text (to_be_bytes w128 b) of_a (parsed-either_case b text of_b.same)) ∙ from_be_bytes-to_be_bytes_16 b of_b.width
