-- Response ids are UUIDs of version 8, whose layout RFC 9562 leaves to the application apart from version and variant.
use Rattle.std.specs.Prelude.{ℕ, ◌+◌, ◌*◌, ◌/◌, ◌%◌, ◌^◌, ◌<◌, ◌≤◌, ◌≡◌, List}
use Rattle.std.specs.Int.{w128, to_be_bytes}
use Rattle.uuid.specs.Text.{hyphenated_text, lower}
use Rattle.response_buffer.specs.declared.response_id.ResponseId.{ResponseId}

-- the 128-bit number of an id, from the highest bit: 48 bits boot word, 4 bits version 8, 12 zero bits, 2 bits variant 10, 32 bits
-- execution number, 30 bits place (RFC 9562, section 5.8)
abbrev pub response_id : ℕ → ℕ → ℕ → ℕ
response_id boot number place = boot * 2 ^ 80 + 8 * 2 ^ 76 + 2 * 2 ^ 62 + number * 2 ^ 30 + place

-- the text of a 128-bit number: its sixteen bytes, hyphenated and in lower case (RFC 9562, section 4)
unfoldable pub uuid_text : ℕ → List ℕ
uuid_text n = hyphenated_text lower (to_be_bytes w128 n)

-- the number and the text of an id
abbrev pub number_of : ResponseId → ℕ
number_of id = response_id id.boot id.number id.place

abbrev pub text_of : ResponseId → List ℕ
text_of id = uuid_text (number_of id)

-- each field of an id fits its bits
pub record Fits (id : ResponseId) : Type 0 where
  pub boot : id.boot < 2 ^ 48
  pub number : id.number < 2 ^ 32
  pub place : id.place < 2 ^ 30

-- the bits that every id of a response has, in a 128-bit number: version 8 (RFC 9562, section 4.2), twelve zero bits, variant 10
-- (section 4.1), and a place of at least 1
pub record IsResponseId (n : ℕ) : Type 0 where
  pub width : n < 2 ^ 128
  pub version : n / 2 ^ 76 % 2 ^ 4 ≡ 8
  pub zeros : n / 2 ^ 64 % 2 ^ 12 ≡ 0
  pub variant : n / 2 ^ 62 % 2 ^ 2 ≡ 2
  pub place : 1 ≤ n % 2 ^ 30

-- a text that is the hyphenated lower-case form of such a number
abbrev pub IsResponseIdText : List ℕ → Type 0
IsResponseIdText text = (n : ℕ) × (text ≡ uuid_text n) × IsResponseId n

-- ids whose fields fit have the same number only where they are the same
abbrev pub NumbersDiffer : Type 0
NumbersDiffer = (a b : ResponseId) → Fits a → Fits b → number_of a ≡ number_of b → a ≡ b

-- ids whose fields fit have the same text only where they are the same
abbrev pub TextsDiffer : Type 0
TextsDiffer = (a b : ResponseId) → Fits a → Fits b → text_of a ≡ text_of b → a ≡ b
