-- The texts of ids.
use Rattle.std.specs.Prelude.{◌≡◌, ℕ, ◌<◌, ◌^◌, List}
use Rattle.std.specs.Int.{w128, to_be_bytes}
use Rattle.std.specs.Str.{str_to_ascii_lowercase}
use Rattle.uuid.specs.Text.{hyphenated_text, lower}

-- the text of a 128-bit number: hexadecimal digits in lower case, in groups of 8, 4, 4, 4 and 12 with hyphens between them (RFC 9562,
-- section 4)
unfoldable pub id_text : ℕ → List ℕ
id_text id = hyphenated_text lower (to_be_bytes w128 id)

-- the text is that of the id, with its digits in either case
pub record IsTextOf (id : ℕ) (text : List ℕ) : Type 0 where
  pub width : id < 2 ^ 128
  pub same : str_to_ascii_lowercase text ≡ id_text id
