-- How much may be made of a stream. Where no two names and no two buffers share bytes, each cell has a bit of its own among the stream's
-- bytes, and each byte of a name or a text is one of them.
use Rattle.std.specs.Prelude.{ℕ, ◌*◌, ◌-◌, ◌^◌, ◌==◌, ◌≤◌, max, min, if◌then◌else◌, List, length, sum_by}
use Rattle.cn_types.specs.declared.row.Row.{Row}
use Rattle.cn_types.specs.declared.schema.Field.{Field}
use Rattle.cn_types.specs.declared.schema.Schema.{Schema}
use Rattle.arrow_ipc.specs.Columns.{text_size}
use Rattle.arrow_ipc.specs.Stream.{names_and_texts}

-- the bytes of all names, and of all texts
abbrev pub names_size : List Field → ℕ
names_size fields = sum_by (λ field. length field.name) fields

abbrev pub row_texts : Row → ℕ
row_texts row = sum_by text_size row.0

abbrev pub texts_size : List Row → ℕ
texts_size rows = sum_by row_texts rows

-- the cells of a row; one without cells counts as one
abbrev pub width : Schema → ℕ
width schema = max 1 (length schema.0)

-- so many cells as the bytes have bits, or 4,194,305; so many rows where there is no column
unfoldable pub most_cells : List ℕ → Schema → ℕ
most_cells bytes schema = if length schema.0 == 0 then 4194305 else max (min (8 * length bytes) (2 ^ 64 - 1)) 4194305

-- so many bytes of names and texts as there are bytes, or 64 MiB
unfoldable pub most_texts : List ℕ → ℕ
most_texts bytes = max (length bytes) 67108864

-- what is made of the bytes is a small multiple of them, or is small
pub record IsBounded (bytes : List ℕ) (schema : Schema) (rows : List Row) : Type 0 where
  pub cells : width schema * length rows ≤ most_cells bytes schema
  pub texts : names_and_texts schema rows ≤ most_texts bytes
